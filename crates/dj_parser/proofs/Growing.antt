-- Tables that grow keep what values stand for.
use Rattle.std.proofs.Common.{◌≡◌, ◌-◌, ◌^◌, ◌<◌, List, [], ◌++◌, length, ap, ◌∙◌, length-append, arith}
use Rattle.std.specs.Prelude.{All}
use Rattle.std.specs.Str.{IsUtf8}
use Rattle.std.proofs.lemmas.List.Elements.{All-nil}
use Rattle.dj_tree.specs.WellFormed.{IsFormulaNode, IsExprNode}
use Rattle.arena_walk.specs.declared.arena.NodeId.{NodeId}
use Rattle.dj_names.specs.Texts.{Text}
use Rattle.dj_names.proofs.Extending.{extends_reflexive, extends_transitive}
use Rattle.dj_tree.proofs.Growing.{kept_spot, known_later, kept_expr, kept_formula, keeps_reflexive, keeps_transitive}
use Rattle.dj_tree.specs.Trees as plain
use Rattle.dj_tree.specs.declared.declarations.Spot.{Spot}
use Rattle.dj_parser.specs.Growth.{AreKnown, CanSay, Grew}
use Rattle.dj_parser.specs.Resolved.{IsSpotFor, IsExprFor, IsFormulaFor}
use Rattle.dj_parser.specs.declared.tables.Tables.{Tables}
use Rattle.dj_parser.proofs.SaidLemmas.{All-front, All-back}

-- ---- growing

pub grew_not : {t : Tables} → AreKnown t → Grew t t []
grew_not {t = t} known =
    record {
      known = known;
      names = extends_reflexive t.names;
      formulas = keeps_reflexive t.formulas;
      exprs = keeps_reflexive t.exprs;
      few_names = omega arith;
      few_formulas = omega arith;
      few_exprs = omega arith;
    }

pub grew_then : {a b c : Tables} {s t : List Text} → Grew a b s → Grew b c t → Grew a c (s ++ t)
grew_then {a = a} {b = b} {c = c} {s = s} {t = t} p q =
    record {
      known = q.known;
      names = extends_transitive a.names b.names c.names p.names q.names;
      formulas = keeps_transitive a.formulas b.formulas c.formulas p.formulas q.formulas;
      exprs = keeps_transitive a.exprs b.exprs c.exprs p.exprs q.exprs;
      few_names = omega (arith, length-append s t);
      few_formulas = omega (arith, length-append s t);
      few_exprs = omega (arith, length-append s t);
    }

-- the first of two, and what is left behind it
pub can_first : {t : Tables} {a : List Text} (b : List Text) → CanSay t (a ++ b) → CanSay t a
can_first {t = t} {a = a} b can =
    record {
      known = can.known;
      utf8 = All-front IsUtf8 a b can.utf8;
      names = omega (arith, can.names, length-append a b);
      formulas = omega (arith, can.formulas, length-append a b);
      exprs = omega (arith, can.exprs, length-append a b);
    }

pub can_then : {old new : Tables} {a : List Text} (b : List Text) → CanSay old (a ++ b) → Grew old new a → CanSay new b
can_then {a = a} b can grew =
    record {
      known = grew.known;
      utf8 = All-back IsUtf8 a b can.utf8;
      names = omega (arith, can.names, grew.few_names, length-append a b);
      formulas = omega (arith, can.formulas, grew.few_formulas, length-append a b);
      exprs = omega (arith, can.exprs, grew.few_exprs, length-append a b);
    }

-- empty tables have room for texts that are not too many
pub can_start : {t : Tables} {texts : List Text} → t.names ≡ [] → t.formulas ≡ [] → t.exprs ≡ [] → All IsUtf8 texts → length texts < 2 ^ 32 - 1 → CanSay t texts
can_start {t = t} {texts = texts} a b c utf8 room =
    record {
      known = record { formulas = rw b (All-nil (IsFormulaNode t.names)); exprs = rw c (All-nil (IsExprNode t.names)) };
      utf8 = utf8;
      names = omega (arith, ap length a, room);
      formulas = omega (arith, ap length b, room);
      exprs = omega (arith, ap length c, room);
    }

-- ---- values in tables that grew

module _ (old new : Tables) (texts : List Text) (known : AreKnown old) (grew : Grew old new texts) where
  pub spot_stays : {value : Spot} {x : plain.Spot} → IsSpotFor old value x → IsSpotFor new value x
  spot_stays {value = value} is =
      record { same = kept_spot old.names new.names value grew.names is.well ∙ is.same; well = known_later old.names new.names value grew.names is.well }

  pub expr_stays : {root : NodeId} {x : plain.Expr} → IsExprFor old root x → IsExprFor new root x
  expr_stays {root = root} is =
      record {
        same = kept_expr old.names new.names old.exprs new.exprs root.0 grew.names grew.exprs known.exprs is.well ∙ is.same;
        well = omega (arith, is.well, ap length grew.exprs.1, length-append old.exprs grew.exprs.0);
      }

  pub formula_stays : {root : NodeId} {x : plain.Formula} → IsFormulaFor old root x → IsFormulaFor new root x
  formula_stays {root = root} is =
      record {
        same = kept_formula old.names new.names old.formulas new.formulas root.0 grew.names grew.formulas known.formulas is.well ∙ is.same;
        well = omega (arith, is.well, ap length grew.formulas.1, length-append old.formulas grew.formulas.0);
      }
