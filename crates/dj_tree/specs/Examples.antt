-- Worked examples of the grammar. Where a grouping is shown, that no other is spelled follows since tokens spell at most one tree.
use Rattle.std.specs.Prelude.{ℕ, List, [], ◌∷◌, None, codes}
use Rattle.dj_names.specs.Texts.{Text}
use Rattle.dj_lexer.specs.Symbols.{Symbol}
use Rattle.dj_lexer.specs.declared.token.Dialect.{Dialect}
use Rattle.dj_tree.specs.Words.{word, sign, named, IsName}
use Rattle.dj_tree.specs.FormulaGrammar.{SpellsFormula}
use Rattle.dj_tree.specs.ExprGrammar.{SpellsExpr}
use Rattle.dj_tree.specs.Spells.{Spells}
use Rattle.dj_tree.specs.Trees.{Spot, Expr, Source, feature, negation, conjunction, disjunction, implication, equivalence, variable, field_of, cast_to, assignment}
use Rattle.dj_tree.specs.Trees.{adds_class}

abbrev pub spot : Text → ℕ → Spot
spot text at = record { text = text; at = at }

-- line L { features A; valid A; part p { D; } } delta D { adds class C { } }
abbrev pub line_tokens : List Symbol
line_tokens =
    word (codes "line") 0 ∷ word (codes "L") 5 ∷ sign (codes "{") 7 ∷ word (codes "features") 9 ∷ word (codes "A") 18 ∷ sign (codes ";") 19
    ∷ word (codes "valid") 21 ∷ word (codes "A") 27 ∷ sign (codes ";") 28 ∷ word (codes "part") 30 ∷ word (codes "p") 35 ∷ sign (codes "{") 37
    ∷ word (codes "D") 39 ∷ sign (codes ";") 40 ∷ sign (codes "}") 42 ∷ sign (codes "}") 44 ∷ word (codes "delta") 46 ∷ word (codes "D") 52
    ∷ sign (codes "{") 54 ∷ word (codes "adds") 56 ∷ word (codes "class") 61 ∷ word (codes "C") 67 ∷ sign (codes "{") 69 ∷ sign (codes "}") 71
    ∷ sign (codes "}") 73 ∷ []

abbrev pub line_source : Source
line_source =
    record {
      title = spot (codes "L") 5;
      features = spot (codes "A") 18 ∷ [];
      valid = feature (spot (codes "A") 27);
      parts = record { name = spot (codes "p") 35; after = None; items = record { delta = spot (codes "D") 39; condition = None } ∷ [] } ∷ [];
      deltas =
          record {
            name = spot (codes "D") 52;
            operations = adds_class (record { name = spot (codes "C") 67; parent = None; fields = []; methods = [] }) ∷ [];
          }
          ∷ [];
    }

abbrev pub ALine : Type 0
ALine = Spells line_tokens line_source

-- no source is spelled by `line L { features A valid A; }`
abbrev pub unended_tokens : List Symbol
unended_tokens =
    word (codes "line") 0 ∷ word (codes "L") 5 ∷ sign (codes "{") 7 ∷ word (codes "features") 9 ∷ word (codes "A") 18 ∷ word (codes "valid") 20
    ∷ word (codes "A") 26 ∷ sign (codes ";") 27 ∷ sign (codes "}") 29 ∷ []

abbrev pub NoLine : Type 0
NoLine = (source : Source) → ¬ Spells unended_tokens source

-- ( x ) y is a cast
abbrev pub ACast : Type 0
ACast = (d : Dialect) (a b : ℕ) (x y : Spot) → IsName x → IsName y → SpellsExpr d (sign (codes "(") a ∷ named x ∷ sign (codes ")") b ∷ named y ∷ []) (cast_to x (variable y))

-- ( x ) . f is a field of x, and no cast
abbrev pub in_brackets : ℕ → ℕ → ℕ → Spot → Spot → List Symbol
in_brackets a b c x f = sign (codes "(") a ∷ named x ∷ sign (codes ")") b ∷ sign (codes ".") c ∷ named f ∷ []

abbrev pub NoCast : Type 0
NoCast =
    (d : Dialect) (a b c : ℕ) (x f : Spot) → IsName x → IsName f
    → SpellsExpr d (in_brackets a b c x f) (field_of (variable x) f) × ((class : Spot) (e : Expr) → ¬ SpellsExpr d (in_brackets a b c x f) (cast_to class e))

-- x.f = y.g = z puts z into y.g, and the same into x.f
abbrev pub AssignmentsToTheRight : Type 0
AssignmentsToTheRight =
    (d : Dialect) (a b c e : ℕ) (x f y g z : Spot) → IsName x → IsName f → IsName y → IsName g → IsName z
    → SpellsExpr d
    (named x ∷ sign (codes ".") a ∷ named f ∷ sign (codes "=") b ∷ named y ∷ sign (codes ".") c ∷ named g ∷ sign (codes "=") e ∷ named z ∷ [])
    (assignment (variable x) f (assignment (variable y) g (variable z)))

-- x.f.g is g of x.f
abbrev pub FieldsToTheLeft : Type 0
FieldsToTheLeft =
    (d : Dialect) (a b : ℕ) (x f g : Spot) → IsName x → IsName f → IsName g
    → SpellsExpr d (named x ∷ sign (codes ".") a ∷ named f ∷ sign (codes ".") b ∷ named g ∷ []) (field_of (field_of (variable x) f) g)

-- x op y op z
abbrev pub in_a_row : Text → ℕ → ℕ → Spot → Spot → Spot → List Symbol
in_a_row op a b x y z = named x ∷ sign op a ∷ named y ∷ sign op b ∷ named z ∷ []

-- -> groups to the right, and <->, | and & to the left
abbrev pub OperatorsGroup : Type 0
OperatorsGroup =
    (a b : ℕ) (x y z : Spot) → IsName x → IsName y → IsName z
    → SpellsFormula (in_a_row (codes "->") a b x y z) (implication (feature x) (implication (feature y) (feature z)))
    × SpellsFormula (in_a_row (codes "<->") a b x y z) (equivalence (equivalence (feature x) (feature y)) (feature z))
    × SpellsFormula (in_a_row (codes "|") a b x y z) (disjunction (disjunction (feature x) (feature y)) (feature z))
    × SpellsFormula (in_a_row (codes "&&") a b x y z) (conjunction (conjunction (feature x) (feature y)) (feature z))

-- ! x & y negates x alone
abbrev pub NegationsBindTightest : Type 0
NegationsBindTightest =
    (a b : ℕ) (x y : Spot) → IsName x → IsName y
    → SpellsFormula (sign (codes "!") a ∷ named x ∷ sign (codes "&") b ∷ named y ∷ []) (conjunction (negation (feature x)) (feature y))
