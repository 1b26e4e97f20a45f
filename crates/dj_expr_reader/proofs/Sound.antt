-- What the machine has taken is the beginning of an expression.
use Rattle.std.proofs.Common.{◌≡◌, ℕ, ◌+◌, List, [], ◌∷◌, ◌++◌, length, sym, ap, subst, ◌∙◌, append_assoc, arith}
use Rattle.std.proofs.lemmas.List.{append-nil}
use Rattle.std.specs.Prelude.{codes}
use Rattle.arena_walk.specs.Tree.{trees_of}
use Rattle.dj_lexer.specs.Symbols.{Symbol}
use Rattle.dj_lexer.specs.declared.token.Dialect.{Dialect}
use Rattle.dj_lexer.specs.declared.token.Dialect.TheVariants.{Line}
use Rattle.dj_tree.specs.Words.{word, sign, named, IsName}
use Rattle.dj_tree.specs.Trees.{Spot, Expr, call_of, cast_to, assignment, original_at, CallForm, CastForm, AssignForm, OriginalForm}
use Rattle.dj_tree.specs.ExprGrammar as grammar
use Rattle.dj_tree.specs.ExprGrammar.{ExprLevel, Whole, Unary, Postfix, Primary, SpellsAt, SpellsArguments, SpellsEach}
use Rattle.dj_expr_reader.specs.Marks.{Mark, marks_of, marks_each}
use Rattle.dj_expr_reader.specs.Machine.{Callee, Method, Original, Frame, Bracket, Cast, Assign, Arguments, call_mark, kept, passed}
use Rattle.dj_expr_reader.proofs.Frames.{NoCast}
use Rattle.dj_expr_reader.proofs.Complete.{length-parts}

-- ---- levels

-- the level of the expression that what is open waits for
abbrev pub hole : List Frame → ExprLevel
hole [] = Whole
hole (Bracket ∷ frames) = Whole
hole (Cast class ∷ frames) = Unary
hole (Assign f ∷ frames) = Whole
hole (Arguments callee count ∷ frames) = Whole

pub unary_fits : {d : Dialect} {t : List Symbol} {e : Expr} (frames : List Frame) → SpellsAt d Unary t e → SpellsAt d (hole frames) t e
unary_fits [] x = grammar.one_unary x
unary_fits (Bracket ∷ frames) x = grammar.one_unary x
unary_fits (Cast class ∷ frames) x = x
unary_fits (Assign f ∷ frames) x = grammar.one_unary x
unary_fits (Arguments callee count ∷ frames) x = grammar.one_unary x

pub whole_fits : {d : Dialect} {t : List Symbol} {e : Expr} (frames : List Frame) → NoCast frames → SpellsAt d Whole t e → SpellsAt d (hole frames) t e
whole_fits [] n x = x
whole_fits (Bracket ∷ frames) n x = x
whole_fits (Cast class ∷ frames) n x = absurd n
whole_fits (Assign f ∷ frames) n x = x
whole_fits (Arguments callee count ∷ frames) n x = x

-- ---- what was taken

-- the arguments before the next one, each with its comma
pub data SoFar (d : Dialect) : List Symbol → List Expr → Type 0 where
  none : SoFar d [] []
  some : {t : List Symbol} {es : List Expr} (at : ℕ) → SpellsEach d t es → SoFar d (t ++ sign (codes ",") at ∷ []) es

mutual
  -- These frames and nodes are what is open and what was made once these symbols were taken, and an operand comes next.
  pub data Waits (d : Dialect) : List Frame → List Mark → List Symbol → Type 0 where
    start : Waits d [] [] []
    opens : {frames : List Frame} {marks : List Mark} {s : List Symbol} (at : ℕ) → Waits d frames marks s → Waits d (Bracket ∷ frames) marks (s ++ sign (codes "(") at ∷ [])
    casts : {frames : List Frame} {marks : List Mark} {s : List Symbol} (o c : ℕ) (class : Spot) → IsName class → Waits d frames marks s
        → Waits d (Cast class ∷ frames) marks (s ++ sign (codes "(") o ∷ named class ∷ sign (codes ")") c ∷ [])
    assigns : {frames : List Frame} {marks : List Mark} {s t : List Symbol} {e : Expr} (dot equals : ℕ) (f : Spot) → IsName f → NoCast frames → Waits d frames marks s
        → SpellsAt d Postfix t e → Waits d (Assign f ∷ frames) (marks ++ marks_of e) (s ++ (t ++ sign (codes ".") dot ∷ named f ∷ sign (codes "=") equals ∷ []))
    arguments : {callee : Callee} {frames : List Frame} {marks : List Mark} {s t : List Symbol} {es : List Expr} → Calls d callee frames marks s → SoFar d t es
        → Waits d (Arguments callee (length es) ∷ frames) (marks ++ marks_each (trees_of es)) (s ++ t)

  -- The same where the arguments of a call come next.
  pub data Calls (d : Dialect) : Callee → List Frame → List Mark → List Symbol → Type 0 where
    calls : {frames : List Frame} {marks : List Mark} {s t : List Symbol} {e : Expr} (dot o : ℕ) (m : Spot) → IsName m → Waits d frames marks s
        → SpellsAt d Postfix t e → Calls d (Method m) frames (marks ++ marks_of e) (s ++ (t ++ sign (codes ".") dot ∷ named m ∷ sign (codes "(") o ∷ []))
    asks : {frames : List Frame} {marks : List Mark} {s : List Symbol} (at o : ℕ) → d ≡ Line → Waits d frames marks s
        → Calls d (Original at) frames marks (s ++ word (codes "original") at ∷ sign (codes "(") o ∷ [])

-- The same where an expression of a level was just taken.
pub record Holds (d : Dialect) (level : ExprLevel) (frames : List Frame) (marks : List Mark) (symbols : List Symbol) : Type 0 where
  pub before : List Mark
  pub s : List Symbol
  pub t : List Symbol
  pub value : Expr
  pub waits : Waits d frames before s
  pub spelled : SpellsAt d level t value
  pub marks_are : marks ≡ before ++ marks_of value
  pub symbols_are : symbols ≡ s ++ t

pub fits : {d : Dialect} {frames : List Frame} {marks : List Mark} {symbols : List Symbol} → Holds d Postfix frames marks symbols → Holds d (hole frames) frames marks symbols
fits {frames = frames} h =
    record {
      before = h.before;
      s = h.s;
      t = h.t;
      value = h.value;
      waits = h.waits;
      spelled = unary_fits frames (grammar.one_postfix h.spelled);
      marks_are = h.marks_are;
      symbols_are = h.symbols_are;
    }

-- ---- what is finished

finish_cast : {d : Dialect} {class : Spot} {frames : List Frame} {marks before : List Mark} {symbols s t : List Symbol} {e : Expr} → Waits d (Cast class ∷ frames) before s
    → SpellsAt d Unary t e → marks ≡ before ++ marks_of e → symbols ≡ s ++ t → Holds d (hole frames) frames (marks ++ (CastForm class, 1) ∷ []) symbols
finish_cast {frames = frames} {before = before} {t = t} {e = e} (casts {s = s} o c class i w) x m g =
    record {
      before = before;
      s = s;
      t = sign (codes "(") o ∷ named class ∷ sign (codes ")") c ∷ t;
      value = cast_to class e;
      waits = w;
      spelled = unary_fits frames (grammar.cast o c class i x);
      marks_are = ap (λ k. k ++ (CastForm class, 1) ∷ []) (m ∙ ap (λ k. before ++ k) (sym (append-nil (marks_of e)))) ∙ append_assoc before (marks_of e ++ []) ((CastForm class, 1) ∷ []);
      symbols_are = g ∙ append_assoc s (sign (codes "(") o ∷ named class ∷ sign (codes ")") c ∷ []) t;
    }

finish_assignment : {d : Dialect} {f : Spot} {frames : List Frame} {marks before : List Mark} {symbols s u : List Symbol} {v : Expr} → Waits d (Assign f ∷ frames) before s
    → SpellsAt d Whole u v → marks ≡ before ++ marks_of v → symbols ≡ s ++ u → Holds d (hole frames) frames (marks ++ (AssignForm f, 2) ∷ []) symbols
finish_assignment {frames = frames} {u = u} {v = v} (assigns {marks = first} {s = s} {t = t} {e = e} dot equals f i n w x) y m g =
    record {
      before = first;
      s = s;
      t = t ++ sign (codes ".") dot ∷ named f ∷ sign (codes "=") equals ∷ u;
      value = assignment e f v;
      waits = w;
      spelled = whole_fits frames n (grammar.assigned dot equals f i x y);
      marks_are =
          ap (λ k. k ++ (AssignForm f, 2) ∷ []) (m ∙ append_assoc first (marks_of e) (marks_of v) ∙ ap (λ k. first ++ (marks_of e ++ k)) (sym (append-nil (marks_of v))))
          ∙ append_assoc first (marks_of e ++ (marks_of v ++ [])) ((AssignForm f, 2) ∷ []);
      symbols_are =
          g ∙ append_assoc s (t ++ sign (codes ".") dot ∷ named f ∷ sign (codes "=") equals ∷ []) u
          ∙ ap (λ k. s ++ k) (append_assoc t (sign (codes ".") dot ∷ named f ∷ sign (codes "=") equals ∷ []) u);
    }

-- the casts and assignments on top are finished
pub finish_top : {d : Dialect} (frames : List Frame) (marks : List Mark) (symbols : List Symbol) → Holds d (hole frames) frames marks symbols
    → Holds d (hole (kept frames)) (kept frames) (marks ++ passed frames) symbols
finish_top {d} [] marks symbols h = subst (λ k. Holds d Whole [] k symbols) (sym (append-nil marks)) h
finish_top {d} (Bracket ∷ frames) marks symbols h = subst (λ k. Holds d Whole (Bracket ∷ frames) k symbols) (sym (append-nil marks)) h
finish_top {d} (Cast class ∷ frames) marks symbols h =
    subst (λ k. Holds d (hole (kept frames)) (kept frames) k symbols) (append_assoc marks ((CastForm class, 1) ∷ []) (passed frames))
    (finish_top frames (marks ++ (CastForm class, 1) ∷ []) symbols (finish_cast h.waits h.spelled h.marks_are h.symbols_are))
finish_top {d} (Assign f ∷ frames) marks symbols h =
    subst (λ k. Holds d (hole (kept frames)) (kept frames) k symbols) (append_assoc marks ((AssignForm f, 2) ∷ []) (passed frames))
    (finish_top frames (marks ++ (AssignForm f, 2) ∷ []) symbols (finish_assignment h.waits h.spelled h.marks_are h.symbols_are))
finish_top {d} (Arguments callee count ∷ frames) marks symbols h = subst (λ k. Holds d Whole (Arguments callee count ∷ frames) k symbols) (sym (append-nil marks)) h

-- ---- calls

pub and_last : {d : Dialect} {t u : List Symbol} {es : List Expr} {e : Expr} → SoFar d t es → SpellsAt d Whole u e → SpellsEach d (t ++ u) (es ++ e ∷ [])
and_last none x = grammar.one x
and_last {d} {u = u} {es = es} {e = e} (some {t = t} at y) x =
    subst (λ l. SpellsEach d l (es ++ e ∷ [])) (sym (append_assoc t (sign (codes ",") at ∷ []) u)) (grammar.next at y x)

pub original_spelled : {d : Dialect} {t : List Symbol} {es : List Expr} (at o c : ℕ) → d ≡ Line → SpellsArguments d t es
    → SpellsAt d Primary (word (codes "original") at ∷ sign (codes "(") o ∷ (t ++ sign (codes ")") c ∷ [])) (original_at at es)
original_spelled {t = t} {es = es} at o c is y =
    subst (λ k. SpellsAt k Primary (word (codes "original") at ∷ sign (codes "(") o ∷ (t ++ sign (codes ")") c ∷ [])) (original_at at es)) (sym is)
    (grammar.original at o c (subst (λ k. SpellsArguments k t es) is y))

pub finish_call : {d : Dialect} {callee : Callee} {frames : List Frame} {marks : List Mark} {s t : List Symbol} {es : List Expr} (c : ℕ) → Calls d callee frames marks s → SpellsArguments d t es
    → Holds d Postfix frames (marks ++ (marks_each (trees_of es) ++ call_mark callee (length es) ∷ [])) (s ++ (t ++ sign (codes ")") c ∷ []))
finish_call {t = t} {es = es} c (calls {marks = first} {s = s} {t = receiver} {e = e} dot o m i w x) y =
    record {
      before = first;
      s = s;
      t = receiver ++ sign (codes ".") dot ∷ named m ∷ sign (codes "(") o ∷ (t ++ sign (codes ")") c ∷ []);
      value = call_of e m es;
      waits = w;
      spelled = grammar.call dot o c m i x y;
      marks_are =
          append_assoc first (marks_of e) (marks_each (trees_of es) ++ (CallForm m, length es + 1) ∷ [])
          ∙ ap (λ l. first ++ l) (sym (append_assoc (marks_of e) (marks_each (trees_of es)) ((CallForm m, length es + 1) ∷ [])))
          ∙ ap (λ n. first ++ ((marks_of e ++ marks_each (trees_of es)) ++ (CallForm m, n) ∷ [])) (ap (λ k. k + 1) (sym (length-parts es)) ∙ omega arith);
      symbols_are =
          append_assoc s (receiver ++ sign (codes ".") dot ∷ named m ∷ sign (codes "(") o ∷ []) (t ++ sign (codes ")") c ∷ [])
          ∙ ap (λ l. s ++ l) (append_assoc receiver (sign (codes ".") dot ∷ named m ∷ sign (codes "(") o ∷ []) (t ++ sign (codes ")") c ∷ []));
    }
finish_call {t = t} {es = es} c (asks {marks = first} {s = s} at o is w) y =
    record {
      before = first;
      s = s;
      t = word (codes "original") at ∷ sign (codes "(") o ∷ (t ++ sign (codes ")") c ∷ []);
      value = original_at at es;
      waits = w;
      spelled = grammar.one_primary (original_spelled at o c is y);
      marks_are = ap (λ n. first ++ (marks_each (trees_of es) ++ (OriginalForm at, n) ∷ [])) (sym (length-parts es));
      symbols_are = append_assoc s (word (codes "original") at ∷ sign (codes "(") o ∷ []) (t ++ sign (codes ")") c ∷ []);
    }
