-- What the machine has taken is the beginning of a formula.
use Rattle.std.proofs.Common.{◌≡◌, ℕ, ◌≤◌, Bool, true, false, cond, List, [], ◌∷◌, ◌++◌, refl, sym, ap, ap₂, subst, ◌∙◌, append_assoc, arith}
use Rattle.std.proofs.lemmas.List.{append-nil}
use Rattle.std.proofs.lemmas.Bool.{leb-true}
use Rattle.std.specs.Prelude.{codes, nat_le}
use Rattle.arena_walk.specs.Tree.{nodes, over}
use Rattle.dj_lexer.specs.Symbols.{Symbol}
use Rattle.dj_tree.specs.Words.{sign}
use Rattle.dj_tree.specs.Trees.{Formula, negation, FormulaForm, NotForm, AndForm, OrForm, ImpliesForm, SameForm}
use Rattle.dj_tree.specs.FormulaGrammar as grammar
use Rattle.dj_tree.specs.FormulaGrammar.{FormulaLevel, Equivalences, Implications, Disjunctions, Conjunctions, Negations, SpellsAt, SpellsFormula}
use Rattle.dj_formula_reader.specs.declared.machine.Frame.{Frame}
use Rattle.dj_formula_reader.specs.declared.machine.Frame.TheVariants.{Open, Same, Implies, Or, And, Not}
use Rattle.dj_formula_reader.specs.Machine.{rank_of, left_by, kept, passed}
use Rattle.dj_formula_reader.proofs.Complete.{tightness}

-- ---- levels

pub looser_level : (high low : FormulaLevel) → tightness low ≤ tightness high → {s : List Symbol} {a : Formula} → SpellsAt high s a → SpellsAt low s a
looser_level Equivalences Equivalences l x = x
looser_level Implications Equivalences l x = grammar.one_implies x
looser_level Disjunctions Equivalences l x = grammar.one_implies (grammar.one_or x)
looser_level Conjunctions Equivalences l x = grammar.one_implies (grammar.one_or (grammar.one_and x))
looser_level Negations Equivalences l x = grammar.one_implies (grammar.one_or (grammar.one_and (grammar.one_not x)))
looser_level Implications Implications l x = x
looser_level Disjunctions Implications l x = grammar.one_or x
looser_level Conjunctions Implications l x = grammar.one_or (grammar.one_and x)
looser_level Negations Implications l x = grammar.one_or (grammar.one_and (grammar.one_not x))
looser_level Disjunctions Disjunctions l x = x
looser_level Conjunctions Disjunctions l x = grammar.one_and x
looser_level Negations Disjunctions l x = grammar.one_and (grammar.one_not x)
looser_level Conjunctions Conjunctions l x = x
looser_level Negations Conjunctions l x = grammar.one_not x
looser_level Negations Negations l x = x
looser_level Equivalences Implications l x = absurd (omega (arith, l))
looser_level Equivalences Disjunctions l x = absurd (omega (arith, l))
looser_level Implications Disjunctions l x = absurd (omega (arith, l))
looser_level Equivalences Conjunctions l x = absurd (omega (arith, l))
looser_level Implications Conjunctions l x = absurd (omega (arith, l))
looser_level Disjunctions Conjunctions l x = absurd (omega (arith, l))
looser_level Equivalences Negations l x = absurd (omega (arith, l))
looser_level Implications Negations l x = absurd (omega (arith, l))
looser_level Disjunctions Negations l x = absurd (omega (arith, l))
looser_level Conjunctions Negations l x = absurd (omega (arith, l))

-- ---- operators

abbrev pub left_level : Frame → FormulaLevel
left_level Open = Equivalences
left_level Same = Equivalences
left_level Implies = Disjunctions
left_level Or = Disjunctions
left_level And = Conjunctions
left_level Not = Negations

abbrev pub right_level : Frame → FormulaLevel
right_level Open = Equivalences
right_level Same = Implications
right_level Implies = Implications
right_level Or = Conjunctions
right_level And = Negations
right_level Not = Negations

abbrev pub result_level : Frame → FormulaLevel
result_level Open = Negations
result_level Same = Equivalences
result_level Implies = Implications
result_level Or = Disjunctions
result_level And = Conjunctions
result_level Not = Negations

pub data IsOperator : Frame → Symbol → FormulaForm → Type 0 where
  is_same : (at : ℕ) → IsOperator Same (sign (codes "<->") at) SameForm
  is_implies : (at : ℕ) → IsOperator Implies (sign (codes "->") at) ImpliesForm
  is_or : (at : ℕ) → IsOperator Or (sign (codes "|") at) OrForm
  is_or_doubled : (at : ℕ) → IsOperator Or (sign (codes "||") at) OrForm
  is_and : (at : ℕ) → IsOperator And (sign (codes "&") at) AndForm
  is_and_doubled : (at : ℕ) → IsOperator And (sign (codes "&&") at) AndForm

pub combined : {f : Frame} {op : Symbol} {form : FormulaForm} → IsOperator f op form → {s t : List Symbol} {a b : Formula} → SpellsAt (left_level f) s a → SpellsAt (right_level f) t b
    → SpellsAt (result_level f) (s ++ op ∷ t) (over form (a ∷ b ∷ []))
combined (is_same at) x y = grammar.same at x y
combined (is_implies at) x y = grammar.implies at x y
combined (is_or at) x y = grammar.or at x y
combined (is_or_doubled at) x y = grammar.or_doubled at x y
combined (is_and at) x y = grammar.and at x y
combined (is_and_doubled at) x y = grammar.and_doubled at x y

left_of : {f : Frame} {op : Symbol} {form : FormulaForm} → IsOperator f op form → left_by f ≡ form ∷ []
left_of (is_same at) = refl
left_of (is_implies at) = refl
left_of (is_or at) = refl
left_of (is_or_doubled at) = refl
left_of (is_and at) = refl
left_of (is_and_doubled at) = refl

pub rank_is : {f : Frame} {op : Symbol} {form : FormulaForm} → IsOperator f op form → tightness (result_level f) ≡ rank_of f
rank_is (is_same at) = refl
rank_is (is_implies at) = refl
rank_is (is_or at) = refl
rank_is (is_or_doubled at) = refl
rank_is (is_and at) = refl
rank_is (is_and_doubled at) = refl

-- the level of the formula that what is open waits for
abbrev pub hole : List Frame → FormulaLevel
hole [] = Equivalences
hole (f ∷ frames) = right_level f

-- ---- what was taken

-- These frames and nodes are what is open and what was made once these symbols were taken, and an operand comes next.
pub data Waits : List Frame → List FormulaForm → List Symbol → Type 0 where
  start : Waits [] [] []
  opens : {frames : List Frame} {forms : List FormulaForm} {s : List Symbol} (at : ℕ) → Waits frames forms s → Waits (Open ∷ frames) forms (s ++ sign (codes "(") at ∷ [])
  negates : {frames : List Frame} {forms : List FormulaForm} {s : List Symbol} (at : ℕ) → Waits frames forms s → Waits (Not ∷ frames) forms (s ++ sign (codes "!") at ∷ [])
  operates : {f : Frame} {op : Symbol} {form : FormulaForm} {frames : List Frame} {forms : List FormulaForm} {s t : List Symbol} {a : Formula} → IsOperator f op form → Waits frames forms s
      → SpellsAt (left_level f) t a → tightness (hole frames) ≤ rank_of f → Waits (f ∷ frames) (forms ++ nodes a) (s ++ (t ++ op ∷ []))

-- The same where a formula was just taken, of a level that fits.
pub record Holds (tight : ℕ) (frames : List Frame) (forms : List FormulaForm) (symbols : List Symbol) : Type 0 where
  pub before : List FormulaForm
  pub s : List Symbol
  pub t : List Symbol
  pub value : Formula
  pub level : FormulaLevel
  pub waits : Waits frames before s
  pub spelled : SpellsAt level t value
  pub fits : tightness (hole frames) ≤ tightness level
  pub tightly : tight ≤ tightness level
  pub forms_are : forms ≡ before ++ nodes value
  pub symbols_are : symbols ≡ s ++ t

negation_of : (level : FormulaLevel) {t : List Symbol} {a : Formula} (at : ℕ) → SpellsAt level t a → 5 ≤ tightness level → SpellsAt Negations (sign (codes "!") at ∷ t) (negation a)
negation_of level at x l = grammar.not at (looser_level level Negations l x)

-- one operator on top is finished
finish_not : {frames : List Frame} {forms : List FormulaForm} {symbols : List Symbol} (rank : ℕ) → rank ≤ 5 → {before : List FormulaForm} {s t : List Symbol} {a : Formula} {level : FormulaLevel}
    (at : ℕ) → Waits frames before s → SpellsAt level t a → 5 ≤ tightness level → forms ≡ before ++ nodes a → symbols ≡ (s ++ sign (codes "!") at ∷ []) ++ t
    → Holds rank frames (forms ++ NotForm ∷ []) symbols
finish_not {frames = frames} {forms = forms} {symbols = symbols} rank low {before = before} {s = s} {t = t} {a = a} {level = level} at w x l e f =
    record {
      before = before;
      s = s;
      t = sign (codes "!") at ∷ t;
      value = negation a;
      level = Negations;
      waits = w;
      spelled = negation_of level at x l;
      fits = fits_always (hole frames);
      tightly = low;
      forms_are = ap (λ k. k ++ NotForm ∷ []) (e ∙ ap (λ k. before ++ k) (sym (append-nil (nodes a)))) ∙ append_assoc before (nodes a ++ []) (NotForm ∷ []);
      symbols_are = f ∙ append_assoc s (sign (codes "!") at ∷ []) t;
    }
  where
    fits_always : (level : FormulaLevel) → tightness level ≤ 5
    fits_always Equivalences = omega arith
    fits_always Implications = omega arith
    fits_always Disjunctions = omega arith
    fits_always Conjunctions = omega arith
    fits_always Negations = omega arith

finish_two : {f : Frame} {op : Symbol} {form : FormulaForm} {frames : List Frame} {symbols : List Symbol} {forms : List FormulaForm} (rank : ℕ) → rank ≤ rank_of f
    → IsOperator f op form → {before : List FormulaForm} {s t u : List Symbol} {a b : Formula} {level : FormulaLevel} → Waits frames before s → SpellsAt (left_level f) t a
    → tightness (hole frames) ≤ rank_of f → SpellsAt level u b → tightness (right_level f) ≤ tightness level → forms ≡ (before ++ nodes a) ++ nodes b
    → symbols ≡ (s ++ (t ++ op ∷ [])) ++ u → Holds rank frames (forms ++ left_by f) symbols
finish_two {f = f} {op = op} {form = form} {frames = frames} {symbols = symbols} {forms = forms} rank low is {before = before} {s = s} {t = t} {u = u} {a = a} {b = b} {level = level} w x fit y l e g =
    record {
      before = before;
      s = s;
      t = t ++ op ∷ u;
      value = over form (a ∷ b ∷ []);
      level = result_level f;
      waits = w;
      spelled = combined is x (looser_level level (right_level f) l y);
      fits = omega (arith, fit, rank_is is);
      tightly = omega (arith, low, rank_is is);
      forms_are =
          ap₂ (λ k m. k ++ m) (e ∙ append_assoc before (nodes a) (nodes b) ∙ ap (λ k. before ++ (nodes a ++ k)) (sym (append-nil (nodes b)))) (left_of is)
          ∙ append_assoc before (nodes a ++ (nodes b ++ [])) (form ∷ []);
      symbols_are = g ∙ append_assoc s (t ++ op ∷ []) u ∙ ap (λ k. s ++ k) (append_assoc t (op ∷ []) u);
    }

-- the operators on top that bind as tightly as a rank are finished
pub finish_top : (rank : ℕ) → 1 ≤ rank → (frames : List Frame) (forms : List FormulaForm) (symbols : List Symbol) → Holds rank frames forms symbols
    → Holds rank (kept rank frames) (forms ++ passed rank frames) symbols
finish_top rank some [] forms symbols h = subst (λ k. Holds rank [] k symbols) (sym (append-nil forms)) h
finish_top rank some (f ∷ frames) forms symbols h = by_rank (nat_le rank (rank_of f)) refl (λ next. finish_top rank some frames (forms ++ left_by f) symbols next)
  where
    finished_one : rank ≤ rank_of f → Holds rank (f ∷ frames) forms symbols → Holds rank frames (forms ++ left_by f) symbols
    finished_one l g = of g.waits g.spelled g.fits g.forms_are g.symbols_are l
      where
        of : {f : Frame} {before : List FormulaForm} {s t : List Symbol} {a : Formula} {level : FormulaLevel} → Waits (f ∷ frames) before s → SpellsAt level t a
            → tightness (right_level f) ≤ tightness level → forms ≡ before ++ nodes a → symbols ≡ s ++ t → rank ≤ rank_of f → Holds rank frames (forms ++ left_by f) symbols
        of (opens at w) x fit e g l = absurd (omega (arith, some, l))
        of (negates at w) x fit e g l = finish_not rank l at w x fit e g
        of (operates is w y below) x fit e g l = finish_two rank l is w y below x fit e g

    by_rank : (b : Bool) → nat_le rank (rank_of f) ≡ b → (Holds rank frames (forms ++ left_by f) symbols → Holds rank (kept rank frames) ((forms ++ left_by f) ++ passed rank frames) symbols)
        → Holds rank (cond b (kept rank frames) (f ∷ frames)) (forms ++ cond b (left_by f ++ passed rank frames) []) symbols
    by_rank true e next =
        subst (λ k. Holds rank (kept rank frames) k symbols) (append_assoc forms (left_by f) (passed rank frames)) (next (finished_one (leb-true rank (rank_of f) e) h))
    by_rank false e next = subst (λ k. Holds rank (f ∷ frames) k symbols) (sym (append-nil forms)) h
