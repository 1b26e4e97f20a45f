-- What the grammar spells is read.
use Rattle.std.proofs.Common.{◌≡◌, ℕ, ◌≤◌, List, [], ◌∷◌, ◌++◌, refl, sym, ap, ap₂, ◌∙◌, append_assoc, arith}
use Rattle.std.proofs.lemmas.List.{append-nil}
use Rattle.std.specs.Prelude.{codes}
use Rattle.arena_walk.specs.Tree.{nodes}
use Rattle.dj_lexer.specs.Symbols.{Symbol}
use Rattle.dj_tree.specs.Words.{word, sign, named, IsName, is_reserved}
use Rattle.dj_tree.specs.Trees.{Spot, Formula, always, never, feature, negation, conjunction, disjunction, implication, equivalence, FormulaForm, TrueForm, FalseForm, FeatureForm, NotForm, AndForm, OrForm, ImpliesForm, SameForm}
use Rattle.dj_tree.specs.FormulaGrammar as grammar
use Rattle.dj_tree.specs.FormulaGrammar.{FormulaLevel, Equivalences, Implications, Disjunctions, Conjunctions, Negations, SpellsAt}
use Rattle.dj_formula_reader.specs.declared.machine.Frame.{Frame}
use Rattle.dj_formula_reader.specs.declared.machine.Frame.TheVariants.{Open, Same, Implies, Or, And, Not}
use Rattle.dj_formula_reader.specs.Machine.{waiting, holding, go, rank_of, left_by, kept, passed, take_operator, step, run}
use Rattle.dj_formula_reader.proofs.Frames.{AtLeast, Below, leaves, looser, still_below, and_one, leaves-and_one, kept-top, passed-top}
use Rattle.dj_reader.proofs.Symbols.{not_word}

-- how tightly the operators of a level bind at least, and what may be open around it
abbrev pub tightness : FormulaLevel → ℕ
tightness Equivalences = 1
tightness Implications = 2
tightness Disjunctions = 3
tightness Conjunctions = 4
tightness Negations = 5

abbrev pub around : FormulaLevel → ℕ
around Equivalences = 1
around Implications = 3
around Disjunctions = 3
around Conjunctions = 4
around Negations = 6

-- The machine has taken symbols of a formula: it holds one, and what is open on top finishes it.
pub record Settled (tight : ℕ) (frames : List Frame) (forms : List FormulaForm) (s : List Symbol) (a : Formula) : Type 0 where
  pub opened : List Frame
  pub made : List FormulaForm
  pub tightly : AtLeast tight opened
  pub whole : made ++ leaves opened ≡ nodes a
  pub runs : (rest : List Symbol) → run (waiting frames forms) (s ++ rest) ≡ run (holding (opened ++ frames) (forms ++ made)) rest

loosened : {low high : ℕ} {frames : List Frame} {forms : List FormulaForm} {s : List Symbol} {a : Formula} → low ≤ high → Settled high frames forms s a → Settled low frames forms s a
loosened {low = low} {high = high} l x = record { opened = x.opened; made = x.made; tightly = looser low high x.opened l x.tightly; whole = x.whole; runs = x.runs }

-- what holds a formula that an operator of a rank finishes
finished : {tight : ℕ} {frames : List Frame} {forms : List FormulaForm} {s : List Symbol} {a : Formula} (x : Settled tight frames forms s a) → Below tight frames
    → (kept tight (x.opened ++ frames) ≡ frames) × ((forms ++ x.made) ++ passed tight (x.opened ++ frames) ≡ forms ++ nodes a)
finished {tight = tight} {frames = frames} {forms = forms} x b = (
  kept-top tight x.opened frames x.tightly b,
  ap (λ l. (forms ++ x.made) ++ l) (passed-top tight x.opened frames x.tightly b) ∙ append_assoc forms x.made (leaves x.opened) ∙ ap (λ l. forms ++ l) x.whole,
)

two : (f : Frame) (form : FormulaForm) → left_by f ≡ form ∷ [] → (op : Symbol) (tight inner : ℕ)
    → ((frames : List Frame) (forms : List FormulaForm) → step (holding frames forms) op ≡ take_operator f tight frames forms) → rank_of f ≤ inner
    → {frames : List Frame} {forms : List FormulaForm} {s t : List Symbol} {a b : Formula} (whole : Formula) → nodes whole ≡ (nodes a ++ (nodes b ++ [])) ++ form ∷ []
    → Below tight frames → Settled tight frames forms s a → Settled inner (f ∷ frames) (forms ++ nodes a) t b
    → Settled (rank_of f) frames forms (s ++ op ∷ t) whole
two f form left op tight inner steps l {frames = frames} {forms = forms} {s = s} {t = t} {a = a} {b = b} whole is below x y =
    record {
      opened = y.opened ++ f ∷ [];
      made = nodes a ++ y.made;
      tightly = and_one (rank_of f) y.opened f (looser (rank_of f) inner y.opened l y.tightly) (omega arith);
      whole =
          ap (λ k. (nodes a ++ y.made) ++ k) (leaves-and_one y.opened f ∙ ap (λ k. leaves y.opened ++ k) left)
          ∙ sym (append_assoc (nodes a ++ y.made) (leaves y.opened) (form ∷ []))
          ∙ ap (λ k. k ++ form ∷ []) (append_assoc (nodes a) y.made (leaves y.opened) ∙ ap (λ k. nodes a ++ k) (y.whole ∙ sym (append-nil (nodes b))))
          ∙ sym is;
      runs = λ rest.
          ap (run (waiting frames forms)) (append_assoc s (op ∷ t) rest) ∙ x.runs (op ∷ t ++ rest) ∙ next_step (t ++ rest) ∙ y.runs rest
          ∙ ap₂ (λ k m. run (holding k m) rest) (sym (append_assoc y.opened (f ∷ []) frames)) (append_assoc forms (nodes a) y.made);
    }
  where
    next_step : (rest : List Symbol) → run (holding (x.opened ++ frames) (forms ++ x.made)) (op ∷ rest) ≡ run (waiting (f ∷ frames) (forms ++ nodes a)) rest
    next_step rest = let done = finished x below in rw (steps (x.opened ++ frames) (forms ++ x.made), done.0, done.1) refl

leaf : (s : Symbol) (form : FormulaForm) (frames : List Frame) (forms : List FormulaForm) (a : Formula) → nodes a ≡ form ∷ []
    → step (waiting frames forms) s ≡ go (holding frames (forms ++ form ∷ [])) → Settled 5 frames forms (s ∷ []) a
leaf s form frames forms a is steps =
    record { opened = []; made = form ∷ []; tightly = tt; whole = sym is; runs = λ rest. rw steps refl }

name_step : (x : Spot) → IsName x → (frames : List Frame) (forms : List FormulaForm) → step (waiting frames forms) (named x) ≡ go (holding frames (forms ++ FeatureForm x ∷ []))
unfolding is_reserved
name_step x i frames forms = rw (not_word x i (codes "true") refl, not_word x i (codes "false") refl, i) refl

negated : {frames : List Frame} {forms : List FormulaForm} {s : List Symbol} {a : Formula} (at : ℕ) → Settled 5 (Not ∷ frames) forms s a
    → Settled 5 frames forms (sign (codes "!") at ∷ s) (negation a)
negated {frames = frames} {forms = forms} {s = s} {a = a} at x =
    record {
      opened = x.opened ++ Not ∷ [];
      made = x.made;
      tightly = and_one 5 x.opened Not x.tightly (omega arith);
      whole =
          ap (λ k. x.made ++ k) (leaves-and_one x.opened Not) ∙ sym (append_assoc x.made (leaves x.opened) (NotForm ∷ []))
          ∙ ap (λ k. k ++ NotForm ∷ []) (x.whole ∙ sym (append-nil (nodes a)));
      runs = λ rest. x.runs rest ∙ ap (λ k. run (holding k (forms ++ x.made)) rest) (sym (append_assoc x.opened (Not ∷ []) frames));
    }

bracketed : {frames : List Frame} {forms : List FormulaForm} {s : List Symbol} {a : Formula} (o c : ℕ) → Settled 1 (Open ∷ frames) forms s a
    → Settled 5 frames forms (sign (codes "(") o ∷ (s ++ sign (codes ")") c ∷ [])) a
bracketed {frames = frames} {forms = forms} {s = s} {a = a} o c x =
    record {
      opened = [];
      made = nodes a;
      tightly = tt;
      whole = append-nil (nodes a);
      runs = λ rest. ap (run (waiting (Open ∷ frames) forms)) (append_assoc s (sign (codes ")") c ∷ []) rest) ∙ x.runs (sign (codes ")") c ∷ rest) ∙ closing rest;
    }
  where
    closing : (rest : List Symbol) → run (holding (x.opened ++ Open ∷ frames) (forms ++ x.made)) (sign (codes ")") c ∷ rest) ≡ run (holding frames (forms ++ nodes a)) rest
    closing rest = let done = finished x (omega arith) in rw (done.0, done.1) refl

pub settle : {l : FormulaLevel} {s : List Symbol} {a : Formula} → SpellsAt l s a → (frames : List Frame) (forms : List FormulaForm) → Below (around l) frames
    → Settled (tightness l) frames forms s a
settle (grammar.same {a = a} {b = b} at x y) frames forms below =
    two Same SameForm refl (sign (codes "<->") at) 1 2 (λ f m. refl) (omega arith) (equivalence a b) refl below (settle x frames forms below)
    (settle y (Same ∷ frames) (forms ++ nodes a) (omega arith))
settle (grammar.one_implies x) frames forms below = loosened (omega arith) (settle x frames forms (still_below 1 3 frames (omega arith) below))
settle (grammar.implies {a = a} {b = b} at x y) frames forms below =
    two Implies ImpliesForm refl (sign (codes "->") at) 3 2 (λ f m. refl) (omega arith) (implication a b) refl below (settle x frames forms below)
    (settle y (Implies ∷ frames) (forms ++ nodes a) (omega arith))
settle (grammar.one_or x) frames forms below = loosened (omega arith) (settle x frames forms below)
settle (grammar.or {a = a} {b = b} at x y) frames forms below =
    two Or OrForm refl (sign (codes "|") at) 3 4 (λ f m. refl) (omega arith) (disjunction a b) refl below (settle x frames forms below)
    (settle y (Or ∷ frames) (forms ++ nodes a) (omega arith))
settle (grammar.or_doubled {a = a} {b = b} at x y) frames forms below =
    two Or OrForm refl (sign (codes "||") at) 3 4 (λ f m. refl) (omega arith) (disjunction a b) refl below (settle x frames forms below)
    (settle y (Or ∷ frames) (forms ++ nodes a) (omega arith))
settle (grammar.one_and x) frames forms below = loosened (omega arith) (settle x frames forms (still_below 3 4 frames (omega arith) below))
settle (grammar.and {a = a} {b = b} at x y) frames forms below =
    two And AndForm refl (sign (codes "&") at) 4 5 (λ f m. refl) (omega arith) (conjunction a b) refl below (settle x frames forms below)
    (settle y (And ∷ frames) (forms ++ nodes a) (omega arith))
settle (grammar.and_doubled {a = a} {b = b} at x y) frames forms below =
    two And AndForm refl (sign (codes "&&") at) 4 5 (λ f m. refl) (omega arith) (conjunction a b) refl below (settle x frames forms below)
    (settle y (And ∷ frames) (forms ++ nodes a) (omega arith))
settle (grammar.one_not x) frames forms below = loosened (omega arith) (settle x frames forms (still_below 4 6 frames (omega arith) below))
settle (grammar.not at x) frames forms below = negated at (settle x (Not ∷ frames) forms (omega arith))
settle (grammar.true_word at) frames forms below = leaf (word (codes "true") at) TrueForm frames forms always refl refl
settle (grammar.false_word at) frames forms below = leaf (word (codes "false") at) FalseForm frames forms never refl refl
settle (grammar.feature_name x i) frames forms below = leaf (named x) (FeatureForm x) frames forms (feature x) refl (name_step x i frames forms)
settle (grammar.in_parentheses o c x) frames forms below = bracketed o c (settle x (Open ∷ frames) forms (omega arith))
