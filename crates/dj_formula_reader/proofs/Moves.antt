-- Each step of the machine goes on with the beginning of a formula, ends one, or is stuck.
use Rattle.std.proofs.Common.{◌≡◌, ℕ, ◌≤◌, ◌<◌, Bool, true, false, cond, List, [], ◌∷◌, ◌++◌, refl, sym, ap, subst, ◌∙◌, append_assoc, arith}
use Rattle.std.proofs.lemmas.Bool.{leb-false, cond_both}
use Rattle.std.specs.Prelude.{codes, nat_le}
use Rattle.arena_walk.specs.Tree.{nodes}
use Rattle.dj_lexer.specs.Symbols.{Symbol}
use Rattle.dj_tree.specs.Words.{sign}
use Rattle.dj_tree.specs.Trees.{Formula, always, never, feature, FormulaForm, TrueForm, FalseForm, FeatureForm}
use Rattle.dj_tree.specs.FormulaGrammar as grammar
use Rattle.dj_tree.specs.FormulaGrammar.{FormulaLevel, Equivalences, Implications, Disjunctions, Conjunctions, Negations, SpellsAt, SpellsFormula}
use Rattle.dj_reader.specs.Terminals.{is_the_word, is_the_sign, is_a_name, spot_of}
use Rattle.dj_reader.proofs.Symbols.{sign_is, word_is, name_is}
use Rattle.dj_formula_reader.specs.declared.machine.Frame.{Frame}
use Rattle.dj_formula_reader.specs.declared.machine.Frame.TheVariants.{Open, Same, Implies, Or, And, Not}
use Rattle.dj_formula_reader.specs.Machine.{State, waiting, holding, Move, go, finish, stuck, rank_of, kept, passed, is_either, take_operator, close_bracket, end_formula, step}
use Rattle.dj_formula_reader.proofs.Frames.{Below}
use Rattle.dj_formula_reader.proofs.Complete.{tightness}
use Rattle.dj_formula_reader.proofs.Sound.{looser_level, left_level, right_level, IsOperator, is_same, is_implies, is_or, is_or_doubled, is_and, is_and_doubled, hole, Waits, start, opens, negates, operates, Holds, finish_top}

-- ---- states

-- these symbols lead to the state
abbrev pub Reached : State → List Symbol → Type 0
Reached (waiting frames forms) s = Waits frames forms s
Reached (holding frames forms) s = Holds 5 frames forms s

-- these symbols are a formula with these nodes
pub record Whole (forms : List FormulaForm) (s : List Symbol) : Type 0 where
  pub value : Formula
  pub spelled : SpellsFormula s value
  pub same : forms ≡ nodes value

-- what a move at a symbol comes to
abbrev pub Comes : List Symbol → Symbol → Move → Type 0
Comes s x (go state) = Reached state (s ++ x ∷ [])
Comes s x (finish forms) = Whole forms s × (x ≡ sign (codes ";") x.at)
Comes s x stuck = Unit {0}

-- ---- operands

operand : {frames : List Frame} {forms : List FormulaForm} {s : List Symbol} (x : Symbol) (form : FormulaForm) (a : Formula) → Waits frames forms s → SpellsAt Negations (x ∷ []) a
    → nodes a ≡ form ∷ [] → Reached (holding frames (forms ++ form ∷ [])) (s ++ x ∷ [])
operand {frames = frames} {forms = forms} {s = s} x form a w p e =
    record {
      before = forms;
      s = s;
      t = x ∷ [];
      value = a;
      level = Negations;
      waits = w;
      spelled = p;
      fits = fits_always (hole frames);
      tightly = omega arith;
      forms_are = ap (λ k. forms ++ k) (sym e);
      symbols_are = refl;
    }
  where
    fits_always : (level : FormulaLevel) → tightness level ≤ 5
    fits_always Equivalences = omega arith
    fits_always Implications = omega arith
    fits_always Disjunctions = omega arith
    fits_always Conjunctions = omega arith
    fits_always Negations = omega arith

waiting_step : (frames : List Frame) (forms : List FormulaForm) (s : List Symbol) (x : Symbol) → Waits frames forms s → Comes s x (step (waiting frames forms) x)
waiting_step frames forms s x w =
    cond_both (is_the_sign (codes "!") x) _ _ (Comes s x)
    (λ h. let P : Symbol → Type 0 = λ y. Waits (Not ∷ frames) forms (s ++ y ∷ []) in subst P (sym (sign_is (codes "!") x h)) (negates x.at w))
    (λ _. cond_both (is_the_sign (codes "(") x) _ _ (Comes s x)
    (λ h. let P : Symbol → Type 0 = λ y. Waits (Open ∷ frames) forms (s ++ y ∷ []) in subst P (sym (sign_is (codes "(") x h)) (opens x.at w))
    (λ _. cond_both (is_the_word (codes "true") x) _ _ (Comes s x)
    (λ h. let P : Symbol → Type 0 = λ y. SpellsAt Negations (y ∷ []) always in operand x TrueForm always w (subst P (sym (word_is (codes "true") x h)) (grammar.true_word x.at)) refl)
    (λ _. cond_both (is_the_word (codes "false") x) _ _ (Comes s x)
    (λ h. let P : Symbol → Type 0 = λ y. SpellsAt Negations (y ∷ []) never in operand x FalseForm never w (subst P (sym (word_is (codes "false") x h)) (grammar.false_word x.at)) refl)
    (λ _. cond_both (is_a_name x) _ _ (Comes s x)
    (λ h. let P : Symbol → Type 0 = λ y. SpellsAt Negations (y ∷ []) (feature (spot_of x)) in
    let n = name_is x h in operand x (FeatureForm (spot_of x)) (feature (spot_of x)) w (subst P (sym n.0) (grammar.feature_name (spot_of x) n.1)) refl)
    (λ _. tt)))))

-- ---- operators

below_kept : (rank : ℕ) (frames : List Frame) → Below rank (kept rank frames)
below_kept rank [] = tt
below_kept rank (f ∷ frames) = of (nat_le rank (rank_of f)) refl (below_kept rank frames)
  where
    of : (b : Bool) → nat_le rank (rank_of f) ≡ b → Below rank (kept rank frames) → Below rank (cond b (kept rank frames) (f ∷ frames))
    of true e below = below
    of false e below = leb-false rank (rank_of f) e

-- what is looser than an operator's left side has room for its result
abbrev pub HasRoom : Frame → ℕ → Type 0
HasRoom f rank = (frames : List Frame) → Below rank frames → tightness (hole frames) ≤ rank_of f

room : (least rank : ℕ) → 1 ≤ least → ((g : Frame) → rank_of g < rank → tightness (right_level g) ≤ least) → (frames : List Frame) → Below rank frames → tightness (hole frames) ≤ least
room least rank some all [] b = some
room least rank some all (g ∷ frames) b = all g b

room_same : HasRoom Same 1
room_same = room 1 1 (omega arith) of
  where
    of : (g : Frame) → rank_of g < 1 → tightness (right_level g) ≤ 1
    of Open l = omega arith
    of Same l = absurd (omega (arith, l))
    of Implies l = absurd (omega (arith, l))
    of Or l = absurd (omega (arith, l))
    of And l = absurd (omega (arith, l))
    of Not l = absurd (omega (arith, l))

room_implies : HasRoom Implies 3
room_implies = room 2 3 (omega arith) of
  where
    of : (g : Frame) → rank_of g < 3 → tightness (right_level g) ≤ 2
    of Open l = omega arith
    of Same l = omega arith
    of Implies l = omega arith
    of Or l = absurd (omega (arith, l))
    of And l = absurd (omega (arith, l))
    of Not l = absurd (omega (arith, l))

room_or : HasRoom Or 3
room_or = room 3 3 (omega arith) of
  where
    of : (g : Frame) → rank_of g < 3 → tightness (right_level g) ≤ 3
    of Open l = omega arith
    of Same l = omega arith
    of Implies l = omega arith
    of Or l = absurd (omega (arith, l))
    of And l = absurd (omega (arith, l))
    of Not l = absurd (omega (arith, l))

room_and : HasRoom And 4
room_and = room 4 4 (omega arith) of
  where
    of : (g : Frame) → rank_of g < 4 → tightness (right_level g) ≤ 4
    of Open l = omega arith
    of Same l = omega arith
    of Implies l = omega arith
    of Or l = omega arith
    of And l = absurd (omega (arith, l))
    of Not l = absurd (omega (arith, l))

operator : (f : Frame) (rank : ℕ) → 1 ≤ rank → rank ≤ 5 → tightness (left_level f) ≤ rank → HasRoom f rank → {op : Symbol} {form : FormulaForm} → IsOperator f op form
    → (frames : List Frame) (forms : List FormulaForm) (s : List Symbol) → Holds 5 frames forms s → Comes s op (take_operator f rank frames forms)
operator f rank some low left room_is {op = op} is frames forms s h =
    let loose : Holds rank frames forms s =
    record {
      before = h.before;
      s = h.s;
      t = h.t;
      value = h.value;
      level = h.level;
      waits = h.waits;
      spelled = h.spelled;
      fits = h.fits;
      tightly = omega (arith, low, h.tightly);
      forms_are = h.forms_are;
      symbols_are = h.symbols_are;
    } in
    let k = finish_top rank some frames forms s loose in
    let P : List FormulaForm → Type 0 = λ l. Waits (f ∷ kept rank frames) l (s ++ op ∷ []) in
    let Q : List Symbol → Type 0 = λ l. Waits (f ∷ kept rank frames) (k.before ++ nodes k.value) l in
    subst P (sym k.forms_are)
    (subst Q (sym (append_assoc k.s k.t (op ∷ [])) ∙ ap (λ l. l ++ op ∷ []) (sym k.symbols_are))
    (operates is k.waits (looser_level k.level (left_level f) (omega (arith, left, k.tightly)) k.spelled) (room_is (kept rank frames) (below_kept rank frames))))

-- ---- the end of a bracket, and of the formula

closing : (frames : List Frame) (forms : List FormulaForm) (s : List Symbol) (at : ℕ) → Holds 1 frames forms s → Comes s (sign (codes ")") at) (close_bracket frames forms)
closing [] forms s at h = tt
closing (Same ∷ frames) forms s at h = tt
closing (Implies ∷ frames) forms s at h = tt
closing (Or ∷ frames) forms s at h = tt
closing (And ∷ frames) forms s at h = tt
closing (Not ∷ frames) forms s at h = tt
closing (Open ∷ frames) forms s at h = of h.waits h.spelled h.fits h.forms_are h.symbols_are
  where
    fits_always : (level : FormulaLevel) → tightness level ≤ 5
    fits_always Equivalences = omega arith
    fits_always Implications = omega arith
    fits_always Disjunctions = omega arith
    fits_always Conjunctions = omega arith
    fits_always Negations = omega arith

    of : {before : List FormulaForm} {u t : List Symbol} {a : Formula} {level : FormulaLevel} → Waits (Open ∷ frames) before u → SpellsAt level t a → 1 ≤ tightness level
        → forms ≡ before ++ nodes a → s ≡ u ++ t → Holds 5 frames forms (s ++ sign (codes ")") at ∷ [])
    of {before = before} {t = t} {a = a} {level = level} (opens {s = v} o w) x fit e g =
        record {
          before = before;
          s = v;
          t = sign (codes "(") o ∷ (t ++ sign (codes ")") at ∷ []);
          value = a;
          level = Negations;
          waits = w;
          spelled = grammar.in_parentheses o at (looser_level level Equivalences fit x);
          fits = fits_always (hole frames);
          tightly = omega arith;
          forms_are = e;
          symbols_are =
              ap (λ l. l ++ sign (codes ")") at ∷ []) (g ∙ append_assoc v (sign (codes "(") o ∷ []) t) ∙ append_assoc v (sign (codes "(") o ∷ t) (sign (codes ")") at ∷ []);
        }
    of (operates is _ _ _) x fit e g = elim is [ ]

ending : (frames : List Frame) (forms : List FormulaForm) (s : List Symbol) (x : Symbol) → x ≡ sign (codes ";") x.at → Holds 1 frames forms s → Comes s x (end_formula frames forms)
ending (f ∷ frames) forms s x is h = tt
ending [] forms s x is h = (of h.waits h.spelled h.fits h.forms_are h.symbols_are, is)
  where
    of : {before : List FormulaForm} {u t : List Symbol} {a : Formula} {level : FormulaLevel} → Waits [] before u → SpellsAt level t a → 1 ≤ tightness level
        → forms ≡ before ++ nodes a → s ≡ u ++ t → Whole forms s
    of {a = a} {level = level} start x fit e g =
        let P : List Symbol → Type 0 = λ l. SpellsFormula l a in
        record { value = a; spelled = subst P (sym g) (looser_level level Equivalences fit x); same = e }

holding_step : (frames : List Frame) (forms : List FormulaForm) (s : List Symbol) (x : Symbol) → Holds 5 frames forms s → Comes s x (step (holding frames forms) x)
holding_step frames forms s x h =
    cond_both (is_either (codes "&") (codes "&&") x) _ _ (Comes s x) (λ t. one_and (is_the_sign (codes "&") x) refl t)
    (λ _. cond_both (is_either (codes "|") (codes "||") x) _ _ (Comes s x) (λ t. one_or (is_the_sign (codes "|") x) refl t)
    (λ _. cond_both (is_the_sign (codes "->") x) _ _ (Comes s x) (λ t. at_sign (take_operator Implies 3 frames forms) (codes "->") t (operator Implies 3 (omega arith) (omega arith) (omega arith) room_implies (is_implies x.at) frames forms s h))
    (λ _. cond_both (is_the_sign (codes "<->") x) _ _ (Comes s x) (λ t. at_sign (take_operator Same 1 frames forms) (codes "<->") t (operator Same 1 (omega arith) (omega arith) (omega arith) room_same (is_same x.at) frames forms s h))
    (λ _. cond_both (is_the_sign (codes ")") x) _ _ (Comes s x) (λ t. at_sign (close_bracket (kept 1 frames) (forms ++ passed 1 frames)) (codes ")") t (closing (kept 1 frames) (forms ++ passed 1 frames) s x.at done))
    (λ _. cond_both (is_the_sign (codes ";") x) _ _ (Comes s x) (λ t. ending (kept 1 frames) (forms ++ passed 1 frames) s x (sign_is (codes ";") x t) done) (λ _. tt))))))
  where
    done : Holds 1 (kept 1 frames) (forms ++ passed 1 frames) s
    done =
        finish_top 1 (omega arith) frames forms s
        (record {
          before = h.before;
          s = h.s;
          t = h.t;
          value = h.value;
          level = h.level;
          waits = h.waits;
          spelled = h.spelled;
          fits = h.fits;
          tightly = omega (arith, h.tightly);
          forms_are = h.forms_are;
          symbols_are = h.symbols_are;
        })

    at_sign : (m : Move) (text : List ℕ) → is_the_sign text x ≡ true → Comes s (sign text x.at) m → Comes s x m
    at_sign m text t c = let P : Symbol → Type 0 = λ y. Comes s y m in subst P (sym (sign_is text x t)) c

    one_and : (b : Bool) → is_the_sign (codes "&") x ≡ b → cond b (is_the_sign (codes "&") x) (is_the_sign (codes "&&") x) ≡ true → Comes s x (take_operator And 4 frames forms)
    one_and true e t = at_sign (take_operator And 4 frames forms) (codes "&") e (operator And 4 (omega arith) (omega arith) (omega arith) room_and (is_and x.at) frames forms s h)
    one_and false e t = at_sign (take_operator And 4 frames forms) (codes "&&") t (operator And 4 (omega arith) (omega arith) (omega arith) room_and (is_and_doubled x.at) frames forms s h)

    one_or : (b : Bool) → is_the_sign (codes "|") x ≡ b → cond b (is_the_sign (codes "|") x) (is_the_sign (codes "||") x) ≡ true → Comes s x (take_operator Or 3 frames forms)
    one_or true e t = at_sign (take_operator Or 3 frames forms) (codes "|") e (operator Or 3 (omega arith) (omega arith) (omega arith) room_or (is_or x.at) frames forms s h)
    one_or false e t = at_sign (take_operator Or 3 frames forms) (codes "||") t (operator Or 3 (omega arith) (omega arith) (omega arith) room_or (is_or_doubled x.at) frames forms s h)

pub step_comes : (state : State) (s : List Symbol) (x : Symbol) → Reached state s → Comes s x (step state x)
step_comes (waiting frames forms) s x r = waiting_step frames forms s x r
step_comes (holding frames forms) s x r = holding_step frames forms s x r
