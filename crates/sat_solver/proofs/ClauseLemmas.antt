-- Clauses under a trail: what is false, unit or settled.
use Rattle.std.proofs.Common.{◌≡◌, ℕ, ◌<◌, Bool, true, false, not, ◌||◌, List, [], ◌∷◌, ◌++◌, Option, Some, None, IsTrue, option_map, All, length, slice_get, get_or, arith, refl, sym, subst, ap, ◌∙◌, ◌⊎◌, inl, inr}
use Rattle.std.specs.Bool.{beq}
use Rattle.std.specs.Option.{option_eq}
use Rattle.std.proofs.lemmas.Bool.{true≢false, false≢true, and_parts, and_from, or_cases, or_left, or_right}
use Rattle.std.proofs.lemmas.List.Folds.{list_any-append, list_any_at}
use Rattle.std.proofs.lemmas.List.Elements.{All-head, All-tail}
use Rattle.std.proofs.lemmas.Option.{none-some, same_Some, get_or_from_slice_get, slice_get_within}
use Rattle.sat_clauses.specs.declared.literal.Lit.{Lit}
use Rattle.sat_clauses.specs.Literals.{same_literal}
use Rattle.sat_clauses.specs.ClauseLists.{has, without}
use Rattle.sat_clauses.proofs.SetLemmas.{one_literal, same_itself, has-without}
use Rattle.sat_clauses.proofs.ListLemmas.{same_either_way}
use Rattle.sat_solver.specs.declared.entry.Entry.{Entry}
use Rattle.sat_solver.specs.Entries.{value_in, truth_in, IsFreeIn, IsFalseIn, IsFalseClause, Forces, IsSettled}

not_both : (b : Bool) → b ≡ not b → ⊥
not_both true e = true≢false e
not_both false e = false≢true e

pub other_value : (a b : Bool) → beq a b ≡ false → a ≡ not b
other_value true true e = absurd (true≢false e)
other_value true false e = refl
other_value false true e = refl
other_value false false e = absurd (true≢false e)

pub same_value : (a b : Bool) → beq a b ≡ true → a ≡ b
same_value true true e = refl
same_value true false e = absurd (false≢true e)
same_value false true e = absurd (false≢true e)
same_value false false e = refl

pub has-push : (clause : List Lit) (x lit : Lit) → IsTrue (has (clause ++ x ∷ []) lit) → IsTrue (has clause lit) ⊎ IsTrue (same_literal lit x)
has-push clause x lit h =
    elim (or_cases (has clause lit) (same_literal lit x || false) (sym (list_any-append (same_literal lit) clause (x ∷ [])) ∙ h)) [
      | inl e ↦ inl e
      | inr e ↦ inr (only (same_literal lit x) e)
    ]
  where
    only : (b : Bool) → (b || false) ≡ true → b ≡ true
    only true e = refl
    only false e = e

pub has-front : (clause others : List Lit) (lit : Lit) → IsTrue (has clause lit) → IsTrue (has (clause ++ others) lit)
has-front clause others lit h = list_any-append (same_literal lit) clause others ∙ or_left (has clause lit) (has others lit) h

pub has-last : (clause : List Lit) (lit : Lit) → IsTrue (has (clause ++ lit ∷ []) lit)
has-last clause lit = list_any-append (same_literal lit) clause (lit ∷ []) ∙ or_right (has clause lit) (same_literal lit lit || false) (or_left (same_literal lit lit) false (same_itself lit))

pub has-at : (clause : List Lit) (k : ℕ) (d : Lit) → k < length clause → IsTrue (has clause (get_or clause k d))
has-at clause k d h = list_any_at (same_literal (get_or clause k d)) clause k d h (same_itself (get_or clause k d))

-- a literal of the clause other than one that is left out
pub in_without : (clause : List Lit) (out lit : Lit) → IsTrue (has clause lit) → same_literal out lit ≡ false → IsTrue (has (without clause out) lit)
in_without clause out lit h ne = has-without clause out lit ∙ and_from (has clause lit) (not (same_literal out lit)) h (ap not ne)

pub from_without : (clause : List Lit) (out lit : Lit) → IsTrue (has (without clause out) lit) → IsTrue (has clause lit) × (same_literal out lit ≡ false)
from_without clause out lit h =
    let parts = and_parts (has clause lit) (not (same_literal out lit)) (sym (has-without clause out lit) ∙ h) in
    (parts.0, is_not (same_literal out lit) parts.1)
  where
    is_not : (b : Bool) → not b ≡ true → b ≡ false
    is_not true e = sym e
    is_not false e = refl

module _ (entries : List Entry) where
  -- a clause with a true literal is settled
  pub settled_true : (clause : List Lit) (lit : Lit) → IsTrue (has clause lit) → value_in entries lit.var ≡ Some lit.positive → IsSettled entries clause
  settled_true clause lit there holds = record {
    not_false = λ all. not_both lit.positive (same_Some lit.positive (not lit.positive) (sym holds ∙ all lit there));
    not_unit = λ free is forces. by free is forces (same_literal free lit) refl;
  }
    where
      by : (free : Lit) → IsFreeIn entries free → Forces entries clause free → (b : Bool) → same_literal free lit ≡ b → ⊥
      by free is forces true e = none-some lit.positive (sym is ∙ ap (λ (l : Lit). value_in entries l.var) (one_literal free lit e) ∙ holds)
      by free is forces false e = not_both lit.positive (same_Some lit.positive (not lit.positive) (sym holds ∙ forces.others lit (in_without clause free lit there e)))

-- what holds of each literal of a clause holds of one that it has
pub All-has : (P : Lit → Type 0) (clause : List Lit) (lit : Lit) → All P clause → IsTrue (has clause lit) → P lit
All-has P [] lit all h = absurd (false≢true h)
All-has P (x ∷ xs) lit all h = elim (or_cases (same_literal lit x) (has xs lit) h) [
  | inl e ↦ subst P (sym (one_literal lit x e)) (All-head P x xs all)
  | inr e ↦ All-has P xs lit (All-tail P x xs all) e
]

-- whether a literal is true
pub truth_false : (entries : List Entry) (lit : Lit) → truth_in entries lit ≡ Some false → IsFalseIn entries lit
truth_false entries lit e = by (value_in entries lit.var) e
  where
    by : (o : Option Bool) → option_map (λ value. beq value lit.positive) o ≡ Some false → o ≡ Some (not lit.positive)
    by None e = cc
    by (Some v) e = ap (λ x. Some x) (other_value v lit.positive (same_Some (beq v lit.positive) false e))

pub truth_true : (entries : List Entry) (lit : Lit) → truth_in entries lit ≡ Some true → value_in entries lit.var ≡ Some lit.positive
truth_true entries lit e = by (value_in entries lit.var) e
  where
    by : (o : Option Bool) → option_map (λ value. beq value lit.positive) o ≡ Some true → o ≡ Some lit.positive
    by None e = cc
    by (Some v) e = ap (λ x. Some x) (same_value v lit.positive (same_Some (beq v lit.positive) true e))

pub truth_none : (entries : List Entry) (lit : Lit) → truth_in entries lit ≡ None → IsFreeIn entries lit
truth_none entries lit e = by (value_in entries lit.var) e
  where
    by : (o : Option Bool) → option_map (λ value. beq value lit.positive) o ≡ None → o ≡ None
    by None e = refl
    by (Some v) e = cc

pub false_truth : (entries : List Entry) (lit : Lit) → IsFalseIn entries lit → truth_in entries lit ≡ Some false
false_truth entries lit e = ap (option_map (λ value. beq value lit.positive)) e ∙ ap (λ x. Some x) (differs lit.positive)
  where
    differs : (b : Bool) → beq (not b) b ≡ false
    differs true = refl
    differs false = refl

pub truth_is : (o : Option Bool) (b : Bool) → option_eq beq o (Some b) ≡ true → o ≡ Some b
truth_is None b e = absurd (true≢false (sym e))
truth_is (Some v) b e = ap (λ x. Some x) (same_value v b e)

pub truth_told : (o : Option Bool) (b : Bool) → o ≡ Some b → option_eq beq o (Some b) ≡ true
truth_told o b e = ap (λ x. option_eq beq x (Some b)) e ∙ itself b
  where
    itself : (b : Bool) → beq b b ≡ true
    itself true = refl
    itself false = refl

-- of a clause without a literal, one literal more that is false or left out
pub false_without_push : (entries : List Entry) (clause : List Lit) (out lit : Lit) → IsFalseClause entries (without clause out) → (same_literal lit out ≡ true) ⊎ IsFalseIn entries lit → IsFalseClause entries (without (clause ++ lit ∷ []) out)
false_without_push entries clause out lit all here = λ x h.
    let parts = from_without (clause ++ lit ∷ []) out x h in
    by x parts.1 (has-push clause lit x parts.0) here
  where
    by : (x : Lit) → same_literal out x ≡ false → IsTrue (has clause x) ⊎ IsTrue (same_literal x lit) → (same_literal lit out ≡ true) ⊎ IsFalseIn entries lit → IsFalseIn entries x
    by x other (inl there) _ = all x (in_without clause out x there other)
    by x other (inr same) (inr falsified) = subst (IsFalseIn entries) (sym (one_literal x lit same)) falsified
    by x other (inr same) (inl left_out) = absurd (true≢false (sym left_out ∙ same_either_way lit out ∙ ap (same_literal out) (sym (one_literal x lit same)) ∙ other))

pub truth_left : (o : Option Bool) → option_eq beq o (Some true) ≡ false → option_eq beq o (Some false) ≡ false → o ≡ None
truth_left None e f = refl
truth_left (Some true) e f = absurd (true≢false e)
truth_left (Some false) e f = absurd (true≢false f)

-- a clause is false if one literal and all others are
pub false_all : (entries : List Entry) (clause : List Lit) (lit : Lit) → IsFalseIn entries lit → IsFalseClause entries (without clause lit) → IsFalseClause entries clause
false_all entries clause lit here others = λ x h. by x h (same_literal lit x) refl
  where
    by : (x : Lit) → IsTrue (has clause x) → (b : Bool) → same_literal lit x ≡ b → IsFalseIn entries x
    by x h true e = subst (IsFalseIn entries) (one_literal lit x e) here
    by x h false e = others x (in_without clause lit x h e)

-- the literal at a place, and the one literal of a short clause
pub has_got : (clause : List Lit) (k : ℕ) (lit : Lit) → slice_get clause k ≡ Some lit → IsTrue (has clause lit)
has_got clause k lit at = subst (λ l. IsTrue (has clause l)) (get_or_from_slice_get clause k lit lit at) (has-at clause k lit (slice_get_within clause k lit at))

pub one_of : (clause : List Lit) (lit x : Lit) → length clause < 2 → slice_get clause 0 ≡ Some lit → IsTrue (has clause x) → same_literal lit x ≡ true
one_of [] lit x few at h = cc
one_of (l ∷ []) lit x few at h = by (same_literal x l) refl h
  where
    by : (b : Bool) → same_literal x l ≡ b → IsTrue (b || false) → same_literal lit x ≡ true
    by true e _ = ap (λ y. same_literal y x) (sym (same_Some l lit at)) ∙ same_either_way l x ∙ e
    by false e there = absurd (false≢true there)
one_of (l ∷ m ∷ ls) lit x few at h = absurd (omega arith)

pub none_of : (clause : List Lit) → None ≡ slice_get clause 0 → clause ≡ []
none_of [] e = refl
none_of (l ∷ ls) e = cc
