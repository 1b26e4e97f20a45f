-- The chain of parts has just the parts that are reached, where no two share a name. For clients: parts by the number of steps in which they
-- are reached.
use Rattle.std.proofs.Common.{◌≡◌, ◌⊎◌, ◌↔◌, ℕ, zero, suc, ◌<◌, Bool, true, false, cond, List, [], ◌∷◌, length, map, Option, Some, None, is_none, slice_get, Contains, refl, sym, ap, ◌∙◌, subst, arith}
use Rattle.std.specs.List.{find}
use Rattle.std.specs.Option.{option_map_or}
use Rattle.std.specs.Str.{bytes_eq}
use Rattle.std.proofs.lemmas.Slice.Eq.{bytes_eq-Decides}
use Rattle.dj_names.specs.Texts.{Text}
use Rattle.dj_tree.specs.Trees.{Spot, Part, Source}
use Rattle.dj_calculus.specs.Parts.{first_part, comes_after, next_part, IsReached, begins, goes_on, parts_from, chain}
use Rattle.dj_calculus.specs.Faults.{RepeatedPart}
use Rattle.dj_calculus.specs.FaultPlaces.{FaultStands, repeated_part}
use Rattle.dj_calculus.proofs.Counting.{as_many, got_within}
use Rattle.dj_calculus.proofs.Members.{same_some, no_element, first_or_other, either, mapped_within, found_within, StandOnce, later_once, first_apart}

-- ---- lists

first_does : {X : Type 0} (p : X → Bool) (b : Bool) (x y : X) (o : Option X) → p y ≡ b → (o ≡ Some x → p x ≡ true) → cond b (Some y) o ≡ Some x → p x ≡ true
first_does p true x y o is rest e = let same : y ≡ x = cc in subst (λ z. p z ≡ true) same is
first_does p false x y o is rest e = rest e

-- what is found does what is asked
pub found_does : {X : Type 0} (p : X → Bool) (xs : List X) (x : X) → find p xs ≡ Some x → p x ≡ true
found_does p [] x e = absurd cc
found_does p (y ∷ xs) x e = first_does p (p y) x y (find p xs) refl (found_does p xs x) e

-- ---- parts by their names

pub one_of_name : (parts : List Part) (p q : Part) → StandOnce (map (λ x. x.name) parts) → Contains parts p → Contains parts q → p.name.text ≡ q.name.text → p ≡ q
one_of_name [] p q once at_p at_q same = no_element p at_p
one_of_name (z ∷ parts) p q once at_p at_q same =
    either (first_or_other z p parts at_p)
    (λ is_p. either (first_or_other z q parts at_q) (λ is_q. sym is_p ∙ is_q)
    (λ later. absurd (first_apart z.name q.name (map (λ x. x.name) parts) once (mapped_within (λ x. x.name) parts q later) (ap (λ x. x.name.text) is_p ∙ same))))
    (λ later_p. either (first_or_other z q parts at_q)
    (λ is_q. absurd (first_apart z.name p.name (map (λ x. x.name) parts) once (mapped_within (λ x. x.name) parts p later_p) (ap (λ x. x.name.text) is_q ∙ sym same)))
    (λ later_q. one_of_name parts p q (later_once z.name (map (λ x. x.name) parts) once) later_p later_q same))

-- the name behind `after`
after_name : (o : Option Spot) (x : Text) → option_map_or (λ name. bytes_eq name.text x) o false ≡ true → (a : Spot) × (o ≡ Some a) × (a.text ≡ x)
after_name None x e = absurd cc
after_name (Some a) x e = (a, refl, (bytes_eq-Decides a.text x).0 e)

none_there : {X : Type 0} (o : Option X) (x : X) → is_none o ≡ true → o ≡ Some x → ⊥
none_there None x e is = absurd cc
none_there (Some y) x e is = absurd cc

module _ (parts : List Part) where
  -- reached in this number of steps
  pub data ReachedIn : ℕ → Part → Type 0 where
    at_first : {p : Part} → first_part parts ≡ Some p → ReachedIn 0 p
    after_that : {k : ℕ} {p q : Part} → ReachedIn k p → next_part parts p ≡ Some q → ReachedIn (suc k) q

  pub counted : (p : Part) → IsReached parts p → (k : ℕ) × ReachedIn k p
  counted p (begins q first) = (0, at_first first)
  counted p (goes_on r q reached next) = let before = counted r reached in (suc before.0, after_that before.1 next)

  pub reached_within : (k : ℕ) (p : Part) → ReachedIn k p → Contains parts p
  reached_within k p (at_first first) = found_within (λ x. is_none x.after) parts p first
  reached_within k p (after_that {p = r} reached next) = found_within (comes_after r) parts p next

  pub names_it : (p q : Part) → next_part parts p ≡ Some q → (a : Spot) × (q.after ≡ Some a) × (a.text ≡ p.name.text)
  names_it p q next = after_name q.after p.name.text (found_does (comes_after p) parts q next)

  pub lacks_after : (p : Part) (a : Spot) → first_part parts ≡ Some p → p.after ≡ Some a → ⊥
  lacks_after p a first is = none_there p.after a (found_does (λ x. is_none x.after) parts p first) is

  module _ (once : StandOnce (map (λ x. x.name) parts)) where
    pub one_before : (p r q : Part) → Contains parts p → Contains parts r → next_part parts p ≡ Some q → next_part parts r ≡ Some q → p ≡ r
    one_before p r q at_p at_r to_q from_r =
        let a = names_it p q to_q in
        let b = names_it r q from_r in
        one_of_name parts p r once at_p at_r (sym a.2 ∙ ap (λ x. x.text) (same_some a.0 b.0 q.after a.1 b.1) ∙ b.2)

    -- no part is reached twice
    pub one_number : (i j : ℕ) (p : Part) → ReachedIn i p → ReachedIn j p → i ≡ j
    one_number i j p (at_first first) (at_first other) = refl
    one_number i j p (at_first first) (after_that {p = r} reached next) = let a = names_it r p next in absurd (lacks_after p a.0 first a.1)
    one_number i j p (after_that {p = r} reached next) (at_first first) = let a = names_it r p next in absurd (lacks_after p a.0 first a.1)
    one_number i j p (after_that {k = k} {p = q} reached next) (after_that {k = m} {p = r} other from) =
        let same = one_before q r p (reached_within k q reached) (reached_within m r other) next from in
        ap suc (one_number k m q reached (subst (ReachedIn m) (sym same) other))

    -- the parts reached before
    reached_before : (k : ℕ) (p : Part) → ReachedIn k p → (i : ℕ) → i < suc k → (x : Part) × ReachedIn i x × Contains parts x
    reached_before k p (at_first first) zero low = (p, at_first first, reached_within 0 p (at_first first))
    reached_before k p (at_first first) (suc i) low = absurd (omega arith)
    reached_before k p (after_that {k = j} {p = r} reached next) i low =
        either (earlier_or_last i (suc j) low) (λ earlier. reached_before j r reached i earlier)
        (λ last. (p, subst (λ n. ReachedIn n p) (sym last) (after_that reached next), reached_within (suc j) p (after_that reached next)))
      where
        earlier_or_last : (i n : ℕ) → i < suc n → (i < n) ⊎ (i ≡ n)
        earlier_or_last i n low = grind arith

    pub few_steps : (k : ℕ) (p : Part) → ReachedIn k p → k < length parts
    few_steps k p reached = as_many (suc k) parts ReachedIn (reached_before k p reached) one_number

  -- ---- the chain

  pub next_in : (n : ℕ) (o : Option Part) (k : ℕ) (p q : Part) → slice_get (parts_from n parts o) k ≡ Some p → next_part parts p ≡ Some q → suc k < n
      → slice_get (parts_from n parts o) (suc k) ≡ Some q
  next_in zero o k p q e next low = absurd (omega arith)
  next_in (suc n) None k p q e next low = absurd cc
  next_in (suc zero) (Some r) zero p q e next low = absurd (omega arith)
  next_in (suc (suc n)) (Some r) zero p q e next low =
      let same : r ≡ p = cc in
      let later : next_part parts r ≡ Some q = subst (λ x. next_part parts x ≡ Some q) (sym same) next in
      subst (λ o. slice_get (parts_from (suc n) parts o) 0 ≡ Some q) (sym later) refl
  next_in (suc n) (Some r) (suc k) p q e next low = next_in n (next_part parts r) k p q e next (omega arith)

  pub at_number : (n k : ℕ) (p : Part) → ReachedIn k p → k < n → slice_get (parts_from n parts (first_part parts)) k ≡ Some p
  at_number zero k p reached low = absurd (omega arith)
  at_number (suc n) k p (at_first first) low = subst (λ o. slice_get (parts_from (suc n) parts o) 0 ≡ Some p) (sym first) refl
  at_number (suc n) k p (after_that {k = j} {p = r} reached next) low =
      next_in (suc n) (first_part parts) j r p (at_number (suc n) j r reached (omega arith)) next (omega arith)

  pub reached_on : (n : ℕ) (o : Option Part) (p : Part) → ((q : Part) → o ≡ Some q → IsReached parts q) → Contains (parts_from n parts o) p → IsReached parts p
  reached_on zero o p reached within = no_element p within
  reached_on (suc n) None p reached within = no_element p within
  reached_on (suc n) (Some r) p reached within =
      either (first_or_other r p (parts_from n parts (next_part parts r)) within) (λ same. subst (IsReached parts) same (reached r refl))
      (λ later. reached_on n (next_part parts r) p (λ q next. goes_on r q (reached r refl) next) later)

pub chain_is_reached : (source : Source) (p : Part) → ((at : ℕ) → ¬ (FaultStands source RepeatedPart at)) → Contains (chain source) p ↔ IsReached source.parts p
chain_is_reached source p no_repeat =
    let parts = source.parts in (
      reached_on parts (length parts) (first_part parts) p begins,
      λ reached.
          let it = counted parts p reached in
          let few = few_steps parts (λ at r. no_repeat at (repeated_part at r)) it.0 p it.1 in
          got_within (chain source) it.0 p (at_number parts (length parts) it.0 p it.1 few),
    )
