-- The chain of an accepted source is one, and parts have one chain at most.
use Rattle.std.proofs.Common.{◌≡◌, ℕ, zero, suc, ◌+◌, Bool, true, false, List, [], ◌∷◌, length, map, Option, Some, None, is_none, slice_get, Contains, refl, sym, ap, ◌∙◌, subst, arith}
use Rattle.std.proofs.lemmas.Option.{slice_get_within}
use Rattle.dj_tree.specs.Trees.{Spot, Part, Source}
use Rattle.dj_calculus.specs.Configurations.{is_named}
use Rattle.dj_calculus.specs.Parts.{first_part, comes_after, next_part, IsReached, begins, goes_on, parts_from, chain}
use Rattle.dj_calculus.specs.FaultPlaces.{parts_no_chain}
use Rattle.dj_calculus.specs.Accepted.{IsAccepted}
use Rattle.dj_calculus.proofs.Members.{found_within, mapped_within, mapped_from, named_within, named_from, same_some, not_both}
use Rattle.dj_calculus.proofs.Counting.{got_within, number_in, there_is}
use Rattle.dj_calculus.proofs.PartChain.{ReachedIn, at_first, after_that, found_does, names_it, one_of_name, one_number, chain_is_reached}
use Rattle.dj_source_laws.specs.Chains.{IsChain}
use Rattle.dj_source_laws.proofs.OnceLemmas.{parts_once}

-- ---- the chain of a source

module _ (parts : List Part) where
  reached_there : (p : Part) → IsReached parts p → Contains parts p
  reached_there p (begins q first) = found_within (λ (x : Part). is_none x.after) parts p first
  reached_there p (goes_on r q reached next) = found_within (comes_after r) parts p next

  -- the part of number k behind one that is reached in j steps is reached in j + k
  reached_at : (n : ℕ) (o : Option Part) (k j m : ℕ) (q : Part) → ((p : Part) → o ≡ Some p → ReachedIn parts j p) → m ≡ j + k
      → slice_get (parts_from n parts o) k ≡ Some q → ReachedIn parts m q
  reached_at zero o k j m q start e at = absurd cc
  reached_at (suc n) None k j m q start e at = absurd cc
  reached_at (suc n) (Some p) zero j m q start e at =
      let same : p ≡ q = cc in
      subst (λ x. ReachedIn parts m x) same (subst (λ x. ReachedIn parts x p) (omega (arith, e)) (start p refl))
  reached_at (suc n) (Some p) (suc k) j m q start e at =
      reached_at n (next_part parts p) k (suc j) m q (λ r next. after_that (start p refl) next) (omega (arith, e)) at

  head_of : (n : ℕ) (o : Option Part) (q : Part) → slice_get (parts_from n parts o) 0 ≡ Some q → o ≡ Some q
  head_of zero o q at = absurd cc
  head_of (suc n) None q at = absurd cc
  head_of (suc n) (Some p) q at = at

  next_at : (n : ℕ) (o : Option Part) (k : ℕ) (p q : Part) → slice_get (parts_from n parts o) k ≡ Some p → slice_get (parts_from n parts o) (suc k) ≡ Some q
      → next_part parts p ≡ Some q
  next_at zero o k p q at_k at_next = absurd cc
  next_at (suc n) None k p q at_k at_next = absurd cc
  next_at (suc n) (Some r) zero p q at_k at_next =
      let same : r ≡ p = cc in
      subst (λ x. next_part parts x ≡ Some q) same (head_of n (next_part parts r) q at_next)
  next_at (suc n) (Some r) (suc k) p q at_k at_next = next_at n (next_part parts r) k p q at_k at_next

none_of : {X : Type 0} (o : Option X) → is_none o ≡ true → o ≡ None
none_of None e = refl
none_of (Some x) e = absurd cc

module _ (source : Source) (accepted : IsAccepted source) where
  reached_in : (k : ℕ) (p : Part) → slice_get (chain source) k ≡ Some p → ReachedIn source.parts k p
  reached_in k p at = reached_at source.parts (length source.parts) (first_part source.parts) k 0 k p (λ q first. at_first first) (omega arith) at

  on_chain : (p : Part) → Contains (chain source) p → Contains source.parts p
  on_chain p there = reached_there source.parts p ((chain_is_reached source p (λ at fault. accepted _ at fault)).0 there)

  all_on_chain : (p : Part) → Contains source.parts p → Contains (chain source) p
  all_on_chain p there = by_name (is_named (map (λ (x : Part). x.name) (chain source)) p.name.text) refl
    where
      by_name : (b : Bool) → is_named (map (λ (x : Part). x.name) (chain source)) p.name.text ≡ b → Contains (chain source) p
      by_name true e =
          let x = named_from (map (λ (x : Part). x.name) (chain source)) p.name.text e in
          let q = mapped_from (λ (x : Part). x.name) (chain source) x.0 x.1 in
          subst (Contains (chain source)) (one_of_name source.parts q.0 p (parts_once source accepted) (on_chain q.0 q.1) there (ap (λ (y : Spot). y.text) q.2 ∙ x.2)) q.1
      by_name false e =
          absurd (accepted _ p.name.at (parts_no_chain p there (λ reached.
          let within = (chain_is_reached source p (λ at fault. accepted _ at fault)).1 reached in
          let named = named_within (map (λ (x : Part). x.name) (chain source)) p.name (mapped_within (λ (x : Part). x.name) (chain source) p within) in
          absurd cc)))

  pub has_chain : IsChain source.parts (chain source)
  has_chain = record {
    same = λ p. (on_chain p, all_on_chain p);
    once = λ i j x y at_i at_j same.
        let is = one_of_name source.parts x y (parts_once source accepted) (on_chain x (got_within (chain source) i x at_i)) (on_chain y (got_within (chain source) j y at_j)) same in
        one_number source.parts (parts_once source accepted) i j y (subst (ReachedIn source.parts i) is (reached_in i x at_i)) (reached_in j y at_j);
    first = λ p at.
        none_of p.after (found_does (λ (x : Part). is_none x.after) source.parts p (head_of source.parts (length source.parts) (first_part source.parts) p at));
    next = λ k p q at_k at_next.
        names_it source.parts p q (next_at source.parts (length source.parts) (first_part source.parts) k p q at_k at_next);
  }

-- ---- at most one

same_lists : {X : Type 0} (xs ys : List X) → ((k : ℕ) (x : X) → slice_get xs k ≡ Some x → slice_get ys k ≡ Some x)
    → ((k : ℕ) (y : X) → slice_get ys k ≡ Some y → slice_get xs k ≡ Some y) → xs ≡ ys
same_lists [] [] to back = refl
same_lists [] (y ∷ ys) to back = let there = back 0 y refl in absurd cc
same_lists (x ∷ xs) [] to back = let there = to 0 x refl in absurd cc
same_lists (x ∷ xs) (y ∷ ys) to back =
    let there = to 0 x refl in
    let first : y ≡ x = cc in
    let rest = same_lists xs ys (λ k. to (suc k)) (λ k. back (suc k)) in
    ap (λ z. z ∷ xs) (sym first) ∙ ap (λ zs. y ∷ zs) rest

module _ (parts one other : List Part) (a : IsChain parts one) (b : IsChain parts other) where
  over : (p : Part) → Contains one p → (k : ℕ) × (slice_get other k ≡ Some p)
  over p there = number_in other p ((b.same p).1 ((a.same p).0 there))

  to_other : (k : ℕ) (p : Part) → slice_get one k ≡ Some p → slice_get other k ≡ Some p
  to_other zero p at = placed (over p (got_within one 0 p at)).0 (over p (got_within one 0 p at)).1
    where
      placed : (k : ℕ) → slice_get other k ≡ Some p → slice_get other 0 ≡ Some p
      placed zero found = found
      placed (suc k) found =
          let before = there_is other k (omega (arith, slice_get_within other (suc k) p found)) in
          let after = b.next k before.0 p before.1 found in
          absurd (not_both after.0 p.after (a.first p at) after.1)
  to_other (suc k) p at =
      let before = there_is one k (omega (arith, slice_get_within one (suc k) p at)) in
      placed before.0 (a.next k before.0 p before.1 at) (to_other k before.0 before.1) (over p (got_within one (suc k) p at)).0 (over p (got_within one (suc k) p at)).1
    where
      placed : (q : Part) → (after : Spot) × (p.after ≡ Some after) × (after.text ≡ q.name.text) → slice_get other k ≡ Some q → (m : ℕ) → slice_get other m ≡ Some p
          → slice_get other (suc k) ≡ Some p
      placed q names there zero found = absurd (not_both names.0 p.after (b.first p found) names.1)
      placed q names there (suc m) found =
          let before = there_is other m (omega (arith, slice_get_within other (suc m) p found)) in
          let after = b.next m before.0 p before.1 found in
          let same = ap (λ (x : Spot). x.text) (same_some after.0 names.0 p.after after.1 names.1) in
          let number : m ≡ k = b.once m k before.0 q before.1 there (sym after.2 ∙ same ∙ names.2) in
          subst (λ n. slice_get other (suc n) ≡ Some p) number found

pub one_chain : (parts one other : List Part) → IsChain parts one → IsChain parts other → one ≡ other
one_chain parts one other a b = same_lists one other (to_other parts one other a b) (to_other parts other one b a)
