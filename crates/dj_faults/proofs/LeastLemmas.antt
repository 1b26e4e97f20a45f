-- Least places: of two facts, and of one more thing of a list.
use Rattle.std.proofs.Common.{◌≡◌, ◌⊎◌, inl, inr, ℕ, zero, suc, ◌+◌, ◌≤◌, Bool, true, false, cond, ◌||◌, nat_eq, List, [], ◌∷◌, ◌++◌, length, take, slice_get, min, Option, None, Some, refl, sym, ap, ◌∙◌, subst, arith}
use Rattle.std.proofs.lemmas.Option.{slice_get_within, get_or_from_slice_get}
use Rattle.std.proofs.lemmas.List.{take_more}
use Rattle.std.proofs.lemmas.List.Folds.{list_any_more}
use Rattle.std.proofs.lemmas.List.Elements.{Contains-push, Contains-push_cases, Contains-append_left}
use Rattle.dj_tree.specs.declared.declarations.Spot.{Spot}
use Rattle.dj_calculus.proofs.Members.{same_some, either}
use Rattle.dj_calculus.proofs.Counting.{earlier_or_last}
use Rattle.dj_faults.specs.Numbers.{is_met, Again}
use Rattle.dj_faults.specs.LeastPlace.{IsLeastPlace, Among, first_place}

pub least_nowhere : (P : ℕ → Type 0) → ((at : ℕ) → P at → ⊥) → IsLeastPlace P None
least_nowhere P none = record { stands = tt; least = λ at here. absurd (none at here) }

pub least_same : {P Q : ℕ → Type 0} (o : Option ℕ) → ((at : ℕ) → P at → Q at) → ((at : ℕ) → Q at → P at) → IsLeastPlace P o → IsLeastPlace Q o
least_same None to from is = record { stands = tt; least = λ at here. is.least at (from at here) }
least_same (Some k) to from is = record { stands = to k is.stands; least = λ at here. is.least at (from at here) }

one_or_other : (a b : ℕ) → (min a b ≡ a) ⊎ (min a b ≡ b)
one_or_other a b = grind arith

pub least_either : {P Q : ℕ → Type 0} (a b : Option ℕ) → IsLeastPlace P a → IsLeastPlace Q b → IsLeastPlace (λ at. P at ⊎ Q at) (first_place a b)
least_either None None p q = record { stands = tt; least = λ at here. either here (p.least at) (q.least at) }
least_either None (Some b) p q = record { stands = inr q.stands; least = λ at here. either here (λ h. absurd (p.least at h)) (q.least at) }
least_either (Some a) None p q = record { stands = inl p.stands; least = λ at here. either here (p.least at) (λ h. absurd (q.least at h)) }
least_either {P} {Q} (Some a) (Some b) p q =
    record {
      stands = either (one_or_other a b) (λ e. inl (subst P (sym e) p.stands)) (λ e. inr (subst Q (sym e) q.stands));
      least = λ at here. either here (λ h. lower a at (p.least at h)) (λ h. upper b at (q.least at h));
    }
  where
    lower : (k at : ℕ) → k ≤ at → min k b ≤ at
    lower k at h = omega arith

    upper : (k at : ℕ) → k ≤ at → min a k ≤ at
    upper k at h = omega arith

-- ---- along a list

pub among_next : {X : Type 0} (P : X → ℕ → Type 0) (xs : List X) (i : ℕ) (x : X) (a b : Option ℕ) → slice_get xs i ≡ Some x
    → IsLeastPlace (Among P (take i xs)) a → IsLeastPlace (P x) b → IsLeastPlace (Among P (take (i + 1) xs)) (first_place a b)
among_next {X} P xs i x a b is before here =
    let low = slice_get_within xs i x is in
    let more : take (i + 1) xs ≡ take i xs ++ x ∷ [] = take_more xs i x low ∙ ap (λ y. take i xs ++ y ∷ []) (get_or_from_slice_get xs i x x is) in
    rw more (least_same (first_place a b) to from (least_either a b before here))
  where
    to : (at : ℕ) → Among P (take i xs) at ⊎ P x at → Among P (take i xs ++ x ∷ []) at
    to at (inl found) = (found.0, Contains-append_left (take i xs) (x ∷ []) found.0 found.1, found.2)
    to at (inr stands) = (x, Contains-push (take i xs) x, stands)

    from : (at : ℕ) → Among P (take i xs ++ x ∷ []) at → Among P (take i xs) at ⊎ P x at
    from at found =
        either (Contains-push_cases (take i xs) x found.0 found.1) (λ earlier. inl (found.0, earlier, found.2))
        (λ same. inr (subst (λ y. P y at) (sym same) found.2))

-- ---- the place of one test

pub least_test : (b : Bool) (at : ℕ) → IsLeastPlace (λ place. (b ≡ true) × (at ≡ place)) (cond b (Some at) None)
least_test true at = record { stands = (refl, refl); least = λ place h. omega (arith, h.1) }
least_test false at = least_nowhere _ (λ place h. differ h.0)
  where
    differ : false ≡ true → ⊥
    differ e = absurd cc

pub least_untest : (b : Bool) (at : ℕ) → IsLeastPlace (λ place. (b ≡ false) × (at ≡ place)) (cond b None (Some at))
least_untest false at = record { stands = (refl, refl); least = λ place h. omega (arith, h.1) }
least_untest true at = least_nowhere _ (λ place h. differ h.0)
  where
    differ : true ≡ false → ⊥
    differ e = absurd cc

-- ---- names that stood before

pub again_next : (spots : List Spot) (i : ℕ) (x : Spot) (a : Option ℕ) → slice_get spots i ≡ Some x → IsLeastPlace (Again spots i) a
    → IsLeastPlace (Again spots (i + 1)) (first_place a (cond (is_met (take i spots) x.name.0) (Some x.at) None))
again_next spots i x a is before =
    least_same (first_place a (cond (is_met (take i spots) x.name.0) (Some x.at) None)) to from (least_either a (cond (is_met (take i spots) x.name.0) (Some x.at) None) before (least_test (is_met (take i spots) x.name.0) x.at))
  where
    to : (at : ℕ) → Again spots i at ⊎ ((is_met (take i spots) x.name.0 ≡ true) × (x.at ≡ at)) → Again spots (i + 1) at
    to at (inl h) = record { number = h.number; x = h.x; within = let low = h.within in omega arith; there = h.there; met = h.met; here = h.here }
    to at (inr h) = record { number = i; x = x; within = omega arith; there = is; met = h.0; here = h.1 }

    last : (n : ℕ) (y : Spot) (at : ℕ) → n ≡ i → slice_get spots n ≡ Some y → is_met (take n spots) y.name.0 ≡ true → y.at ≡ at → (is_met (take i spots) x.name.0 ≡ true) × (x.at ≡ at)
    last n y at e there m here =
        let same : y ≡ x = same_some y x (slice_get spots i) (ap (slice_get spots) (sym e) ∙ there) is in
        (ap (λ k. is_met (take k spots) x.name.0) (sym e) ∙ ap (λ z. is_met (take n spots) z.name.0) (sym same) ∙ m, ap (λ z. z.at) (sym same) ∙ here)

    from : (at : ℕ) → Again spots (i + 1) at → Again spots i at ⊎ ((is_met (take i spots) x.name.0 ≡ true) × (x.at ≡ at))
    from at h = either (earlier_or_last h.number i h.within) (λ low. inl (record { number = h.number; x = h.x; within = low; there = h.there; met = h.met; here = h.here })) (λ e. inr (last h.number h.x at e h.there h.met h.here))

or_cond : (a b : Bool) → (a || b) ≡ cond b true a
or_cond true true = refl
or_cond true false = refl
or_cond false true = refl
or_cond false false = refl

pub met_next : (spots : List Spot) (i : ℕ) (x : Spot) (n : ℕ) → slice_get spots i ≡ Some x → is_met (take (i + 1) spots) n ≡ cond (nat_eq x.name.0 n) true (is_met (take i spots) n)
met_next spots i x n is =
    list_any_more (λ y. nat_eq y.name.0 n) spots i x (slice_get_within spots i x is)
    ∙ ap (λ (y : Spot). is_met (take i spots) n || nat_eq y.name.0 n) (get_or_from_slice_get spots i x x is) ∙ or_cond (is_met (take i spots) n) (nat_eq x.name.0 n)

take_all : {X : Type 0} (xs : List X) (i : ℕ) → length xs ≤ i → take i xs ≡ xs
take_all [] zero high = refl
take_all [] (suc i) high = refl
take_all (x ∷ xs) zero high = absurd (omega arith)
take_all (x ∷ xs) (suc i) high = ap (λ ys. x ∷ ys) (take_all xs i (omega arith))

-- at the end of the list
pub among_all : {X : Type 0} (P : X → ℕ → Type 0) (xs : List X) (i : ℕ) (o : Option ℕ) → length xs ≤ i → IsLeastPlace (Among P (take i xs)) o → IsLeastPlace (Among P xs) o
among_all P xs i o high is = subst (λ ys. IsLeastPlace (Among P ys) o) (take_all xs i high) is
