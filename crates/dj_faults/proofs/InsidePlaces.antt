-- The least places of the faults in operations, each as for one fault.
use Rattle.std.proofs.Common.{◌≡◌, ◌⊎◌, inr, map, ℕ, ◌+◌, ◌≤◌, List, [], ◌∷◌, length, take, slice_get, Option, Some, None, sym, subst}
use Rattle.dj_faults.specs.LeastPlace.{IsLeastPlace, Among, first_place}
use Rattle.dj_tree.specs.Trees.{Operation}
use Rattle.dj_faults.specs.Inside.{Inside, RepeatedOperation, RepeatedMember, RepeatedParameter, OriginalOutside, InOperation, ClassTwice, InOperations}
use Rattle.dj_faults.specs.Places.{place_of, AreLeast}
use Rattle.dj_faults.specs.declared.operations.Places.{Places}
use Rattle.dj_faults.proofs.LeastLemmas.{least_nowhere, least_same, least_either, among_next, among_all}
use Rattle.dj_calculus.proofs.Members.{no_element, either}

pub nowhere_at : (P : Inside → ℕ → Type 0) (places : Places) → ((fault : Inside) (at : ℕ) → P fault at → ⊥)
    → ((fault : Inside) → place_of places fault ≡ None) → AreLeast P places
nowhere_at P places none is = λ fault. subst (IsLeastPlace (P fault)) (sym (is fault)) (least_nowhere (P fault) (none fault))

-- at the start of a list
pub nowhere_among : {X : Type 0} (P : Inside → X → ℕ → Type 0) (places : Places) (xs : List X) → ((fault : Inside) → place_of places fault ≡ None)
    → AreLeast (λ fault. Among (P fault) (take 0 xs)) places
nowhere_among P places [] is = nowhere_at (λ fault. Among (P fault) []) places (λ fault at h. no_element h.0 h.1) is
nowhere_among P places (x ∷ xs) is = nowhere_at (λ fault. Among (P fault) []) places (λ fault at h. no_element h.0 h.1) is

module _ (both one other : Places) (is : (fault : Inside) → place_of both fault ≡ first_place (place_of one fault) (place_of other fault)) where
  -- of either of two facts
  either_of : (P Q : Inside → ℕ → Type 0) → AreLeast P one → AreLeast Q other → AreLeast (λ fault at. P fault at ⊎ Q fault at) both
  either_of P Q p q = λ fault. subst (IsLeastPlace (λ at. P fault at ⊎ Q fault at)) (sym (is fault)) (least_either (place_of one fault) (place_of other fault) (p fault) (q fault))

  -- at one more thing of a list
  next_of : {X : Type 0} (P : Inside → X → ℕ → Type 0) (xs : List X) (i : ℕ) (x : X) → slice_get xs i ≡ Some x
      → AreLeast (λ fault. Among (P fault) (take i xs)) one → AreLeast (λ fault. P fault x) other → AreLeast (λ fault. Among (P fault) (take (i + 1) xs)) both
  next_of P xs i x there before here = λ fault.
      subst (IsLeastPlace (Among (P fault) (take (i + 1) xs))) (sym (is fault))
      (among_next (P fault) xs i x (place_of one fault) (place_of other fault) there (before fault) (here fault))

pub each_either : (P Q : Inside → ℕ → Type 0) (both one other : Places) → ((fault : Inside) → place_of both fault ≡ first_place (place_of one fault) (place_of other fault))
    → AreLeast P one → AreLeast Q other → AreLeast (λ fault at. P fault at ⊎ Q fault at) both
each_either P Q both one other is = either_of both one other is P Q

pub each_next : {X : Type 0} (P : Inside → X → ℕ → Type 0) (xs : List X) (i : ℕ) (x : X) (both one other : Places) → slice_get xs i ≡ Some x
    → ((fault : Inside) → place_of both fault ≡ first_place (place_of one fault) (place_of other fault))
    → AreLeast (λ fault. Among (P fault) (take i xs)) one → AreLeast (λ fault. P fault x) other → AreLeast (λ fault. Among (P fault) (take (i + 1) xs)) both
each_next P xs i x both one other there is = next_of both one other is P xs i x there

pub each_all : {X : Type 0} (P : Inside → X → ℕ → Type 0) (xs : List X) (i : ℕ) (places : Places) → length xs ≤ i → AreLeast (λ fault. Among (P fault) (take i xs)) places
    → AreLeast (λ fault. Among (P fault) xs) places
each_all P xs i places high is = λ fault. among_all (P fault) xs i (place_of places fault) high (is fault)

-- operations of a delta on one class, beside the faults in each operation
pub with_classes : {X : Type 0} (plain : X → Operation) (operations : List X) (class : Option ℕ) (places : Places) (first : Option ℕ)
    → first ≡ first_place class places.repeated_operation → IsLeastPlace (ClassTwice RepeatedOperation (map plain operations)) class
    → AreLeast (λ fault. Among (λ o. InOperation fault (plain o)) operations) places
    → AreLeast (λ fault. InOperations plain fault operations) (record places { repeated_operation = first })
with_classes plain operations class places first e two each RepeatedOperation =
    subst (IsLeastPlace (InOperations plain RepeatedOperation operations)) (sym e) (least_either class places.repeated_operation two (each RepeatedOperation))
with_classes plain operations class places first e two each RepeatedMember =
    least_same places.repeated_member (λ at h. inr h) (λ at h. either h (λ none. absurd none) (λ one. one)) (each RepeatedMember)
with_classes plain operations class places first e two each RepeatedParameter =
    least_same places.repeated_parameter (λ at h. inr h) (λ at h. either h (λ none. absurd none) (λ one. one)) (each RepeatedParameter)
with_classes plain operations class places first e two each OriginalOutside =
    least_same places.original_outside (λ at h. inr h) (λ at h. either h (λ none. absurd none) (λ one. one)) (each OriginalOutside)
