-- The least of what two facts hold of, and of what holds for one more element of a list.
use Rattle.std.proofs.Common.{◌≡◌, ◌⊎◌, inl, inr, ℕ, ◌+◌, ◌≤◌, Bool, true, false, cond, List, [], ◌∷◌, ◌++◌, length, map, take, slice_get, Option, None, Some, refl, sym, ap, ◌∙◌, subst}
use Rattle.std.proofs.lemmas.Option.{slice_get_within, get_or_from_slice_get}
use Rattle.std.proofs.lemmas.List.{take_more, take_all}
use Rattle.std.proofs.lemmas.List.Elements.{Contains-push, Contains-push_cases, Contains-append_left}
use Rattle.dj_calculus.proofs.Members.{either, no_element, mapped_within, mapped_from}
use Rattle.dj_apply.specs.Least.{IsLeastBy, IsEarlierOf, Among}

module _ {X : Type 0} (Before : X → X → Type 0) where
  pub least_nowhere : (P : X → Type 0) → ((x : X) → ¬ (P x)) → IsLeastBy Before P None
  least_nowhere P none = none

  pub least_same : {P Q : X → Type 0} (o : Option X) → ((x : X) → P x → Q x) → ((x : X) → Q x → P x) → IsLeastBy Before P o → IsLeastBy Before Q o
  least_same None to from is = λ x q. is x (from x q)
  least_same (Some x) to from is = (to x is.0, λ y q. is.1 y (from y q))

  -- the one that there is
  pub least_one : {P : X → Type 0} (x : X) → Before x x → P x → ((y : X) → P y → y ≡ x) → IsLeastBy Before P (Some x)
  least_one {P} x itself here only = (here, λ y there. subst (Before x) (sym (only y there)) itself)

  -- one that there is where a test says so
  pub least_test : {P : X → Type 0} (b : Bool) (x : X) (o : Option X) → o ≡ cond b (Some x) None → Before x x → (b ≡ true → P x) → ((y : X) → P y → (b ≡ true) × (y ≡ x)) → IsLeastBy Before P o
  least_test {P} true x o is itself here only = subst (IsLeastBy Before P) (sym is) (least_one x itself (here refl) (λ y there. (only y there).1))
  least_test {P} false x o is itself here only = subst (IsLeastBy Before P) (sym is) (λ y there. differ (only y there).0)
    where
      differ : false ≡ true → ⊥
      differ e = absurd cc

  module _ (joins : (x y z : X) → Before x y → Before y z → Before x z) where
    earlier_first : (P Q : X → Type 0) (x y : X) (o : Option X) → P x × ((z : X) → P z → Before x z) → Q y × ((z : X) → Q z → Before y z) → ((o ≡ Some x) × Before x y) ⊎ ((o ≡ Some y) × Before y x)
        → IsLeastBy Before (λ z. P z ⊎ Q z) o
    earlier_first P Q x y o p q (inl e) =
        subst (IsLeastBy Before (λ z. P z ⊎ Q z)) (sym e.0) (inl p.0, λ z here. either here (λ h. p.1 z h) (λ h. joins x y z e.1 (q.1 z h)))
    earlier_first P Q x y o p q (inr e) =
        subst (IsLeastBy Before (λ z. P z ⊎ Q z)) (sym e.0) (inr q.0, λ z here. either here (λ h. joins y x z e.1 (p.1 z h)) (λ h. q.1 z h))

    pub least_either : (P Q : X → Type 0) (a b o : Option X) → IsLeastBy Before P a → IsLeastBy Before Q b → IsEarlierOf Before a b o → IsLeastBy Before (λ z. P z ⊎ Q z) o
    least_either P Q None b o p q e =
        subst (IsLeastBy Before (λ z. P z ⊎ Q z)) (sym e) (least_same {P = Q} {Q = λ z. P z ⊎ Q z} b (λ z h. inr h) (λ z h. either h (λ no. absurd (p z no)) (λ yes. yes)) q)
    least_either P Q (Some x) None o p q e =
        subst (IsLeastBy Before (λ z. P z ⊎ Q z)) (sym e) (inl p.0, λ z h. either h (λ yes. p.1 z yes) (λ no. absurd (q z no)))
    least_either P Q (Some x) (Some y) o p q e = earlier_first P Q x y o p q e

    -- ---- along a list

    pub among_next : {A : Type 0} (P : A → X → Type 0) (elements : List A) (i : ℕ) (a : A) (first here o : Option X) → slice_get elements i ≡ Some a
        → IsLeastBy Before (Among P (take i elements)) first → IsLeastBy Before (P a) here → IsEarlierOf Before first here o → IsLeastBy Before (Among P (take (i + 1) elements)) o
    among_next {A} P elements i a first here o is before now e =
        let low = slice_get_within elements i a is in
        let more : take (i + 1) elements ≡ take i elements ++ a ∷ [] = take_more elements i a low ∙ ap (λ y. take i elements ++ y ∷ []) (get_or_from_slice_get elements i a a is) in
        subst (λ xs. IsLeastBy Before (Among P xs) o) (sym more) (least_same o to from (least_either (Among P (take i elements)) (P a) first here o before now e))
      where
        to : (x : X) → Among P (take i elements) x ⊎ P a x → Among P (take i elements ++ a ∷ []) x
        to x (inl found) = (found.0, Contains-append_left (take i elements) (a ∷ []) found.0 found.1, found.2)
        to x (inr stands) = (a, Contains-push (take i elements) a, stands)

        from : (x : X) → Among P (take i elements ++ a ∷ []) x → Among P (take i elements) x ⊎ P a x
        from x found =
            either (Contains-push_cases (take i elements) a found.0 found.1) (λ earlier. inl (found.0, earlier, found.2))
            (λ same. inr (subst (λ b. P b x) (sym same) found.2))

  pub among_none : {A : Type 0} (P : A → X → Type 0) → IsLeastBy Before (Among P []) None
  among_none P x found = no_element found.0 found.1

  -- at the end of the list
  pub among_all : {A : Type 0} (P : A → X → Type 0) (elements : List A) (i : ℕ) (o : Option X) → length elements ≤ i → IsLeastBy Before (Among P (take i elements)) o → IsLeastBy Before (Among P elements) o
  among_all P elements i o high is = subst (λ xs. IsLeastBy Before (Among P xs) o) (take_all i elements high) is

  -- of a list that is made of another
  pub among_mapped : {A B : Type 0} (f : A → B) (P : B → X → Type 0) (elements : List A) (o : Option X) → IsLeastBy Before (Among (λ a. P (f a)) elements) o → IsLeastBy Before (Among P (map f elements)) o
  among_mapped {A} {B} f P elements o is = least_same o (λ x found. (f found.0, mapped_within f elements found.0 found.1, found.2)) back is
    where
      back : (x : X) → Among P (map f elements) x → Among (λ a. P (f a)) elements x
      back x found = let from = mapped_from f elements found.0 found.1 in (from.0, from.1, subst (λ b. P b x) (sym from.2) found.2)
