-- The least of instances that stand in one place or another.
use Rattle.std.proofs.lemmas.Option.{slice_get-get_or}
use Rattle.std.proofs.Common.{◌≡◌, ◌⊎◌, inl, inr, ℕ, ◌+◌, ◌<◌, List, length, get_or, Option, Some, None, slice_get, sym, ap, ◌∙◌, subst, arith}
use Rattle.dj_tree.specs.declared.source.Instance.{Instance}
use Rattle.dj_calculus.specs.Instances.{IsNotAfter, IsLeast}
use Rattle.dj_calculus.proofs.Counting.{earlier_or_last}
use Rattle.dj_calculus.proofs.Members.{either, same_some}
use Rattle.ifj_typing.specs.Least.{Judges, IsLeastOf, IsLesser, Before, EachBefore, OfElement}

pub not_after : (i j k : Instance) → IsNotAfter i j → IsNotAfter j k → IsNotAfter i k
not_after i j k one other = grind arith

module _ {N M K : Type 0} (P Q R : Instance → Type 0) (nothing : N → (i : Instance) → ¬ (P i)) (none : M → (i : Instance) → ¬ (Q i)) (both : N → M → K)
    (split : (i : Instance) → R i → P i ⊎ Q i) (left : (i : Instance) → P i → R i) (right : (i : Instance) → Q i → R i) where
  only_second : (b : Option Instance) → N → Judges M Q b → Judges K R b
  only_second None n m = both n m
  only_second (Some j) n m =
      record { is = right j m.is; least = λ i r. either (split i r) (λ p. absurd (nothing n i p)) (λ q. m.least i q) }

  only_first : (i : Instance) → IsLeast P i → M → IsLeast R i
  only_first j l m = record { is = left j l.is; least = λ i r. either (split i r) (λ p. l.least i p) (λ q. absurd (none m i q)) }

  of_both : (a b : Instance) (r : Option Instance) → IsLeast P a → IsLeast Q b → ((r ≡ Some a) × IsNotAfter a b) ⊎ ((r ≡ Some b) × IsNotAfter b a) → Judges K R r
  of_both a b r p q (inl (is, first)) =
      subst (Judges K R) (sym is) (record { is = left a p.is; least = λ i s. either (split i s) (λ x. p.least i x) (λ x. not_after a b i first (q.least i x)) })
  of_both a b r p q (inr (is, first)) =
      subst (Judges K R) (sym is) (record { is = right b q.is; least = λ i s. either (split i s) (λ x. not_after b a i first (p.least i x)) (λ x. q.least i x) })

  -- the lesser of two is the least of all
  pub judges_both : (a b r : Option Instance) → Judges N P a → Judges M Q b → IsLesser a b r → Judges K R r
  judges_both None b r n q is = subst (Judges K R) (sym is) (only_second b n q)
  judges_both (Some a) None r p m is = subst (Judges K R) (sym is) (only_first a p m)
  judges_both (Some a) (Some b) r p q is = of_both a b r p q is

-- ---- numbers

pub judges_none : (N : ℕ → Type 0) (P : ℕ → Instance → Type 0) → Judges (EachBefore N 0) (Before P 0) None
judges_none N P = λ k low. absurd (omega arith)

pub judges_next : (N : ℕ → Type 0) (P : ℕ → Instance → Type 0) (n : ℕ) → ((k : ℕ) → N k → (i : Instance) → ¬ (P k i)) → (a b r : Option Instance)
    → Judges (EachBefore N n) (Before P n) a → Judges (N n) (P n) b → IsLesser a b r → Judges (EachBefore N (n + 1)) (Before P (n + 1)) r
judges_next N P n apart a b r =
    judges_both (Before P n) (P n) (Before P (n + 1)) (λ all i b. apart b.0 (all b.0 b.1) i b.2) (apart n)
    (λ all last k low. either (earlier_or_last k n low) (all k) (λ is. subst N (sym is) last))
    (λ i b. either (earlier_or_last b.0 n b.1) (λ low. inl (b.0, low, b.2)) (λ is. inr (subst (λ k. P k i) is b.2)))
    (λ i b. (b.0, omega (arith, b.1), b.2)) (λ i p. (n, omega arith, p)) a b r

-- the same where None says that there is none
pub least_start : (P : ℕ → Instance → Type 0) → IsLeastOf (Before P 0) None
least_start P = λ i b. absurd (omega (arith, b.1))

pub least_next : (P : ℕ → Instance → Type 0) (n : ℕ) (a b r : Option Instance) → IsLeastOf (Before P n) a → IsLeastOf (P n) b → IsLesser a b r
    → IsLeastOf (Before P (n + 1)) r
least_next P n a b r =
    judges_both (Before P n) (P n) (Before P (n + 1)) (λ none. none) (λ none. none)
    (λ before last i b. either (earlier_or_last b.0 n b.1) (λ low. before i (b.0, low, b.2)) (λ is. last i (subst (λ k. P k i) is b.2)))
    (λ i b. either (earlier_or_last b.0 n b.1) (λ low. inl (b.0, low, b.2)) (λ is. inr (subst (λ k. P k i) is b.2)))
    (λ i b. (b.0, omega (arith, b.1), b.2)) (λ i p. (n, omega arith, p)) a b r

-- the least of the same instances
pub same_least : (P Q : Instance → Type 0) → ((i : Instance) → P i → Q i) → ((i : Instance) → Q i → P i) → (i : Instance) → IsLeast P i → IsLeast Q i
same_least P Q to from i l = record { is = to i l.is; least = λ j q. l.least j (from j q) }

pub same_least_of : (P Q : Instance → Type 0) → ((i : Instance) → P i → Q i) → ((i : Instance) → Q i → P i) → (o : Option Instance) → IsLeastOf P o → IsLeastOf Q o
same_least_of P Q to from None l = λ i q. l i (from i q)
same_least_of P Q to from (Some i) l = same_least P Q to from i l

-- the least of one element
pub least_element : {X : Type 0} (P : X → Instance → Type 0) (xs : List X) (k : ℕ) (x : X) (o : Option Instance) → slice_get xs k ≡ Some x → IsLeastOf (P x) o → IsLeastOf (OfElement P xs k) o
least_element P xs k x o here =
    same_least_of (P x) (OfElement P xs k) (λ i p. (x, here, p)) (λ i p. subst (λ y. P y i) (same_some p.0 x (slice_get xs k) p.1 here) p.2) o

-- the same judged
pub same_judges : {N M : Type 0} (P Q : Instance → Type 0) → (N → M) → ((i : Instance) → P i → Q i) → ((i : Instance) → Q i → P i) → (o : Option Instance) → Judges N P o → Judges M Q o
same_judges P Q nothing to from None n = nothing n
same_judges P Q nothing to from (Some i) l = same_least P Q to from i l

-- one element more of a list, and all of them
pub element_next : {X : Type 0} (P : X → Instance → Type 0) (xs : List X) (k : ℕ) (x : X) (a b r : Option Instance) → k < length xs → x ≡ get_or xs k x → IsLeastOf (Before (OfElement P xs) k) a
    → IsLeastOf (P x) b → IsLesser a b r → IsLeastOf (Before (OfElement P xs) (k + 1)) r
element_next P xs k x a b r low is before here =
    least_next (OfElement P xs) k a b r before (least_element P xs k x b (slice_get-get_or xs k x low ∙ ap Some (sym is)) here)

pub all_elements : {X : Type 0} (P : X → Instance → Type 0) (xs : List X) (n : ℕ) (o : Option Instance) → n ≡ length xs → IsLeastOf (Before (OfElement P xs) n) o
    → IsLeastOf (Before (OfElement P xs) (length xs)) o
all_elements P xs n o is = subst (λ k. IsLeastOf (Before (OfElement P xs) k) o) is

-- one or the other
pub least_of_both : (P Q : Instance → Type 0) (a b r : Option Instance) → IsLeastOf P a → IsLeastOf Q b → IsLesser a b r → IsLeastOf (λ i. P i ⊎ Q i) r
least_of_both P Q a b r =
    judges_both P Q (λ i. P i ⊎ Q i) (λ none. none) (λ none. none) (λ none never i s. either s (none i) (never i)) (λ i s. s) (λ i p. inl p) (λ i q. inr q) a b r

pub index_next : {X : Type 0} (P : X → Instance → Type 0) (xs : List X) (k : ℕ) (d : X) (a b r : Option Instance) → k < length xs → IsLeastOf (Before (OfElement P xs) k) a
    → IsLeastOf (P (get_or xs k d)) b → IsLesser a b r → IsLeastOf (Before (OfElement P xs) (k + 1)) r
index_next P xs k d a b r low before here =
    least_next (OfElement P xs) k a b r before (least_element P xs k (get_or xs k d) b (slice_get-get_or xs k d low) here)
