-- The least of instances, and of those that stand before a number.
use Rattle.std.specs.Prelude.{◌≡◌, ◌⊎◌, ℕ, ◌<◌, List, Option, Some, None, slice_get}
use Rattle.std.specs.declared.result.Result.TheVariants.{Err}
use Rattle.dj_tree.specs.declared.source.Instance.{Instance}
use Rattle.dj_calculus.specs.Instances.{IsNotAfter, IsLeast}
use Rattle.ifj_typing.specs.declared.kind.Typed.{Typed}

-- the least of these instances, and with None that N holds
abbrev pub Judges : Type 0 → (Instance → Type 0) → Option Instance → Type 0
Judges N P None = N
Judges N P (Some i) = IsLeast P i

-- the least of these instances, and None where there is none
abbrev pub IsLeastOf : (Instance → Type 0) → Option Instance → Type 0
IsLeastOf P found = Judges ((i : Instance) → ¬ (P i)) P found

-- the lesser of two instances that may be there
abbrev pub IsLesser : Option Instance → Option Instance → Option Instance → Type 0
IsLesser None b result = result ≡ b
IsLesser (Some a) None result = result ≡ Some a
IsLesser (Some a) (Some b) result = ((result ≡ Some a) × IsNotAfter a b) ⊎ ((result ≡ Some b) × IsNotAfter b a)

-- P of some number below this one
abbrev pub Before : (ℕ → Instance → Type 0) → ℕ → Instance → Type 0
Before P n i = (k : ℕ) × (k < n) × P k i

-- N of each number below this one
abbrev pub EachBefore : (ℕ → Type 0) → ℕ → Type 0
EachBefore N n = (k : ℕ) → k < n → N k

-- P of the element at a number
abbrev pub OfElement : {X : Type 0} → (X → Instance → Type 0) → List X → ℕ → Instance → Type 0
OfElement {X} P xs k i = (x : X) × (slice_get xs k ≡ Some x) × P x i

-- P of some element of a list
abbrev pub OfSome : {X : Type 0} → (X → Instance → Type 0) → List X → Instance → Type 0
OfSome P xs i = (k : ℕ) × OfElement P xs k i

-- the instance that was found for an expression
abbrev pub IsFault : Typed → Instance → Type 0
IsFault out i = out.found ≡ Err i
