-- The least thing of which something holds, by an order of such things.
use Rattle.std.specs.Prelude.{◌≡◌, ◌⊎◌, List, Contains, Option, Some, None}

-- it holds of what is found, which comes before all else of which it holds, and of nothing where nothing is found
abbrev pub IsLeastBy : {X : Type 0} → (X → X → Type 0) → (X → Type 0) → Option X → Type 0
IsLeastBy {X} Before P None = (x : X) → ¬ (P x)
IsLeastBy {X} Before P (Some x) = P x × ((y : X) → P y → Before x y)

-- what is found is that one of the two which comes before the other, or the only one
abbrev pub IsEarlierOf : {X : Type 0} → (X → X → Type 0) → Option X → Option X → Option X → Type 0
IsEarlierOf Before None b found = found ≡ b
IsEarlierOf Before (Some x) None found = found ≡ Some x
IsEarlierOf Before (Some x) (Some y) found = ((found ≡ Some x) × Before x y) ⊎ ((found ≡ Some y) × Before y x)

-- it holds of this for one of the elements
abbrev pub Among : {A X : Type 0} → (A → X → Type 0) → List A → X → Type 0
Among {A} P elements x = (a : A) × Contains elements a × P a x
