-- What is on top of a stack, which is seen as a list, its top first.
use Rattle.std.specs.Prelude.{◌≡◌, List, [], ◌∷◌, Option, Some, None}
use Rattle.std.specs.Borrow.{Bor}

-- the top is taken, and the rest stays; of an empty stack there is none
abbrev pub Popped : {T : Type 0} → List T → Option T → List T → Type 0
Popped old None new = (old ≡ []) × (new ≡ [])
Popped old (Some top) new = old ≡ top ∷ new

abbrev pub Topped : {T : Type 0} → List T → Option (Bor T) → Type 0
Topped {T} items None = items ≡ []
Topped {T} items (Some top) = (rest : List T) × (items ≡ top.now ∷ rest)
