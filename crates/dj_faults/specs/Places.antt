-- The least places of the faults that stand in operations of deltas.
use Rattle.std.specs.Prelude.{ℕ, Option}
use Rattle.dj_faults.specs.Inside.{Inside, RepeatedOperation, RepeatedMember, RepeatedParameter, OriginalOutside}
use Rattle.dj_faults.specs.LeastPlace.{IsLeastPlace}
use Rattle.dj_faults.specs.declared.operations.Places.{Places}

-- the place of a fault
abbrev pub place_of : Places → Inside → Option ℕ
place_of places RepeatedOperation = places.repeated_operation
place_of places RepeatedMember = places.repeated_member
place_of places RepeatedParameter = places.repeated_parameter
place_of places OriginalOutside = places.original_outside

-- each is the least place at which that fault stands
abbrev pub AreLeast : (Inside → ℕ → Type 0) → Places → Type 0
AreLeast Stands places = (fault : Inside) → IsLeastPlace (Stands fault) (place_of places fault)
