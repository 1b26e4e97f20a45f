-- The chain of parts, by the numbers of the parts.
use Rattle.std.specs.Prelude.{◌≡◌, ℕ, ◌<◌, Bool, false, List, nat_eq, Option, IfSome, slice_get}
use Rattle.std.specs.Option.{option_map_or, option_and_then}
use Rattle.dj_tree.specs.declared.declarations.PartDecl.{PartDecl}

-- the part's `after` has this name
abbrev pub comes_after_name : ℕ → PartDecl → Bool
comes_after_name n part = option_map_or (λ a. nat_eq a.name.0 n) part.after false

-- the number, where it is one, is that of the part that was found, and below a bound
abbrev pub IsNumberOf : List PartDecl → ℕ → Option PartDecl → Option ℕ → Type 0
IsNumberOf parts bound found number = (found ≡ option_and_then (slice_get parts) number) × IfSome number (λ k. k < bound)
