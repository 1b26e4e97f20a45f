use Rattle.std.proofs.Common.{◌≡◌, take, slice_get}
use Rattle.std.specs.List.{filter_map}
use Rattle.std.specs.Option.{option_map}
use Rattle.dj_faults.proofs.parts.names_of.Given as goal

abbrev pub invariant-loop-number : goal.invariant-loop-number
invariant-loop-number l = l.names.items ≡ filter_map (λ k. option_map (λ p. p.spot) (slice_get l.parts k)) (take l.number-index l.numbers)
