use Rattle.std.proofs.Common.{◌≡◌, ◌-◌, ◌<◌, ◌++◌, length, All, IfSome, slice_get}
use Rattle.std.specs.List.{filter_map}
use Rattle.std.specs.Option.{option_and_then}
use Rattle.dj_tree.specs.Plain.{plain_source}
use Rattle.dj_calculus.specs.Parts.{chain, parts_from}
use Rattle.dj_faults.proofs.parts.chain_of.Given as goal

abbrev pub invariant-loop-step : goal.invariant-loop-step
invariant-loop-step l = record {
  within : All (λ k. k < length l.source.parts) l.numbers.items;
  next : IfSome l.next (λ k. k < length l.source.parts);
  chain : filter_map (slice_get (plain_source l.source).parts) l.numbers.items ++ parts_from (length l.source.parts - l._step) (plain_source l.source).parts (option_and_then (slice_get (plain_source l.source).parts) l.next) ≡ chain (plain_source l.source);
}
