use Rattle.std.proofs.Common.{◌≡◌, ℕ, Some, length, take, slice_get}
use Rattle.dj_line.specs.declared.tables.Placing.{Placing}
use Rattle.dj_line.specs.Numbering.{number_by, IsSetTo}
use Rattle.dj_line.proofs.tables.place.Given as goal

abbrev pub invariant-loop-item : goal.invariant-loop-item
invariant-loop-item l =
    record {
      as_many : length l.placings ≡ length l.initial.placings;
      each : (delta : ℕ) (p : Placing) → slice_get l.placings delta ≡ Some p → IsSetTo l.initial.placings (number_by l.deltas.keys) (take l.item-index l.items) l.part delta p;
    }
