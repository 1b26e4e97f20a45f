use Rattle.std.proofs.Common.{◌≡◌, length}
use Rattle.dj_line.specs.Numbering.{number_by, ArePlaced}
use Rattle.dj_line.proofs.acceptance.chain_placings.Given as goal

abbrev pub invariant-loop-k : goal.invariant-loop-k
invariant-loop-k l =
    record {
      as_many : length l.placings.items ≡ length l.deltas.keys;
      placed : ArePlaced (number_by l.deltas.keys) l.parts l.chain l.k l.placings.items;
    }
