use Rattle.std.proofs.Common.{◌≡◌, ◌<◌, ℕ, Contains, length}
use Rattle.arena_walk.specs.Forest.{trees}
use Rattle.dj_formula.specs.declared.formula.Gate.TheVariants.{Feature}
use Rattle.dj_formula.specs.Gates.{operands}
use Rattle.gate_encoder.proofs.tests.formula.Given as goal

abbrev pub invariant-loop-gate : goal.invariant-loop-gate
invariant-loop-gate l =
    record {
      all : length l.nodes ≡ l.gate-index;
      finished : l.finished ≡ length (trees operands l.nodes);
      root : 0 < l.gate-index → l.root.0 < l.gate-index;
      features : (feature : ℕ) → Contains l.nodes (Feature feature) → feature < l.count;
    }
