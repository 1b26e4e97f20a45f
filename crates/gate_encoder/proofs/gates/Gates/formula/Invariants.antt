use Rattle.std.proofs.Common.{◌≡◌, ◌≤◌, Some, length, All}
use Rattle.arena_walk.specs.Tree.{Tree}
use Rattle.dj_formula.specs.declared.formula.Gate.{Gate}
use Rattle.dj_formula.specs.Value.{tree_of}
use Rattle.gate_encoder.specs.Writing.{IsNumbered}
use Rattle.gate_encoder.proofs.Walking.{Stands}
use Rattle.gate_encoder.proofs.gates.Gates.formula.Given as goal

abbrev pub invariant-loop-number : goal.invariant-loop-number
invariant-loop-number g l =
    record {
      grown : length l.initial.self.keys ≤ length l.self.keys;
      numbered : All (IsNumbered l.self) l.lits.items;
      stand : (t : Tree Gate) → tree_of l.formula ≡ Some t
          → Stands g.K.PartialEq.eq l.formula l.initial.self l.self l.truth l.features (goal.M-post g l.node) t l.number l.lits.items;
    }
