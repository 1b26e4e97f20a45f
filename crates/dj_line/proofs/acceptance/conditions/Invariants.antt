use Rattle.std.proofs.Common.{◌≡◌, ℕ, Some, length, slice_get}
use Rattle.dj_tree.specs.Plain.{plain_source}
use Rattle.dj_formula.specs.declared.formula.Formula.{Formula}
use Rattle.dj_conditions.specs.Conditions.{StandsFor}
use Rattle.dj_line.specs.Placing.{condition_of}
use Rattle.dj_line.proofs.acceptance.conditions.Given as goal

abbrev pub invariant-loop-placing : goal.invariant-loop-placing
invariant-loop-placing l =
    record {
      count : length l.formulas.items ≡ l.placing-index;
      stand : (delta : ℕ) (formula : Formula) → slice_get l.formulas.items delta ≡ Some formula
          → StandsFor (plain_source l.source) formula (condition_of (plain_source l.source) delta);
    }
