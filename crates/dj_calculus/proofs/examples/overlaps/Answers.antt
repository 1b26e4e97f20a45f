use Rattle.std.proofs.Common.{refl, arith}
use Rattle.dj_calculus.specs.LineRules.{overlap}
use Rattle.dj_calculus.specs.Samples.S6
use Rattle.dj_calculus.specs.Samples.S7
use Rattle.dj_calculus.proofs.ConflictLemmas.{least_by_test}
use Rattle.dj_calculus.proofs.LayerLemmas.{none_below_overlap}
use Rattle.dj_calculus.proofs.examples.overlaps.Goals as goal

pub returns-clause-modified_twice : goal.returns-clause-modified_twice
returns-clause-modified_twice c =
    record {
      stands = overlap S6.part_b 0 1 S6.delta_x S6.delta_y 197 262 (1, omega arith, refl) (omega arith) refl refl (least_by_test S6.delta_x S6.delta_y 197 262 (record { a = _; b = _; of_one = (1, omega arith, refl); of_other = (1, omega arith, refl); clash = refl; first_at = refl; second_at = refl }) refl);
      clean = λ lower below stands. none_below_overlap lower.rule below;
    }

pub returns-clause-changed_where_added : goal.returns-clause-changed_where_added
returns-clause-changed_where_added c =
    record {
      stands = overlap S7.part_p 0 1 S7.delta_x S7.delta_y 71 104 (0, omega arith, refl) (omega arith) refl refl (least_by_test S7.delta_x S7.delta_y 71 104 (record { a = _; b = _; of_one = (0, omega arith, refl); of_other = (0, omega arith, refl); clash = refl; first_at = refl; second_at = refl }) refl);
      clean = λ lower below stands. none_below_overlap lower.rule below;
    }
