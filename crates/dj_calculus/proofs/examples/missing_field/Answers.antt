use Rattle.std.proofs.Common.{[], refl, arith}
use Rattle.dj_calculus.specs.LineRules.{of_operation, field_missing}
use Rattle.dj_calculus.specs.Samples.Builders.{spot}
use Rattle.dj_calculus.specs.Tables.{FieldEntry, ClassEntry}
use Rattle.dj_calculus.specs.Samples.S8
use Rattle.dj_calculus.proofs.LayerLemmas.{overlaps_first, no_second}
use Rattle.dj_calculus.proofs.MapLemmas.{text_get-insert, text_get-empty}
use Rattle.dj_calculus.proofs.MissingField.{returned, before_last, every_order, one_active}
use Rattle.dj_calculus.proofs.examples.missing_field.Goals as goal

pub returns : goal.returns
returns c =
    record {
      stands =
          of_operation 3 S8.part_d before_last S8.delta_t _ 5 258 refl (record { each = every_order }) (0, omega arith, refl) (0, omega arith, refl)
          (field_missing (spot "f" 258) returned (0, omega arith, refl) (simp (text_get-insert ClassEntry) refl) (simp (text_get-insert FieldEntry, text_get-empty FieldEntry) refl));
      clean = λ lower below stands. no_second S8.sample [] one_active (overlaps_first S8.sample [] lower.rule lower.at lower.second stands below);
    }
