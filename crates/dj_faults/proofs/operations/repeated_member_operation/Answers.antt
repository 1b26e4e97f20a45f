use Rattle.std.proofs.Common.{rules}
use Rattle.dj_faults.proofs.LeastLemmas.{least_either}
use Rattle.dj_faults.proofs.InsideLemmas.{least_fields_changed, least_methods_changed}
use Rattle.dj_faults.proofs.operations.repeated_member_operation.Goals as goal

pub returns : goal.returns
returns c =
    rw c.earlier.ensures
    (least_either c.in_ok-field.field c.in_ok-method.method
    (least_fields_changed c.args.source.now c.requires.sound c.args.change.now.members _ _ c.requires.change.members (search rules) c.in_ok-field.ensures)
    (least_methods_changed c.args.source.now c.requires.sound c.args.change.now.members _ _ c.requires.change.members (search rules) c.in_ok-method.ensures))
