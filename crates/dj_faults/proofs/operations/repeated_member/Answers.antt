use Rattle.std.proofs.Common.{rules}
use Rattle.dj_faults.proofs.LeastLemmas.{least_either}
use Rattle.dj_faults.proofs.InsideLemmas.{least_fields, least_methods}
use Rattle.dj_faults.proofs.operations.repeated_member.Goals as goal

pub returns : goal.returns
returns c =
    rw c.earlier.ensures
    (least_either c.in_ok-field.field c.in_ok-method.method
    (least_fields c.args.source.now c.requires.sound c.args.class.now.fields _ _ c.requires.class.fields (search rules) c.in_ok-field.ensures)
    (least_methods c.args.source.now c.requires.sound c.args.class.now.methods _ _ c.requires.class.methods (search rules) c.in_ok-method.ensures))
