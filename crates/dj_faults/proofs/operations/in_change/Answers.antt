use Rattle.std.proofs.Common.{refl}
use Rattle.std.proofs.lemmas.Option.{slice_get_read}
use Rattle.dj_faults.proofs.InsidePlaces.{each_next, nowhere_among}
use Rattle.dj_faults.proofs.operations.in_change.Goals as goal

pub loop-member-init : goal.loop-member-init
loop-member-init c = nowhere_among _ c.nowhere-least.result c.args.members.now c.nowhere-least.ensures

pub loop-member-preserved : goal.loop-member-preserved
loop-member-preserved c =
    let here = slice_get_read c.args.members.now _ c.loop-member.member-index c.member-item.result refl c.loop-member-test.true c.member-item.is in
    each_next _ c.args.members.now c.loop-member.member-index _ _ _ _ here c.earlier_each-least.ensures c.loop-member.invariant c.in_ok-here.ensures
