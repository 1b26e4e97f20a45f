use Rattle.dj_faults.proofs.InsidePlaces.{with_classes}
use Rattle.dj_faults.proofs.operations.in_delta.Goals as goal

pub returns : goal.returns
returns c = with_classes _ c.args.operations.now c.in_ok-class.class _ c.earlier-places.result c.earlier-places.ensures c.in_ok-class.ensures c.in_ok-places.ensures
