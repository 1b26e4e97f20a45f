use Rattle.dj_parser.proofs.Growing.{grew_not, grew_then}
use Rattle.dj_parser.proofs.Loops.{can_next, grew_next, zip_next, grew_all, zip_all}
use Rattle.dj_parser.proofs.resolve.resolve_each.Goals as goal

pub loop-raw-init : goal.loop-raw-init
loop-raw-init g c = record { grew = grew_not c.requires.known; stand = λ later texts grew. rw c.new-outs.ensures.items tt }

pub resolve-requires : goal.resolve-requires
resolve-requires g c =
    can_next c.args.raws.now c.loop-raw.raw-index c.raw-item.result c.loop-raw-test.true c.raw-item.is (g.R.Resolve.says c.args.bytes.now) c.requires c.loop-raw.invariant.grew

pub loop-raw-preserved : goal.loop-raw-preserved
loop-raw-preserved g c =
    let raws = c.args.raws.now in
    let i = c.loop-raw.raw-index in
    let x = c.raw-item.result in
    let says = g.R.Resolve.says c.args.bytes.now in
    record {
      grew = grew_next raws i x c.loop-raw-test.true c.raw-item.is says c.loop-raw.invariant.grew c.in_ok-out.ensures.grew;
      stand = λ later texts grew.
          rw c.in_ok-push.ensures.items
          (zip_next raws i x c.loop-raw-test.true c.raw-item.is (g.R.Resolve.stands c.args.bytes.now later) c.loop-raw.outs.items c.in_ok-out.out
          (c.loop-raw.invariant.stand later _ (grew_then c.in_ok-out.ensures.grew grew)) (c.in_ok-out.ensures.stands later texts grew));
    }

pub returns-clause-grew : goal.returns-clause-grew
returns-clause-grew g c = grew_all c.args.raws.now c.loop-raw.raw-index (g.R.Resolve.says c.args.bytes.now) c.loop-raw-test.false c.loop-raw.invariant.grew

pub returns-clause-stand : goal.returns-clause-stand
returns-clause-stand g c = λ later texts grew.
    zip_all (g.R.Resolve.stands c.args.bytes.now later) c.args.raws.now c.loop-raw.raw-index c.loop-raw.outs.items c.loop-raw-test.false (c.loop-raw.invariant.stand later texts grew)
