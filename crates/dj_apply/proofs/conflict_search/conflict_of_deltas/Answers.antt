use Rattle.std.proofs.Common.{List, take, refl, subst}
use Rattle.std.specs.List.{flat_map}
use Rattle.dj_tree.specs.Trees.{Operation}
use Rattle.dj_calculus.specs.Things.{touched_by}
use Rattle.dj_line.specs.Lines.{plain_line}
use Rattle.dj_apply.specs.ActiveOperations.{active_operations}
use Rattle.dj_apply.specs.Kept.{Keeps}
use Rattle.dj_apply.proofs.ConflictLemmas.{none_among_none, conflicts_next, conflicts_all}
use Rattle.dj_apply.proofs.PartLemmas.{operations_next}
use Rattle.dj_apply.proofs.conflict_search.conflict_of_deltas.Goals as goal

pub loop-delta-init : goal.loop-delta-init
loop-delta-init c = (c.new-places.ensures c.args.source.now.names, none_among_none)

pub loop-delta-preserved : goal.loop-delta-preserved
loop-delta-preserved c =
    let line = plain_line c.args.line.now in
    let chosen = c.args.config.now.chosen.items in
    let before = active_operations line chosen (take c.loop-delta.delta-index c.args.deltas.now) in (
      subst (λ (xs : List Operation). Keeps c.args.source.now.names c.compare_and_keep.new.places (flat_map touched_by xs))
          (operations_next line chosen c.args.deltas.now c.loop-delta.delta-index _ before _ c.loop-delta-test.true refl refl) (c.in_ok-here.ensures.kept before c.loop-delta.invariant.0),
      conflicts_next line chosen c.args.deltas.now c.loop-delta.delta-index _ before c.loop-delta.least c.in_ok-here.here c.earlier-least.result c.loop-delta-test.true
          refl c.loop-delta.invariant.1 (c.in_ok-here.ensures.least before c.loop-delta.invariant.0) c.earlier-least.ensures,
    )

pub returns : goal.returns
returns c = conflicts_all (plain_line c.args.line.now) c.args.config.now.chosen.items c.args.deltas.now c.loop-delta.delta-index c.loop-delta.least c.loop-delta-test.false c.loop-delta.invariant.1
