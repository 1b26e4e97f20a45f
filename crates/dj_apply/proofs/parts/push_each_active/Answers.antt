use Rattle.std.proofs.Common.{List, sym, ap, subst}
use Rattle.std.specs.Prelude.{All}
use Rattle.std.proofs.lemmas.List.Elements.{All-nil}
use Rattle.dj_line.specs.Lines.{plain_line}
use Rattle.dj_apply.specs.declared.attempts.NamedOperation.{NamedOperation}
use Rattle.dj_apply.specs.Attempts.{plain_operations}
use Rattle.dj_apply.proofs.AttemptLemmas.{ReadyOperation}
use Rattle.dj_apply.proofs.PartLemmas.{operations_next, operations_all}
use Rattle.dj_apply.proofs.parts.push_each_active.Goals as goal

pub loop-delta-init : goal.loop-delta-init
loop-delta-init c = (
  ap (plain_operations c.args.source.now.names c.args.source.now.exprs) c.requires.none,
  subst (λ (xs : List NamedOperation). All (ReadyOperation c.args.source.now.names c.args.source.now.exprs) xs) (sym c.requires.none) (All-nil (ReadyOperation c.args.source.now.names c.args.source.now.exprs)),
)

pub loop-delta-preserved : goal.loop-delta-preserved
loop-delta-preserved c = (
  operations_next (plain_line c.args.line.now) c.args.config.now.chosen.items c.args.deltas.now c.loop-delta.delta-index _ (plain_operations c.args.source.now.names c.args.source.now.exprs c.loop-delta.operations.items) (plain_operations c.args.source.now.names c.args.source.now.exprs c.push_active.new.operations.items) c.loop-delta-test.true
      c.loop-delta.invariant.0 c.in_ok-push_active.ensures.pushed,
  c.in_ok-push_active.ensures.ready,
)

pub returns-clause-pushed : goal.returns-clause-pushed
returns-clause-pushed c =
    operations_all (plain_line c.args.line.now) c.args.config.now.chosen.items c.args.deltas.now c.loop-delta.delta-index (plain_operations c.args.source.now.names c.args.source.now.exprs c.loop-delta.operations.items) c.loop-delta-test.false c.loop-delta.invariant.0

pub returns-clause-ready : goal.returns-clause-ready
returns-clause-ready c = c.loop-delta.invariant.1
