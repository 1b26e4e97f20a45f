use Rattle.std.proofs.Common.{List, subst}
use Rattle.std.specs.List.Sorted.{IsPermutation}
use Rattle.std.proofs.lemmas.List.Sorted.{IsPermutation-map, All-permutation}
use Rattle.dj_tree.specs.Trees.{Operation}
use Rattle.dj_tree.specs.Plain.{plain_operation}
use Rattle.dj_apply.specs.declared.attempts.NamedOperation.{NamedOperation}
use Rattle.dj_apply.specs.Attempts.{plain_operations}
use Rattle.dj_apply.proofs.AttemptLemmas.{ReadyOperation}
use Rattle.dj_apply.proofs.parts.operations_of_part.Goals as goal

pub returns-clause-operations : goal.returns-clause-operations
returns-clause-operations c = (
  c.items.result.now,
  c.items.ensures.numbers,
  subst (λ (xs : List Operation). IsPermutation xs (plain_operations c.args.source.now.names c.args.source.now.exprs c.sort.new.operations.items)) c.in_ok-push_each_active.ensures.pushed
      (IsPermutation-map (λ (x : NamedOperation). plain_operation c.args.source.now.names c.args.source.now.exprs x.operation.now) c.push_each_active.new.operations.items c.sort.new.operations.items c.sort.ensures),
)

pub returns-clause-ready : goal.returns-clause-ready
returns-clause-ready c = All-permutation (ReadyOperation c.args.source.now.names c.args.source.now.exprs) c.push_each_active.new.operations.items c.sort.new.operations.items c.sort.ensures c.in_ok-push_each_active.ensures.ready
