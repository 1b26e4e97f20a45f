use Rattle.std.proofs.Common.{List, map, sym, ap, ◌∙◌, subst}
use Rattle.std.specs.Prelude.{All}
use Rattle.std.specs.Option.{option_map}
use Rattle.std.proofs.lemmas.Option.{slice_get-map}
use Rattle.dj_calculus.proofs.Members.{same_some}
use Rattle.dj_tree.specs.Trees as plain
use Rattle.dj_tree.specs.declared.declarations.ClassOp.{ClassOp}
use Rattle.dj_tree.specs.Plain.{plain_delta, plain_operation}
use Rattle.dj_tree.specs.WellFormed.{IsDelta, IsOperation}
use Rattle.ifj_table.proofs.TableLemmas.{all_at}
use Rattle.dj_apply.proofs.overlaps.operations_of.Goals as goal

pub returns-clause-operations : goal.returns-clause-operations
returns-clause-operations c = λ d here.
    let there = slice_get-map (plain_delta c.args.source.now.names c.args.source.now.exprs) c.args.source.now.deltas c.args.delta ∙ ap (option_map (plain_delta c.args.source.now.names c.args.source.now.exprs)) c.delta_at-delta.ensures in
    let same = same_some d (plain_delta c.args.source.now.names c.args.source.now.exprs c.delta_at-delta.result.now) _ here there in
    ap (λ (x : plain.Delta). x.operations) same ∙ sym (ap (map (plain_operation c.args.source.now.names c.args.source.now.exprs)) c.as_slice.ensures)

pub returns-clause-known : goal.returns-clause-known
returns-clause-known c =
    let delta = all_at (IsDelta c.args.source.now.names c.args.source.now.exprs) c.args.source.now.deltas c.args.delta c.delta_at-delta.result.now c.requires.well_formed.deltas c.delta_at-delta.ensures in
    subst (λ (xs : List ClassOp). All (IsOperation c.args.source.now.names c.args.source.now.exprs) xs) (sym c.as_slice.ensures) delta.ops
