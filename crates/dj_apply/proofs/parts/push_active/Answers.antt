use Rattle.std.proofs.Common.{◌≡◌, List, ◌++◌, map, length, ap, sym, ◌∙◌, subst, arith}
use Rattle.std.specs.Prelude.{All}
use Rattle.std.proofs.lemmas.List.{length-map}
use Rattle.ifj_table.proofs.MemberLemmas.{on_ok}
use Rattle.dj_apply.specs.Attempts.{plain_operations}
use Rattle.dj_tree.specs.Trees as plain
use Rattle.dj_tree.specs.declared.declarations.ClassOp.{ClassOp}
use Rattle.dj_tree.specs.Plain.{plain_delta, plain_operation, plain_source}
use Rattle.dj_calculus.specs.Accepted.{IsAccepted}
use Rattle.dj_calculus.specs.Expressions.{HasExpressions}
use Rattle.dj_line.specs.Lines.{plain_line}
use Rattle.dj_apply.specs.Ready.{IsReady}
use Rattle.dj_apply.proofs.ReadyLemmas.{ready_of}
use Rattle.dj_apply.proofs.PartLemmas.{active_delta}
use Rattle.dj_apply.proofs.parts.push_active.Goals as goal

pub delta_at-declared-requires : goal.delta_at-declared-requires
delta_at-declared-requires c =
    let s = c.args.source.now in
    let same : length (plain_source s).deltas ≡ length (plain_line c.args.line.now).deltas = ap (λ (x : plain.Source). length x.deltas) c.requires.source.is in
    omega (arith, length-map s.deltas (plain_delta s.names s.exprs), same, c.requires.below)

pub push_operations-requires-clause-ready : goal.push_operations-requires-clause-ready
push_operations-requires-clause-ready c =
    let s = c.args.source.now in
    subst (λ (xs : List ClassOp). All (IsReady s.names s.exprs) xs) (sym c.as_slice.ensures)
    (ready_of s c.requires.source.formed (subst IsAccepted (sym c.requires.source.is) c.requires.source.accepted) (subst HasExpressions (sym c.requires.source.is) c.requires.source.expressions)
    c.args.delta c.delta_at-declared.result.now c.delta_at-declared.ensures)

pub returns-then-branch-clause-pushed : goal.returns-then-branch-clause-pushed
returns-then-branch-clause-pushed c =
    let s = c.args.source.now in
    on_ok c.push_operations.result c.push_operations.ensures.pushed
    (λ is. is ∙ ap (λ xs. plain_operations s.names s.exprs c.args.operations.now.items ++ xs)
    (ap (map (plain_operation s.names s.exprs)) c.as_slice.ensures
    ∙ active_delta s (plain_line c.args.line.now) c.args.config.now.chosen.items c.args.delta c.delta_at-declared.result.now c.requires.source.is c.delta_at-declared.ensures (sym c.in_ok-is_active.ensures ∙ c.if-branch.true)))
