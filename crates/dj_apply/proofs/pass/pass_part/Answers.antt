use Rattle.std.proofs.Common.{◌≡◌, ◌-◌, List, Option, sym, subst}
use Rattle.std.specs.Prelude.{All}
use Rattle.std.specs.List.Sorted.{IsPermutation}
use Rattle.dj_tree.specs.declared.source.Instance.{Instance}
use Rattle.dj_calculus.specs.Instances.{IsNotAfter}
use Rattle.dj_line.specs.Lines.{plain_line}
use Rattle.dj_product_laws.specs.Passes.{attempt_all}
use Rattle.ifj_table.specs.Tables.{plain_table}
use Rattle.dj_apply.specs.declared.attempts.NamedOperation.{NamedOperation}
use Rattle.dj_apply.specs.ActiveOperations.{active_operations}
use Rattle.dj_apply.specs.Attempts.{IsMet, plain_operations}
use Rattle.dj_apply.specs.Least.{IsLeastBy}
use Rattle.dj_apply.proofs.AttemptLemmas.{ReadyOperation}
use Rattle.dj_apply.proofs.PassLemmas.{Outcome, part_passed, next_number, if_ok_both}
use Rattle.dj_apply.proofs.pass.pass_part.Goals as goal

pub attempt_each-requires : goal.attempt_each-requires
attempt_each-requires c = subst (λ (vs : List NamedOperation). All (ReadyOperation c.source-source.result.now.names c.source-source.result.now.exprs) vs) (sym c.deref.ensures.value) c.in_ok-operations.ensures.ready

pub returns : goal.returns
returns c =
    let t = plain_table c.args.table.now.table in
    let u = plain_table c.attempt_each.new.table.table in
    let xs = plain_operations c.source-source.result.now.names c.source-source.result.now.exprs c.deref.result.now in
    let found = c.in_ok-operations.ensures.operations in
    let order = subst (λ (vs : List NamedOperation). IsPermutation (active_operations (plain_line c.args.line.now) c.args.config.now.chosen.items found.0) (plain_operations c.source-source.result.now.names c.source-source.result.now.exprs vs)) (sym c.deref.ensures.value) found.2 in
    if_ok_both (u ≡ attempt_all xs t) (IsLeastBy IsNotAfter (IsMet xs t)) (Outcome (plain_line c.args.line.now) c.args.config.now.chosen.items (c.args.part - 1) u c.args.part) c.attempt_each.result c.attempt_each.ensures.table c.attempt_each.ensures.met
    (λ (o : Option Instance) is least. subst (λ n. Outcome (plain_line c.args.line.now) c.args.config.now.chosen.items (c.args.part - 1) u n o) (next_number c.args.part c.requires.from_one)
    (part_passed (plain_line c.args.line.now) c.source-source.ensures.accepted c.args.config.now.chosen.items (c.args.part - 1) found.0 xs t u o found.1 order c.requires.passed is least))
