use Rattle.std.proofs.Common.{◌≡◌, ◌-◌, length, Option, sym, subst, arith}
use Rattle.dj_tree.specs.declared.source.Instance.{Instance}
use Rattle.dj_calculus.specs.Parts.{chain}
use Rattle.dj_line.specs.Lines.{plain_line}
use Rattle.dj_product_laws.specs.OnePass.{Passed, begins}
use Rattle.ifj_table.specs.Tables.{plain_table}
use Rattle.dj_apply.proofs.PassLemmas.{Outcome}
use Rattle.dj_apply.proofs.pass.pass.Goals as goal

pub loop-number-init : goal.loop-number-init
loop-number-init c = subst (Passed (plain_line c.args.line.now) c.args.config.now.chosen.items 0) (sym c.requires.empty) begins

pub loop-number-preserved : goal.loop-number-preserved
loop-number-preserved c =
    subst (λ n. Passed (plain_line c.args.line.now) c.args.config.now.chosen.items n (plain_table c.pass_part.new.table.table)) c.in_ok-part.ensures
    (subst (λ (o : Option Instance). Outcome (plain_line c.args.line.now) c.args.config.now.chosen.items (c.in_ok-part.part - 1) (plain_table c.pass_part.new.table.table) c.in_ok-part.part o) c.in_default.is c.in_ok-broken.ensures)

pub returns : goal.returns
returns c =
    let at_end : c.loop-number.number ≡ length (chain (plain_line c.args.line.now)) = omega (arith, c.chain_length-count.ensures.chain, c.loop-number-test.false, c.loop-number.auto.number-end) in
    subst (λ n. Passed (plain_line c.args.line.now) c.args.config.now.chosen.items n (plain_table c.loop-number.table.table)) at_end c.loop-number.invariant
