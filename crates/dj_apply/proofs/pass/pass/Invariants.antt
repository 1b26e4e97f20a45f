use Rattle.dj_product_laws.specs.OnePass.{Passed}
use Rattle.dj_line.specs.Lines.{plain_line}
use Rattle.ifj_table.specs.Tables.{plain_table}
use Rattle.dj_apply.proofs.pass.pass.Given as goal

-- the parts so far are passed
abbrev pub invariant-loop-number : goal.invariant-loop-number
invariant-loop-number l = Passed (plain_line l.line) l.config.chosen.items l.number (plain_table l.table.table)
