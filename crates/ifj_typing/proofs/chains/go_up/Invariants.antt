use Rattle.std.proofs.Common.{is_none, count_by}
use Rattle.ifj_typing.proofs.Walking.{Walking}
use Rattle.ifj_typing.proofs.chains.go_up.Given as goal

abbrev pub invariant-up : goal.invariant-up
invariant-up l = Walking l.table l.walks.items l.start l.at

abbrev pub decreases-up : goal.decreases-up
decreases-up l = count_by is_none l.walks.items
