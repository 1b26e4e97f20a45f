use Rattle.sat_solver.proofs.search.Search.chosen.Goals as goal

pub open-requires : goal.open-requires
open-requires c = c.requires.paired.vars
