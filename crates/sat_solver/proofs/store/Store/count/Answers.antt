use Rattle.std.proofs.Common.{arith}
use Rattle.sat_solver.proofs.store.Store.count.Goals as goal

pub returns-clause-few : goal.returns-clause-few
returns-clause-few c = omega (arith, c.as_slice.type_inv)
