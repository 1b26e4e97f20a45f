use Rattle.std.proofs.Common.{◌≤◌, ◌<◌, ◌≡◌, false, length, get_or, arith, sym, ◌∙◌}
use Rattle.std.proofs.lemmas.List.{get_or_read}
use Rattle.sat_clauses.specs.declared.literal.Lit.{Lit}
use Rattle.sat_solver.proofs.WatchingLemmas.{distinct_two}
use Rattle.sat_solver.proofs.store.Store.add.Goals as goal

pub push-requires-clause-differ : goal.push-requires-clause-differ
push-requires-clause-differ c =
    λ e.
    let clause = c.args.clause.items in
    let many : 2 ≤ length clause = omega (arith, c.len.ensures, c.args.clause.ok.0, c.if-len-lt2.false) in
    let d : Lit = record { var = 0; positive = false } in
    let zero_in : 0 < length clause = omega arith in
    let one_in : 1 < length clause = omega arith in
    let first_is : get_or clause 0 d ≡ get_or clause 1 d = sym (get_or_read clause 0 c.index.result.now zero_in c.index.ensures d) ∙ e ∙ get_or_read clause 1 c.index-2.result.now one_in c.index-2.ensures d in
    distinct_two clause d many c.requires.clause.distinct first_is
