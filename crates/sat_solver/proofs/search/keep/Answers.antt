use Rattle.std.proofs.Common.{◌≡◌, IsTrue, MatchOption, [], sym, ap, subst, ◌∙◌}
use Rattle.std.proofs.lemmas.Bool.{true≢false}
use Rattle.sat_clauses.specs.declared.literal.Lit.{Lit}
use Rattle.sat_clauses.specs.Literals.{same_literal}
use Rattle.sat_clauses.specs.ClauseLists.{has, without}
use Rattle.sat_clauses.proofs.SetLemmas.{same_itself}
use Rattle.sat_solver.proofs.ClauseLemmas.{from_without}
use Rattle.sat_solver.proofs.WatchingLemmas.{alone_short}
use Rattle.sat_solver.proofs.search.keep.Goals as goal
use Rattle.sat_solver.proofs.search.keep.Goals.{In-Some}

others : (c : In-Some) → IsTrue (has (without c.args.clause.items c.args.assertion.lit) c.in-Some.second)
others c =
    let clause = c.args.clause.items in
    let lit = c.args.assertion.lit in
    subst (λ o. MatchOption o (without clause lit ≡ []) (λ (second : Lit). IsTrue (has (without clause lit) second))) c.in-Some.is c.requires.second

pub push-requires-clause-second : goal.push-requires-clause-second
push-requires-clause-second c = (from_without c.args.clause.items c.args.assertion.lit c.in-Some.second (others (goal.at.push-requires-clause-second c).In-Some)).0

pub push-requires-clause-differ : goal.push-requires-clause-differ
push-requires-clause-differ c =
    λ same.
    let lit = c.args.assertion.lit in
    let parts = from_without c.args.clause.items lit c.in-Some.second (others (goal.at.push-requires-clause-differ c).In-Some) in
    true≢false (sym (same_itself lit) ∙ ap (same_literal lit) same ∙ parts.1)

pub push_short-requires-clause-short : goal.push_short-requires-clause-short
push_short-requires-clause-short c =
    let clause = c.args.clause.items in
    let lit = c.args.assertion.lit in
    let none : without clause lit ≡ [] = subst (λ o. MatchOption o (without clause lit ≡ []) (λ (second : Lit). IsTrue (has (without clause lit) second))) c.in-None.is c.requires.second in
    alone_short clause lit c.requires.clause.distinct none
