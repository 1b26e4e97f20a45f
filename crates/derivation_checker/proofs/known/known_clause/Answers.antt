use Rattle.std.proofs.Common.{◌-◌, sym, subst}
use Rattle.std.specs.List.{IsDistinct}
use Rattle.sat_clauses.specs.Literals.{same_literal}
use Rattle.sat_clauses.proofs.SetLemmas.{clause_at}
use Rattle.derivation_checker.proofs.known.known_clause.Goals as goal

pub returns-clause-distinct : goal.returns-clause-distinct
returns-clause-distinct c =
    let found = c.in_ok-clause.ensures.lookup.3 in
    subst (IsDistinct same_literal) (sym c.as_slice.ensures.value) (clause_at (IsDistinct same_literal) c.args.made.now (c.args.number - c.count-count.result) c.in_ok-clause.clause.now c.requires found.0 (found.1 c.in_ok-clause.clause.now))
