use Rattle.std.proofs.Common.{subst, sym, length, ◌<◌, ap, ◌∙◌}
use Rattle.std.proofs.lemmas.List.{length-map}
use Rattle.sat_clauses.specs.ClauseLists.{IsClause}
use Rattle.sat_clauses.proofs.SetLemmas.{clause_at}
use Rattle.sat_clauses.proofs.clauses.Clauses.clause.Goals as goal

pub returns-clause-clause : goal.returns-clause-clause
returns-clause-clause c =
    let within : c.args.place < length c.self.inside.clauses.items = subst (λ n. c.args.place < n) (ap length (sym c.self.view_is) ∙ length-map c.self.inside.clauses.items (λ clause. clause.items)) c.requires in
    subst IsClause (sym c.as_slice.ensures.value) (clause_at IsClause c.self.inside.clauses.items c.args.place c.index.result.now c.self.invariant within c.index.ensures)
