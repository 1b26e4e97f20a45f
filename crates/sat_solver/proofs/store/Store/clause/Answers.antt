use Rattle.std.proofs.Common.{ℕ, ◌<◌, ◌≤◌, length, All, subst, ap, sym, ◌∙◌}
use Rattle.std.proofs.lemmas.List.{length-map}
use Rattle.sat_clauses.specs.ClauseLists.{IsClause}
use Rattle.sat_clauses.proofs.SetLemmas.{clause_at}
use Rattle.sat_solver.specs.Stores.{StoreState}
use Rattle.sat_solver.proofs.store.Store.clause.Goals as goal

within : (c : goal.After-as_slice) → c.args.place < length c.self.inside.clauses.items
within c =
    let count : StoreState → ℕ = λ s. length s.clauses in
    subst (λ n. c.args.place < n) (ap count (sym c.self.view_is) ∙ length-map c.self.inside.clauses.items (λ clause. clause.items)) c.requires

pub returns-clause-clause : goal.returns-clause-clause
returns-clause-clause c =
    subst IsClause (sym c.as_slice.ensures.value) (clause_at IsClause c.self.inside.clauses.items c.args.place c.index.result.now c.self.invariant.each (within c) c.index.ensures)

pub returns-clause-within : goal.returns-clause-within
returns-clause-within c =
    let vars : StoreState → ℕ = λ s. s.vars in
    let low : All (λ lit. lit.var ≤ c.self.inside.vars) c.index.result.now.items = clause_at (λ ls. All (λ lit. lit.var ≤ c.self.inside.vars) ls) c.self.inside.clauses.items c.args.place c.index.result.now c.self.invariant.within (within c) c.index.ensures in
    subst (λ n. All (λ lit. lit.var ≤ n) c.as_slice.result.now) (ap vars c.self.view_is) (subst (λ ls. All (λ lit. lit.var ≤ c.self.inside.vars) ls) (sym c.as_slice.ensures.value) low)
