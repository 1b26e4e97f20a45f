use Rattle.std.proofs.Common.{◌≡◌, ◌<◌, ◌+◌, true, Option, Some, None, IfSome, IfNone, is_some, length, refl, sym, subst, ◌∙◌, arith}
use Rattle.std.proofs.lemmas.Bool.{false≢true}
use Rattle.std.proofs.lemmas.List.{length_push}
use Rattle.sat_clauses.specs.declared.literal.Lit.{Lit}
use Rattle.sat_links.specs.Queues.{IsQueue}
use Rattle.sat_solver.specs.declared.entry.Entry.{Entry}
use Rattle.sat_solver.specs.Entries.{AllReasoned}
use Rattle.sat_solver.specs.Trails.{TrailState, IsTrail, with_entry}
use Rattle.sat_solver.specs.Measures.{weight}
use Rattle.sat_solver.specs.Searches.{Opens}
use Rattle.sat_solver.proofs.MeasureLemmas.{weight_push}
use Rattle.sat_solver.proofs.SearchLemmas.{reasons_push}
use Rattle.sat_solver.proofs.search.Search.decide_last.Goals as goal

abbrev decision : TrailState → Lit → Entry
decision old lit = record { lit = lit; level = old.level + 1; reason = None }

-- the trail is as before, or has a decision more
opened_or_same : (P : TrailState → Type 0) (old new : TrailState) (o : Option Lit) → IfSome o (λ lit. new ≡ with_entry old (decision old lit)) → IfNone o (new ≡ old) → P old → ((lit : Lit) → P (with_entry old (decision old lit))) → P new
opened_or_same P old new None opened same first second = subst P (sym same) first
opened_or_same P old new (Some lit) opened same first second = subst P (sym opened) (second lit)

pub returns-clause-search : goal.returns-clause-search
returns-clause-search c =
    let old = c.args.self.now in
    let now = c.decide.new.self in
    let vars : now.vars ≡ old.trail.vars = opened_or_same (λ t. t.vars ≡ old.trail.vars) old.trail now c.decide.result c.decide.ensures.opened c.decide.ensures.unchanged refl (λ lit. refl) in
    record {
      trail = c.decide.ensures.trail;
      reasons = opened_or_same (λ t. AllReasoned old.store.clauses t.entries) old.trail now c.decide.result c.decide.ensures.opened c.decide.ensures.unchanged c.requires.search.reasons (λ lit. reasons_push old.store.clauses old.trail.entries (decision old.trail lit) c.requires.search.reasons (λ some. absurd (false≢true some)));
      paired = c.decide.ensures.paired old.store c.requires.search.paired c.requires.worked;
      queue = subst (λ n. IsQueue n old.order.queue) (sym vars) c.requires.search.queue;
    }

pub returns-clause-farther : goal.returns-clause-farther
returns-clause-farther c = λ is. by c.decide.result (sym c.is_some.ensures ∙ is) c.decide.ensures.opened
  where
    by : (o : Option Lit) → is_some o ≡ true → IfSome o (λ lit. c.decide.new.self ≡ with_entry c.args.self.now.trail (decision c.args.self.now.trail lit)) → weight c.args.self.now.trail.vars c.args.self.now.trail.entries < weight c.decide.new.self.vars c.decide.new.self.entries
    by None e opened = absurd (false≢true e)
    by (Some lit) e opened =
        let old = c.args.self.now.trail in
        let entry = decision old lit in
        let trail : IsTrail (with_entry old entry) = subst IsTrail opened c.decide.ensures.trail in
        let room : length old.entries < old.vars = omega (arith, trail.small, length_push old.entries entry) in
        subst (λ (t : TrailState). weight old.vars old.entries < weight t.vars t.entries) (sym opened) (weight_push old.vars old.entries entry room)

pub returns-clause-opened : goal.returns-clause-opened
returns-clause-opened c = λ is. by c.decide.result (sym c.is_some.ensures ∙ is) c.decide.ensures.opened
  where
    by : (o : Option Lit) → is_some o ≡ true → IfSome o (λ lit. c.decide.new.self ≡ with_entry c.args.self.now.trail (decision c.args.self.now.trail lit)) → Opens c.args.self.now (record c.args.self.now { trail = c.decide.new.self })
    by None e opened = absurd (false≢true e)
    by (Some lit) e opened = record { lit = lit; trail = opened }
