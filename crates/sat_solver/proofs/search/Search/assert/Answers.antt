use Rattle.std.proofs.Common.{◌≡◌, ◌≤◌, ◌<◌, ◌++◌, ◌∷◌, [], Some, take, length, slice_get, refl, sym, ap, subst, ◌∙◌, arith}
use Rattle.std.proofs.lemmas.List.{length-take}
use Rattle.sat_links.specs.Queues.{IsQueue}
use Rattle.sat_solver.specs.declared.entry.Entry.{Entry}
use Rattle.sat_solver.specs.Entries.{IsFreeIn, IsForced, AllReasoned, Forces, decisions, up_to}
use Rattle.sat_solver.specs.Stores.{StoreState}
use Rattle.sat_solver.specs.Trails.{TrailState, IsTrail, with_entry}
use Rattle.sat_solver.specs.Lessons.{IsSecond}
use Rattle.sat_solver.specs.Pairing.{Paired}
use Rattle.sat_clauses.specs.ClauseLists.{without}
use Rattle.sat_solver.proofs.PairingLemmas.{paired_learnt, learnt_clauses, second_front}
use Rattle.sat_solver.specs.Measures.{weight}
use Rattle.sat_solver.proofs.AlongLemmas.{at_end}
use Rattle.sat_solver.proofs.LevelLemmas.{false_within}
use Rattle.sat_solver.proofs.MeasureLemmas.{jump_farther}
use Rattle.sat_solver.proofs.SearchLemmas.{reasons_later, reasons_push, false_vars}
use Rattle.sat_solver.proofs.search.Search.assert.Goals as goal

pub force-requires-clause-within : goal.force-requires-clause-within
force-requires-clause-within c =
    let old = c.args.self.now.trail in
    let lit = c.args.assertion.lit in
    let within = false_within old.vars old.entries c.requires.search.trail.within lit (c.requires.falsified lit c.requires.asserts.forces.there) in
    (within.0, subst (λ n. lit.var ≤ n) (sym c.jump_back.ensures.vars) within.1)

pub keep-requires-clause-within : goal.keep-requires-clause-within
keep-requires-clause-within c = λ k d h.
    let old = c.args.self.now in
    let within = false_vars old.trail.vars old.trail.entries c.requires.search.trail.within c.args.clause.items c.requires.falsified k d h in
    omega (arith, within.1, c.jump_back.ensures.vars, c.jump_back.ensures.search.paired.vars)

pub keep-requires-clause-watching : goal.keep-requires-clause-watching
keep-requires-clause-watching c = c.jump_back.ensures.search.paired.watching

-- the entry of the asserted literal
abbrev asserted : goal.After-force → Entry
asserted c = record { lit = c.args.assertion.lit; level = c.jump_back.new.self.trail.level; reason = Some c.args.place }

entries_are : (c : goal.After-force) → c.force.new.self.entries ≡ c.jump_back.new.self.trail.entries ++ asserted c ∷ []
entries_are c = ap (λ (t : TrailState). t.entries) c.force.ensures.forced

vars_are : (c : goal.After-force) → c.force.new.self.vars ≡ c.args.self.now.trail.vars
vars_are c = ap (λ (t : TrailState). t.vars) c.force.ensures.forced ∙ c.jump_back.ensures.vars

pub returns-clause-search : goal.returns-clause-search
returns-clause-search c =
    let old = c.args.self.now in
    let clause = c.args.clause.items in
    let clauses = old.store.clauses ++ clause ∷ [] in
    let jumped = c.jump_back.new.self.trail.entries in
    let now = c.force.new.self in
    let middle : StoreState = c.jump_back.new.self.store in
    let kept : c.keep.new.store.clauses ≡ clauses = learnt_clauses middle c.keep.new.store clause c.args.assertion.lit c.args.assertion.second c.in_ok-keep.ensures.learns ∙ ap (λ (s : StoreState). s.clauses ++ clause ∷ []) c.jump_back.ensures.store in
    let before : AllReasoned clauses jumped = reasons_later old.store.clauses clause jumped (subst (λ (s : StoreState). AllReasoned s.clauses jumped) c.jump_back.ensures.store c.jump_back.ensures.search.reasons) in
    let there : slice_get clauses c.args.place ≡ Some clause = ap (slice_get clauses) c.requires.place ∙ at_end old.store.clauses clause in
    let forces : Forces jumped clause c.args.assertion.lit = subst (λ es. Forces es clause c.args.assertion.lit) (sym c.jump_back.ensures.entries) c.requires.asserts.forces in
    let forced : IsForced clauses jumped (asserted c) = record { place = c.args.place; clause = clause; reason = refl; found = there; forces = forces } in
    let reasons : AllReasoned clauses (jumped ++ asserted c ∷ []) = reasons_push clauses jumped (asserted c) before (λ _. forced) in
    let after : TrailState = c.jump_back.new.self.trail in
    let free : IsFreeIn after.entries c.args.assertion.lit = subst (λ es. IsFreeIn es c.args.assertion.lit) (sym c.jump_back.ensures.entries) c.requires.asserts.free in
    let second : IsSecond after.entries (without clause c.args.assertion.lit) after.level c.args.assertion.second = subst (λ n. IsSecond after.entries (without clause c.args.assertion.lit) n c.args.assertion.second) (sym c.jump_back.ensures.level) (second_front old.trail.entries after.entries (length after.entries) (without clause c.args.assertion.lit) c.args.assertion.level c.args.assertion.second c.jump_back.ensures.prefix c.requires.second) in
    let paired : Paired (with_entry after (asserted c)) c.keep.new.store = paired_learnt after middle c.keep.new.store clause c.args.assertion.lit c.args.assertion.second (asserted c) c.jump_back.ensures.search.paired c.in_ok-keep.ensures.watching c.in_ok-keep.ensures.learns refl refl free second (subst IsTrail c.force.ensures.forced c.force.ensures.trail) in
    record {
      trail = c.force.ensures.trail;
      reasons = subst (λ cs. AllReasoned cs now.entries) (sym kept) (subst (AllReasoned clauses) (sym (entries_are c)) reasons);
      paired = subst (λ t. Paired t c.keep.new.store) (sym c.force.ensures.forced) paired;
      queue = subst (λ n. IsQueue n c.jump_back.new.self.order.queue) (sym (ap (λ (t : TrailState). t.vars) c.force.ensures.forced)) c.jump_back.ensures.search.queue;
    }

pub returns-clause-store : goal.returns-clause-store
returns-clause-store c =
    let clause = c.args.clause.items in
    learnt_clauses c.jump_back.new.self.store c.keep.new.store clause c.args.assertion.lit c.args.assertion.second c.in_ok-keep.ensures.learns ∙ ap (λ (s : StoreState). s.clauses ++ clause ∷ []) c.jump_back.ensures.store

pub returns-clause-kept : goal.returns-clause-kept
returns-clause-kept c = record {
  count = length c.jump_back.new.self.trail.entries;
  entry = asserted c;
  entries = entries_are c ∙ ap (λ es. es ++ asserted c ∷ []) c.jump_back.ensures.prefix;
  reasoned = refl;
}

pub returns-clause-farther : goal.returns-clause-farther
returns-clause-farther c =
    let old = c.args.self.now.trail in
    let level = c.args.assertion.level in
    let jumped = c.jump_back.new.self.trail.entries in
    let n = length jumped in
    let up = up_to level old.entries in
    let first : up ≡ take n old.entries = sym c.jump_back.ensures.entries ∙ c.jump_back.ensures.prefix in
    let short : n ≤ length old.entries = omega (arith, ap length c.jump_back.ensures.prefix, length-take n old.entries) in
    let here : level ≡ decisions (take n old.entries) = sym c.jump_back.ensures.level ∙ c.jump_back.ensures.search.trail.level ∙ ap decisions c.jump_back.ensures.prefix in
    let below : level < decisions old.entries = omega (arith, c.requires.asserts.below, c.requires.search.trail.level) in
    let farther : weight old.vars old.entries < weight old.vars (up ++ asserted c ∷ []) = jump_farther old.vars old.entries c.requires.search.trail.levels level n (asserted c) first short here below c.requires.search.trail.small refl in
    let same : up ++ asserted c ∷ [] ≡ c.force.new.self.entries = ap (λ es. es ++ asserted c ∷ []) (sym c.jump_back.ensures.entries) ∙ sym (entries_are c) in
    subst (λ n. weight old.vars old.entries < weight n c.force.new.self.entries) (sym (vars_are c)) (subst (λ es. weight old.vars old.entries < weight old.vars es) same farther)
