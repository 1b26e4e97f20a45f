use Rattle.std.proofs.Common.{◌≡◌, ◌<◌, ◌≤◌, ◌-◌, Some, None, take, length, slice_get, vec_capacity, refl, sym, subst, ap, ◌∙◌, arith}
use Rattle.std.proofs.lemmas.List.{take_all, length-set, length-take, length-take-le}
use Rattle.std.proofs.lemmas.Option.{slice_get_within, none-some, same_Some}
use Rattle.sat_solver.specs.declared.entry.Entry.{Entry}
use Rattle.sat_solver.specs.Entries.{decisions, up_to}
use Rattle.sat_solver.specs.Trails.{TrailState}
use Rattle.sat_solver.proofs.AlongLemmas.{All-at, in_take}
use Rattle.sat_solver.proofs.TrailLemmas.{pop_keeps, settle_keeps, jumped_entries, jumped_level, prefix_less, dropped_more}
use Rattle.sat_solver.proofs.PairingLemmas.{paired_jump}
use Rattle.sat_solver.proofs.trail.Trail.jump_back.Goals as goal
use Rattle.sat_solver.proofs.trail.Trail.jump_back.Goals.{In-Some, in-Some+then-last-level, in_default}

pub back-init : goal.back-init
back-init c =
    let i = c.self.inside in
    record {
      keeps = settle_keeps i.values.items i.levels.items i.entries.items (vec_capacity i.entries) i.level i.worked (decisions i.entries.items) 0 c.self.invariant refl (omega arith);
      prefix = sym (take_all (length i.entries.items) i.entries.items (omega arith));
      dropped = λ k x h e. absurd (omega (arith, slice_get_within i.entries.items k x e));
      vars = refl;
      worked = refl;
    }

at_last : (c : In-Some) → slice_get c.back.self-inside.entries.items (length c.back.self-inside.entries.items - 1) ≡ Some c.in-Some.last
at_last c =
    let entries : c.deref.result.now ≡ c.back.self-inside.entries.items = c.deref.ensures.value in
    ap (λ es. slice_get es (length es - 1)) (sym entries) ∙ sym c.last.ensures.value ∙ sym c.copied.ensures ∙ c.in-Some.is

within : (c : In-Some) → (1 ≤ c.in-Some.last.lit.var) × (c.in-Some.last.lit.var ≤ length c.back.self-inside.values.items)
within c =
    let i = c.back.self-inside in
    All-at (λ entry. (1 ≤ entry.lit.var) × (entry.lit.var ≤ length i.values.items)) i.entries.items (length i.entries.items - 1) c.in-Some.last c.back.invariant.keeps.trail.within (at_last c)

pub overflow_sub-last : goal.overflow_sub-last
overflow_sub-last c = (within (goal.at.overflow_sub-last c).In-Some).0

pub index_mut-requires : goal.index_mut-requires
index_mut-requires c = let h = within (goal.at.index_mut-requires c).In-Some in omega (arith, h, c.back.self-inside.values.ok.0)

pub back-preserved : goal.back-preserved
back-preserved c =
    let first = c.self.inside.entries.items in
    let i = c.back.self-inside in
    let now = i.entries.items in
    let last = c.in-Some.last in
    let at = at_last (goal.at.back-preserved c).In-Some in
    let rest : c.pop.new.self.items ≡ take (length now - 1) now = c.pop.ensures.rest ∙ ap (λ n. take (n - 1) now) i.entries.ok.0 in
    let short : length c.pop.new.self.items ≡ length now - 1 = ap length rest ∙ length-take-le (length now - 1) now (omega arith) in
    record {
      keeps = rw (rest, c.pop.ensures.capacity) (pop_keeps i.values.items i.levels.items now (decisions now) 0 (vec_capacity i.entries) last c.back.invariant.keeps at);
      prefix = rest ∙ prefix_less first now c.args.level last c.back.invariant.prefix at ∙ ap (λ es. take (length es) first) (sym rest);
      dropped = λ k x h e. dropped_more first now c.args.level last c.back.invariant.prefix at c.if-last-level.false c.back.invariant.dropped k x (omega (arith, short, h)) e;
      vars = length-set i.values.items (last.lit.var - 1) None ∙ c.back.invariant.vars;
      worked = c.back.invariant.worked;
    }

last_low : (c : goal.After-self-3-1) (y : Entry) → slice_get c.self.inside.entries.items (length c.back.self-inside.entries.items - 1) ≡ Some y → 0 < length c.back.self-inside.entries.items → y.level ≤ c.args.level
last_low c y at some =
    let first = c.self.inside.entries.items in
    let now = c.back.self-inside.entries.items in
    let entries : c.deref.result.now ≡ now = c.deref.ensures.value in
    let there : slice_get now (length now - 1) ≡ Some y = ap (λ es. slice_get es (length now - 1)) c.back.invariant.prefix ∙ in_take (length now) first (length now - 1) y (omega arith) at in
    let found : c.copied.result ≡ Some y = c.copied.ensures ∙ c.last.ensures.value ∙ ap (λ es. slice_get es (length es - 1)) entries ∙ there in
    elim c.match-copied.branch [
      | in-Some+then-last-level w ↦ subst (λ (z : Entry). z.level ≤ c.args.level) (same_Some w.in-Some.last y (sym w.in-Some.is ∙ found)) w.if-last-level.true
      | in_default w ↦ absurd (none-some y (sym w.in_default.is ∙ found))
    ]

pub invariant_of-self : goal.invariant_of-self
invariant_of-self c =
    let first = c.self.inside.entries.items in
    let i = c.back.self-inside in
    let now = i.entries.items in
    let keeps = c.self.invariant in
    let level : c.args.level ≤ decisions first = omega (arith, c.requires, ap (λ (t : TrailState). t.level) c.self.view_is, keeps.trail.level) in
    let within : length now ≤ length first = omega (arith, ap length c.back.invariant.prefix, length-take (length now) first) in
    let is : c.args.level ≡ decisions now = jumped_level first keeps.trail.levels (length now) c.args.level within level (last_low c) c.back.invariant.dropped ∙ ap decisions (sym c.back.invariant.prefix) in
    settle_keeps i.values.items i.levels.items now (vec_capacity i.entries) (decisions now) 0 c.args.level c.min-self-inside.result c.back.invariant.keeps is (omega (arith, c.min-self-inside.ensures, c.len.ensures, i.entries.ok.0))

pub returns-clause-entries : goal.returns-clause-entries
returns-clause-entries c =
    let first = c.self.inside.entries.items in
    let now = c.back.self-inside.entries.items in
    let keeps = c.self.invariant in
    let level : c.args.level ≤ decisions first = omega (arith, c.requires, ap (λ (t : TrailState). t.level) c.self.view_is, keeps.trail.level) in
    let within : length now ≤ length first = omega (arith, ap length c.back.invariant.prefix, length-take (length now) first) in
    let is : up_to c.args.level first ≡ take (length now) first = jumped_entries first keeps.trail.levels (length now) c.args.level within level (last_low c) c.back.invariant.dropped in
    c.back.invariant.prefix ∙ sym is ∙ ap (λ (t : TrailState). up_to c.args.level t.entries) c.self.view_is

pub returns-clause-trail : goal.returns-clause-trail
returns-clause-trail c = (invariant_of-self c).trail

-- the trail after the jump
abbrev now_of : goal.After-self-3-1 → TrailState
now_of c = record { vars = length c.back.self-inside.values.items; entries = c.back.self-inside.entries.items; level = c.args.level; worked = c.min-self-inside.result }

pub returns-clause-paired : goal.returns-clause-paired
returns-clause-paired c = λ store paired.
    paired_jump c.args.self.now store (now_of c) c.args.level paired c.requires (returns-clause-entries c) (c.back.invariant.prefix ∙ ap (λ (t : TrailState). take (length c.back.self-inside.entries.items) t.entries) c.self.view_is) refl (omega (arith, c.min-self-inside.ensures, c.len.ensures, c.back.self-inside.entries.ok.0, c.back.invariant.worked, ap (λ (t : TrailState). t.worked) c.self.view_is)) (c.back.invariant.vars ∙ ap (λ (t : TrailState). t.vars) c.self.view_is) (invariant_of-self c).trail
