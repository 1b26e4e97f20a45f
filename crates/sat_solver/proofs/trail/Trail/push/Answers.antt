use Rattle.std.proofs.Common.{◌≡◌, ◌<◌, ◌++◌, ◌∷◌, [], None, length, vec_capacity, ap, sym, subst, arith}
use Rattle.sat_solver.specs.Entries.{value_in, decisions}
use Rattle.sat_solver.specs.Trails.{TrailState}
use Rattle.sat_solver.proofs.TrailLemmas.{room_left, push_keeps}
use Rattle.sat_solver.proofs.trail.Trail.push.Goals as goal

pub push_reserved-requires : goal.push_reserved-requires
push_reserved-requires c =
    let i = c.self.inside in
    let entries : i.entries.items ≡ c.args.self.now.entries = ap (λ (t : TrailState). t.entries) c.self.view_is in
    let vars : length i.values.items ≡ c.args.self.now.vars = ap (λ (t : TrailState). t.vars) c.self.view_is in
    let free : value_in i.entries.items c.args.entry.lit.var ≡ None = subst (λ es. value_in es c.args.entry.lit.var ≡ None) (sym entries) c.requires.free in
    let room : length i.entries.items < length i.values.items = room_left i.values.items i.levels.items i.entries.items i.level i.worked (vec_capacity i.entries) c.self.invariant c.args.entry c.requires.within.0 (omega (arith, vars, c.requires.within)) free in
    omega (arith, room, c.self.invariant.room, i.entries.ok.0)

pub invariant_of-self : goal.invariant_of-self
invariant_of-self c =
    let i = c.self.inside in
    let entries : i.entries.items ≡ c.args.self.now.entries = ap (λ (t : TrailState). t.entries) c.self.view_is in
    let vars : length i.values.items ≡ c.args.self.now.vars = ap (λ (t : TrailState). t.vars) c.self.view_is in
    let free : value_in i.entries.items c.args.entry.lit.var ≡ None = subst (λ es. value_in es c.args.entry.lit.var ≡ None) (sym entries) c.requires.free in
    let leveled : c.args.entry.level ≡ decisions (i.entries.items ++ c.args.entry ∷ []) = subst (λ es. c.args.entry.level ≡ decisions (es ++ c.args.entry ∷ [])) (sym entries) c.requires.level in
    rw (c.push_reserved.ensures.items, c.push_reserved.ensures.capacity) (push_keeps i.values.items i.levels.items i.entries.items i.level i.worked (vec_capacity i.entries) c.self.invariant c.args.entry c.requires.within.0 (omega (arith, vars, c.requires.within)) free leveled)

pub returns-clause-trail : goal.returns-clause-trail
returns-clause-trail c = (invariant_of-self c).trail
