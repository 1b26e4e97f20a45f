use Rattle.std.proofs.Common.{◌≡◌, ℕ, ◌-◌, List, Option, Some, None, length, slice_index, All, refl, sym, subst, ap, ◌∙◌, arith}
use Rattle.std.specs.Option.{IfSome}
use Rattle.std.proofs.lemmas.List.{get_or_read}
use Rattle.sat_solver.specs.declared.entry.Entry.{Entry}
use Rattle.sat_solver.specs.Entries.{entry_of}
use Rattle.sat_solver.specs.Trails.{TrailState}
use Rattle.sat_solver.proofs.AlongLemmas.{All-at}
use Rattle.sat_solver.proofs.EntryLemmas.{entry_place}
use Rattle.sat_solver.proofs.trail.Trail.level_of.Goals as goal

pub returns : goal.returns
returns c =
    let i = c.self.inside in
    let vars : length i.values.items ≡ c.args.self.now.vars = ap (λ (t : TrailState). t.vars) c.self.view_is in
    let read : c.index.result.now ≡ slice_index i.levels.items (c.args.var - 1) = get_or_read i.levels.items (c.args.var - 1) c.index.result.now (omega (arith, vars, c.requires, c.self.invariant.lengths)) c.index.ensures 0 in
    subst (λ (t : TrailState). IfSome (entry_of t.entries c.args.var) (λ entry. c.index.result.now ≡ entry.level)) c.self.view_is (by i.entries.items i.levels.items c.self.invariant.leveled read (entry_of i.entries.items c.args.var) refl)
  where
    by : (entries : List Entry) (levels : List ℕ) → All (λ entry. slice_index levels (entry.lit.var - 1) ≡ entry.level) entries → c.index.result.now ≡ slice_index levels (c.args.var - 1) → (o : Option Entry) → entry_of entries c.args.var ≡ o → IfSome o (λ entry. c.index.result.now ≡ entry.level)
    by entries levels leveled read None f = tt
    by entries levels leveled read (Some entry) f =
        let place = entry_place entries c.args.var entry f in
        read ∙ ap (λ v. slice_index levels (v - 1)) (sym place.2) ∙ All-at (λ e. slice_index levels (e.lit.var - 1) ≡ e.level) entries place.0 entry leveled place.1
