use Rattle.std.proofs.Common.{◌≡◌, ◌-◌, None, option_map, get_or, ap, sym, ◌∙◌}
use Rattle.std.specs.Bool.{beq}
use Rattle.sat_solver.specs.Entries.{value_in}
use Rattle.sat_solver.proofs.EntryLemmas.{values_at}
use Rattle.sat_solver.proofs.trail.Trail.truth.Goals as goal
use Rattle.sat_solver.proofs.trail.Trail.truth.Goals.{After-values}

read : (c : After-values) → get_or c.values.result.now (c.args.lit.var - 1) None ≡ value_in c.args.self.now.entries c.args.lit.var
read c = ap (λ vs. get_or vs (c.args.lit.var - 1) None) c.values.ensures.values ∙ values_at c.args.self.now.vars c.args.self.now.entries c.args.lit.var c.requires.0 c.requires.1

pub returns-in-Some : goal.returns-in-Some
returns-in-Some c = ap (option_map (λ value. beq value c.args.lit.positive)) (sym c.in-Some.is ∙ read (goal.at.returns-in-Some c).After-values)

pub returns-in-None : goal.returns-in-None
returns-in-None c = ap (option_map (λ value. beq value c.args.lit.positive)) (sym c.in-None.is ∙ read (goal.at.returns-in-None c).After-values)
