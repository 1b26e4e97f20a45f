use Rattle.std.proofs.Common.{◌<◌, ℕ, Option, sym, length, refl, subst, arith}
use Rattle.std.specs.Prelude.{IfSome}
use Rattle.std.proofs.lemmas.List.{length-map}
use Rattle.std.proofs.lemmas.Option.{slice_get_read}
use Rattle.dj_tree.specs.Plain.{plain_delta}
use Rattle.dj_conditions.specs.Conditions.{StandsFor}
use Rattle.dj_line.specs.Lines.{plain_line}
use Rattle.dj_line.specs.Placing.{formula_of}
use Rattle.dj_line.proofs.FormulaOf.{known_features}
use Rattle.dj_line.proofs.line.Line.formula.Goals as goal

pub returns-in-None : goal.returns-in-None
returns-in-None c =
    let line = c.args.self.now in
    let P : Option ℕ → Type 0 = λ of. StandsFor (plain_line line) line.valid (formula_of (plain_line line) of) in
    let stands = subst P (sym c.in-None.is) line.tables.valid_is in
    record { there = stands.there; tree = stands.tree; nodes = stands.nodes; features = known_features (plain_line line) line.accepted line.valid c.args.of stands; value = stands.value }

pub returns-in-Some : goal.returns-in-Some
returns-in-Some c =
    let line = c.args.self.now in
    let delta = c.in-Some.delta in
    let Q : Option ℕ → Type 0 = λ of. IfSome of (λ delta. delta < length (plain_line line).deltas) in
    let below = subst Q c.in-Some.is c.requires in
    let P : Option ℕ → Type 0 = λ of. StandsFor (plain_line line) c.index.result.now (formula_of (plain_line line) of) in
    let stands = subst P (sym c.in-Some.is) (line.tables.conditions_are delta c.index.result.now
    (slice_get_read line.conditions.items (length line.conditions.items) delta c.index.result.now refl
    (omega (arith, below, line.tables.as_many_conditions, length-map line.source.deltas (plain_delta line.source.names line.source.exprs))) c.index.ensures)) in
    record { there = stands.there; tree = stands.tree; nodes = stands.nodes; features = known_features (plain_line line) line.accepted c.index.result.now c.args.of stands; value = stands.value }
