use Rattle.std.proofs.Common.{rules, ◌∙◌, ◌-◌, ◌<◌, ◌≤◌, refl, ℕ, Some, ap, sym, length, slice_get, arith}
use Rattle.std.specs.Option.{option_map}
use Rattle.std.proofs.lemmas.List.{length-map}
use Rattle.std.proofs.lemmas.Option.{slice_get_read, slice_get-map}
use Rattle.dj_line.specs.declared.line.Line.{Line}
use Rattle.dj_line.specs.Lines.{plain_line}
use Rattle.dj_calculus.specs.Parts.{chain}
use Rattle.dj_line.specs.Placing.{numbers_of}
use Rattle.dj_line.proofs.AcceptedLines.{length-chain, numbers_below}
use Rattle.dj_line.proofs.line.Line.items.Goals as goal

part_there : (line : Line) (part : ℕ) → 1 ≤ part → part ≤ length (plain_line line).parts → part - 1 < length line.items.items
part_there line part from_one within =
    omega (arith, ap length line.tables.items_are, length-map line.items.items (λ v. v.items), length-map (chain (plain_line line)) (numbers_of (plain_line line)), length-chain (plain_line line) line.accepted)

pub index-requires : goal.index-requires
index-requires c =
    let inside : c.args.part - 1 < length c.args.self.now.items.items = part_there c.args.self.now c.args.part c.requires.from_one c.requires.within in
    search rules

pub returns-clause-numbers : goal.returns-clause-numbers
returns-clause-numbers c =
    let line = c.args.self.now in
    let inside = part_there line c.args.part c.requires.from_one c.requires.within in
    ap (λ ns. slice_get ns (c.args.part - 1)) (sym line.tables.items_are) ∙ slice_get-map (λ v. v.items) line.items.items (c.args.part - 1)
    ∙ ap (option_map (λ v. v.items)) (slice_get_read line.items.items (length line.items.items) (c.args.part - 1) c.index.result.now refl inside c.index.ensures) ∙ ap Some (sym c.as_slice.ensures.value)

pub returns-clause-below : goal.returns-clause-below
returns-clause-below c =
    numbers_below (plain_line c.args.self.now) c.args.self.now.accepted (c.args.part - 1) c.as_slice.result.now (returns-clause-numbers c)
