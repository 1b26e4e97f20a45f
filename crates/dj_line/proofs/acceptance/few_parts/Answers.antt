use Rattle.std.proofs.Common.{◌≡◌, ◌∙◌, ◌-◌, List, Some, length, slice_get, ap, sym, subst, arith}
use Rattle.std.specs.Option.{option_copied}
use Rattle.dj_tree.specs.Plain.{plain_source, plain_part}
use Rattle.dj_tree.specs.declared.declarations.PartDecl.{PartDecl}
use Rattle.dj_line.proofs.Bridge.{mapped_at}
use Rattle.dj_line.proofs.Rising.{parts_before}
use Rattle.dj_line.proofs.acceptance.few_parts.Goals as goal

pub returns-in-Some : goal.returns-in-Some
returns-in-Some c =
    let s = c.args.source.now in
    let last = length s.parts - 1 in
    let P : List PartDecl → Type 0 = λ xs. slice_get xs (length xs - 1) ≡ Some c.in-Some.part.now in
    let there = subst P c.as_slice.ensures (sym c.last.ensures.value ∙ ap option_copied c.in-Some.is) in
    omega (arith, parts_before (plain_source s) c.requires last _ (mapped_at (plain_part s.names s.formulas) s.parts last c.in-Some.part.now there), c.has_32_bits.ensures)
