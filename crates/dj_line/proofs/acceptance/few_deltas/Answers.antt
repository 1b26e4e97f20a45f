use Rattle.std.proofs.Common.{◌≡◌, ◌∙◌, ◌-◌, List, Some, length, slice_get, ap, sym, subst, arith}
use Rattle.std.specs.Option.{option_copied}
use Rattle.dj_tree.specs.Plain.{plain_source, plain_delta}
use Rattle.dj_tree.specs.declared.declarations.DeltaDecl.{DeltaDecl}
use Rattle.dj_line.proofs.Bridge.{mapped_at}
use Rattle.dj_line.proofs.Rising.{deltas_before}
use Rattle.dj_line.proofs.acceptance.few_deltas.Goals as goal

pub returns-in-Some : goal.returns-in-Some
returns-in-Some c =
    let s = c.args.source.now in
    let last = length s.deltas - 1 in
    let P : List DeltaDecl → Type 0 = λ xs. slice_get xs (length xs - 1) ≡ Some c.in-Some.delta.now in
    let there = subst P c.as_slice.ensures (sym c.last.ensures.value ∙ ap option_copied c.in-Some.is) in
    omega (arith, deltas_before (plain_source s) c.requires last _ (mapped_at (plain_delta s.names s.exprs) s.deltas last c.in-Some.delta.now there), c.has_32_bits.ensures)
