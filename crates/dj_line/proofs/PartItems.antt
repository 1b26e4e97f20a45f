-- The deltas of a part, from the tables of a line.
use Rattle.std.proofs.Common.{◌≡◌, ◌∙◌, ◌-◌, ◌<◌, ◌≤◌, ℕ, true, List, [], Option, None, Some, Vec, Global, length, slice_get, unwrap_or, get_or, refl, sym, ap, arith}
use Rattle.std.specs.Option.{option_map}
use Rattle.std.specs.Prelude.{◌==◌}
use Rattle.std.specs.List.{list_any}
use Rattle.std.proofs.lemmas.Bool.{false≢true}
use Rattle.std.proofs.lemmas.List.{length-map}
use Rattle.std.proofs.lemmas.Option.{slice_get_read, slice_get-map, slice_get_within}
use Rattle.dj_line.specs.declared.line.Line.{Line}
use Rattle.dj_line.specs.Lines.{plain_line}
use Rattle.dj_tree.specs.Trees.{Source}
use Rattle.dj_calculus.specs.Accepted.{IsAccepted}
use Rattle.dj_calculus.specs.Parts.{chain}
use Rattle.dj_line.specs.Placing.{numbers_of, numbers_along, StandsIn}
use Rattle.dj_line.proofs.AcceptedLines.{length-chain}

-- the numbers that stand at a place of the table
pub part_items : (line : Line) (k : ℕ) (read : Vec ℕ Global) (numbers : List ℕ) → k < length line.items.items → read ≡ get_or line.items.items k read → numbers ≡ read.items → slice_get (numbers_along (plain_line line)) k ≡ Some numbers
part_items line k read numbers low is are =
    ap (λ ns. slice_get ns k) (sym line.tables.items_are) ∙ slice_get-map (λ v. v.items) line.items.items k
    ∙ ap (option_map (λ v. v.items)) (slice_get_read line.items.items (length line.items.items) k read refl low is) ∙ ap Some (sym are)

-- the list of a part in which a delta stands is there
list_there : (delta : ℕ) (o : Option (List ℕ)) → list_any (λ number. number == delta) (unwrap_or o []) ≡ true → (list : List ℕ) × (o ≡ Some list)
list_there delta None h = absurd (false≢true h)
list_there delta (Some list) h = (list, refl)

-- the part of a delta is one of the line's
pub part_within : (source : Source) → IsAccepted source → (delta part : ℕ) → StandsIn source delta part → part ≤ length source.parts
part_within source accepted delta part stands =
    let there = list_there delta (slice_get (numbers_along source) (part - 1)) stands.named in
    omega (arith, slice_get_within (numbers_along source) (part - 1) there.0 there.1, length-map (chain source) (numbers_of source), length-chain source accepted, stands.counted)
