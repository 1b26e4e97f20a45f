use Rattle.std.proofs.Common.{◌≡◌, ◌<◌, ℕ, Some, slice_get, map}
use Rattle.dj_tree.specs.Plain.{plain_spot}
use Rattle.dj_tree.specs.Trees as plain
use Rattle.ifj_lineages.proofs.signatures.same_types.Given as goal

abbrev pub invariant-loop-number : goal.invariant-loop-number
invariant-loop-number l =
    (k : ℕ) (x y : plain.Spot) → k < l.number → slice_get (map (plain_spot l.names) l.one) k ≡ Some x → slice_get (map (plain_spot l.names) l.other) k ≡ Some y → x.text ≡ y.text
