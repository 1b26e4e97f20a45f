use Rattle.std.proofs.Common.{◌≡◌, ℕ, ◌+◌, ◌<◌, List, length, Option, subst, arith}
use Rattle.std.specs.Prelude.{slice_index_or}
use Rattle.std.proofs.lemmas.Option.{slice_get-get_or}
use Rattle.dj_tree.specs.declared.source.Instance.{Instance}
use Rattle.ifj_typing.specs.Least.{IsLeastOf, IsLesser, Before, OfElement, IsFault}
use Rattle.ifj_typing.specs.declared.kind.Typed.{Typed}
use Rattle.ifj_typing.proofs.Leasts.{least_next, least_element}
use Rattle.ifj_typing.proofs.least.least_fault.Goals as goal

one_more : (outs : List Typed) (k : ℕ) (d : Typed) (a b r : Option Instance) → k < length outs → IsLeastOf (Before (OfElement IsFault outs) k) a → IsLeastOf (IsFault (slice_index_or outs k d)) b
    → IsLesser a b r → IsLeastOf (Before (OfElement IsFault outs) (k + 1)) r
one_more outs k d a b r low before here =
    least_next (OfElement IsFault outs) k a b r before (least_element IsFault outs k (slice_index_or outs k d) b (slice_get-get_or outs k d low) here)

pub loop-out-preserved : goal.loop-out-preserved
loop-out-preserved c =
    one_more c.args.outs.now c.loop-out.out-index _ c.loop-out.least c.fault_of.result c.lesser-least.result c.loop-out-test.true c.loop-out.invariant c.fault_of.ensures c.lesser-least.ensures

pub returns : goal.returns
returns c =
    let P : ℕ → Type 0 = λ n. IsLeastOf (Before (OfElement IsFault c.args.outs.now) n) c.loop-out.least in
    let same : c.loop-out.out-index ≡ length c.args.outs.now = omega arith in
    subst P same c.loop-out.invariant
