use Rattle.std.proofs.Common.{◌≡◌, ◌∙◌, ◌+◌, ℕ, List, Some, ap, sym, subst, get_or, drop, length, slice_get, refl, arith}
use Rattle.std.proofs.lemmas.Option.{slice_get-get_or, slice_get_read}
use Rattle.dj_tree.specs.declared.declarations.Item.{Item}
use Rattle.dj_line.specs.declared.tables.Placing.{Placing}
use Rattle.dj_line.specs.Numbering.{number_by, IsSetTo, ArePlaced}
use Rattle.dj_line.proofs.Filling.{placed_next, lent_back}
use Rattle.dj_line.proofs.acceptance.chain_placings.Goals as goal

pub loop-k-preserved : goal.loop-k-preserved
loop-k-preserved c =
    let parts = c.args.parts.now in
    let chain = c.args.chain.now in
    let k = c.loop-k.k in
    let part = c.index-parts-part.result in
    let number = number_by c.args.deltas.now.keys in
    let old = c.loop-k.placings.items in
    let new = c.place.new.placings in
    let same : length new ≡ c.loop-k.placings.len = c.place.auto.placings ∙ c.deref_mut.ensures.len in
    let back = lent_back c.loop-k.placings.len new (drop (length new) old) same in
    let P : List Placing → Type 0 = λ ps. (delta : ℕ) (p : Placing) → slice_get new delta ≡ Some p → IsSetTo ps number c.as_slice-items.result.now (k + 1) delta p in
    let each = subst P c.deref_mut.ensures.value c.place.ensures in
    let Q : List Item → Type 0 = λ items. (delta : ℕ) (p : Placing) → slice_get new delta ≡ Some p → IsSetTo old number items (k + 1) delta p in
    let each_of = subst Q (c.as_slice-items.ensures ∙ ap (λ p. p.items) (sym c.index-parts-part.is)) each in
    let R : List Placing → Type 0 = λ ps. ArePlaced number parts chain (k + 1) ps in
    record {
      as_many = ap length back ∙ c.place.auto.placings ∙ ap length c.deref_mut.ensures.value ∙ c.loop-k.invariant.as_many;
      placed = subst R (sym back) (placed_next number parts chain k (get_or chain k 0) part (slice_get-get_or chain k 0 c.loop-k-test.true)
          (slice_get_read parts (length parts) (get_or chain k 0) part refl (c.requires.within k 0 c.loop-k-test.true) c.index-parts-part.is) old new each_of c.loop-k.invariant.placed);
    }

pub returns-clause-placed : goal.returns-clause-placed
returns-clause-placed c =
    let number = number_by c.args.deltas.now.keys in
    let at_end : c.loop-k.k ≡ length c.args.chain.now = omega arith in
    subst (λ (n : ℕ). ArePlaced number c.args.parts.now c.args.chain.now n c.loop-k.placings.items) at_end c.loop-k.invariant.placed
