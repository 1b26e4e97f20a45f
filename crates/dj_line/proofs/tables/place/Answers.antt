use Rattle.std.proofs.Common.{◌∙◌, List, refl, subst, arith}
use Rattle.std.proofs.lemmas.List.{take_all, length-set}
use Rattle.std.proofs.lemmas.Option.{slice_get-get_or}
use Rattle.dj_tree.specs.declared.declarations.Item.{Item}
use Rattle.dj_line.specs.Numbering.{number_by, IsSetTo}
use Rattle.dj_line.proofs.Filling.{set_next, no_item}
use Rattle.dj_line.proofs.tables.place.Goals as goal

pub loop-item-preserved : goal.loop-item-preserved
loop-item-preserved c =
    let at = slice_get-get_or c.args.items.now c.loop-item.item-index no_item c.loop-item-test.true in
    record {
      as_many = length-set c.loop-item.placings c.number_in.result _ ∙ c.loop-item.invariant.as_many;
      each = λ delta p got. set_next c.args.placings.now c.loop-item.placings (number_by c.args.deltas.now.keys) c.args.items.now c.args.part c.loop-item.item-index c.number_in.result _ _ at c.number_in.ensures
          (omega (arith, c.number_in.ensures, c.loop-item.invariant.as_many, c.requires.within c.loop-item.item-index no_item c.loop-item-test.true)) refl refl c.loop-item.invariant.each delta p got;
    }

pub returns : goal.returns
returns c = λ delta p got.
    let P : List Item → Type 0 = λ items. IsSetTo c.args.placings.now (number_by c.args.deltas.now.keys) items c.args.part delta p in
    subst P (take_all c.loop-item.item-index c.args.items.now (omega arith)) (c.loop-item.invariant.each delta p got)
