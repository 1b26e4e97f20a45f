use Rattle.std.proofs.Common.{◌≡◌, Some, slice_get, refl}
use Rattle.persistent_trie.proofs.Keeping.{keeps_reflexive}
use Rattle.ifj_table.specs.Tables.{table_classes}
use Rattle.ifj_table.proofs.TableLemmas.{element_is}
use Rattle.ifj_lineages.proofs.Telling.{lineage_put}
use Rattle.ifj_lineages.proofs.lineages.Lineages.add.Goals as goal

pub returns-in_ok-lineage-in-Some : goal.returns-in_ok-lineage-in-Some
returns-in_ok-lineage-in-Some c =
    let t = c.args.table.now in
    let class = c.index-classes-number.result in
    let all = c.below.new.self in
    let stands : slice_get (table_classes t) c.args.number ≡ Some class = element_is (table_classes t) c.args.number class c.requires.number (rw c.classes.ensures.classes at c.index-classes-number.is) in
    lineage_put t all _ c.args.number class c.in_ok-lineage-in-Some.lineage (record { fields = keeps_reflexive all.fields; methods = keeps_reflexive all.methods; above = keeps_reflexive all.above; clashes = keeps_reflexive all.clashes }) refl
    stands c.in_ok-lineage-in-Some.ensures.lineage c.in_ok-lineage-in-Some.ensures.lineages
