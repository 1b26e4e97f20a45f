-- The two orders of the sample S13.
use Rattle.std.proofs.Common.{◌≡◌, inl, inr, List, [], ◌∷◌, ◌++◌, Some, refl, ap, ◌∙◌, codes}
use Rattle.std.specs.FinMap.{insert, empty, same_entries_map}
use Rattle.dj_calculus.specs.Tables.{FieldEntry, ClassEntry, Table}
use Rattle.dj_tree.specs.Trees.{Delta}
use Rattle.dj_calculus.specs.Maps.{TextMap}
use Rattle.dj_calculus.specs.Products.{AllowedAlong, fold_deltas}
use Rattle.dj_calculus.specs.Samples.Builders.{spot}
use Rattle.dj_calculus.proofs.OrderLemmas.{EitherOrder, one_order, two_orders, splits, ends}
use Rattle.dj_calculus.specs.Samples.S13
use Rattle.dj_calculus.proofs.MapLemmas.{text_get-insert, text_get-empty, text_entries-insert, entries-empty}

abbrev a_field : FieldEntry
a_field = record { at = 180; kind = spot "C" 178 }

abbrev b_field : FieldEntry
b_field = record { at = 137; kind = spot "C" 135 }

abbrev with_fields : TextMap FieldEntry → ClassEntry
with_fields fields = record { at = 93; parent = spot "Object" 93; fields = fields; methods = empty }

abbrev of_class : TextMap FieldEntry → Table
of_class fields = insert empty (codes "C") (with_fields fields)

exchanged : ◌≡◌ {A = TextMap FieldEntry} (insert (insert empty (codes "a") a_field) (codes "b") b_field) (insert (insert empty (codes "b") b_field) (codes "a") a_field)
exchanged = same_entries_map _ _ (simp (text_entries-insert FieldEntry, entries-empty FieldEntry) refl)

-- a class put in again takes the place of the one before
overwritten : (x y z : ClassEntry) → ◌≡◌ {A = Table} (insert (insert (insert empty (codes "C") x) (codes "C") y) (codes "C") z) (insert empty (codes "C") z)
overwritten x y z = same_entries_map _ _ (simp (text_entries-insert ClassEntry, entries-empty ClassEntry) refl)

pub as_written : fold_deltas (S13.delta_p ∷ S13.delta_q ∷ S13.delta_r ∷ []) ≡ Some S13.product
as_written = simp (text_get-insert ClassEntry, text_get-insert FieldEntry, text_get-empty ClassEntry, text_get-empty FieldEntry) (ap Some (overwritten _ _ _))

pub turned : fold_deltas (S13.delta_p ∷ S13.delta_r ∷ S13.delta_q ∷ []) ≡ Some S13.product
turned = simp (text_get-insert ClassEntry, text_get-insert FieldEntry, text_get-empty ClassEntry, text_get-empty FieldEntry) (ap Some (overwritten _ _ _ ∙ ap of_class exchanged))

in_either : (mine : List Delta) → EitherOrder S13.delta_q S13.delta_r mine → fold_deltas ((S13.delta_p ∷ []) ++ (mine ++ [])) ≡ Some S13.product
in_either mine (inl e) = rw e as_written
in_either mine (inr e) = rw e turned

pub every_order : (order : List Delta) → AllowedAlong S13.sample [] (S13.part_a ∷ S13.part_b ∷ []) order → fold_deltas order ≡ Some S13.product
every_order order allowed =
    let first = splits S13.sample [] S13.part_a (S13.part_b ∷ []) order allowed in
    let second = splits S13.sample [] S13.part_b [] first.later first.rest in
    rw (first.joined, one_order S13.delta_p first.mine first.permuted, second.joined, ends S13.sample [] second.later second.rest)
    (in_either second.mine (two_orders S13.delta_q S13.delta_r second.mine second.permuted))
