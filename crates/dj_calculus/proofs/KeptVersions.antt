-- The product of the sample S12, and the text of its flat table.
use Rattle.std.proofs.Common.{◌≡◌, List, [], ◌∷◌, Some, refl, ap}
use Rattle.std.specs.FinMap.{same_entries_map}
use Rattle.std.specs.Fmt.{digits}
use Rattle.dj_tree.specs.Trees.{Delta}
use Rattle.dj_calculus.specs.Tables.{FieldEntry, MethodEntry, ClassEntry}
use Rattle.dj_calculus.specs.Products.{AllowedAlong, fold_deltas}
use Rattle.dj_calculus.specs.FlatTables.{flat}
use Rattle.dj_calculus.specs.JavaText.{java_text}
use Rattle.dj_calculus.specs.Samples.S12
use Rattle.dj_calculus.proofs.MapLemmas.{text_get-insert, text_get-empty, text_entries-insert, entries-empty, reinserted}
use Rattle.dj_calculus.proofs.OrderLemmas.{one_order, splits, ends}

folds : fold_deltas (S12.delta_p ∷ S12.delta_q ∷ S12.delta_r ∷ []) ≡ Some S12.product
folds =
    simp (text_get-insert ClassEntry, text_get-insert MethodEntry, text_get-empty ClassEntry)
    (ap Some (same_entries_map _ _ (simp (text_entries-insert ClassEntry, entries-empty ClassEntry, reinserted MethodEntry) refl)))

pub every_order : (order : List Delta) → AllowedAlong S12.sample [] (S12.part_a ∷ S12.part_b ∷ S12.part_c ∷ []) order → fold_deltas order ≡ Some S12.product
every_order order allowed =
    let first = splits S12.sample [] S12.part_a (S12.part_b ∷ S12.part_c ∷ []) order allowed in
    let second = splits S12.sample [] S12.part_b (S12.part_c ∷ []) first.later first.rest in
    let third = splits S12.sample [] S12.part_c [] second.later second.rest in
    rw (first.joined, one_order S12.delta_p first.mine first.permuted, second.joined, one_order S12.delta_q second.mine second.permuted, third.joined, one_order S12.delta_r third.mine third.permuted, ends S12.sample [] third.later third.rest)
    folds

pub text : java_text (flat S12.product) ≡ S12.text
unfolding digits
text =
    simp (text_entries-insert ClassEntry, text_entries-insert MethodEntry, entries-empty ClassEntry, entries-empty MethodEntry, entries-empty FieldEntry)
    refl
