-- In a good configuration of an accepted line no rule is broken. For clients: runs of steps, orders along parts, what stands once in an
-- accepted line, and that `Object` is in no table.
use Rattle.std.proofs.Common.{◌≡◌, ℕ, zero, suc, ◌<◌, Bool, true, false, List, [], ◌∷◌, ◌++◌, map, take, drop, Option, Some, None, slice_get, slice_index_or, Contains, append_assoc, refl, sym, ap, ◌∙◌, subst}
use Rattle.std.specs.Bool.{if◌then◌else◌}
use Rattle.std.specs.List.{flat_map}
use Rattle.std.specs.Option.{option_and_then}
use Rattle.std.specs.FinMap.{get}
use Rattle.std.proofs.lemmas.Option.{slice_get_within, get_or_from_slice_get}
use Rattle.dj_tree.specs.Trees.{Part, Delta, Source, Change, Operation, modifies_class}
use Rattle.dj_calculus.specs.Configurations.{Configuration}
use Rattle.dj_calculus.specs.Parts.{chain, active, delta_named, is_on}
use Rattle.dj_calculus.specs.Contents.{operations_of, changes_of, class_name, change_by}
use Rattle.dj_calculus.specs.Faults.{RepeatedOperation, ReservedClass}
use Rattle.dj_calculus.specs.FaultPlaces.{repeated_class_operation, repeated_field_operation, repeated_method_operation, reserved_class}
use Rattle.dj_calculus.specs.Accepted.{IsAccepted}
use Rattle.dj_calculus.specs.Conflicts.{Overlap, Disjoint, LeastConflict}
use Rattle.std.specs.Str.{bytes_eq}
use Rattle.dj_calculus.specs.Tables.{ClassEntry, Table, empty_table}
use Rattle.dj_calculus.specs.Operations.{run, apply, apply_delta}
use Rattle.dj_calculus.specs.Products.{AllowedAlong, no_parts, part_and, default_order, fold_deltas, Makes, Product}
use Rattle.dj_calculus.specs.Subclasses.{object}
use Rattle.dj_calculus.specs.LineRules.{OperationRule, LineRule, overlap, of_operation, of_product}
use Rattle.dj_calculus.specs.Good.{HasProduct, GoodAt}
use Rattle.dj_calculus.proofs.MapLemmas.{text_get-empty}
use Rattle.dj_calculus.proofs.Members.{Each, none, and, each_of, each_append, filtered_from, kept_by, within_flat, found_within, inserted, moved_first, StandOnce, taken, not_both}
use Rattle.dj_calculus.proofs.OperationLemmas.{IsOnce, delta_stops, operation_keeps}
use Rattle.dj_calculus.proofs.ProductLemmas.{default_along, one_product}
use Rattle.dj_calculus.proofs.RuleLemmas.{sound_table}

-- ---- lists

pub split_at : {X : Type 0} (xs : List X) (k : ℕ) (x : X) → slice_get xs k ≡ Some x → xs ≡ take k xs ++ x ∷ drop (suc k) xs
split_at [] k x e = absurd cc
split_at (y ∷ xs) zero x e = let same : y ≡ x = cc in ap (λ z. z ∷ xs) same
split_at (y ∷ xs) (suc k) x e = ap (λ zs. y ∷ zs) (split_at xs k x e)

-- ---- one step after the other

then_after : {S : Type 0} (f g h : S → Option S) (o : Option S) → ((s : S) → f s ≡ option_and_then h (g s)) → option_and_then f o ≡ option_and_then h (option_and_then g o)
then_after f g h None is = refl
then_after f g h (Some s) is = is s

pub run_append : {X S : Type 0} (step : X → S → Option S) (xs ys : List X) (s : S) → run step (xs ++ ys) s ≡ option_and_then (run step ys) (run step xs s)
run_append step [] ys s = refl
run_append step (x ∷ xs) ys s = then_after (run step (xs ++ ys)) (run step xs) (run step ys) (step x s) (run_append step xs ys)

-- what each step keeps, a run keeps
pub run_keeps : {X S : Type 0} (step : X → S → Option S) (P : S → Type 0) (xs : List X) (s s' : S) → Each (λ x. (u v : S) → step x u ≡ Some v → P u → P v) xs
    → run step xs s ≡ Some s' → P s → P s'
run_keeps step P xs s s' none e here = let same : s ≡ s' = cc in subst P same here
run_keeps step P xs s s' (and {x = x} {xs = rest} keeps all) e here =
    let first = taken (run step rest) (step x s) s' e in
    run_keeps step P rest first.0 s' all first.2 (keeps s first.0 first.1 here)

-- ---- orders along parts

pub along_append : (source : Source) (c : Configuration) (ps qs : List Part) (before later : List Delta) → AllowedAlong source c ps before
    → AllowedAlong source c qs later → AllowedAlong source c (ps ++ qs) (before ++ later)
along_append source c ps qs before later no_parts more = more
along_append source c ps qs before later (part_and {parts = rest} {mine = mine} {later = others} permuted along) more =
    subst (λ order. AllowedAlong source c (ps ++ qs) order) (sym (append_assoc mine others later)) (part_and permuted (along_append source c rest qs others later along more))

-- ---- accepted lines

module _ (source : Source) (accepted : IsAccepted source) where
  -- an active delta is declared
  pub declared : (c : Configuration) (part : Part) (delta : Delta) → Contains (active source c part) delta → Contains source.deltas delta
  declared c part delta within =
      let item = filtered_from (λ i. if is_on source c i then delta_named source i.delta.text else None) part.items delta within in
      found_within (λ d. bytes_eq d.name.text item.0.delta.text) source.deltas delta (chosen_delta (is_on source c item.0) (delta_named source item.0.delta.text) delta item.2)
    where
      chosen_delta : (b : Bool) (o : Option Delta) (d : Delta) → (if b then o else None) ≡ Some d → o ≡ Some d
      chosen_delta true o d e = e
      chosen_delta false o d e = absurd cc

  pub classes_once : (delta : Delta) → Contains source.deltas delta → StandOnce (map class_name delta.operations)
  classes_once delta within at r = accepted RepeatedOperation at (repeated_class_operation delta at within r)

  pub change_within : (delta : Delta) (c : Change) → Contains source.deltas delta → Contains delta.operations (modifies_class c) → Contains (changes_of source) c
  change_within delta c within has = kept_by change_by (operations_of source) (modifies_class c) c (within_flat (λ d. d.operations) source.deltas delta (modifies_class c) within has) refl

  pub members_once : (c : Change) → Contains (changes_of source) c → IsOnce c
  members_once c within =
      record {
        fields = λ at r. accepted RepeatedOperation at (repeated_field_operation c at within r);
        methods = λ at r. accepted RepeatedOperation at (repeated_method_operation c at within r);
      }

  -- a delta with a broken operation is undefined
  pub broken_delta : (delta : Delta) (t : Table) (x : Operation) (rule at : ℕ) → Contains source.deltas delta → Contains delta.operations x
      → OperationRule t x rule at → apply_delta delta t ≡ None
  broken_delta delta t x rule at within has breaks =
      delta_stops delta t x rule at (classes_once delta within)
      (λ c same. members_once c (change_within delta c within (subst (λ y. Contains delta.operations y) same has))) has breaks

  -- ---- `Object` is in no table

  abbrev LacksObject : Table → Type 0
  LacksObject t = get t object ≡ None

  operation_lacks : (delta : Delta) (x : Operation) (t u : Table) → Contains source.deltas delta → Contains delta.operations x → apply x t ≡ Some u
      → LacksObject t → LacksObject u
  operation_lacks delta x t u within has applied lacks =
      operation_keeps x t u object (λ same. accepted ReservedClass (class_name x).at (reserved_class x (within_flat (λ d. d.operations) source.deltas delta x within has) same)) applied ∙ lacks

  pub delta_lacks : (delta : Delta) (t u : Table) → Contains source.deltas delta → apply_delta delta t ≡ Some u → LacksObject t → LacksObject u
  delta_lacks delta t u within applied lacks =
      run_keeps apply LacksObject delta.operations t u (each_of _ delta.operations (λ x has v w. operation_lacks delta x v w within has)) applied lacks

  active_declared : (c : Configuration) (parts : List Part) → Each (λ d. (u v : Table) → apply_delta d u ≡ Some v → LacksObject u → LacksObject v) (flat_map (active source c) parts)
  active_declared c [] = none
  active_declared c (part ∷ parts) =
      each_append _ (active source c part) (flat_map (active source c) parts)
      (each_of _ (active source c part) (λ d within u v. delta_lacks d u v (declared c part d within))) (active_declared c parts)

  pub product_lacks : (c : Configuration) (t : Table) → Product source c t → LacksObject t
  product_lacks c t product =
      run_keeps apply_delta LacksObject (default_order source c) empty_table t (active_declared c (chain source)) (product.each _ (default_along source c (chain source)))
      (text_get-empty ClassEntry object)

  -- ---- configurations with a product

  module _ (c : Configuration) (good : HasProduct source c) where
    pub no_overlap : (part : Part) (i j : ℕ) (one other : Delta) (first second : ℕ) → Contains (chain source) part → i < j
        → slice_get (active source c part) i ≡ Some one → slice_get (active source c part) j ≡ Some other → LeastConflict one other first second → ⊥
    no_overlap part i j one other first second within behind at_i at_j least =
        let ds = active source c part in
        let apart : Disjoint (slice_index_or ds i one) (slice_index_or ds j one) = good.disjoint part within i j one behind (slice_get_within ds j other at_j) in
        let overlapping : Overlap one other = (first, (second, least.clash)) in
        apart (rw (get_or_from_slice_get ds i one one at_i, get_or_from_slice_get ds j other one at_j) overlapping)

    pub no_broken_operation : (k : ℕ) (part : Part) (t : Table) (delta : Delta) (x : Operation) (rule at : ℕ) → slice_get (chain source) k ≡ Some part
        → Makes source c (take k (chain source)) t → Contains (active source c part) delta → Contains delta.operations x → OperationRule t x rule at → ⊥
    no_broken_operation k part t delta x rule at is makes within has breaks =
        let parts = chain source in
        let found = inserted (active source c part) delta within in
        let before : List Delta = flat_map (active source c) (take k parts) in
        let rest : List Delta = found.others ++ flat_map (active source c) (drop (suc k) parts) in
        let along = along_append source c (take k parts) (part ∷ drop (suc k) parts) before (delta ∷ rest) (default_along source c (take k parts)) (part_and {mine = delta ∷ found.others} (moved_first (active source c part) delta found) (default_along source c (drop (suc k) parts))) in
        let whole : fold_deltas (before ++ delta ∷ rest) ≡ Some good.table = good.product.each _ (subst (λ ps. AllowedAlong source c ps (before ++ delta ∷ rest)) (sym (split_at parts k part is)) along) in
        let first : fold_deltas before ≡ Some t = makes.each _ (default_along source c (take k parts)) in
        let broken = broken_delta delta t x rule at (declared c part delta within) has breaks in
        let stopped : fold_deltas (before ++ delta ∷ rest) ≡ None = run_append apply_delta before (delta ∷ rest) empty_table ∙ ap (option_and_then (run apply_delta (delta ∷ rest))) first ∙ ap (option_and_then (run apply_delta rest)) broken in
        not_both good.table _ stopped whole

  -- no rule is broken in a good configuration
  pub good_breaks_nothing : (c : Configuration) → GoodAt source c → (rule at second : ℕ) → LineRule source c rule at second → ⊥
  good_breaks_nothing c good rule at second (overlap part i j one other p q within behind at_i at_j least) =
      no_overlap c good.has part i j one other p q within behind at_i at_j least
  good_breaks_nothing c good rule at second (of_operation k part t delta x r p is makes within has breaks) =
      no_broken_operation c good.has k part t delta x r p is makes within has breaks
  good_breaks_nothing c good rule at second (of_product t r p product breaks) =
      let same = one_product source c t good.has.table product good.has.product in
      sound_table good.has.table (product_lacks c good.has.table good.has.product) good.typed r p (rw same at breaks)
