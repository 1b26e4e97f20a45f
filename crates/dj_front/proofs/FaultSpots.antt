-- A fault of a spelled source stands at the place of one of its symbols.
use Rattle.std.proofs.Common.{◌≡◌, ◌<◌, ℕ, zero, suc, List, [], ◌∷◌, ◌++◌, map, length, get_or, slice_get, Option, Some, None, refl, subst, append_assoc, arith, Contains}
use Rattle.std.proofs.lemmas.List.Elements.{Contains-append_right}
use Rattle.std.specs.List.{flat_map, filter_map, cons_option}
use Rattle.std.proofs.lemmas.Option.{slice_get_within, get_or_from_slice_get}
use Rattle.arena_walk.specs.Tree.{Tree, Trees, branch, no_trees, tree_and, nodes, nodes_each}
use Rattle.dj_lexer.specs.Symbols.{Symbol}
use Rattle.dj_tree.specs.Trees.{Spot, Formula, FormulaForm, TrueForm, FalseForm, FeatureForm, NotForm, AndForm, OrForm, ImpliesForm, SameForm}
use Rattle.dj_tree.specs.Trees.{Method, MemberOperation, adds_field, adds_method, modifies_method, removes_field, removes_method, Operation, adds_class, modifies_class, removes_class, Source, OriginalForm}
use Rattle.dj_tree.specs.Spells.{Spells}
use Rattle.dj_calculus.specs.Formulas.{name_in, names_in}
use Rattle.dj_calculus.specs.Contents.{items_of, formulas_of, operations_of, class_name, added_by, change_by, classes_of, changes_of, field_name, method_name, method_added, method_modified, new_methods, modified_methods}
use Rattle.dj_calculus.specs.Faults.{Fault}
use Rattle.dj_calculus.specs.FaultPlaces.{Repeats, FaultStands, repeated_feature, unknown_feature, too_many_features, repeated_delta, unknown_delta, delta_not_placed, delta_placed_twice, repeated_part, unknown_part, parts_no_chain, repeated_class_operation, repeated_field_operation, repeated_method_operation, repeated_field, repeated_method, repeated_parameter, reserved_class, original_outside}
use Rattle.dj_front.proofs.Placed.{Each, EachForm, EachFormOf, each_joined, AtForm, AtNode, AtSpot, AtField, AtMethod, AtClass, AtMember, AtChange, AtOperation, AtDelta, AtOptional, AtCondition, AtItem, AtPart, AtSource, AtSymbol, at_source}

-- ---- of each element

each_at : {X : Type 0} (Q : X → Type 0) (xs : List X) (k : ℕ) (d : X) → Each Q xs → k < length xs → Q (get_or xs k d)
each_at Q [] k d each within = absurd (omega arith)
each_at Q (x ∷ xs) zero d each within = each.0
each_at Q (x ∷ xs) (suc k) d each within = each_at Q xs k d each.1 (omega arith)

each_one : {X : Type 0} (Q : X → Type 0) (xs : List X) (x : X) → Each Q xs → Contains xs x → Q x
each_one Q xs x each (k, within, is) = subst Q is (each_at Q xs k x each within)

each_place : {X : Type 0} (Q : X → Type 0) (xs : List X) (k : ℕ) (x : X) → Each Q xs → slice_get xs k ≡ Some x → Q x
each_place Q xs k x each at = subst Q (get_or_from_slice_get xs k x x at) (each_at Q xs k x each (slice_get_within xs k x at))

each_same : {X : Type 0} (Q R : X → Type 0) → ((x : X) → Q x → R x) → (xs : List X) → Each Q xs → Each R xs
each_same Q R change [] each = tt
each_same Q R change (x ∷ xs) each = (change x each.0, each_same Q R change xs each.1)

each_map : {X Y : Type 0} (Q : Y → Type 0) (f : X → Y) (xs : List X) → Each (λ x. Q (f x)) xs → Each Q (map f xs)
each_map Q f [] each = tt
each_map Q f (x ∷ xs) each = (each.0, each_map Q f xs each.1)

each_flat : {X Y : Type 0} (Q : Y → Type 0) (f : X → List Y) (xs : List X) → Each (λ x. Each Q (f x)) xs → Each Q (flat_map f xs)
each_flat Q f [] each = tt
each_flat Q f (x ∷ xs) each = each_joined Q (f x) (flat_map f xs) each.0 (each_flat Q f xs each.1)

abbrev OfOption : {Y : Type 0} → (Y → Type 0) → Option Y → Type 0
OfOption Q None = Unit {0}
OfOption Q (Some y) = Q y

each_cons : {Y : Type 0} (Q : Y → Type 0) (o : Option Y) (ys : List Y) → OfOption Q o → Each Q ys → Each Q (cons_option o ys)
each_cons Q None ys first rest = rest
each_cons Q (Some y) ys first rest = (first, rest)

each_picked : {X Y : Type 0} (Q : Y → Type 0) (f : X → Option Y) (xs : List X) → Each (λ x. OfOption Q (f x)) xs → Each Q (filter_map f xs)
each_picked Q f [] each = tt
each_picked Q f (x ∷ xs) each = each_cons Q (f x) (filter_map f xs) each.0 (each_picked Q f xs each.1)

mutual
  each_node : {N : Type 0} (Q : N → Type 0) (t : Tree N) → EachForm Q t → Each Q (nodes t)
  each_node Q (branch n kids) each = each_joined Q (nodes_each kids) (n ∷ []) (each_node_of Q kids each.0) (each.1, tt)

  each_node_of : {N : Type 0} (Q : N → Type 0) (ts : Trees N) → EachFormOf Q ts → Each Q (nodes_each ts)
  each_node_of Q no_trees each = tt
  each_node_of Q (tree_and t ts) each = each_joined Q (nodes t) (nodes_each ts) (each_node Q t each.0) (each_node_of Q ts each.1)

module _ (P : ℕ → Type 0) where
  -- a name that stands again
  at_repeat : (names : List Spot) (at : ℕ) → Each (AtSpot P) names → Repeats names at → P at
  at_repeat names at each r = subst P r.here (each_place (AtSpot P) names r.number r.y each r.at_number)

  -- ---- formulas

  of_name : (form : FormulaForm) → AtForm P form → OfOption (AtSpot P) (name_in form)
  of_name TrueForm at = tt
  of_name FalseForm at = tt
  of_name (FeatureForm x) at = at
  of_name NotForm at = tt
  of_name AndForm at = tt
  of_name OrForm at = tt
  of_name ImpliesForm at = tt
  of_name SameForm at = tt

  of_names : (a : Formula) → EachForm (AtForm P) a → Each (AtSpot P) (names_in a)
  of_names a each =
      each_picked (AtSpot P) name_in (nodes a) (each_same (AtForm P) (λ form. OfOption (AtSpot P) (name_in form)) of_name (nodes a) (each_node (AtForm P) a each))

  of_condition : (o : Option Formula) → AtCondition P o → OfOption (EachForm (AtForm P)) o
  of_condition None at = tt
  of_condition (Some a) at = at

  of_after : (o : Option Spot) (x : Spot) → AtOptional P o → o ≡ Some x → P x.at
  of_after None x at is = absurd cc
  of_after (Some y) x at is = let same : y ≡ x = cc in subst (λ z. P z.at) same at

  -- ---- members

  of_class_name : (o : Operation) → AtOperation P o → P (class_name o).at
  of_class_name (adds_class c) at = at.name
  of_class_name (modifies_class c) at = at.name
  of_class_name (removes_class c) at = at

  of_added : (o : Operation) → AtOperation P o → OfOption (AtClass P) (added_by o)
  of_added (adds_class c) at = at
  of_added (modifies_class c) at = tt
  of_added (removes_class c) at = tt

  of_change : (o : Operation) → AtOperation P o → OfOption (AtChange P) (change_by o)
  of_change (adds_class c) at = tt
  of_change (modifies_class c) at = at
  of_change (removes_class c) at = tt

  of_field_name : (m : MemberOperation) → AtMember P m → OfOption (AtSpot P) (field_name m)
  of_field_name (adds_field f) at = at
  of_field_name (adds_method m) at = tt
  of_field_name (modifies_method m) at = tt
  of_field_name (removes_field f) at = at
  of_field_name (removes_method m) at = tt

  of_method_name : (m : MemberOperation) → AtMember P m → OfOption (AtSpot P) (method_name m)
  of_method_name (adds_field f) at = tt
  of_method_name (adds_method m) at = at.name
  of_method_name (modifies_method m) at = at.name
  of_method_name (removes_field f) at = tt
  of_method_name (removes_method m) at = at

  of_method_added : (m : MemberOperation) → AtMember P m → OfOption (AtMethod P) (method_added m)
  of_method_added (adds_field f) at = tt
  of_method_added (adds_method m) at = at
  of_method_added (modifies_method m) at = tt
  of_method_added (removes_field f) at = tt
  of_method_added (removes_method m) at = tt

  of_method_modified : (m : MemberOperation) → AtMember P m → OfOption (AtMethod P) (method_modified m)
  of_method_modified (adds_field f) at = tt
  of_method_modified (adds_method m) at = tt
  of_method_modified (modifies_method m) at = at
  of_method_modified (removes_field f) at = tt
  of_method_modified (removes_method m) at = tt

  picked : {Y : Type 0} (Q : Y → Type 0) (f : MemberOperation → Option Y) → ((m : MemberOperation) → AtMember P m → OfOption Q (f m)) → (members : List MemberOperation) → Each (AtMember P) members → Each Q (filter_map f members)
  picked Q f change members each = each_picked Q f members (each_same (AtMember P) (λ m. OfOption Q (f m)) change members each)

  -- ---- what stands in a source

  module _ (s : Source) (at : AtSource P s) where
    of_items : Each (AtItem P) (items_of s)
    of_items = each_flat (AtItem P) (λ p. p.items) s.parts (each_same (AtPart P) (λ p. Each (AtItem P) p.items) (λ p at_p. at_p.items) s.parts at.parts)

    of_formulas : Each (EachForm (AtForm P)) (formulas_of s)
    of_formulas = (at.valid, each_picked (EachForm (AtForm P)) (λ i. i.condition) (items_of s) (each_same (AtItem P) (λ i. OfOption (EachForm (AtForm P)) i.condition) (λ i at_i. of_condition i.condition at_i.condition) (items_of s) of_items))

    of_operations : Each (AtOperation P) (operations_of s)
    of_operations = each_flat (AtOperation P) (λ d. d.operations) s.deltas (each_same (AtDelta P) (λ d. Each (AtOperation P) d.operations) (λ d at_d. at_d.operations) s.deltas at.deltas)

    of_classes : Each (AtClass P) (classes_of s)
    of_classes = each_picked (AtClass P) added_by (operations_of s) (each_same (AtOperation P) (λ o. OfOption (AtClass P) (added_by o)) of_added (operations_of s) of_operations)

    of_changes : Each (AtChange P) (changes_of s)
    of_changes = each_picked (AtChange P) change_by (operations_of s) (each_same (AtOperation P) (λ o. OfOption (AtChange P) (change_by o)) of_change (operations_of s) of_operations)

    of_methods : (f : MemberOperation → Option Method) → ((m : MemberOperation) → AtMember P m → OfOption (AtMethod P) (f m)) → Each (AtMethod P) (flat_map (λ c. filter_map f c.members) (changes_of s))
    of_methods f change = each_flat (AtMethod P) (λ c. filter_map f c.members) (changes_of s) (each_same (AtChange P) (λ c. Each (AtMethod P) (filter_map f c.members)) (λ c at_c. picked (AtMethod P) f change c.members at_c.members) (changes_of s) of_changes)

    of_new : Each (AtMethod P) (new_methods s)
    of_new =
        each_joined (AtMethod P) (flat_map (λ c. c.methods) (classes_of s)) (flat_map (λ c. filter_map method_added c.members) (changes_of s))
        (each_flat (AtMethod P) (λ c. c.methods) (classes_of s) (each_same (AtClass P) (λ c. Each (AtMethod P) c.methods) (λ c at_c. at_c.methods) (classes_of s) of_classes))
        (of_methods method_added of_method_added)

    of_all : Each (AtMethod P) (new_methods s ++ modified_methods s)
    of_all = each_joined (AtMethod P) (new_methods s) (modified_methods s) of_new (of_methods method_modified of_method_modified)

    names : {X : Type 0} (Q : X → Type 0) (f : X → Spot) → ((x : X) → Q x → P (f x).at) → (xs : List X) → Each Q xs → Each (AtSpot P) (map f xs)
    names Q f change xs each = each_map (AtSpot P) f xs (each_same Q (λ x. P (f x).at) change xs each)

    pub at_fault : (fault : Fault) (place : ℕ) → FaultStands s fault place → P place
    at_fault _ place (repeated_feature _ r) = at_repeat s.features place at.features r
    at_fault _ _ (unknown_feature a x in_formulas in_names unnamed) = each_one (AtSpot P) (names_in a) x (of_names a (each_one (EachForm (AtForm P)) (formulas_of s) a of_formulas in_formulas)) in_names
    at_fault _ _ (too_many_features x is) = each_place (AtSpot P) s.features _ x at.features is
    at_fault _ place (repeated_delta _ r) = at_repeat (map (λ d. d.name) s.deltas) place (names (AtDelta P) (λ d. d.name) (λ d at_d. at_d.name) s.deltas at.deltas) r
    at_fault _ _ (unknown_delta i in_items unnamed) = (each_one (AtItem P) (items_of s) i of_items in_items).delta
    at_fault _ _ (delta_not_placed d in_deltas unnamed) = (each_one (AtDelta P) s.deltas d at.deltas in_deltas).name
    at_fault _ place (delta_placed_twice _ r) = at_repeat (map (λ i. i.delta) (items_of s)) place (names (AtItem P) (λ i. i.delta) (λ i at_i. at_i.delta) (items_of s) of_items) r
    at_fault _ place (repeated_part _ r) = at_repeat (map (λ p. p.name) s.parts) place (names (AtPart P) (λ p. p.name) (λ p at_p. at_p.name) s.parts at.parts) r
    at_fault _ _ (unknown_part p x in_parts is unnamed) = of_after p.after x (each_one (AtPart P) s.parts p at.parts in_parts).after is
    at_fault _ _ (parts_no_chain p in_parts unnamed) = (each_one (AtPart P) s.parts p at.parts in_parts).name
    at_fault _ _ (repeated_class_operation d place in_deltas r) =
        at_repeat (map class_name d.operations) place (names (AtOperation P) class_name of_class_name d.operations (each_one (AtDelta P) s.deltas d at.deltas in_deltas).operations) r
    at_fault _ _ (repeated_field_operation c place in_changes r) =
        at_repeat (filter_map field_name c.members) place (picked (AtSpot P) field_name of_field_name c.members (each_one (AtChange P) (changes_of s) c of_changes in_changes).members) r
    at_fault _ _ (repeated_method_operation c place in_changes r) =
        at_repeat (filter_map method_name c.members) place (picked (AtSpot P) method_name of_method_name c.members (each_one (AtChange P) (changes_of s) c of_changes in_changes).members) r
    at_fault _ _ (repeated_field c place in_classes r) =
        at_repeat (map (λ f. f.name) c.fields) place (names (AtField P) (λ f. f.name) (λ f at_f. at_f) c.fields (each_one (AtClass P) (classes_of s) c of_classes in_classes).fields) r
    at_fault _ _ (repeated_method c place in_classes r) =
        at_repeat (map (λ m. m.name) c.methods) place (names (AtMethod P) (λ m. m.name) (λ m at_m. at_m.name) c.methods (each_one (AtClass P) (classes_of s) c of_classes in_classes).methods) r
    at_fault _ _ (repeated_parameter m place in_methods r) =
        at_repeat (map (λ p. p.name) m.parameters) place (names (AtField P) (λ p. p.name) (λ p at_p. at_p) m.parameters (each_one (AtMethod P) (new_methods s ++ modified_methods s) m of_all in_methods).parameters) r
    at_fault _ _ (reserved_class o in_operations is) = of_class_name o (each_one (AtOperation P) (operations_of s) o of_operations in_operations)
    at_fault _ _ (original_outside m place in_methods in_body) =
        each_one (AtNode P) (nodes m.body) (OriginalForm place) (each_node (AtNode P) m.body (each_one (AtMethod P) (new_methods s) m of_new in_methods).body) in_body

-- each symbol is one of the symbols
each_own : (before symbols : List Symbol) → Each (AtSymbol (λ place. (s : Symbol) × Contains (before ++ symbols) s × (s.at ≡ place))) symbols
each_own before [] = tt
each_own before (s ∷ symbols) =
    let here : Contains (before ++ s ∷ symbols) s = Contains-append_right before (s ∷ symbols) s (0, omega arith, refl) in
    let Q : List Symbol → Type 0 = λ all. Each (AtSymbol (λ place. (t : Symbol) × Contains all t × (t.at ≡ place))) symbols in
    ((s, here, refl), subst Q (append_assoc before (s ∷ []) symbols) (each_own (before ++ s ∷ []) symbols))

pub fault_at_symbol : (symbols : List Symbol) (source : Source) (fault : Fault) (place : ℕ) → Spells symbols source → FaultStands source fault place
    → (s : Symbol) × Contains symbols s × (s.at ≡ place)
fault_at_symbol symbols source fault place spelled stands =
    let P : ℕ → Type 0 = λ n. (s : Symbol) × Contains symbols s × (s.at ≡ n) in
    at_fault P source (at_source P symbols source spelled (each_own [] symbols)) fault place stands
