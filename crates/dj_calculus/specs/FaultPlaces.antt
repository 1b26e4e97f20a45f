-- The places at which each fault of a source stands.
use Rattle.std.specs.Prelude.{◌≡◌, ℕ, ◌<◌, ◌++◌, List, map, slice_get, Some, IsFalse, Contains, codes}
use Rattle.std.specs.List.{filter_map}
use Rattle.arena_walk.specs.Tree.{nodes}
use Rattle.dj_tree.specs.Trees.{Spot, Formula, OriginalForm, Method, Class, Change, Operation, Delta, Item, Part, Source}
use Rattle.dj_calculus.specs.Formulas.{names_in}
use Rattle.dj_calculus.specs.Configurations.{is_named}
use Rattle.dj_calculus.specs.Parts.{IsReached}
use Rattle.dj_calculus.specs.Contents.{items_of, formulas_of, operations_of, class_name, classes_of, changes_of, field_name, method_name, new_methods, modified_methods}
use Rattle.dj_calculus.specs.Faults.{Fault, RepeatedFeature, UnknownFeature, TooManyFeatures, RepeatedDelta, UnknownDelta, DeltaNotPlaced, DeltaPlacedTwice, RepeatedPart, UnknownPart, PartsNoChain, RepeatedOperation, RepeatedMember, RepeatedParameter, ReservedClass, OriginalOutside}

-- a line has at most 4096 features
abbrev pub most_features : ℕ
most_features = 4096

-- at this place stands a name of the list that stood in it before
pub record Repeats (names : List Spot) (at : ℕ) : Type 0 where
  pub before : ℕ
  pub number : ℕ
  pub earlier : before < number
  pub x : Spot
  pub y : Spot
  pub at_before : slice_get names before ≡ Some x
  pub at_number : slice_get names number ≡ Some y
  pub same : x.text ≡ y.text
  pub here : y.at ≡ at

-- where each fault stands
pub data FaultStands (source : Source) : Fault → ℕ → Type 0 where
  -- at a feature that was listed before
  repeated_feature : (at : ℕ) → Repeats source.features at → FaultStands source RepeatedFeature at
  -- at a name in a formula that is no feature
  unknown_feature : (formula : Formula) (x : Spot) → Contains (formulas_of source) formula → Contains (names_in formula) x
      → IsFalse (is_named source.features x.text) → FaultStands source UnknownFeature x.at
  -- at the first feature that is one too many
  too_many_features : (x : Spot) → slice_get source.features most_features ≡ Some x → FaultStands source TooManyFeatures x.at
  -- at a delta that was declared before
  repeated_delta : (at : ℕ) → Repeats (map (λ d. d.name) source.deltas) at → FaultStands source RepeatedDelta at
  -- at an item that names no declared delta
  unknown_delta : (item : Item) → Contains (items_of source) item → IsFalse (is_named (map (λ d. d.name) source.deltas) item.delta.text)
      → FaultStands source UnknownDelta item.delta.at
  -- at a declared delta that no item names
  delta_not_placed : (delta : Delta) → Contains source.deltas delta → IsFalse (is_named (map (λ i. i.delta) (items_of source)) delta.name.text)
      → FaultStands source DeltaNotPlaced delta.name.at
  -- at an item whose delta an earlier item names, earlier in the source
  delta_placed_twice : (at : ℕ) → Repeats (map (λ i. i.delta) (items_of source)) at → FaultStands source DeltaPlacedTwice at
  -- at a part whose name an earlier part has
  repeated_part : (at : ℕ) → Repeats (map (λ p. p.name) source.parts) at → FaultStands source RepeatedPart at
  -- at an `after` that names no part
  unknown_part : (part : Part) (after : Spot) → Contains source.parts part → part.after ≡ Some after
      → IsFalse (is_named (map (λ p. p.name) source.parts) after.text) → FaultStands source UnknownPart after.at
  -- at a part that is not reached along the chain
  parts_no_chain : (part : Part) → Contains source.parts part → ¬ (IsReached source.parts part) → FaultStands source PartsNoChain part.name.at
  -- at an operation of a delta on a class that an earlier operation of the delta is on
  repeated_class_operation : (delta : Delta) (at : ℕ) → Contains source.deltas delta → Repeats (map class_name delta.operations) at
      → FaultStands source RepeatedOperation at
  -- at an operation in a `modifies class` on a field, or on a method, that an earlier operation in it is on
  repeated_field_operation : (change : Change) (at : ℕ) → Contains (changes_of source) change → Repeats (filter_map field_name change.members) at
      → FaultStands source RepeatedOperation at
  repeated_method_operation : (change : Change) (at : ℕ) → Contains (changes_of source) change → Repeats (filter_map method_name change.members) at
      → FaultStands source RepeatedOperation at
  -- at a field, or a method, of an added class that was declared before in it
  repeated_field : (class : Class) (at : ℕ) → Contains (classes_of source) class → Repeats (map (λ f. f.name) class.fields) at
      → FaultStands source RepeatedMember at
  repeated_method : (class : Class) (at : ℕ) → Contains (classes_of source) class → Repeats (map (λ m. m.name) class.methods) at
      → FaultStands source RepeatedMember at
  -- at a parameter that was named before in its method
  repeated_parameter : (method : Method) (at : ℕ) → Contains (new_methods source ++ modified_methods source) method
      → Repeats (map (λ p. p.name) method.parameters) at → FaultStands source RepeatedParameter at
  -- at the class name of an operation on `Object`
  reserved_class : (operation : Operation) → Contains (operations_of source) operation → (class_name operation).text ≡ codes "Object"
      → FaultStands source ReservedClass (class_name operation).at
  -- at an `original(..)` in a method that isn't modified
  original_outside : (method : Method) (at : ℕ) → Contains (new_methods source) method → Contains (nodes method.body) (OriginalForm at)
      → FaultStands source OriginalOutside at
