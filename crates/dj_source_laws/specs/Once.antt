-- Lists in which each key stands once, and what stands once in an accepted source.
use Rattle.std.specs.Prelude.{◌≡◌, ℕ, List, [], ◌++◌, map, slice_get, Some, Contains}
use Rattle.dj_tree.specs.Trees.{Method, MemberOperation, adds_field, adds_method}
use Rattle.dj_tree.specs.Trees.{Operation, adds_class, modifies_class, removes_class, Delta, Item, Part, Change, Source}
use Rattle.dj_calculus.specs.Contents.{items_of, class_name, new_methods, modified_methods}
use Rattle.dj_calculus.specs.Things.{does, piece, steps_of}

-- two places of the list whose elements have one key are one place
abbrev pub OnceBy : {X Y : Type 0} → (X → Y) → List X → Type 0
OnceBy {X} key xs = (i j : ℕ) (x y : X) → slice_get xs i ≡ Some x → slice_get xs j ≡ Some y → key x ≡ key y → i ≡ j

-- the members that an operation is on: those of an added class, as if each were added to it, or those of a change
abbrev pub members_in : Operation → List MemberOperation
members_in (adds_class c) = map adds_field c.fields ++ map adds_method c.methods
members_in (modifies_class c) = c.members
members_in (removes_class c) = []

-- each feature, delta, item and part has a name of its own, and so has each operation of a delta (by its class), each step of a change and
-- each member of an operation (by its piece), and each parameter of a method
pub record StandOnce (source : Source) : Type 0 where
  pub features : OnceBy (λ x. x.text) source.features
  pub deltas : OnceBy (λ d. d.name.text) source.deltas
  pub items : OnceBy (λ i. i.delta.text) (items_of source)
  pub parts : OnceBy (λ p. p.name.text) source.parts
  pub operations : (delta : Delta) → Contains source.deltas delta → OnceBy (λ o. (class_name o).text) delta.operations
  pub steps : (delta : Delta) (change : Change) → Contains source.deltas delta → Contains delta.operations (modifies_class change)
      → OnceBy piece (steps_of change)
  pub members : (delta : Delta) (operation : Operation) → Contains source.deltas delta → Contains delta.operations operation
      → OnceBy (λ m. piece (does m)) (members_in operation)
  pub parameters : (method : Method) → Contains (new_methods source ++ modified_methods source) method → OnceBy (λ p. p.name.text) method.parameters

-- the item, of this part, places the delta
pub record IsPlaced (source : Source) (part : Part) (item : Item) (delta : Delta) : Type 0 where
  pub part_there : Contains source.parts part
  pub item_there : Contains part.items item
  pub names : item.delta.text ≡ delta.name.text
