-- Where faults stand in the trees of a source: in formulas, methods and operations.
use Rattle.std.specs.Prelude.{◌≡◌, ◌⊎◌, ℕ, Bool, false, List, map, Contains, codes, Option, None, Some}
use Rattle.std.specs.List.{filter_map}
use Rattle.arena_walk.specs.Tree.{nodes}
use Rattle.dj_tree.specs.Trees.{Spot, Formula, Item, OriginalForm, Method, MemberOperation, adds_field, adds_method, modifies_method, removes_field, removes_method, Operation, adds_class, modifies_class, removes_class}
use Rattle.dj_tree.specs.declared.formula.FormulaNode.{FormulaNode}
use Rattle.dj_tree.specs.declared.formula.FormulaNode.TheVariants.{True, False, Feature, Not, And, Or, Implies, Same}
use Rattle.dj_tree.specs.declared.expression.ExprNode.{ExprNode}
use Rattle.dj_tree.specs.declared.expression.ExprNode.TheVariants.{Variable, This, Null, Field, Call, New, Cast, Assign, Original}
use Rattle.dj_calculus.specs.Formulas.{names_in}
use Rattle.dj_calculus.specs.Configurations.{is_named}
use Rattle.dj_calculus.specs.Contents.{class_name, field_name, method_name}
use Rattle.dj_calculus.specs.Faults as line
use Rattle.dj_calculus.specs.Faults.{Fault}
use Rattle.dj_calculus.specs.FaultPlaces.{Repeats}
use Rattle.dj_faults.specs.LeastPlace.{Among}

-- the faults that stand in operations of deltas
pub data Inside : Type 0 where
  RepeatedOperation : Inside
  RepeatedMember : Inside
  RepeatedParameter : Inside
  OriginalOutside : Inside

-- these faults among all
abbrev pub line_fault : Inside → Fault
line_fault RepeatedOperation = line.RepeatedOperation
line_fault RepeatedMember = line.RepeatedMember
line_fault RepeatedParameter = line.RepeatedParameter
line_fault OriginalOutside = line.OriginalOutside

-- a node of a formula is a feature that isn't known
abbrev pub UnknownIn : (ℕ → Bool) → FormulaNode → ℕ → Type 0
UnknownIn known (Feature x) at = (known x.name.0 ≡ false) × (x.at ≡ at)
UnknownIn known True at = ⊥
UnknownIn known False at = ⊥
UnknownIn known Not at = ⊥
UnknownIn known And at = ⊥
UnknownIn known Or at = ⊥
UnknownIn known Implies at = ⊥
UnknownIn known Same at = ⊥

-- a node of an expression is an `original(..)`
abbrev pub OriginalIn : ExprNode → ℕ → Type 0
OriginalIn (Original place arguments) at = place ≡ at
OriginalIn (Variable x) at = ⊥
OriginalIn (This place) at = ⊥
OriginalIn (Null place) at = ⊥
OriginalIn (Field x) at = ⊥
OriginalIn (Call x arguments) at = ⊥
OriginalIn (New x) at = ⊥
OriginalIn (Cast x) at = ⊥
OriginalIn (Assign x) at = ⊥

-- at a name of the formula that is none of the features
abbrev pub UnknownName : List Spot → Formula → ℕ → Type 0
UnknownName features formula at = (x : Spot) × Contains (names_in formula) x × ((is_named features x.text ≡ false) × (x.at ≡ at))

-- at such a name of the condition of an item
abbrev pub InCondition : List Spot → Option Formula → ℕ → Type 0
InCondition features None at = ⊥
InCondition features (Some formula) at = UnknownName features formula at

abbrev pub UnknownInItem : List Spot → Item → ℕ → Type 0
UnknownInItem features item at = InCondition features item.condition at

-- a fault in a method
abbrev pub InMethod : Inside → Method → ℕ → Type 0
InMethod RepeatedParameter method at = Repeats (map (λ p. p.name) method.parameters) at
InMethod OriginalOutside method at = Contains (nodes method.body) (OriginalForm at)
InMethod RepeatedOperation method at = ⊥
InMethod RepeatedMember method at = ⊥

-- a fault in a method that is modified, which may call `original`
abbrev pub InModified : Inside → Method → ℕ → Type 0
InModified RepeatedParameter method at = Repeats (map (λ p. p.name) method.parameters) at
InModified OriginalOutside method at = ⊥
InModified RepeatedOperation method at = ⊥
InModified RepeatedMember method at = ⊥

abbrev pub InMember : Inside → MemberOperation → ℕ → Type 0
InMember fault (adds_method m) at = InMethod fault m at
InMember fault (modifies_method m) at = InModified fault m at
InMember fault (adds_field f) at = ⊥
InMember fault (removes_field f) at = ⊥
InMember fault (removes_method m) at = ⊥

-- operations of a change on one field or method, and fields or methods of a class with one name
abbrev pub Twice : Inside → Operation → ℕ → Type 0
Twice RepeatedOperation (modifies_class c) at = Repeats (filter_map field_name c.members) at ⊎ Repeats (filter_map method_name c.members) at
Twice RepeatedMember (adds_class c) at = Repeats (map (λ f. f.name) c.fields) at ⊎ Repeats (map (λ m. m.name) c.methods) at
Twice fault operation at = ⊥

-- a fault in the methods of an operation
abbrev pub InMethods : Inside → Operation → ℕ → Type 0
InMethods fault (adds_class c) at = Among (InMethod fault) c.methods at
InMethods fault (modifies_class c) at = Among (InMember fault) c.members at
InMethods fault (removes_class c) at = ⊥

-- a fault in an operation
abbrev pub InOperation : Inside → Operation → ℕ → Type 0
InOperation fault operation at = Twice fault operation at ⊎ InMethods fault operation at

-- operations of a delta on one class
abbrev pub ClassTwice : Inside → List Operation → ℕ → Type 0
ClassTwice RepeatedOperation operations at = Repeats (map class_name operations) at
ClassTwice RepeatedMember operations at = ⊥
ClassTwice RepeatedParameter operations at = ⊥
ClassTwice OriginalOutside operations at = ⊥

-- a fault in the operations of a delta, of which `plain` gives the plain ones
abbrev pub InOperations : {X : Type 0} → (X → Operation) → Inside → List X → ℕ → Type 0
InOperations plain fault operations at = ClassTwice fault (map plain operations) at ⊎ Among (λ o. InOperation fault (plain o)) operations at

-- the operation is on `Object`
abbrev pub OnObject : Operation → ℕ → Type 0
OnObject operation at = ((class_name operation).text ≡ codes "Object") × ((class_name operation).at ≡ at)
