-- What stands in a source: its formulas, operations, methods and names.
use Rattle.std.specs.Prelude.{List, ◌∷◌, ◌++◌, Option, Some, None}
use Rattle.std.specs.List.{filter_map, flat_map}
use Rattle.dj_tree.specs.Trees.{Spot, Formula, Method, Class, MemberOperation, adds_field, adds_method, modifies_method, removes_field, removes_method}
use Rattle.dj_tree.specs.Trees.{Change, Operation, adds_class, modifies_class, removes_class, Item, Source}

-- the items of all parts
abbrev pub items_of : Source → List Item
items_of source = flat_map (λ p. p.items) source.parts

-- the `valid` formula and the conditions
abbrev pub formulas_of : Source → List Formula
formulas_of source = source.valid ∷ filter_map (λ i. i.condition) (items_of source)

abbrev pub operations_of : Source → List Operation
operations_of source = flat_map (λ d. d.operations) source.deltas

-- the class that an operation is on
abbrev pub class_name : Operation → Spot
class_name (adds_class c) = c.name
class_name (modifies_class c) = c.name
class_name (removes_class c) = c

-- the class that an operation adds, and the change that it makes of one
abbrev pub added_by : Operation → Option Class
added_by (adds_class c) = Some c
added_by (modifies_class c) = None
added_by (removes_class c) = None

abbrev pub change_by : Operation → Option Change
change_by (adds_class c) = None
change_by (modifies_class c) = Some c
change_by (removes_class c) = None

abbrev pub classes_of : Source → List Class
classes_of source = filter_map added_by (operations_of source)

abbrev pub changes_of : Source → List Change
changes_of source = filter_map change_by (operations_of source)

-- the field that an operation adds or removes, and the method that one adds, modifies or removes
abbrev pub field_name : MemberOperation → Option Spot
field_name (adds_field f) = Some f.name
field_name (removes_field f) = Some f
field_name operation = None

abbrev pub method_name : MemberOperation → Option Spot
method_name (adds_method m) = Some m.name
method_name (modifies_method m) = Some m.name
method_name (removes_method m) = Some m
method_name operation = None

-- the method that an operation adds, and the one that it modifies
abbrev pub method_added : MemberOperation → Option Method
method_added (adds_method m) = Some m
method_added operation = None

abbrev pub method_modified : MemberOperation → Option Method
method_modified (modifies_method m) = Some m
method_modified operation = None

-- the methods that are declared in classes or added to them, and those that are modified
abbrev pub new_methods : Source → List Method
new_methods source = flat_map (λ c. c.methods) (classes_of source) ++ flat_map (λ c. filter_map method_added c.members) (changes_of source)

abbrev pub modified_methods : Source → List Method
modified_methods source = flat_map (λ c. filter_map method_modified c.members) (changes_of source)
