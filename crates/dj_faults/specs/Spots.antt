-- The names by which the things of a source are told apart.
use Rattle.std.specs.Prelude.{Option, Some, None}
use Rattle.dj_tree.specs.declared.declarations.Spot.{Spot}
use Rattle.dj_tree.specs.declared.declarations.ClassOp.{ClassOp}
use Rattle.dj_tree.specs.declared.declarations.ClassOp.TheVariants.{Adds, Modifies, Removes}
use Rattle.dj_tree.specs.declared.declarations.MemberOp.{MemberOp}
use Rattle.dj_tree.specs.declared.declarations.MemberOp.TheVariants.{AddsField, AddsMethod, ModifiesMethod, RemovesField, RemovesMethod}

-- the class that an operation is on
abbrev pub class_spot : ClassOp → Spot
class_spot (Adds c) = c.spot
class_spot (Modifies c) = c.spot
class_spot (Removes c) = c

-- the field that an operation is on, and the method that one is on
abbrev pub field_spot : MemberOp → Option Spot
field_spot (AddsField f) = Some f.spot
field_spot (RemovesField f) = Some f
field_spot (AddsMethod m) = None
field_spot (ModifiesMethod m) = None
field_spot (RemovesMethod m) = None

abbrev pub method_spot : MemberOp → Option Spot
method_spot (AddsMethod m) = Some m.spot
method_spot (ModifiesMethod m) = Some m.spot
method_spot (RemovesMethod m) = Some m
method_spot (AddsField f) = None
method_spot (RemovesField f) = None
