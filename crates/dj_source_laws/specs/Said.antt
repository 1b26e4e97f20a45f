-- What a source says, each thing with what it stands in: so equal things stand in one delta, operation, member and body.
use Rattle.std.specs.Prelude.{List, [], ◌∷◌, ◌++◌, map, Option, Some, None, Contains, ◌≡◌}
use Rattle.std.specs.List.{flat_map}
use Rattle.dj_tree.specs.Trees.{Spot, Formula, Expr, Field, Method, Class, MemberOperation, adds_field, adds_method, modifies_method, removes_field, removes_method}
use Rattle.dj_tree.specs.Trees.{Operation, adds_class, modifies_class, removes_class, Delta, Item, Part, Source}
use Rattle.dj_calculus.specs.Formulas.{names_in}
use Rattle.dj_calculus.specs.BodyRules.{IsWithin}
use Rattle.dj_source_laws.specs.Subtrees.{subtrees}
use Rattle.dj_source_laws.specs.Once.{members_in}

-- ---- things said

-- in a member: its name, its type, the name or the type of a parameter, or a node of its body
pub data MemberSaid : Type 0 where
  member_name : MemberSaid
  member_type : Spot → MemberSaid
  parameter_name : Field → MemberSaid
  parameter_type : Field → MemberSaid
  body_node : Expr → MemberSaid

-- in an operation: its class, a superclass, or something in a member
pub data OperationSaid : Type 0 where
  its_class : OperationSaid
  its_parent : Spot → OperationSaid
  in_member : MemberOperation → MemberSaid → OperationSaid

-- in a source: its title, a feature, a name in the `valid` formula, a part or what it comes after, an item or a name in its condition, a
-- delta, or something in an operation of one
pub data Said : Type 0 where
  the_title : Said
  a_feature : Spot → Said
  in_valid : Spot → Said
  a_part : Part → Said
  its_after : Part → Spot → Said
  an_item : Part → Item → Said
  in_condition : Part → Item → Spot → Said
  a_delta : Delta → Said
  in_delta : Delta → Operation → OperationSaid → Said

-- in the classes of a Java file: something in the declaration of one
pub record JavaSaid : Type 0 where
  pub class : Class
  pub what : OperationSaid

-- ---- as lists, in the order of the declarations

abbrev pub optional : {X : Type 0} → Option X → List X
optional None = []
optional (Some x) = x ∷ []

abbrev pub said_parameter : Field → List MemberSaid
said_parameter p = parameter_type p ∷ parameter_name p ∷ []

abbrev pub said_method : Method → List MemberSaid
said_method m = member_type m.kind ∷ member_name ∷ (flat_map said_parameter m.parameters ++ map body_node (subtrees m.body))

abbrev pub said_member : MemberOperation → List MemberSaid
said_member (adds_field f) = member_type f.kind ∷ member_name ∷ []
said_member (adds_method m) = said_method m
said_member (modifies_method m) = said_method m
said_member (removes_field f) = member_name ∷ []
said_member (removes_method m) = member_name ∷ []

-- the superclass that an operation gives
abbrev pub parent_in : Operation → Option Spot
parent_in (adds_class c) = c.parent
parent_in (modifies_class c) = c.parent
parent_in (removes_class c) = None

abbrev pub said_operation : Operation → List OperationSaid
said_operation o = its_class ∷ (map its_parent (optional (parent_in o)) ++ flat_map (λ m. map (in_member m) (said_member m)) (members_in o))

abbrev pub said_delta : Delta → List Said
said_delta d = a_delta d ∷ flat_map (λ o. map (in_delta d o) (said_operation o)) d.operations

abbrev pub names_in_condition : Item → List Spot
names_in_condition i = flat_map names_in (optional i.condition)

abbrev pub said_item : Part → Item → List Said
said_item p i = an_item p i ∷ map (in_condition p i) (names_in_condition i)

abbrev pub said_part : Part → List Said
said_part p = a_part p ∷ (map (its_after p) (optional p.after) ++ flat_map (said_item p) p.items)

abbrev pub said : Source → List Said
said source =
    the_title ∷ (map a_feature source.features ++ (map in_valid (names_in source.valid) ++ (flat_map said_part source.parts ++ flat_map said_delta source.deltas)))

abbrev pub said_class : Class → List JavaSaid
said_class c = map (λ what. record { class = c; what = what }) (said_operation (adds_class c))

abbrev pub said_java : List Class → List JavaSaid
said_java classes = flat_map said_class classes

-- ---- as relations

-- the method of an operation that has one
abbrev pub method_in : MemberOperation → Option Method
method_in (adds_method m) = Some m
method_in (modifies_method m) = Some m
method_in (adds_field f) = None
method_in (removes_field f) = None
method_in (removes_method m) = None

pub data IsSaidInMember (member : MemberOperation) : MemberSaid → Type 0 where
  the_name : IsSaidInMember member member_name
  the_field_type : (f : Field) → member ≡ adds_field f → IsSaidInMember member (member_type f.kind)
  the_result : (m : Method) → method_in member ≡ Some m → IsSaidInMember member (member_type m.kind)
  the_parameter : (m : Method) (p : Field) → method_in member ≡ Some m → Contains m.parameters p → IsSaidInMember member (parameter_name p)
  the_parameter_type : (m : Method) (p : Field) → method_in member ≡ Some m → Contains m.parameters p → IsSaidInMember member (parameter_type p)
  the_node : (m : Method) (e : Expr) → method_in member ≡ Some m → IsWithin e m.body → IsSaidInMember member (body_node e)

pub data IsSaidIn (operation : Operation) : OperationSaid → Type 0 where
  the_class : IsSaidIn operation its_class
  the_parent : (parent : Spot) → parent_in operation ≡ Some parent → IsSaidIn operation (its_parent parent)
  the_member : (member : MemberOperation) (what : MemberSaid) → Contains (members_in operation) member → IsSaidInMember member what
      → IsSaidIn operation (in_member member what)

pub data IsSaid (source : Source) : Said → Type 0 where
  title_said : IsSaid source the_title
  feature_said : (x : Spot) → Contains source.features x → IsSaid source (a_feature x)
  valid_says : (x : Spot) → Contains (names_in source.valid) x → IsSaid source (in_valid x)
  part_said : (p : Part) → Contains source.parts p → IsSaid source (a_part p)
  after_said : (p : Part) (x : Spot) → Contains source.parts p → p.after ≡ Some x → IsSaid source (its_after p x)
  item_said : (p : Part) (i : Item) → Contains source.parts p → Contains p.items i → IsSaid source (an_item p i)
  condition_says : (p : Part) (i : Item) (condition : Formula) (x : Spot) → Contains source.parts p → Contains p.items i → i.condition ≡ Some condition
      → Contains (names_in condition) x → IsSaid source (in_condition p i x)
  delta_said : (d : Delta) → Contains source.deltas d → IsSaid source (a_delta d)
  operation_says : (d : Delta) (o : Operation) (what : OperationSaid) → Contains source.deltas d → Contains d.operations o → IsSaidIn o what
      → IsSaid source (in_delta d o what)
