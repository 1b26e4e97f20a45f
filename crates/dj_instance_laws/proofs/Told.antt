-- Take a predicate of places that holds where each thing in an operation is said. It holds then of each place of the entries that the
-- operation makes.
use Rattle.std.proofs.Common.{◌≡◌, ℕ, map, Option, Some, None, Contains, refl, sym, ap, subst}
use Rattle.std.proofs.lemmas.List.Elements.{Contains-append_left, Contains-append_right}
use Rattle.arena_walk.specs.Tree.{root_of}
use Rattle.dj_tree.specs.Trees.{Spot, Expr, ExprForm, VariableForm, ThisForm, NullForm, FieldForm, CallForm, NewForm, CastForm, AssignForm, OriginalForm}
use Rattle.dj_tree.specs.Trees.{Field, Method, Class, MemberOperation, adds_field, adds_method, modifies_method, removes_field, removes_method}
use Rattle.dj_tree.specs.Trees.{Change, Operation, adds_class, modifies_class, removes_class}
use Rattle.dj_calculus.specs.Things.{Step, extends, does, first_steps, steps_of, Thing, thing_of, touched_by, place}
use Rattle.dj_calculus.specs.Tables.{FieldEntry, MethodEntry}
use Rattle.dj_calculus.specs.Entries.{field_entry, signature_of, body_of, method_entry, superclass_of}
use Rattle.dj_calculus.specs.Operations.{modify}
use Rattle.dj_calculus.specs.Typing.{types_in}
use Rattle.dj_calculus.specs.TableForms.{EachBody}
use Rattle.dj_calculus.specs.BodyRules.{IsWithin, place_of_form, place_of}
use Rattle.dj_calculus.proofs.Members.{either, first_or_other, in_front_or_behind, mapped_from, mapped_within, no_element, only_one}
use Rattle.dj_calculus.proofs.FormedProducts.{modified, modified_bodies}
use Rattle.dj_source_laws.specs.Once.{members_in}
use Rattle.dj_source_laws.specs.Said.{MemberSaid, member_name, member_type, parameter_type, parameter_name, body_node, OperationSaid, its_class, its_parent, in_member, method_in}
use Rattle.dj_source_laws.specs.Said.{IsSaidInMember, the_name, the_field_type, the_result, the_parameter, the_parameter_type, the_node, IsSaidIn, the_class, the_parent, the_member}
use Rattle.dj_source_laws.specs.Places.{token_of_form, member_spot, token_in_member, token_in}

-- a node is said at its place
node_place : (form : ExprForm) → (token_of_form form).at ≡ place_of_form form
node_place (VariableForm x) = refl
node_place (ThisForm at) = refl
node_place (NullForm at) = refl
node_place (FieldForm f) = refl
node_place (CallForm m) = refl
node_place (NewForm c) = refl
node_place (CastForm c) = refl
node_place (AssignForm f) = refl
node_place (OriginalForm at) = refl

step_place : (m : MemberOperation) → (member_spot m).at ≡ place (does m)
step_place (adds_field f) = refl
step_place (adds_method m) = refl
step_place (modifies_method m) = refl
step_place (removes_field f) = refl
step_place (removes_method m) = refl

module _ (A : ℕ → Type 0) where
  -- what stands in an operation, or in a member, is said at places of the predicate
  abbrev pub Told : Operation → Type 0
  Told o = (what : OperationSaid) → IsSaidIn o what → A (token_in o what).at

  abbrev pub MemberTold : MemberOperation → Type 0
  MemberTold m = (what : MemberSaid) → IsSaidInMember m what → A (token_in_member m what).at

  -- the places of a field
  abbrev pub FieldTold : FieldEntry → Type 0
  FieldTold f = A f.at × A f.kind.at

  -- the places of a method: its name, the types of its signature, and the nodes of its bodies
  pub record MethodTold (m : MethodEntry) : Type 0 where
    pub name : A m.at
    pub types : (kind : Spot) → Contains (types_in m.signature) kind → A kind.at
    pub bodies : EachBody m (λ b. (e : Expr) → IsWithin e b.value → A (place_of e))

  pub member_told : (o : Operation) (m : MemberOperation) → Told o → Contains (members_in o) m → MemberTold m
  member_told o m told within what said = told (in_member m what) (the_member m what within said)

  pub parent_told : (c : Class) (parent : Option Spot) → c.parent ≡ parent → Told (adds_class c) → A (superclass_of c.name parent).at
  parent_told c None e told = told its_class the_class
  parent_told c (Some p) e told = told (its_parent p) (the_parent p e)

  pub field_told : (f : Field) → MemberTold (adds_field f) → FieldTold (field_entry f)
  field_told f told = (told member_name the_name, told (member_type f.kind) (the_field_type f refl))

  -- ---- methods

  module _ (member : MemberOperation) (m : Method) (has : method_in member ≡ Some m) (told : MemberTold member) where
    types_told : (kind : Spot) → Contains (types_in (signature_of m)) kind → A kind.at
    types_told kind within =
        either (first_or_other m.kind kind (map (λ p. p.kind) m.parameters) within)
        (λ is. subst (λ (k : Spot). A k.at) is (told (member_type m.kind) (the_result m has)))
        (λ later. let found = mapped_from (λ p. p.kind) m.parameters kind later in
        subst (λ (k : Spot). A k.at) found.2 (told (parameter_type found.0) (the_parameter_type m found.0 has found.1)))

    nodes_told : (e : Expr) → IsWithin e m.body → A (place_of e)
    nodes_told e within = subst A (node_place (root_of e)) (told (body_node e) (the_node m e has within))

    parameter_told : (p : Field) → Contains m.parameters p → A p.name.at
    parameter_told p within = told (parameter_name p) (the_parameter m p has within)

  pub parameters_told : (m : Method) → MemberTold (adds_method m) → (p : Field) → Contains m.parameters p → A p.name.at
  parameters_told m told = parameter_told (adds_method m) m refl told

  pub method_told : (m : Method) → MemberTold (adds_method m) → MethodTold (method_entry m)
  method_told m told =
      record {
        name = told member_name the_name;
        types = types_told (adds_method m) m refl told;
        bodies = λ body within e inside.
            nodes_told (adds_method m) m refl told e (subst (λ b. IsWithin e b.value) (sym (only_one (body_of m) body within)) inside);
      }

  pub modified_told : (m : Method) (old new : MethodEntry) → MemberTold (modifies_method m) → modify m old ≡ Some new → MethodTold old → MethodTold new
  modified_told m old new told e before =
      let is = (modified m old new e).is in
      record {
        name = subst A (ap (λ x. x.at) is) (told member_name the_name);
        types = λ kind within.
            types_told (modifies_method m) m refl told kind (subst (λ s. Contains (types_in s) kind) (sym (ap (λ x. x.signature) is)) within);
        bodies = modified_bodies (λ b. (n : Expr) → IsWithin n b.value → A (place_of n)) m old new e (nodes_told (modifies_method m) m refl told) before.bodies;
      }

  -- ---- classes

  pub class_field : (c : Class) (f : Field) → Told (adds_class c) → Contains c.fields f → MemberTold (adds_field f)
  class_field c f told within =
      member_told (adds_class c) (adds_field f) told (Contains-append_left (map adds_field c.fields) (map adds_method c.methods) (adds_field f) (mapped_within adds_field c.fields f within))

  pub class_method : (c : Class) (m : Method) → Told (adds_class c) → Contains c.methods m → MemberTold (adds_method m)
  class_method c m told within =
      member_told (adds_class c) (adds_method m) told (Contains-append_right (map adds_field c.fields) (map adds_method c.methods) (adds_method m) (mapped_within adds_method c.methods m within))

  -- ---- things

  member_step : (m : MemberOperation) → MemberTold m → A (place (does m))
  member_step m told = subst A (step_place m) (told member_name the_name)

  first_step : (c : Change) (parent : Option Spot) (x : Step) → c.parent ≡ parent → Told (modifies_class c) → Contains (first_steps parent) x → A (place x)
  first_step c None x e told within = no_element x within
  first_step c (Some p) x e told within = subst (λ s. A (place s)) (only_one (extends p) x within) (told (its_parent p) (the_parent p e))

  step_told : (c : Change) (x : Step) → Told (modifies_class c) → Contains (steps_of c) x → A (place x)
  step_told c x told within =
      either (in_front_or_behind (first_steps c.parent) (map does c.members) x within) (λ first. first_step c c.parent x refl told first)
      (λ later. let found = mapped_from does c.members x later in
      subst (λ s. A (place s)) found.2 (member_step found.0 (member_told (modifies_class c) found.0 told found.1)))

  pub thing_told : (o : Operation) (a : Thing) → Told o → Contains (touched_by o) a → A a.at
  thing_told (adds_class c) a told within = subst (λ (x : Thing). A x.at) (only_one _ a within) (told its_class the_class)
  thing_told (removes_class c) a told within = subst (λ (x : Thing). A x.at) (only_one _ a within) (told its_class the_class)
  thing_told (modifies_class c) a told within =
      either (first_or_other _ a (map (thing_of c.name.text) (steps_of c)) within) (λ is. subst (λ (x : Thing). A x.at) is (told its_class the_class))
      (λ later. let found = mapped_from (thing_of c.name.text) (steps_of c) a later in
      subst (λ (x : Thing). A x.at) found.2 (step_told c found.0 told found.1))
