-- What the code finds in the entries of a table stands in its class table, in the layer that it is of.
use Rattle.std.proofs.Common.{◌≡◌, inl, inr, ℕ, ◌∷◌, map, Some, is_some, slice_get, Contains, refl, sym, ap, ◌∙◌, subst, arith}
use Rattle.std.specs.FinMap.{get}
use Rattle.dj_tree.specs.Plain.{plain_spot}
use Rattle.dj_tree.specs.Trees.{Expr}
use Rattle.dj_tree.specs.declared.declarations.Spot.{Spot}
use Rattle.dj_tree.specs.declared.source.Instance.{Instance}
use Rattle.dj_calculus.specs.Tables as calculus
use Rattle.dj_calculus.specs.Instances.{layer}
use Rattle.dj_calculus.specs.Subclasses.{HasSuperclass}
use Rattle.dj_calculus.specs.Typing.{Home, IsBody, kept}
use Rattle.dj_calculus.specs.BodyRules.{NodeRule, unknown_variable}
use Rattle.dj_calculus.specs.TableRules.{TableRule, unknown_superclass, circular_superclasses, unknown_field_type, unknown_method_type, hidden_field, override_differs, of_node, returned_type, StandsIn}
use Rattle.dj_calculus.proofs.Counting.{got_within}
use Rattle.dj_calculus.proofs.Members.{among_others, mapped_within}
use Rattle.ifj_table.specs.Entries.{text_at, plain_field, plain_body, plain_method, plain_class}
use Rattle.ifj_table.specs.Tables.{plain_table}
use Rattle.ifj_table.specs.declared.entry.Body.{Body}
use Rattle.ifj_table.specs.declared.entry.FieldEntry.{FieldEntry}
use Rattle.ifj_table.specs.declared.entry.MethodEntry.{MethodEntry}
use Rattle.ifj_table.specs.declared.entry.ClassEntry.{ClassEntry}
use Rattle.ifj_table.specs.declared.table.Table.{Table}
use Rattle.ifj_table.proofs.MemberLemmas.{field_key, method_key}
use Rattle.ifj_table.proofs.TableLemmas.{class_key}
use Rattle.ifj_typing.specs.Bodies.{BodyRule, within, returned, body_home, body_value, BreaksBodyOf, BreaksBodies}
use Rattle.ifj_typing.specs.Declarations.{Stated, UnknownSuperclass, CircularSuperclasses, UnknownType, UnknownFieldType, UnknownInSignature, BreaksDeclaration, BreaksDeclarations, HiddenField, OverrideDiffers, BreaksMembers, BreaksInheritance}
use Rattle.ifj_typing.proofs.Entries.{class_there, field_there, method_there}
use Rattle.ifj_lineages.proofs.Overriding.{nearest_reached}

node_layer : (t : calculus.Table) (home : Home) (e : Expr) (r p : ℕ) → NodeRule t home e r p → layer r ≡ 5
node_layer t home e r p (unknown_variable nothing) = refl
node_layer t home e r p _ = refl

module _ (t : Table) where
  -- the instance stands, and is of this layer
  abbrev pub StandsAt : ℕ → Instance → Type 0
  StandsAt k i = StandsIn (plain_table t) i × (layer i.rule ≡ k)

  as_stated : (r p k : ℕ) {P : Type 0} (i : Instance) → Stated r p P i → TableRule (plain_table t) r p → layer r ≡ k → StandsAt k i
  as_stated r p k i s breaks is = (
    record { breaks = subst (λ x. TableRule (plain_table t) x i.at) (sym s.rule_is) (subst (λ x. TableRule (plain_table t) r x) (sym s.place_is) breaks); one_place = s.one_place },
    ap layer s.rule_is ∙ is,
  )

  module _ (n : ℕ) (class : ClassEntry) (stands : slice_get t.classes.items n ≡ Some class) (i : Instance) where
    abbrev entry : calculus.ClassEntry
    entry = plain_class t.names t.exprs class

    superclass_stands : UnknownSuperclass t class i → StandsAt 3 i
    superclass_stands s = as_stated 9 class.parent.at 3 i s (unknown_superclass (class_key t.names class) entry (class_there t n class stands) s.holds) refl

    circle_stands : CircularSuperclasses t class i → StandsAt 3 i
    circle_stands s = as_stated 10 class.parent.at 3 i s (circular_superclasses (class_key t.names class) entry (class_there t n class stands) s.holds) refl

    field_type_stands : (k : ℕ) (f : FieldEntry) → slice_get class.fields.items k ≡ Some f → UnknownFieldType t f i → StandsAt 3 i
    field_type_stands k f here s =
        as_stated 11 f.kind.at 3 i s
        (unknown_field_type (class_key t.names class) (field_key t.names f) entry (plain_field t.names f) (class_there t n class stands) (field_there t n class stands k f here) s.holds) refl

    module _ (k : ℕ) (m : MethodEntry) (here : slice_get class.methods.items k ≡ Some m) where
      type_stands : (kind : Spot) → Contains (plain_spot t.names m.result ∷ map (plain_spot t.names) m.parameters) (plain_spot t.names kind) → UnknownType t kind i → StandsAt 3 i
      type_stands kind has s =
          as_stated 11 kind.at 3 i s
          (unknown_method_type (class_key t.names class) (method_key t.names m) entry (plain_method t.names t.exprs m) (plain_spot t.names kind) (class_there t n class stands) (method_there t n class stands k m here) has s.holds) refl

      signature_stands : UnknownInSignature t m i → StandsAt 3 i
      signature_stands (inl s) = type_stands m.result (0, omega arith, refl) s
      signature_stands (inr (number, low, (kind, at, s))) =
          type_stands kind
          (among_others (plain_spot t.names m.result) (plain_spot t.names kind) (map (plain_spot t.names) m.parameters)
          (mapped_within (plain_spot t.names) m.parameters kind (got_within m.parameters number kind at))) s

    declaration_stands : BreaksDeclaration t class i → StandsAt 3 i
    declaration_stands (inl (inl s)) = superclass_stands s
    declaration_stands (inl (inr s)) = circle_stands s
    declaration_stands (inr (inl (k, low, (f, here, s)))) = field_type_stands k f here s
    declaration_stands (inr (inr (k, low, (m, here, s)))) = signature_stands k m here s

    -- ---- layer 4

    superclass : HasSuperclass (plain_table t) (class_key t.names class) (text_at t.names class.parent)
    superclass = record { entry = entry; there = class_there t n class stands; parent = refl }

    hidden_stands : (k : ℕ) (f : FieldEntry) → slice_get class.fields.items k ≡ Some f → HiddenField t class f i → StandsAt 4 i
    hidden_stands k f here s =
        let of = s.holds.1 in
        let at = nearest_reached (plain_table t) (λ (x : calculus.ClassEntry). get x.fields (field_key t.names f)) (text_at t.names class.parent) of.owner of.field of.nearest in
        as_stated 12 f.spot.at 4 i s
        (hidden_field (class_key t.names class) of.owner (field_key t.names f) entry at.entry (plain_field t.names f) (class_there t n class stands) (field_there t n class stands k f here)
        (text_at t.names class.parent, superclass, at.steps) at.there (ap is_some at.has)) refl

    override_stands : (k : ℕ) (m : MethodEntry) → slice_get class.methods.items k ≡ Some m → OverrideDiffers t class m i → StandsAt 4 i
    override_stands k m here s =
        let d = s.holds in
        as_stated 13 m.spot.at 4 i s
        (override_differs (class_key t.names class) d.upper (method_key t.names m) entry d.entry (plain_method t.names t.exprs m) d.other (class_there t n class stands) (method_there t n class stands k m here)
        (text_at t.names class.parent, superclass, d.steps) d.there d.its d.differs) refl

    members_stand : BreaksMembers t class i → StandsAt 4 i
    members_stand (inl (k, low, (f, here, s))) = hidden_stands k f here s
    members_stand (inr (k, low, (m, here, s))) = override_stands k m here s

    -- ---- layer 5

    module _ (k : ℕ) (m : MethodEntry) (here : slice_get class.methods.items k ≡ Some m) (j : ℕ) (b : Body) (at : slice_get m.bodies.items j ≡ Some b) where
      is_body : IsBody (plain_table t) (body_home t (class_key t.names class) m b) (body_value t b)
      is_body =
          kept (method_key t.names m) {method = plain_method t.names t.exprs m} {body = plain_body t.names t.exprs b} (class_there t n class stands) (method_there t n class stands k m here)
          (mapped_within (plain_body t.names t.exprs) m.bodies.items b (got_within m.bodies.items j b at))

      body_rule : (r p : ℕ) → BodyRule (plain_table t) (body_home t (class_key t.names class) m b) (body_value t b) r p → TableRule (plain_table t) r p × (layer r ≡ 5)
      body_rule r p (within breaks) = (
        of_node (body_home t (class_key t.names class) m b) (body_value t b) r p is_body breaks,
        node_layer (plain_table t) (body_home t (class_key t.names class) m b) breaks.node r p breaks.breaks,
      )
      body_rule r p (returned kind types wrong) = (returned_type (body_home t (class_key t.names class) m b) (body_value t b) kind is_body types wrong, refl)

      body_stands : BreaksBodyOf t (class_key t.names class) m b i → StandsAt 5 i
      body_stands breaks = let it = body_rule i.rule i.at breaks.breaks in (record { breaks = it.0; one_place = breaks.one_place }, it.1)

  pub third_stands : (i : Instance) → BreaksDeclarations t i → StandsAt 3 i
  third_stands i (n, low, (class, stands, breaks)) = declaration_stands n class stands i breaks

  pub fourth_stands : (i : Instance) → BreaksInheritance t i → StandsAt 4 i
  fourth_stands i (n, low, (class, stands, breaks)) = members_stand n class stands i breaks

  pub fifth_stands : (i : Instance) → BreaksBodies t i → StandsAt 5 i
  fifth_stands i (n, low, (class, stands, (k, _, (m, here, (j, _, (b, at, breaks)))))) = body_stands n class stands i k m here j b at breaks
