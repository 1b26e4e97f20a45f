-- What the names of a writable table say of its classes.
use Rattle.std.proofs.Common.{◌≡◌, Bool, true, false, ◌||◌, List, [], ◌∷◌, ◌++◌, Contains, IsFalse, refl, sym, subst, arith}
use Rattle.std.specs.List.{list_any, flat_map}
use Rattle.std.specs.FinMap.{entries}
use Rattle.std.proofs.lemmas.Bool.{false≢true}
use Rattle.std.proofs.lemmas.List.Elements.{Contains-append_left, Contains-append_right}
use Rattle.dj_names.specs.Texts.{Text}
use Rattle.arena_walk.specs.Tree.{Trees, branch, no_trees, tree_and, nodes, nodes_each}
use Rattle.dj_tree.specs.Trees.{Expr, ExprForm, VariableForm, ThisForm, NullForm, FieldForm, CallForm, NewForm, CastForm, AssignForm, OriginalForm}
use Rattle.dj_calculus.specs.Tables.{FieldEntry, Body, MethodEntry, ClassEntry, Table, texts_of}
use Rattle.dj_calculus.specs.Entries.{is_original, says_original}
use Rattle.dj_calculus.specs.FlatTables.{names_in_form, names_in_body, names_in_field, names_in_method, names_in_class}
use Rattle.dj_calculus.proofs.MapLemmas.{entry_found}
use Rattle.dj_calculus.proofs.Members.{no_element, first_or_other, among_others, either, mapped_within, within_flat}
use Rattle.java_text_laws.specs.Writable.{IsJavaName, IsWritable}
use Rattle.java_text_laws.proofs.SaidExpressions.{IsPlainForm, IsPlain, ArePlain}
use Rattle.java_text_laws.proofs.SaidMembers.{FieldIsNamed, MethodIsNamed}
use Rattle.java_text_laws.proofs.SaidClasses.{ClassIsNamed}

-- ---- expressions

mutual
  plain_expr : (e : Expr) → ((form : ExprForm) → Contains (nodes e) form → IsPlainForm form) → IsPlain e
  plain_expr (branch form parts) each = (
    each form (Contains-append_right (nodes_each parts) (form ∷ []) form (0, omega arith, refl)),
    plain_parts parts (λ inner has. each inner (Contains-append_left (nodes_each parts) (form ∷ []) inner has)),
  )

  plain_parts : (parts : Trees ExprForm) → ((form : ExprForm) → Contains (nodes_each parts) form → IsPlainForm form) → ArePlain parts
  plain_parts no_trees each = tt
  plain_parts (tree_and e es) each = (
    plain_expr e (λ form has. each form (Contains-append_left (nodes e) (nodes_each es) form has)),
    plain_parts es (λ form has. each form (Contains-append_right (nodes e) (nodes_each es) form has)),
  )

none_passes : {X : Type 0} (p : X → Bool) (xs : List X) (x : X) → list_any p xs ≡ false → Contains xs x → p x ≡ false
none_passes p [] x none has = no_element x has
none_passes p (y ∷ xs) x none has =
    let parts = or_none (p y) (list_any p xs) none in
    either (first_or_other y x xs has) (λ same. subst (λ z. p z ≡ false) same parts.0) (λ later. none_passes p xs x parts.1 later)
  where
    or_none : (a b : Bool) → (a || b) ≡ false → (a ≡ false) × (b ≡ false)
    or_none true b e = absurd cc
    or_none false b e = (refl, e)

-- a node whose names are names of Java and that is no `original(..)`
plain_form : (form : ExprForm) → ((name : Text) → Contains (names_in_form form) name → IsJavaName name) → is_original form ≡ false → IsPlainForm form
plain_form (VariableForm x) named other = named x.text (0, omega arith, refl)
plain_form (ThisForm at) named other = tt
plain_form (NullForm at) named other = tt
plain_form (FieldForm f) named other = named f.text (0, omega arith, refl)
plain_form (CallForm m) named other = named m.text (0, omega arith, refl)
plain_form (NewForm c) named other = named c.text (0, omega arith, refl)
plain_form (CastForm c) named other = named c.text (0, omega arith, refl)
plain_form (AssignForm f) named other = named f.text (0, omega arith, refl)
plain_form (OriginalForm at) named other = absurd (false≢true (sym other))

plain_value : (e : Expr) → ((name : Text) → Contains (flat_map names_in_form (nodes e)) name → IsJavaName name) → IsFalse (says_original e) → IsPlain e
plain_value e named plain =
    plain_expr e (λ form has. plain_form form (λ name within. named name (within_flat names_in_form (nodes e) form name has within)) (none_passes is_original (nodes e) form plain has))

-- ---- classes

abbrev in_fields : Text × ClassEntry → List Text
in_fields entry = flat_map names_in_field (entries entry.1.fields)

abbrev in_methods : Text × ClassEntry → List Text
in_methods entry = flat_map names_in_method (entries entry.1.methods)

module _ (t : Table) (writable : IsWritable t) where
  class_names : (entry : Text × ClassEntry) → Contains (entries t) entry → (name : Text) → Contains (names_in_class entry) name → IsJavaName name
  class_names entry has name within = writable.names name (within_flat names_in_class (entries t) entry name has within)

  module _ (entry : Text × ClassEntry) (has : Contains (entries t) entry) where
    member_name : (name : Text) → Contains (in_fields entry ++ in_methods entry) name → IsJavaName name
    member_name name within =
        let members = in_fields entry ++ in_methods entry in
        class_names entry has name (among_others entry.0 name (entry.1.parent.text ∷ members) (among_others entry.1.parent.text name members within))

    field_name : (f : Text × FieldEntry) → Contains (entries entry.1.fields) f → (name : Text) → Contains (names_in_field f) name → IsJavaName name
    field_name f is name within =
        member_name name (Contains-append_left (in_fields entry) (in_methods entry) name (within_flat names_in_field (entries entry.1.fields) f name is within))

    method_name : (m : Text × MethodEntry) → Contains (entries entry.1.methods) m → (name : Text) → Contains (names_in_method m) name → IsJavaName name
    method_name m is name within =
        member_name name (Contains-append_right (in_fields entry) (in_methods entry) name (within_flat names_in_method (entries entry.1.methods) m name is within))

    field_is_named : (f : Text × FieldEntry) → Contains (entries entry.1.fields) f → FieldIsNamed f
    field_is_named f is = record { name = field_name f is f.0 (0, omega arith, refl); kind = field_name f is f.1.kind.text (1, omega arith, refl) }

    method_is_named : (m : Text × MethodEntry) → Contains (entries entry.1.methods) m → (body : Body) × MethodIsNamed m body
    method_is_named m is =
        let class_there = entry_found t entry.0 entry.1 has in
        let there = entry_found entry.1.methods m.0 m.1 is in
        let one = writable.flat entry.0 m.0 entry.1 m.1 class_there there in
        let body = one.0 in
        let among : Contains m.1.bodies body = subst (λ bs. Contains bs body) (sym one.1) (0, omega arith, refl) in
        let whole = (writable.table.methods entry.0 m.0 entry.1 m.1 class_there there).bodies body among in
        let types = texts_of m.1.signature.parameters in
        let in_bodies = flat_map names_in_body m.1.bodies in
        let values = flat_map names_in_form (nodes body.value) in
        let named_in : (name : Text) → Contains (types ++ in_bodies) name → IsJavaName name = λ name within.
        method_name m is name (among_others m.0 name (m.1.signature.result.text ∷ (types ++ in_bodies)) (among_others m.1.signature.result.text name (types ++ in_bodies) within)) in
        let named_in_body : (name : Text) → Contains (names_in_body body) name → IsJavaName name = λ name within.
        named_in name (Contains-append_right types in_bodies name (within_flat names_in_body m.1.bodies body name among within)) in (
          body,
          record {
            name = method_name m is m.0 (0, omega arith, refl);
            result = method_name m is m.1.signature.result.text (1, omega arith, refl);
            kinds = λ k of. named_in k.text (Contains-append_left types in_bodies k.text (mapped_within (λ x. x.text) m.1.signature.parameters k of));
            names = λ n of. named_in_body n.text (Contains-append_left (texts_of body.names) values n.text (mapped_within (λ x. x.text) body.names n of));
            count = whole.count;
            expression = whole.expression;
            plain = plain_value body.value (λ name within. named_in_body name (Contains-append_right (texts_of body.names) values name within)) one.2;
            bodies = one.1;
          },
        )

    pub class_is_named : ClassIsNamed entry
    class_is_named = record {
      name = class_names entry has entry.0 (0, omega arith, refl);
      parent = class_names entry has entry.1.parent.text (1, omega arith, refl);
      fields = field_is_named;
      methods = method_is_named;
    }
