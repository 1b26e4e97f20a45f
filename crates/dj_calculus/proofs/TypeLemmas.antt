-- Types and rules of nodes, for this crate and its clients. In any table: at most one field, method and type; parts and nodes within an
-- expression that has a type have types; a node that breaks a rule has types for its parts; a node that has a type breaks no rule.
use Rattle.std.proofs.Common.{◌≡◌, inl, inr, ℕ, zero, suc, List, [], ◌∷◌, Option, Some, None, length, slice_get, Contains, refl, sym, ap, ◌∙◌, subst, arith}
use Rattle.std.specs.List.{All}
use Rattle.dj_names.specs.Texts.{Text}
use Rattle.arena_walk.specs.Tree.{list_of, children_of}
use Rattle.dj_tree.specs.Trees.{Expr}
use Rattle.dj_calculus.specs.Tables.{ClassEntry, Table, Heading, heading_of}
use Rattle.dj_calculus.specs.Subclasses.{Nearest, own, inherited, Kind, null_kind, class_kind, Below, FieldOf, MethodOf}
use Rattle.dj_calculus.specs.Typing.{Home, Arguments, Types, AllBelow, none_below, and_below}
use Rattle.dj_calculus.specs.Typing.{type_of_variable, type_of_this, type_of_null, type_of_new, type_of_cast, type_of_field, type_of_assignment, type_of_call, type_of_original}
use Rattle.dj_calculus.specs.BodyRules.{IsWithin, itself, deeper, HasType, WrongArgument, NodeRule, BreaksWithin}
use Rattle.dj_calculus.specs.BodyRules.{unknown_variable, unknown_class_new, unknown_class_cast, no_field, no_field_assigned, no_method, number_of_call, number_of_original, argument_of_call, argument_of_original, assigned_type, unrelated_cast, field_of_null, method_of_null, assignment_of_null}
use Rattle.dj_calculus.proofs.Members.{same_some, no_element, first_or_other, either}

none_some : {X : Type 0} {G : Type 0} (b : X) (o : Option X) → o ≡ None → o ≡ Some b → G
none_some b o p q = absurd cc

pub one_nearest : {X : Type 0} (t : Table) (member : ClassEntry → Option X) (c d e : Text) (x y : X) → Nearest t member c d x → Nearest t member c e y → x ≡ y
one_nearest t member c d e x y (own {entry = a} p q) (own {entry = b} r s) = same_some x y (member a) q (rw (same_some a b _ p r) s)
one_nearest t member c d e x y (own {entry = a} p q) (inherited {entry = b} r s n) = none_some x (member b) s (rw (same_some b a _ r p) q)
one_nearest t member c d e x y (inherited {entry = a} p q n) (own {entry = b} r s) = none_some y (member a) q (rw (same_some a b _ p r) s)
one_nearest t member c d e x y (inherited {entry = a} p q n) (inherited {entry = b} r s m) =
    one_nearest t member a.parent.text d e x y n (rw (same_some a b _ p r) m)

-- a class has one field and one method of a name
pub one_field : (t : Table) (c f a b : Text) → FieldOf t c f a → FieldOf t c f b → a ≡ b
one_field t c f a b p q = sym p.has ∙ ap (λ x. x.kind.text) (one_nearest t _ c _ _ p.field q.field p.nearest q.nearest) ∙ q.has

pub one_method : (t : Table) (c m : Text) (a b : Heading) → MethodOf t c m a → MethodOf t c m b → a ≡ b
one_method t c m a b p q = sym p.has ∙ ap (λ x. heading_of x.signature) (one_nearest t _ c _ _ p.method q.method p.nearest q.nearest) ∙ q.has

one_class : (a b : Text) → class_kind a ≡ class_kind b → a ≡ b
one_class a b e = cc

pub one_type : (t : Table) (home : Home) (e : Expr) (a b : Kind) → Types t home e a → Types t home e b → a ≡ b
one_type t home e a b (type_of_variable {u = u} p) (type_of_variable {u = v} q) = ap class_kind (same_some u v _ p q)
one_type t home e a b type_of_this type_of_this = refl
one_type t home e a b type_of_null type_of_null = refl
one_type t home e a b (type_of_new p) (type_of_new q) = refl
one_type t home e a b (type_of_cast p r s) (type_of_cast q u v) = refl
one_type t home e a b (type_of_field {f = f} {a = c} {kind = j} p q) (type_of_field {a = d} {kind = k} r s) =
    let same : c ≡ d = one_class c d (one_type t home _ _ _ p r) in
    ap class_kind (one_field t d f.text j k (rw same at q) s)
one_type t home e a b (type_of_assignment {f = f} {a = c} {kind = j} p q x y) (type_of_assignment {a = d} {kind = k} r s z w) =
    let same : c ≡ d = one_class c d (one_type t home _ _ _ p r) in
    ap class_kind (one_field t d f.text j k (rw same at q) s)
one_type t home e a b (type_of_call {m = m} {a = c} {heading = j} p q x) (type_of_call {a = d} {heading = k} r s z) =
    let same : c ≡ d = one_class c d (one_type t home _ _ _ p r) in
    ap (λ h. class_kind h.result) (one_method t d m.text j k (rw same at q) s)
one_type t home e a b (type_of_original p) (type_of_original q) = refl

-- ---- parts of a typed expression have types

module _ (t : Table) (home : Home) where
  typed_argument : (arguments : Arguments) (parameters : List Text) (e : Expr) → AllBelow t home arguments parameters → Contains (list_of arguments) e → HasType t home e
  typed_argument arguments parameters e none_below within = no_element e within
  typed_argument arguments parameters e (and_below {e = d} {a = a} {arguments = others} {parameters = rest} types below more) within =
      either (first_or_other d e (list_of others) within) (λ same. (a, subst (λ x. Types t home x a) same types)) (λ later. typed_argument others rest e more later)

  typed_one : (d e : Expr) (a : Kind) → Types t home d a → Contains (d ∷ []) e → HasType t home e
  typed_one d e a types within =
      either (first_or_other d e [] within) (λ same. (a, subst (λ x. Types t home x a) same types)) (λ none. no_element e none)

  typed_two : (d v e : Expr) (a : Kind) → Types t home d a → HasType t home v → Contains (d ∷ v ∷ []) e → HasType t home e
  typed_two d v e a types value within =
      either (first_or_other d e (v ∷ []) within) (λ same. (a, subst (λ x. Types t home x a) same types)) (λ later. typed_one v e value.0 value.1 later)

  typed_each : (es : List Expr) (e : Expr) → All (HasType t home) es → Contains es e → HasType t home e
  typed_each es e all within = subst (HasType t home) within.2 (all within.0 e within.1)

  typed_all : (d : Expr) (es : List Expr) (e : Expr) (a : Kind) → Types t home d a → All (HasType t home) es → Contains (d ∷ es) e → HasType t home e
  typed_all d es e a types all within =
      either (first_or_other d e es within) (λ same. (a, subst (λ x. Types t home x a) same types)) (λ later. typed_each es e all later)

  -- each part of an expression that has a type has one
  pub typed_part : (whole e : Expr) (k : Kind) → Types t home whole k → Contains (children_of whole) e → HasType t home e
  typed_part whole e k (type_of_variable is) within = no_element e within
  typed_part whole e k type_of_this within = no_element e within
  typed_part whole e k type_of_null within = no_element e within
  typed_part whole e k (type_of_new exists) within = no_element e within
  typed_part whole e k (type_of_cast {e = d} {a = a} exists types related) within = typed_one d e a types within
  typed_part whole e k (type_of_field {e = d} {a = a} types has) within = typed_one d e (class_kind a) types within
  typed_part whole e k (type_of_assignment {e = d} {v = v} {a = a} {b = b} types has value below) within =
      typed_two d v e (class_kind a) types (b, value) within
  typed_part whole e k (type_of_call {e = d} {arguments = arguments} {a = a} {heading = heading} types has below) within =
      either (first_or_other d e (list_of arguments) within) (λ same. (class_kind a, subst (λ x. Types t home x (class_kind a)) same types)) (λ later. typed_argument arguments heading.parameters e below later)
  typed_part whole e k (type_of_original {arguments = arguments} below) within = typed_argument arguments home.heading.parameters e below within

  -- so does each expression within it
  pub typed_within : (e whole : Expr) → HasType t home whole → IsWithin e whole → HasType t home e
  typed_within e whole has itself = has
  typed_within e whole has (deeper {part = part} within of) = typed_within e part (typed_part whole part has.0 has.1 of) within

  -- ---- arguments

  as_many : (arguments : Arguments) (parameters : List Text) → AllBelow t home arguments parameters → length (list_of arguments) ≡ length parameters
  as_many arguments parameters none_below = refl
  as_many arguments parameters (and_below {arguments = others} {parameters = rest} types below more) = omega (arith, as_many others rest more)

  argument_below : (arguments : Arguments) (parameters : List Text) (n : ℕ) (e : Expr) (p : Text) → AllBelow t home arguments parameters
      → slice_get (list_of arguments) n ≡ Some e → slice_get parameters n ≡ Some p → (a : Kind) × Types t home e a × Below t a (class_kind p)
  argument_below arguments parameters n e p none_below is its = absurd cc
  argument_below arguments parameters zero e p (and_below {e = d} {a = a} {u = u} types below more) is its =
      let same : d ≡ e = cc in
      let u_is : u ≡ p = cc in
      (a, subst (λ x. Types t home x a) same types, subst (λ x. Below t a (class_kind x)) u_is below)
  argument_below arguments parameters (suc n) e p (and_below {arguments = others} {parameters = rest} types below more) is its =
      argument_below others rest n e p more is its

  right_argument : (arguments : Arguments) (parameters : List Text) (v : Expr) → AllBelow t home arguments parameters → ¬ (WrongArgument t home arguments parameters v)
  right_argument arguments parameters v below wrong =
      let found = argument_below arguments parameters wrong.number v wrong.parameter below wrong.argument wrong.its in
      wrong.wrong (rw (one_type t home v wrong.kind found.0 wrong.types found.1) found.2)

  -- ---- nodes

  -- an expression has one class for its type, and not the null type beside it
  pub same_class : (e : Expr) (a b : Text) → Types t home e (class_kind a) → Types t home e (class_kind b) → a ≡ b
  same_class e a b p q = let same = one_type t home e _ _ p q in cc

  pub not_null : (e : Expr) (a : Text) → Types t home e null_kind → Types t home e (class_kind a) → ⊥
  not_null e a p q = let same = one_type t home e _ _ p q in absurd cc

  -- and its class has one field and one method of a name
  pub its_field : (e : Expr) (a b f j k : Text) → Types t home e (class_kind a) → Types t home e (class_kind b) → FieldOf t a f j → FieldOf t b f k → j ≡ k
  its_field e a b f j k p q in_a in_b = one_field t b f j k (subst (λ c. FieldOf t c f j) (same_class e a b p q) in_a) in_b

  pub its_method : (e : Expr) (a b m : Text) (j k : Heading) → Types t home e (class_kind a) → Types t home e (class_kind b) → MethodOf t a m j → MethodOf t b m k → j ≡ k
  its_method e a b m j k p q in_a in_b = one_method t b m j k (subst (λ c. MethodOf t c m j) (same_class e a b p q) in_a) in_b

  -- a node that breaks a rule has types for all its parts
  pub rule_has_parts : (whole e : Expr) (rule at : ℕ) → NodeRule t home whole rule at → Contains (children_of whole) e → HasType t home e
  rule_has_parts whole e rule at (unknown_variable none) within = no_element e within
  rule_has_parts whole e rule at (unknown_class_new missing) within = no_element e within
  rule_has_parts whole e rule at (unknown_class_cast {e = d} typed missing) within = typed_one d e typed.0 typed.1 within
  rule_has_parts whole e rule at (no_field {e = d} a types missing) within = typed_one d e (class_kind a) types within
  rule_has_parts whole e rule at (no_field_assigned {e = d} {v = v} a types value missing) within = typed_two d v e (class_kind a) types value within
  rule_has_parts whole e rule at (no_method {e = d} {arguments = es} a types typed missing) within = typed_all d (list_of es) e (class_kind a) types typed within
  rule_has_parts whole e rule at (number_of_call {e = d} {arguments = es} a heading types has wrong) within = typed_all d (list_of es) e (class_kind a) types wrong.typed within
  rule_has_parts whole e rule at (number_of_original {arguments = es} wrong) within = typed_each (list_of es) e wrong.typed within
  rule_has_parts whole e rule at (argument_of_call {e = d} {arguments = es} a heading v types has wrong) within = typed_all d (list_of es) e (class_kind a) types wrong.typed within
  rule_has_parts whole e rule at (argument_of_original {arguments = es} v wrong) within = typed_each (list_of es) e wrong.typed within
  rule_has_parts whole e rule at (assigned_type {e = d} {v = v} a kind b types has value wrong) within = typed_two d v e (class_kind a) types (b, value) within
  rule_has_parts whole e rule at (unrelated_cast {e = d} a types exists not_below not_above) within = typed_one d e a types within
  rule_has_parts whole e rule at (field_of_null {e = d} null) within = typed_one d e null_kind null within
  rule_has_parts whole e rule at (method_of_null {e = d} {arguments = es} null typed) within = typed_all d (list_of es) e null_kind null typed within
  rule_has_parts whole e rule at (assignment_of_null {e = d} {v = v} null value) within = typed_two d v e null_kind null value within

  -- a node that has a type breaks no rule
  pub sound_node : (e : Expr) (k : Kind) (rule at : ℕ) → Types t home e k → NodeRule t home e rule at → ⊥
  sound_node e k rule at (type_of_variable is) (unknown_variable none) = absurd cc
  sound_node e k rule at type_of_this breaks = elim breaks [ ]
  sound_node e k rule at type_of_null breaks = elim breaks [ ]
  sound_node e k rule at (type_of_new exists) (unknown_class_new missing) = missing exists
  sound_node e k rule at (type_of_cast exists types related) (unknown_class_cast typed missing) = missing exists
  sound_node e k rule at (type_of_cast {e = d} {a = b} exists types (inl below)) (unrelated_cast a typed there not_below not_above) =
      not_below (rw (one_type t home d a b typed types) below)
  sound_node e k rule at (type_of_cast {e = d} {a = b} exists types (inr is_above)) (unrelated_cast a typed there not_below not_above) =
      not_above (rw (one_type t home d a b typed types) is_above)
  sound_node e k rule at (type_of_field {e = d} {a = b} {kind = kind} types has) (no_field a typed missing) =
      missing (kind, rw (same_class d a b typed types) has)
  sound_node e k rule at (type_of_field {e = d} {a = b} types has) (field_of_null null) = not_null d b null types
  sound_node e k rule at (type_of_assignment {e = d} {a = b} {kind = kind} types has value below) (no_field_assigned a typed other missing) =
      missing (kind, rw (same_class d a b typed types) has)
  sound_node e k rule at (type_of_assignment {e = d} {v = v} {f = f} {a = b} {kind = j} {b = y} types has value below) (assigned_type a i x typed its other_value wrong) =
      wrong (rw (one_type t home v x y other_value value, its_field d a b f.text i j typed types its has) below)
  sound_node e k rule at (type_of_assignment {e = d} {a = b} types has value below) (assignment_of_null null other) = not_null d b null types
  sound_node e k rule at (type_of_call {e = d} {a = b} {heading = heading} types has below) (no_method a typed others missing) =
      missing (heading, rw (same_class d a b typed types) has)
  sound_node e k rule at (type_of_call {e = d} {m = m} {arguments = arguments} {a = b} {heading = heading} types has below) (number_of_call a other typed its wrong) =
      let same = its_method d a b m.text other heading typed types its has in
      wrong.count (rw same (as_many arguments heading.parameters below))
  sound_node e k rule at (type_of_call {e = d} {m = m} {arguments = arguments} {a = b} {heading = heading} types has below) (argument_of_call a other v typed its wrong) =
      let same = its_method d a b m.text other heading typed types its has in
      right_argument arguments heading.parameters v below (rw same at wrong)
  sound_node e k rule at (type_of_call {e = d} {a = b} types has below) (method_of_null null others) = not_null d b null types
  sound_node e k rule at (type_of_original {arguments = arguments} below) (number_of_original wrong) = wrong.count (as_many arguments home.heading.parameters below)
  sound_node e k rule at (type_of_original {arguments = arguments} below) (argument_of_original v wrong) = right_argument arguments home.heading.parameters v below wrong

  -- nor does a node within an expression that has one
  pub sound_within : (e : Expr) (rule at : ℕ) → HasType t home e → BreaksWithin t home e rule at → ⊥
  sound_within e rule at has breaks =
      let its = typed_within breaks.node e has breaks.within in
      sound_node breaks.node its.0 rule at its.1 breaks.breaks
