-- Tables that are the same but for places: what one has, the other has, and both are well typed together. For clients too.
use Rattle.std.proofs.Common.{◌≡◌, ◌↔◌, ◌⊎◌, inl, inr, ℕ, Bool, true, ◌&&◌, List, [], ◌∷◌, map, Option, Some, None, is_some, IsSome, IsTrue, Contains, refl, sym, ap, ap₂, ◌∙◌, subst, ◌<◌, length, slice_get}
use Rattle.std.specs.Option.{option_map}
use Rattle.std.specs.Str.{bytes_eq}
use Rattle.std.specs.FinMap.{get}
use Rattle.std.proofs.lemmas.Slice.Eq.{bytes_eq-Decides}
use Rattle.dj_names.specs.Texts.{Text}
use Rattle.arena_walk.specs.Tree.{branch, no_trees, tree_and, trees_of, over, fold_each}
use Rattle.dj_tree.specs.Trees.{Spot, Expr, ExprForm, VariableForm, ThisForm, NullForm, FieldForm, CallForm, NewForm, CastForm, AssignForm, OriginalForm, new_of, cast_to}
use Rattle.dj_calculus.specs.Maps.{TextMap, map_values}
use Rattle.dj_calculus.specs.Tables.{FieldEntry, Signature, Body, MethodEntry, ClassEntry, Table, SameTable, texts_of, Heading, heading_of}
use Rattle.dj_calculus.specs.Tables.{unplaced, unplaced_form, unplaced_expr, unplaced_field, unplaced_signature, unplaced_body, unplaced_method, unplaced_class}
use Rattle.dj_calculus.specs.Entries.{same_types, same_signature}
use Rattle.dj_calculus.specs.Subclasses.{Exists, HasSuperclass, Steps, stay, up, Above, Kind, class_kind, Below, null_below, same, below_object, above, Nearest, own, inherited, FieldOf, MethodOf, object}
use Rattle.dj_calculus.specs.Typing.{Home, home_of, parameter_type, Arguments, Types, AllBelow, none_below, and_below, IsBody, kept, Returns, types_in, WellTyped}
use Rattle.dj_calculus.specs.Typing.{type_of_variable, type_of_this, type_of_null, type_of_new, type_of_cast, type_of_field, type_of_assignment, type_of_call, type_of_original}
use Rattle.std.proofs.lemmas.List.{length-map}
use Rattle.std.proofs.lemmas.Option.{slice_get-map}
use Rattle.dj_calculus.specs.Expressions.{IsExpression}
use Rattle.dj_calculus.specs.TableForms.{HasBody, IsMethod, IsTable, HasDistinctParameters}
use Rattle.dj_calculus.proofs.MapLemmas.{get_changed}
use Rattle.dj_calculus.proofs.Members.{either, mapped, mapped_within, mapped_from}
use Rattle.dj_calculus.proofs.Chains.{none_or_value}
use Rattle.dj_calculus.proofs.ExpressionForms.{both_of, Formed, a_variable, a_this, a_null, a_new, a_cast, a_field, an_assignment, a_call, an_original, EachFormed, none_formed, formed_and, formed, is_formed}

-- ---- maps whose values are the same in another form

unmapped : {A B : Type 0} (f : A → B) (o : Option A) → option_map f o ≡ None → o ≡ None
unmapped f None e = refl
unmapped f (Some a) e = absurd cc

module _ {X Y : Type 0} (f : X → Y) (m n : TextMap X) (alike : map_values f m ≡ map_values f n) where
  looked_up : (k : Text) → option_map f (get m k) ≡ option_map f (get n k)
  looked_up k = sym (get_changed f m k) ∙ ap (λ x. get x k) alike ∙ get_changed f n k

  pub found_in_other : (k : Text) (x : X) → get m k ≡ Some x → (y : X) × (get n k ≡ Some y) × (f y ≡ f x)
  found_in_other k x is = mapped f (get n k) (f x) (sym (looked_up k) ∙ ap (option_map f) is)

  pub missing_in_other : (k : Text) → get m k ≡ None → get n k ≡ None
  missing_in_other k none = unmapped f (get n k) (sym (looked_up k) ∙ ap (option_map f) none)

-- ---- signatures

same_text_types : (xs ys : List Spot) → same_types xs ys ≡ true → texts_of xs ≡ texts_of ys
same_text_types [] [] e = refl
same_text_types [] (y ∷ ys) e = absurd cc
same_text_types (x ∷ xs) [] e = absurd cc
same_text_types (x ∷ xs) (y ∷ ys) e =
    let parts = both_of (bytes_eq x.text y.text) (same_types xs ys) e in
    ap₂ (λ a b. a ∷ b) ((bytes_eq-Decides x.text y.text).0 parts.0) (same_text_types xs ys parts.1)

both : (a b : Bool) → a ≡ true → b ≡ true → (a && b) ≡ true
both a b p q = rw (p, q) refl

types_by_text : (xs ys : List Spot) → texts_of xs ≡ texts_of ys → same_types xs ys ≡ true
types_by_text [] [] e = refl
types_by_text [] (y ∷ ys) e = absurd cc
types_by_text (x ∷ xs) [] e = absurd cc
types_by_text (x ∷ xs) (y ∷ ys) e =
    let first : x.text ≡ y.text = cc in
    let rest : texts_of xs ≡ texts_of ys = cc in
    both (bytes_eq x.text y.text) (same_types xs ys) ((bytes_eq-Decides x.text y.text).1 first) (types_by_text xs ys rest)

pub same_headings : (s t : Signature) → IsTrue (same_signature s t) ↔ (heading_of s ≡ heading_of t)
same_headings s t = (
  λ e. let parts = both_of (same_types s.parameters t.parameters) (bytes_eq s.result.text t.result.text) e in
      ap₂ (λ a b. record { parameters = a; result = b }) (same_text_types s.parameters t.parameters parts.0) ((bytes_eq-Decides s.result.text t.result.text).0 parts.1),
  λ e. both (same_types s.parameters t.parameters) (bytes_eq s.result.text t.result.text) (types_by_text s.parameters t.parameters (ap (λ h. h.parameters) e))
      ((bytes_eq-Decides s.result.text t.result.text).1 (ap (λ h. h.result) e)),
)

texts_unplaced : (xs : List Spot) → texts_of (map unplaced xs) ≡ texts_of xs
texts_unplaced [] = refl
texts_unplaced (x ∷ xs) = ap (λ ts. x.text ∷ ts) (texts_unplaced xs)

heading_unplaced : (s : Signature) → heading_of (unplaced_signature s) ≡ heading_of s
heading_unplaced s = ap (λ ts. record { parameters = ts; result = s.result.text }) (texts_unplaced s.parameters)

pub same_method_heading : (x y : MethodEntry) → unplaced_method x ≡ unplaced_method y → heading_of x.signature ≡ heading_of y.signature
same_method_heading x y e = sym (heading_unplaced x.signature) ∙ ap (λ z. heading_of z.signature) e ∙ heading_unplaced y.signature

-- ---- expressions that are the same but for places

data SameForm : ExprForm → ExprForm → Type 0 where
  same_variable : {x y : Spot} → x.text ≡ y.text → SameForm (VariableForm x) (VariableForm y)
  same_this : {a b : ℕ} → SameForm (ThisForm a) (ThisForm b)
  same_null : {a b : ℕ} → SameForm (NullForm a) (NullForm b)
  same_field : {x y : Spot} → x.text ≡ y.text → SameForm (FieldForm x) (FieldForm y)
  same_call : {x y : Spot} → x.text ≡ y.text → SameForm (CallForm x) (CallForm y)
  same_new : {x y : Spot} → x.text ≡ y.text → SameForm (NewForm x) (NewForm y)
  same_cast : {x y : Spot} → x.text ≡ y.text → SameForm (CastForm x) (CastForm y)
  same_assign : {x y : Spot} → x.text ≡ y.text → SameForm (AssignForm x) (AssignForm y)
  same_original : {a b : ℕ} → SameForm (OriginalForm a) (OriginalForm b)

mutual
  data SameExpr : Expr → Expr → Type 0 where
    node : {form other : ExprForm} {parts others : Arguments} → SameForm form other → SameExprs parts others → SameExpr (branch form parts) (branch other others)

  data SameExprs : Arguments → Arguments → Type 0 where
    no_more : SameExprs no_trees no_trees
    one_more : {e d : Expr} {es ds : Arguments} → SameExpr e d → SameExprs es ds → SameExprs (tree_and e es) (tree_and d ds)

to_form : (form : ExprForm) → SameForm form (unplaced_form form)
to_form (VariableForm x) = same_variable refl
to_form (ThisForm at) = same_this
to_form (NullForm at) = same_null
to_form (FieldForm f) = same_field refl
to_form (CallForm m) = same_call refl
to_form (NewForm c) = same_new refl
to_form (CastForm c) = same_cast refl
to_form (AssignForm f) = same_assign refl
to_form (OriginalForm at) = same_original

from_form : (form : ExprForm) → SameForm (unplaced_form form) form
from_form (VariableForm x) = same_variable refl
from_form (ThisForm at) = same_this
from_form (NullForm at) = same_null
from_form (FieldForm f) = same_field refl
from_form (CallForm m) = same_call refl
from_form (NewForm c) = same_new refl
from_form (CastForm c) = same_cast refl
from_form (AssignForm f) = same_assign refl
from_form (OriginalForm at) = same_original

abbrev without_place : ExprForm → List Expr → Expr
without_place form parts = over (unplaced_form form) parts

mutual
  to_unplaced : (e : Expr) → SameExpr e (unplaced_expr e)
  to_unplaced (branch form parts) = node (to_form form) (to_each parts)

  to_each : (es : Arguments) → SameExprs es (trees_of (fold_each without_place es))
  to_each no_trees = no_more
  to_each (tree_and e es) = one_more (to_unplaced e) (to_each es)

mutual
  from_unplaced : (e : Expr) → SameExpr (unplaced_expr e) e
  from_unplaced (branch form parts) = node (from_form form) (from_each parts)

  from_each : (es : Arguments) → SameExprs (trees_of (fold_each without_place es)) es
  from_each no_trees = no_more
  from_each (tree_and e es) = one_more (from_unplaced e) (from_each es)

abbrev IsRelated : Table → Kind → Text → Type 0
IsRelated t a c = (Below t a (class_kind c)) ⊎ (Below t (class_kind c) a)

module _ (t : Table) (home : Home) where
  new_as : (y : Spot) (c : Text) → c ≡ y.text → Exists t c → Types t home (new_of y) (class_kind c)
  new_as y c e exists = subst (λ z. Exists t z → Types t home (new_of y) (class_kind z)) (sym e) (λ there. type_of_new there) exists

  cast_as : (y : Spot) (v : Expr) (c : Text) (a : Kind) → c ≡ y.text → Exists t c → Types t home v a → IsRelated t a c → Types t home (cast_to y v) (class_kind c)
  cast_as y v c a e exists types related =
      subst (λ z. Exists t z → IsRelated t a z → Types t home (cast_to y v) (class_kind z)) (sym e) (λ there is. type_of_cast there types is) exists related

  mutual
    types_same : (e d : Expr) (k : Kind) → Types t home e k → SameExpr e d → Types t home d k
    types_same e d k (type_of_variable {u = u} is) (node (same_variable s) no_more) = type_of_variable (subst (λ z. parameter_type home z ≡ Some u) s is)
    types_same e d k type_of_this (node same_this no_more) = type_of_this
    types_same e d k type_of_null (node same_null no_more) = type_of_null
    types_same e d k (type_of_new exists) (node (same_new {x = x} {y = y} s) no_more) = new_as y x.text s exists
    types_same e d k (type_of_cast {e = v} {a = a} exists types related) (node (same_cast {x = x} {y = y} s) (one_more {d = w} it no_more)) =
        cast_as y w x.text a s exists (types_same v w a types it) related
    types_same e d k (type_of_field {e = v} {a = a} {kind = kind} types has) (node (same_field s) (one_more {d = w} it no_more)) =
        type_of_field (types_same v w (class_kind a) types it) (subst (λ z. FieldOf t a z kind) s has)
    types_same e d k (type_of_assignment {e = v} {v = v'} {a = a} {kind = kind} {b = b} types has value below) (node (same_assign s) (one_more {d = w} it (one_more {d = w'} other no_more))) =
        type_of_assignment (types_same v w (class_kind a) types it) (subst (λ z. FieldOf t a z kind) s has) (types_same v' w' b value other) below
    types_same e d k (type_of_call {e = v} {arguments = es} {a = a} {heading = heading} types has below) (node (same_call s) (one_more {d = w} {ds = ds} it others)) =
        type_of_call (types_same v w (class_kind a) types it) (subst (λ z. MethodOf t a z heading) s has) (below_same es ds heading.parameters below others)
    types_same e d k (type_of_original {arguments = es} below) (node {others = ds} same_original others) = type_of_original (below_same es ds home.heading.parameters below others)

    below_same : (es ds : Arguments) (parameters : List Text) → AllBelow t home es parameters → SameExprs es ds → AllBelow t home ds parameters
    below_same es ds parameters none_below no_more = none_below
    below_same es ds parameters (and_below {e = e} {a = a} {arguments = rest} {parameters = more} types below all) (one_more {d = d} {ds = others} it them) =
        and_below (types_same e d a types it) below (below_same rest others more all them)

  -- an expression that is the same but for places has the same type
  pub types_unplaced : (e d : Expr) (k : Kind) → unplaced_expr e ≡ unplaced_expr d → Types t home e k → Types t home d k
  types_unplaced e d k alike types =
      types_same (unplaced_expr d) d k (subst (λ x. Types t home x k) alike (types_same e (unplaced_expr e) k types (to_unplaced e))) (from_unplaced d)

-- ---- from one table to the other

module _ (t u : Table) (alike : SameTable t u) where
  has_superclass : (c d : Text) → HasSuperclass t c d → HasSuperclass u c d
  has_superclass c d has =
      let other = found_in_other unplaced_class t u alike c has.entry has.there in
      record { entry = other.0; there = other.1; parent = ap (λ e. e.parent.text) other.2 ∙ has.parent }

  pub steps_in_other : (c d : Text) → Steps t c d → Steps u c d
  steps_in_other c d stay = stay
  steps_in_other c d (up {d = x} has steps) = up (has_superclass c x has) (steps_in_other x d steps)

  pub above_in_other : (c d : Text) → Above t c d → Above u c d
  above_in_other c d over = (over.0, has_superclass c over.0 over.1, steps_in_other over.0 d over.2)

  pub exists_in_other : (c : Text) → Exists t c → Exists u c
  exists_in_other c (inl is) = inl is
  exists_in_other c (inr there) =
      either (none_or_value (get t c)) (λ none. inr (subst IsSome (none ∙ sym (missing_in_other unplaced_class t u alike c none)) there))
      (λ found. inr (ap is_some (found_in_other unplaced_class t u alike c found.0 found.1).1))

  pub below_in_other : (a b : Kind) → Below t a b → Below u a b
  below_in_other a b (null_below k) = null_below b
  below_in_other a b (same k) = same a
  below_in_other a b (below_object k) = below_object a
  below_in_other a b (above c d over) = above c d (above_in_other c d over)

  module _ {X Y : Type 0} (member : ClassEntry → Option X) (see : X → Y)
      (sees : (e o : ClassEntry) → unplaced_class e ≡ unplaced_class o → option_map see (member e) ≡ option_map see (member o)) where
    nearest_in_other : (c d : Text) (x : X) → Nearest t member c d x → (y : X) × Nearest u member c d y × (see y ≡ see x)
    nearest_in_other c d x (own {entry = e} is has) =
        let other = found_in_other unplaced_class t u alike c e is in
        let found = mapped see (member other.0) (see x) (sees other.0 e other.2 ∙ ap (option_map see) has) in
        (found.0, own other.1 found.1, found.2)
    nearest_in_other c d x (inherited {entry = e} is lacks more) =
        let other = found_in_other unplaced_class t u alike c e is in
        let above = nearest_in_other e.parent.text d x more in (
          above.0,
          inherited other.1 (unmapped see (member other.0) (sees other.0 e other.2 ∙ ap (option_map see) lacks))
              (subst (λ p. Nearest u member p d above.0) (sym (ap (λ z. z.parent.text) other.2)) above.1),
          above.2,
        )

  pub field_in_other : (c f kind : Text) → FieldOf t c f kind → FieldOf u c f kind
  field_in_other c f kind has =
      let other = nearest_in_other (λ e. get e.fields f) unplaced_field (λ e o same_class. looked_up unplaced_field e.fields o.fields (ap (λ z. z.fields) same_class) f) c has.owner has.field has.nearest in
      record { owner = has.owner; field = other.0; nearest = other.1; has = ap (λ z. z.kind.text) other.2 ∙ has.has }

  pub method_in_other : (c m : Text) (heading : Heading) → MethodOf t c m heading → MethodOf u c m heading
  method_in_other c m heading has =
      let other = nearest_in_other (λ e. get e.methods m) unplaced_method (λ e o same_class. looked_up unplaced_method e.methods o.methods (ap (λ z. z.methods) same_class) m) c has.owner has.method has.nearest in
      record { owner = has.owner; method = other.0; nearest = other.1; has = same_method_heading other.0 has.method other.2 ∙ has.has }

  related_in_other : (a : Kind) (c : Text) → IsRelated t a c → IsRelated u a c
  related_in_other a c (inl below) = inl (below_in_other a (class_kind c) below)
  related_in_other a c (inr over) = inr (below_in_other (class_kind c) a over)

  module _ (home : Home) where
    mutual
      -- an expression has the same type in the other table
      pub types_in_other : (e : Expr) (k : Kind) → Types t home e k → Types u home e k
      types_in_other e k (type_of_variable is) = type_of_variable is
      types_in_other e k type_of_this = type_of_this
      types_in_other e k type_of_null = type_of_null
      types_in_other e k (type_of_new {d = d} exists) = type_of_new (exists_in_other d.text exists)
      types_in_other e k (type_of_cast {d = d} {e = v} {a = a} exists types related) =
          type_of_cast (exists_in_other d.text exists) (types_in_other v a types) (related_in_other a d.text related)
      types_in_other e k (type_of_field {e = v} {f = f} {a = a} {kind = kind} types has) =
          type_of_field (types_in_other v (class_kind a) types) (field_in_other a f.text kind has)
      types_in_other e k (type_of_assignment {e = v} {v = w} {f = f} {a = a} {kind = kind} {b = b} types has value below) =
          type_of_assignment (types_in_other v (class_kind a) types) (field_in_other a f.text kind has) (types_in_other w b value) (below_in_other b (class_kind kind) below)
      types_in_other e k (type_of_call {e = v} {m = m} {arguments = es} {a = a} {heading = heading} types has below) =
          type_of_call (types_in_other v (class_kind a) types) (method_in_other a m.text heading has) (all_below_in_other es heading.parameters below)
      types_in_other e k (type_of_original {arguments = es} below) = type_of_original (all_below_in_other es home.heading.parameters below)

      all_below_in_other : (es : Arguments) (parameters : List Text) → AllBelow t home es parameters → AllBelow u home es parameters
      all_below_in_other es parameters none_below = none_below
      all_below_in_other es parameters (and_below {e = e} {a = a} {arguments = rest} {u = p} {parameters = more} types below all) =
          and_below (types_in_other e a types) (below_in_other a (class_kind p) below) (all_below_in_other rest more all)

-- ---- well typed together

module _ (t u : Table) (alike : SameTable t u) (typed : WellTyped t) where
  abbrev turned : SameTable u t
  turned = sym alike

  same_member : {X : Type 0} (f : X → X) (m n : TextMap X) → map_values f m ≡ map_values f n → (k : Text) (x : X) → get m k ≡ Some x → (y : X) × (get n k ≡ Some y) × (f y ≡ f x)
  same_member f m n e k x is = found_in_other f m n e k x is

  superclasses : (c : Text) (entry : ClassEntry) → get u c ≡ Some entry → Exists u entry.parent.text
  superclasses c e is =
      let other = found_in_other unplaced_class u t turned c e is in
      subst (Exists u) (ap (λ z. z.parent.text) other.2) (exists_in_other t u alike other.0.parent.text (typed.superclasses c other.0 other.1))

  rooted : (c : Text) (entry : ClassEntry) → get u c ≡ Some entry → Steps u c object
  rooted c e is = let other = found_in_other unplaced_class u t turned c e is in steps_in_other t u alike c object (typed.rooted c other.0 other.1)

  field_of_class : (c f : Text) (e : ClassEntry) (x : FieldEntry) (o : ClassEntry) → unplaced_class o ≡ unplaced_class e → get e.fields f ≡ Some x
      → (y : FieldEntry) × (get o.fields f ≡ Some y) × (unplaced_field y ≡ unplaced_field x)
  field_of_class c f e x o same_class is = found_in_other unplaced_field e.fields o.fields (sym (ap (λ z. z.fields) same_class)) f x is

  method_of_class : (c m : Text) (e : ClassEntry) (x : MethodEntry) (o : ClassEntry) → unplaced_class o ≡ unplaced_class e → get e.methods m ≡ Some x
      → (y : MethodEntry) × (get o.methods m ≡ Some y) × (unplaced_method y ≡ unplaced_method x)
  method_of_class c m e x o same_class is = found_in_other unplaced_method e.methods o.methods (sym (ap (λ z. z.methods) same_class)) m x is

  field_types : (c f : Text) (entry : ClassEntry) (field : FieldEntry) → get u c ≡ Some entry → get entry.fields f ≡ Some field → Exists u field.kind.text
  field_types c f e x is has =
      let other = found_in_other unplaced_class u t turned c e is in
      let y = field_of_class c f e x other.0 other.2 has in
      subst (Exists u) (ap (λ z. z.kind.text) y.2) (exists_in_other t u alike y.0.kind.text (typed.field_types c f other.0 y.0 other.1 y.1))

  signatures : (c m : Text) (entry : ClassEntry) (method : MethodEntry) (kind : Spot) → get u c ≡ Some entry → get entry.methods m ≡ Some method
      → Contains (types_in method.signature) kind → Exists u kind.text
  signatures c m e x kind is has within =
      let other = found_in_other unplaced_class u t turned c e is in
      let y = method_of_class c m e x other.0 other.2 has in
      let texts : texts_of (types_in x.signature) ≡ texts_of (types_in y.0.signature) = ap (λ h. h.result ∷ h.parameters) (sym (same_method_heading y.0 x y.2)) in
      let named = mapped_from (λ k. k.text) (types_in y.0.signature) kind.text (subst (λ ts. Contains ts kind.text) texts (mapped_within (λ k. k.text) (types_in x.signature) kind within)) in
      subst (Exists u) named.2 (exists_in_other t u alike named.0.text (typed.signatures c m other.0 y.0 named.0 other.1 y.1 named.1))

  fields : (c d f : Text) (entry upper : ClassEntry) (field : FieldEntry) → get u c ≡ Some entry → get entry.fields f ≡ Some field
      → Above u c d → get u d ≡ Some upper → get upper.fields f ≡ None
  fields c d f e upper x is has over upper_is =
      let other = found_in_other unplaced_class u t turned c e is in
      let y = field_of_class c f e x other.0 other.2 has in
      let top = found_in_other unplaced_class u t turned d upper upper_is in
      missing_in_other unplaced_field top.0.fields upper.fields (ap (λ z. z.fields) top.2) f
      (typed.fields c d f other.0 top.0 y.0 other.1 y.1 (above_in_other u t turned c d over) top.1)

  methods : (c d m : Text) (entry upper : ClassEntry) (method other : MethodEntry) → get u c ≡ Some entry → get entry.methods m ≡ Some method
      → Above u c d → get u d ≡ Some upper → get upper.methods m ≡ Some other → IsTrue (same_signature method.signature other.signature)
  methods c d m e upper x z is has over upper_is there =
      let other = found_in_other unplaced_class u t turned c e is in
      let y = method_of_class c m e x other.0 other.2 has in
      let top = found_in_other unplaced_class u t turned d upper upper_is in
      let w = method_of_class d m upper z top.0 top.2 there in
      let headings = (same_headings y.0.signature w.0.signature).0 (typed.methods c d m other.0 top.0 y.0 w.0 other.1 y.1 (above_in_other u t turned c d over) top.1 w.1) in
      (same_headings x.signature z.signature).1 (sym (same_method_heading y.0 x y.2) ∙ headings ∙ same_method_heading w.0 z w.2)

  same_home : (c : Text) (x y : MethodEntry) (a b : Body) → unplaced_method x ≡ unplaced_method y → unplaced_body a ≡ unplaced_body b → home_of c x a ≡ home_of c y b
  same_home c x y a b methods_are bodies_are =
      ap₂ (λ h ns. record { class = c; heading = h; names = ns }) (same_method_heading x y methods_are)
      (sym (texts_unplaced a.names) ∙ ap (λ z. texts_of z.names) bodies_are ∙ texts_unplaced b.names)

  bodies : (home : Home) (e : Expr) → IsBody u home e → Returns u home e
  bodies home e (kept {c = c} m {entry = entry} {method = x} {body = b} is has within) =
      let other = found_in_other unplaced_class u t turned c entry is in
      let y = method_of_class c m entry x other.0 other.2 has in
      let listed = subst (λ bs. Contains bs (unplaced_body b)) (sym (ap (λ z. z.bodies) y.2)) (mapped_within unplaced_body x.bodies b within) in
      let a = mapped_from unplaced_body y.0.bodies (unplaced_body b) listed in
      let homes = same_home c y.0 x a.0 b y.2 a.2 in
      let returns = typed.bodies (home_of c y.0 a.0) a.0.value (kept m other.1 y.1 a.1) in
      let types = types_in_other t u alike (home_of c y.0 a.0) b.value returns.kind (types_unplaced t (home_of c y.0 a.0) a.0.value b.value returns.kind (ap (λ z. z.value) a.2) returns.types) in
      subst (λ h. Returns u h b.value) homes
      (record { kind = returns.kind; types = types; below = below_in_other t u alike returns.kind (class_kind (home_of c y.0 a.0).heading.result) returns.below })

  pub typed_in_other : WellTyped u
  typed_in_other =
      record { superclasses = superclasses; rooted = rooted; field_types = field_types; signatures = signatures; fields = fields; methods = methods; bodies = bodies }

pub typed_together : (t u : Table) → SameTable t u → WellTyped t ↔ WellTyped u
typed_together t u alike = (λ typed. typed_in_other t u alike typed, λ typed. typed_in_other u t (sym alike) typed)

-- ---- class tables together

mutual
  formed_same : (e d : Expr) → Formed e → SameExpr e d → Formed d
  formed_same e d a_variable (node (same_variable s) no_more) = a_variable
  formed_same e d a_this (node same_this no_more) = a_this
  formed_same e d a_null (node same_null no_more) = a_null
  formed_same e d a_new (node (same_new s) no_more) = a_new
  formed_same e d (a_cast {e = v} is) (node (same_cast s) (one_more {d = w} it no_more)) = a_cast (formed_same v w is it)
  formed_same e d (a_field {e = v} is) (node (same_field s) (one_more {d = w} it no_more)) = a_field (formed_same v w is it)
  formed_same e d (an_assignment {e = v} {v = v'} is its) (node (same_assign s) (one_more {d = w} it (one_more {d = w'} other no_more))) =
      an_assignment (formed_same v w is it) (formed_same v' w' its other)
  formed_same e d (a_call {e = v} {arguments = es} is are) (node (same_call s) (one_more {d = w} {ds = ds} it others)) =
      a_call (formed_same v w is it) (each_formed_same es ds are others)
  formed_same e d (an_original {arguments = es} are) (node {others = ds} same_original others) = an_original (each_formed_same es ds are others)

  each_formed_same : (es ds : Arguments) → EachFormed es → SameExprs es ds → EachFormed ds
  each_formed_same es ds none_formed no_more = none_formed
  each_formed_same es ds (formed_and {e = e} {arguments = rest} is are) (one_more {d = d} {ds = others} it them) =
      formed_and (formed_same e d is it) (each_formed_same rest others are them)

pub expression_unplaced : (e d : Expr) → unplaced_expr e ≡ unplaced_expr d → IsExpression e → IsExpression d
expression_unplaced e d alike is =
    is_formed d
    (formed_same (unplaced_expr d) d (subst Formed alike (formed_same e (unplaced_expr e) (formed e is) (to_unplaced e))) (from_unplaced d))

same_lengths : {X : Type 0} (f : X → X) (xs ys : List X) → map f xs ≡ map f ys → length xs ≡ length ys
same_lengths f xs ys e = sym (length-map xs f) ∙ ap length e ∙ length-map ys f

module _ (t u : Table) (alike : SameTable t u) where
  -- the method and the body that the other table has
  record Other (c m : Text) (x : MethodEntry) : Type 0 where
    pub entry : ClassEntry
    pub there : get t c ≡ Some entry
    pub method : MethodEntry
    pub has : get entry.methods m ≡ Some method
    pub same_one : unplaced_method method ≡ unplaced_method x

  other_method : (c m : Text) (e : ClassEntry) (x : MethodEntry) → get u c ≡ Some e → get e.methods m ≡ Some x → Other c m x
  other_method c m e x is has =
      let o = found_in_other unplaced_class u t (sym alike) c e is in
      let y = found_in_other unplaced_method e.methods o.0.methods (sym (ap (λ z. z.methods) o.2)) m x has in
      record { entry = o.0; there = o.1; method = y.0; has = y.1; same_one = y.2 }

  other_body : (c m : Text) (x : MethodEntry) (o : Other c m x) (b : Body) → Contains x.bodies b → (a : Body) × Contains o.method.bodies a × (unplaced_body a ≡ unplaced_body b)
  other_body c m x o b within =
      mapped_from unplaced_body o.method.bodies (unplaced_body b)
      (subst (λ bs. Contains bs (unplaced_body b)) (sym (ap (λ z. z.bodies) o.same_one)) (mapped_within unplaced_body x.bodies b within))

  pub table_in_other : IsTable t → IsTable u
  table_in_other is_table = record { no_object = missing_in_other unplaced_class t u alike object is_table.no_object; methods = methods_are }
    where
      body_is : (y x : MethodEntry) (a b : Body) → unplaced_method y ≡ unplaced_method x → unplaced_body a ≡ unplaced_body b → HasBody y.signature a → HasBody x.signature b
      body_is y x a b methods_are bodies_are has =
          record {
            expression = expression_unplaced a.value b.value (ap (λ z. z.value) bodies_are) has.expression;
            count = sym (same_lengths unplaced a.names b.names (ap (λ z. z.names) bodies_are)) ∙ has.count
                ∙ same_lengths unplaced y.signature.parameters x.signature.parameters (ap (λ z. z.signature.parameters) methods_are);
          }

      methods_are : (c m : Text) (e : ClassEntry) (x : MethodEntry) → get u c ≡ Some e → get e.methods m ≡ Some x → IsMethod x
      methods_are c m e x is has =
          let o = other_method c m e x is has in
          let was = is_table.methods c m o.entry o.method o.there o.has in
          record {
            some = subst (λ n. 0 < n) (same_lengths unplaced_body o.method.bodies x.bodies (ap (λ z. z.bodies) o.same_one)) was.some;
            bodies = λ b within. let a = other_body c m x o b within in body_is o.method x a.0 b o.same_one a.2 (was.bodies a.0 a.1);
          }

  pub distinct_in_other : HasDistinctParameters t → HasDistinctParameters u
  distinct_in_other distinct c m e x is has b within at r =
      let o = other_method c m e x is has in
      let a = other_body c m x o b within in
      let names : map unplaced a.0.names ≡ map unplaced b.names = ap (λ z. z.names) a.2 in
      let first = name_at a.0.names b.names names r.before r.x r.at_before in
      let second = name_at a.0.names b.names names r.number r.y r.at_number in
      distinct c m o.entry o.method o.there o.has a.0 a.1 second.0.at
      (record { before = r.before; number = r.number; earlier = r.earlier; x = first.0; y = second.0; at_before = first.1; at_number = second.1; same = first.2 ∙ r.same ∙ sym second.2; here = refl })
    where
      name_at : (xs ys : List Spot) → map unplaced xs ≡ map unplaced ys → (k : ℕ) (y : Spot) → slice_get ys k ≡ Some y → (x : Spot) × (slice_get xs k ≡ Some x) × (x.text ≡ y.text)
      name_at xs ys e k y at_y =
          let found = mapped unplaced (slice_get xs k) (unplaced y) (sym (slice_get-map unplaced xs k) ∙ ap (λ zs. slice_get zs k) e ∙ slice_get-map unplaced ys k ∙ ap (option_map unplaced) at_y) in
          (found.0, found.1, ap (λ z. z.text) found.2)
