-- What is decided in a table whose chains of superclasses end, for this crate and its clients: which types are below which, which members
-- a class has, and whether an expression has a type or some node within it breaks a rule. That it isn't both is in TypeLemmas.
use Rattle.std.proofs.Common.{◌≡◌, ◌≢◌, ◌⊎◌, inl, inr, ℕ, zero, suc, List, [], ◌∷◌, Option, None, Some, IsSome, true, length, slice_get, Contains, refl, sym, ap, ◌∙◌, subst, arith}
use Rattle.std.proofs.lemmas.Bool.{false≢true}
use Rattle.std.specs.FinMap.{get}
use Rattle.dj_names.specs.Texts.{Text}
use Rattle.arena_walk.specs.Tree.{Trees, branch, no_trees, tree_and, list_of, children_of}
use Rattle.dj_tree.specs.Trees.{Spot, Expr, ExprForm, OriginalForm, variable, field_of, new_of, cast_to, assignment}
use Rattle.dj_calculus.specs.Tables.{ClassEntry, Table, Heading, heading_of}
use Rattle.dj_calculus.specs.Subclasses.{object, Exists, HasSuperclass, Steps, stay, up, Above, Kind, null_kind, class_kind, Below, null_below, same, below_object, above, Nearest, own, inherited, MethodOf}
use Rattle.dj_calculus.specs.Typing.{Home, parameter_type, Arguments, call_with, Types, AllBelow, none_below, and_below}
use Rattle.dj_calculus.specs.Typing.{type_of_variable, type_of_this, type_of_null, type_of_new, type_of_cast, type_of_field, type_of_assignment, type_of_call, type_of_original}
use Rattle.dj_calculus.specs.Expressions.{takes, are_expressions, IsExpression}
use Rattle.dj_calculus.specs.BodyRules.{place_of, itself, deeper, HasType, HaveTypes, HasField, HasMethod, WrongArgument, NodeRule, BreaksWithin}
use Rattle.dj_calculus.specs.BodyRules.{unknown_variable, unknown_class_new, unknown_class_cast, no_field, no_field_assigned, no_method, number_of_call, number_of_original, argument_of_call, argument_of_original, assigned_type, unrelated_cast, field_of_null, method_of_null, assignment_of_null}
use Rattle.dj_calculus.proofs.Members.{either, among_others}
use Rattle.dj_calculus.proofs.Chains.{Ends, none_or_value, one_superclass}
use Rattle.dj_calculus.proofs.ExpressionForms.{Formed, a_variable, a_this, a_null, a_new, a_cast, a_field, an_assignment, a_call, an_original, formed, both_of}
use Rattle.dj_calculus.proofs.DisjointDeltas.{same_or_not}

abbrev pub Decided : Type 0 → Type 0
Decided P = P ⊎ (¬ P)

not_none : {X : Type 0} {G : Type 0} (o : Option X) (x : X) → o ≡ None → o ≡ Some x → G
not_none o x p q = absurd cc

texts_decided : (k j : Text) → Decided (k ≡ j)
texts_decided k j = same_or_not _ k j refl

some_decided : {X : Type 0} (o : Option X) → Decided (IsSome o)
some_decided None = inr (λ is. false≢true is)
some_decided (Some x) = inl refl

pub exists_decided : (t : Table) (c : Text) → Decided (Exists t c)
exists_decided t c =
    either (texts_decided c object) (λ is. inl (inl is))
    (λ other. either (some_decided (get t c)) (λ there. inl (inr there)) (λ missing. inr (λ exists. either exists other missing)))

pub holds : {P : Type 0} → Decided P → ¬ (¬ P) → P
holds (inl p) not_not = p
holds (inr not) not_not = absurd (not_not not)

-- ---- along a chain that ends

module _ (t : Table) (top : Text) (no_top : get t top ≡ None) where
  reaches_decided : (c d : Text) → Steps t c top → Decided (Steps t c d)
  reaches_decided c d stay =
      either (texts_decided top d) (λ is. inl (subst (λ x. Steps t top x) is stay)) (λ other. inr (λ steps. beyond steps other))
    where
      beyond : {e : Text} → Steps t top e → ¬ (top ≡ e) → ⊥
      beyond stay other = other refl
      beyond (up has steps) other = not_none (get t top) has.entry no_top has.there
  reaches_decided c d (up {d = x} has steps) =
      either (texts_decided c d) (λ is. inl (subst (λ y. Steps t c y) is stay))
      (λ other. either (reaches_decided x d steps) (λ on. inl (up has on)) (λ off. inr (λ all. further all other off)))
    where
      further : {e : Text} → Steps t c e → ¬ (c ≡ e) → ¬ (Steps t x e) → ⊥
      further stay other off = other refl
      further {e = e} (up {d = y} has_y rest) other off = off (subst (λ z. Steps t z e) (one_superclass t c y x has_y has) rest)

  above_from : (c d : Text) → Steps t c top → Decided (Above t c d)
  above_from c d stay = inr (λ over. not_none (get t top) over.1.entry no_top over.1.there)
  above_from c d (up {d = x} has steps) =
      either (reaches_decided x d steps) (λ on. inl (x, has, on)) (λ off. inr (λ over. off (subst (λ z. Steps t z d) (one_superclass t c _ x over.1 has) over.2)))

  module _ {X : Type 0} (member : ClassEntry → Option X) where
    abbrev Found : Text → Type 0
    Found c = (x : X) × ((d : Text) × Nearest t member c d x)

    not_at_top : (d : Text) (x : X) → Nearest t member top d x → ⊥
    not_at_top d x (own is has) = not_none (get t top) _ no_top is
    not_at_top d x (inherited is lacks more) = not_none (get t top) _ no_top is

    same_entry : (c : Text) (a b : ClassEntry) → get t c ≡ Some a → get t c ≡ Some b → a ≡ b
    same_entry c a b p q = cc

    further_up : (c p d : Text) (x : X) (has : HasSuperclass t c p) → member has.entry ≡ None → Nearest t member c d x → (e : Text) × Nearest t member p e x
    further_up c p d x has lacks (own {entry = e} is found) = not_none (member e) x (rw (same_entry c e has.entry is has.there) lacks) found
    further_up c p d x has lacks (inherited {d = o} {entry = e} is nothing more) =
        (o, subst (λ y. Nearest t member y o x) (ap (λ y. y.parent.text) (same_entry c e has.entry is has.there) ∙ has.parent) more)

    nearest_from : (c : Text) → Steps t c top → Decided (Found c)
    nearest_from c stay = inr (λ found. not_at_top found.1.0 found.0 found.1.1)
    nearest_from c (up {d = p} has steps) =
        either (none_or_value (member has.entry))
        (λ lacks. either (nearest_from p steps)
        (λ found. inl (found.0, (found.1.0, inherited has.there lacks (subst (λ y. Nearest t member y found.1.0 found.0) (sym has.parent) found.1.1))))
        (λ nothing. inr (λ found. let more = further_up c p found.1.0 found.0 has lacks found.1.1 in nothing (found.0, more))))
        (λ has_it. inl (has_it.0, (c, own has.there has_it.1)))

-- ---- in a table whose chains end

-- the expression has a type, or some node within it breaks a rule
abbrev pub TypedOrBroken : Table → Home → Expr → Type 0
TypedOrBroken t home e = HasType t home e ⊎ ((rule : ℕ) × ((at : ℕ) × BreaksWithin t home e rule at))

-- it has a type, or breaks a rule itself
abbrev pub TypeOrRule : Table → Home → Expr → Type 0
TypeOrRule t home e = HasType t home e ⊎ ((rule : ℕ) × ((at : ℕ) × NodeRule t home e rule at))

module _ (t : Table) (ends : (c : Text) → Ends t c) where
  pub above_decided : (c d : Text) → Decided (Above t c d)
  above_decided c d = let end = ends c in above_from t end.0 end.2 c d end.1

  below_cases : (c d : Text) → Below t (class_kind c) (class_kind d) → (c ≡ d) ⊎ ((object ≡ d) ⊎ Above t c d)
  below_cases c d (same a) = inl refl
  below_cases c d (below_object a) = inr (inl refl)
  below_cases c d (above x y is) = inr (inr is)

  pub below_decided : (a b : Kind) → Decided (Below t a b)
  below_decided null_kind b = inl (null_below b)
  below_decided (class_kind c) null_kind = inr (λ below. elim below [ ])
  below_decided (class_kind c) (class_kind d) =
      either (texts_decided c d) (λ is. inl (subst (λ x. Below t (class_kind c) (class_kind x)) is (same (class_kind c))))
      (λ other. either (texts_decided object d) (λ is. inl (subst (λ x. Below t (class_kind c) (class_kind x)) is (below_object (class_kind c))))
      (λ not_object. either (above_decided c d) (λ over. inl (above c d over))
      (λ not_above. inr (λ below. either (below_cases c d below) other (λ more. either more not_object not_above)))))

  pub field_decided : (c f : Text) → Decided (HasField t c f)
  field_decided c f =
      let end = ends c in
      either (nearest_from t end.0 end.2 (λ entry. get entry.fields f) c end.1)
      (λ found. inl (found.0.kind.text, record { owner = found.1.0; field = found.0; nearest = found.1.1; has = refl }))
      (λ nothing. inr (λ has. nothing (has.1.field, (has.1.owner, has.1.nearest))))

  pub method_decided : (c m : Text) → Decided (HasMethod t c m)
  method_decided c m =
      let end = ends c in
      either (nearest_from t end.0 end.2 (λ entry. get entry.methods m) c end.1)
      (λ found. inl (heading_of found.0.signature, record { owner = found.1.0; method = found.0; nearest = found.1.1; has = refl }))
      (λ nothing. inr (λ has. nothing (has.1.method, (has.1.owner, has.1.nearest))))

  module _ (home : Home) where
    -- all arguments have types
    data Typed : Arguments → Type 0 where
      no_more : Typed no_trees
      typed_and : {e : Expr} {arguments : Arguments} → HasType t home e → Typed arguments → Typed (tree_and e arguments)

    have_types : (arguments : Arguments) → Typed arguments → HaveTypes t home arguments
    have_types arguments no_more k d low = absurd (omega arith)
    have_types arguments (typed_and has more) zero d low = has
    have_types arguments (typed_and {arguments = rest} has more) (suc k) d low = have_types rest more k d (omega arith)

    each_typed : (arguments : Arguments) → ((part : Expr) → Contains (list_of arguments) part → HasType t home part) → Typed arguments
    each_typed no_trees has = no_more
    each_typed (tree_and e es) has = typed_and (has e (0, omega arith, refl)) (each_typed es (λ part of. has part (among_others e part (list_of es) of)))

    -- an argument that doesn't fit
    record Misfit (arguments : Arguments) (parameters : List Text) : Type 0 where
      pub e : Expr
      pub number : ℕ
      pub argument : slice_get (list_of arguments) number ≡ Some e
      pub parameter : Text
      pub its : slice_get parameters number ≡ Some parameter
      pub kind : Kind
      pub types : Types t home e kind
      pub wrong : ¬ (Below t kind (class_kind parameter))

    one_argument_more : (e : Expr) (arguments : Arguments) (u : Text) (parameters : List Text) → Misfit arguments parameters → Misfit (tree_and e arguments) (u ∷ parameters)
    one_argument_more e arguments u parameters m =
        record { e = m.e; number = suc m.number; argument = m.argument; parameter = m.parameter; its = m.its; kind = m.kind; types = m.types; wrong = m.wrong }

    arguments_decided : (arguments : Arguments) (parameters : List Text) → Typed arguments → length (list_of arguments) ≡ length parameters
        → AllBelow t home arguments parameters ⊎ Misfit arguments parameters
    arguments_decided arguments [] no_more long = inl none_below
    arguments_decided arguments (u ∷ parameters) no_more long = absurd (omega arith)
    arguments_decided arguments [] (typed_and has more) long = absurd (omega arith)
    arguments_decided arguments (u ∷ parameters) (typed_and {e = e} {arguments = rest} has more) long =
        either (below_decided has.0 (class_kind u))
        (λ below. either (arguments_decided rest parameters more (omega arith)) (λ all. inl (and_below has.1 below all)) (λ m. inr (one_argument_more e rest u parameters m)))
        (λ wrong. inr (record { e = e; number = 0; argument = refl; parameter = u; its = refl; kind = has.0; types = has.1; wrong = wrong }))

    misfit_wrong : (arguments : Arguments) (parameters : List Text) → Typed arguments → length (list_of arguments) ≡ length parameters
        → (m : Misfit arguments parameters) → WrongArgument t home arguments parameters m.e
    misfit_wrong arguments parameters typed long m =
        record { typed = have_types arguments typed; count = long; number = m.number; argument = m.argument; parameter = m.parameter; its = m.its; kind = m.kind; types = m.types; wrong = m.wrong }

    lengths_decided : (a b : ℕ) → (a ≡ b) ⊎ (a ≢ b)
    lengths_decided a b = grind arith

    type_variable : (x : Spot) → TypeOrRule t home (variable x)
    type_variable x =
        either (none_or_value (parameter_type home x.text)) (λ nothing. inr (14, (x.at, unknown_variable nothing))) (λ found. inl (class_kind found.0, type_of_variable found.1))

    type_new : (d : Spot) → TypeOrRule t home (new_of d)
    type_new d =
        either (exists_decided t d.text) (λ exists. inl (class_kind d.text, type_of_new exists)) (λ missing. inr (15, (d.at, unknown_class_new missing)))

    type_cast : (d : Spot) (e : Expr) → HasType t home e → TypeOrRule t home (cast_to d e)
    type_cast d e has =
        either (exists_decided t d.text)
        (λ exists. either (below_decided has.0 (class_kind d.text)) (λ below. inl (class_kind d.text, type_of_cast exists has.1 (inl below)))
        (λ not_below. either (below_decided (class_kind d.text) has.0) (λ over. inl (class_kind d.text, type_of_cast exists has.1 (inr over)))
        (λ not_above. inr (22, (d.at, unrelated_cast has.0 has.1 exists not_below not_above)))))
        (λ missing. inr (15, (d.at, unknown_class_cast has missing)))

    type_field : (e : Expr) (f : Spot) (a : Kind) → Types t home e a → TypeOrRule t home (field_of e f)
    type_field e f null_kind types = inr (23, (f.at, field_of_null types))
    type_field e f (class_kind c) types =
        either (field_decided c f.text) (λ found. inl (class_kind found.0, type_of_field types found.1)) (λ missing. inr (16, (f.at, no_field c types missing)))

    type_assignment : (e v : Expr) (f : Spot) (a : Kind) → Types t home e a → HasType t home v → TypeOrRule t home (assignment e f v)
    type_assignment e v f null_kind types value = inr (23, (f.at, assignment_of_null types value))
    type_assignment e v f (class_kind c) types value =
        either (field_decided c f.text)
        (λ found. either (below_decided value.0 (class_kind found.0)) (λ below. inl (class_kind found.0, type_of_assignment types found.1 value.1 below))
        (λ wrong. inr (20, (f.at, assigned_type c found.0 value.0 types found.1 value.1 wrong))))
        (λ missing. inr (16, (f.at, no_field_assigned c types value missing)))

    type_arguments : (e : Expr) (m : Spot) (arguments : Arguments) (c : Text) (heading : Heading) → Types t home e (class_kind c)
        → MethodOf t c m.text heading → Typed arguments → TypeOrRule t home (call_with e m arguments)
    type_arguments e m arguments c heading types has typed =
        either (lengths_decided (length (list_of arguments)) (length heading.parameters))
        (λ long. either (arguments_decided arguments heading.parameters typed long) (λ all. inl (class_kind heading.result, type_of_call types has all))
        (λ misfit. inr (19, (place_of misfit.e, argument_of_call c heading misfit.e types has (misfit_wrong arguments heading.parameters typed long misfit)))))
        (λ other. inr (18, (m.at, number_of_call c heading types has (record { typed = have_types arguments typed; count = other }))))

    type_call : (e : Expr) (m : Spot) (arguments : Arguments) (a : Kind) → Types t home e a → Typed arguments → TypeOrRule t home (call_with e m arguments)
    type_call e m arguments null_kind types typed = inr (23, (m.at, method_of_null types (have_types arguments typed)))
    type_call e m arguments (class_kind c) types typed =
        either (method_decided c m.text) (λ found. type_arguments e m arguments c found.0 types found.1 typed)
        (λ missing. inr (17, (m.at, no_method c types (have_types arguments typed) missing)))

    type_original : (at : ℕ) (arguments : Arguments) → Typed arguments → TypeOrRule t home (branch (OriginalForm at) arguments)
    type_original at arguments typed =
        either (lengths_decided (length (list_of arguments)) (length home.heading.parameters))
        (λ long. either (arguments_decided arguments home.heading.parameters typed long) (λ all. inl (class_kind home.heading.result, type_of_original all))
        (λ misfit. inr (19, (place_of misfit.e, argument_of_original misfit.e (misfit_wrong arguments home.heading.parameters typed long misfit)))))
        (λ other. inr (18, (at, number_of_original (record { typed = have_types arguments typed; count = other }))))

    abbrev parts_of : Expr → Trees ExprForm
    parts_of (branch form parts) = parts

    type_node : (e : Expr) → Formed e → Typed (parts_of e) → TypeOrRule t home e
    type_node e (a_variable {x = x}) typed = type_variable x
    type_node e a_this typed = inl (class_kind home.class, type_of_this)
    type_node e a_null typed = inl (null_kind, type_of_null)
    type_node e (a_new {d = d}) typed = type_new d
    type_node e (a_cast {d = d} {e = v} is) (typed_and has more) = type_cast d v has
    type_node e (a_field {e = v} {f = f} is) (typed_and has more) = type_field v f has.0 has.1
    type_node e (an_assignment {e = u} {v = v} {f = f} is its) (typed_and has (typed_and value more)) = type_assignment u v f has.0 has.1 value
    type_node e (a_call {e = v} {m = m} {arguments = es} is are) (typed_and has more) = type_call v m es has.0 has.1 more
    type_node e (an_original {at = at} {arguments = es} are) typed = type_original at es typed

    -- a node whose parts have types has a type or breaks a rule
    pub type_or_rule : (e : Expr) → IsExpression e → ((part : Expr) → Contains (children_of e) part → HasType t home part) → TypeOrRule t home e
    type_or_rule (branch form parts) is has = type_node (branch form parts) (formed (branch form parts) is) (each_typed parts has)

    abbrev BrokenPart : Arguments → Type 0
    BrokenPart es = (part : Expr) × (Contains (list_of es) part × ((rule : ℕ) × ((at : ℕ) × BreaksWithin t home part rule at)))

    from_node : (e : Expr) → TypeOrRule t home e → TypedOrBroken t home e
    from_node e (inl has) = inl has
    from_node e (inr b) = inr (b.0, (b.1.0, record { node = e; within = itself; breaks = b.1.1 }))

    from_parts : (e : Expr) → IsExpression e → Typed (parts_of e) ⊎ BrokenPart (parts_of e) → TypedOrBroken t home e
    from_parts e is (inl typed) = from_node e (type_node e (formed e is) typed)
    from_parts (branch form parts) is (inr b) =
        let it = b.1.1.1.1 in
        inr (b.1.1.0, (b.1.1.1.0, record { node = it.node; within = deeper it.within b.1.0; breaks = it.breaks }))

    with_part : (e : Expr) (es : Arguments) → TypedOrBroken t home e → Typed es ⊎ BrokenPart es → Typed (tree_and e es) ⊎ BrokenPart (tree_and e es)
    with_part e es (inr b) rest = inr (e, ((0, omega arith, refl), b))
    with_part e es (inl has) (inl typed) = inl (typed_and has typed)
    with_part e es (inl has) (inr b) = inr (b.0, (among_others e b.0 (list_of es) b.1.0, b.1.1))

    mutual
      -- an expression has a type, or some node within it breaks a rule
      pub typed_or_broken : (e : Expr) → IsExpression e → TypedOrBroken t home e
      typed_or_broken (branch form parts) is =
          from_parts (branch form parts) is (parts_typed_or_broken parts (both_of (takes form parts) (are_expressions parts) is).1)

      parts_typed_or_broken : (es : Arguments) → are_expressions es ≡ true → Typed es ⊎ BrokenPart es
      parts_typed_or_broken no_trees are = inl no_more
      parts_typed_or_broken (tree_and e es) are =
          let both = both_of _ (are_expressions es) are in
          with_part e es (typed_or_broken e both.0) (parts_typed_or_broken es both.1)
