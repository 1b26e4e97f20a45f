-- What holds of each name that a source says holds of each name that its products say. For clients: `source_says` (from the tokens to the
-- source) and `product_says` (from the source to its products).
use Rattle.std.proofs.Common.{◌≡◌, ℕ, List, [], ◌∷◌, ◌++◌, slice_index_or, Option, Some, None, Contains, codes, refl, ap, subst, arith}
use Rattle.std.specs.List.{All, flat_map, filter_map}
use Rattle.std.specs.FinMap.{entries}
use Rattle.std.proofs.lemmas.List.Elements.{Contains-append_left, Contains-append_right}
use Rattle.dj_names.specs.Texts.{Text}
use Rattle.dj_lexer.specs.Symbols.{Symbol}
use Rattle.dj_lexer.specs.declared.token.Dialect.{Dialect}
use Rattle.dj_lexer.specs.declared.token.Dialect.TheVariants.{Line}
use Rattle.arena_walk.specs.Tree.{Trees, branch, no_trees, tree_and, trees_of, nodes, nodes_each}
use Rattle.dj_tree.specs.Trees.{Spot, Expr, ExprForm, VariableForm, ThisForm, NullForm, FieldForm, CallForm, NewForm, CastForm, AssignForm, OriginalForm}
use Rattle.dj_tree.specs.Trees.{Field, Method, Class, MemberOperation, adds_field, adds_method, modifies_method, removes_field, removes_method, Change, Operation, adds_class, modifies_class, removes_class, Delta, Source}
use Rattle.dj_tree.specs.Words.{named, IsName}
use Rattle.dj_tree.specs.Repeats as repeats
use Rattle.dj_tree.specs.Repeats.{Many, AfterComma, after_comma, Listing, nothing, listed}
use Rattle.dj_tree.specs.ExprGrammar.{ExprLevel, SpellsAt, assigned, one_unary, cast, one_postfix, field, call, one_primary, this_word, null_word, variable_name, original, new_object, in_parentheses}
use Rattle.dj_tree.specs.ExprGrammar.{SpellsArguments, no_arguments, some_arguments, SpellsEach, one, next}
use Rattle.dj_tree.specs.ClassGrammar as classes
use Rattle.dj_tree.specs.ClassGrammar.{SpellsTyped, typed, SpellsMethod, Member, field_member, method_member, SpellsMember, fields_of, methods_of, SpellsOptional, omitted, given, SpellsClass}
use Rattle.dj_tree.specs.LineGrammar as lines
use Rattle.dj_tree.specs.LineGrammar.{adds_member, SpellsMemberOperation, SpellsOperation, SpellsDelta, SpellsSource}
use Rattle.dj_calculus.specs.Configurations.{Configuration}
use Rattle.dj_calculus.specs.Parts.{chain}
use Rattle.dj_calculus.specs.Contents.{operations_of, classes_of, changes_of, added_by, change_by, method_added, method_modified, new_methods}
use Rattle.dj_calculus.specs.Accepted.{IsAccepted}
use Rattle.dj_calculus.specs.Tables.{Body, FieldEntry, MethodEntry, Table, texts_of}
use Rattle.dj_calculus.specs.Entries.{signature_of, body_of, method_entry, superclass_of}
use Rattle.dj_calculus.specs.Operations.{modify}
use Rattle.dj_calculus.specs.Products.{Product}
use Rattle.dj_calculus.specs.Subclasses.{object}
use Rattle.dj_calculus.specs.FlatTables.{names_in_form, names_in_body, names_in_field, names_in_method, names_in_class}
use Rattle.dj_calculus.specs.TableForms.{EachBody}
use Rattle.dj_calculus.proofs.MapLemmas.{entry_found}
use Rattle.dj_calculus.proofs.Members.{no_element, first_or_other, among_others, either, only_one, in_front_or_behind, mapped_from, from_flat, filtered_from}
use Rattle.dj_calculus.proofs.FormedProducts.{modified, modified_bodies}
use Rattle.dj_calculus_laws.proofs.OnceProofs.{same_default}
use Rattle.dj_calculus.proofs.ProductsKeep.{Declares, made_is}

-- P of each element
all_of : {X : Type 0} (P : X → Type 0) (xs : List X) → ((x : X) → Contains xs x → P x) → All P xs
all_of P xs all k d low = let x = slice_index_or xs k d in all x (k, low, same_default xs k x d low)

module _ (P : Text → Type 0) where
  -- P of the name in a node
  abbrev pub FormSays : ExprForm → Type 0
  FormSays (VariableForm x) = P x.text
  FormSays (ThisForm at) = Unit {0}
  FormSays (NullForm at) = Unit {0}
  FormSays (FieldForm f) = P f.text
  FormSays (CallForm m) = P m.text
  FormSays (NewForm c) = P c.text
  FormSays (CastForm c) = P c.text
  FormSays (AssignForm f) = P f.text
  FormSays (OriginalForm at) = Unit {0}

  -- and of those in an expression
  abbrev mutual
    pub ExprSays : Expr → Type 0
    ExprSays (branch form parts) = FormSays form × EachSays parts

    pub EachSays : Trees ExprForm → Type 0
    EachSays no_trees = Unit {0}
    EachSays (tree_and e es) = ExprSays e × EachSays es

  pub record FieldSays (f : Field) : Type 0 where
    pub kind : P f.kind.text
    pub name : P f.name.text

  pub record MethodSays (m : Method) : Type 0 where
    pub kind : P m.kind.text
    pub name : P m.name.text
    pub parameters : (p : Field) → Contains m.parameters p → FieldSays p
    pub body : ExprSays m.body

  pub record ClassSays (c : Class) : Type 0 where
    pub name : P c.name.text
    pub parent : (p : Spot) → c.parent ≡ Some p → P p.text
    pub fields : (f : Field) → Contains c.fields f → FieldSays f
    pub methods : (m : Method) → Contains c.methods m → MethodSays m

  abbrev pub MemberSays : MemberOperation → Type 0
  MemberSays (adds_field f) = FieldSays f
  MemberSays (adds_method m) = MethodSays m
  MemberSays (modifies_method m) = MethodSays m
  MemberSays (removes_field f) = Unit {0}
  MemberSays (removes_method m) = Unit {0}

  pub record ChangeSays (c : Change) : Type 0 where
    pub parent : (p : Spot) → c.parent ≡ Some p → P p.text
    pub members : (m : MemberOperation) → Contains c.members m → MemberSays m

  abbrev pub OperationSays : Operation → Type 0
  OperationSays (adds_class c) = ClassSays c
  OperationSays (modifies_class c) = ChangeSays c
  OperationSays (removes_class c) = Unit {0}

  -- P of each name that a source declares with its classes and members
  abbrev pub SourceSays : Source → Type 0
  SourceSays source = (delta : Delta) (x : Operation) → Contains source.deltas delta → Contains delta.operations x → OperationSays x

  -- ---- from the tokens to the source

  module _ (tokens : List Symbol) (said : (x : Spot) → IsName x → Contains tokens (named x) → P x.text) where
    -- the symbols are tokens
    record Within (s : List Symbol) : Type 0 where
      pub inside : (y : Symbol) → Contains s y → Contains tokens y

    in_front : (s t : List Symbol) → Within (s ++ t) → Within s
    in_front s t within = record { inside = λ y has. within.inside y (Contains-append_left s t y has) }

    behind : (s t : List Symbol) → Within (s ++ t) → Within t
    behind s t within = record { inside = λ y has. within.inside y (Contains-append_right s t y has) }

    later : {z : Symbol} {s : List Symbol} → Within (z ∷ s) → Within s
    later {z = z} {s = s} within = record { inside = λ y has. within.inside y (among_others z y s has) }

    first : {z : Symbol} {s : List Symbol} → Within (z ∷ s) → Contains tokens z
    first {z = z} within = within.inside z (0, omega arith, refl)

    each_more : (es : List Expr) (e : Expr) → EachSays (trees_of es) → ExprSays e → EachSays (trees_of (es ++ e ∷ []))
    each_more [] e all is = (is, tt)
    each_more (x ∷ es) e all is = (all.0, each_more es e all.1 is)

    mutual
      expr_says : (d : Dialect) (l : ExprLevel) (s : List Symbol) (e : Expr) → SpellsAt d l s e → Within s → ExprSays e
      expr_says d l s e (assigned {s = front} {t = back} {e = u} {v = v} dot equals f name spells others) within =
          let rest = behind front _ within in
          let named_on = later rest in
          (said f name (first named_on), (expr_says d _ front u spells (in_front front _ within), (expr_says d _ back v others (later (later named_on)), tt)))
      expr_says d l s e (one_unary spells) within = expr_says d _ s e spells within
      expr_says d l s e (cast {s = t} {e = v} opening closing class name spells) within =
          let named_on = later within in
          (said class name (first named_on), (expr_says d _ t v spells (later (later named_on)), tt))
      expr_says d l s e (one_postfix spells) within = expr_says d _ s e spells within
      expr_says d l s e (field {s = t} {e = v} dot f name spells) within =
          (said f name (first (later (behind t _ within))), (expr_says d _ t v spells (in_front t _ within), tt))
      expr_says d l s e (call {s = front} {t = t} {e = v} {arguments = es} dot opening closing m name spells each) within =
          let named_on = later (behind front _ within) in
          (said m name (first named_on), (expr_says d _ front v spells (in_front front _ within), arguments_say d t es each (in_front t _ (later (later named_on)))))
      expr_says d l s e (one_primary spells) within = expr_says d _ s e spells within
      expr_says d l s e (this_word at) within = (tt, tt)
      expr_says d l s e (null_word at) within = (tt, tt)
      expr_says d l s e (variable_name x name) within = (said x name (first within), tt)
      expr_says d l s e (original {t = t} {arguments = es} at opening closing each) within = (tt, arguments_say Line t es each (in_front t _ (later (later within))))
      expr_says d l s e (new_object at opening closing class name) within = (said class name (first (later within)), tt)
      expr_says d l s e (in_parentheses {s = t} opening closing spells) within = expr_says d _ t e spells (in_front t _ (later within))

      arguments_say : (d : Dialect) (s : List Symbol) (es : List Expr) → SpellsArguments d s es → Within s → EachSays (trees_of es)
      arguments_say d s es no_arguments within = tt
      arguments_say d s es (some_arguments each) within = each_says d s es each within

      each_says : (d : Dialect) (s : List Symbol) (es : List Expr) → SpellsEach d s es → Within s → EachSays (trees_of es)
      each_says d s es (one {e = e} spells) within = (expr_says d _ s e spells within, tt)
      each_says d s es (next {s = front} {t = t} {es = before} {e = e} comma each spells) within =
          each_more before e (each_says d front before each (in_front front _ within)) (expr_says d _ t e spells (later (behind front _ within)))

    -- each of many pieces
    many_say : {X : Type 0} (Spells : List Symbol → X → Type 0) (Q : X → Type 0) (each : (s : List Symbol) (x : X) → Spells s x → Within s → Q x) (s : List Symbol) (xs : List X)
        → Many Spells s xs → Within s → (x : X) → Contains xs x → Q x
    many_say Spells Q each s xs repeats.none within x has = no_element x has
    many_say Spells Q each s xs (repeats.more {front = front} {rest = rest} {x = y} {xs = ys} spells others) within x has =
        either (first_or_other y x ys has) (λ same. subst Q same (each front y spells (in_front front rest within)))
        (λ behind_it. many_say Spells Q each rest ys others (behind front rest within) x behind_it)

    typed_says : (s : List Symbol) (f : Field) → SpellsTyped s f → Within s → FieldSays f
    typed_says s f (typed kind x kind_name name) within =
        record { kind = said kind kind_name (first within); name = said x name (first (later within)) }

    after_comma_says : (s : List Symbol) (f : Field) → AfterComma SpellsTyped s f → Within s → FieldSays f
    after_comma_says s f (after_comma {piece = piece} comma spells) within = typed_says piece f spells (later within)

    listing_says : (s : List Symbol) (fs : List Field) → Listing SpellsTyped s fs → Within s → (f : Field) → Contains fs f → FieldSays f
    listing_says s fs nothing within f has = no_element f has
    listing_says s fs (listed {first = front} {others = others} {x = x} {xs = xs} spells many) within f has =
        either (first_or_other x f xs has) (λ same. subst FieldSays same (typed_says front x spells (in_front front others within)))
        (λ behind_it. many_say (AfterComma SpellsTyped) FieldSays after_comma_says others xs many (behind front others within) f behind_it)

    method_says : (d : Dialect) (s : List Symbol) (m : Method) → SpellsMethod d s m → Within s → MethodSays m
    method_says d s m (classes.method {head = head} {listed = list} {value = value} {declared = declared} {parameters = parameters} {body = body} a b c e f g spells parameters_spell body_spells) within =
        let its = typed_says head declared spells (in_front head _ within) in
        let rest = later (behind head _ within) in
        let block = later (later (later (behind list _ rest))) in
        record {
          kind = its.kind;
          name = its.name;
          parameters = listing_says list parameters parameters_spell (in_front list _ rest);
          body = expr_says d _ value body body_spells (in_front value _ block);
        }

    abbrev InClass : Member → Type 0
    InClass (field_member f) = FieldSays f
    InClass (method_member m) = MethodSays m

    member_says : (d : Dialect) (s : List Symbol) (m : Member) → SpellsMember d s m → Within s → InClass m
    member_says d s m (classes.field {head = head} {declared = declared} semicolon spells) within = typed_says head declared spells (in_front head _ within)
    member_says d s m (classes.a_method {m = x} spells) within = method_says d s x spells within

    field_among : (members : List Member) (f : Field) → Contains (fields_of members) f → Contains members (field_member f)
    field_among [] f has = no_element f has
    field_among (field_member x ∷ rest) f has =
        either (first_or_other x f (fields_of rest) has) (λ same. (0, omega arith, ap field_member same)) (λ behind_it. among_others _ _ rest (field_among rest f behind_it))
    field_among (method_member m ∷ rest) f has = among_others _ _ rest (field_among rest f has)

    method_among : (members : List Member) (m : Method) → Contains (methods_of members) m → Contains members (method_member m)
    method_among [] m has = no_element m has
    method_among (field_member f ∷ rest) m has = among_others _ _ rest (method_among rest m has)
    method_among (method_member x ∷ rest) m has =
        either (first_or_other x m (methods_of rest) has) (λ same. (0, omega arith, ap method_member same)) (λ behind_it. among_others _ _ rest (method_among rest m behind_it))

    optional_says : (keyword : List ℕ) (s : List Symbol) (o : Option Spot) → SpellsOptional keyword s o → Within s → (p : Spot) → o ≡ Some p → P p.text
    optional_says keyword s o omitted within p is = absurd cc
    optional_says keyword s o (given at x name) within p is = let same : x ≡ p = cc in subst (λ y. P y.text) same (said x name (first (later within)))

    class_says : (d : Dialect) (s : List Symbol) (c : Class) → SpellsClass d s c → Within s → ClassSays c
    class_says d s c (classes.class {extension = extension} {body = body} {parent = parent} {members = members} at opening closing name is_name optional many) within =
        let named_on = later within in
        let rest = later named_on in
        let block = later (behind extension _ rest) in
        let each = many_say (SpellsMember d) InClass (member_says d) body members many (in_front body _ block) in
        record {
          name = said name is_name (first named_on);
          parent = optional_says (codes "extends") extension parent optional (in_front extension _ rest);
          fields = λ f has. each (field_member f) (field_among members f has);
          methods = λ m has. each (method_member m) (method_among members m has);
        }

    added_says : (m : Member) → InClass m → MemberSays (adds_member m)
    added_says (field_member f) is = is
    added_says (method_member m) is = is

    change_says : (s : List Symbol) (m : MemberOperation) → SpellsMemberOperation s m → Within s → MemberSays m
    change_says s m (lines.adds {s = t} {m = x} at spells) within = added_says x (member_says Line t x spells (later within))
    change_says s m (lines.modifies {s = t} {m = x} at spells) within = method_says Line t x spells (later within)
    change_says s m (lines.field_removed a b c f name) within = tt
    change_says s m (lines.method_removed a b c f name) within = tt

    operation_says : (s : List Symbol) (x : Operation) → SpellsOperation s x → Within s → OperationSays x
    operation_says s x (lines.class_added {s = t} {c = c} at spells) within = class_says Line t c spells (later within)
    operation_says s x (lines.class_modified {extension = extension} {body = body} {parent = parent} {members = members} a b opening closing c name optional many) within =
        let rest = later (later (later within)) in
        record {
          parent = optional_says (codes "extends") extension parent optional (in_front extension _ rest);
          members = many_say SpellsMemberOperation MemberSays change_says body members many (in_front body _ (later (behind extension _ rest)));
        }
    operation_says s x (lines.class_removed a b semicolon c name) within = tt

    abbrev DeltaSays : Delta → Type 0
    DeltaSays delta = (x : Operation) → Contains delta.operations x → OperationSays x

    delta_says : (s : List Symbol) (delta : Delta) → SpellsDelta s delta → Within s → DeltaSays delta
    delta_says s delta (lines.delta {body = body} {operations = operations} at opening closing d name many) within =
        many_say SpellsOperation OperationSays operation_says body operations many (in_front body _ (later (later (later within))))

    deltas_say : (s : List Symbol) (source : Source) → SpellsSource s source → Within s → SourceSays source
    deltas_say s source (lines.source {listed = names} {condition = condition} {chain = parts} {modules = modules} {deltas = deltas} a b c e f g h title name features valid chained many) within delta x of =
        let formula = later (later (behind names _ (later (later (later (later within)))))) in
        let line = later (behind condition _ formula) in
        many_say SpellsDelta DeltaSays delta_says modules deltas many (later (behind parts _ line)) delta of x

    pub source_says : (source : Source) → SpellsSource tokens source → SourceSays source
    source_says source spells = deltas_say tokens source spells (record { inside = λ y has. has })

  -- ---- from the source to its products

  mutual
    node_says : (e : Expr) (form : ExprForm) → ExprSays e → Contains (nodes e) form → FormSays form
    node_says (branch root parts) form says has =
        either (in_front_or_behind (nodes_each parts) (root ∷ []) form has) (λ below. nodes_say parts form says.1 below)
        (λ here. subst FormSays (only_one root form here) says.0)

    nodes_say : (es : Trees ExprForm) (form : ExprForm) → EachSays es → Contains (nodes_each es) form → FormSays form
    nodes_say no_trees form says has = no_element form has
    nodes_say (tree_and e es) form says has =
        either (in_front_or_behind (nodes e) (nodes_each es) form has) (λ here. node_says e form says.0 here) (λ behind_it. nodes_say es form says.1 behind_it)

  form_name : (form : ExprForm) (n : Text) → FormSays form → Contains (names_in_form form) n → P n
  form_name (VariableForm x) n says has = subst P (only_one x.text n has) says
  form_name (ThisForm at) n says has = no_element n has
  form_name (NullForm at) n says has = no_element n has
  form_name (FieldForm f) n says has = subst P (only_one f.text n has) says
  form_name (CallForm m) n says has = subst P (only_one m.text n has) says
  form_name (NewForm c) n says has = subst P (only_one c.text n has) says
  form_name (CastForm c) n says has = subst P (only_one c.text n has) says
  form_name (AssignForm f) n says has = subst P (only_one f.text n has) says
  form_name (OriginalForm at) n says has = no_element n has

  pub record BodySays (body : Body) : Type 0 where
    pub names : (n : Spot) → Contains body.names n → P n.text
    pub value : ExprSays body.value

  pub record EntrySays (m : Text) (x : MethodEntry) : Type 0 where
    pub name : P m
    pub result : P x.signature.result.text
    pub parameters : (k : Spot) → Contains x.signature.parameters k → P k.text
    pub bodies : EachBody x BodySays

  abbrev pub FieldEntrySays : Text → FieldEntry → Type 0
  FieldEntrySays f x = P f × P x.kind.text

  body_says : (m : Method) → MethodSays m → BodySays (body_of m)
  body_says m says =
      record {
        names = λ n has. let p = mapped_from (λ p. p.name) m.parameters n has in subst (λ x. P x.text) p.2 (says.parameters p.0 p.1).name;
        value = says.body;
      }

  types_say : (m : Method) → MethodSays m → (k : Spot) → Contains (signature_of m).parameters k → P k.text
  types_say m says k has = let p = mapped_from (λ p. p.kind) m.parameters k has in subst (λ x. P x.text) p.2 (says.parameters p.0 p.1).kind

  new_says : (m : Method) → MethodSays m → EntrySays m.name.text (method_entry m)
  new_says m says =
      record {
        name = says.name;
        result = says.kind;
        parameters = types_say m says;
        bodies = λ body has. subst BodySays (only_one (body_of m) body has) (body_says m says);
      }

  modified_says : (m : Method) (old new : MethodEntry) → MethodSays m → modify m old ≡ Some new → EntrySays m.name.text old → EntrySays m.name.text new
  modified_says m old new says e was =
      let signature : signature_of m ≡ new.signature = ap (λ x. x.signature) (modified m old new e).is in
      record {
        name = says.name;
        result = subst (λ s. P s.result.text) signature says.kind;
        parameters = subst (λ s. (k : Spot) → Contains s.parameters k → P k.text) signature (types_say m says);
        bodies = modified_bodies BodySays m old new e (body_says m says) was.bodies;
      }

  module _ (source : Source) (says : SourceSays source) where
    of_source : (x : Operation) → Contains (operations_of source) x → OperationSays x
    of_source x within = let found = from_flat (λ d. d.operations) source.deltas x within in says found.0 x found.1 found.2

    added_class : (x : Operation) (c : Class) → added_by x ≡ Some c → OperationSays x → ClassSays c
    added_class (adds_class d) c e is = let same : d ≡ c = cc in subst ClassSays same is
    added_class (modifies_class d) c e is = absurd cc
    added_class (removes_class d) c e is = absurd cc

    changed_class : (x : Operation) (c : Change) → change_by x ≡ Some c → OperationSays x → ChangeSays c
    changed_class (adds_class d) c e is = absurd cc
    changed_class (modifies_class d) c e is = let same : d ≡ c = cc in subst ChangeSays same is
    changed_class (removes_class d) c e is = absurd cc

    class_of : (c : Class) → Contains (classes_of source) c → ClassSays c
    class_of c within = let found = filtered_from added_by (operations_of source) c within in added_class found.0 c found.2 (of_source found.0 found.1)

    change_of : (c : Change) → Contains (changes_of source) c → ChangeSays c
    change_of c within = let found = filtered_from change_by (operations_of source) c within in changed_class found.0 c found.2 (of_source found.0 found.1)

    method_added_says : (x : MemberOperation) (m : Method) → method_added x ≡ Some m → MemberSays x → MethodSays m
    method_added_says (adds_field f) m e is = absurd cc
    method_added_says (adds_method n) m e is = let same : n ≡ m = cc in subst MethodSays same is
    method_added_says (modifies_method n) m e is = absurd cc
    method_added_says (removes_field f) m e is = absurd cc
    method_added_says (removes_method n) m e is = absurd cc

    method_modified_says : (x : MemberOperation) (m : Method) → method_modified x ≡ Some m → MemberSays x → MethodSays m
    method_modified_says (adds_field f) m e is = absurd cc
    method_modified_says (adds_method n) m e is = absurd cc
    method_modified_says (modifies_method n) m e is = let same : n ≡ m = cc in subst MethodSays same is
    method_modified_says (removes_field f) m e is = absurd cc
    method_modified_says (removes_method n) m e is = absurd cc

    in_change : (pick : MemberOperation → Option Method) → ((x : MemberOperation) (m : Method) → pick x ≡ Some m → MemberSays x → MethodSays m)
        → (m : Method) → Contains (flat_map (λ c. filter_map pick c.members) (changes_of source)) m → MethodSays m
    in_change pick picked m within =
        let found = from_flat (λ c. filter_map pick c.members) (changes_of source) m within in
        let member = filtered_from pick found.0.members m found.2 in
        picked member.0 m member.2 ((change_of found.0 found.1).members member.0 member.1)

    new_method_says : (m : Method) → Contains (new_methods source) m → MethodSays m
    new_method_says m within =
        either (in_front_or_behind (flat_map (λ c. c.methods) (classes_of source)) (flat_map (λ c. filter_map method_added c.members) (changes_of source)) m within)
        (λ of_class. let found = from_flat (λ c. c.methods) (classes_of source) m of_class in (class_of found.0 found.1).methods m found.2)
        (in_change method_added method_added_says m)

    parent_says : P object → (c : Class) (o : Option Spot) → ((p : Spot) → o ≡ Some p → P p.text) → P (superclass_of c.name o).text
    parent_says top c None is = top
    parent_says top c (Some p) is = is p refl

    module _ (top : P object) where
      declares : Declares P (λ p. P p.text) FieldEntrySays EntrySays source
      declares =
          record {
            class_names = λ c of. (class_of c of).name;
            parents = λ c of. parent_says top c c.parent (class_of c of).parent;
            new_parents = λ c p of e. (change_of c of).parent p e;
            fields = λ c f of within. let it = (class_of c of).fields f within in (it.name, it.kind);
            new_fields = λ c f of within. let it = (change_of c of).members (adds_field f) within in (it.name, it.kind);
            methods = λ m of. new_says m (new_method_says m of);
            modified = λ m old new of e. modified_says m old new (in_change method_modified method_modified_says m of) e;
          }

      module _ (accepted : IsAccepted source) (c : Configuration) (t : Table) (product : Product source c t) where
        body_name : (body : Body) (n : Text) → BodySays body → Contains (names_in_body body) n → P n
        body_name body n is has =
            either (in_front_or_behind (texts_of body.names) (flat_map names_in_form (nodes body.value)) n has)
            (λ named. let x = mapped_from (λ z. z.text) body.names n named in subst P x.2 (is.names x.0 x.1))
            (λ in_value. let form = from_flat names_in_form (nodes body.value) n in_value in form_name form.0 n (node_says body.value form.0 is.value form.1) form.2)

        method_name : (m : Text) (x : MethodEntry) (n : Text) → EntrySays m x → Contains (names_in_method (m, x)) n → P n
        method_name m x n is has =
            let types = texts_of x.signature.parameters in
            let bodies = flat_map names_in_body x.bodies in
            either (first_or_other m n (x.signature.result.text ∷ (types ++ bodies)) has) (λ same. subst P same is.name)
            (λ more. either (first_or_other x.signature.result.text n (types ++ bodies) more) (λ same. subst P same is.result)
            (λ rest. either (in_front_or_behind types bodies n rest)
            (λ typed_by. let k = mapped_from (λ z. z.text) x.signature.parameters n typed_by in subst P k.2 (is.parameters k.0 k.1))
            (λ in_body. let body = from_flat names_in_body x.bodies n in_body in body_name body.0 n (is.bodies body.0 body.1) body.2)))

        field_name : (f : Text) (x : FieldEntry) (n : Text) → FieldEntrySays f x → Contains (names_in_field (f, x)) n → P n
        field_name f x n is has =
            either (first_or_other f n (x.kind.text ∷ []) has) (λ same. subst P same is.0) (λ more. subst P (only_one x.kind.text n more) is.1)

        pub product_says : All P (flat_map names_in_class (entries t))
        product_says = all_of P (flat_map names_in_class (entries t)) each
          where
            each : (n : Text) → Contains (flat_map names_in_class (entries t)) n → P n
            each n has =
                let class = from_flat names_in_class (entries t) n has in
                let k = class.0.0 in
                let e = class.0.1 in
                let is = made_is P (λ p. P p.text) FieldEntrySays EntrySays source declares accepted c (chain source) t product k e (entry_found t k e class.1) in
                let fields = flat_map names_in_field (entries e.fields) in
                let methods = flat_map names_in_method (entries e.methods) in
                either (first_or_other k n (e.parent.text ∷ (fields ++ methods)) class.2) (λ same. subst P same is.name)
                (λ more. either (first_or_other e.parent.text n (fields ++ methods) more) (λ same. subst P same is.parent)
                (λ rest. either (in_front_or_behind fields methods n rest)
                (λ in_field. let f = from_flat names_in_field (entries e.fields) n in_field in
                field_name f.0.0 f.0.1 n (is.fields f.0.0 f.0.1 (entry_found e.fields f.0.0 f.0.1 f.1)) f.2)
                (λ in_method. let m = from_flat names_in_method (entries e.methods) n in_method in
                method_name m.0.0 m.0.1 n (is.methods m.0.0 m.0.1 (entry_found e.methods m.0.0 m.0.1 m.1)) m.2)))
