-- What tokens spell weighs no more than these tokens, whatever a token weighs: what each production says are tokens of it.
use Rattle.std.proofs.Common.{◌≡◌, ℕ, ◌+◌, ◌≤◌, List, [], ◌∷◌, ◌++◌, map, Option, codes, refl, ap, ◌∙◌, arith}
use Rattle.std.specs.List.{flat_map}
use Rattle.arena_walk.specs.Tree.{root_of, trees_of, nodes}
use Rattle.dj_lexer.specs.Symbols.{Symbol}
use Rattle.dj_lexer.specs.declared.token.Dialect.{Dialect}
use Rattle.dj_lexer.specs.declared.token.Dialect.TheVariants.{Line, Java}
use Rattle.dj_tree.specs.Words.{word, sign, named}
use Rattle.dj_tree.specs.Repeats as repeats
use Rattle.dj_tree.specs.Repeats.{Many, AfterComma, Listing}
use Rattle.dj_tree.specs.FormulaGrammar as formulas
use Rattle.dj_tree.specs.ExprGrammar as exprs
use Rattle.dj_tree.specs.ClassGrammar as classes
use Rattle.dj_tree.specs.ClassGrammar.{Member, field_member, method_member, fields_of, methods_of, SpellsTyped, SpellsMethod, SpellsMember, SpellsOptional, SpellsClass}
use Rattle.dj_tree.specs.LineGrammar as lines
use Rattle.dj_tree.specs.LineGrammar.{adds_member, SpellsMemberOperation, SpellsOperation, SpellsDelta, SpellsCondition, SpellsItem, SpellsPart, SpellsName, SpellsSource}
use Rattle.dj_tree.specs.Trees.{Spot, Formula, FormulaForm, Expr, Field, Method, Class, MemberOperation, adds_field, adds_method, modifies_method}
use Rattle.dj_tree.specs.Trees.{Operation, adds_class, Delta, Item, Part, Source}
use Rattle.dj_calculus.specs.Formulas.{name_in, names_in}
use Rattle.dj_source_laws.specs.Subtrees.{subtrees}
use Rattle.dj_source_laws.specs.Once.{members_in}
use Rattle.dj_source_laws.specs.Said.{MemberSaid, body_node, OperationSaid, its_class, its_parent, in_member}
use Rattle.dj_source_laws.specs.Said.{Said, a_feature, in_valid, its_after, in_condition, in_delta, JavaSaid}
use Rattle.dj_source_laws.specs.Said.{optional, said_parameter, said_method, said_member, parent_in, said_operation, said_delta, names_in_condition, said_item, said_part, said, said_class, said_java}
use Rattle.dj_source_laws.specs.Places.{token_of_node, member_spot, token_in_member, token_in, token_of, token_in_java}
use Rattle.dj_source_laws.proofs.Weights.{weigh, weigh_append, weigh_map, weigh_flat, weigh_filter_map, weigh_same, heavy, heavy_each, heavy_more, weigh_subtrees, weigh_nodes}

module _ (w : Symbol → ℕ) where
  abbrev spot_weight : Spot → ℕ
  spot_weight x = w (named x)

  -- ---- repetition

  many_weigh : {X : Type 0} (Spells : List Symbol → X → Type 0) (f : X → ℕ) (each : (s : List Symbol) (x : X) → Spells s x → f x ≤ weigh w s) (s : List Symbol) (xs : List X)
      → Many Spells s xs → weigh f xs ≤ weigh w s
  many_weigh Spells f each s xs repeats.none = omega arith
  many_weigh Spells f each s xs (repeats.more {front = front} {rest = rest} {x = x} {xs = ys} first others) =
      omega (arith, weigh_append w front rest, each front x first, many_weigh Spells f each rest ys others)

  after_comma_weighs : {X : Type 0} (Spells : List Symbol → X → Type 0) (f : X → ℕ) (each : (s : List Symbol) (x : X) → Spells s x → f x ≤ weigh w s) (s : List Symbol) (x : X)
      → AfterComma Spells s x → f x ≤ weigh w s
  after_comma_weighs Spells f each s x (repeats.after_comma {piece = piece} comma spells) = omega (arith, each piece x spells)

  listing_weighs : {X : Type 0} (Spells : List Symbol → X → Type 0) (f : X → ℕ) (each : (s : List Symbol) (x : X) → Spells s x → f x ≤ weigh w s) (s : List Symbol) (xs : List X)
      → Listing Spells s xs → weigh f xs ≤ weigh w s
  listing_weighs Spells f each s xs repeats.nothing = omega arith
  listing_weighs Spells f each s xs (repeats.listed {first = first} {others = others} {x = x} {xs = ys} spells rest) =
      omega (arith, weigh_append w first others, each first x spells, many_weigh (AfterComma Spells) f (after_comma_weighs Spells f each) others ys rest)

  -- ---- formulas

  abbrev form_weight : FormulaForm → ℕ
  form_weight form = weigh spot_weight (optional (name_in form))

  abbrev formula_weight : Formula → ℕ
  formula_weight a = heavy (λ (u : Formula). form_weight (root_of u)) a

  names_weight : (a : Formula) → weigh spot_weight (names_in a) ≡ formula_weight a
  names_weight a = weigh_filter_map spot_weight name_in (nodes a) ∙ weigh_nodes form_weight a

  level_weighs : (l : formulas.FormulaLevel) (s : List Symbol) (a : Formula) → formulas.SpellsAt l s a → formula_weight a ≤ weigh w s
  level_weighs l s a (formulas.same {s = s'} {t = t} {a = b} {b = c} at front back) =
      omega (arith, weigh_append w s' (sign (codes "<->") at ∷ t), level_weighs _ s' b front, level_weighs _ t c back)
  level_weighs l s a (formulas.one_implies spells) = level_weighs _ s a spells
  level_weighs l s a (formulas.implies {s = s'} {t = t} {a = b} {b = c} at front back) =
      omega (arith, weigh_append w s' (sign (codes "->") at ∷ t), level_weighs _ s' b front, level_weighs _ t c back)
  level_weighs l s a (formulas.one_or spells) = level_weighs _ s a spells
  level_weighs l s a (formulas.or {s = s'} {t = t} {a = b} {b = c} at front back) =
      omega (arith, weigh_append w s' (sign (codes "|") at ∷ t), level_weighs _ s' b front, level_weighs _ t c back)
  level_weighs l s a (formulas.or_doubled {s = s'} {t = t} {a = b} {b = c} at front back) =
      omega (arith, weigh_append w s' (sign (codes "||") at ∷ t), level_weighs _ s' b front, level_weighs _ t c back)
  level_weighs l s a (formulas.one_and spells) = level_weighs _ s a spells
  level_weighs l s a (formulas.and {s = s'} {t = t} {a = b} {b = c} at front back) =
      omega (arith, weigh_append w s' (sign (codes "&") at ∷ t), level_weighs _ s' b front, level_weighs _ t c back)
  level_weighs l s a (formulas.and_doubled {s = s'} {t = t} {a = b} {b = c} at front back) =
      omega (arith, weigh_append w s' (sign (codes "&&") at ∷ t), level_weighs _ s' b front, level_weighs _ t c back)
  level_weighs l s a (formulas.one_not spells) = level_weighs _ s a spells
  level_weighs l s a (formulas.not {s = s'} {a = b} at spells) = omega (arith, level_weighs _ s' b spells)
  level_weighs l s a (formulas.true_word at) = omega arith
  level_weighs l s a (formulas.false_word at) = omega arith
  level_weighs l s a (formulas.feature_name x name) = omega arith
  level_weighs l s a (formulas.in_parentheses {s = s'} {a = b} opening closing spells) =
      omega (arith, weigh_append w s' (sign (codes ")") closing ∷ []), level_weighs _ s' b spells)

  formula_weighs : (s : List Symbol) (a : Formula) → formulas.SpellsFormula s a → weigh spot_weight (names_in a) ≤ weigh w s
  formula_weighs s a spells = omega (arith, names_weight a, level_weighs _ s a spells)

  -- ---- expressions

  abbrev node_weight : Expr → ℕ
  node_weight e = w (token_of_node e)

  mutual
    expr_weighs : (d : Dialect) (l : exprs.ExprLevel) (s : List Symbol) (e : Expr) → exprs.SpellsAt d l s e → heavy node_weight e ≤ weigh w s
    expr_weighs d l s e (exprs.assigned {s = s'} {t = t} {e = u} {v = v} dot equals f name front back) =
        omega (arith, weigh_append w s' (sign (codes ".") dot ∷ named f ∷ sign (codes "=") equals ∷ t), expr_weighs d _ s' u front, expr_weighs d _ t v back)
    expr_weighs d l s e (exprs.one_unary spells) = expr_weighs d _ s e spells
    expr_weighs d l s e (exprs.cast {s = t} {e = v} opening closing class name spells) = omega (arith, expr_weighs d _ t v spells)
    expr_weighs d l s e (exprs.one_postfix spells) = expr_weighs d _ s e spells
    expr_weighs d l s e (exprs.field {s = t} {e = v} dot f name spells) =
        omega (arith, weigh_append w t (sign (codes ".") dot ∷ named f ∷ []), expr_weighs d _ t v spells)
    expr_weighs d l s e (exprs.call {s = s'} {t = t} {e = v} {arguments = arguments} dot opening closing m name spells each) =
        omega (arith, weigh_append w s' (sign (codes ".") dot ∷ named m ∷ sign (codes "(") opening ∷ (t ++ sign (codes ")") closing ∷ [])), weigh_append w t (sign (codes ")") closing ∷ []), expr_weighs d _ s' v spells, arguments_weigh d t arguments each)
    expr_weighs d l s e (exprs.one_primary spells) = expr_weighs d _ s e spells
    expr_weighs d l s e (exprs.this_word at) = omega arith
    expr_weighs d l s e (exprs.null_word at) = omega arith
    expr_weighs d l s e (exprs.variable_name x name) = omega arith
    expr_weighs d l s e (exprs.original {t = t} {arguments = arguments} at opening closing each) =
        omega (arith, weigh_append w t (sign (codes ")") closing ∷ []), arguments_weigh Line t arguments each)
    expr_weighs d l s e (exprs.new_object at opening closing class name) = omega arith
    expr_weighs d l s e (exprs.in_parentheses {s = t} opening closing spells) =
        omega (arith, weigh_append w t (sign (codes ")") closing ∷ []), expr_weighs d _ t e spells)

    arguments_weigh : (d : Dialect) (s : List Symbol) (es : List Expr) → exprs.SpellsArguments d s es → heavy_each node_weight (trees_of es) ≤ weigh w s
    arguments_weigh d s es exprs.no_arguments = omega arith
    arguments_weigh d s es (exprs.some_arguments each) = each_weighs d s es each

    each_weighs : (d : Dialect) (s : List Symbol) (es : List Expr) → exprs.SpellsEach d s es → heavy_each node_weight (trees_of es) ≤ weigh w s
    each_weighs d s es (exprs.one {e = e} spells) = omega (arith, expr_weighs d _ s e spells)
    each_weighs d s es (exprs.next {s = s'} {t = t} {es = front} {e = e} comma each spells) =
        omega (arith, weigh_append w s' (sign (codes ",") comma ∷ t), heavy_more node_weight front e, each_weighs d s' front each, expr_weighs d _ t e spells)

  -- ---- members

  abbrev field_weight : Field → ℕ
  field_weight f = spot_weight f.kind + spot_weight f.name

  abbrev method_weight : Method → ℕ
  method_weight m = spot_weight m.kind + (spot_weight m.name + (weigh field_weight m.parameters + heavy node_weight m.body))

  typed_weighs : (s : List Symbol) (f : Field) → SpellsTyped s f → field_weight f ≤ weigh w s
  typed_weighs s f (classes.typed kind x name other) = omega arith

  method_weighs : (d : Dialect) (s : List Symbol) (m : Method) → SpellsMethod d s m → method_weight m ≤ weigh w s
  method_weighs d s m (classes.method {head = head} {listed = listed} {value = value} {declared = declared} {parameters = parameters} {body = body} a b c e f g says list spells) =
      let rest = value ++ sign (codes ";") f ∷ sign (codes "}") g ∷ [] in
      let behind = listed ++ sign (codes ")") b ∷ sign (codes "{") c ∷ word (codes "return") e ∷ rest in
      omega (arith, weigh_append w head (sign (codes "(") a ∷ behind), weigh_append w listed (sign (codes ")") b ∷ sign (codes "{") c ∷ word (codes "return") e ∷ rest), weigh_append w value (sign (codes ";") f ∷ sign (codes "}") g ∷ []), typed_weighs head declared says, listing_weighs SpellsTyped field_weight typed_weighs listed parameters list, expr_weighs d _ value body spells)

  -- what is said in a member
  abbrev member_weight : MemberOperation → ℕ
  member_weight m = weigh (λ (what : MemberSaid). w (token_in_member m what)) (said_member m)

  method_says : (member : MemberOperation) (m : Method) → member_spot member ≡ m.name → weigh (λ (what : MemberSaid). w (token_in_member member what)) (said_method m) ≡ method_weight m
  method_says member m same =
      let f = λ (what : MemberSaid). w (token_in_member member what) in
      let in_parameters = weigh_same (λ (p : Field). weigh f (said_parameter p)) field_weight m.parameters (λ p. omega arith) in
      let its_name = ap (λ (x : Spot). w (named x)) same in
      omega (arith, weigh_append f (flat_map said_parameter m.parameters) (map body_node (subtrees m.body)), weigh_flat f said_parameter m.parameters, weigh_map f body_node (subtrees m.body), weigh_subtrees node_weight m.body, in_parameters, its_name)

  -- ---- classes

  member_weighs : (d : Dialect) (s : List Symbol) (m : Member) → SpellsMember d s m → member_weight (adds_member m) ≤ weigh w s
  member_weighs d s m (classes.field {head = head} {declared = declared} semicolon says) =
      omega (arith, weigh_append w head (sign (codes ";") semicolon ∷ []), typed_weighs head declared says)
  member_weighs d s m (classes.a_method {m = x} spells) = omega (arith, method_says (adds_method x) x refl, method_weighs d s x spells)

  members_weigh : (d : Dialect) (s : List Symbol) (ms : List Member) → Many (SpellsMember d) s ms
      → weigh (λ (f : Field). member_weight (adds_field f)) (fields_of ms) + weigh (λ (m : Method). member_weight (adds_method m)) (methods_of ms) ≤ weigh w s
  members_weigh d s ms repeats.none = omega arith
  members_weigh d s ms (repeats.more {front = front} {rest = rest} {x = field_member f} {xs = others} first many) =
      omega (arith, weigh_append w front rest, member_weighs d front (field_member f) first, members_weigh d rest others many)
  members_weigh d s ms (repeats.more {front = front} {rest = rest} {x = method_member m} {xs = others} first many) =
      omega (arith, weigh_append w front rest, member_weighs d front (method_member m) first, members_weigh d rest others many)

  optional_weighs : (keyword : List ℕ) (s : List Symbol) (o : Option Spot) → SpellsOptional keyword s o → weigh spot_weight (optional o) ≤ weigh w s
  optional_weighs keyword s o classes.omitted = omega arith
  optional_weighs keyword s o (classes.given at x name) = omega arith

  -- what is said in an operation
  abbrev operation_weight : Operation → ℕ
  operation_weight o = weigh (λ (what : OperationSaid). w (token_in o what)) (said_operation o)

  operation_says : (o : Operation) → operation_weight o ≡ w (token_in o its_class) + (weigh spot_weight (optional (parent_in o)) + weigh member_weight (members_in o))
  operation_says o =
      let f = λ (what : OperationSaid). w (token_in o what) in
      let said_in = λ (m : MemberOperation). map (in_member m) (said_member m) in
      let each = weigh_same (λ (m : MemberOperation). weigh f (said_in m)) member_weight (members_in o) (λ m. weigh_map f (in_member m) (said_member m)) in
      omega (arith, weigh_append f (map its_parent (optional (parent_in o))) (flat_map said_in (members_in o)), weigh_map f its_parent (optional (parent_in o)), weigh_flat f said_in (members_in o), each)

  class_weighs : (d : Dialect) (s : List Symbol) (c : Class) → SpellsClass d s c → operation_weight (adds_class c) ≤ weigh w s
  class_weighs d s c (classes.class {extension = extension} {body = body} {parent = parent} {members = members} at opening closing x name extends many) =
      let fields = map adds_field (fields_of members) in
      let methods = map adds_method (methods_of members) in
      let rest = sign (codes "{") opening ∷ (body ++ sign (codes "}") closing ∷ []) in
      omega (arith, operation_says (adds_class c), weigh_append member_weight fields methods, weigh_map member_weight adds_field (fields_of members), weigh_map member_weight adds_method (methods_of members), weigh_append w extension rest, weigh_append w body (sign (codes "}") closing ∷ []), optional_weighs _ extension parent extends, members_weigh d body members many)

  -- ---- product lines

  member_operation_weighs : (s : List Symbol) (m : MemberOperation) → SpellsMemberOperation s m → member_weight m ≤ weigh w s
  member_operation_weighs s m (lines.adds {s = t} {m = x} at spells) = omega (arith, member_weighs Line t x spells)
  member_operation_weighs s m (lines.modifies {s = t} {m = x} at spells) = omega (arith, method_says (modifies_method x) x refl, method_weighs Line t x spells)
  member_operation_weighs s m (lines.field_removed a b c f name) = omega arith
  member_operation_weighs s m (lines.method_removed a b c x name) = omega arith

  operation_weighs : (s : List Symbol) (o : Operation) → SpellsOperation s o → operation_weight o ≤ weigh w s
  operation_weighs s o (lines.class_added {s = t} {c = c} at spells) = omega (arith, class_weighs Line t c spells)
  operation_weighs s o (lines.class_modified {extension = extension} {body = body} {parent = parent} {members = members} a b opening closing c name extends many) =
      let rest = sign (codes "{") opening ∷ (body ++ sign (codes "}") closing ∷ []) in
      omega (arith, operation_says o, weigh_append w extension rest, weigh_append w body (sign (codes "}") closing ∷ []), optional_weighs _ extension parent extends, many_weigh SpellsMemberOperation member_weight member_operation_weighs body members many)
  operation_weighs s o (lines.class_removed a b semicolon c name) = omega (arith, operation_says o)

  condition_weighs : (s : List Symbol) (o : Option Formula) → SpellsCondition s o → weigh (λ (a : Formula). weigh spot_weight (names_in a)) (optional o) ≤ weigh w s
  condition_weighs s o lines.no_condition = omega arith
  condition_weighs s o (lines.when {s = t} {a = a} at spells) = omega (arith, formula_weighs t a spells)

  module _ (source : Source) where
    abbrev said_weight : Said → ℕ
    said_weight what = w (token_of source what)

    delta_weighs : (s : List Symbol) (d : Delta) → SpellsDelta s d → weigh said_weight (said_delta d) ≤ weigh w s
    delta_weighs s d (lines.delta {body = body} {operations = operations} at opening closing x name many) =
        let said_in = λ (o : Operation). map (in_delta d o) (said_operation o) in
        let each = weigh_same (λ (o : Operation). weigh said_weight (said_in o)) operation_weight operations (λ o. weigh_map said_weight (in_delta d o) (said_operation o)) in
        omega (arith, weigh_flat said_weight said_in operations, each, weigh_append w body (sign (codes "}") closing ∷ []), many_weigh SpellsOperation operation_weight operation_weighs body operations many)

    item_weighs : (p : Part) (s : List Symbol) (i : Item) → SpellsItem s i → weigh said_weight (said_item p i) ≤ weigh w s
    item_weighs p s i (lines.item {s = t} {condition = condition} semicolon d name spells) =
        omega (arith, weigh_map said_weight (in_condition p i) (names_in_condition i), weigh_flat spot_weight names_in (optional condition), weigh_append w t (sign (codes ";") semicolon ∷ []), condition_weighs t condition spells)

    part_weighs : (s : List Symbol) (p : Part) → SpellsPart s p → weigh said_weight (said_part p) ≤ weigh w s
    part_weighs s p (lines.part {before = before} {body = body} {after = after} {items = items} at opening closing x name comes many) =
        let rest = sign (codes "{") opening ∷ (body ++ sign (codes "}") closing ∷ []) in
        omega (arith, weigh_append said_weight (map (its_after p) (optional after)) (flat_map (said_item p) items), weigh_map said_weight (its_after p) (optional after), weigh_flat said_weight (said_item p) items, weigh_append w before rest, weigh_append w body (sign (codes "}") closing ∷ []), optional_weighs _ before after comes, many_weigh SpellsItem (λ (i : Item). weigh said_weight (said_item p i)) (item_weighs p) body items many)

    name_weighs : (s : List Symbol) (x : Spot) → SpellsName s x → spot_weight x ≤ weigh w s
    name_weighs s x (lines.a_name y name) = omega arith

  pub source_weighs : (s : List Symbol) (source : Source) → SpellsSource s source → weigh (λ (what : Said). w (token_of source what)) (said source) ≤ weigh w s
  source_weighs s source (lines.source {listed = listed} {condition = condition} {chain = chain} {modules = modules} {features = features} {valid = valid} {parts = parts} {deltas = deltas} a b c e f g h title name list spells many all) =
      let behind = flat_map said_part parts ++ flat_map said_delta deltas in
      let f1 = λ (what : Said). w (token_of source what) in
      let closing = sign (codes "}") h ∷ modules in
      let rest = condition ++ sign (codes ";") g ∷ (chain ++ closing) in
      omega (arith, weigh_append f1 (map a_feature features) (map in_valid (names_in valid) ++ behind), weigh_append f1 (map in_valid (names_in valid)) behind, weigh_append f1 (flat_map said_part parts) (flat_map said_delta deltas), weigh_map f1 a_feature features, weigh_map f1 in_valid (names_in valid), weigh_flat f1 said_part parts, weigh_flat f1 said_delta deltas, weigh_append w listed (sign (codes ";") e ∷ word (codes "valid") f ∷ rest), weigh_append w condition (sign (codes ";") g ∷ (chain ++ closing)), weigh_append w chain closing, listing_weighs SpellsName spot_weight (name_weighs source) listed features list, formula_weighs condition valid spells, many_weigh SpellsPart (λ (p : Part). weigh f1 (said_part p)) (part_weighs source) chain parts many, many_weigh SpellsDelta (λ (d : Delta). weigh f1 (said_delta d)) (delta_weighs source) modules deltas all)

  java_class_weighs : (s : List Symbol) (c : Class) → SpellsClass Java s c → weigh (λ (it : JavaSaid). w (token_in_java it)) (said_class c) ≤ weigh w s
  java_class_weighs s c spells =
      let in_class : OperationSaid → JavaSaid = λ what. record { class = c; what = what } in
      omega (arith, weigh_map (λ (it : JavaSaid). w (token_in_java it)) in_class (said_operation (adds_class c)), class_weighs Java s c spells)

  pub java_weighs : (s : List Symbol) (classes : List Class) → Many (SpellsClass Java) s classes → weigh (λ (it : JavaSaid). w (token_in_java it)) (said_java classes) ≤ weigh w s
  java_weighs s classes many =
      omega (arith, weigh_flat (λ (it : JavaSaid). w (token_in_java it)) said_class classes, many_weigh (SpellsClass Java) (λ (c : Class). weigh (λ (it : JavaSaid). w (token_in_java it)) (said_class c)) java_class_weighs s classes many)
