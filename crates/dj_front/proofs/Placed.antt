-- What holds of the place of each symbol holds of each place that the symbols' source tells.
use Rattle.std.proofs.Common.{ℕ, List, [], ◌∷◌, ◌++◌, Option, Some, None, codes}
use Rattle.dj_names.specs.Texts.{Text}
use Rattle.arena_walk.specs.Tree.{Tree, Trees, branch, no_trees, tree_and, trees_of}
use Rattle.dj_lexer.specs.Symbols.{Symbol}
use Rattle.dj_lexer.specs.declared.token.Dialect.{Dialect}
use Rattle.dj_lexer.specs.declared.token.Dialect.TheVariants.{Line}
use Rattle.dj_tree.specs.Trees.{Spot, Formula, FormulaForm, TrueForm, FalseForm, FeatureForm, NotForm, AndForm, OrForm, ImpliesForm, SameForm}
use Rattle.dj_tree.specs.Trees.{Expr, ExprForm, VariableForm, ThisForm, NullForm, FieldForm, CallForm, NewForm, CastForm, AssignForm, OriginalForm}
use Rattle.dj_tree.specs.Trees.{Field, Method, Class, MemberOperation, adds_field, adds_method, modifies_method, removes_field, removes_method, Change}
use Rattle.dj_tree.specs.Trees.{Operation, adds_class, modifies_class, removes_class, Delta, Item, Part, Source}
use Rattle.dj_tree.specs.FormulaGrammar as formulas
use Rattle.dj_tree.specs.FormulaGrammar.{FormulaLevel}
use Rattle.dj_tree.specs.ExprGrammar as exprs
use Rattle.dj_tree.specs.ExprGrammar.{ExprLevel, SpellsArguments, no_arguments, some_arguments, SpellsEach, one, next}
use Rattle.dj_tree.specs.Repeats.{Many, none, more, AfterComma, after_comma, Listing, nothing, listed}
use Rattle.dj_tree.specs.ClassGrammar as classes
use Rattle.dj_tree.specs.ClassGrammar.{SpellsTyped, typed, SpellsMethod, Member, field_member, method_member, SpellsMember, fields_of, methods_of, SpellsOptional, omitted, given, SpellsClass}
use Rattle.dj_tree.specs.LineGrammar as lines
use Rattle.dj_tree.specs.LineGrammar.{adds_member, SpellsMemberOperation, SpellsOperation, SpellsDelta, SpellsCondition, SpellsItem, SpellsPart, SpellsName}
use Rattle.dj_tree.specs.Spells.{Spells}

-- ---- of each element, and of each node

abbrev pub Each : {X : Type 0} → (X → Type 0) → List X → Type 0
Each Q [] = Unit {0}
Each Q (x ∷ xs) = Q x × Each Q xs

abbrev mutual
  pub EachForm : {N : Type 0} → (N → Type 0) → Tree N → Type 0
  EachForm Q (branch n kids) = EachFormOf Q kids × Q n

  pub EachFormOf : {N : Type 0} → (N → Type 0) → Trees N → Type 0
  EachFormOf Q no_trees = Unit {0}
  EachFormOf Q (tree_and t kids) = EachForm Q t × EachFormOf Q kids

pub each_front : {X : Type 0} (Q : X → Type 0) (xs ys : List X) → Each Q (xs ++ ys) → Each Q xs
each_front Q [] ys each = tt
each_front Q (x ∷ xs) ys each = (each.0, each_front Q xs ys each.1)

pub each_back : {X : Type 0} (Q : X → Type 0) (xs ys : List X) → Each Q (xs ++ ys) → Each Q ys
each_back Q [] ys each = each
each_back Q (x ∷ xs) ys each = each_back Q xs ys each.1

pub each_joined : {X : Type 0} (Q : X → Type 0) (xs ys : List X) → Each Q xs → Each Q ys → Each Q (xs ++ ys)
each_joined Q [] ys front back = back
each_joined Q (x ∷ xs) ys front back = (front.0, each_joined Q xs ys front.1 back)

module _ (P : ℕ → Type 0) where
  -- ---- of the places that a source tells

  abbrev pub AtForm : FormulaForm → Type 0
  AtForm TrueForm = Unit {0}
  AtForm FalseForm = Unit {0}
  AtForm (FeatureForm x) = P x.at
  AtForm NotForm = Unit {0}
  AtForm AndForm = Unit {0}
  AtForm OrForm = Unit {0}
  AtForm ImpliesForm = Unit {0}
  AtForm SameForm = Unit {0}

  abbrev pub AtNode : ExprForm → Type 0
  AtNode (VariableForm x) = Unit {0}
  AtNode (ThisForm at) = Unit {0}
  AtNode (NullForm at) = Unit {0}
  AtNode (FieldForm f) = Unit {0}
  AtNode (CallForm m) = Unit {0}
  AtNode (NewForm c) = Unit {0}
  AtNode (CastForm c) = Unit {0}
  AtNode (AssignForm f) = Unit {0}
  AtNode (OriginalForm at) = P at

  abbrev pub AtSpot : Spot → Type 0
  AtSpot x = P x.at

  abbrev pub AtField : Field → Type 0
  AtField f = P f.name.at

  pub record AtMethod (m : Method) : Type 0 where
    pub name : P m.name.at
    pub parameters : Each AtField m.parameters
    pub body : EachForm AtNode m.body

  pub record AtClass (c : Class) : Type 0 where
    pub name : P c.name.at
    pub fields : Each AtField c.fields
    pub methods : Each AtMethod c.methods

  abbrev pub AtMember : MemberOperation → Type 0
  AtMember (adds_field f) = AtField f
  AtMember (adds_method m) = AtMethod m
  AtMember (modifies_method m) = AtMethod m
  AtMember (removes_field f) = P f.at
  AtMember (removes_method m) = P m.at

  pub record AtChange (c : Change) : Type 0 where
    pub name : P c.name.at
    pub members : Each AtMember c.members

  abbrev pub AtOperation : Operation → Type 0
  AtOperation (adds_class c) = AtClass c
  AtOperation (modifies_class c) = AtChange c
  AtOperation (removes_class c) = P c.at

  pub record AtDelta (d : Delta) : Type 0 where
    pub name : P d.name.at
    pub operations : Each AtOperation d.operations

  abbrev pub AtOptional : Option Spot → Type 0
  AtOptional None = Unit {0}
  AtOptional (Some x) = P x.at

  abbrev pub AtCondition : Option Formula → Type 0
  AtCondition None = Unit {0}
  AtCondition (Some a) = EachForm AtForm a

  pub record AtItem (i : Item) : Type 0 where
    pub delta : P i.delta.at
    pub condition : AtCondition i.condition

  pub record AtPart (p : Part) : Type 0 where
    pub name : P p.name.at
    pub after : AtOptional p.after
    pub items : Each AtItem p.items

  pub record AtSource (s : Source) : Type 0 where
    pub features : Each AtSpot s.features
    pub valid : EachForm AtForm s.valid
    pub parts : Each AtPart s.parts
    pub deltas : Each AtDelta s.deltas

  -- ---- of the places of symbols

  abbrev pub AtSymbol : Symbol → Type 0
  AtSymbol s = P s.at

  abbrev At : List Symbol → Type 0 → Type 0
  At symbols Q = Each AtSymbol symbols → Q

  front : {Q : Type 0} (xs ys : List Symbol) → At xs Q → At (xs ++ ys) Q
  front xs ys f = λ each. f (each_front AtSymbol xs ys each)

  -- ---- formulas and expressions

  formula : (l : FormulaLevel) (s : List Symbol) (a : Formula) → formulas.SpellsAt l s a → At s (EachForm AtForm a)
  formula l s a (formulas.same {s = p} {t = t} {a = x} {b = y} at left right) = λ each. ((formula _ p x left (each_front AtSymbol p _ each), (formula _ t y right (each_back AtSymbol p _ each).1, tt)), tt)
  formula l s a (formulas.one_implies p) = formula _ s a p
  formula l s a (formulas.implies {s = p} {t = t} {a = x} {b = y} at left right) = λ each. ((formula _ p x left (each_front AtSymbol p _ each), (formula _ t y right (each_back AtSymbol p _ each).1, tt)), tt)
  formula l s a (formulas.one_or p) = formula _ s a p
  formula l s a (formulas.or {s = p} {t = t} {a = x} {b = y} at left right) = λ each. ((formula _ p x left (each_front AtSymbol p _ each), (formula _ t y right (each_back AtSymbol p _ each).1, tt)), tt)
  formula l s a (formulas.or_doubled {s = p} {t = t} {a = x} {b = y} at left right) = λ each. ((formula _ p x left (each_front AtSymbol p _ each), (formula _ t y right (each_back AtSymbol p _ each).1, tt)), tt)
  formula l s a (formulas.one_and p) = formula _ s a p
  formula l s a (formulas.and {s = p} {t = t} {a = x} {b = y} at left right) = λ each. ((formula _ p x left (each_front AtSymbol p _ each), (formula _ t y right (each_back AtSymbol p _ each).1, tt)), tt)
  formula l s a (formulas.and_doubled {s = p} {t = t} {a = x} {b = y} at left right) = λ each. ((formula _ p x left (each_front AtSymbol p _ each), (formula _ t y right (each_back AtSymbol p _ each).1, tt)), tt)
  formula l s a (formulas.one_not p) = formula _ s a p
  formula l s a (formulas.not {s = t} {a = x} at p) = λ each. ((formula _ t x p each.1, tt), tt)
  formula l s a (formulas.true_word at) = λ each. (tt, tt)
  formula l s a (formulas.false_word at) = λ each. (tt, tt)
  formula l s a (formulas.feature_name x name) = λ each. (tt, each.0)
  formula l s a (formulas.in_parentheses {s = t} opening closing p) = λ each. formula _ t a p (each_front AtSymbol t _ each.1)

  more_kids : (es : List Expr) (e : Expr) → EachFormOf AtNode (trees_of es) → EachForm AtNode e → EachFormOf AtNode (trees_of (es ++ e ∷ []))
  more_kids [] e kids last = (last, tt)
  more_kids (x ∷ es) e kids last = (kids.0, more_kids es e kids.1 last)

  mutual
    expr : (d : Dialect) (l : ExprLevel) (s : List Symbol) (e : Expr) → exprs.SpellsAt d l s e → At s (EachForm AtNode e)
    expr d l s e (exprs.assigned {s = p} {t = t} {e = u} {v = v} dot equals f name first last) = λ each. ((expr d _ p u first (each_front AtSymbol p _ each), (expr d _ t v last (each_back AtSymbol p _ each).1.1.1, tt)), tt)
    expr d l s e (exprs.one_unary p) = expr d _ s e p
    expr d l s e (exprs.cast {s = t} {e = v} opening closing class name p) = λ each. ((expr d _ t v p each.1.1.1, tt), tt)
    expr d l s e (exprs.one_postfix p) = expr d _ s e p
    expr d l s e (exprs.field {s = t} {e = v} dot f name p) = λ each. ((expr d _ t v p (each_front AtSymbol t _ each), tt), tt)
    expr d l s e (exprs.call {s = p} {t = t} {e = v} {arguments = es} dot opening closing m name first several) = λ each. ((expr d _ p v first (each_front AtSymbol p _ each), arguments d t es several (each_front AtSymbol t _ (each_back AtSymbol p _ each).1.1.1)), tt)
    expr d l s e (exprs.one_primary p) = expr d _ s e p
    expr d l s e (exprs.this_word at) = λ each. (tt, tt)
    expr d l s e (exprs.null_word at) = λ each. (tt, tt)
    expr d l s e (exprs.variable_name x name) = λ each. (tt, tt)
    expr d l s e (exprs.original {t = t} {arguments = es} at opening closing several) = λ each. (arguments Line t es several (each_front AtSymbol t _ each.1.1), each.0)
    expr d l s e (exprs.new_object at opening closing class name) = λ each. (tt, tt)
    expr d l s e (exprs.in_parentheses {s = t} opening closing p) = λ each. expr d _ t e p (each_front AtSymbol t _ each.1)

    arguments : (d : Dialect) (s : List Symbol) (es : List Expr) → SpellsArguments d s es → At s (EachFormOf AtNode (trees_of es))
    arguments d s es no_arguments = λ each. tt
    arguments d s es (some_arguments several) = arguments_each d s es several

    arguments_each : (d : Dialect) (s : List Symbol) (es : List Expr) → SpellsEach d s es → At s (EachFormOf AtNode (trees_of es))
    arguments_each d s es (one {e = e} p) = λ each. (expr d _ s e p each, tt)
    arguments_each d s es (next {s = p} {t = t} {es = others} {e = e} comma several last) = λ each. more_kids others e (arguments_each d p others several (each_front AtSymbol p _ each)) (expr d _ t e last (each_back AtSymbol p _ each).1)

  -- ---- repeated pieces

  module _ {X : Type 0} {Spells : List Symbol → X → Type 0} (Q : X → Type 0) (piece : (s : List Symbol) (x : X) → Spells s x → At s (Q x)) where
    many : (s : List Symbol) (xs : List X) → Many Spells s xs → At s (Each Q xs)
    many s xs none = λ each. tt
    many s xs (more {front = f} {rest = r} {x = x} {xs = others} first later) = λ each. (piece f x first (each_front AtSymbol f r each), many r others later (each_back AtSymbol f r each))

  behind_comma : {X : Type 0} {Spells : List Symbol → X → Type 0} (Q : X → Type 0) → ((s : List Symbol) (x : X) → Spells s x → At s (Q x)) → (s : List Symbol) (x : X) → AfterComma Spells s x → At s (Q x)
  behind_comma Q piece s x (after_comma {piece = t} comma spells) = λ each. piece t x spells each.1

  listing : {X : Type 0} {Spells : List Symbol → X → Type 0} (Q : X → Type 0) → ((s : List Symbol) (x : X) → Spells s x → At s (Q x)) → (s : List Symbol) (xs : List X) → Listing Spells s xs → At s (Each Q xs)
  listing Q piece s xs nothing = λ each. tt
  listing Q piece s xs (listed {first = f} {others = r} {x = x} {xs = others} spells later) =
      λ each. (piece f x spells (each_front AtSymbol f r each), many Q (behind_comma Q piece) r others later (each_back AtSymbol f r each))

  optional : (keyword : Text) (s : List Symbol) (x : Option Spot) → SpellsOptional keyword s x → At s (AtOptional x)
  optional keyword s x omitted = λ each. tt
  optional keyword s x (given at y name) = λ each. each.1.0

  -- ---- classes

  field : (s : List Symbol) (f : Field) → SpellsTyped s f → At s (AtField f)
  field s f (typed kind x is_kind is_name) = λ each. each.1.0

  method : (d : Dialect) (s : List Symbol) (m : Method) → SpellsMethod d s m → At s (AtMethod m)
  method d s m (classes.method {head = head} {listed = several} {value = value} {declared = declared} {parameters = parameters} {body = body} a b c e f g typed_name inside spells) =
      λ each. let behind = (each_back AtSymbol head _ each).1 in
      record {
        name = field head declared typed_name (each_front AtSymbol head _ each);
        parameters = listing AtField field several parameters inside (each_front AtSymbol several _ behind);
        body = expr d _ value body spells (each_front AtSymbol value _ (each_back AtSymbol several _ behind).1.1.1);
      }

  -- of a field or a method among the members of a class
  abbrev AtEither : Member → Type 0
  AtEither (field_member f) = AtField f
  AtEither (method_member m) = AtMethod m

  member : (d : Dialect) (s : List Symbol) (m : Member) → SpellsMember d s m → At s (AtEither m)
  member d s m (classes.field {head = head} {declared = declared} semicolon spells) = front head _ (field head declared spells)
  member d s m (classes.a_method {m = x} spells) = method d s x spells

  fields_apart : (members : List Member) → Each AtEither members → Each AtField (fields_of members)
  fields_apart [] each = tt
  fields_apart (field_member f ∷ rest) each = (each.0, fields_apart rest each.1)
  fields_apart (method_member m ∷ rest) each = fields_apart rest each.1

  methods_apart : (members : List Member) → Each AtEither members → Each AtMethod (methods_of members)
  methods_apart [] each = tt
  methods_apart (field_member f ∷ rest) each = methods_apart rest each.1
  methods_apart (method_member m ∷ rest) each = (each.0, methods_apart rest each.1)

  class : (d : Dialect) (s : List Symbol) (c : Class) → SpellsClass d s c → At s (AtClass c)
  class d s c (classes.class {extension = extension} {body = body} {parent = parent} {members = members} at opening closing x name extends inside) =
      λ each. let within = many AtEither (member d) body members inside (each_front AtSymbol body _ (each_back AtSymbol extension _ each.1.1).1) in
      record { name = each.1.0; fields = fields_apart members within; methods = methods_apart members within }

  -- ---- deltas

  added : (m : Member) → AtEither m → AtMember (adds_member m)
  added (field_member f) at = at
  added (method_member m) at = at

  member_operation : (s : List Symbol) (x : MemberOperation) → SpellsMemberOperation s x → At s (AtMember x)
  member_operation s x (lines.adds {s = t} {m = m} at spells) = λ each. added m (member Line t m spells each.1)
  member_operation s x (lines.modifies {s = t} {m = m} at spells) = λ each. method Line t m spells each.1
  member_operation s x (lines.field_removed a b c f name) = λ each. each.1.1.0
  member_operation s x (lines.method_removed a b c m name) = λ each. each.1.1.0

  operation : (s : List Symbol) (x : Operation) → SpellsOperation s x → At s (AtOperation x)
  operation s x (lines.class_added {s = t} {c = c} at spells) = λ each. class Line t c spells each.1
  operation s x (lines.class_modified {extension = extension} {body = body} {parent = parent} {members = members} a b opening closing c name extends inside) =
      λ each. record {
        name = each.1.1.0;
        members = many AtMember member_operation body members inside (each_front AtSymbol body _ (each_back AtSymbol extension _ each.1.1.1).1);
      }
  operation s x (lines.class_removed a b semicolon c name) = λ each. each.1.1.0

  delta : (s : List Symbol) (d : Delta) → SpellsDelta s d → At s (AtDelta d)
  delta s d (lines.delta {body = body} {operations = operations} at opening closing x name inside) =
      λ each. record { name = each.1.0; operations = many AtOperation operation body operations inside (each_front AtSymbol body _ each.1.1.1) }

  -- ---- lines

  condition : (s : List Symbol) (a : Option Formula) → SpellsCondition s a → At s (AtCondition a)
  condition s a lines.no_condition = λ each. tt
  condition s a (lines.when {s = t} {a = x} at spells) = λ each. formula _ t x spells each.1

  item : (s : List Symbol) (i : Item) → SpellsItem s i → At s (AtItem i)
  item s i (lines.item {s = t} {condition = a} semicolon d name spells) = λ each. record { delta = each.0; condition = condition t a spells (each_front AtSymbol t _ each.1) }

  part : (s : List Symbol) (p : Part) → SpellsPart s p → At s (AtPart p)
  part s p (lines.part {before = before} {body = body} {after = after} {items = items} at opening closing x name follows inside) =
      λ each. record {
        name = each.1.0;
        after = optional (codes "after") before after follows (each_front AtSymbol before _ each.1.1);
        items = many AtItem item body items inside (each_front AtSymbol body _ (each_back AtSymbol before _ each.1.1).1);
      }

  name : (s : List Symbol) (x : Spot) → SpellsName s x → At s (AtSpot x)
  name s x (lines.a_name y is_name) = λ each. each.0

  pub at_source : (symbols : List Symbol) (source : Source) → Spells symbols source → Each AtSymbol symbols → AtSource source
  at_source symbols source (lines.source {listed = several} {condition = valid_symbols} {chain = chain} {modules = modules} {features = features} {valid = valid} {parts = parts} {deltas = deltas} a b c e f g h title is_name names valid_spelled parts_spelled deltas_spelled) =
      λ each.
      let from_features = each.1.1.1.1 in
      let from_valid = (each_back AtSymbol several _ from_features).1.1 in
      let from_parts = (each_back AtSymbol valid_symbols _ from_valid).1 in
      let from_deltas = (each_back AtSymbol chain _ from_parts).1 in
      record {
        features = listing AtSpot name several features names (each_front AtSymbol several _ from_features);
        valid = formula _ valid_symbols valid valid_spelled (each_front AtSymbol valid_symbols _ from_valid);
        parts = many AtPart part chain parts parts_spelled (each_front AtSymbol chain _ from_parts);
        deltas = many AtDelta delta modules deltas deltas_spelled from_deltas;
      }
