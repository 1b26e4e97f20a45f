-- What a spelled source says, its symbols say.
use Rattle.std.proofs.Common.{◌≡◌, suc, List, [], ◌∷◌, ◌++◌, Option, length, refl, sym, ap, ◌∙◌, append_assoc, length-append, arith}
use Rattle.std.specs.Prelude.{All}
use Rattle.std.specs.Str.{IsUtf8}
use Rattle.std.proofs.lemmas.List.{append-nil}
use Rattle.std.proofs.lemmas.List.Elements.{All-append}
use Rattle.dj_names.specs.Texts.{Text}
use Rattle.arena_walk.specs.Tree.{trees_of}
use Rattle.dj_lexer.specs.Symbols.{Symbol}
use Rattle.dj_lexer.specs.declared.token.Dialect.{Dialect}
use Rattle.dj_lexer.specs.declared.token.Dialect.TheVariants.{Line}
use Rattle.dj_tree.specs.Words.{word, sign, named}
use Rattle.std.specs.Prelude.{codes}
use Rattle.dj_tree.specs.Trees.{Spot, Formula, Expr, Field, Method, Class, MemberOperation, Operation, Delta, Item, Part, Source}
use Rattle.dj_tree.specs.FormulaGrammar as formulas
use Rattle.dj_tree.specs.FormulaGrammar.{FormulaLevel}
use Rattle.dj_tree.specs.ExprGrammar as exprs
use Rattle.dj_tree.specs.ExprGrammar.{ExprLevel, SpellsArguments, no_arguments, some_arguments, SpellsEach, one, next}
use Rattle.dj_tree.specs.Repeats.{Many, none, more, AfterComma, after_comma, Listing, nothing, listed}
use Rattle.dj_tree.specs.ClassGrammar as classes
use Rattle.dj_tree.specs.ClassGrammar.{SpellsTyped, typed, SpellsMethod, Member, field_member, method_member, SpellsMember, fields_of, methods_of, SpellsOptional, omitted, given, SpellsClass}
use Rattle.dj_tree.specs.LineGrammar as lines
use Rattle.dj_tree.specs.LineGrammar.{adds_member, SpellsMemberOperation, SpellsOperation, SpellsDelta, SpellsCondition, SpellsItem, SpellsPart, SpellsName}
use Rattle.dj_tree.specs.Spells.{Spells}
use Rattle.dj_parser.specs.Said.{said_each, said_spot, said_optional, said_trees, expr_text, said_formula, said_expr, said_field, said_method, said_class, said_member, said_operation, said_delta, said_condition, said_item, said_part, said_source}
use Rattle.dj_parser.proofs.SaidLemmas.{IsSaid, All-front, All-back, silence, here, blank, both, turned, silent, before}

-- ---- formulas

-- a node over one formula or two, whose operator says no name
over_two : {s t : List Symbol} {a b : List Text} (operator : Symbol) → IsSaid s a → IsSaid t b → IsSaid (s ++ operator ∷ t) ((a ++ (b ++ [])) ++ [] ∷ [])
over_two {a = a} {b = b} operator p q =
    let nothing_more : a ++ (b ++ []) ≡ a ++ b = ap (λ x. a ++ x) (append-nil b) in
    rw (nothing_more, append_assoc) (both p (turned (blank operator) q))

formula : (l : FormulaLevel) (s : List Symbol) (a : Formula) → formulas.SpellsAt l s a → IsSaid s (said_formula a)
formula l s a (formulas.same {s = s'} {t = t} {a = x} {b = y} at left right) = over_two _ (formula _ s' x left) (formula _ t y right)
formula l s a (formulas.one_implies p) = formula _ s a p
formula l s a (formulas.implies {s = s'} {t = t} {a = x} {b = y} at left right) = over_two _ (formula _ s' x left) (formula _ t y right)
formula l s a (formulas.one_or p) = formula _ s a p
formula l s a (formulas.or {s = s'} {t = t} {a = x} {b = y} at left right) = over_two _ (formula _ s' x left) (formula _ t y right)
formula l s a (formulas.or_doubled {s = s'} {t = t} {a = x} {b = y} at left right) = over_two _ (formula _ s' x left) (formula _ t y right)
formula l s a (formulas.one_and p) = formula _ s a p
formula l s a (formulas.and {s = s'} {t = t} {a = x} {b = y} at left right) = over_two _ (formula _ s' x left) (formula _ t y right)
formula l s a (formulas.and_doubled {s = s'} {t = t} {a = x} {b = y} at left right) = over_two _ (formula _ s' x left) (formula _ t y right)
formula l s a (formulas.one_not p) = formula _ s a p
formula l s a (formulas.not {s = t} {a = x} at p) = turned (blank (sign (codes "!") at)) (rw (append-nil (said_formula x)) (formula _ t x p))
formula l s a (formulas.true_word at) = blank _
formula l s a (formulas.false_word at) = blank _
formula l s a (formulas.feature_name x name) = here (named x)
formula l s a (formulas.in_parentheses {s = t} opening closing p) = silent _ (before _ (formula _ t a p))

-- ---- expressions

-- the arguments with one more
arguments_and : (es : List Expr) (e : Expr) → said_trees expr_text (trees_of (es ++ e ∷ [])) ≡ said_trees expr_text (trees_of es) ++ said_expr e
arguments_and [] e = append-nil (said_expr e)
arguments_and (x ∷ es) e = ap (λ rest. said_expr x ++ rest) (arguments_and es e) ∙ sym (append_assoc (said_expr x) (said_trees expr_text (trees_of es)) (said_expr e))

-- an expression and a name behind it
over_one : {s : List Symbol} {a : List Text} (dot : Symbol) (x : Spot) → IsSaid s a → IsSaid (s ++ dot ∷ named x ∷ []) ((a ++ []) ++ x.text ∷ [])
over_one {a = a} dot x p = rw (append-nil a) (both p (silent dot (here (named x))))

mutual
  expr : (d : Dialect) (l : ExprLevel) (s : List Symbol) (e : Expr) → exprs.SpellsAt d l s e → IsSaid s (said_expr e)
  expr d l s e (exprs.assigned {s = s'} {t = t} {e = u} {v = v} dot equals f name front back) =
      rw (append-nil (said_expr v), append_assoc) (both (expr d _ s' u front) (silent _ (turned (here (named f)) (silent _ (expr d _ t v back)))))
  expr d l s e (exprs.one_unary p) = expr d _ s e p
  expr d l s e (exprs.cast {s = t} {e = v} opening closing class name p) =
      silent _ (turned (here (named class)) (silent _ (rw (append-nil (said_expr v)) (expr d _ t v p))))
  expr d l s e (exprs.one_postfix p) = expr d _ s e p
  expr d l s e (exprs.field {s = t} {e = v} dot f name p) = over_one _ f (expr d _ t v p)
  expr d l s e (exprs.call {s = s'} {t = t} {e = v} {arguments = es} dot opening closing m name p each) =
      rw append_assoc (both (expr d _ s' v p) (silent _ (turned (here (named m)) (silent _ (before _ (arguments d t es each))))))
  expr d l s e (exprs.one_primary p) = expr d _ s e p
  expr d l s e (exprs.this_word at) = blank _
  expr d l s e (exprs.null_word at) = blank _
  expr d l s e (exprs.variable_name x name) = here (named x)
  expr d l s e (exprs.original {t = t} {arguments = es} at opening closing each) =
      turned (blank (word (codes "original") at)) (silent _ (before _ (arguments Line t es each)))
  expr d l s e (exprs.new_object at opening closing class name) = silent _ (before _ (here (named class)))
  expr d l s e (exprs.in_parentheses {s = t} opening closing p) = silent _ (before _ (expr d _ t e p))

  arguments : (d : Dialect) (s : List Symbol) (es : List Expr) → SpellsArguments d s es → IsSaid s (said_trees expr_text (trees_of es))
  arguments d s es no_arguments = silence []
  arguments d s es (some_arguments each) = arguments_each d s es each

  arguments_each : (d : Dialect) (s : List Symbol) (es : List Expr) → SpellsEach d s es → IsSaid s (said_trees expr_text (trees_of es))
  arguments_each d s es (one {e = e} p) = rw (append-nil (said_expr e)) (expr d _ s e p)
  arguments_each d s es (next {s = s'} {t = t} {es = front} {e = e} comma each p) =
      rw (arguments_and front e) (both (arguments_each d s' front each) (silent _ (expr d _ t e p)))

-- ---- repeated pieces

many : {X : Type 0} {Spells : List Symbol → X → Type 0} {said : X → List Text} → ((s : List Symbol) (x : X) → Spells s x → IsSaid s (said x)) → (s : List Symbol) (xs : List X)
    → Many Spells s xs → IsSaid s (said_each said xs)
many each s xs none = silence []
many each s xs (more {front = front} {rest = rest} {x = x} {xs = others} first later) = both (each front x first) (many each rest others later)

behind_comma : {X : Type 0} {Spells : List Symbol → X → Type 0} {said : X → List Text} → ((s : List Symbol) (x : X) → Spells s x → IsSaid s (said x)) → (s : List Symbol) (x : X)
    → AfterComma Spells s x → IsSaid s (said x)
behind_comma each s x (after_comma {piece = piece} comma spells) = silent _ (each piece x spells)

listing : {X : Type 0} {Spells : List Symbol → X → Type 0} {said : X → List Text} → ((s : List Symbol) (x : X) → Spells s x → IsSaid s (said x)) → (s : List Symbol) (xs : List X)
    → Listing Spells s xs → IsSaid s (said_each said xs)
listing each s xs nothing = silence []
listing each s xs (listed {first = first} {others = others} {x = x} {xs = later} spells many_more) = both (each first x spells) (many (behind_comma each) others later many_more)

optional : (keyword : Text) (s : List Symbol) (x : Option Spot) → SpellsOptional keyword s x → IsSaid s (said_optional x)
optional keyword s x omitted = silence []
optional keyword s x (given at y name) = silent _ (here (named y))

-- ---- classes

field : (s : List Symbol) (f : Field) → SpellsTyped s f → IsSaid s (said_field f)
field s f (typed kind x is_kind is_name) = both (here (named kind)) (here (named x))

method : (d : Dialect) (s : List Symbol) (m : Method) → SpellsMethod d s m → IsSaid s (said_method m)
method d s m (classes.method {head = head} {listed = several} {value = value} {declared = declared} {parameters = parameters} {body = body} a b c e f g front inside spells) =
    both (field head declared front) (silent _ (both (listing field several parameters inside) (silent _ (silent _ (silent _ (before _ (expr d _ value body spells)))))))

-- a field or a method among the members of a class
abbrev said_either : Member → List Text
said_either (field_member f) = said_field f
said_either (method_member m) = said_method m

member : (d : Dialect) (s : List Symbol) (m : Member) → SpellsMember d s m → IsSaid s (said_either m)
member d s m (classes.field {head = head} {declared = declared} semicolon spells) = before _ (field head declared spells)
member d s m (classes.a_method {m = x} spells) = method d s x spells

-- fields in front of methods say as many texts as the members in order, and the same ones
apart_few : (members : List Member) → length (said_each said_field (fields_of members) ++ said_each said_method (methods_of members)) ≡ length (said_each said_either members)
apart_few [] = refl
apart_few (field_member f ∷ rest) = ap (λ n. suc (suc n)) (apart_few rest)
apart_few (method_member m ∷ rest) =
    let fields = said_each said_field (fields_of rest) in
    let methods = said_each said_method (methods_of rest) in
    omega (arith, apart_few rest, length-append fields (said_method m ++ methods), length-append (said_method m) methods, length-append fields methods, length-append (said_method m) (said_each said_either rest))

apart_utf8 : (members : List Member) → All IsUtf8 (said_each said_either members) → All IsUtf8 (said_each said_field (fields_of members)) × All IsUtf8 (said_each said_method (methods_of members))
apart_utf8 [] all = (all, all)
apart_utf8 (field_member f ∷ rest) all =
    let others = apart_utf8 rest (All-back IsUtf8 (said_field f) (said_each said_either rest) all) in
    (All-append IsUtf8 (said_field f) (said_each said_field (fields_of rest)) (All-front IsUtf8 (said_field f) (said_each said_either rest) all) others.0, others.1)
apart_utf8 (method_member m ∷ rest) all =
    let others = apart_utf8 rest (All-back IsUtf8 (said_method m) (said_each said_either rest) all) in
    (others.0, All-append IsUtf8 (said_method m) (said_each said_method (methods_of rest)) (All-front IsUtf8 (said_method m) (said_each said_either rest) all) others.1)

apart : (s : List Symbol) (members : List Member) → IsSaid s (said_each said_either members) → IsSaid s (said_each said_field (fields_of members) ++ said_each said_method (methods_of members))
apart s members p =
    record {
      few = omega (arith, p.few, apart_few members);
      utf8 = λ all. let each = apart_utf8 members (p.utf8 all) in All-append IsUtf8 (said_each said_field (fields_of members)) (said_each said_method (methods_of members)) each.0 each.1;
    }

class : (d : Dialect) (s : List Symbol) (c : Class) → SpellsClass d s c → IsSaid s (said_class c)
class d s c (classes.class {extension = extension} {body = body} {parent = parent} {members = members} at opening closing x name extends inside) =
    silent _ (both (here (named x)) (both (optional (codes "extends") extension parent extends) (silent _ (before _ (apart body members (many (member d) body members inside))))))

-- ---- deltas

added : (m : Member) (s : List Symbol) → IsSaid s (said_either m) → IsSaid s (said_member (adds_member m))
added (field_member f) s p = p
added (method_member m) s p = p

member_operation : (s : List Symbol) (x : MemberOperation) → SpellsMemberOperation s x → IsSaid s (said_member x)
member_operation s x (lines.adds {s = t} {m = m} at spells) = silent _ (added m t (member Line t m spells))
member_operation s x (lines.modifies {s = t} {m = m} at spells) = silent _ (method Line t m spells)
member_operation s x (lines.field_removed a b c f name) = silent _ (silent _ (before _ (here (named f))))
member_operation s x (lines.method_removed a b c m name) = silent _ (silent _ (before _ (here (named m))))

operation : (s : List Symbol) (x : Operation) → SpellsOperation s x → IsSaid s (said_operation x)
operation s x (lines.class_added {s = t} {c = c} at spells) = silent _ (class Line t c spells)
operation s x (lines.class_modified {extension = extension} {body = body} {parent = parent} {members = members} a b opening closing c name extends inside) =
    silent _ (silent _ (both (here (named c)) (both (optional (codes "extends") extension parent extends) (silent _ (before _ (many member_operation body members inside))))))
operation s x (lines.class_removed a b semicolon c name) = silent _ (silent _ (before _ (here (named c))))

delta : (s : List Symbol) (d : Delta) → SpellsDelta s d → IsSaid s (said_delta d)
delta s d (lines.delta {body = body} {operations = operations} at opening closing x name inside) =
    silent _ (both (here (named x)) (silent _ (before _ (many operation body operations inside))))

-- ---- lines

condition : (s : List Symbol) (a : Option Formula) → SpellsCondition s a → IsSaid s (said_condition a)
condition s a lines.no_condition = silence []
condition s a (lines.when {s = t} {a = x} at spells) = silent _ (formula _ t x spells)

item : (s : List Symbol) (i : Item) → SpellsItem s i → IsSaid s (said_item i)
item s i (lines.item {s = t} {condition = a} semicolon d name spells) = both (here (named d)) (before _ (condition t a spells))

part : (s : List Symbol) (p : Part) → SpellsPart s p → IsSaid s (said_part p)
part s p (lines.part {before = front} {body = body} {after = after} {items = items} at opening closing x name follows inside) =
    silent _ (both (here (named x)) (both (optional (codes "after") front after follows) (silent _ (before _ (many item body items inside)))))

name : (s : List Symbol) (x : Spot) → SpellsName s x → IsSaid s (said_spot x)
name s x (lines.a_name y is_name) = here (named y)

pub spelled_source : (symbols : List Symbol) (source : Source) → Spells symbols source → IsSaid symbols (said_source source)
spelled_source symbols source (lines.source {listed = several} {condition = valid_symbols} {chain = chain} {modules = modules} {features = features} {valid = valid} {parts = parts} {deltas = deltas} a b c e f g h title is_name names valid_spelled parts_spelled deltas_spelled) =
    silent _ (both (here (named title)) (silent _ (silent _ (both (listing name several features names)
    (silent _ (silent _ (both (formula _ valid_symbols valid valid_spelled)
    (silent _ (both (many part chain parts parts_spelled) (silent _ (many delta modules deltas deltas_spelled)))))))))))

pub spelled_java : (d : Dialect) (symbols : List Symbol) (all_classes : List Class) → Many (SpellsClass d) symbols all_classes → IsSaid symbols (said_each said_class all_classes)
spelled_java d symbols all_classes spells = many (class d) symbols all_classes spells
