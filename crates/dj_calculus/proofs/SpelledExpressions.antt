-- What the grammar spells are expressions. For clients: `spelled_expressions`, `spelled_java` and `laid_expressions`.
use Rattle.std.proofs.Common.{◌≡◌, ◌∙◌, inl, inr, List, [], ◌∷◌, ◌++◌, Option, Some, Contains, sym, ap, subst, arith}
use Rattle.std.proofs.lemmas.Bool.{false≢true, cases_Bool}
use Rattle.std.proofs.lemmas.Grind.{not_there}
use Rattle.std.specs.List.{flat_map, filter_map}
use Rattle.dj_lexer.specs.Symbols.{Symbol}
use Rattle.dj_lexer.specs.declared.token.Dialect.{Dialect}
use Rattle.dj_lexer.specs.declared.token.Dialect.TheVariants.{Line, Java}
use Rattle.arena_walk.specs.Tree.{trees_of}
use Rattle.dj_tree.specs.Trees.{Expr, Method, Class, MemberOperation, adds_field, adds_method, modifies_method, removes_field, removes_method, Change, Operation, adds_class, modifies_class, removes_class, Delta, Source}
use Rattle.dj_tree.specs.ExprGrammar.{ExprLevel, SpellsAt, assigned, one_unary, cast, one_postfix, field, call, one_primary, this_word, null_word, variable_name, original, new_object, in_parentheses}
use Rattle.dj_tree.specs.ExprGrammar.{SpellsArguments, no_arguments, some_arguments, SpellsEach, one, next}
use Rattle.dj_tree.specs.Repeats as repeats
use Rattle.dj_tree.specs.Repeats.{Many}
use Rattle.dj_tree.specs.ClassGrammar as classes
use Rattle.dj_tree.specs.ClassGrammar.{SpellsMethod, Member, field_member, method_member, SpellsMember, methods_of, SpellsClass}
use Rattle.dj_tree.specs.Spells.{Laid, SpellsJava}
use Rattle.dj_tree.specs.LineGrammar as lines
use Rattle.dj_tree.specs.LineGrammar.{adds_member, SpellsMemberOperation, SpellsOperation, SpellsDelta, SpellsSource}
use Rattle.dj_calculus.specs.Contents.{operations_of, classes_of, changes_of, added_by, change_by, method_added, method_modified, new_methods, modified_methods}
use Rattle.dj_calculus.specs.Expressions.{is_expression, IsExpression, HasExpressions, HaveExpressions}
use Rattle.dj_calculus.proofs.ExpressionForms.{Formed, a_variable, a_this, a_null, a_new, a_cast, a_field, an_assignment, a_call, an_original, EachFormed, none_formed, formed_and, is_formed}
use Rattle.dj_calculus.specs.Things.{Step, extends, does}
use Rattle.dj_calculus.proofs.Members.{no_element, first_or_other, among_others, either, filtered_from, in_front_or_behind, from_flat}

are_more : (es : List Expr) (e : Expr) → EachFormed (trees_of es) → Formed e → EachFormed (trees_of (es ++ e ∷ []))
are_more [] e are is = formed_and is none_formed
are_more (x ∷ es) e (formed_and it are) is = formed_and it (are_more es e are is)

mutual
  spelled : (d : Dialect) (l : ExprLevel) (s : List Symbol) (e : Expr) → SpellsAt d l s e → Formed e
  spelled d l s e (assigned {s = s'} {t = t} {e = u} {v = v} dot equals f name front back) = an_assignment (spelled d _ s' u front) (spelled d _ t v back)
  spelled d l s e (one_unary spells) = spelled d _ s e spells
  spelled d l s e (cast {s = t} {e = v} opening closing class name spells) = a_cast (spelled d _ t v spells)
  spelled d l s e (one_postfix spells) = spelled d _ s e spells
  spelled d l s e (field {s = t} {e = v} dot f name spells) = a_field (spelled d _ t v spells)
  spelled d l s e (call {s = s'} {t = t} {e = v} {arguments = arguments} dot opening closing m name spells each) = a_call (spelled d _ s' v spells) (spelled_arguments d t arguments each)
  spelled d l s e (one_primary spells) = spelled d _ s e spells
  spelled d l s e (this_word at) = a_this
  spelled d l s e (null_word at) = a_null
  spelled d l s e (variable_name x name) = a_variable
  spelled d l s e (original {t = t} {arguments = arguments} at opening closing each) = an_original (spelled_arguments Line t arguments each)
  spelled d l s e (new_object at opening closing class name) = a_new
  spelled d l s e (in_parentheses {s = t} opening closing spells) = spelled d _ t e spells

  spelled_arguments : (d : Dialect) (s : List Symbol) (es : List Expr) → SpellsArguments d s es → EachFormed (trees_of es)
  spelled_arguments d s es no_arguments = none_formed
  spelled_arguments d s es (some_arguments each) = spelled_each d s es each

  spelled_each : (d : Dialect) (s : List Symbol) (es : List Expr) → SpellsEach d s es → EachFormed (trees_of es)
  spelled_each d s es (one {e = e} spells) = formed_and (spelled d _ s e spells) none_formed
  spelled_each d s es (next {s = s'} {t = t} {es = front} {e = e} comma each spells) = are_more front e (spelled_each d s' front each) (spelled d _ t e spells)

spelled_method : (d : Dialect) (s : List Symbol) (m : Method) → SpellsMethod d s m → IsExpression m.body
spelled_method d s m (classes.method {value = value} {body = body} a b c e f g head parameters spells) = is_formed body (spelled d _ value body spells)

abbrev FormedMember : Member → Type 0
FormedMember (field_member f) = Unit {0}
FormedMember (method_member m) = IsExpression m.body

spelled_member : (d : Dialect) (s : List Symbol) (m : Member) → SpellsMember d s m → FormedMember m
spelled_member d s m (classes.field semicolon spells) = tt
spelled_member d s m (classes.a_method {m = x} spells) = spelled_method d s x spells

-- each of many pieces is spelled
each_spelled : {X : Type 0} (Spells : List Symbol → X → Type 0) (P : X → Type 0) (each : (s : List Symbol) (x : X) → Spells s x → P x) (s : List Symbol) (xs : List X)
    → Many Spells s xs → (x : X) → Contains xs x → P x
each_spelled Spells P each s xs repeats.none x within = no_element x within
each_spelled Spells P each s xs (repeats.more {front = front} {rest = rest} {x = y} {xs = ys} first others) x within =
    either (first_or_other y x ys within) (λ same. subst P same (each front y first)) (λ later. each_spelled Spells P each rest ys others x later)

method_among : (members : List Member) (m : Method) → Contains (methods_of members) m → Contains members (method_member m)
method_among [] m within = no_element m within
method_among (field_member f ∷ rest) m within = among_others _ _ rest (method_among rest m within)
method_among (method_member x ∷ rest) m within =
    either (first_or_other x m (methods_of rest) within) (λ same. (0, omega arith, ap method_member same)) (λ later. among_others _ _ rest (method_among rest m later))

spelled_class : (d : Dialect) (s : List Symbol) (c : Class) → SpellsClass d s c → (m : Method) → Contains c.methods m → IsExpression m.body
spelled_class d s c (classes.class {body = body} {members = members} at opening closing name is_name extension many) m within =
    each_spelled (SpellsMember d) FormedMember (spelled_member d) body members many (method_member m) (method_among members m within)

-- what a step, and what an operation, declares
abbrev FormedStep : Step → Type 0
FormedStep (extends parent) = Unit {0}
FormedStep (does (adds_field f)) = Unit {0}
FormedStep (does (adds_method m)) = IsExpression m.body
FormedStep (does (modifies_method m)) = IsExpression m.body
FormedStep (does (removes_field f)) = Unit {0}
FormedStep (does (removes_method m)) = Unit {0}

abbrev FormedOperation : Operation → Type 0
FormedOperation (adds_class c) = (m : Method) → Contains c.methods m → IsExpression m.body
FormedOperation (modifies_class c) = (m : MemberOperation) → Contains c.members m → FormedStep (does m)
FormedOperation (removes_class c) = Unit {0}

added_member : (m : Member) → FormedMember m → FormedStep (does (adds_member m))
added_member (field_member f) is = tt
added_member (method_member m) is = is

spelled_change : (s : List Symbol) (m : MemberOperation) → SpellsMemberOperation s m → FormedStep (does m)
spelled_change s m (lines.adds {s = t} {m = x} at spells) = added_member x (spelled_member Line t x spells)
spelled_change s m (lines.modifies {s = t} {m = x} at spells) = spelled_method Line t x spells
spelled_change s m (lines.field_removed a b c f name) = tt
spelled_change s m (lines.method_removed a b c f name) = tt

spelled_operation : (s : List Symbol) (x : Operation) → SpellsOperation s x → FormedOperation x
spelled_operation s x (lines.class_added {s = t} {c = c} at spells) = spelled_class Line t c spells
spelled_operation s x (lines.class_modified {body = body} {members = members} a b opening closing c name extension many) =
    each_spelled SpellsMemberOperation (λ m. FormedStep (does m)) spelled_change body members many
spelled_operation s x (lines.class_removed a b semicolon c name) = tt

abbrev FormedDelta : Delta → Type 0
FormedDelta delta = (x : Operation) → Contains delta.operations x → FormedOperation x

spelled_delta : (s : List Symbol) (delta : Delta) → SpellsDelta s delta → FormedDelta delta
spelled_delta s delta (lines.delta {body = body} {operations = operations} at opening closing name is_name many) =
    each_spelled SpellsOperation FormedOperation spelled_operation body operations many

spelled_deltas : (s : List Symbol) (source : Source) → SpellsSource s source → (delta : Delta) → Contains source.deltas delta → FormedDelta delta
spelled_deltas s source (lines.source {modules = modules} {deltas = deltas} a b c e f g h title name features condition chain many) =
    each_spelled SpellsDelta FormedDelta spelled_delta modules deltas many

-- ---- the methods of a source

class_of_operation : (x : Operation) (c : Class) → added_by x ≡ Some c → FormedOperation x → (m : Method) → Contains c.methods m → IsExpression m.body
class_of_operation (adds_class d) c e is m within = let same : d ≡ c = cc in is m (subst (λ k. Contains k.methods m) (sym same) within)
class_of_operation (modifies_class d) c e is m within = absurd cc
class_of_operation (removes_class d) c e is m within = absurd cc

change_of_operation : (x : Operation) (c : Change) → change_by x ≡ Some c → FormedOperation x → (m : MemberOperation) → Contains c.members m → FormedStep (does m)
change_of_operation (adds_class d) c e is m within = absurd cc
change_of_operation (modifies_class d) c e is m within = let same : d ≡ c = cc in is m (subst (λ k. Contains k.members m) (sym same) within)
change_of_operation (removes_class d) c e is m within = absurd cc

added_formed : (x : MemberOperation) (m : Method) → method_added x ≡ Some m → FormedStep (does x) → IsExpression m.body
added_formed (adds_field f) m e is = absurd cc
added_formed (adds_method n) m e is = let same : n ≡ m = cc in subst (λ k. IsExpression k.body) same is
added_formed (modifies_method n) m e is = absurd cc
added_formed (removes_field f) m e is = absurd cc
added_formed (removes_method n) m e is = absurd cc

modified_formed : (x : MemberOperation) (m : Method) → method_modified x ≡ Some m → FormedStep (does x) → IsExpression m.body
modified_formed (adds_field f) m e is = absurd cc
modified_formed (adds_method n) m e is = absurd cc
modified_formed (modifies_method n) m e is = let same : n ≡ m = cc in subst (λ k. IsExpression k.body) same is
modified_formed (removes_field f) m e is = absurd cc
modified_formed (removes_method n) m e is = absurd cc

module _ (source : Source) (all : (delta : Delta) → Contains source.deltas delta → FormedDelta delta) where
  operation_formed : (x : Operation) → Contains (operations_of source) x → FormedOperation x
  operation_formed x within = let found = from_flat (λ d. d.operations) source.deltas x within in all found.0 found.1 x found.2

  member_formed : (c : Change) → Contains (changes_of source) c → (m : MemberOperation) → Contains c.members m → FormedStep (does m)
  member_formed c within = let found = filtered_from change_by (operations_of source) c within in change_of_operation found.0 c found.2 (operation_formed found.0 found.1)

  in_class : (m : Method) → Contains (flat_map (λ c. c.methods) (classes_of source)) m → IsExpression m.body
  in_class m within =
      let found = from_flat (λ c. c.methods) (classes_of source) m within in
      let op = filtered_from added_by (operations_of source) found.0 found.1 in
      class_of_operation op.0 found.0 op.2 (operation_formed op.0 op.1) m found.2

  in_change : (pick : MemberOperation → Option Method) → ((x : MemberOperation) (m : Method) → pick x ≡ Some m → FormedStep (does x) → IsExpression m.body)
      → (m : Method) → Contains (flat_map (λ c. filter_map pick c.members) (changes_of source)) m → IsExpression m.body
  in_change pick formed m within =
      let found = from_flat (λ c. filter_map pick c.members) (changes_of source) m within in
      let member = filtered_from pick found.0.members m found.2 in
      formed member.0 m member.2 (member_formed found.0 found.1 member.0 member.1)

  has_expressions : HasExpressions source
  has_expressions m within =
      either (in_front_or_behind (new_methods source) (modified_methods source) m within)
      (λ new. either (in_front_or_behind (flat_map (λ c. c.methods) (classes_of source)) (flat_map (λ c. filter_map method_added c.members) (changes_of source)) m new)
      (in_class m) (in_change method_added added_formed m))
      (in_change method_modified modified_formed m)

pub spelled_expressions : (s : List Symbol) (source : Source) → SpellsSource s source → HasExpressions source
spelled_expressions s source spells = has_expressions source (spelled_deltas s source spells)

pub spelled_java : (s : List Symbol) (classes : List Class) → SpellsJava s classes → HaveExpressions classes
spelled_java s classes spells c m within has =
    each_spelled (SpellsClass Java) (λ x. (y : Method) → Contains x.methods y → IsExpression y.body) (spelled_class Java) s classes spells c within m has

-- that some tokens spell the source is enough, whichever they are
pub laid_expressions : (source : Source) → ∥ Laid source ∥₁ → HasExpressions source
laid_expressions source laid m within =
    elim (cases_Bool (is_expression m.body)) [
      | inl is ↦ is
      | inr not ↦ absurd (not_there laid (λ it. false≢true (sym not ∙ spelled_expressions it.tokens source it.spelled m within)))
    ]
