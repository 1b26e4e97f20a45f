-- The canonical text of an expression says it.
use Rattle.std.proofs.Common.{◌≡◌, ℕ, ◌+◌, Bool, false, List, [], ◌∷◌, ◌++◌, map, length, codes, refl, sym, ap, ◌∙◌, subst, append_assoc}
use Rattle.std.proofs.lemmas.List.{append-nil}
use Rattle.dj_names.specs.Texts.{Text}
use Rattle.arena_walk.specs.Tree.{Trees, branch, no_trees, tree_and, trees_of, root_of, fold_tree, fold_each}
use Rattle.dj_lexer.specs.Symbols.{Symbol}
use Rattle.dj_lexer.specs.declared.token.Dialect.TheVariants.{Java}
use Rattle.dj_tree.specs.Words.{sign, named}
use Rattle.dj_tree.specs.Trees.{Spot, Expr, ExprForm, VariableForm, ThisForm, NullForm, FieldForm, CallForm, NewForm, CastForm, AssignForm, OriginalForm}
use Rattle.dj_tree.specs.Trees.{variable, this_at, null_at, field_of, call_of, new_of, cast_to, assignment}
use Rattle.dj_tree.specs.ExprGrammar.{ExprLevel, Whole, Unary, Postfix, Primary, SpellsAt, SpellsArguments, no_arguments, some_arguments, SpellsEach, one, next}
use Rattle.dj_tree.specs.ExprGrammar as grammar
use Rattle.dj_calculus.specs.Tables.{unplaced, unplaced_form, unplaced_expr}
use Rattle.dj_calculus.specs.Expressions.{IsExpression}
use Rattle.dj_calculus.specs.JavaText.{in_parentheses, receiver, operand, listed, written_over, expression_text}
use Rattle.dj_calculus.proofs.ExpressionForms.{Formed, a_variable, a_this, a_null, a_new, a_cast, a_field, an_assignment, a_call, an_original, EachFormed, none_formed, formed_and, formed}
use Rattle.java_text_laws.specs.Writable.{IsJavaName}
use Rattle.java_text_laws.proofs.Bits.{Bit, a_word, a_mark, space, opening, closing, comma, dot, equals, text_of, placed, Apart, ends_word, apart_join, text_join, placed_join}
use Rattle.java_text_laws.proofs.Said.{Said, lifted, name_is_word, this_is_word, null_is_word, new_is_word}

-- the level of the grammar at which an expression of this form is spelled without parentheses
abbrev level_of : ExprForm → ExprLevel
level_of (VariableForm x) = Postfix
level_of (ThisForm at) = Postfix
level_of (NullForm at) = Postfix
level_of (FieldForm f) = Postfix
level_of (CallForm m) = Postfix
level_of (NewForm c) = Postfix
level_of (CastForm c) = Unary
level_of (AssignForm f) = Whole
level_of (OriginalForm at) = Postfix

abbrev pub SaidAt : ExprLevel → Expr → Text → Type 0
SaidAt level u text = Said (SpellsAt Java level) unplaced_expr u text

-- ---- levels and parentheses

to_unary : {u : Expr} {text : Text} → SaidAt Postfix u text → SaidAt Unary u text
to_unary said = lifted (λ s x spelled. grammar.one_postfix spelled) said

to_whole : {u : Expr} {text : Text} → SaidAt Unary u text → SaidAt Whole u text
to_whole said = lifted (λ s x spelled. grammar.one_unary spelled) said

closed : {u : Expr} {text : Text} → SaidAt Whole u text → SaidAt Postfix u (in_parentheses text)
closed said = record {
  bits = a_mark opening ∷ (said.bits ++ a_mark closing ∷ []);
  writes = ap (λ t. 40 ∷ t) (text_join said.bits (a_mark closing ∷ []) ∙ ap (λ t. t ++ 41 ∷ []) said.writes);
  apart = apart_join false said.bits (a_mark closing ∷ []) said.apart tt;
  reads = λ at.
      let it = said.reads (at + 1) in
      let spelled = grammar.one_primary (grammar.in_parentheses at (at + 1 + length (text_of said.bits)) it.1.0) in
      (it.0, (subst (λ s. SpellsAt Java Postfix (sign (codes "(") at ∷ s) it.0) (sym (placed_join (at + 1) said.bits (a_mark closing ∷ []))) spelled, it.1.1));
}

as_whole : (form : ExprForm) {u : Expr} {text : Text} → SaidAt (level_of form) u text → SaidAt Whole u text
as_whole (VariableForm x) said = to_whole (to_unary said)
as_whole (ThisForm at) said = to_whole (to_unary said)
as_whole (NullForm at) said = to_whole (to_unary said)
as_whole (FieldForm f) said = to_whole (to_unary said)
as_whole (CallForm m) said = to_whole (to_unary said)
as_whole (NewForm c) said = to_whole (to_unary said)
as_whole (CastForm c) said = to_whole said
as_whole (AssignForm f) said = said
as_whole (OriginalForm at) said = to_whole (to_unary said)

as_receiver : (form : ExprForm) {u : Expr} {text : Text} → SaidAt (level_of form) u text → SaidAt Postfix u (receiver (record { form = form; text = text }))
as_receiver (VariableForm x) said = said
as_receiver (ThisForm at) said = said
as_receiver (NullForm at) said = said
as_receiver (FieldForm f) said = said
as_receiver (CallForm m) said = said
as_receiver (NewForm c) said = said
as_receiver (CastForm c) said = closed (to_whole said)
as_receiver (AssignForm f) said = closed said
as_receiver (OriginalForm at) said = said

as_operand : (form : ExprForm) {u : Expr} {text : Text} → SaidAt (level_of form) u text → SaidAt Unary u (operand (record { form = form; text = text }))
as_operand (VariableForm x) said = to_unary said
as_operand (ThisForm at) said = to_unary said
as_operand (NullForm at) said = to_unary said
as_operand (FieldForm f) said = to_unary said
as_operand (CallForm m) said = to_unary said
as_operand (NewForm c) said = to_unary said
as_operand (CastForm c) said = said
as_operand (AssignForm f) said = to_unary (closed said)
as_operand (OriginalForm at) said = to_unary said

-- ---- expressions that the text can say

-- The name in the node is one of Java, and the node is no `original(..)`.
abbrev pub IsPlainForm : ExprForm → Type 0
IsPlainForm (VariableForm x) = IsJavaName x.text
IsPlainForm (ThisForm at) = Unit {0}
IsPlainForm (NullForm at) = Unit {0}
IsPlainForm (FieldForm f) = IsJavaName f.text
IsPlainForm (CallForm m) = IsJavaName m.text
IsPlainForm (NewForm c) = IsJavaName c.text
IsPlainForm (CastForm c) = IsJavaName c.text
IsPlainForm (AssignForm f) = IsJavaName f.text
IsPlainForm (OriginalForm at) = ⊥

abbrev mutual
  pub IsPlain : Expr → Type 0
  IsPlain (branch form parts) = IsPlainForm form × ArePlain parts

  pub ArePlain : Trees ExprForm → Type 0
  ArePlain no_trees = Unit {0}
  ArePlain (tree_and e es) = IsPlain e × ArePlain es

-- ---- nodes

said_variable : (x : Spot) → IsJavaName x.text → SaidAt Postfix (variable (unplaced x)) x.text
said_variable x is = record {
  bits = a_word x.text ∷ [];
  writes = append-nil x.text;
  apart = (refl, (name_is_word x.text is, tt));
  reads = λ at. (variable (record { text = x.text; at = at }), (grammar.one_primary (grammar.variable_name (record { text = x.text; at = at }) is.free), refl));
}

said_this : SaidAt Postfix (this_at 0) (codes "this")
said_this = record {
  bits = a_word (codes "this") ∷ [];
  writes = refl;
  apart = (refl, (this_is_word, tt));
  reads = λ at. (this_at at, (grammar.one_primary (grammar.this_word at), refl));
}

said_null : SaidAt Postfix (null_at 0) (codes "null")
said_null = record {
  bits = a_word (codes "null") ∷ [];
  writes = refl;
  apart = (refl, (null_is_word, tt));
  reads = λ at. (null_at at, (grammar.one_primary (grammar.null_word at), refl));
}

said_new : (c : Spot) → IsJavaName c.text → SaidAt Postfix (new_of (unplaced c)) (codes "new " ++ (c.text ++ codes "()"))
said_new c is = record {
  bits = a_word (codes "new") ∷ space ∷ a_word c.text ∷ a_mark opening ∷ a_mark closing ∷ [];
  writes = refl;
  apart = (refl, (new_is_word, (refl, (name_is_word c.text is, tt))));
  reads = λ at.
      let spot : Spot = record { text = c.text; at = at + 3 + 1 } in
      (new_of spot, (grammar.one_primary (grammar.new_object at (at + 3 + 1 + length c.text) (at + 3 + 1 + length c.text + 1) spot is.free), refl));
}

said_field : (f : Spot) → IsJavaName f.text → {u : Expr} {text : Text} → SaidAt Postfix u text → SaidAt Postfix (field_of u (unplaced f)) (text ++ (codes "." ++ f.text))
said_field f is {text = text} said =
    let more = a_mark dot ∷ a_word f.text ∷ [] in
    record {
      bits = said.bits ++ more;
      writes = text_join said.bits more ∙ ap (λ t. t ++ 46 ∷ (f.text ++ [])) said.writes ∙ ap (λ t. text ++ 46 ∷ t) (append-nil f.text);
      apart = apart_join false said.bits more said.apart (refl, (name_is_word f.text is, tt));
      reads = λ at.
          let it = said.reads at in
          let behind = at + length (text_of said.bits) in
          let spot : Spot = record { text = f.text; at = behind + 1 } in
          (field_of it.0 spot, (subst (λ s. SpellsAt Java Postfix s (field_of it.0 spot)) (sym (placed_join at said.bits more)) (grammar.field behind spot is.free it.1.0), ap (λ v. field_of v (unplaced f)) it.1.1));
    }

said_cast : (c : Spot) → IsJavaName c.text → {u : Expr} {text : Text} → SaidAt Unary u text → SaidAt Unary (cast_to (unplaced c) u) (in_parentheses c.text ++ (codes " " ++ text))
said_cast c is {text = text} said = record {
  bits = a_mark opening ∷ a_word c.text ∷ a_mark closing ∷ space ∷ said.bits;
  writes = ap (λ t. 40 ∷ (c.text ++ 41 ∷ 32 ∷ t)) said.writes ∙ ap (λ t. 40 ∷ t) (sym (append_assoc c.text (41 ∷ []) (32 ∷ text)));
  apart = (refl, (name_is_word c.text is, said.apart));
  reads = λ at.
      let spot : Spot = record { text = c.text; at = at + 1 } in
      let behind = at + 1 + length c.text in
      let it = said.reads (behind + 1 + 1) in
      (cast_to spot it.0, (grammar.cast at behind spot is.free it.1.0, ap (λ v. cast_to (unplaced c) v) it.1.1));
}

said_assignment : (f : Spot) → IsJavaName f.text → {u v : Expr} {text value : Text} → SaidAt Postfix u text → SaidAt Whole v value
    → SaidAt Whole (assignment u (unplaced f) v) (text ++ (codes "." ++ (f.text ++ (codes " = " ++ value))))
said_assignment f is {u} {v} {text} {value} said assigned =
    let more = a_mark dot ∷ a_word f.text ∷ space ∷ a_mark equals ∷ space ∷ assigned.bits in
    record {
      bits = said.bits ++ more;
      writes = text_join said.bits more ∙ ap (λ t. t ++ 46 ∷ (f.text ++ 32 ∷ 61 ∷ 32 ∷ text_of assigned.bits)) said.writes
          ∙ ap (λ t. text ++ 46 ∷ (f.text ++ 32 ∷ 61 ∷ 32 ∷ t)) assigned.writes;
      apart = apart_join false said.bits more said.apart (refl, (name_is_word f.text is, assigned.apart));
      reads = λ at.
          let it = said.reads at in
          let behind = at + length (text_of said.bits) in
          let spot : Spot = record { text = f.text; at = behind + 1 } in
          let sign_at = behind + 1 + length f.text + 1 in
          let other = assigned.reads (sign_at + 1 + 1) in
          let same : unplaced_expr (assignment it.0 spot other.0) ≡ assignment u (unplaced f) v =
          ap (λ x. assignment x (unplaced f) (unplaced_expr other.0)) it.1.1 ∙ ap (λ x. assignment u (unplaced f) x) other.1.1 in
          (assignment it.0 spot other.0, (subst (λ s. SpellsAt Java Whole s (assignment it.0 spot other.0)) (sym (placed_join at said.bits more)) (grammar.assigned behind sign_at spot is.free it.1.0 other.1.0), same));
    }

-- ---- arguments

abbrev SaidArguments : List Expr → Text → Type 0
SaidArguments us text = Said (SpellsArguments Java) (map unplaced_expr) us text

-- further arguments, each behind a comma
record SaidOthers (us : List Expr) (text : Text) : Type 0 where
  bits : List Bit
  writes : text_of bits ≡ text
  apart : (after : Bool) → Apart after bits
  reads : (at : ℕ) (s : List Symbol) (es : List Expr) → SpellsEach Java s es → (xs : List Expr) × (SpellsEach Java (s ++ placed at bits) (es ++ xs) × (map unplaced_expr xs ≡ us))

-- texts behind a comma each
abbrev pub others_text : List Text → Text
others_text [] = []
others_text (t ∷ ts) = codes ", " ++ (t ++ others_text ts)

pub listed_first : (t : Text) (ts : List Text) → listed (t ∷ ts) ≡ t ++ others_text ts
listed_first t [] = sym (append-nil t)
listed_first t (o ∷ ts) = ap (λ r. t ++ (codes ", " ++ r)) (listed_first o ts)

no_others : SaidOthers [] []
no_others = record {
  bits = [];
  writes = refl;
  apart = λ after. tt;
  reads = λ at s es spelled. ([], (subst (λ xs. SpellsEach Java (s ++ []) xs) (sym (append-nil es)) (subst (λ t. SpellsEach Java t es) (sym (append-nil s)) spelled), refl));
}

one_more : {u : Expr} {us : List Expr} {text others : Text} → SaidAt Whole u text → SaidOthers us others → SaidOthers (u ∷ us) (codes ", " ++ (text ++ others))
one_more {u} {us} {text} {others} said rest = record {
  bits = a_mark comma ∷ space ∷ (said.bits ++ rest.bits);
  writes = ap (λ t. 44 ∷ 32 ∷ t) (text_join said.bits rest.bits ∙ ap (λ t. t ++ text_of rest.bits) said.writes ∙ ap (λ t. text ++ t) rest.writes);
  apart = λ after. apart_join false said.bits rest.bits said.apart (rest.apart (ends_word false said.bits));
  reads = λ at s es spelled.
      let it = said.reads (at + 1 + 1) in
      let behind = at + 1 + 1 + length (text_of said.bits) in
      let mark = sign (codes ",") at in
      let grown = next at spelled it.1.0 in
      let more = rest.reads behind (s ++ mark ∷ placed (at + 1 + 1) said.bits) (es ++ it.0 ∷ []) grown in
      let symbols : (s ++ mark ∷ placed (at + 1 + 1) said.bits) ++ placed behind rest.bits ≡ s ++ mark ∷ placed (at + 1 + 1) (said.bits ++ rest.bits) =
      append_assoc s (mark ∷ placed (at + 1 + 1) said.bits) (placed behind rest.bits) ∙ ap (λ t. s ++ mark ∷ t) (sym (placed_join (at + 1 + 1) said.bits rest.bits)) in
      let trees : (es ++ it.0 ∷ []) ++ more.0 ≡ es ++ it.0 ∷ more.0 = append_assoc es (it.0 ∷ []) more.0 in
      (it.0 ∷ more.0, (subst (λ t. SpellsEach Java t (es ++ it.0 ∷ more.0)) symbols (subst (λ xs. SpellsEach Java ((s ++ mark ∷ placed (at + 1 + 1) said.bits) ++ placed behind rest.bits) xs) trees more.1.0), ap (λ v. v ∷ map unplaced_expr more.0) it.1.1 ∙ ap (λ vs. u ∷ vs) more.1.1));
}

no_said_arguments : SaidArguments [] []
no_said_arguments = record { bits = []; writes = refl; apart = tt; reads = λ at. ([], (no_arguments, refl)) }

some_said_arguments : {u : Expr} {us : List Expr} {text others : Text} → SaidAt Whole u text → SaidOthers us others → SaidArguments (u ∷ us) (text ++ others)
some_said_arguments {u} {us} {text} {others} said rest = record {
  bits = said.bits ++ rest.bits;
  writes = text_join said.bits rest.bits ∙ ap (λ t. t ++ text_of rest.bits) said.writes ∙ ap (λ t. text ++ t) rest.writes;
  apart = apart_join false said.bits rest.bits said.apart (rest.apart (ends_word false said.bits));
  reads = λ at.
      let it = said.reads at in
      let more = rest.reads (at + length (text_of said.bits)) (placed at said.bits) (it.0 ∷ []) (one it.1.0) in
      (it.0 ∷ more.0, (some_arguments (subst (λ t. SpellsEach Java t (it.0 ∷ more.0)) (sym (placed_join at said.bits rest.bits)) more.1.0), ap (λ v. v ∷ map unplaced_expr more.0) it.1.1 ∙ ap (λ vs. u ∷ vs) more.1.1));
}

-- the parts of a call but for places
parts_unplaced : (es : List Expr) → fold_each (λ form parts. branch (unplaced_form form) (trees_of parts)) (trees_of es) ≡ map unplaced_expr es
parts_unplaced [] = refl
parts_unplaced (e ∷ es) = ap (λ us. unplaced_expr e ∷ us) (parts_unplaced es)

said_call : (m : Spot) → IsJavaName m.text → {u : Expr} {us : List Expr} {text listed_text : Text} → SaidAt Postfix u text → SaidArguments us listed_text
    → SaidAt Postfix (call_of u (unplaced m) us) (text ++ (codes "." ++ (m.text ++ in_parentheses listed_text)))
said_call m is {u} {us} {text} {listed_text} said arguments =
    let more = a_mark dot ∷ a_word m.text ∷ a_mark opening ∷ (arguments.bits ++ a_mark closing ∷ []) in
    record {
      bits = said.bits ++ more;
      writes = text_join said.bits more ∙ ap (λ t. t ++ text_of more) said.writes
          ∙ ap (λ t. text ++ 46 ∷ (m.text ++ 40 ∷ t)) (text_join arguments.bits (a_mark closing ∷ []) ∙ ap (λ t. t ++ 41 ∷ []) arguments.writes);
      apart = apart_join false said.bits more said.apart (refl, (name_is_word m.text is, apart_join false arguments.bits (a_mark closing ∷ []) arguments.apart tt));
      reads = λ at.
          let it = said.reads at in
          let behind = at + length (text_of said.bits) in
          let spot : Spot = record { text = m.text; at = behind + 1 } in
          let inside = behind + 1 + length m.text + 1 in
          let others = arguments.reads inside in
          let spelled = grammar.call behind (behind + 1 + length m.text) (inside + length (text_of arguments.bits)) spot is.free it.1.0 others.1.0 in
          let symbols : placed at (said.bits ++ more) ≡ placed at said.bits ++ sign (codes ".") behind ∷ named spot ∷ sign (codes "(") (behind + 1 + length m.text) ∷ (placed inside arguments.bits ++ sign (codes ")") (inside + length (text_of arguments.bits)) ∷ []) =
          placed_join at said.bits more ∙ ap (λ t. placed at said.bits ++ sign (codes ".") behind ∷ named spot ∷ sign (codes "(") (behind + 1 + length m.text) ∷ t) (placed_join inside arguments.bits (a_mark closing ∷ [])) in
          let same : unplaced_expr (call_of it.0 spot others.0) ≡ call_of u (unplaced m) us =
          ap (λ us. branch (CallForm (unplaced m)) (tree_and (unplaced_expr it.0) (trees_of us))) (parts_unplaced others.0 ∙ others.1.1) ∙ ap (λ v. call_of v (unplaced m) us) it.1.1 in
          (call_of it.0 spot others.0, (subst (λ s. SpellsAt Java Postfix s (call_of it.0 spot others.0)) (sym symbols) spelled, same));
    }

-- ---- whole expressions

-- as a receiver, as what a cast is of, and anywhere
receiver_said : (e : Expr) {u : Expr} → SaidAt (level_of (root_of e)) u (expression_text e) → SaidAt Postfix u (receiver (fold_tree written_over e))
receiver_said (branch form parts) said = as_receiver form said

operand_said : (e : Expr) {u : Expr} → SaidAt (level_of (root_of e)) u (expression_text e) → SaidAt Unary u (operand (fold_tree written_over e))
operand_said (branch form parts) said = as_operand form said

abbrev SaidParts : Trees ExprForm → Type 0
SaidParts es = SaidOthers (fold_each (λ form parts. branch (unplaced_form form) (trees_of parts)) es) (others_text (map (λ w. w.text) (fold_each written_over es)))

mutual
  said_formed : {e : Expr} → Formed e → IsPlain e → SaidAt (level_of (root_of e)) (unplaced_expr e) (expression_text e)
  said_formed (a_variable {x}) plain = said_variable x plain.0
  said_formed a_this plain = said_this
  said_formed a_null plain = said_null
  said_formed (a_new {d}) plain = said_new d plain.0
  said_formed (a_cast {d} {e} is) plain = said_cast d plain.0 (operand_said e (said_formed is plain.1.0))
  said_formed (a_field {e} {f} is) plain = said_field f plain.0 (receiver_said e (said_formed is plain.1.0))
  said_formed (an_assignment {e} {v} {f} is also) plain =
      said_assignment f plain.0 (receiver_said e (said_formed is plain.1.0)) (as_whole (root_of v) (said_formed also plain.1.1.0))
  said_formed (a_call {e} {m} {arguments} is are) plain = said_call m plain.0 (receiver_said e (said_formed is plain.1.0)) (said_arguments are plain.1.1)
  said_formed (an_original are) plain = absurd plain.0

  said_each : {es : Trees ExprForm} → EachFormed es → ArePlain es → SaidParts es
  said_each none_formed plain = no_others
  said_each (formed_and {e = e} {arguments = es} is are) plain = one_more (as_whole (root_of e) (said_formed is plain.0)) (said_each are plain.1)

  said_arguments : {es : Trees ExprForm} → EachFormed es → ArePlain es
      → SaidArguments (fold_each (λ form parts. branch (unplaced_form form) (trees_of parts)) es) (listed (map (λ w. w.text) (fold_each written_over es)))
  said_arguments none_formed plain = no_said_arguments
  said_arguments (formed_and {e = e} {arguments = es} is are) plain =
      subst (SaidArguments _) (sym (listed_first (expression_text e) (map (λ w. w.text) (fold_each written_over es))))
      (some_said_arguments (as_whole (root_of e) (said_formed is plain.0)) (said_each are plain.1))

-- the text of an expression says it
pub said_expression : (e : Expr) → IsExpression e → IsPlain e → SaidAt Whole (unplaced_expr e) (expression_text e)
said_expression e is plain = as_whole (root_of e) (said_formed (formed e is) plain)
