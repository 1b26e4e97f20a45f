-- The worked examples of the grammar.
use Rattle.std.proofs.Common.{◌≡◌, ◌≢◌, ℕ, List, [], ◌∷◌, ◌++◌, refl, sym, ap, ◌∙◌}
use Rattle.std.specs.Prelude.{codes}
use Rattle.dj_lexer.specs.Symbols.{Symbol}
use Rattle.dj_lexer.specs.declared.token.Dialect.{Dialect}
use Rattle.dj_lexer.specs.declared.token.TokenKind.TheVariants.{Word, Symbol as Sign}
use Rattle.dj_tree.specs.Words.{word, sign, named, IsName, is_reserved}
use Rattle.dj_tree.specs.Repeats as repeats
use Rattle.dj_tree.specs.Repeats.{Many, AfterComma, Listing}
use Rattle.dj_tree.specs.FormulaGrammar as formulas
use Rattle.dj_tree.specs.ExprGrammar as exprs
use Rattle.dj_tree.specs.ExprGrammar.{ExprLevel, SpellsAt}
use Rattle.dj_tree.specs.ClassGrammar as classes
use Rattle.dj_tree.specs.LineGrammar as lines
use Rattle.dj_tree.specs.LineGrammar.{SpellsName, SpellsSource}
use Rattle.dj_tree.specs.Trees.{Spot, Expr, Source, cast_to, variable}
use Rattle.dj_tree.specs.Examples.{ALine, NoLine, ACast, NoCast, AssignmentsToTheRight, FieldsToTheLeft, OperatorsGroup, NegationsBindTightest, spot, in_brackets, unended_tokens}

-- ---- formulas

pub operators : OperatorsGroup
operators a b x y z i j k =
    let x_and = formulas.one_not (formulas.feature_name x i) in
    let y_and = formulas.one_not (formulas.feature_name y j) in
    let z_and = formulas.one_not (formulas.feature_name z k) in
    let x_or = formulas.one_and x_and in
    let y_or = formulas.one_and y_and in
    let z_or = formulas.one_and z_and in
    let x_implies = formulas.one_or x_or in
    let y_implies = formulas.one_or y_or in
    let z_implies = formulas.one_or z_or in (
      formulas.one_implies (formulas.implies a x_or (formulas.implies b y_or z_implies)),
      formulas.same b (formulas.same a (formulas.one_implies x_implies) y_implies) z_implies,
      formulas.one_implies (formulas.one_or (formulas.or b (formulas.or a x_or y_and) z_and)),
      formulas.one_implies (formulas.one_or (formulas.one_and (formulas.and_doubled b (formulas.and_doubled a x_and (formulas.feature_name y j)) (formulas.feature_name z k)))),
    )

pub negations : NegationsBindTightest
negations a b x y i j =
    formulas.one_implies (formulas.one_or (formulas.one_and (formulas.and b (formulas.one_not (formulas.not a (formulas.feature_name x i))) (formulas.feature_name y j))))

-- ---- expressions

postfix_name : (d : Dialect) (x : Spot) → IsName x → exprs.SpellsAt d exprs.Postfix (named x ∷ []) (variable x)
postfix_name d x i = exprs.one_primary (exprs.variable_name x i)

whole_name : (d : Dialect) (x : Spot) → IsName x → exprs.SpellsAt d exprs.Whole (named x ∷ []) (variable x)
whole_name d x i = exprs.one_unary (exprs.one_postfix (postfix_name d x i))

pub a_cast : ACast
a_cast d a b x y i j = exprs.one_unary (exprs.cast a b x i (exprs.one_postfix (postfix_name d y j)))

pub assignments : AssignmentsToTheRight
assignments d a b c e x f y g z i j k l m =
    exprs.assigned a b f j (postfix_name d x i) (exprs.assigned c e g l (postfix_name d y k) (whole_name d z m))

pub fields : FieldsToTheLeft
fields d a b x f g i j k = exprs.one_unary (exprs.one_postfix (exprs.field b g k (exprs.field a f j (postfix_name d x i))))

-- a word is no sign, and signs of other texts are others
word_no_sign : {t u : List ℕ} {a b : ℕ} → word t a ≡ sign u b → ⊥
word_no_sign e = let kinds : Word ≡ Sign = ap (λ s. s.kind) e in cc

text_of_sign : {t u : List ℕ} {a b : ℕ} → sign t a ≡ sign u b → t ≡ u
text_of_sign e = ap (λ s. s.text) e

open_no_dot : {a b : ℕ} → sign (codes "(") a ≡ sign (codes ".") b → ⊥
open_no_dot e = let texts : codes "(" ≡ codes "." = text_of_sign e in cc

-- the tokens begin with one that is no `.`
record BeginsNoDot (s : List Symbol) : Type 0 where
  first : Symbol
  rest : List Symbol
  begins : s ≡ first ∷ rest
  no_dot : (at : ℕ) → first ≢ sign (codes ".") at

longer : {s : List Symbol} (t : List Symbol) → BeginsNoDot s → BeginsNoDot (s ++ t)
longer t b = record { first = b.first; rest = b.rest ++ t; begins = ap (λ l. l ++ t) b.begins; no_dot = b.no_dot }

begins : {d : Dialect} {l : ExprLevel} {s : List Symbol} {e : Expr} → SpellsAt d l s e → BeginsNoDot s
begins (exprs.assigned dot equals f i x y) = longer _ (begins x)
begins (exprs.one_unary x) = begins x
begins (exprs.cast a b class i x) = record { first = _; rest = _; begins = refl; no_dot = λ at e. open_no_dot e }
begins (exprs.one_postfix x) = begins x
begins (exprs.field dot f i x) = longer _ (begins x)
begins (exprs.call dot a b m i x y) = longer _ (begins x)
begins (exprs.one_primary x) = begins x
begins (exprs.this_word at) = record { first = _; rest = _; begins = refl; no_dot = λ at e. word_no_sign e }
begins (exprs.null_word at) = record { first = _; rest = _; begins = refl; no_dot = λ at e. word_no_sign e }
begins (exprs.variable_name x i) = record { first = _; rest = _; begins = refl; no_dot = λ at e. word_no_sign e }
begins (exprs.original at a b x) = record { first = _; rest = _; begins = refl; no_dot = λ at e. word_no_sign e }
begins (exprs.new_object at a b class i) = record { first = _; rest = _; begins = refl; no_dot = λ at e. word_no_sign e }
begins (exprs.in_parentheses a b x) = record { first = _; rest = _; begins = refl; no_dot = λ at e. open_no_dot e }

-- a symbol at the end of three others is the last of four
last_of_four : (s : List Symbol) (x a b c e : Symbol) → s ++ x ∷ [] ≡ a ∷ b ∷ c ∷ e ∷ [] → x ≡ e
last_of_four [] x a b c e h = cc
last_of_four (p ∷ []) x a b c e h = cc
last_of_four (p ∷ q ∷ []) x a b c e h = cc
last_of_four (p ∷ q ∷ r ∷ []) x a b c e h = cc
last_of_four (p ∷ q ∷ r ∷ t ∷ []) x a b c e h = cc
last_of_four (p ∷ q ∷ r ∷ t ∷ u ∷ s) x a b c e h = cc

no_cast_of : {d : Dialect} {l : ExprLevel} {s : List Symbol} {whole : Expr} → SpellsAt d l s whole → (a b c : ℕ) (x f : Spot) → s ≡ in_brackets a b c x f
    → (class : Spot) (e : Expr) → whole ≡ cast_to class e → ⊥
no_cast_of (exprs.assigned dot equals g i y z) a b c x f h class e same = cc
no_cast_of (exprs.one_unary y) a b c x f h class e same = no_cast_of y a b c x f h class e same
no_cast_of (exprs.cast {s = s} _ _ k i y) a b c x f h class e same = no_dot_front (begins y) c f (named f ∷ []) cc
  where
    no_dot_front : {s : List Symbol} → BeginsNoDot s → (c : ℕ) (f : Spot) (rest : List Symbol) → s ≡ sign (codes ".") c ∷ rest → ⊥
    no_dot_front v c f rest h = let same : v.first ∷ v.rest ≡ sign (codes ".") c ∷ rest = sym v.begins ∙ h in v.no_dot c cc
no_cast_of (exprs.one_postfix y) a b c x f h class e same = no_cast_of y a b c x f h class e same
no_cast_of (exprs.field dot g i y) a b c x f h class e same = cc
no_cast_of (exprs.call dot _ _ m i y z) a b c x f h class e same = cc
no_cast_of (exprs.one_primary y) a b c x f h class e same = no_cast_of y a b c x f h class e same
no_cast_of (exprs.this_word at) a b c x f h class e same = cc
no_cast_of (exprs.null_word at) a b c x f h class e same = cc
no_cast_of (exprs.variable_name y i) a b c x f h class e same = cc
no_cast_of (exprs.original at _ _ y) a b c x f h class e same = cc
no_cast_of (exprs.new_object at _ _ k i) a b c x f h class e same = cc
no_cast_of (exprs.in_parentheses {s = s} o p y) a b c x f h class e same =
    let last : sign (codes ")") p ≡ named f = last_of_four s (sign (codes ")") p) (named x) (sign (codes ")") b) (sign (codes ".") c) (named f) cc in
    word_no_sign (sym last)

pub no_cast : NoCast
no_cast d a b c x f i j = (
  exprs.one_unary (exprs.one_postfix (exprs.field c f j (exprs.one_primary (exprs.in_parentheses a b (whole_name d x i))))),
  λ class e spelled. no_cast_of spelled a b c x f refl class e refl,
)

-- ---- lines

pub a_line : ALine
unfolding is_reserved
a_line =
    lines.source 0 7 9 19 21 28 44 (spot (codes "L") 5) refl (repeats.listed (lines.a_name (spot (codes "A") 18) refl) repeats.none)
    (formulas.one_implies (formulas.one_or (formulas.one_and (formulas.one_not (formulas.feature_name (spot (codes "A") 27) refl)))))
    (repeats.more (lines.part 30 37 42 (spot (codes "p") 35) refl classes.omitted (repeats.more (lines.item 40 (spot (codes "D") 39) refl lines.no_condition) repeats.none)) repeats.none)
    (repeats.more (lines.delta 46 54 73 (spot (codes "D") 52) refl (repeats.more (lines.class_added 56 (classes.class 61 69 71 (spot (codes "C") 67) refl classes.omitted repeats.none)) repeats.none)) repeats.none)

-- after names with commas, and a `;`, there is no list of a name and a word
no_word_behind : {s : List Symbol} {xs : List Spot} → Listing SpellsName s xs → (semicolon : ℕ) (t : List Symbol) (x : Spot) (text : List ℕ) (at : ℕ) (u : List Symbol)
    → s ++ sign (codes ";") semicolon ∷ t ≡ named x ∷ word text at ∷ u → ⊥
no_word_behind repeats.nothing semicolon t x text at u h = let front : sign (codes ";") semicolon ≡ named x = cc in word_no_sign (sym front)
no_word_behind (repeats.listed (lines.a_name y i) ys) semicolon t x text at u h = behind ys cc
  where
    behind : {others : List Symbol} {ys : List Spot} → Many (AfterComma SpellsName) others ys → others ++ sign (codes ";") semicolon ∷ t ≡ word text at ∷ u → ⊥
    behind repeats.none e = let front : sign (codes ";") semicolon ≡ word text at = cc in word_no_sign (sym front)
    behind (repeats.more (repeats.after_comma comma z) zs) e = let front : sign (codes ",") comma ≡ word text at = cc in word_no_sign (sym front)

no_line_of : {s : List Symbol} {source : Source} → SpellsSource s source → s ≡ unended_tokens → ⊥
no_line_of (lines.source {listed = listed} {condition = condition} {chain = chain} {modules = modules} a b c e f g h title i names valid parts deltas) same =
    let behind : listed ++ sign (codes ";") e ∷ word (codes "valid") f ∷ (condition ++ sign (codes ";") g ∷ (chain ++ sign (codes "}") h ∷ modules))
    ≡ word (codes "A") 18 ∷ word (codes "valid") 20 ∷ word (codes "A") 26 ∷ sign (codes ";") 27 ∷ sign (codes "}") 29 ∷ [] = cc in
    no_word_behind names e (word (codes "valid") f ∷ (condition ++ sign (codes ";") g ∷ (chain ++ sign (codes "}") h ∷ modules))) (spot (codes "A") 18) (codes "valid") 20
    (word (codes "A") 26 ∷ sign (codes ";") 27 ∷ sign (codes "}") 29 ∷ []) behind

pub no_line : NoLine
no_line source spelled = no_line_of spelled refl
