-- The grammar of expressions: which tokens spell which expression. One case a production. Java has all but `original(..)`.
use Rattle.std.specs.Prelude.{ℕ, List, [], ◌∷◌, ◌++◌, codes}
use Rattle.dj_lexer.specs.Symbols.{Symbol}
use Rattle.dj_lexer.specs.declared.token.Dialect.{Dialect}
use Rattle.dj_lexer.specs.declared.token.Dialect.TheVariants.{Line}
use Rattle.dj_tree.specs.Words.{word, sign, named, IsName}
use Rattle.dj_tree.specs.Trees.{Spot, Expr, variable, this_at, null_at, field_of, call_of, new_of, cast_to, assignment, original_at}

-- the nonterminals of expressions
pub data ExprLevel : Type 0 where
  Whole : ExprLevel
  Unary : ExprLevel
  Postfix : ExprLevel
  Primary : ExprLevel

mutual
  pub data SpellsAt : Dialect → ExprLevel → List Symbol → Expr → Type 0 where
    -- expr = postfix "." NAME "=" expr | unary
    assigned : {d : Dialect} {s t : List Symbol} {e v : Expr} (dot equals : ℕ) (f : Spot) → IsName f → SpellsAt d Postfix s e → SpellsAt d Whole t v
        → SpellsAt d Whole (s ++ sign (codes ".") dot ∷ named f ∷ sign (codes "=") equals ∷ t) (assignment e f v)
    one_unary : {d : Dialect} {s : List Symbol} {e : Expr} → SpellsAt d Unary s e → SpellsAt d Whole s e
    -- unary = "(" NAME ")" unary | postfix
    -- Nothing that begins a unary can follow a name in parentheses otherwise, so what looks like a cast is one.
    cast : {d : Dialect} {s : List Symbol} {e : Expr} (opening closing : ℕ) (class : Spot) → IsName class → SpellsAt d Unary s e
        → SpellsAt d Unary (sign (codes "(") opening ∷ named class ∷ sign (codes ")") closing ∷ s) (cast_to class e)
    one_postfix : {d : Dialect} {s : List Symbol} {e : Expr} → SpellsAt d Postfix s e → SpellsAt d Unary s e
    -- postfix = primary { "." NAME [ "(" args ")" ] }
    field : {d : Dialect} {s : List Symbol} {e : Expr} (dot : ℕ) (f : Spot) → IsName f → SpellsAt d Postfix s e
        → SpellsAt d Postfix (s ++ sign (codes ".") dot ∷ named f ∷ []) (field_of e f)
    call : {d : Dialect} {s t : List Symbol} {e : Expr} {arguments : List Expr} (dot opening closing : ℕ) (m : Spot) → IsName m → SpellsAt d Postfix s e
        → SpellsArguments d t arguments
        → SpellsAt d Postfix (s ++ sign (codes ".") dot ∷ named m ∷ sign (codes "(") opening ∷ (t ++ sign (codes ")") closing ∷ [])) (call_of e m arguments)
    one_primary : {d : Dialect} {s : List Symbol} {e : Expr} → SpellsAt d Primary s e → SpellsAt d Postfix s e
    -- primary = "this" | "null" | NAME | "original" "(" args ")" | "new" NAME "(" ")" | "(" expr ")"
    this_word : {d : Dialect} (at : ℕ) → SpellsAt d Primary (word (codes "this") at ∷ []) (this_at at)
    null_word : {d : Dialect} (at : ℕ) → SpellsAt d Primary (word (codes "null") at ∷ []) (null_at at)
    variable_name : {d : Dialect} (x : Spot) → IsName x → SpellsAt d Primary (named x ∷ []) (variable x)
    original : {t : List Symbol} {arguments : List Expr} (at opening closing : ℕ) → SpellsArguments Line t arguments
        → SpellsAt Line Primary (word (codes "original") at ∷ sign (codes "(") opening ∷ (t ++ sign (codes ")") closing ∷ [])) (original_at at arguments)
    new_object : {d : Dialect} (at opening closing : ℕ) (class : Spot) → IsName class
        → SpellsAt d Primary (word (codes "new") at ∷ named class ∷ sign (codes "(") opening ∷ sign (codes ")") closing ∷ []) (new_of class)
    in_parentheses : {d : Dialect} {s : List Symbol} {e : Expr} (opening closing : ℕ) → SpellsAt d Whole s e
        → SpellsAt d Primary (sign (codes "(") opening ∷ (s ++ sign (codes ")") closing ∷ [])) e

  -- args = [ expr { "," expr } ]
  pub data SpellsArguments : Dialect → List Symbol → List Expr → Type 0 where
    no_arguments : {d : Dialect} → SpellsArguments d [] []
    some_arguments : {d : Dialect} {s : List Symbol} {arguments : List Expr} → SpellsEach d s arguments → SpellsArguments d s arguments

  -- expr { "," expr }
  pub data SpellsEach : Dialect → List Symbol → List Expr → Type 0 where
    one : {d : Dialect} {s : List Symbol} {e : Expr} → SpellsAt d Whole s e → SpellsEach d s (e ∷ [])
    next : {d : Dialect} {s t : List Symbol} {es : List Expr} {e : Expr} (comma : ℕ) → SpellsEach d s es → SpellsAt d Whole t e
        → SpellsEach d (s ++ sign (codes ",") comma ∷ t) (es ++ e ∷ [])

-- the tokens of a dialect spell the expression
abbrev pub SpellsExpr : Dialect → List Symbol → Expr → Type 0
SpellsExpr d s e = SpellsAt d Whole s e
