-- How the symbols of an expression begin.
use Rattle.std.proofs.Common.{◌≡◌, true, false, List, [], ◌∷◌, ◌++◌, refl, ap}
use Rattle.std.specs.Prelude.{codes}
use Rattle.dj_lexer.specs.Symbols.{Symbol}
use Rattle.dj_lexer.specs.declared.token.Dialect.{Dialect}
use Rattle.dj_tree.specs.Words.{word, sign, named, IsName, is_reserved}
use Rattle.dj_tree.specs.Trees.{Spot, Expr, variable}
use Rattle.dj_tree.specs.ExprGrammar as grammar
use Rattle.dj_tree.specs.ExprGrammar.{ExprLevel, SpellsAt, SpellsEach}
use Rattle.dj_reader.specs.Terminals.{is_the_sign, is_a_name}
use Rattle.dj_expr_reader.specs.Machine.{begins_operand}

-- They are a single name, or a name and something behind it that closes nothing, or begin with no name.
pub data Begun : List Symbol → Expr → Type 0 where
  single : (x : Spot) → IsName x → Begun (named x ∷ []) (variable x)
  name_first : {e : Expr} (x : Spot) → IsName x → (s : Symbol) (rest : List Symbol) → is_the_sign (codes ")") s ≡ false → Begun (named x ∷ s ∷ rest) e
  other_first : {e : Expr} (s : Symbol) (rest : List Symbol) → is_a_name s ≡ false → begins_operand s ≡ true → is_the_sign (codes ")") s ≡ false → Begun (s ∷ rest) e

longer : {s : List Symbol} {e e' : Expr} (t : Symbol) (rest : List Symbol) → is_the_sign (codes ")") t ≡ false → Begun s e → Begun (s ++ t ∷ rest) e'
longer t rest h (single x i) = name_first x i t rest h
longer t rest h (name_first x i s more k) = name_first x i s (more ++ t ∷ rest) k
longer t rest h (other_first s more n b c) = other_first s (more ++ t ∷ rest) n b c

pub begun : {d : Dialect} {l : ExprLevel} {s : List Symbol} {e : Expr} → SpellsAt d l s e → Begun s e
unfolding is_reserved
begun (grammar.assigned {t = t} dot equals f i x y) = longer (sign (codes ".") dot) (named f ∷ sign (codes "=") equals ∷ t) refl (begun x)
begun (grammar.one_unary x) = begun x
begun (grammar.cast {s = s} o c class i x) = other_first (sign (codes "(") o) (named class ∷ sign (codes ")") c ∷ s) refl refl refl
begun (grammar.one_postfix x) = begun x
begun (grammar.field dot f i x) = longer (sign (codes ".") dot) (named f ∷ []) refl (begun x)
begun (grammar.call {t = t} dot o c m i x y) = longer (sign (codes ".") dot) (named m ∷ sign (codes "(") o ∷ (t ++ sign (codes ")") c ∷ [])) refl (begun x)
begun (grammar.one_primary x) = begun x
begun (grammar.this_word at) = other_first (word (codes "this") at) [] refl refl refl
begun (grammar.null_word at) = other_first (word (codes "null") at) [] refl refl refl
begun (grammar.variable_name x i) = single x i
begun (grammar.original {t = t} at o c y) = name_first (record { text = codes "original"; at = at }) refl (sign (codes "(") o) (t ++ sign (codes ")") c ∷ []) refl
begun (grammar.new_object at o c class i) = other_first (word (codes "new") at) (named class ∷ sign (codes "(") o ∷ sign (codes ")") c ∷ []) refl refl refl
begun (grammar.in_parentheses {s = s} o c x) = other_first (sign (codes "(") o) (s ++ sign (codes ")") c ∷ []) refl refl refl

-- The first of them begins an operand.
pub record First (s : List Symbol) : Type 0 where
  pub symbol : Symbol
  pub rest : List Symbol
  pub is : s ≡ symbol ∷ rest
  pub begins : begins_operand symbol ≡ true
  pub opens : is_the_sign (codes ")") symbol ≡ false

pub first_of_all : {s : List Symbol} {e : Expr} → Begun s e → First s
first_of_all (single x i) = record { symbol = named x; rest = []; is = refl; begins = rw i refl; opens = refl }
first_of_all (name_first x i s more h) = record { symbol = named x; rest = s ∷ more; is = refl; begins = rw i refl; opens = refl }
first_of_all (other_first s more n b c) = record { symbol = s; rest = more; is = refl; begins = b; opens = c }

pub first_of_each : {d : Dialect} {s : List Symbol} {es : List Expr} → SpellsEach d s es → First s
first_of_each (grammar.one x) = first_of_all (begun x)
first_of_each (grammar.next {t = t} comma x y) =
    let f = first_of_each x in
    record { symbol = f.symbol; rest = f.rest ++ sign (codes ",") comma ∷ t; is = ap (λ l. l ++ sign (codes ",") comma ∷ t) f.is; begins = f.begins; opens = f.opens }
