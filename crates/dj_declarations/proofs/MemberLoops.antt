-- What a parameter, a member or a class takes.
use Rattle.std.proofs.Common.{◌≡◌, List, [], ◌∷◌, refl}
use Rattle.std.specs.Prelude.{codes}
use Rattle.dj_lexer.specs.Symbols.{Symbol}
use Rattle.dj_lexer.specs.declared.token.Dialect.{Dialect}
use Rattle.dj_tree.specs.Words.{sign, named}
use Rattle.dj_tree.specs.Trees.{Expr, Field}
use Rattle.dj_tree.specs.ExprGrammar.{SpellsExpr}
use Rattle.dj_tree.specs.ClassGrammar.{SpellsTyped}
use Rattle.dj_reader.specs.Reading.{Outcome, IsReader, Anything, IsSign}
use Rattle.dj_reader.specs.Combining.{comma_and, SpellsSign, the_sign, SpellsBoth, one_and_other, SpellsMapped, changed}
use Rattle.dj_reader.proofs.Loops.{Shrinks, shrinks}
use Rattle.dj_reader.proofs.Pieces.{sign_reads, some_name}
use Rattle.dj_declarations.specs.Readings.{second, typed_reading, member_reading, class_reading}
use Rattle.dj_declarations.proofs.Pieces.{joins_any, behind_reads, BeginsOpen}
use Rattle.dj_declarations.proofs.MemberReaders.{some_field, some_typed, typed_reads, member_reads, member_opens, class_reads, class_opens}

-- pieces that begin with another symbol than `}` take a symbol
pub opening_shrinks : {X : Type 0} {Spells : List Symbol → X → Type 0} {piece : List Symbol → Outcome X} → BeginsOpen Spells → IsReader Spells Anything piece → Shrinks piece
opening_shrinks begins is = shrinks (λ s x p. let b = begins s x p in (b.0, (b.1.0, b.1.1))) is

pub comma_shrinks : Shrinks (comma_and typed_reading)
comma_shrinks = shrinks begins (behind_reads (joins_any (named some_name ∷ named some_name ∷ []) some_field some_typed) (sign_reads (codes ",")) typed_reads)
  where
    begins : (s : List Symbol) (f : Field) → SpellsMapped second (SpellsBoth (SpellsSign (codes ",")) SpellsTyped) s f → (first : Symbol) × ((rest : List Symbol) × (s ≡ first ∷ rest))
    begins s f (changed (one_and_other {t = t} (the_sign at) q)) = (sign (codes ",") at, (t, refl))

module _ (d : Dialect) (expr : List Symbol → Outcome Expr) (is : IsReader (SpellsExpr d) (IsSign (codes ";")) expr) where
  pub member_shrinks : Shrinks (member_reading expr)
  member_shrinks = opening_shrinks (member_opens d expr is) (member_reads d expr is)

  pub class_shrinks : Shrinks (class_reading expr)
  class_shrinks = opening_shrinks (class_opens d expr is) (class_reads d expr is)
