-- Each operation, and each delta, takes a symbol.
use Rattle.std.proofs.Common.{◌≡◌, List, ◌∷◌, refl}
use Rattle.std.specs.Prelude.{codes}
use Rattle.dj_lexer.specs.Symbols.{Symbol}
use Rattle.dj_lexer.specs.declared.token.Dialect.TheVariants.{Line}
use Rattle.dj_tree.specs.Words.{word}
use Rattle.dj_tree.specs.Trees.{Expr, MemberOperation, Operation, Delta}
use Rattle.dj_tree.specs.ExprGrammar.{SpellsExpr}
use Rattle.dj_tree.specs.LineGrammar as lines
use Rattle.dj_tree.specs.LineGrammar.{SpellsMemberOperation, SpellsOperation, SpellsDelta}
use Rattle.dj_reader.specs.Reading.{Outcome, IsReader, IsSign}
use Rattle.dj_reader.proofs.Loops.{Shrinks, shrinks}
use Rattle.dj_declarations.specs.Readings.{member_operation_reading, operation_reading, delta_reading}
use Rattle.dj_declarations.proofs.OperationReaders.{member_operation_reads, operation_reads, delta_reads}

module _ (expr : List Symbol → Outcome Expr) (is : IsReader (SpellsExpr Line) (IsSign (codes ";")) expr) where
  pub member_operations_shrink : Shrinks (member_operation_reading expr)
  member_operations_shrink = shrinks begun (member_operation_reads expr is)
    where
      begun : (s : List Symbol) (o : MemberOperation) → SpellsMemberOperation s o → (first : Symbol) × ((rest : List Symbol) × (s ≡ first ∷ rest))
      begun s o (lines.adds at p) = (word (codes "adds") at, (_, refl))
      begun s o (lines.modifies at p) = (word (codes "modifies") at, (_, refl))
      begun s o (lines.field_removed at a b x i) = (word (codes "removes") at, (_, refl))
      begun s o (lines.method_removed at a b x i) = (word (codes "removes") at, (_, refl))

  pub operations_shrink : Shrinks (operation_reading expr)
  operations_shrink = shrinks begun (operation_reads expr is)
    where
      begun : (s : List Symbol) (o : Operation) → SpellsOperation s o → (first : Symbol) × ((rest : List Symbol) × (s ≡ first ∷ rest))
      begun s o (lines.class_added at p) = (word (codes "adds") at, (_, refl))
      begun s o (lines.class_modified at k a b x i o2 many) = (word (codes "modifies") at, (_, refl))
      begun s o (lines.class_removed at a b x i) = (word (codes "removes") at, (_, refl))

  pub deltas_shrink : Shrinks (delta_reading expr)
  deltas_shrink = shrinks begun (delta_reads expr is)
    where
      begun : (s : List Symbol) (d : Delta) → SpellsDelta s d → (first : Symbol) × ((rest : List Symbol) × (s ≡ first ∷ rest))
      begun s d (lines.delta at a b y i many) = (word (codes "delta") at, (_, refl))
