-- Which rules operations, tables and nodes can break, and that an operation is undefined exactly where it breaks one.
use Rattle.std.specs.Prelude.{◌≡◌, ◌≢◌, ◌↔◌, ℕ, ◌≤◌, None, Contains}
use Rattle.dj_tree.specs.Trees.{Expr, Operation, Delta, Source}
use Rattle.dj_calculus.specs.Accepted.{IsAccepted}
use Rattle.dj_calculus.specs.Tables.{Table}
use Rattle.dj_calculus.specs.Operations.{apply}
use Rattle.dj_calculus.specs.Typing.{Home}
use Rattle.dj_calculus.specs.BodyRules.{NodeRule}
use Rattle.dj_calculus.specs.TableRules.{TableRule}
use Rattle.dj_calculus.specs.LineRules.{OperationRule}

-- an operation breaks rules from 2 to 8, a table from 9 to 23, and a node from 14 to 23 but 21
abbrev pub OperationRules : Type 0
OperationRules = (t : Table) (x : Operation) (rule at : ℕ) → OperationRule t x rule at → (2 ≤ rule) × (rule ≤ 8)

abbrev pub TableRulesRange : Type 0
TableRulesRange = (t : Table) (rule at : ℕ) → TableRule t rule at → (9 ≤ rule) × (rule ≤ 23)

abbrev pub NodeRules : Type 0
NodeRules = (t : Table) (home : Home) (e : Expr) (rule at : ℕ) → NodeRule t home e rule at → (14 ≤ rule) × (rule ≤ 23) × (rule ≢ 21)

-- An operation of a delta of an accepted source is undefined on a table exactly where it breaks a rule there.
abbrev pub UndefinedExactlyIf : Type 0
UndefinedExactlyIf = (source : Source) (delta : Delta) (x : Operation) (t : Table) → IsAccepted source → Contains source.deltas delta
    → Contains delta.operations x → (apply x t ≡ None) ↔ ((rule : ℕ) × ((at : ℕ) × OperationRule t x rule at))
