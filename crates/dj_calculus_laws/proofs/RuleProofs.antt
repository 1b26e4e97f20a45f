-- The ranges of rules, and undefined operations.
use Rattle.std.proofs.Common.{◌≡◌, ◌≢◌, ◌↔◌, ℕ, ◌≤◌, Option, None, Some, Contains, ap, subst, arith}
use Rattle.dj_tree.specs.Trees.{Expr, Operation, Delta, Source, modifies_class}
use Rattle.std.specs.Option.{option_map}
use Rattle.dj_calculus.specs.Maps.{with_at}
use Rattle.dj_calculus.specs.Contents.{class_name}
use Rattle.dj_calculus.specs.Accepted.{IsAccepted}
use Rattle.dj_calculus.specs.Tables.{Table}
use Rattle.dj_calculus.specs.Operations.{apply}
use Rattle.dj_calculus.specs.Typing.{Home}
use Rattle.dj_calculus.specs.BodyRules.{NodeRule, unknown_variable}
use Rattle.dj_calculus.specs.TableRules.{TableRule, of_node}
use Rattle.dj_calculus.specs.LineRules.{OperationRule, class_there}
use Rattle.dj_calculus.proofs.Members.{either}
use Rattle.dj_calculus.proofs.OperationLemmas.{IsOnce, broken_operation}
use Rattle.dj_calculus.proofs.GoodLemmas.{change_within, members_once}
use Rattle.dj_calculus.proofs.ProductExists.{Broken, defined_or_broken}

pub operation_rules : (t : Table) (x : Operation) (rule at : ℕ) → OperationRule t x rule at → (2 ≤ rule) × (rule ≤ 8)
operation_rules t x rule at (class_there is) = (omega arith, omega arith)
operation_rules t x rule at _ = (omega arith, omega arith)

pub node_rules : (t : Table) (home : Home) (e : Expr) (rule at : ℕ) → NodeRule t home e rule at → (14 ≤ rule) × (rule ≤ 23) × (rule ≢ 21)
node_rules t home e rule at (unknown_variable is) = (omega arith, omega arith, λ same. absurd (omega arith))
node_rules t home e rule at _ = (omega arith, omega arith, λ same. absurd (omega arith))

pub table_rules : (t : Table) (rule at : ℕ) → TableRule t rule at → (9 ≤ rule) × (rule ≤ 23)
table_rules t rule at (of_node home body r p is breaks) = let range = node_rules t home breaks.node rule at breaks.breaks in (omega (arith, range.0), range.1)
table_rules t rule at _ = (omega arith, omega arith)

pub undefined_exactly_if : (source : Source) (delta : Delta) (x : Operation) (t : Table) → IsAccepted source → Contains source.deltas delta
    → Contains delta.operations x → (apply x t ≡ None) ↔ Broken t x
undefined_exactly_if source delta x t accepted of within = (
  λ none. either (defined_or_broken t x once) (λ d. absurd (not_both none d.1)) (λ b. b),
  λ broken. ap (option_map (λ held. with_at t (class_name x).text held)) (broken_operation t x broken.0 broken.1.0 broken.1.1 once),
)
  where
    once : (c : _) → x ≡ modifies_class c → IsOnce c
    once c same = members_once source accepted c (change_within source accepted delta c of (subst (λ y. Contains delta.operations y) same within))

    not_both : {o : Option Table} {u : Table} → o ≡ None → o ≡ Some u → ⊥
    not_both p q = absurd cc
