-- Pairs of conflicting things of operations and of deltas.
use Rattle.std.proofs.Common.{◌≡◌, inr, ℕ, ◌+◌, List, ◌++◌, map, length, Option, None, Some, refl, sym, ap, arith}
use Rattle.std.specs.Prelude.{MatchOption}
use Rattle.std.specs.Option.{option_map}
use Rattle.std.proofs.lemmas.List.{length-map}
use Rattle.dj_names.specs.Texts.{Text}
use Rattle.dj_tree.specs.Trees.{Operation, Delta}
use Rattle.dj_tree.specs.Plain.{plain_spot, plain_member, plain_operation}
use Rattle.dj_tree.specs.declared.expression.ExprNode.{ExprNode}
use Rattle.dj_tree.specs.declared.declarations.Spot.{Spot}
use Rattle.dj_tree.specs.declared.declarations.MemberOp.{MemberOp}
use Rattle.dj_tree.specs.declared.declarations.ClassOp.{ClassOp}
use Rattle.dj_tree.specs.declared.declarations.ClassOp.TheVariants.{Adds, Modifies, Removes}
use Rattle.dj_calculus.specs.Contents.{class_name}
use Rattle.dj_calculus.specs.Things.{does, first_steps, thing_of, touched_by}
use Rattle.dj_calculus.specs.Conflicts.{ConflictAt, Disjoint, LeastConflict}
use Rattle.dj_calculus.proofs.Members.{within_flat, from_flat}
use Rattle.dj_calculus_laws.proofs.ForProducts.{no_conflict_elsewhere}
use Rattle.dj_apply.specs.Least.{IsLeastBy}
use Rattle.dj_apply.specs.Touched.{parent_length, touched_length}
use Rattle.dj_apply.specs.Overlaps.{IsNoLater, OperationClash, OperationsClash}
use Rattle.dj_apply.specs.declared.overlaps.Thing.{Thing}

pub no_later_itself : (a : Thing) → IsNoLater a a
no_later_itself a = inr (refl, omega arith)

pub no_later_joins : (a b c : Thing) → IsNoLater a b → IsNoLater b c → IsNoLater a c
no_later_joins a b c p q = grind arith

-- ---- how many things there are

steps_long : (names : List Text) (exprs : List ExprNode) (class : Text) (p : Option Spot) (ms : List MemberOp)
    → length (map (thing_of class) (first_steps (option_map (plain_spot names) p) ++ map does (map (plain_member names exprs) ms))) ≡ parent_length p + length ms
steps_long names exprs class None ms =
    omega (arith, length-map (map does (map (plain_member names exprs) ms)) (thing_of class), length-map (map (plain_member names exprs) ms) does, length-map ms (plain_member names exprs))
steps_long names exprs class (Some parent) ms =
    omega (arith, length-map (map does (map (plain_member names exprs) ms)) (thing_of class), length-map (map (plain_member names exprs) ms) does, length-map ms (plain_member names exprs))

pub touched_long : (names : List Text) (exprs : List ExprNode) (x : ClassOp) → length (touched_by (plain_operation names exprs x)) ≡ touched_length x
touched_long names exprs (Adds c) = refl
touched_long names exprs (Removes c) = refl
touched_long names exprs (Modifies c) = omega (arith, steps_long names exprs (plain_spot names c.spot).text c.parent c.members)

-- ---- operations on other classes

pub apart_clash : (x y : Operation) → ¬ ((class_name x).text ≡ (class_name y).text) → IsLeastBy IsNoLater (OperationClash x y) None
apart_clash x y apart found clash = no_conflict_elsewhere x y apart clash.0 clash.2.0 clash.1 clash.2.1 clash.2.2.0

-- ---- deltas

module _ (one other : Delta) where
  pub conflict_from : (found : Thing) → OperationsClash one.operations other.operations found → ConflictAt one other found.first found.second
  conflict_from found (x, of_one, (y, of_other, (a, of_x, (b, of_y, (clash, is))))) =
      record {
        a = a;
        b = b;
        of_one = within_flat touched_by one.operations x a of_one of_x;
        of_other = within_flat touched_by other.operations y b of_other of_y;
        clash = clash;
        first_at = sym (ap (λ (t : Thing). t.first) is);
        second_at = sym (ap (λ (t : Thing). t.second) is);
      }

  pub clash_from : (p q : ℕ) → ConflictAt one other p q → OperationsClash one.operations other.operations (record { first = p; second = q })
  clash_from p q at =
      let x = from_flat touched_by one.operations at.a at.of_one in
      let y = from_flat touched_by other.operations at.b at.of_other in
      (x.0, x.1, (y.0, y.1, (at.a, x.2, (at.b, y.2, (at.clash, same_pair p q at.a.at at.b.at at.first_at at.second_at)))))
    where
      same_pair : (p q a b : ℕ) → a ≡ p → b ≡ q → ◌≡◌ {A = Thing} (record { first = p; second = q }) (record { first = a; second = b })
      same_pair p q a b e h = cc

  pub no_overlap : IsLeastBy IsNoLater (OperationsClash one.operations other.operations) None → Disjoint one other
  no_overlap none (p, (q, at)) = none (record { first = p; second = q }) (clash_from p q at)

  pub least_conflict : (found : Thing) → IsLeastBy IsNoLater (OperationsClash one.operations other.operations) (Some found) → LeastConflict one other found.first found.second
  least_conflict found is = record { clash = conflict_from found is.0; least = λ p q at. is.1 (record { first = p; second = q }) (clash_from p q at) }

  pub overlap_told : (o : Option Thing) → IsLeastBy IsNoLater (OperationsClash one.operations other.operations) o → MatchOption o (Disjoint one other) (λ found. LeastConflict one other found.first found.second)
  overlap_told None is = no_overlap is
  overlap_told (Some found) is = least_conflict found is
