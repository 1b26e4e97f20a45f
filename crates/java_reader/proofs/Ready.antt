-- Classes without a fault can be put into a table, in any order.
use Rattle.std.proofs.Common.{◌≡◌, ℕ, List, map, Contains, All, get_or, sym, subst}
use Rattle.std.specs.List.Sorted.{IsPermutation}
use Rattle.std.proofs.lemmas.List.Elements.{All-contains, All-contains_itself}
use Rattle.std.proofs.lemmas.List.Sorted.{All-permutation, IsPermutation-map}
use Rattle.dj_names.specs.Texts.{Text}
use Rattle.dj_tree.specs.Trees.{Class}
use Rattle.dj_tree.specs.Plain.{plain_method, plain_class}
use Rattle.dj_tree.specs.WellFormed.{IsClass}
use Rattle.dj_tree.specs.declared.declarations.ClassDecl.{ClassDecl}
use Rattle.dj_tree.specs.declared.expression.ExprNode.{ExprNode}
use Rattle.dj_calculus.specs.Entries.{class_entry}
use Rattle.dj_calculus.specs.Expressions.{IsExpression, HaveExpressions}
use Rattle.dj_calculus.specs.JavaFiles.{JavaFault, RepeatedClass, RepeatedMember, JavaFaultStands, repeated_class, object_class, repeated_field, repeated_method, table_of}
use Rattle.dj_calculus.proofs.Members.{mapped_within}
use Rattle.dj_product_laws.proofs.MemberOrders.{entries_permuted}
use Rattle.java_reader.specs.Making.{declared, StandOnce, IsReady}
use Rattle.java_reader.specs.declared.named.Named.{Named}
use Rattle.java_reader.proofs.Orders.{once_reordered}

pub all_of : {X : Type 0} (P : X → Type 0) (xs : List X) → ((x : X) → Contains xs x → P x) → All P xs
all_of P xs each i d low = each (get_or xs i d) (All-contains_itself xs i d low)

-- what `by_name` gives, over slices that are seen as these lists
pub sorted : {D : Type 0} {given all : List D} {ns ms : List (Named D)} → given ≡ all → ns ≡ ms → IsPermutation given (declared ms) → IsPermutation all (declared ns)
sorted {given = given} {ns = ns} same slice permuted = subst (λ ds. IsPermutation ds (declared ns)) same (subst (λ xs. IsPermutation given (declared xs)) (sym slice) permuted)

module _ (names : List Text) (exprs : List ExprNode) (cs ds : List ClassDecl) (permuted : IsPermutation cs ds) (known : All (IsClass names exprs) cs)
    (expressions : HaveExpressions (map (plain_class names exprs) cs)) (sound : (fault : JavaFault) (at : ℕ) → ¬ (JavaFaultStands (map (plain_class names exprs) cs) fault at)) where
  ready : (c : ClassDecl) → Contains cs c → IsReady names exprs c
  ready c within =
      let there = mapped_within (plain_class names exprs) cs c within in
      record {
        known = All-contains (IsClass names exprs) cs c known within;
        declarable = λ same. sound RepeatedClass c.spot.at (object_class (plain_class names exprs c) there same);
        fields = λ at r. sound RepeatedMember at (repeated_field (plain_class names exprs c) at there r);
        methods = λ at r. sound RepeatedMember at (repeated_method (plain_class names exprs c) at there r);
        bodies = all_of (λ m. IsExpression (plain_method names exprs m).body) c.methods
            (λ m inside. expressions (plain_class names exprs c) (plain_method names exprs m) there (mapped_within (plain_method names exprs) c.methods m inside));
      }

  pub all_ready : All (IsReady names exprs) ds
  all_ready = All-permutation (IsReady names exprs) cs ds permuted (all_of (IsReady names exprs) cs ready)

  moved : IsPermutation (map (plain_class names exprs) cs) (map (plain_class names exprs) ds)
  moved = IsPermutation-map (plain_class names exprs) cs ds permuted

  once : StandOnce (map (λ c. c.name) (map (plain_class names exprs) cs))
  once at r = sound RepeatedClass at (repeated_class at r)

  pub names_once : StandOnce (map (λ c. c.name) (map (plain_class names exprs) ds))
  names_once = once_reordered (λ (c : Class). c.name) (map (plain_class names exprs) cs) (map (plain_class names exprs) ds) moved once

  pub same_table : table_of (map (plain_class names exprs) ds) ≡ table_of (map (plain_class names exprs) cs)
  same_table = entries_permuted (λ (c : Class). c.name) class_entry (map (plain_class names exprs) cs) (map (plain_class names exprs) ds) moved once
