-- Operations that are attempted one after the other: one more, and the least rule that is met.
use Rattle.std.proofs.Common.{◌≡◌, ◌⊎◌, inl, inr, ℕ, ◌+◌, ◌≤◌, List, [], ◌∷◌, ◌++◌, map, take, length, slice_get, Option, None, Some, refl, sym, ap, ◌∙◌, subst, append_assoc, arith}
use Rattle.std.specs.Prelude.{All}
use Rattle.std.proofs.lemmas.List.{map-append, append-nil, take_more, take_all}
use Rattle.std.proofs.lemmas.List.Elements.{All-push}
use Rattle.std.proofs.lemmas.Option.{slice_get_within, get_or_from_slice_get}
use Rattle.dj_names.specs.Texts.{Text}
use Rattle.dj_tree.specs.Trees.{Operation}
use Rattle.dj_tree.specs.Plain.{plain_operation}
use Rattle.dj_tree.specs.declared.expression.ExprNode.{ExprNode}
use Rattle.dj_tree.specs.declared.declarations.ClassOp.{ClassOp}
use Rattle.dj_tree.specs.declared.source.Instance.{Instance}
use Rattle.dj_calculus.specs.Instances.{IsNotAfter}
use Rattle.dj_calculus.specs.Tables.{Table}
use Rattle.dj_calculus.proofs.Members.{either}
use Rattle.dj_product_laws.specs.Passes.{attempt, attempt_all}
use Rattle.dj_product_laws.proofs.ForApply.{attempt_all_append, met_more, met_still, met_now}
use Rattle.dj_apply.specs.declared.attempts.NamedOperation.{NamedOperation}
use Rattle.dj_apply.specs.Attempts.{IsMet, plain_operations}
use Rattle.dj_apply.specs.Judging.{Breaks}
use Rattle.dj_apply.specs.Least.{IsLeastBy, IsEarlierOf}
use Rattle.dj_apply.specs.Ready.{IsReady}
use Rattle.dj_apply.proofs.LeastLemmas.{least_same, least_either}
use Rattle.dj_apply.proofs.JudgeLemmas.{not_after_joins}

-- the operations so far are attempted, and this is the least that was met
pub record Attempted (xs : List Operation) (t u : Table) (least : Option Instance) : Type 0 where
  pub table : u ≡ attempt_all xs t
  pub least_met : IsLeastBy IsNotAfter (IsMet xs t) least

pub attempted_none : (t : Table) → Attempted [] t t None
attempted_none t = record { table = refl; least_met = λ i found. absurd (omega (arith, found.0.1)) }

pub attempted_more : (xs : List Operation) (x : Operation) (t u v : Table) (least here now : Option Instance) → Attempted xs t u least → v ≡ attempt x u → IsLeastBy IsNotAfter (Breaks u x) here
    → IsEarlierOf IsNotAfter least here now → Attempted (xs ++ x ∷ []) t v now
attempted_more xs x t u v least here now so_far is judged earlier =
    record {
      table = is ∙ ap (attempt x) so_far.table ∙ sym (attempt_all_append xs (x ∷ []) t);
      least_met = least_same IsNotAfter {P = λ i. IsMet xs t i ⊎ Breaks u x i} {Q = IsMet (xs ++ x ∷ []) t} now to from (least_either IsNotAfter not_after_joins (IsMet xs t) (Breaks u x) least here now so_far.least_met judged earlier);
    }
  where
    to : (i : Instance) → IsMet xs t i ⊎ Breaks u x i → IsMet (xs ++ x ∷ []) t i
    to i (inl before) = (met_still xs x t (i.rule, i.at) before.0, before.1)
    to i (inr breaks) = (met_now xs x t i.rule i.at (subst (λ (w : Table). Breaks w x i) so_far.table breaks).0, breaks.1)

    from : (i : Instance) → IsMet (xs ++ x ∷ []) t i → IsMet xs t i ⊎ Breaks u x i
    from i found =
        either (met_more xs x t i.rule i.at found.0) (λ before. inl (before, found.1)) (λ breaks. inr (subst (λ (w : Table). Breaks w x i) (sym so_far.table) (breaks, found.1)))

module _ (names : List Text) (exprs : List ExprNode) where
  pub attempted_next : (operations : List NamedOperation) (i : ℕ) (x : NamedOperation) (t u v : Table) (least here now : Option Instance) → slice_get operations i ≡ Some x
      → Attempted (plain_operations names exprs (take i operations)) t u least → v ≡ attempt (plain_operation names exprs x.operation.now) u
      → IsLeastBy IsNotAfter (Breaks u (plain_operation names exprs x.operation.now)) here → IsEarlierOf IsNotAfter least here now
      → Attempted (plain_operations names exprs (take (i + 1) operations)) t v now
  attempted_next operations i x t u v least here now there so_far is judged earlier =
      let more : take (i + 1) operations ≡ take i operations ++ x ∷ [] = take_more operations i x (slice_get_within operations i x there) ∙ ap (λ y. take i operations ++ y ∷ []) (get_or_from_slice_get operations i x x there) in
      subst (λ xs. Attempted xs t v now) (sym (ap (plain_operations names exprs) more ∙ map-append (λ (y : NamedOperation). plain_operation names exprs y.operation.now) (take i operations) (x ∷ [])))
      (attempted_more (plain_operations names exprs (take i operations)) (plain_operation names exprs x.operation.now) t u v least here now so_far is judged earlier)

  pub attempted_all : (operations : List NamedOperation) (i : ℕ) (t u : Table) (least : Option Instance) → length operations ≤ i → Attempted (plain_operations names exprs (take i operations)) t u least
      → Attempted (plain_operations names exprs operations) t u least
  attempted_all operations i t u least high so_far = subst (λ xs. Attempted (plain_operations names exprs xs) t u least) (take_all i operations high) so_far

  -- ---- operations that are listed

  abbrev pub ReadyOperation : NamedOperation → Type 0
  ReadyOperation x = IsReady names exprs x.operation.now

  pub record Listed (old : List NamedOperation) (done : List ClassOp) (now : List NamedOperation) : Type 0 where
    pub operations : plain_operations names exprs now ≡ plain_operations names exprs old ++ map (plain_operation names exprs) done
    pub ready : All ReadyOperation now

  pub listed_none : (old : List NamedOperation) → All ReadyOperation old → Listed old [] old
  listed_none old ready = record { operations = sym (append-nil (plain_operations names exprs old)); ready = ready }

  pub listed_more : (old now after : List NamedOperation) (xs : List ClassOp) (i : ℕ) (x : ClassOp) (n : NamedOperation) → Listed old (take i xs) now → slice_get xs i ≡ Some x
      → after ≡ now ++ n ∷ [] → n.operation.now ≡ x → IsReady names exprs x → Listed old (take (i + 1) xs) after
  listed_more old now after xs i x n done here is same ready =
      let more : take (i + 1) xs ≡ take i xs ++ x ∷ [] = take_more xs i x (slice_get_within xs i x here) ∙ ap (λ y. take i xs ++ y ∷ []) (get_or_from_slice_get xs i x x here) in
      record {
        operations = ap (plain_operations names exprs) is ∙ map-append (λ (y : NamedOperation). plain_operation names exprs y.operation.now) now (n ∷ [])
            ∙ ap (λ ms. ms ++ plain_operation names exprs n.operation.now ∷ []) done.operations
            ∙ append_assoc (plain_operations names exprs old) (map (plain_operation names exprs) (take i xs)) (plain_operation names exprs n.operation.now ∷ [])
            ∙ ap (λ (y : ClassOp). plain_operations names exprs old ++ (map (plain_operation names exprs) (take i xs) ++ plain_operation names exprs y ∷ [])) same
            ∙ ap (λ ms. plain_operations names exprs old ++ ms) (sym (map-append (plain_operation names exprs) (take i xs) (x ∷ [])) ∙ ap (map (plain_operation names exprs)) (sym more));
        ready = subst (All ReadyOperation) (sym is) (All-push ReadyOperation now n done.ready (subst (IsReady names exprs) (sym same) ready));
      }

  pub listed_all : (old now : List NamedOperation) (xs : List ClassOp) (i : ℕ) → length xs ≤ i → Listed old (take i xs) now → Listed old xs now
  listed_all old now xs i high done = subst (λ ys. Listed old ys now) (take_all i xs high) done
