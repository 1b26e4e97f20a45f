-- Entries that go on with others of one level.
use Rattle.std.proofs.Common.{◌≡◌, ℕ, ◌≤◌, ◌<◌, List, [], ◌∷◌, ◌++◌, Some, take, length, slice_get, sym, subst, ap, ◌∙◌, arith, ◌⊎◌, inl, inr}
use Rattle.std.proofs.lemmas.Bool.{cases_lt}
use Rattle.std.proofs.lemmas.List.{append-nil, append_assoc, length-append, take-append-le, take_at}
use Rattle.std.proofs.lemmas.Option.{slice_get_within}
use Rattle.sat_clauses.specs.declared.literal.Lit.{Lit}
use Rattle.sat_solver.specs.declared.entry.Entry.{Entry}
use Rattle.sat_solver.specs.Entries.{IsForced, Extends}
use Rattle.sat_solver.proofs.AlongLemmas.{at_push, at_first}

module _ (clauses : List (List Lit)) (level : ℕ) where
  pub extends_none : (entries : List Entry) → Extends clauses level entries entries
  extends_none entries = record {
    added = [];
    prefix = sym (append-nil entries);
    forced = λ k x h e. absurd (omega (arith, slice_get_within entries k x e));
    leveled = λ k x h e. absurd (omega (arith, slice_get_within entries k x e));
  }

  pub extends_longer : (old new : List Entry) → Extends clauses level old new → length old ≤ length new
  extends_longer old new extends = omega (arith, ap length extends.prefix, length-append old extends.added)

  pub extends_push : (old now : List Entry) (y : Entry) → Extends clauses level old now → IsForced clauses now y → y.level ≡ level → Extends clauses level old (now ++ y ∷ [])
  extends_push old now y extends here leveled = record {
    added = extends.added ++ y ∷ [];
    prefix = ap (λ xs. xs ++ y ∷ []) extends.prefix ∙ append_assoc old extends.added (y ∷ []);
    forced = λ k x h e. forced k x h (at_push now y k x e);
    leveled = λ k x h e. level_of k x h (at_push now y k x e);
  }
    where
      forced : (k : ℕ) (x : Entry) → length old ≤ k → ((k < length now) × (slice_get now k ≡ Some x)) ⊎ ((k ≡ length now) × (y ≡ x)) → IsForced clauses (take k (now ++ y ∷ [])) x
      forced k x h (inl e) = subst (λ xs. IsForced clauses xs x) (sym (take-append-le k now (y ∷ []) (omega (arith, e.0)))) (extends.forced k x h e.1)
      forced k x h (inr e) = subst (λ xs. IsForced clauses xs x) (sym (take_at now (y ∷ []) k (sym e.0))) (subst (IsForced clauses now) e.1 here)

      level_of : (k : ℕ) (x : Entry) → length old ≤ k → ((k < length now) × (slice_get now k ≡ Some x)) ⊎ ((k ≡ length now) × (y ≡ x)) → x.level ≡ level
      level_of k x h (inl e) = extends.leveled k x h e.1
      level_of k x h (inr e) = subst (λ (z : Entry). z.level ≡ level) e.1 leveled

  pub extends_join : (old now new : List Entry) → Extends clauses level old now → Extends clauses level now new → Extends clauses level old new
  extends_join old now new first second = record {
    added = first.added ++ second.added;
    prefix = second.prefix ∙ ap (λ xs. xs ++ second.added) first.prefix ∙ append_assoc old first.added second.added;
    forced = λ k x h e. forced k x h e (cases_lt k (length now));
    leveled = λ k x h e. level_of k x h e (cases_lt k (length now));
  }
    where
      there : (k : ℕ) (x : Entry) → k < length now → slice_get new k ≡ Some x → slice_get now k ≡ Some x
      there k x h e = at_first now second.added k x h (ap (λ xs. slice_get xs k) (sym second.prefix) ∙ e)

      forced : (k : ℕ) (x : Entry) → length old ≤ k → slice_get new k ≡ Some x → (k < length now) ⊎ (length now ≤ k) → IsForced clauses (take k new) x
      forced k x h e (inr past) = second.forced k x past e
      forced k x h e (inl within) =
          let front : take k new ≡ take k now = ap (take k) second.prefix ∙ take-append-le k now second.added (omega arith) in
          subst (λ xs. IsForced clauses xs x) (sym front) (first.forced k x h (there k x within e))

      level_of : (k : ℕ) (x : Entry) → length old ≤ k → slice_get new k ≡ Some x → (k < length now) ⊎ (length now ≤ k) → x.level ≡ level
      level_of k x h e (inr past) = second.leveled k x past e
      level_of k x h e (inl within) = first.leveled k x h (there k x within e)
