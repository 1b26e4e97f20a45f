-- A well typed table breaks no rule.
use Rattle.std.proofs.Common.{◌≡◌, ℕ, Bool, true, false, Option, Some, None, IsSome, sym, ◌∙◌}
use Rattle.std.proofs.lemmas.Bool.{false≢true}
use Rattle.std.specs.FinMap.{get}
use Rattle.dj_calculus.specs.Tables.{Table}
use Rattle.dj_calculus.specs.Subclasses.{object}
use Rattle.dj_calculus.specs.Typing.{WellTyped}
use Rattle.dj_calculus.specs.TableRules.{TableRule, unknown_superclass, circular_superclasses, unknown_field_type, unknown_method_type, hidden_field, override_differs, of_node, returned_type}
use Rattle.dj_calculus.proofs.TypeLemmas.{one_type, sound_within}

none_is_some : {X : Type 0} (o : Option X) → o ≡ None → IsSome o → ⊥
none_is_some None e is = false≢true is
none_is_some (Some x) e is = absurd cc

opposite : (b : Bool) → b ≡ true → b ≡ false → ⊥
opposite b p q = false≢true (sym q ∙ p)

module _ (t : Table) (no_object : get t object ≡ None) (typed : WellTyped t) where
  pub sound_table : (rule at : ℕ) → TableRule t rule at → ⊥
  sound_table rule at (unknown_superclass c e is missing) = missing (typed.superclasses c e is)
  sound_table rule at (circular_superclasses c e is endless) = none_is_some _ no_object (endless object (typed.rooted c e is))
  sound_table rule at (unknown_field_type c f e field is has missing) = missing (typed.field_types c f e field is has)
  sound_table rule at (unknown_method_type c m e method kind is has within missing) = missing (typed.signatures c m e method kind is has within)
  sound_table rule at (hidden_field c d f e upper field is has above upper_is there) =
      none_is_some _ (typed.fields c d f e upper field is has above upper_is) there
  sound_table rule at (override_differs c d m e upper method other is has above upper_is there differs) =
      opposite _ (typed.methods c d m e upper method other is has above upper_is there) differs
  sound_table rule at (of_node home body r p is breaks) =
      let returns = typed.bodies home body is in
      sound_within t home body r p (returns.kind, returns.types) breaks
  sound_table rule at (returned_type home body kind is types wrong) =
      let returns = typed.bodies home body is in
      wrong (rw (one_type t home body kind returns.kind types returns.types) returns.below)
