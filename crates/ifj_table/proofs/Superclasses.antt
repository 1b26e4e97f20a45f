-- What the calls of a table tell of chains of superclasses.
use Rattle.std.proofs.Common.{◌≡◌, ◌⊎◌, inl, inr, ℕ, ◌+◌, ◌<◌, ◌≤◌, Bool, true, false, List, length, map, slice_get, Option, Some, None, refl, sym, ap, ◌∙◌, subst, arith}
use Rattle.std.specs.Prelude.{IsSome, Contains}
use Rattle.std.specs.FinMap.{get}
use Rattle.std.proofs.lemmas.List.{length-map}
use Rattle.dj_names.specs.Texts.{Text}
use Rattle.dj_calculus.specs.Tables as calculus
use Rattle.dj_calculus.specs.Subclasses.{object, HasSuperclass, Above, Kind, class_kind, Below, null_below, same, below_object, above}
use Rattle.dj_calculus.proofs.Counting.{got_within}
use Rattle.ifj_table.specs.Tables.{plain_table, class_keys}
use Rattle.ifj_table.specs.declared.table.Table.{Table}
use Rattle.ifj_table.proofs.TableLemmas.{class_key, class_there}
use Rattle.ifj_table.proofs.Climbing.{Climbed, climbed_more, found_here, none_past, none_at_all, directly_below, below_it, not_below, above_nearest, nearest_above}

-- each class has its name among the keys
pub among_keys : (t : Table) (e : Text) → IsSome (get (plain_table t) e) → Contains (class_keys t) e
among_keys t e some = let it = class_there t.names t.exprs t.classes.items t.held e some in got_within (class_keys t) it.0 e it.1

pub as_many_keys : (t : Table) → length (class_keys t) ≡ length t.classes.items
as_many_keys t = length-map t.classes.items (class_key t.names)

module _ (t : Table) (upper from to : Text) (count : ℕ) (climbed : Climbed (plain_table t) (directly_below upper) count from to) where
  pub not_above : get (plain_table t) to ≡ None → ¬ (Above (plain_table t) from upper)
  not_above missing higher =
      let it = above_nearest (plain_table t) from upper higher in
      none_past (plain_table t) (directly_below upper) count from to climbed missing it.0 upper it.1

  pub not_above_at_all : length t.classes.items ≤ count → ¬ (Above (plain_table t) from upper)
  not_above_at_all many higher =
      let it = above_nearest (plain_table t) from upper higher in
      none_at_all (plain_table t) (directly_below upper) (class_keys t) (among_keys t) count from to climbed (omega (arith, many, as_many_keys t)) it.0 upper it.1

  pub is_above_here : (parent : Text) → HasSuperclass (plain_table t) to parent → parent ≡ upper → Above (plain_table t) from upper
  is_above_here parent has is =
      nearest_above (plain_table t) upper from to upper
      (found_here (plain_table t) (directly_below upper) count from to has.entry upper climbed has.there (below_it upper has.entry (has.parent ∙ is)))

  pub climbs : (parent : Text) → HasSuperclass (plain_table t) to parent → (parent ≡ upper → ⊥) → Climbed (plain_table t) (directly_below upper) (count + 1) from parent
  climbs parent has apart =
      subst (λ p. Climbed (plain_table t) (directly_below upper) (count + 1) from p) has.parent
      (climbed_more (plain_table t) (directly_below upper) count from to has.entry climbed has.there (not_below upper has.entry (λ is. apart (sym has.parent ∙ is))))

-- ---- subclasses

-- how a class is below another
pub below_cases : (t : calculus.Table) (a b : Kind) (c d : Text) → Below t a b → a ≡ class_kind c → b ≡ class_kind d → (c ≡ d) ⊎ ((d ≡ object) ⊎ Above t c d)
below_cases t a b c d (null_below other) is_c is_d = absurd cc
below_cases t a b c d (same kind) is_c is_d = inl cc
below_cases t a b c d (below_object kind) is_c is_d = inr (inl cc)
below_cases t a b c d (above e f higher) is_c is_d =
    let lower : e ≡ c = cc in
    let upper : f ≡ d = cc in
    inr (inr (subst (λ x. Above t x d) lower (subst (Above t e) upper higher)))
