-- A configuration is good exactly if no instance counts in it.
use Rattle.std.proofs.Common.{◌↔◌, ℕ, refl, sym, subst}
use Rattle.dj_tree.specs.Trees.{Source}
use Rattle.dj_tree.specs.declared.source.Instance.{Instance}
use Rattle.dj_calculus.specs.Configurations.{Configuration}
use Rattle.dj_calculus.specs.Accepted.{IsAccepted}
use Rattle.dj_calculus.specs.Expressions.{HasExpressions}
use Rattle.dj_calculus.specs.TableRules.{TableRule, CountsIn}
use Rattle.dj_calculus.specs.LineRules.{LineRule, overlap, of_operation, of_product, Counts, BreaksRule}
use Rattle.dj_calculus.specs.Typing.{WellTyped}
use Rattle.dj_calculus.specs.Good.{HasProduct, GoodAt}
use Rattle.dj_calculus.proofs.ProductLemmas.{one_product}
use Rattle.dj_calculus.proofs.GoodLemmas.{no_overlap, no_broken_operation, product_lacks, good_breaks_nothing}
use Rattle.dj_calculus.proofs.ProductLaw.{product_exactly_if}
use Rattle.dj_calculus.proofs.FormedProducts.{bodies_formed}
use Rattle.dj_calculus.proofs.TableLaw.{well_typed_exactly_if}

module _ (source : Source) (accepted : IsAccepted source) (c : Configuration) where
  -- where there is a product, an instance of a line is one of the product
  pub in_product : (has : HasProduct source c) (rule at second : ℕ) → LineRule source c rule at second → TableRule has.table rule at
  in_product has rule at second (overlap part i j one other p q within behind at_i at_j least) =
      absurd (no_overlap source accepted c has part i j one other p q within behind at_i at_j least)
  in_product has rule at second (of_operation k part t delta x r p is makes within of breaks) =
      absurd (no_broken_operation source accepted c has k part t delta x r p is makes within of breaks)
  in_product has rule at second (of_product t r p product breaks) = rw (one_product source c t has.table product has.product) at breaks

module _ (source : Source) (expressions : HasExpressions source) (accepted : IsAccepted source) (c : Configuration) where
  counts_in_line : (has : HasProduct source c) (i : Instance) → CountsIn has.table i → Counts source c i
  counts_in_line has i counts =
      record {
        stands = subst (LineRule source c i.rule i.at) (sym counts.stands.one_place) (of_product has.table i.rule i.at has.product counts.stands.breaks);
        clean = λ lower below stands.
            counts.clean (record { rule = lower.rule; at = lower.at; second = lower.at }) below
            (record { breaks = in_product source accepted c has lower.rule lower.at lower.second stands; one_place = refl });
      }

  typed : (has : HasProduct source c) → ((i : Instance) → ¬ (Counts source c i)) → WellTyped has.table
  typed has clean =
      (well_typed_exactly_if has.table (product_lacks source accepted c has.table has.product) (bodies_formed source expressions accepted c has.table has.product)).1
      (λ i counts. clean i (counts_in_line has i counts))

  its_goodness : ((i : Instance) → ¬ (Counts source c i)) → GoodAt source c
  its_goodness clean =
      let has = (product_exactly_if source accepted c).1 (λ i low. clean i) in
      record { has = has; typed = typed has clean }

  pub good_exactly_if : GoodAt source c ↔ ((i : Instance) → ¬ (Counts source c i))
  good_exactly_if = (λ good i counts. good_breaks_nothing source accepted c good i.rule i.at i.second counts.stands, λ clean. its_goodness clean)

  pub good_exactly_if_unbroken : GoodAt source c ↔ ((rule : ℕ) → ¬ (BreaksRule source c rule))
  good_exactly_if_unbroken = (
    λ good rule broken. good_exactly_if.0 good broken.0 broken.1,
    λ unbroken. good_exactly_if.1 (λ i counts. unbroken i.rule (i, counts, refl)),
  )
