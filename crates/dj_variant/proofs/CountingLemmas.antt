-- What counts in a line, told by what prevents a product and by what counts in the product.
use Rattle.std.proofs.Common.{◌≡◌, ◌⊎◌, ℕ, ◌<◌, ◌≤◌, refl, sym, subst, arith}
use Rattle.dj_tree.specs.Trees.{Source}
use Rattle.dj_tree.specs.declared.source.Instance.{Instance}
use Rattle.dj_calculus.specs.Accepted.{IsAccepted}
use Rattle.dj_calculus.specs.Configurations.{Configuration}
use Rattle.dj_calculus.specs.Good.{HasProduct, GoodAt}
use Rattle.dj_calculus.specs.Instances.{layer, IsLeast}
use Rattle.dj_calculus.specs.LineRules.{LineRule, overlap, of_operation, of_product, Stands, Counts}
use Rattle.dj_calculus.specs.Products.{Product}
use Rattle.dj_calculus.specs.TableRules.{TableRule, StandsIn, CountsIn}
use Rattle.dj_calculus.specs.Tables.{Table}
use Rattle.dj_calculus.specs.Typing.{WellTyped}
use Rattle.dj_calculus.proofs.GoodLemmas.{no_overlap, no_broken_operation, good_breaks_nothing}
use Rattle.dj_calculus.proofs.Members.{either}
use Rattle.dj_calculus.proofs.ProductLaw.{product_exactly_if}
use Rattle.dj_calculus.proofs.ProductLemmas.{one_product}
use Rattle.dj_product_laws.specs.LineConflicts.{PreventsProduct}

module _ (source : Source) (c : Configuration) where
  low_or_high : (n : ℕ) → (n ≤ 2) ⊎ (2 < n)
  low_or_high n = grind arith

  -- the least instance of layers 1 and 2 that counts is the least that counts
  pub least_prevents : (i : Instance) → IsLeast (PreventsProduct source c) i → IsLeast (Counts source c) i
  least_prevents i l =
      record {
        is = l.is.0;
        least = λ other counts. either (low_or_high (layer other.rule)) (λ low. l.least other (counts, low)) (λ high. absurd (counts.clean i (omega (arith, high, l.is.1)) l.is.0.stands));
      }

  -- and then the configuration isn't good
  pub prevented : IsAccepted source → (i : Instance) → IsLeast (PreventsProduct source c) i → ¬ (GoodAt source c)
  prevented accepted i l good = good_breaks_nothing source accepted c good i.rule i.at i.second l.is.0.stands

-- ---- a configuration with this product

module _ (source : Source) (accepted : IsAccepted source) (c : Configuration) (t : Table) (product : Product source c t) (clean : (i : Instance) → ¬ (PreventsProduct source c i)) where
  has_product : HasProduct source c
  has_product = (product_exactly_if source accepted c).1 (λ i low counts. clean i (counts, low))

  same_product : (u : Table) → Product source c u → u ≡ t
  same_product u other = one_product source c u t other product

  -- what stands in the line stands in the product
  rule_of_product : (rule at second : ℕ) → LineRule source c rule at second → TableRule t rule at × (second ≡ at)
  rule_of_product rule at second (overlap part i j one other p q within behind at_i at_j least) =
      absurd (no_overlap source accepted c has_product part i j one other p q within behind at_i at_j least)
  rule_of_product rule at second (of_operation k part u delta x r p is makes within of breaks) =
      absurd (no_broken_operation source accepted c has_product k part u delta x r p is makes within of breaks)
  rule_of_product rule at second (of_product u r p made breaks) = (subst (λ v. TableRule v rule at) (same_product u made) breaks, refl)

  stands_in_product : (i : Instance) → Stands source c i → StandsIn t i
  stands_in_product i stands = let both = rule_of_product i.rule i.at i.second stands in record { breaks = both.0; one_place = both.1 }

  -- and the other way
  of_line : (i : Instance) → StandsIn t i → Stands source c i
  of_line i stands = subst (LineRule source c i.rule i.at) (sym stands.one_place) (of_product t i.rule i.at product stands.breaks)

  counts_in_line : (i : Instance) → CountsIn t i → Counts source c i
  counts_in_line i counts =
      record { stands = of_line i counts.stands; clean = λ lower below stands. counts.clean lower below (stands_in_product lower stands) }

  counts_in_product : (i : Instance) → Counts source c i → CountsIn t i
  counts_in_product i counts =
      record { stands = stands_in_product i counts.stands; clean = λ lower below stands. counts.clean lower below (of_line lower stands) }

  -- the least instance that counts in the product is the least that counts in the line
  pub least_in_product : (i : Instance) → IsLeast (CountsIn t) i → IsLeast (Counts source c) i
  least_in_product i l = record { is = counts_in_line i l.is; least = λ other counts. l.least other (counts_in_product other counts) }

  pub good_product : WellTyped t → GoodAt source c
  good_product typed = record { has = has_product; typed = subst WellTyped (sym (same_product has_product.table has_product.product)) typed }

  pub not_good : ¬ (WellTyped t) → ¬ (GoodAt source c)
  not_good untyped good = untyped (subst WellTyped (same_product good.has.table good.has.product) good.typed)
