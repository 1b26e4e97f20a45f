-- The lowest layer that has an instance decides which one is the least that counts.
use Rattle.std.proofs.Common.{◌<◌, ◌↔◌, Option, Some, None, refl, arith}
use Rattle.dj_tree.specs.declared.source.Instance.{Instance}
use Rattle.dj_calculus.specs.Instances.{layer, IsLower, IsNotAfter, IsLeast}
use Rattle.dj_calculus.specs.TableRules.{StandsIn, CountsIn}
use Rattle.dj_calculus.specs.Typing.{WellTyped}
use Rattle.dj_calculus.proofs.LayerLemmas.{of_higher_table}
use Rattle.dj_calculus.proofs.TableLaw.{bodies_are_expressions, well_typed_exactly_if}
use Rattle.ifj_table.specs.Tables.{plain_table}
use Rattle.ifj_table.specs.declared.table.Table.{Table}
use Rattle.ifj_typing.specs.Bodies.{BreaksBodies}
use Rattle.ifj_typing.specs.Declarations.{BreaksDeclarations, BreaksInheritance}
use Rattle.ifj_typing.specs.Least.{IsLeastOf}
use Rattle.ifj_typing.proofs.Entries.{is_table}
use Rattle.ifj_typing.proofs.RuleCases.{Case, third, fourth, fifth, rule_case}
use Rattle.ifj_typing.proofs.RulesStand.{third_stands, fourth_stands, fifth_stands}

module _ (t : Table) where
  case_of : (i : Instance) → StandsIn (plain_table t) i → Case t i
  case_of i s = rule_case t i s.one_place i.rule i.at s.breaks refl refl

  -- an instance that counts isn't of a higher layer than one that stands
  not_higher : {G : Type 0} (i j : Instance) → CountsIn (plain_table t) j → StandsIn (plain_table t) i → IsLower i j → G
  not_higher i j counts stands lower = absurd (counts.clean i lower stands)

  -- ---- layer 3

  pub least_third : (i : Instance) → IsLeast (BreaksDeclarations t) i → IsLeast (CountsIn (plain_table t)) i
  least_third i l =
      let here = third_stands t i l.is in
      record {
        is = record { stands = here.0; clean = λ lower below stands. of_higher_table (plain_table t) lower.rule lower.at stands.breaks (omega (arith, below, here.1)) };
        least = λ j counts. by j counts (case_of j counts.stands);
      }
    where
      by : (j : Instance) → CountsIn (plain_table t) j → Case t j → IsNotAfter i j
      by j counts (third breaks) = l.least j breaks
      by j counts (fourth breaks) = not_higher i j counts (third_stands t i l.is).0 (omega (arith, (third_stands t i l.is).1, (fourth_stands t j breaks).1))
      by j counts (fifth breaks) = not_higher i j counts (third_stands t i l.is).0 (omega (arith, (third_stands t i l.is).1, (fifth_stands t j breaks).1))

  -- ---- layer 4

  module _ (no_third : (i : Instance) → ¬ (BreaksDeclarations t i)) where
    pub least_fourth : (i : Instance) → IsLeast (BreaksInheritance t) i → IsLeast (CountsIn (plain_table t)) i
    least_fourth i l =
        let here = fourth_stands t i l.is in
        record {
          is = record { stands = here.0; clean = λ lower below stands. below_fourth lower (omega (arith, below, here.1)) (case_of lower stands) };
          least = λ j counts. by j counts (case_of j counts.stands);
        }
      where
        below_fourth : (j : Instance) → layer j.rule < 4 → Case t j → ⊥
        below_fourth j low (third breaks) = no_third j breaks
        below_fourth j low (fourth breaks) = absurd (omega (arith, (fourth_stands t j breaks).1))
        below_fourth j low (fifth breaks) = absurd (omega (arith, (fifth_stands t j breaks).1))

        by : (j : Instance) → CountsIn (plain_table t) j → Case t j → IsNotAfter i j
        by j counts (third breaks) = absurd (no_third j breaks)
        by j counts (fourth breaks) = l.least j breaks
        by j counts (fifth breaks) = not_higher i j counts (fourth_stands t i l.is).0 (omega (arith, (fourth_stands t i l.is).1, (fifth_stands t j breaks).1))

    -- ---- layer 5

    module _ (no_fourth : (i : Instance) → ¬ (BreaksInheritance t i)) where
      least_fifth : (i : Instance) → IsLeast (BreaksBodies t) i → IsLeast (CountsIn (plain_table t)) i
      least_fifth i l =
          let here = fifth_stands t i l.is in
          record {
            is = record { stands = here.0; clean = λ lower below stands. below_fifth lower (omega (arith, below, here.1)) (case_of lower stands) };
            least = λ j counts. by j counts (case_of j counts.stands);
          }
        where
          below_fifth : (j : Instance) → layer j.rule < 5 → Case t j → ⊥
          below_fifth j low (third breaks) = no_third j breaks
          below_fifth j low (fourth breaks) = no_fourth j breaks
          below_fifth j low (fifth breaks) = absurd (omega (arith, (fifth_stands t j breaks).1))

          by : (j : Instance) → CountsIn (plain_table t) j → Case t j → IsNotAfter i j
          by j counts (third breaks) = absurd (no_third j breaks)
          by j counts (fourth breaks) = absurd (no_fourth j breaks)
          by j counts (fifth breaks) = l.least j breaks

      none_counts : ((i : Instance) → ¬ (BreaksBodies t i)) → (i : Instance) → ¬ (CountsIn (plain_table t) i)
      none_counts no_fifth i counts = by (case_of i counts.stands)
        where
          by : Case t i → ⊥
          by (third breaks) = no_third i breaks
          by (fourth breaks) = no_fourth i breaks
          by (fifth breaks) = no_fifth i breaks

      -- the bodies decide, where nothing lower stands
      pub by_bodies : (found : Option Instance) → IsLeastOf (BreaksBodies t) found → IsLeastOf (CountsIn (plain_table t)) found
      by_bodies None none = none_counts none
      by_bodies (Some i) l = least_fifth i l

  -- ---- the judgement

  pub typed_or_not : WellTyped (plain_table t) ↔ ((i : Instance) → ¬ (CountsIn (plain_table t) i))
  typed_or_not = well_typed_exactly_if (plain_table t) (is_table t).no_object (bodies_are_expressions (plain_table t) (is_table t))
