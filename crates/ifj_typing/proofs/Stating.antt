-- Rules that are one test at one place.
use Rattle.std.proofs.Common.{◌≡◌, inr, ℕ, sym, refl, arith}
use Rattle.dj_tree.specs.declared.source.Instance.{Instance}
use Rattle.dj_calculus.specs.Instances.{IsNotAfter, IsLeast}
use Rattle.ifj_typing.specs.Declarations.{Stated}
use Rattle.ifj_typing.proofs.OneRule.{fault}

pub stated : (rule at : ℕ) {P : Type 0} → P → IsLeast (Stated rule at P) (fault rule at)
stated rule at p =
    record { is = record { rule_is = refl; place_is = refl; one_place = refl; holds = p }; least = λ j s. first j s.rule_is s.place_is s.one_place }
  where
    first : (j : Instance) → j.rule ≡ rule → j.at ≡ at → j.second ≡ j.at → IsNotAfter (fault rule at) j
    first j r p s = inr (sym r, inr (sym p, omega arith))

-- an instance that is found where a test fails, or where it succeeds
pub stated_so : (rule at : ℕ) {P : Type 0} (i : Instance) → i ≡ fault rule at → P → IsLeast (Stated rule at P) i
stated_so rule at i is p = rw is (stated rule at p)

pub not_stated : (rule at : ℕ) {P : Type 0} → ¬ P → (i : Instance) → ¬ (Stated rule at P i)
not_stated rule at not i s = not s.holds
