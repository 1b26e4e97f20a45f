-- Counts of faults in a list of files.
use Rattle.std.proofs.Common.{◌≡◌, ◌≢◌, ℕ, ◌^◌, ◌<◌, Bool, true, false, nat_eq, List, length, get_or, arith, refl}
use Rattle.std.proofs.Math.ListN.{set}
use Rattle.std.proofs.lemmas.List.{get_or-set_same, get_or-set_other}
use Rattle.std.proofs.lemmas.Grind.{get_or_default_zero}
use Rattle.std.proofs.lemmas.Bool.Decides.{nat_tests}
use Rattle.dj_io.specs.Count.{Follows, one_more}

-- one count of a list has one more
pub Follows-raised : (before : List ℕ) (place at value raised : ℕ) → place < length before → value ≡ get_or before place value →
    value < 2 ^ 64 → raised ≡ one_more value → Follows (get_or before at 0) (get_or (set before place raised) at 0)
Follows-raised before place at value raised inside is fits more = either (nat_eq at place) refl where
  either : (test : Bool) → nat_eq at place ≡ test → Follows (get_or before at 0) (get_or (set before place raised) at 0)
  either true same =
      let here : at ≡ place = grind (arith, nat_tests) in
      let zero : get_or before place value ≡ get_or before place 0 = get_or_default_zero before place value inside in
      rw (here, get_or-set_same before place raised 0 inside, ← zero, ← is, more)
      (record { no_less = omega arith; stays = λ top. rw top refl })
  either false other =
      let away : at ≢ place = λ equal. grind (arith, nat_tests) in
      rw (get_or-set_other before place at raised 0 away) (record { no_less = omega arith; stays = λ top. top })
