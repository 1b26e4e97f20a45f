-- What is left of a path after one read more.
use Rattle.std.proofs.Common.{◌≡◌, ℕ, ◌+◌, ◌≤◌, List, [], ◌++◌, length, take, drop, refl, ap, sym, ◌∙◌, arith, length-append, Some, None, Option}
use Rattle.std.specs.Option.{option_map}
use Rattle.std.proofs.lemmas.List.{drop-drop, take_all, length-drop, take-append-le, length-take}
use Rattle.std.proofs.Math.Seq.{take-add}

-- after two reads
pub option_map-drop : (first second : ℕ) (left : Option (List ℕ)) →
    option_map (drop second) (option_map (drop first) left) ≡ option_map (drop (first + second)) left
option_map-drop first second None = refl
option_map-drop first second (Some all) = ap Some (drop-drop second first all)

-- nothing is left behind all of it
pub whole-of_rest : (taken : ℕ) (all bytes : List ℕ) → bytes ≡ take taken all → drop taken all ≡ [] → bytes ≡ all
whole-of_rest taken all bytes front rest =
    front ∙ take_all taken all (omega (arith, length-drop taken all, ap length rest))

-- what a read moved stands behind what was there
pub front-of_more : (taken count : ℕ) (all bytes into after : List ℕ) → count ≤ length into → bytes ≡ take taken all →
    take count into ≡ take count (drop taken all) → bytes ++ take count (into ++ after) ≡ take (taken + count) all
front-of_more taken count all bytes into after fits front moved =
    rw (take-append-le count into after fits, moved, front) (sym (take-add taken count all))

pub length-taken : (count : ℕ) (into after : List ℕ) → count ≤ length into → length (take count (into ++ after)) ≡ count
length-taken count into after fits = omega (arith, length-take count (into ++ after), length-append into after)
