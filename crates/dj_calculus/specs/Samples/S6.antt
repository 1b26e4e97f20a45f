-- A sample: two deltas of one part that modify one method, so that they overlap where both are active.
--
--     line L {
--       features A, B;
--       valid true;
--       part a { Base; }
--       part b after a { X when A; Y when B; }
--     }
--     delta Base { adds class C { C m() { return this; } } }
--     delta X { modifies class C { modifies C m() { return null; } } }
--     delta Y { modifies class C { modifies C m() { return original(); } } }
use Rattle.std.specs.Prelude.{[], ◌∷◌}
use Rattle.dj_tree.specs.Trees.{always, feature, this_at, null_at, original_at, Delta, Part, Source, adds_class, modifies_class, modifies_method}
use Rattle.dj_calculus.specs.Samples.Builders.{spot, method, class, change, delta_of, item, item_when, part, part_after}

abbrev pub delta_base : Delta
delta_base = delta_of "Base" 108 (adds_class (class "C" 126 [] (method "C" 130 "m" 132 [] (this_at 145) ∷ [])) ∷ [])

abbrev pub delta_x : Delta
delta_x =
    delta_of "X" 163
    (modifies_class (change "C" 182 (modifies_method (method "C" 195 "m" 197 [] (null_at 210)) ∷ []))
    ∷ [])

abbrev pub delta_y : Delta
delta_y =
    delta_of "Y" 228
    (modifies_class (change "C" 247 (modifies_method (method "C" 260 "m" 262 [] (original_at 275 ([]))) ∷ []))
    ∷ [])

abbrev pub part_a : Part
part_a = part "a" 47 (item "Base" 51 ∷ [])

abbrev pub part_b : Part
part_b = part_after "b" 66 "a" 74 (item_when "X" 78 (feature (spot "A" 85)) ∷ item_when "Y" 88 (feature (spot "B" 95)) ∷ [])

abbrev pub sample : Source
sample =
    record {
      title = spot "L" 5;
      features = spot "A" 20 ∷ spot "B" 23 ∷ [];
      valid = always;
      parts = part_a ∷ part_b ∷ [];
      deltas = delta_base ∷ delta_x ∷ delta_y ∷ [];
    }
