-- A sample: two deltas of one part, one of which adds a class that the other changes.
--
--     line L { features; valid true; part p { X; Y; } }
--     delta X { adds class C { } }
--     delta Y { modifies class C { } }
use Rattle.std.specs.Prelude.{[], ◌∷◌}
use Rattle.dj_tree.specs.Trees.{always, Delta, Part, Source, adds_class, modifies_class}
use Rattle.dj_calculus.specs.Samples.Builders.{spot, class, change, delta_of, item, part}

abbrev pub delta_x : Delta
delta_x = delta_of "X" 56 (adds_class (class "C" 71 [] []) ∷ [])

abbrev pub delta_y : Delta
delta_y = delta_of "Y" 85 (modifies_class (change "C" 104 []) ∷ [])

abbrev pub part_p : Part
part_p = part "p" 36 (item "X" 40 ∷ item "Y" 43 ∷ [])

abbrev pub sample : Source
sample =
    record {
      title = spot "L" 5;
      features = [];
      valid = always;
      parts = part_p ∷ [];
      deltas = delta_x ∷ delta_y ∷ [];
    }
