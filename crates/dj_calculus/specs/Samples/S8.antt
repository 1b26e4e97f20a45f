-- A sample: a field is removed that went with its class and did not come back.
--
--     line L { features; valid true; part a { P; } part b after a { Q; } part c after b { R; } part d after c { T; } }
--     delta P { adds class C { C f; C g; } }
--     delta Q { removes class C; }
--     delta R { adds class C { C g; } }
--     delta T { modifies class C { removes field f; } }
use Rattle.std.specs.Prelude.{[], ◌∷◌}
use Rattle.dj_tree.specs.Trees.{always, Delta, Part, Source, adds_class, modifies_class, removes_class, removes_field}
use Rattle.dj_calculus.specs.Samples.Builders.{spot, field, class, change, delta_of, item, part, part_after}

abbrev pub delta_p : Delta
delta_p = delta_of "P" 119 (adds_class (class "C" 134 (field "C" 138 "f" 140 ∷ field "C" 143 "g" 145 ∷ []) []) ∷ [])

abbrev pub delta_q : Delta
delta_q = delta_of "Q" 158 (removes_class (spot "C" 176) ∷ [])

abbrev pub delta_r : Delta
delta_r = delta_of "R" 187 (adds_class (class "C" 202 (field "C" 206 "g" 208 ∷ []) []) ∷ [])

abbrev pub delta_t : Delta
delta_t = delta_of "T" 221 (modifies_class (change "C" 240 (removes_field (spot "f" 258) ∷ [])) ∷ [])

abbrev pub part_a : Part
part_a = part "a" 36 (item "P" 40 ∷ [])

abbrev pub part_b : Part
part_b = part_after "b" 50 "a" 58 (item "Q" 62 ∷ [])

abbrev pub part_c : Part
part_c = part_after "c" 72 "b" 80 (item "R" 84 ∷ [])

abbrev pub part_d : Part
part_d = part_after "d" 94 "c" 102 (item "T" 106 ∷ [])

abbrev pub sample : Source
sample =
    record {
      title = spot "L" 5;
      features = [];
      valid = always;
      parts = part_a ∷ part_b ∷ part_c ∷ part_d ∷ [];
      deltas = delta_p ∷ delta_q ∷ delta_r ∷ delta_t ∷ [];
    }
