-- A sample: two deltas of one part that each add a field to one class.
--
--     line L { features; valid true; part a { P; } part b after a { Q; R; } }
--     delta P { adds class C { } }
--     delta Q { modifies class C { adds C b; } }
--     delta R { modifies class C { adds C a; } }
use Rattle.std.specs.Prelude.{[], ◌∷◌, codes}
use Rattle.std.specs.FinMap.{from_entries}
use Rattle.dj_tree.specs.Trees.{always, Delta, Part, Source, adds_class, modifies_class, adds_field}
use Rattle.dj_calculus.specs.Tables.{Table}
use Rattle.dj_calculus.specs.Samples.Builders.{spot, field, class, change, delta_of, item, part, part_after}

abbrev pub delta_p : Delta
delta_p = delta_of "P" 78 (adds_class (class "C" 93 [] []) ∷ [])

abbrev pub delta_q : Delta
delta_q = delta_of "Q" 107 (modifies_class (change "C" 126 (adds_field (field "C" 135 "b" 137) ∷ [])) ∷ [])

abbrev pub delta_r : Delta
delta_r = delta_of "R" 150 (modifies_class (change "C" 169 (adds_field (field "C" 178 "a" 180) ∷ [])) ∷ [])

abbrev pub part_a : Part
part_a = part "a" 36 (item "P" 40 ∷ [])

abbrev pub part_b : Part
part_b = part_after "b" 50 "a" 58 (item "Q" 62 ∷ item "R" 65 ∷ [])

abbrev pub sample : Source
sample =
    record {
      title = spot "L" 5;
      features = [];
      valid = always;
      parts = part_a ∷ part_b ∷ [];
      deltas = delta_p ∷ delta_q ∷ delta_r ∷ [];
    }

-- its product: the class with both fields
abbrev pub product : Table
product =
    from_entries
    ((
      codes "C",
      record {
        at = 93;
        parent = spot "Object" 93;
        fields = from_entries ((codes "a", record { at = 180; kind = spot "C" 178 }) ∷ (codes "b", record { at = 137; kind = spot "C" 135 }) ∷ []);
        methods = from_entries [];
      },
    )
    ∷ [])
