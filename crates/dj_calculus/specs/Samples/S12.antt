-- A sample: methods that are modified, each time with `original(..)`.
--
--     line L { features; valid true; part a { P; } part b after a { Q; } part c after b { R; } }
--     delta P { adds class C { C m(C x) { return x; } } adds class D extends C { C m(C y) { return y; } } }
--     delta Q {
--       modifies class C { modifies C m(C z) { return original(z); } }
--       modifies class D { modifies C m(C z) { return original(this); } }
--     }
--     delta R { modifies class C { modifies C m(C w) { return original(w.m(w)); } } }
use Rattle.std.specs.Prelude.{[], ◌∷◌, codes}
use Rattle.std.specs.List.{flat_map}
use Rattle.std.specs.FinMap.{from_entries}
use Rattle.dj_names.specs.Texts.{Text}
use Rattle.dj_tree.specs.Trees.{always, variable, this_at, call_of, original_at, Delta, Part, Source, adds_class, modifies_class, modifies_method}
use Rattle.dj_calculus.specs.Tables.{Table}
use Rattle.dj_calculus.specs.JavaText.{line}
use Rattle.dj_calculus.specs.Samples.Builders.{spot, field, method, class, subclass, change, delta_of, item, part, part_after}

abbrev pub delta_p : Delta
delta_p =
    delta_of "P" 97
    (adds_class (class "C" 112 [] (method "C" 116 "m" 118 (field "C" 120 "x" 122 ∷ []) (variable (spot "x" 134)) ∷ []))
    ∷ adds_class (subclass "D" 152 "C" 162 [] (method "C" 166 "m" 168 (field "C" 170 "y" 172 ∷ []) (variable (spot "y" 184)) ∷ []))
    ∷ [])

abbrev pub delta_q : Delta
delta_q =
    delta_of "Q" 199
    (modifies_class (change "C" 220 (modifies_method (method "C" 233 "m" 235 (field "C" 237 "z" 239 ∷ []) (original_at 251 (variable (spot "z" 260) ∷ []))) ∷ []))
    ∷ modifies_class (change "D" 285 (modifies_method (method "C" 298 "m" 300 (field "C" 302 "z" 304 ∷ []) (original_at 316 (this_at 325 ∷ []))) ∷ []))
    ∷ [])

abbrev pub delta_r : Delta
delta_r =
    delta_of "R" 344
    (modifies_class (change "C" 363 (modifies_method (method "C" 376 "m" 378 (field "C" 380 "w" 382 ∷ []) (original_at 394 (call_of (variable (spot "w" 403)) (spot "m" 405) (variable (spot "w" 407) ∷ []) ∷ []))) ∷ []))
    ∷ [])

abbrev pub part_a : Part
part_a = part "a" 36 (item "P" 40 ∷ [])

abbrev pub part_b : Part
part_b = part_after "b" 50 "a" 58 (item "Q" 62 ∷ [])

abbrev pub part_c : Part
part_c = part_after "c" 72 "b" 80 (item "R" 84 ∷ [])

abbrev pub sample : Source
sample =
    record {
      title = spot "L" 5;
      features = [];
      valid = always;
      parts = part_a ∷ part_b ∷ part_c ∷ [];
      deltas = delta_p ∷ delta_q ∷ delta_r ∷ [];
    }

-- its product: C's method has three versions, and D's has two
abbrev pub product : Table
product =
    from_entries
    ((
      codes "C",
      record {
        at = 112;
        parent = spot "Object" 112;
        fields = from_entries [];
        methods =
            from_entries
            ((
              codes "m",
              record {
                at = 378;
                signature = record { parameters = spot "C" 380 ∷ []; result = spot "C" 376 };
                bodies =
                    record { names = spot "x" 122 ∷ []; value = variable (spot "x" 134) }
                    ∷ record { names = spot "z" 239 ∷ []; value = original_at 251 (variable (spot "z" 260) ∷ []) }
                    ∷ record { names = spot "w" 382 ∷ []; value = original_at 394 (call_of (variable (spot "w" 403)) (spot "m" 405) (variable (spot "w" 407) ∷ []) ∷ []) }
                    ∷ [];
              },
            )
            ∷ []);
      },
    )
    ∷ (
      codes "D",
      record {
        at = 152;
        parent = spot "C" 162;
        fields = from_entries [];
        methods =
            from_entries
            ((
              codes "m",
              record {
                at = 300;
                signature = record { parameters = spot "C" 302 ∷ []; result = spot "C" 298 };
                bodies =
                    record { names = spot "y" 172 ∷ []; value = variable (spot "y" 184) }
                    ∷ record { names = spot "z" 304 ∷ []; value = original_at 316 (this_at 325 ∷ []) }
                    ∷ [];
              },
            )
            ∷ []);
      },
    )
    ∷ [])

-- the text of its flat table
abbrev pub text : Text
text =
    flat_map line
    (codes "class C extends Object {"
    ∷ codes "  C m(C w) {"
    ∷ codes "    return this.m$C$1(w.m(w));"
    ∷ codes "  }"
    ∷ codes "  C m$C$0(C x) {"
    ∷ codes "    return x;"
    ∷ codes "  }"
    ∷ codes "  C m$C$1(C z) {"
    ∷ codes "    return this.m$C$0(z);"
    ∷ codes "  }"
    ∷ codes "}"
    ∷ codes "class D extends C {"
    ∷ codes "  C m(C z) {"
    ∷ codes "    return this.m$D$0(this);"
    ∷ codes "  }"
    ∷ codes "  C m$D$0(C y) {"
    ∷ codes "    return y;"
    ∷ codes "  }"
    ∷ codes "}"
    ∷ [])
