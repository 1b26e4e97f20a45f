-- A sample: a class of a Java file whose method reads a field of null.
--
--     class A { A f; A d() { return null.f; } }
use Rattle.std.specs.Prelude.{[], ◌∷◌}
use Rattle.dj_tree.specs.Trees.{null_at, field_of, Class}
use Rattle.dj_calculus.specs.Samples.Builders.{spot, field, method, class}

abbrev pub class_a : Class
class_a = class "A" 6 (field "A" 10 "f" 12 ∷ []) (method "A" 15 "d" 17 [] (field_of (null_at 30) (spot "f" 35)) ∷ [])
