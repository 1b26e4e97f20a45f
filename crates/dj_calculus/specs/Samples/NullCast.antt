-- A sample: a class of a Java file that casts null.
--
--     class A { A a() { return (A) null; } }
use Rattle.std.specs.Prelude.{[], ◌∷◌}
use Rattle.dj_tree.specs.Trees.{null_at, cast_to, Class}
use Rattle.dj_calculus.specs.Samples.Builders.{spot, method, class}

abbrev pub class_a : Class
class_a = class "A" 6 [] (method "A" 10 "a" 12 [] (cast_to (spot "A" 26) (null_at 29)) ∷ [])
