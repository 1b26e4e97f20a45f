-- Samples: Java files of one line, each of which breaks one rule.
use Rattle.std.specs.Prelude.{List, [], ◌∷◌}
use Rattle.dj_tree.specs.Trees.{variable, this_at, field_of, call_of, new_of, assignment, Class}
use Rattle.dj_calculus.specs.Samples.Builders.{spot, field, method, class, subclass}

-- class A extends Z { }
abbrev pub unknown_superclass : List Class
unknown_superclass = subclass "A" 6 "Z" 16 [] [] ∷ []

-- class A extends A { }
abbrev pub circular_superclasses : List Class
circular_superclasses = subclass "A" 6 "A" 16 [] [] ∷ []

-- class A { Z f; }
abbrev pub unknown_type : List Class
unknown_type = class "A" 6 (field "Z" 10 "f" 12 ∷ []) [] ∷ []

-- class A { A f; } class B extends A { A f; }
abbrev pub hidden_field : List Class
hidden_field = class "A" 6 (field "A" 10 "f" 12 ∷ []) [] ∷ subclass "B" 23 "A" 33 (field "A" 37 "f" 39 ∷ []) [] ∷ []

-- class A { A m() { return this; } } class B extends A { B m() { return this; } }
abbrev pub override_differs : List Class
override_differs = class "A" 6 [] (method "A" 10 "m" 12 [] (this_at 25) ∷ []) ∷ subclass "B" 41 "A" 51 [] (method "B" 55 "m" 57 [] (this_at 70) ∷ []) ∷ []

-- class A { A m() { return x; } }
abbrev pub unknown_variable : List Class
unknown_variable = class "A" 6 [] (method "A" 10 "m" 12 [] (variable (spot "x" 25)) ∷ []) ∷ []

-- class A { A m() { return new Z(); } }
abbrev pub unknown_class : List Class
unknown_class = class "A" 6 [] (method "A" 10 "m" 12 [] (new_of (spot "Z" 29)) ∷ []) ∷ []

-- class A { A m() { return this.f; } }
abbrev pub no_field : List Class
no_field = class "A" 6 [] (method "A" 10 "m" 12 [] (field_of (this_at 25) (spot "f" 30)) ∷ []) ∷ []

-- class A { A m() { return this.m(this); } }
abbrev pub number_of_arguments : List Class
number_of_arguments = class "A" 6 [] (method "A" 10 "m" 12 [] (call_of (this_at 25) (spot "m" 30) (this_at 32 ∷ [])) ∷ []) ∷ []

-- class A { A m(A x) { return this.m(new B()); } } class B { }
abbrev pub argument_type : List Class
argument_type = class "A" 6 [] (method "A" 10 "m" 12 (field "A" 14 "x" 16 ∷ []) (call_of (this_at 28) (spot "m" 33) (new_of (spot "B" 39) ∷ [])) ∷ []) ∷ class "B" 55 [] [] ∷ []

-- class A { B f; A m() { return this.f = this; } } class B { }
abbrev pub assigned_type : List Class
assigned_type = class "A" 6 (field "B" 10 "f" 12 ∷ []) (method "A" 15 "m" 17 [] (assignment (this_at 30) (spot "f" 35) (this_at 39)) ∷ []) ∷ class "B" 55 [] [] ∷ []

-- class A { B m() { return this; } } class B { }
abbrev pub returned_type : List Class
returned_type = class "A" 6 [] (method "B" 10 "m" 12 [] (this_at 25) ∷ []) ∷ class "B" 41 [] [] ∷ []
