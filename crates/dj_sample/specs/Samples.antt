-- The sample line of n features.
use Rattle.std.specs.Prelude.{ℕ, zero, suc, ◌==◌, ◌-◌, List, [], ◌∷◌, ◌++◌, codes, if◌then◌else◌}
use Rattle.std.specs.Fmt.{decimal}

abbrev pub Text : Type 0
Text = List ℕ

-- the pieces one behind the other
abbrev pub joined : List Text → Text
joined [] = []
joined (piece ∷ []) = piece
joined (piece ∷ other ∷ pieces) = piece ++ joined (other ∷ pieces)

-- the texts of the numbers from 1 to n
abbrev pub for_each : ℕ → (ℕ → Text) → Text
for_each zero text = []
for_each (suc n) text = for_each n text ++ text (suc n)

-- a feature, with a comma before each but the first
abbrev pub feature : ℕ → Text
feature i = if i == 1 then codes "F1" else joined (codes ", F" ∷ decimal i ∷ [])

-- where the two deltas of a feature are placed
abbrev pub placing : ℕ → Text
placing i =
    joined (
    codes "    On" ∷ decimal i ∷ codes " when F" ∷ decimal i ∷ codes ";\n" ∷
    codes "    Off" ∷ decimal i ∷ codes " when !F" ∷ decimal i ∷ codes ";\n" ∷ [])

-- the method of `Main` that calls the class of a feature
abbrev pub call : ℕ → Text
call i = joined (codes "    Node go" ∷ decimal i ∷ codes "(Node x) { return new C" ∷ decimal i ∷ codes "().run(x); }\n" ∷ [])

-- the superclass of that class where the feature is chosen
abbrev pub parent : ℕ → Text
parent i = if i == 1 then codes "Node" else joined (codes "C" ∷ decimal (i - 1) ∷ [])

-- the delta where the feature is chosen, and that where it isn't
abbrev pub on : Text → ℕ → Text
on parent i =
    joined (
    codes "delta On" ∷ decimal i ∷ codes " { adds class C" ∷ decimal i ∷ codes " extends " ∷ parent ∷ codes " { Node f" ∷ decimal i ∷
    codes "; Node run(Node x) { return this.f" ∷ decimal i ∷ codes ".run(x); } } }\n" ∷ [])

abbrev pub off : ℕ → Text
off i = joined (codes "delta Off" ∷ decimal i ∷ codes " { adds class C" ∷ decimal i ∷ codes " extends Node { Node run(Node x) { return this.next; } } }\n" ∷ [])

abbrev pub deltas : ℕ → Text
deltas i = on (parent i) i ++ off i

-- the listing
abbrev pub listing : Text → Text → Text → Text → Text
listing features placings calls deltas =
    joined (
    codes "line Sample {\n" ∷
    codes "  features " ∷ features ∷ codes ";\n" ∷
    codes "  valid true;\n" ∷
    codes "  part base { Base; }\n" ∷
    codes "  part choice after base {\n" ∷
    placings ∷
    codes "  }\n" ∷
    codes "}\n" ∷
    codes "delta Base {\n" ∷
    codes "  adds class Node { Node next; Node run(Node x) { return x; } }\n" ∷
    codes "  adds class Main extends Node {\n" ∷
    calls ∷
    codes "  }\n" ∷
    codes "}\n" ∷
    deltas ∷ [])

-- the sample of n features
abbrev pub sample : ℕ → Text
sample n = listing (for_each n feature) (for_each n placing) (for_each n call) (for_each n deltas)
