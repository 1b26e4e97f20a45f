-- Lemmas on conflicts and on operations of several deltas, for clients.
use Rattle.std.proofs.Common.{◌≡◌, Bool, true, ◌&&◌, List, [], ◌∷◌, map, Contains, refl, sym, ap, ◌∙◌}
use Rattle.std.specs.List.{flat_map}
use Rattle.std.specs.Str.{bytes_eq}
use Rattle.std.proofs.lemmas.Slice.Eq.{bytes_eq-Decides}
use Rattle.dj_names.specs.Texts.{Text}
use Rattle.dj_tree.specs.Trees.{Operation, adds_class, modifies_class, removes_class, Delta}
use Rattle.dj_calculus.specs.Contents.{class_name}
use Rattle.dj_calculus.specs.Things.{steps_of, Piece, superclass, field_named, method_named, Touch, whole, mention, only, Thing, thing_of, touched_by}
use Rattle.dj_calculus.specs.Conflicts.{same_piece, collide, conflict}
use Rattle.dj_calculus.specs.Tables.{Table}
use Rattle.dj_calculus.specs.Operations.{run, apply, apply_delta}
use Rattle.dj_calculus.proofs.Members.{either, first_or_other, mapped_from, only_one}
use Rattle.dj_calculus.proofs.ExpressionForms.{both_of}
use Rattle.dj_calculus.proofs.GoodLemmas.{run_append}
use Rattle.dj_calculus.proofs.Independence.{then_same}
use Rattle.dj_calculus.proofs.DisjointDeltas.{NoConflict}

-- ---- a conflict is one of both

same_bytes : (x y : Text) → bytes_eq x y ≡ true → bytes_eq y x ≡ true
same_bytes x y e = (bytes_eq-Decides y x).1 (sym ((bytes_eq-Decides x y).0 e))

same_piece_turned : (p q : Piece) → same_piece p q ≡ true → same_piece q p ≡ true
same_piece_turned superclass superclass e = refl
same_piece_turned superclass (field_named g) e = absurd cc
same_piece_turned superclass (method_named n) e = absurd cc
same_piece_turned (field_named f) superclass e = absurd cc
same_piece_turned (field_named f) (field_named g) e = same_bytes f g e
same_piece_turned (field_named f) (method_named n) e = absurd cc
same_piece_turned (method_named m) superclass e = absurd cc
same_piece_turned (method_named m) (field_named g) e = absurd cc
same_piece_turned (method_named m) (method_named n) e = same_bytes m n e

collide_turned : (p q : Touch) → collide p q ≡ true → collide q p ≡ true
collide_turned whole whole e = refl
collide_turned whole mention e = refl
collide_turned whole (only q) e = refl
collide_turned mention whole e = refl
collide_turned mention mention e = absurd cc
collide_turned mention (only q) e = absurd cc
collide_turned (only p) whole e = refl
collide_turned (only p) mention e = absurd cc
collide_turned (only p) (only q) e = same_piece_turned p q e

both : (a b : Bool) → a ≡ true → b ≡ true → (a && b) ≡ true
both a b p q = rw (p, q) refl

pub conflict_turned : (a b : Thing) → conflict a b ≡ true → conflict b a ≡ true
conflict_turned a b e =
    let parts = both_of (bytes_eq a.class b.class) (collide a.touch b.touch) e in
    both (bytes_eq b.class a.class) (collide b.touch a.touch) (same_bytes a.class b.class parts.0) (collide_turned a.touch b.touch parts.1)

-- ---- operations on other classes

touches_its_class : (x : Operation) (a : Thing) → Contains (touched_by x) a → (class_name x).text ≡ a.class
touches_its_class (adds_class c) a has = ap (λ z. z.class) (only_one (record { class = c.name.text; touch = whole; at = c.name.at }) a has)
touches_its_class (removes_class c) a has = ap (λ z. z.class) (only_one (record { class = c.text; touch = whole; at = c.at }) a has)
touches_its_class (modifies_class c) a has =
    either (first_or_other (record { class = c.name.text; touch = mention; at = c.name.at }) a (map (thing_of c.name.text) (steps_of c)) has) (λ same. ap (λ z. z.class) same)
    (λ later. let found = mapped_from (thing_of c.name.text) (steps_of c) a later in ap (λ z. z.class) found.2)

pub no_conflict_elsewhere : (x y : Operation) → ¬ ((class_name x).text ≡ (class_name y).text) → NoConflict x y
no_conflict_elsewhere x y apart a b of_x of_y clash =
    let same = (bytes_eq-Decides a.class b.class).0 (both_of (bytes_eq a.class b.class) (collide a.touch b.touch) clash).0 in
    apart (touches_its_class x a of_x ∙ same ∙ sym (touches_its_class y b of_y))

-- ---- the operations of several deltas

-- to apply the operations of all of them is to apply the deltas
pub all_operations : (deltas : List Delta) (t : Table) → run apply (flat_map (λ d. d.operations) deltas) t ≡ run apply_delta deltas t
all_operations [] t = refl
all_operations (d ∷ deltas) t =
    run_append apply d.operations (flat_map (λ e. e.operations) deltas) t
    ∙ then_same (run apply (flat_map (λ e. e.operations) deltas)) (run apply_delta deltas) (run apply d.operations t) (all_operations deltas)
