-- Conflicts by lists of things: which things conflict, thing by thing, delta by delta, part by part.
use Rattle.std.proofs.Common.{◌≡◌, ◌⊎◌, inl, inr, ◌↔◌, ℕ, zero, suc, ◌<◌, true, List, [], ◌∷◌, Some, IsTrue, slice_get, Contains, refl, sym, ap, ◌∙◌, subst, arith}
use Rattle.std.specs.List.{flat_map}
use Rattle.std.specs.Str.{bytes_eq}
use Rattle.std.proofs.lemmas.Slice.Eq.{bytes_eq-Decides}
use Rattle.dj_tree.specs.Trees.{Delta, Part, Source}
use Rattle.dj_calculus.specs.Configurations.{Configuration}
use Rattle.dj_calculus.specs.Parts.{chain, active}
use Rattle.dj_calculus.specs.Things.{Piece, superclass, field_named, method_named, Touch, whole, mention, only, Thing, things}
use Rattle.dj_calculus.specs.Conflicts.{same_piece, collide, conflict, ConflictAt, Disjoint, LeastConflict}
use Rattle.dj_calculus.proofs.Members.{no_element, first_or_other, among_others, either, from_flat, within_flat}
use Rattle.dj_calculus.proofs.Counting.{got_within, number_in}
use Rattle.dj_calculus.proofs.ExpressionForms.{both_of}
use Rattle.dj_calculus.proofs.DisjointDeltas.{same_piece_itself}
use Rattle.dj_product_laws.specs.LeastPairs.{IsLeastPair}
use Rattle.dj_product_laws.specs.LineConflicts.{ConflictIn}
use Rattle.dj_product_laws.specs.Overlaps.{ThingsConflict, ConflictAmong}
use Rattle.dj_product_laws.specs.OverlapLaws.{ThingsThatConflict, ThingByThing, DeltaByDelta}
use Rattle.dj_product_laws.proofs.ConflictProofs.{conflict_of}

-- ---- things

one_piece : (p q : Piece) → same_piece p q ≡ true → p ≡ q
one_piece superclass superclass e = refl
one_piece superclass (field_named g) e = absurd cc
one_piece superclass (method_named n) e = absurd cc
one_piece (field_named f) superclass e = absurd cc
one_piece (field_named f) (field_named g) e = ap field_named ((bytes_eq-Decides f g).0 e)
one_piece (field_named f) (method_named n) e = absurd cc
one_piece (method_named m) superclass e = absurd cc
one_piece (method_named m) (field_named g) e = absurd cc
one_piece (method_named m) (method_named n) e = ap method_named ((bytes_eq-Decides m n).0 e)

mention_collides : (u : Touch) → collide mention u ≡ true → u ≡ whole
mention_collides whole e = refl
mention_collides mention e = absurd cc
mention_collides (only q) e = absurd cc

piece_collides : (p : Piece) (u : Touch) → collide (only p) u ≡ true → (u ≡ whole) ⊎ (u ≡ only p)
piece_collides p whole e = inl refl
piece_collides p mention e = absurd cc
piece_collides p (only q) e = inr (ap only (sym (one_piece p q e)))

-- things of one class whose touches collide conflict
clashes : (a b : Thing) → a.class ≡ b.class → collide a.touch b.touch ≡ true → conflict a b ≡ true
clashes a b same touches = rw ((bytes_eq-Decides a.class b.class).1 same, touches) refl

parts_of : (a b : Thing) → conflict a b ≡ true → (a.class ≡ b.class) × (collide a.touch b.touch ≡ true)
parts_of a b e = let parts = both_of (bytes_eq a.class b.class) (collide a.touch b.touch) e in ((bytes_eq-Decides a.class b.class).0 parts.0, parts.1)

pub things_that_conflict : ThingsThatConflict
things_that_conflict =
    record {
      of_whole = λ class at b. let a : Thing = record { class = class; touch = whole; at = at } in (λ e. (parts_of a b e).0, λ same. clashes a b same refl);
      of_mention = λ class at b. let a : Thing = record { class = class; touch = mention; at = at } in (
        λ e. let parts = parts_of a b e in (parts.0, mention_collides b.touch parts.1),
        λ is. clashes a b is.0 (ap (collide mention) is.1),
      );
      of_piece = λ class p at b. let a : Thing = record { class = class; touch = only p; at = at } in (
        λ e. let parts = parts_of a b e in (parts.0, piece_collides p b.touch parts.1),
        λ is. clashes a b is.0 (either is.1 (λ all. ap (collide (only p)) all) (λ piece. ap (collide (only p)) piece ∙ same_piece_itself p)),
      );
    }

-- ---- two deltas

pub deltas_by_things : (one other : Delta) (first second : ℕ) → ConflictAt one other first second ↔ ThingsConflict (things one) (things other) first second
deltas_by_things one other first second = (
  λ w. record { a = w.a; b = w.b; of_ones = w.of_one; of_others = w.of_other; clash = w.clash; first_at = w.first_at; second_at = w.second_at },
  λ w. record { a = w.a; b = w.b; of_one = w.of_ones; of_other = w.of_others; clash = w.clash; first_at = w.first_at; second_at = w.second_at },
)

pub least_by_things : (one other : Delta) (first second : ℕ) → LeastConflict one other first second
    ↔ IsLeastPair (ThingsConflict (things one) (things other)) first second
least_by_things one other first second = (
  λ l. record { is = (deltas_by_things one other first second).0 l.clash; least = λ p q has. l.least p q ((deltas_by_things one other p q).1 has) },
  λ l. record { clash = (deltas_by_things one other first second).1 l.is; least = λ p q has. l.least p q ((deltas_by_things one other p q).0 has) },
)

pub disjoint_by_things : (one other : Delta) → Disjoint one other ↔ ((first second : ℕ) → ¬ (ThingsConflict (things one) (things other) first second))
disjoint_by_things one other = (
  λ disjoint first second has. disjoint (first, (second, (deltas_by_things one other first second).1 has)),
  λ none overlap. none overlap.0 overlap.1.0 ((deltas_by_things one other overlap.0 overlap.1.0).0 overlap.1.1),
)

-- ---- thing by thing

abbrev pub OfThing : Thing → List Thing → ℕ → ℕ → Type 0
OfThing a others first second = (a.at ≡ first) × ((b : Thing) × Contains others b × IsTrue (conflict a b) × (b.at ≡ second))

of_first_or_others : (a : Thing) (ones others : List Thing) (first second : ℕ) → ThingsConflict (a ∷ ones) others first second
    → OfThing a others first second ⊎ ThingsConflict ones others first second
of_first_or_others a ones others first second w =
    either (first_or_other a w.a ones w.of_ones)
    (λ same. inl (ap (λ x. x.at) same ∙ w.first_at, (w.b, w.of_others, subst (λ x. IsTrue (conflict x w.b)) (sym same) w.clash, w.second_at)))
    (λ later. inr (record { a = w.a; b = w.b; of_ones = later; of_others = w.of_others; clash = w.clash; first_at = w.first_at; second_at = w.second_at }))

of_thing : (a : Thing) (ones others : List Thing) (first second : ℕ) → OfThing a others first second → ThingsConflict (a ∷ ones) others first second
of_thing a ones others first second w =
    record { a = a; b = w.1.0; of_ones = (0, omega arith, refl); of_others = w.1.1; clash = w.1.2; first_at = w.0; second_at = w.1.3 }

still_of_others : (a : Thing) (ones others : List Thing) (first second : ℕ) → ThingsConflict ones others first second → ThingsConflict (a ∷ ones) others first second
still_of_others a ones others first second w =
    record { a = w.a; b = w.b; of_ones = among_others a w.a ones w.of_ones; of_others = w.of_others; clash = w.clash; first_at = w.first_at; second_at = w.second_at }

pub thing_by_thing : ThingByThing
thing_by_thing =
    record {
      none = λ others first second w. no_element w.a w.of_ones;
      more = λ a ones others first second. (
        of_first_or_others a ones others first second,
        λ either_of. either either_of (of_thing a ones others first second) (still_of_others a ones others first second),
      );
    }

-- ---- delta by delta

-- the first delta against a later one, or two later ones
first_or_later : (d : Delta) (deltas : List Delta) (first second i j : ℕ) (one other : Delta) → i < j → slice_get (d ∷ deltas) i ≡ Some one
    → slice_get (d ∷ deltas) j ≡ Some other → ConflictAt one other first second
    → ThingsConflict (things d) (flat_map things deltas) first second ⊎ ConflictAmong deltas first second
first_or_later d deltas first second i zero one other behind at_i at_j w = absurd (omega arith)
first_or_later d deltas first second zero (suc j) one other behind at_i at_j w =
    let same : one ≡ d = cc in
    inl (record {
      a = w.a;
      b = w.b;
      of_ones = subst (λ e. Contains (things e) w.a) same w.of_one;
      of_others = within_flat things deltas other w.b (got_within deltas j other at_j) w.of_other;
      clash = w.clash;
      first_at = w.first_at;
      second_at = w.second_at;
    })
first_or_later d deltas first second (suc i) (suc j) one other behind at_i at_j w =
    inr (record { i = i; j = j; behind = omega arith; one = one; other = other; at_i = at_i; at_j = at_j; clash = w })

of_first : (d : Delta) (deltas : List Delta) (first second : ℕ) → ThingsConflict (things d) (flat_map things deltas) first second
    → ConflictAmong (d ∷ deltas) first second
of_first d deltas first second w =
    let other = from_flat things deltas w.b w.of_others in
    let number = number_in deltas other.0 other.1 in
    record {
      i = 0;
      j = suc number.0;
      behind = omega arith;
      one = d;
      other = other.0;
      at_i = refl;
      at_j = number.1;
      clash = record { a = w.a; b = w.b; of_one = w.of_ones; of_other = other.2; clash = w.clash; first_at = w.first_at; second_at = w.second_at };
    }

of_later : (d : Delta) (deltas : List Delta) (first second : ℕ) → ConflictAmong deltas first second → ConflictAmong (d ∷ deltas) first second
of_later d deltas first second w =
    record { i = suc w.i; j = suc w.j; behind = omega (arith, w.behind); one = w.one; other = w.other; at_i = w.at_i; at_j = w.at_j; clash = w.clash }

none_among : (first second : ℕ) → ¬ (ConflictAmong [] first second)
none_among first second w = absurd (nothing_there w.i w.one w.at_i)
  where
    nothing_there : (i : ℕ) (one : Delta) → slice_get [] i ≡ Some one → ⊥
    nothing_there i one e = absurd cc

pub delta_by_delta : DeltaByDelta
delta_by_delta =
    record {
      none = none_among;
      more = λ d deltas first second. (
        λ w. first_or_later d deltas first second w.i w.j w.one w.other w.behind w.at_i w.at_j w.clash,
        λ either_of. either either_of (of_first d deltas first second) (of_later d deltas first second),
      );
    }

-- ---- part by part

pub part_by_part : (source : Source) (c : Configuration) (first second : ℕ)
    → ConflictIn source c first second ↔ ((part : Part) × Contains (chain source) part × ConflictAmong (active source c part) first second)
part_by_part source c first second = (
  λ w. (w.part, w.of_chain, record { i = w.i; j = w.j; behind = w.behind; one = w.one; other = w.other; at_i = w.at_i; at_j = w.at_j; clash = w.clash }),
  λ w. conflict_of source c w.0 w.2.i w.2.j w.2.one w.2.other first second w.1 w.2.behind w.2.at_i w.2.at_j w.2.clash,
)
