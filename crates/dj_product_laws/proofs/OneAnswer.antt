-- A configuration of an accepted source has a product, or a least instance prevents one. The search goes as a client's does: the least
-- conflict first, and then one pass along the parts. For clients: where there is a least pair or none, of either of two, of a list, of things.
use Rattle.std.proofs.Common.{◌≡◌, ◌⊎◌, inl, inr, ℕ, zero, suc, ◌+◌, ◌<◌, ◌≤◌, Bool, true, false, List, [], ◌∷◌, IsTrue, length, Contains, refl, sym, ap, ap₂, ◌∙◌, subst, arith}
use Rattle.std.specs.List.{flat_map}
use Rattle.std.proofs.lemmas.List.Sorted.{IsPermutation-refl}
use Rattle.dj_tree.specs.Trees.{Delta, Part, Source}
use Rattle.dj_tree.specs.declared.source.Instance.{Instance}
use Rattle.dj_calculus.specs.Configurations.{Configuration}
use Rattle.dj_calculus.specs.Parts.{chain, active}
use Rattle.dj_calculus.specs.Accepted.{IsAccepted}
use Rattle.dj_calculus.specs.Things.{Thing, things}
use Rattle.dj_calculus.specs.Conflicts.{conflict}
use Rattle.dj_calculus.specs.Tables.{Table}
use Rattle.dj_calculus.specs.Good.{HasProduct}
use Rattle.dj_calculus.specs.Instances.{IsLeast}
use Rattle.dj_calculus.proofs.Members.{no_element, first_or_other, among_others, either}
use Rattle.dj_calculus.proofs.Counting.{there_is}
use Rattle.dj_calculus.proofs.ProductLaw.{product_exactly_if}
use Rattle.dj_product_laws.specs.Passes.{attempt_all, met}
use Rattle.dj_product_laws.specs.LeastPairs.{IsLeastPair}
use Rattle.dj_product_laws.specs.LineConflicts.{ConflictIn, PreventsProduct}
use Rattle.dj_product_laws.specs.Overlaps.{ThingsConflict, ConflictAmong}
use Rattle.dj_product_laws.specs.PartFaults.{operations_in}
use Rattle.dj_product_laws.specs.OnePass.{Passed, begins, and_part, StopsAt}
use Rattle.dj_product_laws.proofs.ConflictProofs.{disjoint_from, least_conflict_prevents}
use Rattle.dj_product_laws.proofs.OnePart.{no_elements}
use Rattle.dj_product_laws.proofs.PassProofs.{passed_is_product, stopped_counts}
use Rattle.dj_product_laws.proofs.ForApply.{order_of, least_moved, least_of_either, least_of_one, either_turned}
use Rattle.dj_product_laws.proofs.OverlapProofs.{OfThing, thing_by_thing, delta_by_delta, part_by_part}

-- ---- a least pair or none

abbrev pub LeastOrNone : (ℕ → ℕ → Type 0) → Type 0
LeastOrNone P = ((p : ℕ) × ((q : ℕ) × IsLeastPair P p q)) ⊎ ((p q : ℕ) → ¬ (P p q))

ordered : (a b c d : ℕ) → ((a < c) ⊎ ((a ≡ c) × (b ≤ d))) ⊎ ((c < a) ⊎ ((c ≡ a) × (d ≤ b)))
ordered a b c d = grind arith

-- of either of two
pub least_of_both : (P Q : ℕ → ℕ → Type 0) → LeastOrNone P → LeastOrNone Q → LeastOrNone (λ p q. P p q ⊎ Q p q)
least_of_both P Q (inl l) (inl m) =
    either (ordered l.0 l.1.0 m.0 m.1.0) (λ low. inl (l.0, (l.1.0, least_of_either P Q l.0 l.1.0 m.0 m.1.0 l.1.1 m.1.1 low)))
    (λ low. inl (m.0, (m.1.0, either_turned Q P m.0 m.1.0 (least_of_either Q P m.0 m.1.0 l.0 l.1.0 m.1.1 l.1.1 low))))
least_of_both P Q (inl l) (inr none) = inl (l.0, (l.1.0, least_of_one P Q l.0 l.1.0 l.1.1 none))
least_of_both P Q (inr none) (inl m) = inl (m.0, (m.1.0, either_turned Q P m.0 m.1.0 (least_of_one Q P m.0 m.1.0 m.1.1 none)))
least_of_both P Q (inr none) (inr nothing) = inr (λ p q has. either has (none p q) (nothing p q))

pub least_or_none_moved : (P Q : ℕ → ℕ → Type 0) → ((p q : ℕ) → P p q → Q p q) → ((p q : ℕ) → Q p q → P p q) → LeastOrNone P → LeastOrNone Q
least_or_none_moved P Q onward back (inl l) = inl (l.0, (l.1.0, least_moved P Q l.0 l.1.0 onward back l.1.1))
least_or_none_moved P Q onward back (inr none) = inr (λ p q has. none p q (back p q has))

-- of one pair
of_pair : (a b : ℕ) → LeastOrNone (λ p q. (a ≡ p) × (b ≡ q))
of_pair a b = inl (a, (b, record { is = (refl, refl); least = λ p q same. inr (same.0, omega (arith, same.1)) }))

abbrev pair_of : ℕ → ℕ → ℕ × ℕ
pair_of r p = (r, p)

-- of a list
pub least_in : (qs : List (ℕ × ℕ)) → LeastOrNone (λ r p. Contains qs (r, p))
least_in [] = inr (λ r p has. no_element {X = ℕ × ℕ} (r, p) has)
least_in (f ∷ fs) =
    least_or_none_moved (λ r p. ((f.0 ≡ r) × (f.1 ≡ p)) ⊎ Contains fs (r, p)) (λ r p. Contains (f ∷ fs) (r, p))
    (λ r p has. either has (λ same. (0, omega arith, ap₂ pair_of same.0 same.1)) (λ later. among_others f (r, p) fs later))
    (λ r p has. either (first_or_other f (r, p) fs has) (λ same. inl (ap (λ x. x.0) same, ap (λ x. x.1) same)) (λ later. inr later))
    (least_of_both (λ r p. (f.0 ≡ r) × (f.1 ≡ p)) (λ r p. Contains fs (r, p)) (of_pair f.0 f.1) (least_in fs))

-- ---- conflicts

abbrev OfTwo : Thing → Thing → ℕ → ℕ → Type 0
OfTwo a b p q = IsTrue (conflict a b) × ((a.at ≡ p) × (b.at ≡ q))

of_two : (a b : Thing) (is : Bool) → conflict a b ≡ is → LeastOrNone (OfTwo a b)
of_two a b true e =
    least_or_none_moved (λ p q. (a.at ≡ p) × (b.at ≡ q)) (OfTwo a b) (λ p q same. (e, same)) (λ p q two. two.1) (of_pair a.at b.at)
of_two a b false e = inr (λ p q two. different (conflict a b) e two.0)
  where
    different : (x : Bool) → x ≡ false → x ≡ true → ⊥
    different x is other = absurd cc

-- of a thing and those of a list
of_thing : (a : Thing) (others : List Thing) → LeastOrNone (OfThing a others)
of_thing a [] = inr (λ p q has. no_element has.1.0 has.1.1)
of_thing a (b ∷ others) =
    least_or_none_moved (λ p q. OfTwo a b p q ⊎ OfThing a others p q) (OfThing a (b ∷ others))
    (λ p q has. either has (λ two. (two.1.0, (b, (0, omega arith, refl), two.0, two.1.1))) (λ later. (later.0, (later.1.0, among_others b later.1.0 others later.1.1, later.1.2, later.1.3))))
    (λ p q has. either (first_or_other b has.1.0 others has.1.1)
    (λ same. inl (subst (λ x. IsTrue (conflict a x)) (sym same) has.1.2, (has.0, ap (λ x. x.at) same ∙ has.1.3)))
    (λ later. inr (has.0, (has.1.0, later, has.1.2, has.1.3))))
    (least_of_both (OfTwo a b) (OfThing a others) (of_two a b (conflict a b) refl) (of_thing a others))

-- of the things of two lists
pub least_of_things : (ones others : List Thing) → LeastOrNone (ThingsConflict ones others)
least_of_things [] others = inr (thing_by_thing.none others)
least_of_things (a ∷ ones) others =
    least_or_none_moved (λ p q. OfThing a others p q ⊎ ThingsConflict ones others p q) (ThingsConflict (a ∷ ones) others)
    (λ p q. (thing_by_thing.more a ones others p q).1) (λ p q. (thing_by_thing.more a ones others p q).0)
    (least_of_both (OfThing a others) (ThingsConflict ones others) (of_thing a others) (least_of_things ones others))

-- of deltas
pub least_among : (deltas : List Delta) → LeastOrNone (ConflictAmong deltas)
least_among [] = inr delta_by_delta.none
least_among (d ∷ deltas) =
    least_or_none_moved (λ p q. ThingsConflict (things d) (flat_map things deltas) p q ⊎ ConflictAmong deltas p q) (ConflictAmong (d ∷ deltas))
    (λ p q. (delta_by_delta.more d deltas p q).1) (λ p q. (delta_by_delta.more d deltas p q).0)
    (least_of_both (ThingsConflict (things d) (flat_map things deltas)) (ConflictAmong deltas) (least_of_things (things d) (flat_map things deltas)) (least_among deltas))

module _ (source : Source) (c : Configuration) where
  abbrev AmongParts : List Part → ℕ → ℕ → Type 0
  AmongParts parts p q = (part : Part) × Contains parts part × ConflictAmong (active source c part) p q

  least_in_parts : (parts : List Part) → LeastOrNone (AmongParts parts)
  least_in_parts [] = inr (λ p q has. no_element has.0 has.1)
  least_in_parts (part ∷ parts) =
      least_or_none_moved (λ p q. ConflictAmong (active source c part) p q ⊎ AmongParts parts p q) (AmongParts (part ∷ parts))
      (λ p q has. either has (λ here. (part, (0, omega arith, refl), here)) (λ later. (later.0, among_others part later.0 parts later.1, later.2)))
      (λ p q has. either (first_or_other part has.0 parts has.1) (λ same. inl (subst (λ x. ConflictAmong (active source c x) p q) (sym same) has.2))
      (λ later. inr (has.0, later, has.2)))
      (least_of_both (ConflictAmong (active source c part)) (AmongParts parts) (least_among (active source c part)) (least_in_parts parts))

  pub least_conflict : LeastOrNone (ConflictIn source c)
  least_conflict =
      least_or_none_moved (AmongParts (chain source)) (ConflictIn source c) (λ p q. (part_by_part source c p q).1) (λ p q. (part_by_part source c p q).0)
      (least_in_parts (chain source))

  -- ---- one pass

  abbrev Outcome : Type 0
  Outcome = ((t : Table) × Passed source c (length (chain source)) t) ⊎ ((k : ℕ) × ((rule : ℕ) × ((at : ℕ) × StopsAt source c k rule at)))

  go_along : (left k : ℕ) (t : Table) → k + left ≡ length (chain source) → Passed source c k t → Outcome
  go_along zero k t all passed = let at_end : k ≡ length (chain source) = omega (arith, all) in inl (t, subst (λ n. Passed source c n t) at_end passed)
  go_along (suc left) k t all passed =
      let part = there_is (chain source) k (omega (arith, all)) in
      let xs = operations_in source c part.0 in
      let order = order_of xs xs (IsPermutation-refl xs) in
      either (least_in (met xs t))
      (λ l. inr (k, (l.0, (l.1.0, record { table = t; passed = passed; part = part.0; at_k = part.1; xs = xs; order = order; least = l.1.1 }))))
      (λ none. go_along left (suc k) (attempt_all xs t) (omega (arith, all)) (and_part passed part.1 order (no_elements (met xs t) (λ q. none q.0 q.1))))

  pub product_or_least : IsAccepted source → HasProduct source c ⊎ ((i : Instance) × IsLeast (PreventsProduct source c) i)
  product_or_least accepted =
      either least_conflict (λ l. inr (record { rule = 1; at = l.0; second = l.1.0 }, least_conflict_prevents source c l.0 l.1.0 l.1.1))
      (λ clear. either (go_along (length (chain source)) 0 _ (omega arith) begins)
      (λ done. inl (record { disjoint = disjoint_from source c clear; table = done.0; product = passed_is_product source c done.0 accepted clear done.1 }))
      (λ stopped. inr (
        record { rule = stopped.1.0; at = stopped.1.1.0; second = stopped.1.1.0 },
        stopped_counts source c stopped.0 stopped.1.0 stopped.1.1.0 accepted clear stopped.1.1.1,
      )))

pub not_both : (source : Source) (c : Configuration) (i : Instance) → IsAccepted source → HasProduct source c → ¬ (PreventsProduct source c i)
not_both source c i accepted has prevents = (product_exactly_if source accepted c).0 has i prevents.1 prevents.0
