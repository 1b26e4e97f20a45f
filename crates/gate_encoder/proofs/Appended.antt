-- Clauses put behind others, all of them or the first ones.
use Rattle.std.proofs.Common.{◌≡◌, ℕ, ◌≤◌, zero, suc, Bool, true, false, List, [], ◌∷◌, ◌++◌, length, map, take, refl, sym, ap, ◌∙◌, append_assoc, length-append, Result, Ok, Err, OnErr, All, arith}
use Rattle.std.proofs.lemmas.List.{append-nil, map-append, length-map, take-append-le, take_all, take-map}
use Rattle.sat_clauses.specs.declared.literal.Lit.{Lit}
use Rattle.sat_clauses.specs.Literals.{IsLiteral, opposite}
use Rattle.sat_clauses.specs.ClauseLists.{distinct_literals}
use Rattle.gate_encoder.specs.Writing.{any_clauses}
use Rattle.gate_encoder.specs.Appending.{with_clauses, IsBegun}

pub on_err : {T E : Type 0} (r : Result T E) (P : Type 0) → P → OnErr r P
on_err (Ok x) P p = tt
on_err (Err e) P p = p

pub all_after : (old xs ys : List (List Lit)) → with_clauses (with_clauses old xs) ys ≡ with_clauses old (xs ++ ys)
all_after old xs ys = append_assoc old (map distinct_literals xs) (map distinct_literals ys) ∙ ap (λ zs. old ++ zs) (sym (map-append distinct_literals xs ys))

pub begun_none : (old more new : List (List Lit)) → new ≡ old → IsBegun old more new
begun_none old more new same = record { count = 0; within = omega arith; begun = same ∙ sym (append-nil old) }

-- the first clauses, all of them
pub begun_whole : (old xs ys new : List (List Lit)) → new ≡ with_clauses old xs → IsBegun old (xs ++ ys) new
begun_whole old xs ys new is =
    record {
      count = length xs;
      within = omega (arith, length-append xs ys);
      begun = is ∙ ap (with_clauses old) (sym (take-append-le (length xs) xs ys (omega arith) ∙ take_all (length xs) xs (omega arith)));
    }

-- of the first clauses only some
pub begun_first : (old xs ys new : List (List Lit)) → IsBegun old xs new → IsBegun old (xs ++ ys) new
begun_first old xs ys new b =
    record {
      count = b.count;
      within = omega (arith, b.within, length-append xs ys);
      begun = b.begun ∙ ap (with_clauses old) (sym (take-append-le b.count xs ys b.within));
    }

pub begun_each : (old now new : List (List Lit)) (f : Lit → List Lit) (each : List Lit) (count : ℕ) → count ≤ length each → now ≡ with_clauses old (map f (take count each)) → new ≡ now → IsBegun old (map f each) new
begun_each old now new f each count within is same =
    record {
      count = count;
      within = omega (arith, length-map each f);
      begun = same ∙ is ∙ ap (with_clauses old) (sym (take-map f count each));
    }

pub two_of_four : (old one two new : List (List Lit)) (a b c d : List Lit) → one ≡ with_clauses old (a ∷ []) → two ≡ with_clauses one (b ∷ []) → new ≡ two → IsBegun old (a ∷ b ∷ c ∷ d ∷ []) new
two_of_four old one two new a b c d first second same =
    begun_whole old (a ∷ b ∷ []) (c ∷ d ∷ []) new (same ∙ second ∙ ap (λ xs. with_clauses xs (b ∷ [])) first ∙ all_after old (a ∷ []) (b ∷ []))

pub three_of_four : (old one two three new : List (List Lit)) (a b c d : List Lit) → one ≡ with_clauses old (a ∷ []) → two ≡ with_clauses one (b ∷ []) → three ≡ with_clauses two (c ∷ []) → new ≡ three → IsBegun old (a ∷ b ∷ c ∷ d ∷ []) new
three_of_four old one two three new a b c d first second third same =
    begun_whole old (a ∷ b ∷ c ∷ []) (d ∷ []) new
    (same ∙ third ∙ ap (λ xs. with_clauses xs (c ∷ [])) (second ∙ ap (λ xs. with_clauses xs (b ∷ [])) first ∙ all_after old (a ∷ []) (b ∷ [])) ∙ all_after old (a ∷ b ∷ []) (c ∷ []))

pub opposite_twice : (l : Lit) → opposite (opposite l) ≡ l
opposite_twice l = by l.var l.positive
  where
    by : (v : ℕ) (b : Bool) → opposite (opposite record { var = v; positive = b }) ≡ record { var = v; positive = b }
    by v true = refl
    by v false = refl

pub opposites_are : (ls : List Lit) → All IsLiteral ls → All IsLiteral (map opposite ls)
opposites_are ls all = by ls all
  where
    by : (xs : List Lit) → All IsLiteral xs → All IsLiteral (map opposite xs)
    by [] h k d within = absurd (omega arith)
    by (x ∷ xs) h zero d within = h 0 d (omega arith)
    by (x ∷ xs) h (suc k) d within = by xs (λ i e before. h (suc i) e (omega arith)) k d (omega arith)

-- an OR is an AND with everything turned round
pub any_is : (g first : Lit) (parts each : List Lit) → first ≡ opposite g → each ≡ map opposite parts → map (λ l. opposite first ∷ l ∷ []) each ++ (first ∷ parts) ∷ [] ≡ any_clauses g parts
any_is g first parts each turned opposites =
    ap (λ x. map (λ l. opposite x ∷ l ∷ []) each ++ (x ∷ parts) ∷ []) turned ∙ ap (λ xs. map (λ l. opposite (opposite g) ∷ l ∷ []) xs ++ (opposite g ∷ parts) ∷ []) opposites
    ∙ ap (λ xs. xs ++ (opposite g ∷ parts) ∷ []) (by parts)
  where
    by : (ls : List Lit) → map (λ l. opposite (opposite g) ∷ l ∷ []) (map opposite ls) ≡ map (λ l. g ∷ opposite l ∷ []) ls
    by [] = refl
    by (l ∷ ls) = ap (λ x. (x ∷ opposite l ∷ []) ∷ map (λ m. opposite (opposite g) ∷ m ∷ []) (map opposite ls)) (opposite_twice g) ∙ ap (λ xs. (g ∷ opposite l ∷ []) ∷ xs) (by ls)
