-- The literal counts of a trail per level, and its weight.
use Rattle.std.proofs.Common.{◌≡◌, ◌≢◌, ℕ, zero, suc, ◌≤◌, ◌<◌, ◌+◌, ◌*◌, ◌^◌, ◌-◌, Bool, true, false, cond, List, [], ◌∷◌, ◌++◌, Some, is_none, map, count_by, ◌==◌, All, take, length, get_or, slice_get, Ordering, refl, sym, subst, ap, ◌∙◌, arith}
use Rattle.std.specs.declared.cmp.Ordering.TheVariants.{Less, Equal, Greater}
use Rattle.std.specs.List.{range_with_len}
use Rattle.std.specs.Ordering.{nat_cmp, ordering_then, MatchOrdering}
use Rattle.std.specs.Cmp.Lexicographic.{slice_cmp}
use Rattle.std.specs.Cmp.{nat_cmp_is}
use Rattle.std.proofs.lemmas.Cmp.{ranked}
use Rattle.std.proofs.lemmas.Bool.{eq-eqb, ne_eqb}
use Rattle.std.proofs.lemmas.List.Elements.{All-head, All-tail, All-cons}
use Rattle.std.proofs.lemmas.List.Sums.{sum_by-cons}
use Rattle.std.proofs.lemmas.Option.{slice_get-get_or}
use Rattle.sat_solver.specs.declared.entry.Entry.{Entry}
use Rattle.sat_solver.specs.Entries.{decisions}
use Rattle.sat_solver.specs.Trails.{TrailState, IsTrail}
use Rattle.sat_solver.specs.Measures.{weight, level_counts, WeightIsLexicographic}
use Rattle.sat_solver.specs.Searches.{Rises}
use Rattle.sat_solver.proofs.MeasureLemmas.{weight_below, power_above}

-- one more of the first count
abbrev bump : List ℕ → List ℕ
bump [] = []
bump (n ∷ ns) = suc n ∷ ns

-- the counts by recursion: a decision opens a level
abbrev counts : List Entry → List ℕ
counts [] = 0 ∷ []
counts (x ∷ xs) = cond (is_none x.reason) (0 ∷ bump (counts xs)) (bump (counts xs))

-- two pairs of numbers in one order
same_order : (a b c d : ℕ) → (a < b → c < d) → (a ≡ b → c ≡ d) → (b < a → d < c) → nat_cmp a b ≡ nat_cmp c d
same_order a b c d less same more = by (nat_cmp a b) (ranked a b (nat_cmp a b) refl)
  where
    by : (r : Ordering) → MatchOrdering r (a < b) (a ≡ b) (b < a) → r ≡ nat_cmp c d
    by Less h = nat_cmp_is c d Less (less h)
    by Equal h = nat_cmp_is c d Equal (same h)
    by Greater h = nat_cmp_is c d Greater (more h)

some_count : (xs : List Entry) → (n : ℕ) × (ns : List ℕ) × (counts xs ≡ n ∷ ns)
some_count [] = (0, [], refl)
some_count (x ∷ xs) = by (is_none x.reason) (some_count xs)
  where
    by : (b : Bool) → ((n : ℕ) × (ns : List ℕ) × (counts xs ≡ n ∷ ns)) → (n : ℕ) × (ns : List ℕ) × (cond b (0 ∷ bump (counts xs)) (bump (counts xs)) ≡ n ∷ ns)
    by true h = (0, bump (counts xs), refl)
    by false h = (suc h.0, h.1, ap bump h.2)

bumped : (xs ys : List Entry) → slice_cmp nat_cmp (bump (counts xs)) (bump (counts ys)) ≡ slice_cmp nat_cmp (counts xs) (counts ys)
bumped xs ys =
    let x = some_count xs in
    let y = some_count ys in
    let heads : nat_cmp (suc x.0) (suc y.0) ≡ nat_cmp x.0 y.0 = same_order (suc x.0) (suc y.0) x.0 y.0 (λ h. omega (arith, h)) (λ h. omega (arith, h)) (λ h. omega (arith, h)) in
    ap (λ l. slice_cmp nat_cmp (bump l) (bump (counts ys))) x.2
    ∙ ap (λ l. slice_cmp nat_cmp (suc x.0 ∷ x.1) (bump l)) y.2
    ∙ ap (λ r. ordering_then r (slice_cmp nat_cmp x.1 y.1)) heads
    ∙ sym (ap (λ l. slice_cmp nat_cmp l (counts ys)) x.2 ∙ ap (slice_cmp nat_cmp (x.0 ∷ x.1)) y.2)

-- no count against more, and the other way round
grows : (b : Bool) (ys : List Entry) → slice_cmp nat_cmp (0 ∷ []) (cond b (0 ∷ bump (counts ys)) (bump (counts ys))) ≡ Less
grows true ys = let y = some_count ys in ap (λ l. slice_cmp nat_cmp (0 ∷ []) (0 ∷ bump l)) y.2
grows false ys =
    let y = some_count ys in
    let less : nat_cmp 0 (suc y.0) ≡ Less = sym (nat_cmp_is 0 (suc y.0) Less (omega arith)) in
    ap (λ l. slice_cmp nat_cmp (0 ∷ []) (bump l)) y.2 ∙ ap (λ r. ordering_then r (slice_cmp nat_cmp [] y.1)) less

shrinks : (b : Bool) (xs : List Entry) → slice_cmp nat_cmp (cond b (0 ∷ bump (counts xs)) (bump (counts xs))) (0 ∷ []) ≡ Greater
shrinks true xs = let x = some_count xs in ap (λ l. slice_cmp nat_cmp (0 ∷ bump l) (0 ∷ [])) x.2
shrinks false xs =
    let x = some_count xs in
    let more : nat_cmp (suc x.0) 0 ≡ Greater = sym (nat_cmp_is (suc x.0) 0 Greater (omega arith)) in
    ap (λ l. slice_cmp nat_cmp (bump l) (0 ∷ [])) x.2 ∙ ap (λ r. ordering_then r (slice_cmp nat_cmp x.1 [])) more

some_weight : (b : Bool) (p w : ℕ) → 0 < p → 0 < cond b 1 2 * p + w
some_weight true p w h = omega arith
some_weight false p w h = omega arith

-- one digit in front
fronts : (b c : Bool) (p v w : ℕ) (xs ys : List Entry) → v < p → w < p → nat_cmp v w ≡ slice_cmp nat_cmp (counts xs) (counts ys) → nat_cmp (cond b 1 2 * p + v) (cond c 1 2 * p + w) ≡ slice_cmp nat_cmp (cond b (0 ∷ bump (counts xs)) (bump (counts xs))) (cond c (0 ∷ bump (counts ys)) (bump (counts ys)))
fronts true true p v w xs ys h k rest =
    same_order (1 * p + v) (1 * p + w) v w (λ l. omega (arith, l)) (λ l. omega (arith, l)) (λ l. omega (arith, l)) ∙ rest ∙ sym (bumped xs ys)
fronts false false p v w xs ys h k rest =
    same_order (2 * p + v) (2 * p + w) v w (λ l. omega (arith, l)) (λ l. omega (arith, l)) (λ l. omega (arith, l)) ∙ rest ∙ sym (bumped xs ys)
fronts true false p v w xs ys h k rest =
    let y = some_count ys in
    let less : nat_cmp 0 (suc y.0) ≡ Less = sym (nat_cmp_is 0 (suc y.0) Less (omega arith)) in
    sym (nat_cmp_is (1 * p + v) (2 * p + w) Less (omega arith)) ∙ sym (ap (λ l. slice_cmp nat_cmp (0 ∷ bump (counts xs)) (bump l)) y.2 ∙ ap (λ r. ordering_then r (slice_cmp nat_cmp (bump (counts xs)) y.1)) less)
fronts false true p v w xs ys h k rest =
    let x = some_count xs in
    let more : nat_cmp (suc x.0) 0 ≡ Greater = sym (nat_cmp_is (suc x.0) 0 Greater (omega arith)) in
    sym (nat_cmp_is (2 * p + v) (1 * p + w) Greater (omega arith)) ∙ sym (ap (λ l. slice_cmp nat_cmp (bump l) (0 ∷ bump (counts ys))) x.2 ∙ ap (λ r. ordering_then r (slice_cmp nat_cmp x.1 (bump (counts ys)))) more)

-- the weights of entries are ordered as their counts
ordered : (vars : ℕ) (xs ys : List Entry) → length xs ≤ vars → length ys ≤ vars → nat_cmp (weight vars xs) (weight vars ys) ≡ slice_cmp nat_cmp (counts xs) (counts ys)
ordered vars [] [] h k = sym (nat_cmp_is 0 0 Equal refl)
ordered zero (x ∷ xs) ys h k = absurd (omega arith)
ordered zero [] (y ∷ ys) h k = absurd (omega arith)
ordered (suc vars) [] (y ∷ ys) h k =
    sym (nat_cmp_is 0 (weight (suc vars) (y ∷ ys)) Less (some_weight (is_none y.reason) (3 ^ vars) (weight vars ys) (power_above vars))) ∙ sym (grows (is_none y.reason) ys)
ordered (suc vars) (x ∷ xs) [] h k =
    sym (nat_cmp_is (weight (suc vars) (x ∷ xs)) 0 Greater (some_weight (is_none x.reason) (3 ^ vars) (weight vars xs) (power_above vars))) ∙ sym (shrinks (is_none x.reason) xs)
ordered (suc vars) (x ∷ xs) (y ∷ ys) h k =
    fronts (is_none x.reason) (is_none y.reason) (3 ^ vars) (weight vars xs) (weight vars ys) xs ys (weight_below vars xs) (weight_below vars ys) (ordered vars xs ys (omega arith) (omega arith))

-- how many entries are of a level
abbrev count_on : List Entry → ℕ → ℕ
count_on xs level = count_by (λ entry. entry.level == level) xs

count_here : (x : Entry) (xs : List Entry) (level : ℕ) → x.level ≡ level → count_on (x ∷ xs) level ≡ suc (count_on xs level)
count_here x xs level e = sum_by-cons (λ entry. cond (entry.level == level) 1 0) x xs ∙ ap (λ b. cond b 1 0 + count_on xs level) (eq-eqb x.level level e) ∙ omega arith

count_elsewhere : (x : Entry) (xs : List Entry) (level : ℕ) → x.level ≢ level → count_on (x ∷ xs) level ≡ count_on xs level
count_elsewhere x xs level ne = sum_by-cons (λ entry. cond (entry.level == level) 1 0) x xs ∙ ap (λ b. cond b 1 0 + count_on xs level) (ne_eqb x.level level ne) ∙ omega arith

-- levels above the entry's have the counts that they had
counts_above : (x : Entry) (xs : List Entry) (from n : ℕ) → x.level < from → map (count_on (x ∷ xs)) (range_with_len from n) ≡ map (count_on xs) (range_with_len from n)
counts_above x xs from zero h = refl
counts_above x xs from (suc n) h = ap (λ c. c ∷ map (count_on (x ∷ xs)) (range_with_len (from + 1) n)) (count_elsewhere x xs from (λ e. omega (arith, e))) ∙ ap (λ l. count_on xs from ∷ l) (counts_above x xs (from + 1) n (omega arith))

counts_bump : (x : Entry) (xs : List Entry) (from n : ℕ) → x.level ≡ from → map (count_on (x ∷ xs)) (range_with_len from (suc n)) ≡ bump (map (count_on xs) (range_with_len from (suc n)))
counts_bump x xs from n e = ap (λ c. c ∷ map (count_on (x ∷ xs)) (range_with_len (from + 1) n)) (count_here x xs from e) ∙ ap (λ l. suc (count_on xs from) ∷ l) (counts_above x xs (from + 1) n (omega (arith, e)))

-- no entry is of a level below all
none_below : (xs : List Entry) (level : ℕ) → All (λ entry. level < entry.level) xs → count_on xs level ≡ 0
none_below [] level all = refl
none_below (x ∷ xs) level all =
    let head = All-head (λ entry. level < entry.level) x xs all in
    count_elsewhere x xs level (λ e. omega (arith, e, head)) ∙ none_below xs level (All-tail (λ entry. level < entry.level) x xs all)

-- each level is a base and the decisions so far
abbrev LevelsFrom : ℕ → List Entry → Type 0
LevelsFrom base xs = (k : ℕ) (x : Entry) → slice_get xs k ≡ Some x → x.level ≡ base + decisions (take k xs ++ x ∷ [])

decisions-cons : (x : Entry) (xs : List Entry) → decisions (x ∷ xs) ≡ cond (is_none x.reason) 1 0 + decisions xs
decisions-cons x xs = sum_by-cons (λ entry. cond (is_none entry.reason) 1 0) x xs

levels_after : (base : ℕ) (x : Entry) (xs : List Entry) → LevelsFrom base (x ∷ xs) → LevelsFrom (base + cond (is_none x.reason) 1 0) xs
levels_after base x xs levels = λ k y e. let here = levels (suc k) y e in let more = decisions-cons x (take k xs ++ y ∷ []) in omega (arith, here, more)

above_base : (base : ℕ) (xs : List Entry) → LevelsFrom (base + 1) xs → All (λ entry. base < entry.level) xs
above_base base xs levels = λ k d h. let here = levels k (get_or xs k d) (slice_get-get_or xs k d h) in omega (arith, here)

counts_are : (base : ℕ) (xs : List Entry) → LevelsFrom base xs → map (count_on xs) (range_with_len base (suc (decisions xs))) ≡ counts xs
counts_are base [] levels = refl
counts_are base (x ∷ xs) levels = by (is_none x.reason) refl (λ b. counts_are (base + b) xs)
  where
    many : (b : Bool) → is_none x.reason ≡ b → decisions (x ∷ xs) ≡ cond b 1 0 + decisions xs
    many b e = decisions-cons x xs ∙ ap (λ c. cond c 1 0 + decisions xs) e

    here : (b : Bool) → is_none x.reason ≡ b → x.level ≡ base + cond b 1 0
    here b e = let first = levels 0 x refl in let count = decisions-cons x [] in let bit : ◌≡◌ {A = ℕ} (cond (is_none x.reason) 1 0) (cond b 1 0) = ap (λ c. cond c 1 0) e in omega (arith, first, count, bit)

    after : (b : Bool) → is_none x.reason ≡ b → LevelsFrom (base + cond b 1 0) xs
    after b e = subst (λ c. LevelsFrom (base + cond c 1 0) xs) e (levels_after base x xs levels)

    by : (b : Bool) → is_none x.reason ≡ b → ((n : ℕ) → LevelsFrom (base + n) xs → map (count_on xs) (range_with_len (base + n) (suc (decisions xs))) ≡ counts xs) → map (count_on (x ∷ xs)) (range_with_len base (suc (decisions (x ∷ xs)))) ≡ cond b (0 ∷ bump (counts xs)) (bump (counts xs))
    by false e rest =
        let same : suc (decisions (x ∷ xs)) ≡ suc (decisions xs) = omega (arith, many false e) in
        let flat : base + 0 ≡ base = omega arith in
        let below : map (count_on xs) (range_with_len base (suc (decisions xs))) ≡ counts xs = subst (λ n. map (count_on xs) (range_with_len n (suc (decisions xs))) ≡ counts xs) flat (rest 0 (after false e)) in
        ap (λ n. map (count_on (x ∷ xs)) (range_with_len base n)) same ∙ counts_bump x xs base (decisions xs) (omega (arith, here false e)) ∙ ap bump below
    by true e rest =
        let same : suc (decisions (x ∷ xs)) ≡ suc (suc (decisions xs)) = omega (arith, many true e) in
        let opened : x.level ≡ base + 1 = here true e in
        let none : count_on (x ∷ xs) base ≡ 0 = none_below (x ∷ xs) base (All-cons (λ entry. base < entry.level) x xs (omega (arith, opened)) (above_base base xs (after true e))) in
        ap (λ n. map (count_on (x ∷ xs)) (range_with_len base n)) same ∙ ap (λ c. c ∷ map (count_on (x ∷ xs)) (range_with_len (base + 1) (suc (decisions xs)))) none ∙ ap (λ l. 0 ∷ l) (counts_bump x xs (base + 1) (decisions xs) opened ∙ ap bump (rest 1 (after true e)))

level_counts_are : (trail : TrailState) → IsTrail trail → level_counts trail ≡ counts trail.entries
level_counts_are trail is =
    let many : trail.level + 1 ≡ suc (decisions trail.entries) = omega (arith, is.level) in
    ap (λ n. map (count_on trail.entries) (range_with_len 0 n)) many ∙ counts_are 0 trail.entries (λ k x e. let here = is.levels k x e in omega (arith, here))

pub lexicographic : WeightIsLexicographic
lexicographic a b is_a is_b same =
    ap (λ n. nat_cmp (weight a.vars a.entries) (weight n b.entries)) (sym same)
    ∙ ordered a.vars a.entries b.entries is_a.small (omega (arith, is_b.small, same))
    ∙ sym (ap (λ l. slice_cmp nat_cmp l (level_counts b)) (level_counts_are a is_a) ∙ ap (slice_cmp nat_cmp (counts a.entries)) (level_counts_are b is_b))

-- a trail that goes farther rises
pub rises_farther : (old new : TrailState) → IsTrail old → IsTrail new → new.vars ≡ old.vars → weight old.vars old.entries < weight new.vars new.entries → Rises old new
rises_farther old new is_old is_new vars farther = sym (lexicographic old new is_old is_new (sym vars)) ∙ sym (nat_cmp_is (weight old.vars old.entries) (weight new.vars new.entries) Less farther)

-- what is left of a search falls as its trail rises
pub less_left : (old new : TrailState) → IsTrail old → IsTrail new → new.vars ≡ old.vars → Rises old new → 3 ^ new.vars - weight new.vars new.entries < 3 ^ old.vars - weight old.vars old.entries
less_left old new is_old is_new vars rises =
    let below = weight_below new.vars new.entries in
    let same : 3 ^ new.vars ≡ 3 ^ old.vars = ap (λ n. 3 ^ n) vars in
    let less : Less ≡ nat_cmp (weight old.vars old.entries) (weight new.vars new.entries) = sym (lexicographic old new is_old is_new (sym vars) ∙ rises) in
    let farther : weight old.vars old.entries < weight new.vars new.entries = ranked (weight old.vars old.entries) (weight new.vars new.entries) Less less in
    omega (arith, below, same, farther)
