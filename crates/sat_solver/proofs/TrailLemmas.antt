-- Trails that grow and lose their ends.
use Rattle.std.proofs.Common.{◌≡◌, ◌≢◌, ℕ, zero, suc, ◌≤◌, ◌<◌, ◌+◌, ◌-◌, Bool, true, false, cond, List, [], ◌∷◌, ◌++◌, Option, Some, None, is_none, take, length, get_or, set, slice_get, slice_index, count_by, map, All, refl, sym, subst, ap, ◌∙◌, arith, ◌*◌, replicate, ◌⊎◌, inl, inr}
use Rattle.std.specs.List.{range_with_len}
use Rattle.std.proofs.lemmas.List.{length-set, length_push, get_or-set_same, get_or-set_other, length-replicate, take_all, take-take, length-take-le}
use Rattle.std.proofs.lemmas.List.Sums.{sum_by_push, sum_by-set, sum_by-take-le, get_or-le-sum_by}
use Rattle.std.proofs.lemmas.List.Folds.{sum_by-replicate}
use Rattle.std.proofs.lemmas.List.Elements.{All-push, All-nil, All-take, All-from_get_or}
use Rattle.std.proofs.lemmas.Option.{none-some, same_Some, slice_get_within}
use Rattle.std.proofs.lemmas.Bool.{lt-leb, le-leb, cases_lt}
use Rattle.sat_solver.specs.declared.entry.Entry.{Entry}
use Rattle.sat_solver.specs.Entries.{value_in, values_of, AllAlong, decisions, up_to}
use Rattle.sat_solver.specs.Trails.{KeepsTrail}
use Rattle.sat_solver.proofs.AlongLemmas.{Along-push, Along-take, All-at, in_take, take_next}
use Rattle.sat_solver.proofs.EntryLemmas.{free_apart, values_at, values-push, values-pop, value_pushed}

at_most_one : (entry : Entry) → cond (is_none entry.reason) 1 0 ≤ 1
at_most_one entry = elim (is_none entry.reason) as (λ b. cond b 1 0 ≤ 1) [ true ↦ omega arith | false ↦ omega arith ]

pub decisions-push : (xs : List Entry) (y : Entry) → decisions (xs ++ y ∷ []) ≡ decisions xs + cond (is_none y.reason) 1 0
decisions-push xs y = sum_by_push (λ entry. cond (is_none entry.reason) 1 0) xs y

module _ (values : List (Option Bool)) (levels : List ℕ) (entries : List Entry) (level worked capacity : ℕ) (keeps : KeepsTrail values levels entries level worked capacity) where
  pub value_there : (var : ℕ) → 1 ≤ var → var ≤ length values → get_or values (var - 1) None ≡ value_in entries var
  value_there var low high = ap (λ vs. get_or vs (var - 1) None) keeps.valued ∙ values_at (length values) entries var low high

  module _ (y : Entry) (low : 1 ≤ y.lit.var) (high : y.lit.var ≤ length values) (free : value_in entries y.lit.var ≡ None) where
    free_there : get_or values (y.lit.var - 1) None ≡ None
    free_there = value_there y.lit.var low high ∙ free

    pub room_left : length entries < length values
    room_left =
        let f : Option Bool → ℕ = λ o. cond (is_none o) 1 0 in
        let some : f (get_or values (y.lit.var - 1) None) ≤ count_by is_none values = get_or-le-sum_by f values (y.lit.var - 1) None (omega arith) in
        let one : f (get_or values (y.lit.var - 1) None) ≡ 1 = ap f free_there in
        omega (arith, some, one, keeps.free)

    pub push_keeps : y.level ≡ decisions (entries ++ y ∷ []) → KeepsTrail (set values (y.lit.var - 1) (Some y.lit.positive)) (set levels (y.lit.var - 1) y.level) (entries ++ y ∷ []) y.level worked capacity
    push_keeps leveled =
        let same : length (set values (y.lit.var - 1) (Some y.lit.positive)) ≡ length values = length-set values (y.lit.var - 1) (Some y.lit.positive) in
        let longer : length (entries ++ y ∷ []) ≡ length entries + 1 = length_push entries y in
        let f : Option Bool → ℕ = λ o. cond (is_none o) 1 0 in
        let fewer : count_by is_none (set values (y.lit.var - 1) (Some y.lit.positive)) + f (get_or values (y.lit.var - 1) None) ≡ count_by is_none values + 0 = sum_by-set f values (y.lit.var - 1) (Some y.lit.positive) None (omega arith) in
        let one : f (get_or values (y.lit.var - 1) None) ≡ 1 = ap f free_there in
        let room = room_left in
        record {
          trail = record {
            within = subst (λ n. All (λ entry. (1 ≤ entry.lit.var) × (entry.lit.var ≤ n)) (entries ++ y ∷ [])) (sym same) (All-push (λ entry. (1 ≤ entry.lit.var) × (entry.lit.var ≤ length values)) entries y keeps.trail.within (low, high));
            fresh = Along-push (λ before entry. value_in before entry.lit.var ≡ None) entries y keeps.trail.fresh free;
            levels = Along-push (λ before entry. entry.level ≡ decisions (before ++ entry ∷ [])) entries y keeps.trail.levels leveled;
            level = leveled;
            small = omega (arith, longer, same, room);
            worked = omega (arith, longer, keeps.trail.worked);
          };
          valued = ap (λ vs. set vs (y.lit.var - 1) (Some y.lit.positive)) keeps.valued ∙ sym (values-push (length values) entries y low high free) ∙ ap (λ n. values_of n (entries ++ y ∷ [])) (sym same);
          leveled = All-push (λ entry. slice_index (set levels (y.lit.var - 1) y.level) (entry.lit.var - 1) ≡ entry.level) entries y (All-from_get_or (λ entry. slice_index (set levels (y.lit.var - 1) y.level) (entry.lit.var - 1) ≡ entry.level) entries y old_levels) (get_or-set_same levels (y.lit.var - 1) y.level 0 (omega (arith, keeps.lengths)));
          lengths = length-set levels (y.lit.var - 1) y.level ∙ keeps.lengths ∙ sym same;
          free = omega (arith, longer, same, fewer, one, keeps.free);
          room = omega (arith, same, keeps.room);
        }
      where
        old_levels : (k : ℕ) → k < length entries → slice_index (set levels (y.lit.var - 1) y.level) ((get_or entries k y).lit.var - 1) ≡ (get_or entries k y).level
        old_levels k h =
            let here : (1 ≤ (get_or entries k y).lit.var) × ((get_or entries k y).lit.var ≤ length values) = keeps.trail.within k y h in
            let apart : (get_or entries k y).lit.var ≢ y.lit.var = free_apart entries y.lit.var free k y h in
            let index_apart : (get_or entries k y).lit.var - 1 ≢ y.lit.var - 1 = λ e. apart (omega (arith, here, e, low)) in
            get_or-set_other levels (y.lit.var - 1) ((get_or entries k y).lit.var - 1) y.level 0 index_apart ∙ keeps.leveled k y h

none_valued : (vars : ℕ) → replicate {A = Option Bool} vars None ≡ values_of vars []
none_valued vars = go 1 vars
  where
    go : (a n : ℕ) → replicate {A = Option Bool} n None ≡ map (value_in []) (range_with_len a n)
    go a zero = refl
    go a (suc n) = ap (λ vs. None ∷ vs) (go (a + 1) n)

-- a trail without literals
pub empty_keeps : (vars capacity : ℕ) → vars ≤ capacity → KeepsTrail (replicate vars None) (replicate vars 0) [] 0 0 capacity
empty_keeps vars capacity room =
    let many : length (replicate {A = Option Bool} vars None) ≡ vars = length-replicate vars None in
    let all_free : count_by is_none (replicate {A = Option Bool} vars None) ≡ vars * 1 = sum_by-replicate (λ (o : Option Bool). cond (is_none o) 1 0) vars None in
    record {
      trail = record {
        within = All-nil (λ (entry : Entry). (1 ≤ entry.lit.var) × (entry.lit.var ≤ length (replicate {A = Option Bool} vars None)));
        fresh = λ k x e. absurd (none-some x e);
        levels = λ k x e. absurd (none-some x e);
        level = refl;
        small = omega arith;
        worked = omega arith;
      };
      valued = none_valued vars ∙ ap (λ n. values_of n []) (sym many);
      leveled = All-nil (λ (entry : Entry). slice_index (replicate vars 0) (entry.lit.var - 1) ≡ entry.level);
      lengths = length-replicate vars 0 ∙ sym many;
      free = omega (arith, many, all_free);
      room = omega (arith, many);
    }

-- the last element of a list, and those before it
split_last : (xs : List Entry) (y : Entry) → slice_get xs (length xs - 1) ≡ Some y → xs ≡ take (length xs - 1) xs ++ y ∷ []
split_last xs y e =
    let within : length xs - 1 < length xs = slice_get_within xs (length xs - 1) y e in
    let whole : suc (length xs - 1) ≡ length xs = omega arith in
    sym (take_all (suc (length xs - 1)) xs (omega arith)) ∙ take_next xs (length xs - 1) y e

-- the levels of a trail
module _ (entries : List Entry) (levels : AllAlong (λ before entry. entry.level ≡ decisions (before ++ entry ∷ [])) entries) where
  pub level_at : (k : ℕ) (x : Entry) → slice_get entries k ≡ Some x → x.level ≡ decisions (take (suc k) entries)
  level_at k x e = levels k x e ∙ ap decisions (sym (take_next entries k x e))

  pub levels_rise : (j k : ℕ) (x y : Entry) → j ≤ k → slice_get entries j ≡ Some x → slice_get entries k ≡ Some y → x.level ≤ y.level
  levels_rise j k x y h ex ey =
      let f : Entry → ℕ = λ entry. cond (is_none entry.reason) 1 0 in
      let part : take (suc j) (take (suc k) entries) ≡ take (suc j) entries = take-take (suc j) (suc k) entries (omega arith) in
      let fewer : decisions (take (suc j) (take (suc k) entries)) ≤ decisions (take (suc k) entries) = sum_by-take-le f (take (suc k) entries) (suc j) in
      let fewer_there : decisions (take (suc j) entries) ≤ decisions (take (suc k) entries) = subst (λ xs. decisions xs ≤ decisions (take (suc k) entries)) part fewer in
      omega (arith, fewer_there, level_at j x ex, level_at k y ey)

-- no entry is above the level of the whole, nor one above that of those before a place
module _ (entries : List Entry) (levels : AllAlong (λ before entry. entry.level ≡ decisions (before ++ entry ∷ [])) entries) where
  pub before_level : (place k : ℕ) (x : Entry) → k < place → slice_get entries k ≡ Some x → x.level ≤ decisions (take place entries)
  before_level place k x h e =
      let f : Entry → ℕ = λ entry. cond (is_none entry.reason) 1 0 in
      let fewer : decisions (take (suc k) (take place entries)) ≤ decisions (take place entries) = sum_by-take-le f (take place entries) (suc k) in
      let there : decisions (take (suc k) entries) ≤ decisions (take place entries) = subst (λ xs. decisions xs ≤ decisions (take place entries)) (take-take (suc k) place entries (omega arith)) fewer in
      omega (arith, there, level_at entries levels k x e)

  pub level_low : (place : ℕ) (x : Entry) → slice_get entries place ≡ Some x → x.level ≤ decisions entries
  level_low place x e =
      let f : Entry → ℕ = λ entry. cond (is_none entry.reason) 1 0 in
      let fewer : decisions (take (suc place) entries) ≤ decisions entries = sum_by-take-le f entries (suc place) in
      omega (arith, fewer, level_at entries levels place x e)

up_to-take : (xs : List Entry) (n level : ℕ) → ((k : ℕ) (x : Entry) → k < n → slice_get xs k ≡ Some x → x.level ≤ level) → ((k : ℕ) (x : Entry) → n ≤ k → slice_get xs k ≡ Some x → level < x.level) → up_to level xs ≡ take n xs
up_to-take [] zero level kept dropped = refl
up_to-take [] (suc n) level kept dropped = refl
up_to-take (x ∷ xs) zero level kept dropped =
    ap (λ b. cond b (x ∷ up_to level xs) (up_to level xs)) (lt-leb x.level level (dropped 0 x (omega arith) refl)) ∙ up_to-take xs zero level (λ k y h e. absurd (omega arith)) (λ k y h e. dropped (suc k) y (omega arith) e)
up_to-take (x ∷ xs) (suc n) level kept dropped =
    ap (λ b. cond b (x ∷ up_to level xs) (up_to level xs)) (le-leb x.level level (kept 0 x (omega arith) refl)) ∙ ap (λ l. x ∷ l) (up_to-take xs n level (λ k y h e. kept (suc k) y (omega arith) e) (λ k y h e. dropped (suc k) y (omega arith) e))

-- a trail that lost its end: the first `n` entries are those up to a level
module _ (entries : List Entry) (levels : AllAlong (λ before entry. entry.level ≡ decisions (before ++ entry ∷ [])) entries) (n level : ℕ) (within : n ≤ length entries) (below : level ≤ decisions entries) (last : (y : Entry) → slice_get entries (n - 1) ≡ Some y → 0 < n → y.level ≤ level) (dropped : (k : ℕ) (x : Entry) → n ≤ k → slice_get entries k ≡ Some x → level < x.level) where
  entry_at : (k : ℕ) → k < length entries → (x : Entry) × (slice_get entries k ≡ Some x)
  entry_at k h = go entries k h
    where
      go : (xs : List Entry) (k : ℕ) → k < length xs → (x : Entry) × (slice_get xs k ≡ Some x)
      go [] k h = absurd (omega arith)
      go (x ∷ xs) zero h = (x, refl)
      go (x ∷ xs) (suc k) h = go xs k (omega arith)

  pub jumped_entries : up_to level entries ≡ take n entries
  jumped_entries =
      up_to-take entries n level (λ k x h e.
      let y = entry_at (n - 1) (omega arith) in
      let rise = levels_rise entries levels k (n - 1) x y.0 (omega arith) e y.1 in
      let top = last y.0 y.1 (omega arith) in
      omega (arith, rise, top)) dropped

  pub jumped_level : level ≡ decisions (take n entries)
  jumped_level = let high = above in let low = below_it n refl in omega (arith, high, low)
    where
      f : Entry → ℕ
      f entry = cond (is_none entry.reason) 1 0

      above : level ≤ decisions (take n entries)
      above = by (cases_lt n (length entries))
        where
          by : (n < length entries) ⊎ (length entries ≤ n) → level ≤ decisions (take n entries)
          by (inl h) =
              let x = entry_at n h in
              let more = dropped n x.0 (omega arith) x.1 in
              let count = decisions-push (take n entries) x.0 in
              let there = levels n x.0 x.1 in
              let one = at_most_one x.0 in
              omega (arith, more, count, there, one)
          by (inr h) = subst (λ xs. level ≤ decisions xs) (sym (take_all n entries h)) below

      below_it : (m : ℕ) → m ≡ n → decisions (take m entries) ≤ level
      below_it zero e = omega arith
      below_it (suc m) e =
          let y = entry_at m (omega (arith, e)) in
          let there = level_at entries levels m y.0 y.1 in
          let top = last y.0 (subst (λ i. slice_get entries i ≡ Some y.0) (omega (arith, e)) y.1) (omega (arith, e)) in
          omega (arith, there, top)

-- a trail that loses its last literal
pub pop_keeps : (values : List (Option Bool)) (levels : List ℕ) (entries : List Entry) (level worked capacity : ℕ) (y : Entry) → KeepsTrail values levels entries level worked capacity → slice_get entries (length entries - 1) ≡ Some y → KeepsTrail (set values (y.lit.var - 1) None) levels (take (length entries - 1) entries) (decisions (take (length entries - 1) entries)) 0 capacity
pop_keeps values levels entries level worked capacity y keeps e =
    let n : ℕ = length entries - 1 in
    let front : List Entry = take n entries in
    let split : entries ≡ front ++ y ∷ [] = split_last entries y e in
    let here : (1 ≤ y.lit.var) × (y.lit.var ≤ length values) = All-at (λ entry. (1 ≤ entry.lit.var) × (entry.lit.var ≤ length values)) entries n y keeps.trail.within e in
    let free : value_in front y.lit.var ≡ None = keeps.trail.fresh n y e in
    let same : length (set values (y.lit.var - 1) None) ≡ length values = length-set values (y.lit.var - 1) None in
    let longer : length entries ≡ length front + 1 = ap length split ∙ length_push front y in
    let f : Option Bool → ℕ = λ o. cond (is_none o) 1 0 in
    let there : get_or values (y.lit.var - 1) None ≡ Some y.lit.positive =
    value_there values levels entries level worked capacity keeps y.lit.var here.0 here.1 ∙ ap (λ xs. value_in xs y.lit.var) split ∙ value_pushed front y free in
    let more : count_by is_none (set values (y.lit.var - 1) None) + f (get_or values (y.lit.var - 1) None) ≡ count_by is_none values + 1 = sum_by-set f values (y.lit.var - 1) None None (omega (arith, here)) in
    let zero_there : f (get_or values (y.lit.var - 1) None) ≡ 0 = ap f there in
    let within : All (λ entry. (1 ≤ entry.lit.var) × (entry.lit.var ≤ length values)) front = All-take (λ entry. (1 ≤ entry.lit.var) × (entry.lit.var ≤ length values)) n entries keeps.trail.within in
    record {
      trail = record {
        within = subst (λ m. All (λ entry. (1 ≤ entry.lit.var) × (entry.lit.var ≤ m)) front) (sym same) within;
        fresh = Along-take (λ before entry. value_in before entry.lit.var ≡ None) n entries keeps.trail.fresh;
        levels = Along-take (λ before entry. entry.level ≡ decisions (before ++ entry ∷ [])) n entries keeps.trail.levels;
        level = refl;
        small = omega (arith, longer, same, keeps.trail.small);
        worked = omega arith;
      };
      valued = ap (λ vs. set vs (y.lit.var - 1) None) (keeps.valued ∙ ap (values_of (length values)) split) ∙ sym (values-pop (length values) front y here.0 here.1 free) ∙ ap (λ m. values_of m front) (sym same);
      leveled = All-take (λ entry. slice_index levels (entry.lit.var - 1) ≡ entry.level) n entries keeps.leveled;
      lengths = keeps.lengths ∙ sym same;
      free = omega (arith, longer, same, more, zero_there, keeps.free);
      room = omega (arith, same, keeps.room);
    }

-- the level and what was worked through may be set anew
pub settle_keeps : (values : List (Option Bool)) (levels : List ℕ) (entries : List Entry) (capacity level worked new_level new_worked : ℕ) → KeepsTrail values levels entries level worked capacity → new_level ≡ decisions entries → new_worked ≤ length entries → KeepsTrail values levels entries new_level new_worked capacity
settle_keeps values levels entries capacity level worked new_level new_worked keeps is within = record {
  trail = record { within = keeps.trail.within; fresh = keeps.trail.fresh; levels = keeps.trail.levels; level = is; small = keeps.trail.small; worked = within };
  valued = keeps.valued;
  leveled = keeps.leveled;
  lengths = keeps.lengths;
  free = keeps.free;
  room = keeps.room;
}

-- one entry more is dropped
module _ (first now : List Entry) (level : ℕ) (y : Entry) (prefix : now ≡ take (length now) first) (at : slice_get now (length now - 1) ≡ Some y) where
  pub prefix_less : take (length now - 1) now ≡ take (length (take (length now - 1) now)) first
  prefix_less =
      let short : length (take (length now - 1) now) ≡ length now - 1 = length-take-le (length now - 1) now (omega arith) in
      ap (take (length now - 1)) prefix ∙ take-take (length now - 1) (length now) first (omega arith) ∙ ap (λ n. take n first) (sym short)

  pub dropped_more : level < y.level → ((k : ℕ) (x : Entry) → length now ≤ k → slice_get first k ≡ Some x → level < x.level) → (k : ℕ) (x : Entry) → length now - 1 ≤ k → slice_get first k ≡ Some x → level < x.level
  dropped_more above dropped k x h e = by (cases_lt k (length now))
    where
      by : (k < length now) ⊎ (length now ≤ k) → level < x.level
      by (inr past) = dropped k x past e
      by (inl within) =
          let there : slice_get now k ≡ Some x = subst (λ xs. slice_get xs k ≡ Some x) (sym prefix) (in_take (length now) first k x within e) in
          let same : y ≡ x = same_Some y x (sym at ∙ ap (slice_get now) (omega arith) ∙ there) in
          subst (λ (z : Entry). level < z.level) same above
