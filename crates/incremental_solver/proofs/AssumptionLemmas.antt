-- What assumptions lead to: entries that follow from them, and a refutation.
use Rattle.std.proofs.Common.{◌≡◌, ℕ, zero, suc, ◌+◌, ◌<◌, ◌≤◌, Bool, true, false, not, ◌||◌, cond, List, [], ◌∷◌, ◌++◌, Option, Some, None, IsSome, All, option_map, is_some, is_none, take, drop, length, get_or, slice_get, refl, sym, ap, subst, ◌∙◌, ◌⊎◌, inl, inr, arith}
use Rattle.std.specs.List.{list_all}
use Rattle.std.specs.Bool.{beq}
use Rattle.std.proofs.lemmas.Bool.{and_parts, and_from, true≢false, or_left, or_right, cases_lt}
use Rattle.std.proofs.lemmas.List.{take-append-drop, take-append-le}
use Rattle.std.proofs.lemmas.Option.{none-some, same_Some, slice_get_within}
use Rattle.sat_clauses.specs.declared.literal.Lit.{Lit}
use Rattle.sat_clauses.specs.declared.literal.Assignment.{Assignment}
use Rattle.sat_clauses.specs.Literals.{same_literal, opposite, is_true}
use Rattle.sat_clauses.specs.ClauseLists.{has, holds_clause}
use Rattle.sat_clauses.proofs.SetLemmas.{one_literal, same_itself}
use Rattle.sat_clauses.proofs.SoundLemmas.{opposite_value, held_at}
use Rattle.sat_solver.specs.declared.entry.Entry.{Entry}
use Rattle.sat_solver.specs.Entries.{value_in, truth_in, IsFalseIn, Extends, AllReasoned, decisions}
use Rattle.sat_solver.specs.Trails.{TrailState, IsTrail}
use Rattle.sat_solver.specs.Searches.{GivesTruths}
use Rattle.sat_solver.proofs.AlongLemmas.{All-at, at_take, at_first, Along-push, Along-take}
use Rattle.sat_solver.proofs.EntryLemmas.{valued_entry, entry_place, value_kept}
use Rattle.sat_solver.proofs.ClauseLemmas.{in_without, truth_true}
use Rattle.sat_solver.proofs.TrailLemmas.{decisions-push, level_low}
use Rattle.incremental_solver.specs.Answers.{HoldsBoth, Refutes}
use Rattle.incremental_solver.specs.Inquiries.{AreTrue, IsAssumed, AssumesFirst}

-- what an index reads
pub at_index : (xs : List Lit) (k : ℕ) (d : Lit) → k < length xs → slice_get xs k ≡ Some (get_or xs k d)
at_index [] k d h = absurd (omega arith)
at_index (x ∷ xs) zero d h = refl
at_index (x ∷ xs) (suc k) d h = at_index xs k d (omega arith)

-- a test of all of a list, at a place
pub all_at : (test : Lit → Bool) (xs : List Lit) (k : ℕ) (x : Lit) → list_all test xs ≡ true → slice_get xs k ≡ Some x → test x ≡ true
all_at test [] k x all at = absurd (none-some x at)
all_at test (y ∷ ys) zero x all at = ap test (sym (same_Some y x at)) ∙ (and_parts (test y) (list_all test ys) all).0
all_at test (y ∷ ys) (suc k) x all at = all_at test ys k x (and_parts (test y) (list_all test ys) all).1 at

all_from : (test : Lit → Bool) (xs : List Lit) → ((k : ℕ) (x : Lit) → slice_get xs k ≡ Some x → test x ≡ true) → list_all test xs ≡ true
all_from test [] each = refl
all_from test (y ∷ ys) each = and_from (test y) (list_all test ys) (each 0 y refl) (all_from test ys (λ k x at. each (suc k) x at))

-- of a clause that is held the one literal that isn't false is true
only : (values : List Bool) (lit : Lit) (xs : List Lit) → holds_clause values xs ≡ true → ((x : Lit) → has xs x ≡ true → same_literal lit x ≡ false → is_true values x ≡ false) → is_true values lit ≡ true
only values lit [] held others = absurd (true≢false (sym held))
only values lit (x ∷ xs) held others = by (is_true values x) refl (same_literal lit x) refl (only values lit xs)
  where
    by : (t : Bool) → is_true values x ≡ t → (s : Bool) → same_literal lit x ≡ s → (holds_clause values xs ≡ true → ((y : Lit) → has xs y ≡ true → same_literal lit y ≡ false → is_true values y ≡ false) → is_true values lit ≡ true) → is_true values lit ≡ true
    by true e true f rest = ap (is_true values) (one_literal lit x f) ∙ e
    by true e false f rest = absurd (true≢false (sym e ∙ others x (or_left (same_literal x x) (has xs x) (same_itself x)) f))
    by false e s f rest = rest (sym (ap (λ b. b || holds_clause values xs) e) ∙ held) (λ y there. others y (or_right (same_literal y x) (has xs y) there))

-- values that make the literal of each entry true
abbrev pub Agrees : List Bool → List Entry → Type 0
Agrees values entries = (k : ℕ) (entry : Entry) → slice_get entries k ≡ Some entry → is_true values entry.lit ≡ true

falsified : (values : List Bool) (entries : List Entry) (lit : Lit) → Agrees values entries → IsFalseIn entries lit → is_true values lit ≡ false
falsified values entries lit agrees e =
    let found = valued_entry entries lit.var (not lit.positive) e in
    let spot = entry_place entries lit.var found.0 found.1 in
    let is : found.0.lit ≡ opposite lit = λ j. record { var = spot.2 j; positive = found.2 j } in
    by (is_true values lit) (sym (opposite_value values lit) ∙ subst (λ l. is_true values l ≡ true) is (agrees spot.0 found.0 spot.1))
  where
    by : (b : Bool) → not b ≡ true → b ≡ false
    by true h = absurd (true≢false (sym h))
    by false h = refl

same_beq : (b : Bool) → beq b b ≡ true
same_beq true = refl
same_beq false = refl

true_truth : (entries : List Entry) (lit : Lit) → value_in entries lit.var ≡ Some lit.positive → truth_in entries lit ≡ Some true
true_truth entries lit e = ap (option_map (λ value. beq value lit.positive)) e ∙ ap (λ b. Some b) (same_beq lit.positive)

true_later : (xs ys : List Entry) (lit : Lit) → truth_in xs lit ≡ Some true → truth_in (xs ++ ys) lit ≡ Some true
true_later xs ys lit e = true_truth (xs ++ ys) lit (value_kept xs ys lit.var lit.positive (truth_true xs lit e))

pub are_true_later : (count : ℕ) (xs ys : List Entry) (assumed : List Lit) → AreTrue count xs assumed → AreTrue count (xs ++ ys) assumed
are_true_later count xs ys assumed are = λ k lit h at. true_later xs ys lit (are k lit h at)

true_and_false : (b : Bool) → Some b ≡ Some (not b) → ⊥
true_and_false true e = true≢false (same_Some true false e)
true_and_false false e = true≢false (sym (same_Some false true e))

-- where an assumption is false, no assignment holds the clauses and makes all assumptions true
module _ (clauses : List (List Lit)) (assumed : List Lit) (entries : List Entry) (reasons : AllReasoned clauses entries) (assumes : AssumesFirst assumed entries) (bad : ℕ) (lit : Lit) (at_bad : slice_get assumed bad ≡ Some lit) (is_false : IsFalseIn entries lit) where
  not_all : (n : ℕ) → AreTrue (length assumed) (take n entries) assumed → ⊥
  not_all n all =
      let front : value_in (take n entries) lit.var ≡ Some lit.positive = truth_true (take n entries) lit (all bad lit (slice_get_within assumed bad lit at_bad) at_bad) in
      let whole : value_in entries lit.var ≡ Some lit.positive = ap (λ es. value_in es lit.var) (sym (take-append-drop n entries)) ∙ value_kept (take n entries) (drop n entries) lit.var lit.positive front in
      true_and_false lit.positive (sym whole ∙ is_false)

  module _ (values : List Bool) (both : HoldsBoth values clauses assumed) where
    here : (n : ℕ) (entry : Entry) → slice_get entries n ≡ Some entry → Agrees values (take n entries) → is_true values entry.lit ≡ true
    here n entry at before = by entry.reason refl
      where
        by : (o : Option ℕ) → entry.reason ≡ o → is_true values entry.lit ≡ true
        by (Some r) e =
            let forced = reasons n entry at (ap is_some e) in
            only values entry.lit forced.clause (held_at values clauses forced.place forced.clause both.held forced.found) (λ x there other. falsified values (take n entries) x before (forced.forces.others x (in_without forced.clause entry.lit x there other)))
        by None e = elim (assumes n entry at e) [ inl spot ↦ all_at (is_true values) assumed spot.0 entry.lit both.true_all spot.1 | inr all ↦ absurd (not_all n all) ]

    agree : (n k : ℕ) (entry : Entry) → k < n → slice_get entries k ≡ Some entry → is_true values entry.lit ≡ true
    agree zero k entry h at = absurd (omega arith)
    agree (suc n) k entry h at = by (cases_lt k n) (agree n)
      where
        by : (k < n) ⊎ (n ≤ k) → ((k : ℕ) (entry : Entry) → k < n → slice_get entries k ≡ Some entry → is_true values entry.lit ≡ true) → is_true values entry.lit ≡ true
        by (inl below) rest = rest k entry below at
        by (inr past) rest = here n entry (ap (slice_get entries) (omega arith) ∙ at) (λ j e there. let t = at_take n entries j e there in rest j e t.0 t.1)

  pub refutes : Refutes clauses assumed
  refutes values both =
      let lies : is_true values lit ≡ false = falsified values entries lit (λ k entry at. agree values both (length entries) k entry (slice_get_within entries k entry at) at) is_false in
      true≢false (sym (all_at (is_true values) assumed bad lit both.true_all at_bad) ∙ lies)

-- where all are true on a trail, they are true under its assignment
pub answers_true : (assumed : List Lit) (assignment : Assignment) (trail : TrailState) → GivesTruths assignment trail → AreTrue (length assumed) trail.entries assumed → All (λ lit. (1 ≤ lit.var) × (lit.var ≤ trail.vars)) assumed → list_all (is_true assignment.values.items) assumed ≡ true
answers_true assumed assignment trail truths are within =
    all_from (is_true assignment.values.items) assumed (λ k x at.
    let low = All-at (λ lit. (1 ≤ lit.var) × (lit.var ≤ trail.vars)) assumed k x within at in
    truths x low.0 low.1 (are k x (slice_get_within assumed k x at) at))

-- decisions that are assumptions first, through each step of a search
pub assumes_push : (assumed : List Lit) (entries : List Entry) (entry : Entry) → AssumesFirst assumed entries → IsAssumed assumed entries entry → AssumesFirst assumed (entries ++ entry ∷ [])
assumes_push assumed entries entry all is = Along-push (IsAssumed assumed) entries entry all is

pub assumes_take : (assumed : List Lit) (n : ℕ) (entries : List Entry) → AssumesFirst assumed entries → AssumesFirst assumed (take n entries)
assumes_take assumed n entries all = Along-take (IsAssumed assumed) n entries all

pub reasoned : (assumed : List Lit) (before : List Entry) (entry : Entry) → IsSome entry.reason → IsAssumed assumed before entry
reasoned assumed before entry some none = absurd (true≢false (sym some ∙ ap is_some none))

pub assumes_extend : (assumed : List Lit) (clauses : List (List Lit)) (level : ℕ) (old new : List Entry) → AssumesFirst assumed old → Extends clauses level old new → AssumesFirst assumed new
assumes_extend assumed clauses level old new all extends = λ k entry at. by k entry at (cases_lt k (length old))
  where
    by : (k : ℕ) (entry : Entry) → slice_get new k ≡ Some entry → (k < length old) ⊎ (length old ≤ k) → IsAssumed assumed (take k new) entry
    by k entry at (inr past) = reasoned assumed (take k new) entry (ap is_some (extends.forced k entry past at).reason)
    by k entry at (inl below) =
        let there : slice_get old k ≡ Some entry = at_first old extends.added k entry below (ap (λ xs. slice_get xs k) (sym extends.prefix) ∙ at) in
        let front : take k new ≡ take k old = ap (take k) extends.prefix ∙ take-append-le k old extends.added (omega arith) in
        subst (λ xs. IsAssumed assumed xs entry) (sym front) (all k entry there)

pub assumes_none : (assumed : List Lit) (trail : TrailState) → IsTrail trail → trail.level ≡ 0 → AssumesFirst assumed trail.entries
assumes_none assumed trail is level = λ k entry at none.
    let here : entry.level ≡ decisions (take k trail.entries ++ entry ∷ []) = is.levels k entry at in
    let more : decisions (take k trail.entries ++ entry ∷ []) ≡ decisions (take k trail.entries) + 1 = decisions-push (take k trail.entries) entry ∙ ap (λ o. decisions (take k trail.entries) + cond (is_none o) 1 0) none in
    let low = level_low trail.entries is.levels k entry at in
    absurd (omega (arith, here, more, low, is.level, level))
