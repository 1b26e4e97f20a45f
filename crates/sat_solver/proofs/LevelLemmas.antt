-- The levels of literals.
use Rattle.std.proofs.Common.{◌≡◌, ◌≢◌, ℕ, zero, suc, ◌≤◌, ◌<◌, Bool, true, false, not, cond, eqb, leb, List, [], ◌∷◌, ◌++◌, Option, Some, None, IsTrue, option_map, take, slice_get, All, IfSome, max, refl, sym, subst, ap, ◌∙◌, arith, ◌⊎◌, inl, inr}
use Rattle.std.proofs.lemmas.Bool.{true≢false, false≢true, cases_lt, cases_order, le-leb, leb-true}
use Rattle.std.proofs.lemmas.List.{append-nil}
use Rattle.std.proofs.lemmas.List.Elements.{filter-append}
use Rattle.std.proofs.lemmas.Option.{none-some, same_Some}
use Rattle.sat_clauses.specs.declared.literal.Lit.{Lit}
use Rattle.sat_clauses.specs.Literals.{same_literal}
use Rattle.sat_clauses.specs.ClauseLists.{has, without}
use Rattle.sat_clauses.proofs.SetLemmas.{one_literal, same_itself}
use Rattle.sat_clauses.proofs.ListLemmas.{same_either_way}
use Rattle.sat_solver.specs.declared.entry.Entry.{Entry}
use Rattle.sat_solver.specs.Entries.{entry_of, value_in, IsFreeIn, IsFalseIn, IsFalseClause, AllAlong, up_to}
use Rattle.sat_solver.specs.Lessons.{IsSecond}
use Rattle.sat_solver.proofs.AlongLemmas.{All-at, in_take}
use Rattle.sat_solver.proofs.EntryLemmas.{entry_place, valued_entry, free_apart}
use Rattle.sat_solver.proofs.ClauseLemmas.{in_without, from_without, has-push, has-front, has-last}

-- the literal's variable got its value on a level
abbrev pub OnLevel : List Entry → Lit → ℕ → Type 0
OnLevel entries lit level = (entry : Entry) × (entry_of entries lit.var ≡ Some entry) × (entry.level ≡ level)

-- a level is the highest on which literals of a clause got their values, or 0
pub record IsHighest (entries : List Entry) (clause : List Lit) (level : ℕ) : Type 0 where
  pub above : (lit : Lit) → IsTrue (has clause lit) → (n : ℕ) → OnLevel entries lit n → n ≤ level
  pub reached : (level ≡ 0) ⊎ ((lit : Lit) × IsTrue (has clause lit) × OnLevel entries lit level)

-- the entry of a variable up to a level
pub entry_up_to : (entries : List Entry) (var level : ℕ) (entry : Entry) → entry_of entries var ≡ Some entry → entry.level ≤ level → entry_of (up_to level entries) var ≡ Some entry
entry_up_to [] var level entry e h = e
entry_up_to (x ∷ xs) var level entry e h = by (eqb x.lit.var var) refl (leb x.level level) refl e (λ rest. entry_up_to xs var level entry rest h)
  where
    by : (b : Bool) → eqb x.lit.var var ≡ b → (t : Bool) → leb x.level level ≡ t → cond b (Some x) (entry_of xs var) ≡ Some entry → (entry_of xs var ≡ Some entry → entry_of (up_to level xs) var ≡ Some entry) → entry_of (cond t (x ∷ up_to level xs) (up_to level xs)) var ≡ Some entry
    by true f true g found rest = ap (λ c. cond c (Some x) (entry_of (up_to level xs) var)) f ∙ found
    by true f false g found rest = absurd (true≢false (sym (le-leb x.level level (subst (λ (y : Entry). y.level ≤ level) (sym (same_Some x entry found)) h)) ∙ g))
    by false f true g found rest = ap (λ c. cond c (Some x) (entry_of (up_to level xs) var)) f ∙ rest found
    by false f false g found rest = rest found

-- an entry up to a level is one of the entries, and not above the level
pub place_up_to : (entries : List Entry) (level k : ℕ) (x : Entry) → slice_get (up_to level entries) k ≡ Some x → (j : ℕ) × (slice_get entries j ≡ Some x) × (x.level ≤ level)
place_up_to [] level k x e = absurd (none-some x e)
place_up_to (y ∷ ys) level k x e = by (leb y.level level) refl k e (place_up_to ys level)
  where
    by : (t : Bool) → leb y.level level ≡ t → (k : ℕ) → slice_get (cond t (y ∷ up_to level ys) (up_to level ys)) k ≡ Some x → ((k : ℕ) (x : Entry) → slice_get (up_to level ys) k ≡ Some x → (j : ℕ) × (slice_get ys j ≡ Some x) × (x.level ≤ level)) → (j : ℕ) × (slice_get (y ∷ ys) j ≡ Some x) × (x.level ≤ level)
    by true f zero e rest = (0, e, subst (λ (z : Entry). z.level ≤ level) (same_Some y x e) (leb-true y.level level f))
    by true f (suc k) e rest = let r = rest k x e in (suc r.0, r.1, r.2)
    by false f k e rest = let r = rest k x e in (suc r.0, r.1, r.2)

module _ (entries : List Entry) (fresh : AllAlong (λ before entry. value_in before entry.lit.var ≡ None) entries) where
  -- a variable has one entry
  pub one_entry : (j k : ℕ) (x y : Entry) → slice_get entries j ≡ Some x → slice_get entries k ≡ Some y → x.lit.var ≡ y.lit.var → x ≡ y
  one_entry j k x y ex ey same = by (cases_order j k)
    where
      apart : (j k : ℕ) (x y : Entry) → j < k → slice_get entries j ≡ Some x → slice_get entries k ≡ Some y → x.lit.var ≡ y.lit.var → ⊥
      apart j k x y h ex ey same = All-at (λ entry. entry.lit.var ≢ y.lit.var) (take k entries) j x (free_apart (take k entries) y.lit.var (fresh k y ey)) (in_take k entries j x h ex) same

      by : (j ≡ k) ⊎ ((j < k) ⊎ (k < j)) → x ≡ y
      by (inl e) = same_Some x y (sym ex ∙ ap (slice_get entries) e ∙ ey)
      by (inr (inl h)) = absurd (apart j k x y h ex ey same)
      by (inr (inr h)) = absurd (apart k j y x h ey ex (sym same))

  -- a variable whose entry is above a level is free up to it
  pub free_up_to : (lit : Lit) (level : ℕ) (entry : Entry) → entry_of entries lit.var ≡ Some entry → level < entry.level → IsFreeIn (up_to level entries) lit
  free_up_to lit level entry e above = by (entry_of (up_to level entries) lit.var) refl
    where
      by : (o : Option Entry) → entry_of (up_to level entries) lit.var ≡ o → option_map (λ (x : Entry). x.lit.positive) o ≡ None
      by None f = refl
      by (Some x) f =
          let there = entry_place (up_to level entries) lit.var x f in
          let low = place_up_to entries level there.0 x there.1 in
          let here = entry_place entries lit.var entry e in
          let same : x ≡ entry = one_entry low.0 here.0 x entry low.1 here.1 (there.2 ∙ sym here.2) in
          absurd (omega (arith, low.2, above, ap (λ (z : Entry). z.level) same))

  pub false_up_to : (lit : Lit) (level n : ℕ) → IsFalseIn entries lit → OnLevel entries lit n → n ≤ level → IsFalseIn (up_to level entries) lit
  false_up_to lit level n falsified on h =
      let found = valued_entry entries lit.var (not lit.positive) falsified in
      let same : on.0 ≡ found.0 = same_Some on.0 found.0 (sym on.1 ∙ found.1) in
      ap (option_map (λ (x : Entry). x.lit.positive)) (entry_up_to entries lit.var level found.0 found.1 (omega (arith, on.2, h, ap (λ (z : Entry). z.level) same))) ∙ ap (λ b. Some b) found.2

  -- the others of a clause are false up to the highest of their levels, and up to none below it
  pub highest_others : (clause : List Lit) (level : ℕ) → IsFalseClause entries clause → IsHighest entries clause level → IsFalseClause (up_to level entries) clause
  highest_others clause level all highest = λ lit h.
      let found = valued_entry entries lit.var (not lit.positive) (all lit h) in
      let on : OnLevel entries lit found.0.level = (found.0, found.1, refl) in
      false_up_to lit level found.0.level (all lit h) on (highest.above lit h found.0.level on)

  pub highest_least : (clause : List Lit) (level : ℕ) → IsHighest entries clause level → (lower : ℕ) → lower < level → ¬ IsFalseClause (up_to lower entries) clause
  highest_least clause level highest lower h all = by highest.reached
    where
      by : (level ≡ 0) ⊎ ((lit : Lit) × IsTrue (has clause lit) × OnLevel entries lit level) → ⊥
      by (inl e) = omega (arith, e, h)
      by (inr at) =
          let free = free_up_to at.0 lower at.2.0 at.2.1 (omega (arith, at.2.2, h)) in
          none-some (not at.0.positive) (sym free ∙ all at.0 at.1)

-- a false literal is one of the trail's variables
pub false_within : (vars : ℕ) (entries : List Entry) → All (λ entry. (1 ≤ entry.lit.var) × (entry.lit.var ≤ vars)) entries → (lit : Lit) → IsFalseIn entries lit → (1 ≤ lit.var) × (lit.var ≤ vars)
false_within vars entries within lit falsified =
    let found = valued_entry entries lit.var (not lit.positive) falsified in
    let place = entry_place entries lit.var found.0 found.1 in
    subst (λ var. (1 ≤ var) × (var ≤ vars)) place.2 (All-at (λ entry. (1 ≤ entry.lit.var) × (entry.lit.var ≤ vars)) entries place.0 found.0 within place.1)

-- one literal more
module _ (entries : List Entry) (xs : List Lit) (lit other : Lit) (highest : ℕ) (is : IsHighest entries (without xs lit) highest) where
  abbrev longer : List Lit
  longer = without (xs ++ other ∷ []) lit

  part : (x : Lit) → IsTrue (has longer x) → IsTrue (has (without xs lit) x) ⊎ ((x ≡ other) × (same_literal lit x ≡ false))
  part x h =
      let parts = from_without (xs ++ other ∷ []) lit x h in
      elim (has-push xs other x parts.0) [
        | inl e ↦ inl (in_without xs lit x e parts.1)
        | inr e ↦ inr (one_literal x other e, parts.1)
      ]

  keeps : (x : Lit) → IsTrue (has (without xs lit) x) → IsTrue (has longer x)
  keeps x h =
      let parts = from_without xs lit x h in
      in_without (xs ++ other ∷ []) lit x (has-front xs (other ∷ []) x parts.0) parts.1

  pub highest_skip : same_literal other lit ≡ true → IsHighest entries longer highest
  highest_skip same = record {
    above = λ x h n on. elim (part x h) [
      | inl e ↦ is.above x e n on
      | inr e ↦ absurd (false≢true (sym e.1 ∙ ap (same_literal lit) (e.0 ∙ one_literal other lit same) ∙ same_itself lit))
    ];
    reached = elim is.reached [ inl e ↦ inl e | inr at ↦ inr (at.0, keeps at.0 at.1, at.2) ];
  }

  pub highest_more : same_literal other lit ≡ false → (n : ℕ) → OnLevel entries other n → IsHighest entries longer (max n highest)
  highest_more ne n on = record {
    above = λ x h m at. elim (part x h) [
      | inl e ↦ (let low = is.above x e m at in omega (arith, low))
      | inr e ↦ (let same = level_same x m at e.0 in omega (arith, same))
    ];
    reached = by (cases_lt highest n);
  }
    where
      level_same : (x : Lit) (m : ℕ) → OnLevel entries x m → x ≡ other → m ≡ n
      level_same x m at e =
          let one : at.0 ≡ on.0 = same_Some at.0 on.0 (sym at.1 ∙ ap (λ (l : Lit). entry_of entries l.var) e ∙ on.1) in
          sym at.2 ∙ ap (λ (y : Entry). y.level) one ∙ on.2

      there : IsTrue (has longer other)
      there = in_without (xs ++ other ∷ []) lit other (has-last xs other) (same_either_way lit other ∙ ne)

      by : (highest < n) ⊎ (n ≤ highest) → (max n highest ≡ 0) ⊎ ((x : Lit) × IsTrue (has longer x) × OnLevel entries x (max n highest))
      by (inl h) = inr (other, there, (on.0, on.1, on.2 ∙ omega (arith, h)))
      by (inr h) = elim is.reached [
        | inl e ↦ inl (omega (arith, h, e))
        | inr at ↦ inr (at.0, keeps at.0 at.1, (at.2.0, at.2.1, at.2.2 ∙ omega (arith, h)))
      ]

-- the level that a call gives for a false literal
pub level_given : (entries : List Entry) (lit : Lit) (n : ℕ) → IsFalseIn entries lit → IfSome (entry_of entries lit.var) (λ entry. n ≡ entry.level) → OnLevel entries lit n
level_given entries lit n falsified given =
    let found = valued_entry entries lit.var (not lit.positive) falsified in
    let here : IfSome (Some found.0) (λ entry. n ≡ entry.level) = subst (λ o. IfSome o (λ (entry : Entry). n ≡ entry.level)) found.1 given in
    (found.0, found.1, sym here)

-- a second literal of the highest level, as the clause goes on
pub second_skip : (entries : List Entry) (xs : List Lit) (lit other : Lit) (level : ℕ) (second : Option Lit) → same_literal other lit ≡ true → IsSecond entries (without xs lit) level second → IsSecond entries (without (xs ++ other ∷ []) lit) level second
second_skip entries xs lit other level second same is = subst (λ ls. IsSecond entries ls level second) (sym gone) is
  where
    gone : without (xs ++ other ∷ []) lit ≡ without xs lit
    gone =
        filter-append (λ x. not (same_literal lit x)) xs (other ∷ [])
        ∙ ap (λ b. without xs lit ++ cond (not b) (other ∷ []) []) (same_either_way lit other ∙ same)
        ∙ append-nil (without xs lit)

pub second_stays : (entries : List Entry) (xs : List Lit) (lit other : Lit) (level : ℕ) (second : Option Lit) → 0 < level → IsHighest entries (without xs lit) level → IsSecond entries (without xs lit) level second → IsSecond entries (without (xs ++ other ∷ []) lit) level second
second_stays entries xs lit other level None above is none = elim is.reached [
  | inl e ↦ absurd (omega (arith, e, above))
  | inr at ↦ absurd (false≢true (subst (λ ls. IsTrue (has ls at.0)) none at.1))
]
second_stays entries xs lit other level (Some second) above is there =
    let parts = from_without xs lit second there.0 in
    (in_without (xs ++ other ∷ []) lit second (has-front xs (other ∷ []) second parts.0) parts.1, there.1)

pub second_new : (entries : List Entry) (fresh : AllAlong (λ before entry. value_in before entry.lit.var ≡ None) entries) (xs : List Lit) (lit other : Lit) (level : ℕ) → same_literal other lit ≡ false → OnLevel entries other level → IsSecond entries (without (xs ++ other ∷ []) lit) level (Some other)
second_new entries fresh xs lit other level ne on = (
  in_without (xs ++ other ∷ []) lit other (has-last xs other) (same_either_way lit other ∙ ne),
  λ k entry at is.
      let spot = entry_place entries other.var on.0 on.1 in
      let one : on.0 ≡ entry = one_entry entries fresh spot.0 k on.0 entry spot.1 at (spot.2 ∙ sym (ap (λ (l : Lit). l.var) is)) in
      omega (arith, on.2, ap (λ (e : Entry). e.level) one),
)
