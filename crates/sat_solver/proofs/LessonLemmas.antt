-- How a false clause becomes a lesson.
use Rattle.std.proofs.Common.{◌≡◌, ◌≢◌, ℕ, suc, ◌≤◌, ◌<◌, ◌+◌, ◌-◌, Bool, true, false, not, cond, ◌&&◌, ◌||◌, List, [], ◌∷◌, ◌++◌, Option, Some, None, IsTrue, IfSome, MatchOption, option_map, is_none, take, drop, slice_get, refl, sym, subst, ap, ◌∙◌, arith, ◌⊎◌, inl, inr}
use Rattle.std.proofs.lemmas.Bool.{true≢false, and_parts, or_cases, cases_eq, cases_lt}
use Rattle.std.proofs.lemmas.List.{take-append-drop}
use Rattle.std.proofs.lemmas.Option.{none-some, same_Some}
use Rattle.sat_clauses.specs.declared.literal.Lit.{Lit}
use Rattle.sat_clauses.specs.declared.derivation.Link.{Link}
use Rattle.sat_clauses.specs.Literals.{same_literal, opposite}
use Rattle.sat_clauses.specs.ClauseLists.{has, without, resolvent}
use Rattle.sat_clauses.specs.Derivations.{Leads, Chain}
use Rattle.sat_clauses.proofs.SetLemmas.{same_itself, one_literal, has-resolvent}
use Rattle.sat_solver.specs.declared.entry.Entry.{Entry}
use Rattle.sat_solver.specs.declared.lesson.Lesson.{Lesson}
use Rattle.sat_solver.specs.declared.lesson.Assertion.{Assertion}
use Rattle.sat_solver.specs.Entries.{entry_of, value_in, IsFalseIn, IsFalseClause, Forces, IsForced, AllAlong, up_to, decisions}
use Rattle.sat_solver.specs.Trails.{TrailState, IsTrail}
use Rattle.sat_solver.specs.Lessons.{Asserts, Teaches, IsSecond}
use Rattle.sat_solver.proofs.AlongLemmas.{at_take, take_next}
use Rattle.sat_solver.proofs.EntryLemmas.{entry_place, entry_kept, entry_past, free_entry, valued_entry, alone, value_kept, value_pushed, value_other}
use Rattle.sat_solver.proofs.TrailLemmas.{decisions-push, before_level, level_low}
use Rattle.sat_solver.proofs.ClauseLemmas.{in_without, from_without}
use Rattle.sat_solver.proofs.LevelLemmas.{entry_up_to, free_up_to}

pub opposite_twice : (lit : Lit) → opposite (opposite lit) ≡ lit
opposite_twice lit = elim (lit.positive) as (λ b. ◌≡◌ {A = Lit} (record { var = lit.var; positive = not (not b) }) (record { var = lit.var; positive = b })) [ true ↦ refl | false ↦ refl ]

opposite_sign : (a b : Bool) → b ≡ not a → a ≡ not b
opposite_sign true b e = ap not (sym e)
opposite_sign false b e = ap not (sym e)

-- what is false among some entries is false among more
pub false_later : (entries : List Entry) (n : ℕ) (clause : List Lit) → IsFalseClause (take n entries) clause → IsFalseClause entries clause
false_later entries n clause all = λ lit h. subst (λ xs. IsFalseIn xs lit) (take-append-drop n entries) (value_kept (take n entries) (drop n entries) lit.var (not lit.positive) (all lit h))

-- no literal is false without entries
pub nothing_left : (clause : List Lit) → IsFalseClause [] clause → clause ≡ []
nothing_left [] all = refl
nothing_left (x ∷ xs) all = absurd (none-some (not x.positive) (all x (there x xs)))
  where
    there : (y : Lit) (ys : List Lit) → IsTrue (has (y ∷ ys) y)
    there y ys = ap (λ b. b || has ys y) (same_itself y)

-- a step back over the entry at a place
module _ (entries : List Entry) (fresh : AllAlong (λ before entry. value_in before entry.lit.var ≡ None) entries) (place : ℕ) (entry : Entry) (at : slice_get entries place ≡ Some entry) where
  pub before_false : (lit : Lit) → IsFalseIn (take (suc place) entries) lit → same_literal (opposite entry.lit) lit ≡ false → IsFalseIn (take place entries) lit
  before_false lit falsified other = by (cases_eq entry.lit.var lit.var)
    where
      there : IsFalseIn (take place entries ++ entry ∷ []) lit
      there = subst (λ xs. IsFalseIn xs lit) (take_next entries place entry at) falsified

      by : (entry.lit.var ≡ lit.var) ⊎ (entry.lit.var ≢ lit.var) → IsFalseIn (take place entries) lit
      by (inr ne) = sym (value_other (take place entries) entry lit.var ne) ∙ there
      by (inl e) =
          let value : Some entry.lit.positive ≡ Some (not lit.positive) = sym (value_pushed (take place entries) entry (fresh place entry at)) ∙ ap (value_in (take place entries ++ entry ∷ [])) e ∙ there in
          let sign : not entry.lit.positive ≡ lit.positive = sym (opposite_sign lit.positive entry.lit.positive (same_Some entry.lit.positive (not lit.positive) value)) in
          let same : opposite entry.lit ≡ lit = (λ j. record { var = e j; positive = sign j }) in
          absurd (true≢false (sym (ap (same_literal (opposite entry.lit)) (sym same) ∙ same_itself (opposite entry.lit)) ∙ other))

  module _ (clause : List Lit) (all : IsFalseClause (take (suc place) entries) clause) where
    pub step_over : has clause (opposite entry.lit) ≡ false → IsFalseClause (take place entries) clause
    step_over absent = λ lit h. by lit h (same_literal (opposite entry.lit) lit) refl
      where
        by : (lit : Lit) → IsTrue (has clause lit) → (b : Bool) → same_literal (opposite entry.lit) lit ≡ b → IsFalseIn (take place entries) lit
        by lit h true e = absurd (true≢false (sym h ∙ ap (has clause) (sym (one_literal (opposite entry.lit) lit e)) ∙ absent))
        by lit h false e = before_false lit (all lit h) e

    pub others_before : IsFalseClause (take place entries) (without clause (opposite entry.lit))
    others_before = λ lit h. let parts = from_without clause (opposite entry.lit) lit h in before_false lit (all lit parts.0) parts.1

    pub step_through : (other : List Lit) → Forces (take place entries) other entry.lit → IsFalseClause (take place entries) (resolvent (opposite entry.lit) clause other)
    step_through other forces = λ lit h. elim (or_cases (has clause lit && not (same_literal (opposite entry.lit) lit)) (has other lit && not (same_literal (opposite (opposite entry.lit)) lit)) (sym (has-resolvent (opposite entry.lit) clause other lit) ∙ h)) [
      | inl e ↦ (let parts = and_parts (has clause lit) (not (same_literal (opposite entry.lit) lit)) e in before_false lit (all lit parts.0) (is_not _ parts.1))
      | inr e ↦ (let parts = and_parts (has other lit) (not (same_literal (opposite (opposite entry.lit)) lit)) e in forces.others lit (in_without other entry.lit lit parts.0 (ap (λ l. same_literal l lit) (sym (opposite_twice entry.lit)) ∙ is_not _ parts.1)))
    ]
      where
        is_not : (b : Bool) → not b ≡ true → b ≡ false
        is_not true e = sym e
        is_not false e = refl

-- the link to the resolvent with a reason
pub leads_on : (clauses : List (List Lit)) (before : List Entry) (entry : Entry) (clause : List Lit) (forced : IsForced clauses before entry) → IsTrue (has clause (opposite entry.lit)) → Leads clauses (record { pivot = opposite entry.lit; clause = forced.place }) clause (resolvent (opposite entry.lit) clause forced.clause)
leads_on clauses before entry clause forced there = record {
  other = forced.clause;
  numbered = forced.found;
  pivot = there;
  opposite = ap (has forced.clause) (opposite_twice entry.lit) ∙ forced.forces.there;
  resolved = refl;
}

-- the clause asserts the literal whose opposite stands at a place
module _ (trail : TrailState) (is : IsTrail trail) (place : ℕ) (entry : Entry) (at : slice_get trail.entries place ≡ Some entry) (clause : List Lit) (there : IsTrue (has clause (opposite entry.lit))) (all : IsFalseClause (take (suc place) trail.entries) clause) (level : ℕ) (others : IsFalseClause (up_to level trail.entries) (without clause (opposite entry.lit))) (least : (lower : ℕ) → lower < level → ¬ IsFalseClause (up_to lower trail.entries) (without clause (opposite entry.lit))) where
  here : entry_of trail.entries entry.lit.var ≡ Some entry
  here =
      let past : entry_of (take place trail.entries ++ entry ∷ []) entry.lit.var ≡ Some entry = entry_past (take place trail.entries) (entry ∷ []) entry.lit.var (free_entry (take place trail.entries) entry.lit.var (is.fresh place entry at)) ∙ alone entry in
      let first : entry_of (take (suc place) trail.entries) entry.lit.var ≡ Some entry = ap (λ xs. entry_of xs entry.lit.var) (take_next trail.entries place entry at) ∙ past in
      ap (λ xs. entry_of xs entry.lit.var) (sym (take-append-drop (suc place) trail.entries)) ∙ entry_kept (take (suc place) trail.entries) (drop (suc place) trail.entries) entry.lit.var entry first

  pub asserts_below : level < entry.level → Asserts trail clause (opposite entry.lit) level
  asserts_below below = record {
    below = omega (arith, below, is.level, top);
    free = free_up_to trail.entries is.fresh (opposite entry.lit) level entry here below;
    forces = record { there = there; others = others };
    least = least;
  }
    where
      top : entry.level ≤ decisions trail.entries
      top = level_low trail.entries is.levels place entry at

  -- the literals before a decision are of lower levels
  pub decision_below : entry.reason ≡ None → level < entry.level
  decision_below none = by (cases_lt level entry.level)
    where
      one_more : entry.level ≡ decisions (take place trail.entries) + 1
      one_more = is.levels place entry at ∙ decisions-push (take place trail.entries) entry ∙ ap (λ o. decisions (take place trail.entries) + cond (is_none o) 1 0) none

      low : (k : ℕ) (x : Entry) → slice_get (take place trail.entries) k ≡ Some x → x.level ≤ entry.level - 1
      low k x e =
          let h = at_take place trail.entries k x e in
          let rise = before_level trail.entries is.levels place k x h.0 h.1 in
          omega (arith, rise, one_more)

      lower_false : IsFalseClause (up_to (entry.level - 1) trail.entries) (without clause (opposite entry.lit))
      lower_false = λ lit h.
          let f = others_before trail.entries is.fresh place entry at clause all lit h in
          let found = valued_entry (take place trail.entries) lit.var (not lit.positive) f in
          let spot = entry_place (take place trail.entries) lit.var found.0 found.1 in
          let whole : entry_of trail.entries lit.var ≡ Some found.0 = ap (λ xs. entry_of xs lit.var) (sym (take-append-drop place trail.entries)) ∙ entry_kept (take place trail.entries) (drop place trail.entries) lit.var found.0 found.1 in
          ap (option_map (λ (x : Entry). x.lit.positive)) (entry_up_to trail.entries lit.var (entry.level - 1) found.0 whole (low spot.0 found.0 spot.1)) ∙ ap (λ b. Some b) found.2

      by : (level < entry.level) ⊎ (entry.level ≤ level) → level < entry.level
      by (inl h) = h
      by (inr h) = absurd (least (entry.level - 1) (omega (arith, h, one_more)) lower_false)

-- a lesson with its clause, chain and assertion
pub teach_lesson : (clauses : List (List Lit)) (trail : TrailState) (conflict : ℕ) (start clause : List Lit) (links : List Link) (asserted : Option Assertion) → slice_get clauses conflict ≡ Some start → Chain clauses links start clause → IsFalseClause trail.entries clause → MatchOption asserted (clause ≡ []) (λ assertion. Asserts trail clause assertion.lit assertion.level) → IfSome asserted (λ assertion. IsSecond trail.entries (without clause assertion.lit) assertion.level assertion.second) → (lesson : Lesson) → lesson.clause.items ≡ clause → lesson.chain.items ≡ links → lesson.asserted ≡ asserted → Teaches clauses trail conflict lesson
teach_lesson clauses trail conflict start clause links asserted found chain falsified asserts second lesson clause_is links_are asserted_is = record {
  makes = record {
    start = start;
    numbered = found;
    chain = subst (λ ls. Chain clauses ls start lesson.clause.items) (sym links_are) (subst (Chain clauses links start) (sym clause_is) chain);
  };
  falsified = subst (IsFalseClause trail.entries) (sym clause_is) falsified;
  asserted = subst (λ o. MatchOption o (lesson.clause.items ≡ []) (λ (assertion : Assertion). Asserts trail lesson.clause.items assertion.lit assertion.level)) (sym asserted_is) (subst (λ c. MatchOption asserted (c ≡ []) (λ (assertion : Assertion). Asserts trail c assertion.lit assertion.level)) (sym clause_is) asserts);
  second = subst (λ o. IfSome o (λ (assertion : Assertion). IsSecond trail.entries (without lesson.clause.items assertion.lit) assertion.level assertion.second)) (sym asserted_is) (subst (λ c. IfSome asserted (λ (assertion : Assertion). IsSecond trail.entries (without c assertion.lit) assertion.level assertion.second)) (sym clause_is) second);
}
