-- Trails and stores that belong together, through each step of a propagation.
use Rattle.std.proofs.Common.{◌≡◌, ◌≢◌, ℕ, zero, suc, ◌+◌, ◌<◌, ◌≤◌, Bool, true, false, not, min, cond, eqb, nat_le, List, [], ◌∷◌, ◌++◌, Option, None, Some, IsTrue, take, drop, length, slice_get, refl, sym, ap, subst, ◌∙◌, inl, inr, ◌⊎◌, arith}
use Rattle.std.specs.Bool.{beq}
use Rattle.std.proofs.lemmas.Bool.{cases_eq, cases_lt, true≢false, le-leb}
use Rattle.std.proofs.lemmas.List.{length_push, take-append-drop}
use Rattle.std.proofs.lemmas.Option.{same_Some, none-some, slice_get_within}
use Rattle.sat_clauses.specs.declared.literal.Lit.{Lit}
use Rattle.sat_clauses.specs.Literals.{opposite}
use Rattle.sat_clauses.specs.ClauseLists.{has, without}
use Rattle.sat_links.specs.declared.watches.Watch.{Watch}
use Rattle.sat_links.specs.Watches.{IsListed, slot_of}
use Rattle.sat_links.proofs.Facts.{is_listed}
use Rattle.sat_solver.specs.declared.entry.Entry.{Entry}
use Rattle.sat_solver.specs.declared.pair.Pair.{Pair}
use Rattle.sat_solver.specs.Stores.{StoreState}
use Rattle.sat_solver.specs.Watching.{watched, guard, moved, Watches, IsSeenTo, IsWatching}
use Rattle.sat_solver.specs.Entries.{value_in, IsFreeIn, IsFalseIn, Forces, IsSettled, AllSettled, AllAlong, decisions, up_to}
use Rattle.sat_solver.specs.Trails.{TrailState, IsTrail, empty_trail, with_entry}
use Rattle.sat_solver.specs.Lessons.{IsSecond}
use Rattle.sat_solver.specs.Pairing.{IsMade, Guards, IsHeld, HoldsFirst, Paired, AllDone, Learnt, IsLearnt}
use Rattle.sat_solver.proofs.AlongLemmas.{at_front, at_push, at_first, at_end, at_take, take_next, All-at}
use Rattle.sat_solver.proofs.EntryLemmas.{value_kept, value_pushed, valued_entry, entry_place}
use Rattle.sat_solver.proofs.ClauseLemmas.{in_without, settled_true, same_value, other_value}
use Rattle.sat_solver.proofs.TrailLemmas.{level_low}
use Rattle.sat_solver.proofs.LevelLemmas.{place_up_to, false_within}
use Rattle.sat_solver.proofs.LessonLemmas.{opposite_twice}
use Rattle.sat_solver.proofs.WatchingLemmas.{lit_cases, other_literal}

pub opposite_of : (a b : Lit) → a ≡ opposite b → b ≡ opposite a
opposite_of a b e = sym (opposite_twice b) ∙ ap opposite (sym e)

-- what was made true stays so
pub made_more : (xs ys : List Entry) (lit : Lit) (level : ℕ) → IsMade xs lit level → IsMade (xs ++ ys) lit level
made_more xs ys lit level made = record { place = made.place; entry = made.entry; at = at_front xs ys made.place made.entry made.at; is = made.is; low = made.low }

pub made_higher : (xs : List Entry) (lit : Lit) (a b : ℕ) → a ≤ b → IsMade xs lit a → IsMade xs lit b
made_higher xs lit a b h made = record { place = made.place; entry = made.entry; at = made.at; is = made.is; low = omega (arith, made.low, h) }

pub held_more : (xs ys : List Entry) (clauses : List (List Lit)) (level place : ℕ) → IsHeld xs clauses level place → IsHeld (xs ++ ys) clauses level place
held_more xs ys clauses level place held = record { clause = held.clause; found = held.found; lit = held.lit; there = held.there; made = made_more xs ys held.lit level held.made }

pub held_higher : (xs : List Entry) (clauses : List (List Lit)) (a b place : ℕ) → a ≤ b → IsHeld xs clauses a place → IsHeld xs clauses b place
held_higher xs clauses a b place h held = record { clause = held.clause; found = held.found; lit = held.lit; there = held.there; made = made_higher xs held.lit a b h held.made }

-- the values that entries give
module _ (entries : List Entry) (fresh : AllAlong (λ before entry. value_in before entry.lit.var ≡ None) entries) where
  pub value_made : (place : ℕ) (entry : Entry) → slice_get entries place ≡ Some entry → value_in entries entry.lit.var ≡ Some entry.lit.positive
  value_made place entry at =
      let here : value_in (take (suc place) entries) entry.lit.var ≡ Some entry.lit.positive = ap (λ xs. value_in xs entry.lit.var) (take_next entries place entry at) ∙ value_pushed (take place entries) entry (fresh place entry at) in
      ap (λ xs. value_in xs entry.lit.var) (sym (take-append-drop (suc place) entries)) ∙ value_kept (take (suc place) entries) (drop (suc place) entries) entry.lit.var entry.lit.positive here

  pub made_true : (lit : Lit) (level : ℕ) → IsMade entries lit level → value_in entries lit.var ≡ Some lit.positive
  made_true lit level made = subst (λ (l : Lit). value_in entries l.var ≡ Some l.positive) made.is (value_made made.place made.entry made.at)

  pub made_false : (place : ℕ) (entry : Entry) (lit : Lit) → slice_get entries place ≡ Some entry → entry.lit ≡ opposite lit → IsFalseIn entries lit
  made_false place entry lit at e = subst (λ (l : Lit). value_in entries l.var ≡ Some l.positive) e (value_made place entry at)

  pub not_both : (lit : Lit) (level : ℕ) → IsMade entries lit level → IsFalseIn entries lit → ⊥
  not_both lit level made false_in = differ lit.positive (same_Some lit.positive (not lit.positive) (sym (made_true lit level made) ∙ false_in))
    where
      differ : (b : Bool) → b ≡ not b → ⊥
      differ true e = true≢false e
      differ false e = true≢false (sym e)

module _ (entries : List Entry) (levels : AllAlong (λ before entry. entry.level ≡ decisions (before ++ entry ∷ [])) entries) where
  pub made_by : (lit : Lit) (level : ℕ) → level ≡ decisions entries → value_in entries lit.var ≡ Some lit.positive → IsMade entries lit level
  made_by lit level top e =
      let found = valued_entry entries lit.var lit.positive e in
      let spot = entry_place entries lit.var found.0 found.1 in
      record {
        place = spot.0;
        entry = found.0;
        at = spot.1;
        is = (λ j. record { var = spot.2 j; positive = found.2 j });
        low = omega (arith, level_low entries levels spot.0 found.0 spot.1, top);
      }

-- the entries up to a level
in_up_to : (level : ℕ) (entries : List Entry) (place : ℕ) (entry : Entry) → slice_get entries place ≡ Some entry → entry.level ≤ level → (j : ℕ) × (slice_get (up_to level entries) j ≡ Some entry)
in_up_to level [] place entry at low = cc
in_up_to level (x ∷ xs) zero entry at low =
    let same : x ≡ entry = same_Some x entry at in
    by (nat_le x.level level) (ap (λ (e : Entry). nat_le e.level level) same ∙ le-leb entry.level level low)
  where
    by : (b : Bool) → b ≡ true → (j : ℕ) × (slice_get (cond b (x ∷ up_to level xs) (up_to level xs)) j ≡ Some entry)
    by true e = (0, at)
    by false e = absurd (true≢false (sym e))
in_up_to level (x ∷ xs) (suc place) entry at low = by (nat_le x.level level) (in_up_to level xs place entry at low)
  where
    by : (b : Bool) → (j : ℕ) × (slice_get (up_to level xs) j ≡ Some entry) → (j : ℕ) × (slice_get (cond b (x ∷ up_to level xs) (up_to level xs)) j ≡ Some entry)
    by true there = (suc there.0, there.1)
    by false there = there

pub made_up_to : (entries : List Entry) (lit : Lit) (level low : ℕ) → level ≤ low → IsMade entries lit level → IsMade (up_to low entries) lit level
made_up_to entries lit level low h made =
    let there = in_up_to low entries made.place made.entry made.at (omega (arith, made.low, h)) in
    record { place = there.0; entry = made.entry; at = there.1; is = made.is; low = made.low }

-- a trail and a store that begin
pub paired_new : (vars : ℕ) (store : StoreState) → IsTrail (empty_trail vars) → store.vars ≡ vars → IsWatching store → store.seen ≡ 0 → Paired (empty_trail vars) store
paired_new vars store trail same watching unseen = record {
  is_trail = trail;
  vars = sym same;
  watching = watching;
  guards = λ number pair at. ((λ place entry h _ _. absurd (omega arith)), (λ place entry h _ _. absurd (omega arith)));
  among = omega arith;
  seen = λ k place h _. absurd (omega (arith, unseen, h));
  present = λ place entry h at. cc;
}

-- beside a trail without literals any store that watches is paired, as long as its number of short clauses seen stays
no_entry : (entries : List Entry) (place : ℕ) (entry : Entry) → entries ≡ [] → slice_get entries place ≡ Some entry → ⊥
no_entry entries place entry none at = none-some entry (ap (λ es. slice_get es place) (sym none) ∙ at)

unseen : (trail : TrailState) (store : StoreState) → Paired trail store → trail.entries ≡ [] → store.seen ≡ 0
unseen trail store paired none = by store.seen store.short paired.among (λ k place h at. let held = paired.seen k place h at in no_entry trail.entries held.made.place held.made.entry none held.made.at)
  where
    by : (seen : ℕ) (short : List ℕ) → seen ≤ length short → ((k place : ℕ) → k < seen → slice_get short k ≡ Some place → ⊥) → seen ≡ 0
    by zero short among none_held = refl
    by (suc n) [] among none_held = absurd (omega arith)
    by (suc n) (x ∷ xs) among none_held = absurd (none_held 0 x (omega arith) refl)

pub paired_added : (trail : TrailState) (store now : StoreState) → Paired trail store → trail.entries ≡ [] → now.vars ≡ store.vars → IsWatching now → now.seen ≡ store.seen → Paired trail now
paired_added trail store now paired none vars watching seen =
    let nothing : now.seen ≡ 0 = seen ∙ unseen trail store paired none in
    record {
      is_trail = paired.is_trail;
      vars = paired.vars ∙ sym vars;
      watching = watching;
      guards = λ number pair found. ((λ place entry h at _. absurd (no_entry trail.entries place entry none at)), (λ place entry h at _. absurd (no_entry trail.entries place entry none at)));
      among = omega (arith, nothing);
      seen = λ k place h _. absurd (omega (arith, nothing, h));
      present = λ place entry h at. absurd (no_entry trail.entries place entry none at);
    }

-- a literal more
pub paired_push : (trail : TrailState) (store : StoreState) (entry : Entry) → Paired trail store → IsTrail (with_entry trail entry) → (trail.worked ≡ length trail.entries) ⊎ (entry.level ≡ trail.level) → Paired (with_entry trail entry) store
paired_push trail store entry paired is free = record {
  is_trail = is;
  vars = paired.vars;
  watching = paired.watching;
  guards = λ number pair at. let both = paired.guards number pair at in (guards pair.first pair.second both.0, guards pair.second pair.first both.1);
  among = paired.among;
  seen = λ k place h at. held_more trail.entries (entry ∷ []) store.clauses 0 place (paired.seen k place h at);
  present = λ place e h at. present place e h (at_push trail.entries entry place e at) free;
}
  where
    guards : (lit other : Lit) → Guards trail lit other → Guards (with_entry trail entry) lit other
    guards lit other old = λ place e h at is_lit.
        let within : place < length trail.entries = omega (arith, h, paired.is_trail.worked) in
        made_more trail.entries (entry ∷ []) other e.level (old place e h (at_first trail.entries (entry ∷ []) place e within at) is_lit)

    present : (place : ℕ) (e : Entry) → trail.worked ≤ place → ((place < length trail.entries) × (slice_get trail.entries place ≡ Some e)) ⊎ ((place ≡ length trail.entries) × (entry ≡ e)) → (trail.worked ≡ length trail.entries) ⊎ (entry.level ≡ trail.level) → e.level ≡ entry.level
    present place e h (inr there) _ = ap (λ (x : Entry). x.level) (sym there.1)
    present place e h (inl there) (inl all) = absurd (omega (arith, h, there.0, all))
    present place e h (inl there) (inr same) = paired.present place e h there.1 ∙ sym same

-- a literal more was worked through
pub paired_worked : (trail : TrailState) (store : StoreState) (entry : Entry) (lit : Lit) (now : TrailState) → Paired trail store → slice_get trail.entries trail.worked ≡ Some entry → lit ≡ opposite entry.lit → AllDone trail store lit → now ≡ record trail { worked = trail.worked + 1 } → IsTrail now → Paired now store
paired_worked trail store entry lit now paired at lit_is done now_is is = subst (λ t. Paired t store) (sym now_is) (record {
  is_trail = subst IsTrail now_is is;
  vars = paired.vars;
  watching = paired.watching;
  guards = λ number pair found. let both = paired.guards number pair found in (guards number pair found 0 (omega arith) both.0, guards number pair found 1 (omega arith) both.1);
  among = paired.among;
  seen = paired.seen;
  present = λ place e h e_at. paired.present place e (omega arith) e_at;
})
  where
    guards : (number : ℕ) (pair : Pair) → slice_get store.pairs number ≡ Some pair → (slot : ℕ) → slot < 2 → Guards trail (watched pair slot) (guard pair slot) → Guards (record trail { worked = trail.worked + 1 }) (watched pair slot) (guard pair slot)
    guards number pair found slot below old = λ place e h e_at is_lit. by place e h e_at is_lit (cases_lt place trail.worked)
      where
        by : (place : ℕ) (e : Entry) → place < trail.worked + 1 → slice_get trail.entries place ≡ Some e → e.lit ≡ opposite (watched pair slot) → (place < trail.worked) ⊎ (trail.worked ≤ place) → IsMade trail.entries (guard pair slot) e.level
        by place e h e_at is_lit (inl before) = old place e before e_at is_lit
        by place e h e_at is_lit (inr here) =
            let same_place : place ≡ trail.worked = omega arith in
            let same : e ≡ entry = same_Some e entry (sym e_at ∙ ap (slice_get trail.entries) same_place ∙ at) in
            let watched_is : watched pair slot ≡ lit = opposite_of e.lit (watched pair slot) is_lit ∙ ap (λ (x : Entry). opposite x.lit) same ∙ sym lit_is in
            let within = All-at (λ x. (1 ≤ x.lit.var) × (x.lit.var ≤ trail.vars)) trail.entries trail.worked entry paired.is_trail.within at in
            let var_is : lit.var ≡ entry.lit.var = ap (λ (l : Lit). l.var) lit_is in
            let listed : IsListed store.lists lit = is_listed store.vars store.lists lit paired.watching.literals (omega (arith, var_is, within)) (omega (arith, var_is, within, paired.vars)) in
            let stands = paired.watching.watches lit (slot_of number slot) listed (record { pair = pair; found = found; is = watched_is; slot = below }) in
            subst (IsMade trail.entries (guard pair slot)) (sym (paired.present place e here e_at)) (done stands.0 (slot_of number slot) stands.1 pair found)

-- a jump back
pub paired_jump : (trail : TrailState) (store : StoreState) (now : TrailState) (low : ℕ) → Paired trail store → low ≤ trail.level → now.entries ≡ up_to low trail.entries → now.entries ≡ take (length now.entries) trail.entries → now.level ≡ low → now.worked ≡ min trail.worked (length now.entries) → now.vars ≡ trail.vars → IsTrail now → Paired now store
paired_jump trail store now low paired down up front level worked vars is = record {
  is_trail = is;
  vars = vars ∙ paired.vars;
  watching = paired.watching;
  guards = λ number pair at. let both = paired.guards number pair at in (guards pair.first pair.second both.0, guards pair.second pair.first both.1);
  among = paired.among;
  seen = λ k place h at. held place (paired.seen k place h at);
  present = λ place e h at.
      let before = was place e at in
      let there : e.level ≡ trail.level = paired.present place e (omega (arith, h, worked, slice_get_within now.entries place e at)) before.0 in
      omega (arith, there, before.1, level, down);
}
  where
    was : (place : ℕ) (e : Entry) → slice_get now.entries place ≡ Some e → (slice_get trail.entries place ≡ Some e) × (e.level ≤ low)
    was place e at =
        let in_front = at_take (length now.entries) trail.entries place e (ap (λ es. slice_get es place) (sym front) ∙ at) in
        let up_at = place_up_to trail.entries low place e (ap (λ es. slice_get es place) (sym up) ∙ at) in
        (in_front.1, up_at.2)

    kept : (lit : Lit) (l : ℕ) → l ≤ low → IsMade trail.entries lit l → IsMade now.entries lit l
    kept lit l h made = subst (λ es. IsMade es lit l) (sym up) (made_up_to trail.entries lit l low h made)

    guards : (lit other : Lit) → Guards trail lit other → Guards now lit other
    guards lit other old = λ place e h at is_lit.
        let before = was place e at in
        kept other e.level before.1 (old place e (omega (arith, h, worked)) before.0 is_lit)

    held : (place : ℕ) → IsHeld trail.entries store.clauses 0 place → IsHeld now.entries store.clauses 0 place
    held place h = record { clause = h.clause; found = h.found; lit = h.lit; there = h.there; made = kept h.lit 0 (omega arith) h.made }

-- a watch of a false literal moves to a literal that isn't false
pub paired_moved : (trail : TrailState) (store now : StoreState) (lit to : Lit) (watch : Watch) (pair : Pair) → Paired trail store → slice_get store.pairs watch.clause ≡ Some pair → Watches store.pairs lit watch
    → IsFalseIn trail.entries lit → ¬ IsFalseIn trail.entries to → IsWatching now → now.clauses ≡ store.clauses → now.vars ≡ store.vars → now.short ≡ store.short → now.seen ≡ store.seen
    → slice_get now.pairs watch.clause ≡ Some (moved pair watch.slot to) → ((number : ℕ) → number ≢ watch.clause → slice_get now.pairs number ≡ slice_get store.pairs number) → Paired trail now
paired_moved trail store now lit to watch pair paired found watches is_false not_false watching clauses vars short seen here apart = record {
  is_trail = paired.is_trail;
  vars = paired.vars ∙ sym vars;
  watching = watching;
  guards = λ number p at. by number p at (cases_eq number watch.clause);
  among = subst (λ s. now.seen ≤ length s) (sym short) (omega (arith, seen, paired.among));
  seen = λ k place h at. subst (λ cs. IsHeld trail.entries cs 0 place) (sym clauses) (paired.seen k place (omega (arith, h, seen)) (ap (λ s. slice_get s k) (sym short) ∙ at));
  present = paired.present;
}
  where
    both : Guards trail pair.first pair.second × Guards trail pair.second pair.first
    both = paired.guards watch.clause pair found

    watched_lit : watched pair watch.slot ≡ lit
    watched_lit = ap (λ p. watched p watch.slot) (same_Some pair watches.pair (sym found ∙ watches.found)) ∙ watches.is

    -- the new literal guards and is guarded, since it isn't false and the old one isn't true
    to_other : (other : Lit) → Guards trail to other
    to_other other = λ place e h at is_to. absurd (not_false (made_false trail.entries paired.is_trail.fresh place e to at is_to))

    other_to : (other : Lit) → Guards trail other lit → Guards trail other to
    other_to other old = λ place e h at is_other. absurd (not_both trail.entries paired.is_trail.fresh lit e.level (old place e h at is_other) is_false)

    new_guards : (b : Bool) → cond b pair.first pair.second ≡ lit → Guards trail (cond b to pair.first) (cond b pair.second to) × Guards trail (cond b pair.second to) (cond b to pair.first)
    new_guards true e = (to_other pair.second, other_to pair.second (subst (Guards trail pair.second) e both.1))
    new_guards false e = (other_to pair.first (subst (Guards trail pair.first) e both.0), to_other pair.first)

    by : (number : ℕ) (p : Pair) → slice_get now.pairs number ≡ Some p → (number ≡ watch.clause) ⊎ (number ≢ watch.clause) → Guards trail p.first p.second × Guards trail p.second p.first
    by number p at (inr other) = paired.guards number p (sym (apart number other) ∙ at)
    by number p at (inl e) =
        let same : moved pair watch.slot to ≡ p = same_Some (moved pair watch.slot to) p (sym here ∙ ap (slice_get now.pairs) (sym e) ∙ at) in
        subst (λ (x : Pair). Guards trail x.first x.second × Guards trail x.second x.first) same (new_guards (eqb watch.slot 0) watched_lit)

-- short clauses seen
pub paired_see : (trail : TrailState) (store : StoreState) (seen : ℕ) → Paired trail store → seen ≤ length store.short → HoldsFirst seen trail.entries store 0 → Paired trail (record store { seen = seen })
paired_see trail store seen paired among holds = record {
  is_trail = paired.is_trail;
  vars = paired.vars;
  watching = paired.watching;
  guards = paired.guards;
  among = among;
  seen = holds;
  present = paired.present;
}

-- a clause whose watched literals guard each other is settled once all was worked through
module _ (trail : TrailState) (is : IsTrail trail) (all : trail.worked ≡ length trail.entries) where
  false_place : (lit : Lit) → IsFalseIn trail.entries lit → (place : ℕ) × (entry : Entry) × (place < trail.worked) × (slice_get trail.entries place ≡ Some entry) × (entry.lit ≡ opposite lit)
  false_place lit e =
      let found = valued_entry trail.entries lit.var (not lit.positive) e in
      let spot = entry_place trail.entries lit.var found.0 found.1 in
      (spot.0, found.0, omega (arith, all, slice_get_within trail.entries spot.0 found.0 spot.1), spot.1, (λ j. record { var = spot.2 j; positive = found.2 j }))

  guarded : (clause : List Lit) (lit other : Lit) → IsTrue (has clause other) → Guards trail lit other → IsFalseIn trail.entries lit → IsSettled trail.entries clause
  guarded clause lit other there guards e =
      let spot = false_place lit e in
      settled_true trail.entries clause other there (made_true trail.entries is.fresh other spot.1.level (guards spot.0 spot.1 spot.2 spot.3 spot.4))

  neither : (clause : List Lit) (a b : Lit) → a ≢ b → IsTrue (has clause a) → IsTrue (has clause b) → IsFreeIn trail.entries a → IsFreeIn trail.entries b → IsSettled trail.entries clause
  neither clause a b differ in_a in_b free_a free_b = record {
    not_false = λ all_false. none-some (not a.positive) (sym free_a ∙ all_false a in_a);
    not_unit = λ lit free forces. by lit forces (lit_cases lit a);
  }
    where
      by : (lit : Lit) → Forces trail.entries clause lit → (lit ≡ a) ⊎ (lit ≢ a) → ⊥
      by lit forces (inr ne) = none-some (not a.positive) (sym free_a ∙ forces.others a (in_without clause lit a in_a (other_literal lit a ne)))
      by lit forces (inl e) = none-some (not b.positive) (sym free_b ∙ forces.others b (in_without clause lit b in_b (other_literal lit b (λ same. differ (sym e ∙ same)))))

  pub settled_pair : (clause : List Lit) (a b : Lit) → a ≢ b → IsTrue (has clause a) → IsTrue (has clause b) → Guards trail a b → Guards trail b a → IsSettled trail.entries clause
  settled_pair clause a b differ in_a in_b a_b b_a = by (value_in trail.entries a.var) refl (value_in trail.entries b.var) refl
    where
      valued : (lit other : Lit) (v : Bool) → IsTrue (has clause lit) → IsTrue (has clause other) → Guards trail lit other → value_in trail.entries lit.var ≡ Some v → IsSettled trail.entries clause
      valued lit other v in_lit in_other guards e = sign (beq v lit.positive) refl
        where
          sign : (t : Bool) → beq v lit.positive ≡ t → IsSettled trail.entries clause
          sign true s = settled_true trail.entries clause lit in_lit (e ∙ ap (λ x. Some x) (same_value v lit.positive s))
          sign false s = guarded clause lit other in_other guards (e ∙ ap (λ x. Some x) (other_value v lit.positive s))

      by : (va : Option Bool) → value_in trail.entries a.var ≡ va → (vb : Option Bool) → value_in trail.entries b.var ≡ vb → IsSettled trail.entries clause
      by (Some v) e vb f = valued a b v in_a in_b a_b e
      by None e (Some v) f = valued b a v in_b in_a b_a f
      by None e None f = neither clause a b differ in_a in_b e f

-- after all was worked through no clause is false or unit
pub all_settled : (trail : TrailState) (store : StoreState) → Paired trail store → length trail.entries ≤ trail.worked → HoldsFirst (length store.short) trail.entries store trail.level → AllSettled trail.entries store.clauses
all_settled trail store paired past holds = λ place clause at. by place clause at (paired.watching.all place (slice_get_within store.clauses place clause at))
  where
    done : trail.worked ≡ length trail.entries
    done = omega (arith, past, paired.is_trail.worked)

    by : (place : ℕ) (clause : List Lit) → slice_get store.clauses place ≡ Some clause → IsSeenTo store.short store.pairs place → IsSettled trail.entries clause
    by place clause at (inl short) =
        let held = holds short.0 place (slice_get_within store.short short.0 place short.1) short.1 in
        let same : held.clause ≡ clause = same_Some held.clause clause (sym held.found ∙ at) in
        settled_true trail.entries clause held.lit (subst (λ c. IsTrue (has c held.lit)) same held.there) (made_true trail.entries paired.is_trail.fresh held.lit trail.level held.made)
    by place clause at (inr spot) =
        let is = paired.watching.paired spot.0 spot.1 spot.2 in
        let both = paired.guards spot.0 spot.1 spot.2 in
        let same : is.clause ≡ clause = same_Some is.clause clause (sym is.found ∙ ap (slice_get store.clauses) spot.3 ∙ at) in
        settled_pair trail paired.is_trail done clause spot.1.first spot.1.second is.differ (subst (λ c. IsTrue (has c spot.1.first)) same is.first) (subst (λ c. IsTrue (has c spot.1.second)) same is.second) both.0 both.1

-- a learnt clause, and the literal that it asserts
pub paired_learnt : (trail : TrailState) (store now : StoreState) (clause : List Lit) (lit : Lit) (second : Option Lit) (entry : Entry) → Paired trail store → IsWatching now → Learnt store now clause lit second → entry.lit ≡ lit → entry.level ≡ trail.level → IsFreeIn trail.entries lit
    → IsSecond trail.entries (without clause lit) trail.level second → IsTrail (with_entry trail entry) → Paired (with_entry trail entry) now
paired_learnt trail store now clause lit second entry paired watching learnt entry_lit entry_level free is_second is = by second learnt is_second
  where
    after : Paired (with_entry trail entry) store
    after = paired_push trail store entry paired is (inr entry_level)

    made : IsMade (trail.entries ++ entry ∷ []) lit trail.level
    made = record { place = length trail.entries; entry = entry; at = at_end trail.entries entry; is = entry_lit; low = omega (arith, entry_level) }

    holds : IsLearnt store now clause → ((k place : ℕ) → k < store.seen → slice_get now.short k ≡ Some place → slice_get store.short k ≡ Some place) → HoldsFirst now.seen (trail.entries ++ entry ∷ []) now 0
    holds learns old = λ k place h at.
        let held = after.seen k place (omega (arith, h, learns.seen)) (old k place (omega (arith, h, learns.seen)) at) in
        record { clause = held.clause; found = ap (λ cs. slice_get cs place) learns.clauses ∙ at_front store.clauses (clause ∷ []) place held.clause held.found; lit = held.lit; there = held.there; made = held.made }

    by : (second : Option Lit) → Learnt store now clause lit second → IsSecond trail.entries (without clause lit) trail.level second → Paired (with_entry trail entry) now
    by None learns _ = record {
      is_trail = is;
      vars = paired.vars ∙ sym learns.0.vars;
      watching = watching;
      guards = λ number p at. after.guards number p (ap (λ ps. slice_get ps number) (sym learns.1) ∙ at);
      among = omega (arith, learns.0.seen, paired.among, ap length learns.2, length_push store.short (length store.clauses));
      seen = holds learns.0 (λ k place h at. at_first store.short (length store.clauses ∷ []) k place (omega (arith, h, paired.among)) (ap (λ ss. slice_get ss k) (sym learns.2) ∙ at));
      present = after.present;
    }
    by (Some other) learns there = record {
      is_trail = is;
      vars = paired.vars ∙ sym learns.0.vars;
      watching = watching;
      guards = λ number p at. elim (at_push store.pairs (record { place = length store.clauses; first = lit; second = other }) number p (ap (λ ps. slice_get ps number) (sym learns.1) ∙ at)) [
        | inl (h, old) ↦ after.guards number p old
        | inr (e, same) ↦ subst (λ (x : Pair). Guards (with_entry trail entry) x.first x.second × Guards (with_entry trail entry) x.second x.first) same (first_guards, second_guards)
      ];
      among = omega (arith, learns.0.seen, paired.among, ap length learns.2);
      seen = holds learns.0 (λ k place h at. ap (λ ss. slice_get ss k) (sym learns.2) ∙ at);
      present = after.present;
    }
      where
        first_guards : Guards (with_entry trail entry) lit other
        first_guards = λ place e h at is_lit.
            let within : place < length trail.entries = omega (arith, h, paired.is_trail.worked) in
            absurd (none-some (not lit.positive) (sym free ∙ made_false trail.entries paired.is_trail.fresh place e lit (at_first trail.entries (entry ∷ []) place e within at) is_lit))

        second_guards : Guards (with_entry trail entry) other lit
        second_guards = λ place e h at is_other.
            let within : place < length trail.entries = omega (arith, h, paired.is_trail.worked) in
            made_higher (trail.entries ++ entry ∷ []) lit trail.level e.level (there.1 place e (at_first trail.entries (entry ∷ []) place e within at) is_other) made

-- a false literal has a list
pub has_list : (trail : TrailState) (store : StoreState) (lit : Lit) → Paired trail store → IsFalseIn trail.entries lit → IsListed store.lists lit
has_list trail store lit paired falsified =
    let within = false_within trail.vars trail.entries paired.is_trail.within lit falsified in
    is_listed store.vars store.lists lit paired.watching.literals within.0 (omega (arith, within.1, paired.vars))

pub learnt_clauses : (old now : StoreState) (clause : List Lit) (lit : Lit) (second : Option Lit) → Learnt old now clause lit second → now.clauses ≡ old.clauses ++ clause ∷ []
learnt_clauses old now clause lit None learnt = learnt.0.clauses
learnt_clauses old now clause lit (Some second) learnt = learnt.0.clauses

-- a second literal is one among fewer entries
pub second_front : (entries front : List Entry) (n : ℕ) (lits : List Lit) (level : ℕ) (second : Option Lit) → front ≡ take n entries → IsSecond entries lits level second → IsSecond front lits level second
second_front entries front n lits level None e none = none
second_front entries front n lits level (Some second) e there = (there.0, λ k entry at is. there.1 k entry (at_take n entries k entry (ap (λ es. slice_get es k) (sym e) ∙ at)).1 is)
