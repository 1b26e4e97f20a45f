-- Searches whose clauses grow, and sessions that take over clauses.
use Rattle.std.proofs.Common.{◌≡◌, ℕ, suc, ◌+◌, ◌<◌, ◌≤◌, Bool, true, List, [], ◌∷◌, ◌++◌, Some, IsTrue, All, length, slice_get, refl, sym, ap, subst, ◌∙◌, ◌⊎◌, inl, inr, arith}
use Rattle.std.proofs.lemmas.Bool.{cases_lt}
use Rattle.std.proofs.lemmas.List.{length_push}
use Rattle.std.proofs.lemmas.List.Elements.{All-weaker}
use Rattle.std.proofs.lemmas.Option.{same_Some, slice_get_within}
use Rattle.std.proofs.lemmas.List.Folds.{list_all-append}
use Rattle.std.proofs.lemmas.Bool.{and_parts, and_from, false≢true}
use Rattle.sat_clauses.specs.declared.literal.Lit.{Lit}
use Rattle.sat_clauses.specs.ClauseLists.{holds, holds_clause}
use Rattle.sat_clauses.specs.Derivations.{Resolution, Makes}
use Rattle.sat_clauses.proofs.SoundLemmas.{held_at, held_after_step, held_with}
use Rattle.sat_solver.specs.declared.search.Search.{Search}
use Rattle.sat_solver.specs.Stores.{greatest_in}
use Rattle.sat_solver.specs.Trails.{IsTrail}
use Rattle.sat_solver.specs.Searches.{IsSearch, weight_of}
use Rattle.sat_solver.proofs.StoreLemmas.{literals_below}
use Rattle.sat_solver.proofs.CountLemmas.{rises_farther}
use Rattle.sat_solver.proofs.AlongLemmas.{at_front, at_first, at_end}
use Rattle.incremental_solver.specs.declared.session.Session.{Session}
use Rattle.incremental_solver.specs.Answers.{Refutes, IsAnswerWith}
use Rattle.incremental_solver.specs.Inquiries.{Grows, TurnIs}
use Rattle.incremental_solver.specs.declared.inquiry.Turn.{Turn}
use Rattle.incremental_solver.specs.declared.inquiry.Turn.TheVariants.{GoesOn, Holds, Refuted}
use Rattle.incremental_solver.specs.declared.solver.AnswerWith.{AnswerWith}
use Rattle.incremental_solver.specs.declared.solver.AnswerWith.TheVariants.{Sat, Unsat}
use Rattle.incremental_solver.specs.Sessions.{IsSession}

-- a search that stays as to its clauses
pub grows_same : (old new : Search) → IsSearch new → new.trail.vars ≡ old.trail.vars → new.store.clauses ≡ old.store.clauses → Grows old new
grows_same old new search vars clauses = record {
  search = search;
  vars = vars;
  kept = λ place clause at. ap (λ cs. slice_get cs place) clauses ∙ at;
  follow = λ values held. ap (holds values) clauses ∙ held;
}

-- a search with a clause more, which a step makes
pub grows_learnt : (old new : Search) (step : Resolution) (clause : List Lit) → IsSearch new → new.trail.vars ≡ old.trail.vars → new.store.clauses ≡ old.store.clauses ++ clause ∷ [] → Makes old.store.clauses step clause → Grows old new
grows_learnt old new step clause search vars clauses makes = record {
  search = search;
  vars = vars;
  kept = λ place c at. ap (λ cs. slice_get cs place) clauses ∙ at_front old.store.clauses (clause ∷ []) place c at;
  follow = λ values held. ap (holds values) clauses ∙ held_with values old.store.clauses clause held (held_after_step values old.store.clauses step clause held makes);
}

pub grows_on : (a b c : Search) → Grows a b → Grows b c → Grows a c
grows_on a b c one two = record {
  search = two.search;
  vars = two.vars ∙ one.vars;
  kept = λ place clause at. two.kept place clause (one.kept place clause at);
  follow = λ values held. two.follow values (one.follow values held);
}

-- clauses from which the empty one is made are refuted under any assumptions
pub refutes_empty : (clauses : List (List Lit)) (assumed : List Lit) (step : Resolution) → Makes clauses step [] → Refutes clauses assumed
refutes_empty clauses assumed step makes values both = false≢true (held_after_step values clauses step [] both.held makes)

-- a refutation of clauses that follow
pub refutes_before : (clauses more : List (List Lit)) (assumed : List Lit) → ((values : List Bool) → IsTrue (holds values clauses) → IsTrue (holds values more)) → Refutes more assumed → Refutes clauses assumed
refutes_before clauses more assumed follow refuted values both = refuted values (record { held = follow values both.held; true_all = both.true_all })

-- a session whose search grew
pub session_grew : (added : List (List Lit)) (old new : Session) → IsSession added old → Grows old.search new.search → new.known ≡ old.known → IsSession added new
session_grew added old new is grows known = record {
  search = grows.search;
  few = omega (arith, is.few, known);
  knows = λ k clause h at. let spot = is.knows k clause (omega (arith, h, known)) at in (spot.0, grows.kept spot.0 clause spot.1);
  follow = λ values held. grows.follow values (is.follow values held);
}

-- a session that took over one clause more
pub session_more : (added : List (List Lit)) (old new : Session) (clause : List Lit) → IsSession added old → IsSearch new.search → slice_get added old.known ≡ Some clause → new.search.store.clauses ≡ old.search.store.clauses ++ clause ∷ [] → new.known ≡ old.known + 1 → old.known < length added → IsSession added new
session_more added old new clause is search here clauses known below = record {
  search = search;
  few = omega arith;
  knows = λ k c h at. by k c at (omega arith) (cases_lt k old.known);
  follow = λ values held. ap (holds values) clauses ∙ held_with values old.search.store.clauses clause (is.follow values held) (held_at values added old.known clause held here);
}
  where
    by : (k : ℕ) (c : List Lit) → slice_get added k ≡ Some c → k < old.known + 1 → (k < old.known) ⊎ (old.known ≤ k) → (place : ℕ) × (slice_get new.search.store.clauses place ≡ Some c)
    by k c at h (inl before) = let spot = is.knows k c before at in (spot.0, ap (λ cs. slice_get cs spot.0) clauses ∙ at_front old.search.store.clauses (clause ∷ []) spot.0 c spot.1)
    by k c at h (inr past) =
        let same : clause ≡ c = same_Some clause c (sym here ∙ ap (slice_get added) (omega arith) ∙ at) in
        (length old.search.store.clauses, ap (λ cs. slice_get cs (length old.search.store.clauses)) clauses ∙ at_end old.search.store.clauses clause ∙ ap (λ x. Some x) same)

-- a session beside which a clause was added
holds_front : (values : List Bool) (clauses : List (List Lit)) (clause : List Lit) → holds values (clauses ++ clause ∷ []) ≡ true → holds values clauses ≡ true
holds_front values clauses clause h = (and_parts (holds values clauses) (holds values (clause ∷ [])) (sym (list_all-append (holds_clause values) clauses (clause ∷ [])) ∙ h)).0

pub session_added : (added : List (List Lit)) (clause : List Lit) (session : Session) → IsSession added session → IsSession (added ++ clause ∷ []) session
session_added added clause session is = record {
  search = is.search;
  few = omega (arith, is.few, length_push added clause);
  knows = λ k c h at. is.knows k c h (at_first added (clause ∷ []) k c (omega (arith, h, is.few)) at);
  follow = λ values held. is.follow values (holds_front values added clause held);
}

each_held : (values : List Bool) (cs : List (List Lit)) → ((k : ℕ) (clause : List Lit) → slice_get cs k ≡ Some clause → holds_clause values clause ≡ true) → holds values cs ≡ true
each_held values [] f = refl
each_held values (c ∷ cs) f = and_from (holds_clause values c) (holds values cs) (f 0 c refl) (each_held values cs (λ k clause at. f (suc k) clause at))

-- clauses that are all known are held where the search's clauses are
pub known_held : (added : List (List Lit)) (session : Session) (values : List Bool) → IsSession added session → session.known ≡ length added → holds values session.search.store.clauses ≡ true → holds values added ≡ true
known_held added session values is all held =
    each_held values added (λ k clause at.
    let spot = is.knows k clause (omega (arith, all, slice_get_within added k clause at)) at in
    held_at values session.search.store.clauses spot.0 clause held spot.1)

-- what a turn says after a propagation, said of the search before it
pub turn_later : (old mid new : Search) (assumed : List Lit) (turn : Turn) → IsTrail old.trail → IsTrail new.trail → new.trail.vars ≡ old.trail.vars → weight_of old ≤ weight_of mid → mid.store.clauses ≡ old.store.clauses → TurnIs mid new assumed turn → TurnIs old new assumed turn
turn_later old mid new assumed (GoesOn count) before after vars farther clauses is =
    let rest : weight_of old < weight_of new = omega (arith, farther, is.farther) in
    record { farther = rest; rises = rises_farther old.trail new.trail before after vars rest; assumes = is.assumes; settled = is.settled }
turn_later old mid new assumed Holds before after vars farther clauses is = is
turn_later old mid new assumed Refuted before after vars farther clauses is = subst (λ cs. Refutes cs assumed) clauses is

-- an answer about clauses that are known, said of the clauses that were added
pub answer_known : (added : List (List Lit)) (session : Session) (assumed : List Lit) (answer : AnswerWith) → IsSession added session → session.known ≡ length added → IsAnswerWith session.search.store.clauses assumed answer → IsAnswerWith added assumed answer
answer_known added session assumed (Sat assignment) is all both = record { held = known_held added session assignment.values.items is all both.held; true_all = both.true_all }
answer_known added session assumed Unsat is all refuted = refutes_before added session.search.store.clauses assumed is.follow refuted

-- clauses that were kept are held where all are
pub kept_held : (old new : Search) (values : List Bool) → Grows old new → holds values new.store.clauses ≡ true → holds values old.store.clauses ≡ true
kept_held old new values grows held = each_held values old.store.clauses (λ k clause at. held_at values new.store.clauses k clause held (grows.kept k clause at))

-- literals within a number of variables
pub literals_up_to : (lits : List Lit) (n : ℕ) → greatest_in lits ≤ n → All (λ lit. lit.var ≤ n) lits
literals_up_to lits n h = All-weaker (λ lit. lit.var ≤ greatest_in lits) (λ lit. lit.var ≤ n) (λ lit low. omega (arith, low, h)) lits (literals_below lits)

pub literals_higher : (lits : List Lit) (m n : ℕ) → m ≤ n → All (λ lit. lit.var ≤ m) lits → All (λ lit. lit.var ≤ n) lits
literals_higher lits m n h all = All-weaker (λ lit. lit.var ≤ m) (λ lit. lit.var ≤ n) (λ lit low. omega (arith, low, h)) lits all
