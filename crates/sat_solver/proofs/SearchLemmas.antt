-- Searches that go on.
use Rattle.std.proofs.Common.{◌≡◌, ℕ, ◌+◌, ◌≤◌, ◌<◌, List, [], ◌∷◌, ◌++◌, Some, IsSome, All, take, length, get_or, slice_get, sym, subst, ap, ◌∙◌, arith, ◌⊎◌, inl, inr}
use Rattle.std.proofs.lemmas.Bool.{cases_lt}
use Rattle.std.proofs.lemmas.List.{take-append-le, length_push}
use Rattle.sat_clauses.specs.declared.literal.Lit.{Lit}
use Rattle.sat_clauses.specs.Derivations.{Resolution, Follow}
use Rattle.sat_solver.specs.declared.entry.Entry.{Entry}
use Rattle.sat_solver.specs.Entries.{IsForced, AllReasoned, Extends, IsFalseClause}
use Rattle.sat_solver.proofs.AlongLemmas.{at_first, at_front, Along-push, Along-take}
use Rattle.sat_solver.proofs.ClauseLemmas.{has-at}
use Rattle.sat_solver.proofs.LevelLemmas.{false_within}

-- a clause more forces what was forced
pub forced_later : (clauses : List (List Lit)) (clause : List Lit) (before : List Entry) (entry : Entry) → IsForced clauses before entry → IsForced (clauses ++ clause ∷ []) before entry
forced_later clauses clause before entry forced = record {
  place = forced.place;
  clause = forced.clause;
  reason = forced.reason;
  found = at_front clauses (clause ∷ []) forced.place forced.clause forced.found;
  forces = forced.forces;
}

pub reasons_later : (clauses : List (List Lit)) (clause : List Lit) (entries : List Entry) → AllReasoned clauses entries → AllReasoned (clauses ++ clause ∷ []) entries
reasons_later clauses clause entries all = λ k x e some. forced_later clauses clause (take k entries) x (all k x e some)

pub reasons_extend : (clauses : List (List Lit)) (level : ℕ) (old new : List Entry) → AllReasoned clauses old → Extends clauses level old new → AllReasoned clauses new
reasons_extend clauses level old new all extends = λ k x e some. by k x e some (cases_lt k (length old))
  where
    by : (k : ℕ) (x : Entry) → slice_get new k ≡ Some x → IsSome x.reason → (k < length old) ⊎ (length old ≤ k) → IsForced clauses (take k new) x
    by k x e some (inr h) = extends.forced k x h e
    by k x e some (inl h) =
        let there : slice_get old k ≡ Some x = at_first old extends.added k x h (ap (λ xs. slice_get xs k) (sym extends.prefix) ∙ e) in
        let front : take k new ≡ take k old = ap (take k) extends.prefix ∙ take-append-le k old extends.added (omega arith) in
        subst (λ xs. IsForced clauses xs x) (sym front) (all k x there some)

pub reasons_push : (clauses : List (List Lit)) (entries : List Entry) (y : Entry) → AllReasoned clauses entries → (IsSome y.reason → IsForced clauses entries y) → AllReasoned clauses (entries ++ y ∷ [])
reasons_push clauses entries y all here = Along-push (λ before entry. IsSome entry.reason → IsForced clauses before entry) entries y all here

pub reasons_take : (clauses : List (List Lit)) (n : ℕ) (entries : List Entry) → AllReasoned clauses entries → AllReasoned clauses (take n entries)
reasons_take clauses n entries all = Along-take (λ before entry. IsSome entry.reason → IsForced clauses before entry) n entries all

-- a clause that is false has the trail's variables
pub false_vars : (vars : ℕ) (entries : List Entry) → All (λ entry. (1 ≤ entry.lit.var) × (entry.lit.var ≤ vars)) entries → (clause : List Lit) → IsFalseClause entries clause → All (λ lit. (1 ≤ lit.var) × (lit.var ≤ vars)) clause
false_vars vars entries within clause all = λ k d h. false_within vars entries within (get_or clause k d) (all (get_or clause k d) (has-at clause k d h))

-- the known clauses stay where they are
pub follow_keeps : (known all : List (List Lit)) (steps : List Resolution) → Follow known steps all → (k : ℕ) (clause : List Lit) → slice_get known k ≡ Some clause → slice_get all k ≡ Some clause
follow_keeps known all [] follow k clause e = ap (λ cs. slice_get cs k) follow ∙ e
follow_keeps known all (step ∷ steps) follow k clause e = follow_keeps (known ++ follow.0 ∷ []) all steps follow.2 k clause (at_front known (follow.0 ∷ []) k clause e)

-- each step makes one clause
pub follow_length : (known all : List (List Lit)) (steps : List Resolution) → Follow known steps all → length all ≡ length known + length steps
follow_length known all [] follow = ap length follow ∙ omega arith
follow_length known all (step ∷ steps) follow = follow_length (known ++ follow.0 ∷ []) all steps follow.2 ∙ omega (arith, length_push known follow.0)
