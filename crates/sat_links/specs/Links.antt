-- Links between watches.
use Rattle.std.specs.Prelude.{◌≡◌, ◌≢◌, ℕ, zero, suc, ◌*◌, List, [], ◌∷◌, map, length, slice_set, slice_index_or, Option, None, Some}
use Rattle.sat_links.specs.declared.watches.Watch.{Watch}
use Rattle.sat_links.specs.Watches.{HasClauses}

-- the watch after a watch
abbrev pub next_of : List (List (Option Watch)) → Watch → Option Watch
next_of next watch = slice_index_or (slice_index_or next watch.clause []) watch.slot None

-- the watches from one on, as many as asked for
abbrev pub walk : List (List (Option Watch)) → ℕ → Option Watch → List Watch
walk next zero from = []
walk next (suc count) None = []
walk next (suc count) (Some watch) = watch ∷ walk next count (next_of next watch)

-- the list from each first watch on; no list has more than both slots of each clause
abbrev pub lists_of : List (Option Watch) → List (List (Option Watch)) → List (List Watch)
lists_of heads next = map (walk next (2 * length next)) heads

-- the links lead from a watch through a list to its end
abbrev pub LeadsTo : List (List (Option Watch)) → Option Watch → List Watch → Type 0
LeadsTo next from [] = from ≡ None
LeadsTo next from (watch ∷ rest) = (from ≡ Some watch) × LeadsTo next (next_of next watch) rest

-- each first watch leads through its list
abbrev pub AllLead : List (Option Watch) → List (List (Option Watch)) → List (List Watch) → Type 0
AllLead heads next lists = (place : ℕ) → LeadsTo next (slice_index_or heads place None) (slice_index_or lists place [])

-- each list ends, and both slots of each clause stand in the lists once
pub record IsLinked (heads : List (Option Watch)) (next : List (List (Option Watch))) : Type 0 where
  pub lead : AllLead heads next (lists_of heads next)
  pub watches : HasClauses (length next) (lists_of heads next)

-- another watch, or none, follows a watch, and no other link differs
pub record Relinks (old : List (List (Option Watch))) (watch : Watch) (next : Option Watch) (new : List (List (Option Watch))) : Type 0 where
  pub here : next_of new watch ≡ next
  pub others : (other : Watch) → other ≢ watch → next_of new other ≡ next_of old other
  pub count : length new ≡ length old

-- what followed a watch follows the one before it, or is first
abbrev pub Cuts : List (Option Watch) → List (List (Option Watch)) → ℕ → Option Watch → Watch → List (Option Watch) → List (List (Option Watch)) → Type 0
Cuts heads next place None watch new_heads new_next = (new_heads ≡ slice_set heads place (next_of next watch)) × (new_next ≡ next)
Cuts heads next place (Some before) watch new_heads new_next = (new_heads ≡ heads) × Relinks next before (next_of next watch) new_next
