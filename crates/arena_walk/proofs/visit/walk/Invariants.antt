use Rattle.std.proofs.Common.{◌≡◌, ◌+◌, ◌-◌, Some, take, drop}
use Rattle.arena_walk.specs.Tree.{Tree, numbers}
use Rattle.arena_walk.specs.Forest.{tree_at, first_number}
use Rattle.std.specs.Io.KnownBytes.{Keeps, append_known}
use Rattle.arena_walk.proofs.WalkLemmas.{IsAlong}
use Rattle.arena_walk.proofs.visit.walk.Given as goal

abbrev pub invariant-loop-number : goal.invariant-loop-number
invariant-loop-number g l = record {
  grew : g.V.Visit.grew l.initial.visitor l.visitor;
  along : (t : Tree _) → tree_at g.N.Shape.arity_of l.arena l.fn.root.0 ≡ Some t
      → IsAlong g.N.Shape.arity_of (g.V.Visit.stands l.visitor) (g.V.Visit.admits l.initial.visitor) t l.number (drop l.number (take (l.fn.root.0 + 1) l.arena)) l.outs.items;
  told : (t : Tree _) → tree_at g.N.Shape.arity_of l.arena l.fn.root.0 ≡ Some t
      → Keeps (g.V.Visit.visited l.visitor) (append_known (g.V.Visit.visited l.initial.visitor) (take (l.number - first_number l.fn.root.0 t) (numbers (first_number l.fn.root.0 t) t)));
}
