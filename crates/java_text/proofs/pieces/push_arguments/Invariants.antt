use Rattle.std.proofs.Common.{◌≡◌, ◌+◌, List}
use Rattle.dj_names.specs.Texts.{Text}
use Rattle.arena_walk.specs.Tree.{trees_of, size_each}
use Rattle.java_text.specs.Pieces.{Puts, kids_at, each_work}
use Rattle.java_text.proofs.Arguments.{last_of, closed}
use Rattle.java_text.proofs.pieces.push_arguments.Given as goal

abbrev pub invariant-arguments : goal.invariant-arguments
invariant-arguments l =
    (l.end + size_each (trees_of (last_of l.behind (kids_at l.exprs l.fn.at.0))) ≡ l.fn.at.0)
    × ((names : List Text) → Puts names l.exprs (closed names (last_of l.behind (kids_at l.exprs l.fn.at.0))) (each_work (last_of l.behind (kids_at l.exprs l.fn.at.0)) + 1) l.fn.pieces l.pieces)
