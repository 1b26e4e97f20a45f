use Rattle.arena_walk.specs.Forest.{first_number}
use Rattle.arena_walk.proofs.Visitors.{EachNode-map}
use Rattle.arena_walk.proofs.tests.walk_both.Goals as goal

pub walk-requires-2-clause-admitted : goal.walk-requires-2-clause-admitted
walk-requires-2-clause-admitted g c = λ tree is.
    EachNode-map (g.V.Visit.admits c.args.visitor.now) (g.V.Visit.admits c.walk.new.visitor)
    (λ u k. g.met.V.Visit.still_admits c.args.visitor.now c.walk.new.visitor u k c.walk.ensures.grew)
    (first_number c.args.other.0 tree) tree (c.requires.other_admitted tree is)
