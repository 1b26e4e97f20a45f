use Rattle.std.proofs.Common.{take, arith}
use Rattle.std.proofs.lemmas.Grind.{common_steps}
use Rattle.dj_system.proofs.Edge.{appends-more, appends-kept}
use Rattle.dj_system.proofs.output.write_whole.Goals as goal
use Rattle.dj_system.proofs.output.write_whole.Goals.{in-Ok, in-Err}

pub pieces-preserved : goal.pieces-preserved
pieces-preserved g c =
    let held = g.W.Write.contents in
    let piece = c.args.piece.now in
    elim c.match-write.branch [
      | in-Ok w ↦ rw w.written-is record {
        within = grind (arith, common_steps, w.in-Ok.ensures.bound, c.pieces.invariant.within);
        front = appends-more (held c.args.writer.now) (held c.pieces.writer) (held c.write.new.self) piece c.pieces.written w.in-Ok.count
            c.pieces.invariant.within c.pieces.invariant.front w.in-Ok.ensures.bytes;
      }
      | in-Err w ↦ rw w.written-is record {
        within = c.pieces.invariant.within;
        front = appends-kept (held c.args.writer.now) (held c.pieces.writer) (held c.write.new.self) (take c.pieces.written piece)
            c.pieces.invariant.front w.in-Err.ensures.bytes;
      }
    ]
