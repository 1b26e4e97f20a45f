use Rattle.std.proofs.Common.{◌∙◌, arith}
use Rattle.persistent_trie.specs.Nodes.{is_odd}
use Rattle.persistent_trie.proofs.Paths.{side_within, one_down}
use Rattle.persistent_trie.proofs.node.find.Goals as goal

pub down-preserved : goal.down-preserved
down-preserved g c =
    let nodes = c.args.nodes.now in
    record {
      within = rw c.side-at.ensures (side_within nodes c.down.at (is_odd c.down.rest) c.requires.linked c.down.invariant.within);
      leads = rw c.side-at.ensures (one_down nodes c.args.levels c.down._level c.down.at c.down.rest (omega (arith, c.down-test.true))) ∙ c.down.invariant.leads;
    }
