use Rattle.std.proofs.Common.{◌≡◌, ◌-◌, ◌<◌, length}
use Rattle.persistent_trie.specs.Nodes.{value_at}
use Rattle.persistent_trie.proofs.node.find.Given as goal

abbrev pub invariant-down : goal.invariant-down
invariant-down g l =
    record {
      within : l.at < length l.nodes;
      leads : value_at l.nodes (l.levels - l._level) l.at l.rest ≡ value_at l.nodes l.levels l.fn.root l.fn.key;
    }
