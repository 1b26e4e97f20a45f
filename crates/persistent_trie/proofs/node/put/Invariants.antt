use Rattle.std.proofs.Common.{◌-◌, ◌+◌, ◌<◌, vec_len, vec_capacity}
use Rattle.persistent_trie.proofs.Paths.{Putting}
use Rattle.persistent_trie.proofs.node.put.Given as goal

abbrev pub invariant-down : goal.invariant-down
invariant-down g l =
    record {
      putting : Putting l.fn.nodes.items l.nodes.items l.levels l._level l.fn.root l.at l.fn.key l.rest l.value;
      room : vec_len l.nodes + (l.levels - l._level) < vec_capacity l.nodes;
    }
