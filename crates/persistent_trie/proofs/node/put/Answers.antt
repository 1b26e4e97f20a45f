use Rattle.std.proofs.Common.{◌+◌, ap, ◌∙◌, arith}
use Rattle.persistent_trie.specs.Nodes.{node_at, side_of, forked, is_odd}
use Rattle.persistent_trie.proofs.Paths.{put_starts, put_further, put_ends, within_now}
use Rattle.persistent_trie.proofs.node.put.Goals as goal

pub down-init : goal.down-init
down-init g c =
    record {
      putting = put_starts c.args.nodes.now.items c.args.levels c.args.root c.args.key c.args.value c.requires.within;
      room = omega (arith, c.requires.room);
    }

pub fork-node-requires : goal.fork-node-requires
fork-node-requires g c =
    rw c.as_slice.ensures.value (within_now c.args.nodes.now.items c.down.nodes.items c.args.levels c.down._level c.args.root c.down.at c.args.key c.down.rest c.args.value c.down.invariant.putting)

pub side-at-requires : goal.side-at-requires
side-at-requires g c =
    rw c.as_slice-in-down.ensures.value (within_now c.args.nodes.now.items c.down.nodes.items c.args.levels c.down._level c.args.root c.down.at c.args.key c.down.rest c.args.value c.down.invariant.putting)

pub down-preserved : goal.down-preserved
down-preserved g c =
    let old = c.args.nodes.now.items in
    let now = c.down.nodes.items in
    record {
      putting = put_further old now c.push_reserved.new.self.items c.args.levels c.down._level c.args.root c.down.at c.args.key c.down.rest (c.len-next.result + 1) c.side-at.result c.fork-node.result c.args.value c.requires.linked c.down.invariant.putting
          (omega (arith, c.down-test.true)) (omega (arith, c.len-next.ensures, c.down.nodes.ok.0))
          (c.fork-node.ensures ∙ ap (λ ns. forked (node_at ns c.down.at) c.down.at (is_odd c.down.rest) (c.len-next.result + 1)) c.as_slice.ensures.value)
          (c.side-at.ensures ∙ ap (λ ns. side_of (node_at ns c.down.at) c.down.at (is_odd c.down.rest)) c.as_slice-in-down.ensures.value)
          c.push_reserved.ensures.items;
      room = omega (arith, c.down.invariant.room, c.down-test.true, c.push_reserved.ensures.len, c.push_reserved.ensures.capacity);
    }

pub returns : goal.returns
returns g c =
    put_ends c.args.nodes.now.items c.down.nodes.items c.push_reserved-2.new.self.items c.args.levels c.down._level c.args.root c.down.at c.args.key c.down.rest c.args.value c.down.invariant.putting (omega (arith, c.down-test.false)) c.push_reserved-2.ensures.items
