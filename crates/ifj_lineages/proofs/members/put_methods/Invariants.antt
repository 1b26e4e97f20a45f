use Rattle.persistent_trie.specs.Versions.{IsVersion, says, Keeps}
use Rattle.ifj_lineages.specs.Overlays.{method_numbers, Overlays}
use Rattle.ifj_lineages.proofs.members.put_methods.Given as goal

abbrev pub invariant-loop-place : goal.invariant-loop-place
invariant-loop-place l =
    record {
      version : IsVersion l.trie l.now;
      kept : Keeps l.fn.trie l.trie;
      over : Overlays (method_numbers l.class.methods.items) l.place l.class.spot.name (says l.fn.trie l.fn.root) (says l.trie l.now);
    }
