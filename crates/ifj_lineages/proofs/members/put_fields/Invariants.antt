use Rattle.persistent_trie.specs.Versions.{IsVersion, says, Keeps}
use Rattle.ifj_lineages.specs.Overlays.{field_numbers, Overlays}
use Rattle.ifj_lineages.proofs.members.put_fields.Given as goal

abbrev pub invariant-loop-place : goal.invariant-loop-place
invariant-loop-place l =
    record {
      version : IsVersion l.trie l.now;
      kept : Keeps l.fn.trie l.trie;
      over : Overlays (field_numbers l.class.fields.items) l.place l.class.spot.name (says l.fn.trie l.fn.root) (says l.trie l.now);
    }
