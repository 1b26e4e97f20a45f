use Rattle.std.proofs.Common.{take}
use Rattle.persistent_trie.specs.Versions.{IsVersion, says, Keeps}
use Rattle.ifj_lineages.proofs.Turning.{AreBeside}
use Rattle.ifj_lineages.proofs.clashes.put_names.Given as goal

abbrev pub invariant-loop-name : goal.invariant-loop-name
invariant-loop-name l =
    record {
      version : IsVersion l.trie l.now;
      kept : Keeps l.fn.trie l.trie;
      beside : AreBeside (take l.name-index l.names) (says l.fn.trie l.fn.root) (says l.trie l.now);
    }
