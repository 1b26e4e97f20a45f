-- Versions that stay, over several changes.
use Rattle.std.proofs.Common.{List, refl, ◌∙◌}
use Rattle.persistent_trie.specs.Versions.{Keeps}
use Rattle.persistent_trie.specs.declared.node.Node.{Node}

pub keeps_reflexive : {V : Type 0} (nodes : List (Node V)) → Keeps nodes nodes
keeps_reflexive nodes = record { there = λ root version. version; same = λ root version key. refl }

pub keeps_joined : {V : Type 0} (first second third : List (Node V)) → Keeps first second → Keeps second third → Keeps first third
keeps_joined first second third one other =
    record {
      there = λ root version. other.there root (one.there root version);
      same = λ root version key. other.same root (one.there root version) key ∙ one.same root version key;
    }
