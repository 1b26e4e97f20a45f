use Rattle.std.proofs.Common.{◌≡◌, ◌<◌, List, None, length, subst}
use Rattle.persistent_trie.specs.Versions.{says}
use Rattle.persistent_trie.specs.declared.node.Node.{Node}
use Rattle.persistent_trie.proofs.Versions.{says_nothing}
use Rattle.persistent_trie.proofs.trie.Trie.empty.Goals as goal

pub returns-clause-version : goal.returns-clause-version
returns-clause-version g c = subst (λ (ns : List (Node g.row.V.Denot)). 0 < length ns) c.self.view_is c.self.invariant.1.0

pub returns-clause-says : goal.returns-clause-says
returns-clause-says g c = λ key.
    subst (λ (ns : List (Node g.row.V.Denot)). says ns record { 0 = 0 } key ≡ None) c.self.view_is (says_nothing c.self.inside.nodes.items c.self.invariant.1 key)
