use Rattle.std.proofs.Common.{◌≡◌, ◌∙◌, List, ap}
use Rattle.persistent_trie.specs.Nodes.{value_at}
use Rattle.persistent_trie.specs.declared.node.Node.{Node}
use Rattle.persistent_trie.proofs.Versions.{said}
use Rattle.persistent_trie.proofs.trie.Trie.get.Goals as goal

pub returns : goal.returns
returns g c =
    c.find.ensures ∙ ap (λ (ns : List (Node g.row.V.Denot)). value_at ns 32 c.args.root.0 c.args.key) (c.as_slice.ensures.value ∙ c.self.view_is)
    ∙ said c.args.self.now c.args.root c.args.key
