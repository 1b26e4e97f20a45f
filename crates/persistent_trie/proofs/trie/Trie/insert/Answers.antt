use Rattle.std.proofs.Common.{◌≡◌, ◌==◌, ◌<◌, ◌^◌, ◌++◌, ℕ, List, Some, length, refl, sym, ap, ◌∙◌, subst, arith}
use Rattle.std.specs.Bool.{if◌then◌else◌}
use Rattle.persistent_trie.specs.Nodes.{path_of}
use Rattle.persistent_trie.specs.Versions.{says, IsVersion, Keeps}
use Rattle.persistent_trie.specs.declared.node.Node.{Node}
use Rattle.persistent_trie.proofs.Versions.{put_linked, put_version, put_says, put_keeps}
use Rattle.persistent_trie.proofs.trie.Trie.insert.Goals as goal

pub invariant_of-self-2 : goal.invariant_of-self-2
invariant_of-self-2 g c =
    let old = c.self.inside.nodes.items in
    let version : IsVersion old c.args.root = subst (λ (ns : List (Node g.row.V.Denot)). c.args.root.0 < length ns) (sym c.self.view_is) c.requires in
    put_linked old c.put.new.nodes.items c.args.root c.args.key c.args.value c.self.invariant.0 version
    (c.put.ensures ∙ ap (λ (ns : List (Node g.row.V.Denot)). ns ++ path_of ns 32 c.args.root.0 c.args.key (length ns) c.args.value) c.in_ok-reserve.ensures.items) c.self.invariant.1

pub returns-clause-version : goal.returns-clause-version
returns-clause-version g c =
    let old = c.self.inside.nodes.items in
    let version : IsVersion old c.args.root = subst (λ (ns : List (Node g.row.V.Denot)). c.args.root.0 < length ns) (sym c.self.view_is) c.requires in
    let more = put_version old c.put.new.nodes.items c.args.root c.args.key c.args.value c.self.invariant.0 version
    (c.put.ensures ∙ ap (λ (ns : List (Node g.row.V.Denot)). ns ++ path_of ns 32 c.args.root.0 c.args.key (length ns) c.args.value) c.in_ok-reserve.ensures.items) in
    omega (arith, more, c.len-new.ensures, c.self.inside.nodes.ok.0)

pub returns-clause-says : goal.returns-clause-says
returns-clause-says g c =
    let old = c.self.inside.nodes.items in
    let version : IsVersion old c.args.root = subst (λ (ns : List (Node g.row.V.Denot)). c.args.root.0 < length ns) (sym c.self.view_is) c.requires in
    let is : c.put.new.nodes.items ≡ old ++ path_of old 32 c.args.root.0 c.args.key (length old) c.args.value =
    c.put.ensures ∙ ap (λ (ns : List (Node g.row.V.Denot)). ns ++ path_of ns 32 c.args.root.0 c.args.key (length ns) c.args.value) c.in_ok-reserve.ensures.items in
    let new : c.len-new.result ≡ length old = omega (arith, c.len-new.ensures, c.self.inside.nodes.ok.0) in
    subst (λ (ns : List (Node g.row.V.Denot)). (k : ℕ) → k < 2 ^ 32 → says c.put.new.nodes.items record { 0 = c.len-new.result } k ≡ (if k == c.args.key then Some c.args.value else says ns c.args.root k)) c.self.view_is
    (subst (λ n. (k : ℕ) → k < 2 ^ 32 → says c.put.new.nodes.items record { 0 = n } k ≡ (if k == c.args.key then Some c.args.value else says old c.args.root k)) (sym new)
    (put_says old c.put.new.nodes.items c.args.root c.args.key c.args.value c.self.invariant.0 version is c.ranges.key.fits))

pub returns-clause-kept : goal.returns-clause-kept
returns-clause-kept g c =
    let old = c.self.inside.nodes.items in
    let version : IsVersion old c.args.root = subst (λ (ns : List (Node g.row.V.Denot)). c.args.root.0 < length ns) (sym c.self.view_is) c.requires in
    let is : c.put.new.nodes.items ≡ old ++ path_of old 32 c.args.root.0 c.args.key (length old) c.args.value =
    c.put.ensures ∙ ap (λ (ns : List (Node g.row.V.Denot)). ns ++ path_of ns 32 c.args.root.0 c.args.key (length ns) c.args.value) c.in_ok-reserve.ensures.items in
    subst (λ (ns : List (Node g.row.V.Denot)). Keeps ns c.put.new.nodes.items) c.self.view_is
    (put_keeps old c.put.new.nodes.items c.args.root c.args.key c.args.value c.self.invariant.0 version is)
