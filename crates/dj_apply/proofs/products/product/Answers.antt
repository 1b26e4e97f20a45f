use Rattle.std.proofs.Common.{Option, sym, subst}
use Rattle.dj_tree.specs.Trees.{Source}
use Rattle.dj_calculus.specs.Configurations.{Configuration}
use Rattle.dj_calculus.specs.Instances.{IsLeast}
use Rattle.dj_line.specs.Lines.{plain_line}
use Rattle.dj_product_laws.specs.LineConflicts.{ConflictIn, PreventsProduct}
use Rattle.dj_product_laws.proofs.ConflictProofs.{least_conflict_prevents}
use Rattle.dj_apply.specs.Least.{IsLeastBy}
use Rattle.dj_apply.specs.Overlaps.{IsNoLater}
use Rattle.dj_apply.specs.declared.overlaps.Thing.{Thing}
use Rattle.dj_apply.proofs.ConflictLemmas.{none_in, least_pair}
use Rattle.dj_apply.proofs.products.product.Goals as goal

-- this is the least conflict, where there is one
abbrev pub Told : Source → Configuration → Option Thing → Type 0
Told line chosen o = IsLeastBy IsNoLater (λ (x : Thing). ConflictIn line chosen x.first x.second) o

pub product_of_disjoint-requires-clause-disjoint : goal.product_of_disjoint-requires-clause-disjoint
product_of_disjoint-requires-clause-disjoint c =
    let line = plain_line c.args.line.now in
    let chosen = c.args.config.now.chosen.items in
    none_in line chosen (subst (Told line chosen) c.in-None.is c.in_ok-conflict.ensures)

pub returns-in-Some-clause-broken : goal.returns-in-Some-clause-broken
returns-in-Some-clause-broken c =
    let line = plain_line c.args.line.now in
    let chosen = c.args.config.now.chosen.items in
    let found = c.in-Some.conflict in
    subst (IsLeast (PreventsProduct line chosen)) (sym c.conflicting.ensures)
    (least_conflict_prevents line chosen found.first found.second (least_pair line chosen found (subst (Told line chosen) c.in-Some.is c.in_ok-conflict.ensures)))
