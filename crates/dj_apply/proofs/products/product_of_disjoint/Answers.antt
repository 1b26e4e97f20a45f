use Rattle.std.proofs.Common.{◌≡◌, ℕ, length, Option, sym, ap, subst}
use Rattle.std.specs.Prelude.{MatchOption}
use Rattle.dj_tree.specs.Trees.{Source}
use Rattle.dj_tree.specs.declared.source.Instance.{Instance}
use Rattle.dj_calculus.specs.Configurations.{Configuration}
use Rattle.dj_calculus.specs.Instances.{IsLeast}
use Rattle.dj_calculus.specs.Parts.{chain}
use Rattle.dj_calculus.specs.Products.{Product}
use Rattle.dj_calculus.specs.Tables.{Table}
use Rattle.dj_line.specs.Lines.{plain_line}
use Rattle.dj_product_laws.specs.LineConflicts.{PreventsProduct}
use Rattle.dj_product_laws.specs.OnePass.{Passed, StopsAt}
use Rattle.dj_product_laws.proofs.ForApply.{with_one_place}
use Rattle.dj_product_laws.proofs.PassProofs.{passed_is_product, passed_is_clean, stopped_counts}
use Rattle.ifj_table.specs.Tables.{plain_table}
use Rattle.dj_apply.proofs.products.product_of_disjoint.Goals as goal

-- what the pass tells
abbrev pub Told : Source → Configuration → Table → Option Instance → Type 0
Told line chosen t o = MatchOption o (Passed line chosen (length (chain line)) t) (λ i. (k : ℕ) × StopsAt line chosen k i.rule i.at × (i.second ≡ i.at))

pub returns-in-Some-clause-broken : goal.returns-in-Some-clause-broken
returns-in-Some-clause-broken c =
    let line = plain_line c.args.line.now in
    let chosen = c.args.config.now.chosen.items in
    let stopped = subst (Told line chosen (plain_table c.pass.new.table.table)) c.in-Some.is c.in_ok-broken.ensures in
    subst (IsLeast (PreventsProduct line chosen)) (with_one_place c.in-Some.broken stopped.2) (stopped_counts line chosen stopped.0 c.in-Some.broken.rule c.in-Some.broken.at c.args.line.now.accepted c.requires.disjoint stopped.1)

pub returns-in-None-clause-product : goal.returns-in-None-clause-product
returns-in-None-clause-product c =
    let line = plain_line c.args.line.now in
    let chosen = c.args.config.now.chosen.items in
    subst (λ (t : Table). Product line chosen t) (ap plain_table (sym c.into_table.ensures))
    (passed_is_product line chosen (plain_table c.pass.new.table.table) c.args.line.now.accepted c.requires.disjoint (subst (Told line chosen (plain_table c.pass.new.table.table)) c.in-None.is c.in_ok-broken.ensures))

pub returns-in-None-clause-clean : goal.returns-in-None-clause-clean
returns-in-None-clause-clean c =
    let line = plain_line c.args.line.now in
    let chosen = c.args.config.now.chosen.items in
    passed_is_clean line chosen (plain_table c.pass.new.table.table) c.args.line.now.accepted c.requires.disjoint (subst (Told line chosen (plain_table c.pass.new.table.table)) c.in-None.is c.in_ok-broken.ensures)
