use Rattle.std.proofs.Common.{◌≡◌, List, [], ◌∷◌, ◌++◌, None, map, length, ap, sym, ◌∙◌, subst, arith}
use Rattle.std.specs.List.{flat_map}
use Rattle.std.proofs.lemmas.List.{length-map}
use Rattle.std.proofs.lemmas.Grind.{flat_map-append}
use Rattle.dj_tree.specs.Trees as plain
use Rattle.dj_tree.specs.Plain.{plain_delta, plain_operation, plain_source}
use Rattle.dj_calculus.specs.Things.{touched_by}
use Rattle.dj_line.specs.Lines.{plain_line}
use Rattle.dj_line.specs.Orders.{is_active}
use Rattle.dj_apply.specs.ActiveOperations.{active_operations}
use Rattle.dj_apply.specs.Kept.{Keeps}
use Rattle.dj_apply.specs.Least.{IsLeastBy}
use Rattle.dj_apply.specs.Overlaps.{IsNoLater, OperationsClash}
use Rattle.dj_apply.proofs.ConflictLemmas.{none_clash, clash_by_things}
use Rattle.dj_apply.proofs.PartLemmas.{active_operations_are, none_active, inactive_delta}
use Rattle.dj_apply.proofs.conflict_search.compare_and_keep.Goals as goal

pub operations_of-others-requires-clause-well_formed : goal.operations_of-others-requires-clause-well_formed
operations_of-others-requires-clause-well_formed c = c.requires.source.formed

pub operations_of-others-requires-clause-there : goal.operations_of-others-requires-clause-there
operations_of-others-requires-clause-there c =
    let s = c.args.source.now in
    let same : length (plain_source s).deltas ≡ length (plain_line c.args.line.now).deltas = ap (λ (x : plain.Source). length x.deltas) c.requires.source.is in
    omega (arith, length-map s.deltas (plain_delta s.names s.exprs), same, c.requires.below)

pub returns-in_ok-keep_operations-clause-kept : goal.returns-in_ok-keep_operations-clause-kept
returns-in_ok-keep_operations-clause-kept c = λ before keeps.
    let s = c.args.source.now in
    let line = plain_line c.args.line.now in
    let chosen = c.args.config.now.chosen.items in
    let same = active_operations_are s line chosen c.args.delta c.operations_of-others.result.now c.requires.source.is c.requires.below c.operations_of-others.ensures.operations (sym c.in_ok-is_active.ensures ∙ c.if-branch.true) in
    subst (Keeps s.names c.keep_operations.new.places)
    (ap (λ (ys : List plain.Operation). flat_map touched_by before ++ flat_map touched_by ys) same ∙ sym (flat_map-append touched_by before (active_operations line chosen (c.args.delta ∷ []))))
    (c.in_ok-keep_operations.ensures (flat_map touched_by before) keeps)

pub returns-in_ok-keep_operations-clause-least : goal.returns-in_ok-keep_operations-clause-least
returns-in_ok-keep_operations-clause-least c = λ before keeps.
    let s = c.args.source.now in
    let line = plain_line c.args.line.now in
    let chosen = c.args.config.now.chosen.items in
    let same = active_operations_are s line chosen c.args.delta c.operations_of-others.result.now c.requires.source.is c.requires.below c.operations_of-others.ensures.operations (sym c.in_ok-is_active.ensures ∙ c.if-branch.true) in
    subst (λ (ys : List plain.Operation). IsLeastBy IsNoLater (OperationsClash before ys) c.conflict_of_operations-here.result) same
    (clash_by_things before (map (plain_operation s.names s.exprs) c.operations_of-others.result.now) c.conflict_of_operations-here.result (c.conflict_of_operations-here.ensures (flat_map touched_by before) keeps))

pub returns-else-branch-clause-kept : goal.returns-else-branch-clause-kept
returns-else-branch-clause-kept c = λ before keeps.
    let line = plain_line c.args.line.now in
    let chosen = c.args.config.now.chosen.items in
    subst (λ (xs : List plain.Operation). Keeps c.args.source.now.names c.args.places.now (flat_map touched_by xs)) (inactive_delta line chosen c.args.delta before (sym c.in_ok-is_active.ensures ∙ c.if-branch.false)) keeps

pub returns-else-branch-clause-least : goal.returns-else-branch-clause-least
returns-else-branch-clause-least c = λ before keeps.
    let line = plain_line c.args.line.now in
    let chosen = c.args.config.now.chosen.items in
    let nothing = none_active line (is_active line chosen c.args.delta) c.args.delta (sym c.in_ok-is_active.ensures ∙ c.if-branch.false) in
    subst (λ (ys : List plain.Operation). IsLeastBy IsNoLater (OperationsClash before ys) None) (sym nothing) (none_clash before)
