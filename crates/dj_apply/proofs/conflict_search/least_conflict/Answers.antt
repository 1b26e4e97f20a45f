use Rattle.std.proofs.Common.{◌≡◌, ◌-◌, ◌≤◌, length, slice_get, ap, ◌∙◌, arith}
use Rattle.dj_calculus.specs.Parts.{chain}
use Rattle.dj_line.specs.Lines.{plain_line}
use Rattle.dj_apply.specs.Overlaps.{IsNoLater, PartClash}
use Rattle.dj_apply.proofs.LeastLemmas.{among_none, among_next, among_all}
use Rattle.dj_apply.proofs.OverlapLemmas.{no_later_joins}
use Rattle.dj_apply.proofs.ConflictLemmas.{least_in}
use Rattle.dj_apply.proofs.conflict_search.least_conflict.Goals as goal

pub loop-number-init : goal.loop-number-init
loop-number-init c = among_none IsNoLater (PartClash (plain_line c.args.line.now) c.args.config.now.chosen.items)

pub loop-number-preserved : goal.loop-number-preserved
loop-number-preserved c =
    let line = plain_line c.args.line.now in
    let chosen = c.args.config.now.chosen.items in
    let found = c.in_ok-here.ensures in
    let same : c.loop-number.number ≡ c.in_ok-part.part - 1 = omega (arith, c.in_ok-part.ensures) in
    among_next IsNoLater no_later_joins (PartClash line chosen) (chain line) c.loop-number.number found.0 c.loop-number.least c.in_ok-here.here c.earlier-least.result (ap (slice_get (chain line)) same ∙ found.1) c.loop-number.invariant found.2 c.earlier-least.ensures

pub returns : goal.returns
returns c =
    let line = plain_line c.args.line.now in
    let chosen = c.args.config.now.chosen.items in
    let at_end : length (chain line) ≤ c.loop-number.number = omega (arith, c.chain_length-count.ensures.chain, c.loop-number-test.false) in
    least_in line chosen c.loop-number.least (among_all IsNoLater (PartClash line chosen) (chain line) c.loop-number.number c.loop-number.least at_end c.loop-number.invariant)
