use Rattle.std.proofs.Common.{◌≡◌, ℕ, ◌-◌, ◌<◌, ◌≤◌, length, map, slice_get, Some}
use Rattle.std.specs.declared.cmp.Ordering.TheVariants.{Less}
use Rattle.dj_names.specs.Texts.{Text}
use Rattle.dj_calculus.specs.Maps.{text_cmp}
use Rattle.ifj_table.specs.Entries.{text_at}
use Rattle.ifj_table.proofs.Searching.{IsBetween}
use Rattle.ifj_table.proofs.keyed.search.Given as goal

abbrev pub invariant-halves : goal.invariant-halves
invariant-halves g l = IsBetween (map (λ e. text_at l.names (g.E.Keyed.key_of e)) l.entries) l.text l.low l.high

abbrev pub decreases-halves : goal.decreases-halves
decreases-halves g l = l.high - l.low
