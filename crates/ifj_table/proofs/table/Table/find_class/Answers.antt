use Rattle.std.proofs.Common.{◌≡◌, map, slice_get, Some, sym, subst}
use Rattle.std.specs.Prelude.{MatchResult}
use Rattle.ifj_table.specs.Sorted.{AreRising, IsGap}
use Rattle.ifj_table.proofs.TableLemmas.{class_key}
use Rattle.ifj_table.proofs.table.Table.find_class.Goals as goal

pub search-requires-clause-rising : goal.search-requires-clause-rising
search-requires-clause-rising c = subst (λ es. AreRising (map (class_key c.args.self.now.names) es)) (sym c.deref.ensures.value) c.args.self.now.held.rising

pub returns : goal.returns
returns c =
    let t = c.args.self.now in
    subst (λ es. MatchResult c.search.result (λ at. slice_get (map (class_key t.names) es) at ≡ Some c.args.class.now) (IsGap (map (class_key t.names) es) c.args.class.now)) c.deref.ensures.value c.search.ensures
