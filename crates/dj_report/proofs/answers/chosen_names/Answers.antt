use Rattle.std.proofs.Common.{◌++◌, inl, inr, map, sym, ap, ◌∙◌, append-nil}
use Rattle.std.specs.Slice.Iter.{iter_rest}
use Rattle.dj_tree.specs.Plain.{plain_spot}
use Rattle.dj_tree.specs.WellFormed.{IsKnown}
use Rattle.dj_calculus.proofs.Members.{either}
use Rattle.dj_report.specs.Answers.{chosen_names}
use Rattle.dj_report.proofs.Choosing.{rest_of, passed, chosen_too, put_behind, none_left}
use Rattle.dj_report.proofs.answers.chosen_names.Goals as goal

pub loop-feature-preserved-in-Continue-1 : goal.loop-feature-preserved-in-Continue-1
loop-feature-preserved-in-Continue-1 c =
    let names = c.args.source.now.names in
    let more = c.in-Some.ensures.steps in
    let rest = chosen_names (map (plain_spot names) (iter_rest c.next.new.self.a)) (iter_rest c.next.new.self.b) in (
      rest_of (IsKnown names) _ _ _ more.0 c.loop-feature.invariant.0,
      ap (λ front. front ++ rest) (put_behind c.loop-feature.names.items c.push.new.self.items c.text.result c.in_ok-push.ensures.items)
          ∙ chosen_too names _ _ _ _ _ _ _ _ c.text.result.now more.0 more.1 c.if-is_chosen.true c.text.ensures c.loop-feature.invariant.1,
    )

pub loop-feature-preserved : goal.loop-feature-preserved
loop-feature-preserved c =
    let names = c.args.source.now.names in
    let more = c.in-Some.ensures.steps in (
      rest_of (IsKnown names) _ _ _ more.0 c.loop-feature.invariant.0,
      passed names _ _ _ _ _ _ _ _ more.0 more.1 c.if-is_chosen.false c.loop-feature.invariant.1,
    )

pub returns : goal.returns
returns c =
    let names = c.args.source.now.names in
    let so_far = map (λ name. name.now) c.loop-feature.names.items in
    sym
    (append-nil so_far)
    ∙ sym (ap (λ u. so_far ++ u)
    (none_left names (iter_rest c.loop-feature.feature-iterator.a) (iter_rest c.loop-feature.feature-iterator.b)
    (either c.in-None.ensures.steps (λ left. inl left.1.0) (λ right. inr right.1.0))))
    ∙ c.loop-feature.invariant.1
