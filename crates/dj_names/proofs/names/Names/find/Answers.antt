use Rattle.std.proofs.Common.{string_bytes, refl}
use Rattle.dj_names.proofs.DistinctTexts.{texts_distinct, found_text, missing_text, contains_at}
use Rattle.dj_names.proofs.names.Names.find.Goals as goal

pub returns-in_err-index-clause-absent : goal.returns-in_err-index-clause-absent
returns-in_err-index-clause-absent c =
    rw (← c.self.view_is) (λ _. missing_text string_bytes c.args.text.now c.self.inside.texts.keys c.in_err-index.ensures.found, λ _. rw c.from_residual.ensures refl)

pub returns-in_err-index-clause-distinct : goal.returns-in_err-index-clause-distinct
returns-in_err-index-clause-distinct c = rw (← c.self.view_is) (texts_distinct string_bytes c.self.inside.texts.keys c.self.invariant.0)

pub returns-clause-absent : goal.returns-clause-absent
returns-clause-absent c =
    let found = found_text string_bytes c.args.text.now c.self.inside.texts.keys c.in_ok-index.index c.in_ok-index.ensures.index in
    rw (← c.self.view_is) (λ e. cc, λ not_in. absurd (not_in (contains_at _ _ _ found)))

pub returns-clause-found : goal.returns-clause-found
returns-clause-found c = rw (← c.self.view_is) (found_text string_bytes c.args.text.now c.self.inside.texts.keys c.in_ok-index.index c.in_ok-index.ensures.index)

pub returns-clause-distinct : goal.returns-clause-distinct
returns-clause-distinct c = rw (← c.self.view_is) (texts_distinct string_bytes c.self.inside.texts.keys c.self.invariant.0)
