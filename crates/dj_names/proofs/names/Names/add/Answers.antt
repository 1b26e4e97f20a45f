use Rattle.std.proofs.Common.{string_bytes}
use Rattle.dj_names.proofs.DistinctTexts.{texts_distinct, found_text, with_text-found, with_text-inserted, stored_text, Extends-with_text}
use Rattle.dj_names.proofs.names.Names.add.Goals as goal

pub returns-in-Some-clause-ok : goal.returns-in-Some-clause-ok
returns-in-Some-clause-ok c = rw (← c.self.view_is) (with_text-found string_bytes c.args.text.now c.self.inside.texts.keys c.in-Some.ensures.found)

pub returns-in-Some-clause-name : goal.returns-in-Some-clause-name
returns-in-Some-clause-name c = rw (← c.self.view_is) (found_text string_bytes c.args.text.now c.self.inside.texts.keys c.in-Some.index c.in-Some.ensures.index)

pub returns-in-Some-clause-distinct : goal.returns-in-Some-clause-distinct
returns-in-Some-clause-distinct c = rw (← c.self.view_is) (texts_distinct string_bytes c.self.inside.texts.keys c.self.invariant.0)

pub returns-in_err-text-clause-distinct : goal.returns-in_err-text-clause-distinct
returns-in_err-text-clause-distinct c = rw (← c.self.view_is) (texts_distinct string_bytes c.self.inside.texts.keys c.self.invariant.0)

pub returns-in_err-index-clause-distinct : goal.returns-in_err-index-clause-distinct
returns-in_err-index-clause-distinct c = texts_distinct string_bytes c.insert_full.new.self.keys c.in_err-index.ensures.unique

pub returns-clause-ok : goal.returns-clause-ok
returns-clause-ok c = rw (← c.self.view_is) (with_text-inserted string_bytes c.args.text.now c.self.inside.texts.keys c.insert_full.new.self.keys c.in_ok-text.text c.in_ok-index.ensures.keys c.in_ok-text.ensures.ok)

pub returns-clause-name : goal.returns-clause-name
returns-clause-name c =
    let stored = c.in_ok-index.ensures.stored in
    stored_text string_bytes c.args.text.now c.insert_full.new.self.keys c.in_ok-index.index c.in_ok-text.text stored.0 stored.1 stored.2 c.in_ok-text.ensures.ok

pub returns-clause-distinct : goal.returns-clause-distinct
returns-clause-distinct c = texts_distinct string_bytes c.insert_full.new.self.keys c.in_ok-index.ensures.unique

pub returns-clause-numbers : goal.returns-clause-numbers
returns-clause-numbers c = rw (returns-clause-ok c) (Extends-with_text c.args.self.now c.args.text.now)
