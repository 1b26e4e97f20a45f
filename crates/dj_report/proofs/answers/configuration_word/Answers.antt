use Rattle.std.proofs.Common.{rules, ◌<◌, ap, ◌∙◌, length, codes, string_bytes, Bor, List, ℕ}
use Rattle.std.specs.List.{join_by}
use Rattle.std.proofs.lemmas.Result.{IfOk-weaker}
use Rattle.dj_tree.specs.Plain.{plain_source}
use Rattle.dj_report.specs.Answers.{chosen_names}
use Rattle.dj_report.proofs.Choosing.{word_of_some}
use Rattle.dj_report.proofs.answers.configuration_word.Goals as goal

pub returns : goal.returns
returns c =
    let features = (plain_source c.args.source.now).features in
    let names = c.in_ok-names.names.items in
    let some : 0 < length names = search rules in
    IfOk-weaker c.join.result _ _
    (λ word says. word_of_some names (chosen_names features c.args.config.now.chosen.items) (string_bytes word) some
    (c.in_ok-names.ensures ∙ ap (chosen_names features) c.deref.ensures.value)
    (says ∙ ap (join_by (λ (x : Bor (List ℕ)). x.now) (codes ",")) c.deref-2.ensures.value))
    c.join.ensures.ok
