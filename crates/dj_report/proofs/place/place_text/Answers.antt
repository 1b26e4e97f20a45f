use Rattle.std.proofs.Common.{string_bytes}
use Rattle.std.proofs.lemmas.Result.{IfOk-weaker}
use Rattle.dj_report.proofs.Texts.{place_of_parts}
use Rattle.dj_report.proofs.place.place_text.Goals as goal

pub returns : goal.returns
returns c =
    let place = c.place_of-place in
    IfOk-weaker c.line_and_column.result _ _
    (λ text says. place_of_parts c.args.bytes.now c.args.at place.result.line place.result.column (string_bytes text) place.ensures.line place.ensures.column says)
    c.line_and_column.ensures
