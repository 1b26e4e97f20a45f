use Rattle.std.proofs.Common.{◌++◌, ◌∙◌, ap}
use Rattle.dj_calculus.specs.JavaText.{body_text}
use Rattle.ifj_table.specs.Entries.{text_at, plain_signature, plain_body}
use Rattle.java_text.proofs.Lines.{lines_more}
use Rattle.java_text.proofs.members.push_method.Goals as goal

pub loop-body-preserved : goal.loop-body-preserved
loop-body-preserved c =
    let names = c.args.names.now in
    let read = plain_body names c.args.exprs.now in
    let lines = body_text (text_at names c.args.method.now.spot) (plain_signature names c.args.method.now) in
    lines_more lines read c.as_slice-bodies.result.now c.loop-body.body-index c.body-item.result c.args.text.now.items c.loop-body.text.items c.push_body.new.text.items c.loop-body-test.true
    c.loop-body.invariant (c.in_ok-push_body.ensures ∙ ap (λ body. c.loop-body.text.items ++ lines (read body)) c.body-item.is)
