use Rattle.std.proofs.Common.{◌++◌, ◌∙◌, ap}
use Rattle.dj_calculus.specs.JavaText.{method_text}
use Rattle.ifj_table.specs.Entries.{text_at, plain_method}
use Rattle.java_text.proofs.Lines.{lines_more}
use Rattle.java_text.proofs.members.push_methods.Goals as goal

pub loop-method-preserved : goal.loop-method-preserved
loop-method-preserved c =
    let names = c.args.names.now in
    let exprs = c.args.exprs.now in
    lines_more method_text (λ m. (text_at names m.spot, plain_method names exprs m)) c.args.methods.now c.loop-method.method-index c.method-item.result c.args.text.now.items c.loop-method.text.items c.push_method.new.text.items c.loop-method-test.true
    c.loop-method.invariant (c.in_ok-push_method.ensures ∙ ap (λ m. c.loop-method.text.items ++ method_text (text_at names m.spot, plain_method names exprs m)) c.method-item.is)
