use Rattle.std.proofs.Common.{◌+◌, ap, ◌∙◌}
use Rattle.java_reader.proofs.Sizes.{size_is}
use Rattle.java_reader.proofs.growing.body_size.Goals as goal

pub returns-clause-size : goal.returns-clause-size
returns-clause-size c =
    let first = c.first-first.ensures.tree in
    ap (λ n. n + 1) c.from.ensures ∙ size_is c.args.source.now.names c.args.source.now.exprs c.args.body.0 first.0 first.1 c.first-first.result.0 first.2 first.3
