use Rattle.std.proofs.Common.{rules, is_some, sym, ap, ◌∙◌}
use Rattle.ifj_lineages.proofs.lineages.Lineages.clashes.Goals as goal

pub returns-in-Some : goal.returns-in-Some
returns-in-Some c =
    let told = c.in-Some.ensures.clashes c.args.method.0 c.requires.method (search rules) in
    let is = c.is_some.ensures ∙ ap is_some c.get.ensures in
    (λ e. told.0 (sym is ∙ e), λ clashes. is ∙ told.1 clashes)
