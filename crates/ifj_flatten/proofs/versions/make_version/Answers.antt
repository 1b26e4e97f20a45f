use Rattle.std.proofs.Common.{[], rules, arith, ap, ◌∙◌}
use Rattle.std.specs.Prelude.{unwrap_or}
use Rattle.std.proofs.lemmas.Result.{IfOk-weaker}
use Rattle.ifj_flatten.proofs.Headings.{version_of}
use Rattle.ifj_flatten.proofs.versions.make_version.Goals as goal

pub returns-clause-version : goal.returns-clause-version
returns-clause-version c =
    IfOk-weaker c.make_method.result _ _
    (λ own from. version_of c.args.from.now c.args.exprs.now c.args.class.now c.text-text.result.now c.args.method.now c.args.number c.len.result c.as_str.result.now c.as_str-2.result.now _ from
    (omega (arith, c.len.ensures, c.args.method.now.bodies.ok.0)) (c.as_str.ensures.value ∙ c.in_ok-name.ensures) (c.as_str-2.ensures.value ∙ c.in_ok-called.ensures ∙ search rules) (ap (λ o. unwrap_or o []) c.text-text.ensures))
    c.make_method.ensures.made
