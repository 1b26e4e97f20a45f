use Rattle.std.proofs.Common.{◌++◌, ap, ◌∙◌, map, arith}
use Rattle.std.proofs.lemmas.List.{take_all}
use Rattle.dj_tree.specs.Plain.{plain_spot}
use Rattle.dj_calculus.specs.JavaText.{listed, parameter_text}
use Rattle.java_text.proofs.Lines.{paired, as_many, pairs_more}
use Rattle.java_text.proofs.members.push_parameters.Goals as goal

pub parameters-preserved : goal.parameters-preserved
parameters-preserved c =
    pairs_more (plain_spot c.args.names.now) parameter_text c.args.kinds.now c.args.own.now c.parameters.at _ _ c.args.text.now.items c.parameters.text.items _ _
    c.requires.same c.parameters-test.true c.parameters.invariant c.in_ok-push_comma.ensures c.in_ok-push_parameter.ensures

pub returns : goal.returns
returns c =
    let read = plain_spot c.args.names.now in
    let many = as_many read c.args.kinds.now c.args.own.now c.requires.same in
    c.parameters.invariant ∙ ap (λ ps. c.args.text.now.items ++ listed (map parameter_text ps)) (take_all c.parameters.at (paired read c.args.kinds.now c.args.own.now) (omega (arith, many, c.parameters-test.false)))
