use Rattle.std.proofs.Common.{◌∙◌}
use Rattle.std.proofs.lemmas.Result.{IfOk-weaker}
use Rattle.java_reader.proofs.FaultLemmas.{least_named}
use Rattle.java_reader.proofs.named.repeated_name.Goals as goal

pub returns : goal.returns
returns g c =
    IfOk-weaker c.repeated.result _ _
    (λ o is. least_named c.args.names.now g.D.Declaration.spot_of c.args.declarations.now c.as_slice.result.now o c.names_are_distinct.ensures c.requires (c.as_slice.ensures.value ∙ c.in_ok-spots.ensures) is) c.repeated.ensures
