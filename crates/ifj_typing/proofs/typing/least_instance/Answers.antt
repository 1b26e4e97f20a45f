use Rattle.std.proofs.Common.{subst}
use Rattle.ifj_typing.specs.Declarations.{BreaksDeclarations}
use Rattle.ifj_typing.specs.Least.{IsLeastOf}
use Rattle.ifj_typing.proofs.Layers.{least_third}
use Rattle.ifj_typing.proofs.typing.least_instance.Goals as goal

pub returns-in-Some : goal.returns-in-Some
returns-in-Some c =
    let t = c.args.table.now in
    least_third t c.in-Some.instance (subst (IsLeastOf (BreaksDeclarations t)) c.in-Some.is c.in_ok-declarations.ensures)

pub higher_instance-requires-clause-declared : goal.higher_instance-requires-clause-declared
higher_instance-requires-clause-declared c = subst (IsLeastOf (BreaksDeclarations c.args.table.now)) c.in-None.is c.in_ok-declarations.ensures
