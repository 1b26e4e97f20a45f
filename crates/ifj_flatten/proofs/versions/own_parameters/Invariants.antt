use Rattle.std.proofs.Common.{◌≡◌, take}
use Rattle.ifj_flatten.proofs.Headings.{AreOwn}
use Rattle.ifj_flatten.proofs.versions.own_parameters.Given as goal

abbrev pub invariant-parameters : goal.invariant-parameters
invariant-parameters l =
    AreOwn l.from l.fn.made.names l.made.names (take l.at l.kinds) (take l.at l.spots) l.own.items × (l.made.exprs ≡ l.fn.made.exprs)
