use Rattle.std.proofs.Common.{rules}
use Rattle.std.proofs.lemmas.List.{append_assoc}
use Rattle.std.proofs.lemmas.Result.{IfOk-equal}
use Rattle.java_text.proofs.members.push_body.Goals as goal

pub returns : goal.returns
returns c = rw (← c.as_slice.ensures) (search (rules, IfOk-equal, append_assoc))
