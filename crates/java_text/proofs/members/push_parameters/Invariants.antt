use Rattle.std.proofs.Common.{◌≡◌, ◌++◌, map, take}
use Rattle.dj_tree.specs.Plain.{plain_spot}
use Rattle.dj_calculus.specs.JavaText.{listed, parameter_text}
use Rattle.java_text.proofs.Lines.{paired}
use Rattle.java_text.proofs.members.push_parameters.Given as goal

abbrev pub invariant-parameters : goal.invariant-parameters
invariant-parameters l = l.text.items ≡ l.fn.text.items ++ listed (map parameter_text (take l.at (paired (plain_spot l.names) l.kinds l.own)))
