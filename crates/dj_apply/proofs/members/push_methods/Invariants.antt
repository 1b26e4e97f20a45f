use Rattle.std.proofs.Common.{take}
use Rattle.dj_tree.specs.declared.declarations.Method.{Method}
use Rattle.dj_tree.specs.Trees.{adds_method}
use Rattle.dj_tree.specs.Plain.{plain_method}
use Rattle.dj_apply.proofs.MemberLists.{Pushed}
use Rattle.dj_apply.proofs.members.push_methods.Given as goal

abbrev pub invariant-loop-method : goal.invariant-loop-method
invariant-loop-method l = Pushed l.source.names l.source.exprs (λ (m : Method). adds_method (plain_method l.source.names l.source.exprs m)) l.fn.members.items (take l.method-index l.methods) l.members.items
