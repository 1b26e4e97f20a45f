use Rattle.std.proofs.Common.{Option}
use Rattle.std.specs.Prelude.{IfOk}
use Rattle.std.specs.declared.result.Result.{Result}
use Rattle.std.specs.declared.result.Result.TheVariants.{Ok, Err}
use Rattle.dj_tree.specs.declared.source.Instance.{Instance}
use Rattle.ifj_typing.proofs.Layers.{least_fourth, by_bodies}
use Rattle.ifj_typing.proofs.typing.higher_instance.Goals as goal

pub returns-in-Some : goal.returns-in-Some
returns-in-Some c = least_fourth c.args.table.now c.requires.declared c.in-Some.instance c.in-Some.ensures

so : {E : Type 0} (P Q : Option Instance → Type 0) (r : Result (Option Instance) E) → IfOk r P → ((o : Option Instance) → P o → Q o) → IfOk r Q
so P Q (Ok o) p f = f o p
so P Q (Err e) p f = p

pub returns-in-None : goal.returns-in-None
returns-in-None c = so _ _ c.bodies_fault.result c.bodies_fault.ensures (by_bodies c.args.table.now c.requires.declared c.in-None.ensures)
