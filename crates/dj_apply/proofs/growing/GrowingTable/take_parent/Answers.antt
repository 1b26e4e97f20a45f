use Rattle.std.proofs.Common.{Option, sym, subst}
use Rattle.std.specs.Option.{option_map}
use Rattle.std.specs.FinMap.{get}
use Rattle.dj_tree.specs.declared.declarations.Spot.{Spot}
use Rattle.dj_tree.specs.Plain.{plain_spot}
use Rattle.dj_calculus.specs.Things.{first_steps}
use Rattle.ifj_table.specs.Tables.{plain_table}
use Rattle.ifj_table.proofs.MemberLemmas.{some_value}
use Rattle.dj_apply.specs.Taking.{Takes}
use Rattle.dj_apply.proofs.Taking.{takes_none}
use Rattle.dj_apply.proofs.growing.GrowingTable.take_parent.Goals as goal

pub returns-in-None : goal.returns-in-None
returns-in-None c =
    let t = plain_table c.args.self.now.table in
    let entry = some_value (get t c.args.class.now) c.requires.there in
    subst (λ (p : Option Spot). Takes t t c.args.class.now (first_steps (option_map (plain_spot c.args.names.now) p))) (sym c.in-None.is) (takes_none t c.args.class.now entry.0 entry.1)
