use Rattle.std.proofs.Common.{arith}
use Rattle.std.proofs.lemmas.Option.{slice_get_within}
use Rattle.dj_tree.proofs.Growing.{keeps_reflexive, expr_nodes_later}
use Rattle.ifj_table.proofs.EntryGrowth.{same_classes, classes_later}
use Rattle.ifj_table.proofs.table.Table.spot.Goals as goal

pub invariant_of-self : goal.invariant_of-self
invariant_of-self c =
    let self = c.args.self.now in
    record {
      held = classes_later self.names c.add.new.self self.exprs self.exprs c.add.ensures.numbers (keeps_reflexive self.exprs) self.held.nodes self.classes.items
          (expr_nodes_later self.names c.add.new.self self.exprs c.add.ensures.numbers self.held.nodes) self.held;
    }

pub returns-clause-known : goal.returns-clause-known
returns-clause-known c = slice_get_within c.add.new.self c.in_ok-name.name.0 c.args.text.now c.in_ok-name.ensures.name

pub returns-clause-table : goal.returns-clause-table
returns-clause-table c =
    let self = c.args.self.now in
    same_classes self.names c.add.new.self self.exprs self.exprs c.add.ensures.numbers (keeps_reflexive self.exprs) self.held.nodes self.classes.items self.held.each
