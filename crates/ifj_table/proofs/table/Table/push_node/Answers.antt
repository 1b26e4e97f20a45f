use Rattle.std.proofs.Common.{◌≡◌, ◌∷◌, ◌++◌, [], sym, ap, ◌∙◌, subst}
use Rattle.std.proofs.lemmas.List.Elements.{All-push}
use Rattle.std.specs.Prelude.{All}
use Rattle.dj_names.proofs.Extending.{extends_reflexive}
use Rattle.dj_tree.specs.WellFormed.{IsExprNode}
use Rattle.dj_tree.specs.PostOrder.{KeepsNodes}
use Rattle.dj_tree.proofs.Growing.{keeps_reflexive}
use Rattle.ifj_table.specs.Held.{AreClasses}
use Rattle.ifj_table.proofs.EntryGrowth.{same_classes, classes_later}
use Rattle.ifj_table.proofs.MemberLemmas.{either_way}
use Rattle.ifj_table.proofs.table.Table.push_node.Goals as goal

pub invariant_of-self : goal.invariant_of-self
invariant_of-self c =
    let t = c.args.self.now in
    record {
      held = either_way c.push.result c.push.ensures.nodes c.push.ensures.err
          (λ more. classes_later t.names t.names t.exprs c.push.new.self (extends_reflexive t.names) (c.args.node ∷ [], more) t.held.nodes t.classes.items
          (subst (All (IsExprNode t.names)) (sym more) (All-push (IsExprNode t.names) t.exprs c.args.node t.held.nodes c.requires.known)) t.held)
          (λ same. subst (λ ns. AreClasses t.names ns t.classes.items) (sym same) t.held);
    }

pub returns-clause-table : goal.returns-clause-table
returns-clause-table c =
    let t = c.args.self.now in
    either_way c.push.result c.push.ensures.nodes c.push.ensures.err
    (λ more. same_classes t.names t.names t.exprs c.push.new.self (extends_reflexive t.names) (c.args.node ∷ [], more) t.held.nodes t.classes.items t.held.each)
    (λ same. same_classes t.names t.names t.exprs c.push.new.self (extends_reflexive t.names) (subst (KeepsNodes t.exprs) (sym same) (keeps_reflexive t.exprs)) t.held.nodes t.classes.items t.held.each)
