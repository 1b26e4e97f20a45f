use Rattle.std.proofs.Common.{map, sym, subst}
use Rattle.arena_walk.proofs.Visitors.{out_at}
use Rattle.dj_tree.specs.Plain.{expr_form, in_form}
use Rattle.dj_tree.specs.Trees.{Expr}
use Rattle.ifj_typing.specs.Said.{Says, IsRight}
use Rattle.ifj_typing.specs.Scopes.{scope_names, scope_table, scope_home}
use Rattle.ifj_typing.proofs.Walked.{in_form_over, outs_in_form}
use Rattle.ifj_typing.proofs.visitor.ScopeVisitExprNode.node.Goals as goal

pub judge-requires-clause-kinds : goal.judge-requires-clause-kinds
judge-requires-clause-kinds c = λ k out here. (out_at _ c.requires.admitted.0 c.args.parts.now k out c.requires.admitted.1 here).2.known

pub returns-clause-ok : goal.returns-clause-ok
returns-clause-ok c = λ kids stand admitted.
    let s = c.args.self.now in
    let form = expr_form (scope_names s) in
    record {
      place = c.place_of.ensures (scope_names s);
      says = subst (λ (e : Expr). Says (scope_table s) (scope_home s) (scope_names s) e c.judge.result) (sym (in_form_over form c.args.node.now kids))
          (c.judge.ensures.says (map (in_form form) kids) (outs_in_form form (IsRight (scope_table s) (scope_home s) (scope_names s)) kids c.args.parts.now stand));
      known = c.judge.ensures.kind;
    }
