use Rattle.std.proofs.Common.{◌≡◌, [], ◌∷◌, ◌++◌, length, refl, sym, ap, ◌∙◌, subst, arith, length-append}
use Rattle.std.specs.Prelude.{Decides}
use Rattle.dj_calculus.specs.TableRules.{IsEndless}
use Rattle.ifj_table.specs.Tables.{plain_table}
use Rattle.ifj_typing.specs.Chains.{class_text, AreTold}
use Rattle.ifj_typing.proofs.Walking.{told_more}
use Rattle.ifj_typing.proofs.chains.endless_chains.Goals as goal

pub starts-preserved : goal.starts-preserved
starts-preserved c =
    let t = c.args.table.now in
    let before = c.starts.endless.items in
    let b = c.go_up-never_ends.result in
    let items : c.push.new.self.items ≡ before ++ b ∷ [] = c.push.ensures.items ∙ rw c.in_ok-push.was refl in
    record {
      count = ap length items ∙ omega (arith, length-append before (b ∷ []), c.starts.invariant.count);
      told = subst (AreTold t) (sym items)
          (told_more t before b c.starts.invariant.told (subst (λ n. Decides b (IsEndless (plain_table t) (class_text t n))) (sym c.starts.invariant.count) c.go_up-never_ends.ensures.endless));
      walked = c.go_up-never_ends.ensures.walked;
      all = c.starts.invariant.all;
    }
