use Rattle.std.proofs.Common.{refl, sym, subst}
use Rattle.std.proofs.lemmas.Result.{IfOk-weaker}
use Rattle.dj_line.specs.Lines.{plain_line}
use Rattle.dj_line.specs.OrderWords.{order_error}
use Rattle.dj_line.specs.declared.errors.OrderError.TheVariants as order
use Rattle.dj_report.specs.WordTexts.{IsOrderRefusal}
use Rattle.dj_run.specs.Answers.{OrderAnswer, in_order, order_refused}
use Rattle.dj_run.specs.Outcomes.{answer_of}
use Rattle.dj_run.proofs.WordAnswers.{order_fault_of, order_sayable}
use Rattle.dj_run.proofs.Refusing.{told_by}
use Rattle.dj_run.proofs.generation.word_outcome.Goals as goal

pub refused_order-requires : goal.refused_order-requires
refused_order-requires c = λ other.
    let source = plain_line c.args.line.now in
    let found = order_fault_of source c.args.chosen.now.chosen.items c.args.word.now c.in-Err.error other c.in-Err.ensures.refused in
    subst (IsOrderRefusal c.args.word.now) (sym found.1) (order_sayable source c.args.chosen.now.chosen.items c.args.word.now found.0 found.2)

pub returns-in-Err : goal.returns-in-Err
returns-in-Err c =
    let source = plain_line c.args.line.now in
    told_by c.refused_order.result c.in-Err.error order.NoMemory order_error _ _ c.refused_order.ensures.text c.refused_order.ensures.memory
    (λ outcome other told.
    let found = order_fault_of source c.args.chosen.now.chosen.items c.args.word.now c.in-Err.error other c.in-Err.ensures.refused in
    subst (OrderAnswer c.args.bytes.now source c.args.chosen.now.chosen.items _) (sym (told found.0 found.1)) (order_refused c.args.word.now found.0 found.2))

pub returns : goal.returns
returns c =
    IfOk-weaker c.variant_outcome.result _ _ (λ outcome is.
    let stands = (c.in-Ok.ensures.given (λ e. cc)).0 refl in
    in_order c.args.word.now stands.0 (answer_of outcome) stands.1 is) c.variant_outcome.ensures
