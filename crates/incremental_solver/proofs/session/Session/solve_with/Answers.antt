use Rattle.std.proofs.lemmas.Result.{IfOk-weaker}
use Rattle.incremental_solver.specs.Answers.{IsAnswerWith}
use Rattle.incremental_solver.proofs.GrowthLemmas.{answer_known}
use Rattle.incremental_solver.proofs.session.Session.solve_with.Goals as goal

pub returns-clause-answer : goal.returns-clause-answer
returns-clause-answer c =
    let added = c.args.added.now in
    let assumed = c.args.assumptions.now in
    let ready = c.take_over.new.self in
    IfOk-weaker c.inquire.result (IsAnswerWith ready.search.store.clauses assumed) (IsAnswerWith added assumed) (λ answer. answer_known added ready assumed answer c.take_over.ensures.session c.in_ok-take_over.ensures.ready.all) c.inquire.ensures.answer
