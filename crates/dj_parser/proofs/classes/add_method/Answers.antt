use Rattle.dj_parser.proofs.Assembling.{one_more_stands}
use Rattle.dj_parser.proofs.classes.add_method.Goals as goal

pub returns-in_ok-push-in-Method-clause-stand : goal.returns-in_ok-push-in-Method-clause-stand
returns-in_ok-push-in-Method-clause-stand c = λ later texts grew xs are.
    rw (c.in-Method.is, c.in_ok-push-in-Method.ensures.items) (one_more_stands are (c.in_ok-method-in-Method.ensures.stands later texts grew))
