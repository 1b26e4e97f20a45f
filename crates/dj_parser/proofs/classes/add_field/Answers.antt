use Rattle.dj_parser.proofs.Assembling.{one_more_stands}
use Rattle.dj_parser.proofs.classes.add_field.Goals as goal

pub returns-in_ok-push-in-Field-clause-stand : goal.returns-in_ok-push-in-Field-clause-stand
returns-in_ok-push-in-Field-clause-stand c = λ later texts grew xs are.
    rw (c.in-Field.is, c.in_ok-push-in-Field.ensures.items) (one_more_stands are (c.in_ok-field-in-Field.ensures.stands later texts grew))
