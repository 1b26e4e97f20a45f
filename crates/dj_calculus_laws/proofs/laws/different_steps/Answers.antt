use Rattle.dj_calculus_laws.proofs.OnceProofs.{classes_apart, fields_once, methods_once, steps_apart}
use Rattle.dj_calculus_laws.proofs.laws.different_steps.Goals as goal

pub returns-clause-classes : goal.returns-clause-classes
returns-clause-classes c = classes_apart

pub returns-clause-steps : goal.returns-clause-steps
returns-clause-steps c = steps_apart

pub returns-clause-members : goal.returns-clause-members
returns-clause-members c = record { fields = fields_once; methods = methods_once }
