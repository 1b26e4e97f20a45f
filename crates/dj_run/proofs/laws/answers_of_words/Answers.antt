use Rattle.dj_run.specs.Commands.{command_of}
use Rattle.dj_run.proofs.OneAnswer.{one_defined, one_status}
use Rattle.dj_run.proofs.Statuses.{status_of}
use Rattle.dj_run.proofs.laws.answers_of_words.Goals as goal

pub returns-clause-one_status : goal.returns-clause-one_status
returns-clause-one_status c = λ words left a b told h k. one_status c.one_each.ensures left a b (command_of words) told h k

pub returns-clause-one_text : goal.returns-clause-one_text
returns-clause-one_text c = λ words left a b fixed told h k. one_defined c.one_each.ensures left a b (command_of words) fixed told h k

pub returns-clause-statuses_are_listed : goal.returns-clause-statuses_are_listed
returns-clause-statuses_are_listed c = λ words left a h. (status_of left a (command_of words) h).listed

pub returns-clause-usage_is_for_no_command : goal.returns-clause-usage_is_for_no_command
returns-clause-usage_is_for_no_command c = λ words left a h. (status_of left a (command_of words) h).usage_exactly
