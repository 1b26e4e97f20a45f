use Rattle.dj_front.proofs.OneAnswer.{one_refusal, no_refused_line}
use Rattle.dj_front.proofs.laws.one_answer.Goals as goal

pub returns-clause-one_refusal : goal.returns-clause-one_refusal
returns-clause-one_refusal c = one_refusal c.one_token_list.ensures c.one_answer.ensures.no_fault_in_tokens c.one_answer.ensures.one_first_fault c.one_reading.ensures.sources c.one_first_fault.ensures

pub returns-clause-no_refused_line : goal.returns-clause-no_refused_line
returns-clause-no_refused_line c = no_refused_line c.one_token_list.ensures c.one_answer.ensures.no_fault_in_tokens c.one_answer.ensures.one_first_fault c.one_reading.ensures.sources c.one_first_fault.ensures
