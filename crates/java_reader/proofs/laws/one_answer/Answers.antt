use Rattle.java_reader.proofs.OneAnswer.{one_table, one_refusal, no_refused_table}
use Rattle.java_reader.proofs.laws.one_answer.Goals as goal

pub returns-clause-one_table : goal.returns-clause-one_table
returns-clause-one_table c = one_table c.one_token_list.ensures c.one_reading.ensures.classes

pub returns-clause-one_refusal : goal.returns-clause-one_refusal
returns-clause-one_refusal c = one_refusal c.one_token_list.ensures c.one_reading.ensures.classes c.one_answer.ensures.no_fault_in_tokens c.one_answer.ensures.one_first_fault

pub returns-clause-no_refused_table : goal.returns-clause-no_refused_table
returns-clause-no_refused_table c = no_refused_table c.one_token_list.ensures c.one_reading.ensures.classes c.one_answer.ensures.no_fault_in_tokens c.one_answer.ensures.one_first_fault
