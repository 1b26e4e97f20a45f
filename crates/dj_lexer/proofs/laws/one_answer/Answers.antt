use Rattle.dj_lexer.proofs.AnswerLemmas.{first_fault_unique, fault_not_in_tokens}
use Rattle.dj_lexer.proofs.TotalLemmas.{tokens_or_fault}
use Rattle.dj_lexer.proofs.laws.one_answer.Goals as goal

pub returns-clause-one_first_fault : goal.returns-clause-one_first_fault
returns-clause-one_first_fault c = first_fault_unique

pub returns-clause-no_fault_in_tokens : goal.returns-clause-no_fault_in_tokens
returns-clause-no_fault_in_tokens c = fault_not_in_tokens

pub returns-clause-tokens_or_fault : goal.returns-clause-tokens_or_fault
returns-clause-tokens_or_fault c = tokens_or_fault
