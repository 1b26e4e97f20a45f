use Rattle.dj_calculus_laws.proofs.RuleProofs.{operation_rules, table_rules, node_rules}
use Rattle.dj_calculus_laws.proofs.laws.ranges_of_rules.Goals as goal

pub returns-clause-operations : goal.returns-clause-operations
returns-clause-operations c = operation_rules

pub returns-clause-tables : goal.returns-clause-tables
returns-clause-tables c = table_rules

pub returns-clause-nodes : goal.returns-clause-nodes
returns-clause-nodes c = node_rules
