use Rattle.dj_product_laws.proofs.FaultProofs.{faults_are_rules, faultless_is_applied}
use Rattle.dj_product_laws.proofs.laws.faults_are_rules.Goals as goal

pub returns-clause-rules : goal.returns-clause-rules
returns-clause-rules c = faults_are_rules

pub returns-clause-applied : goal.returns-clause-applied
returns-clause-applied c = faultless_is_applied
