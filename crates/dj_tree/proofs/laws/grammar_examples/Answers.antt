use Rattle.dj_tree.proofs.ExampleLemmas as lemmas
use Rattle.dj_tree.proofs.laws.grammar_examples.Goals as goal

pub returns-clause-a_cast : goal.returns-clause-a_cast
returns-clause-a_cast c = lemmas.a_cast

pub returns-clause-assignments : goal.returns-clause-assignments
returns-clause-assignments c = lemmas.assignments

pub returns-clause-fields : goal.returns-clause-fields
returns-clause-fields c = lemmas.fields

pub returns-clause-operators : goal.returns-clause-operators
returns-clause-operators c = lemmas.operators

pub returns-clause-negations : goal.returns-clause-negations
returns-clause-negations c = lemmas.negations

pub returns-clause-a_line : goal.returns-clause-a_line
returns-clause-a_line c = lemmas.a_line

pub returns-clause-no_line : goal.returns-clause-no_line
returns-clause-no_line c = lemmas.no_line

pub returns-clause-no_cast : goal.returns-clause-no_cast
returns-clause-no_cast c = lemmas.no_cast
