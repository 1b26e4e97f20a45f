use Rattle.dj_run.proofs.laws.java_answers.Goals as goal

pub returns : goal.returns
returns c = record {
  one_table = c.one_answer.ensures.one_table;
  one_refusal = c.one_answer.ensures.one_refusal;
  not_refused = c.one_answer.ensures.no_refused_table;
  refusal_text = c.one_refusal_text.ensures;
  rule_text = c.one_rule_text.ensures;
  least = c.one_least.ensures.in_a_table;
  are_tables = c.tables_are_tables.ensures.java;
  breaks_nothing = c.well_typed_breaks_nothing.ensures;
}
