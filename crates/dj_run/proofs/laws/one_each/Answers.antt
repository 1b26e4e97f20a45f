use Rattle.dj_run.proofs.laws.one_each.Goals as goal

pub returns : goal.returns
returns c = record {
  line = c.one_answer.ensures.one_line;
  refusal = c.one_answer.ensures.one_refusal;
  not_refused = c.one_answer.ensures.no_refused_line;
  refusal_text = c.one_refusal_text.ensures;
  no_text = c.one_no_text.ensures;
  generated = c.one_text.ensures;
  least = c.one_least.ensures.in_a_line;
  breaks_nothing = c.good_breaks_nothing.ensures;
  java = c.java_answers.ensures;
}
