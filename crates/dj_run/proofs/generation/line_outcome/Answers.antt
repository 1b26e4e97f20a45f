use Rattle.std.proofs.Common.{sym, subst}
use Rattle.std.proofs.lemmas.Result.{IfOk-weaker}
use Rattle.dj_line.specs.Lines.{plain_line}
use Rattle.dj_line.specs.Words.{config_error}
use Rattle.dj_line.specs.declared.errors.ConfigError.TheVariants as config
use Rattle.dj_report.specs.WordTexts.{IsConfigurationRefusal}
use Rattle.dj_run.specs.Answers.{LineAnswer, configured, configuration_refused}
use Rattle.dj_run.specs.Outcomes.{answer_of, word_of}
use Rattle.dj_run.proofs.WordAnswers.{configuration_fault_of, configuration_sayable}
use Rattle.dj_run.proofs.Refusing.{told_by}
use Rattle.dj_run.proofs.generation.line_outcome.Goals as goal

pub refused_configuration-requires : goal.refused_configuration-requires
refused_configuration-requires c = λ other.
    let source = plain_line c.args.line.now in
    let found = configuration_fault_of source c.args.config.now c.in-Err.error other c.in-Err.ensures.refused in
    subst (IsConfigurationRefusal c.args.config.now) (sym found.1) (configuration_sayable source c.args.config.now found.0 found.2)

pub returns-in-Err : goal.returns-in-Err
returns-in-Err c =
    let source = plain_line c.args.line.now in
    told_by c.refused_configuration.result c.in-Err.error config.NoMemory config_error _ _ c.refused_configuration.ensures.text c.refused_configuration.ensures.memory
    (λ outcome other told.
    let found = configuration_fault_of source c.args.config.now c.in-Err.error other c.in-Err.ensures.refused in
    subst (LineAnswer c.args.config.now (word_of c.args.order) c.args.bytes.now source) (sym (told found.0 found.1)) (configuration_refused found.0 found.2))

pub returns : goal.returns
returns c =
    IfOk-weaker c.order_outcome.result _ _ (λ outcome is. configured c.in-Ok.chosen.chosen.items (answer_of outcome) c.in-Ok.ensures.answer is) c.order_outcome.ensures
