use Rattle.std.proofs.Common.{◌≤◌, refl, subst}
use Rattle.dj_lexer.specs.Symbols.{symbols_of, greatest_depth}
use Rattle.dj_lexer.specs.declared.token.TheConstants.{MAX_DEPTH}
use Rattle.dj_lexer.specs.declared.token.Dialect.TheVariants.{Java}
use Rattle.dj_calculus.specs.FlatTables.{flat}
use Rattle.dj_run.specs.Answers.{yes, typed}
use Rattle.dj_run.proofs.JavaAnswers.{one_typecheck}
use Rattle.dj_run.proofs.laws.generated_texts_typecheck.Goals as goal

pub returns : goal.returns
returns c = λ source config text tokens a is short has answered.
    let product = flat is.good.has.table in
    let back = (is.reads_back product).1 refl in
    let reads = back.1 in
    let shallow = subst (λ ts. greatest_depth (symbols_of text ts) ≤ MAX_DEPTH) (c.one_token_list.ensures Java text tokens reads.tokens has.lexed reads.lexed) has.shallow in
    let well = (c.places_never_matter.ensures.typing back.0 product back.2).1 is.flat_typed in
    one_typecheck c.java_answers.ensures text a yes answered (typed back.0 short (record { reads = reads; shallow = shallow }) well)
