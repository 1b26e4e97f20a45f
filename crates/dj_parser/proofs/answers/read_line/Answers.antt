use Rattle.std.proofs.Common.{◌≡◌, length, ap, ◌∙◌}
use Rattle.dj_parser.proofs.Grammars.{line_whole, line_refused}
use Rattle.dj_parser.proofs.answers.read_line.Goals as goal

pub returns-in-Ok-clause-spelled : goal.returns-in-Ok-clause-spelled
returns-in-Ok-clause-spelled c =
    let list : c.as_slice.result.now ≡ c.args.tokens.now.list = c.as_slice.ensures.value ∙ ap (λ t. t.list) c.tokens.view_is in
    rw (← list) (line_whole c.sources_are_read.ensures.sources _ _ _ c.in-Ok.ensures.answers)

pub returns-in-Err-Syntax-clause-cause : goal.returns-in-Err-Syntax-clause-cause
returns-in-Err-Syntax-clause-cause c =
    let list : c.as_slice.result.now ≡ c.args.tokens.now.list = c.as_slice.ensures.value ∙ ap (λ t. t.list) c.tokens.view_is in
    let end : c.tokens.inside.end ≡ length c.args.bytes.now = ap (λ t. t.end) c.tokens.view_is ∙ c.requires.end in
    rw (← list, c.place.ensures, end) (line_refused c.sources_are_read.ensures.sources c.args.bytes.now (length c.args.bytes.now) _ c.in-Err-Syntax.rest.now (rw c.in-Err-Syntax.field-0-is at c.in-Err-Syntax.ensures.answers))
