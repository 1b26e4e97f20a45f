use Rattle.std.proofs.Common.{sym, subst, Option}
use Rattle.std.specs.Prelude.{codes}
use Rattle.std.specs.Str.{chars}
use Rattle.std.specs.Option.{MatchOption}
use Rattle.dj_lexer.specs.Pieces.{BeginsNoComment, IsFront}
use Rattle.dj_lexer.specs.declared.front.Front.{Front}
use Rattle.dj_lexer.proofs.FrontLemmas.{line_piece, block_piece, open_body, no_comment, stripped, stripped_utf8}
use Rattle.dj_lexer.proofs.front.comment.Goals as goal

pub returns-in-Some : goal.returns-in-Some
returns-in-Some c = line_piece _ _ _ _ (stripped (codes "//") _ _ c.in-Some.ensures.cases) c.after_line.ensures

pub returns-in_err-body : goal.returns-in_err-body
returns-in_err-body c =
    subst (λ (o : Option Front). MatchOption o (BeginsNoComment (chars c.args.text.now)) (IsFront c.args.dialect c.args.text.now)) (sym c.from_residual.ensures)
    (no_comment _ c.utf8.text c.in_default.ensures.cases c.in_err-body.ensures.cases)

pub returns-in-Some-split_once : goal.returns-in-Some-split_once
returns-in-Some-split_once c =
    let body = c.in_ok-body.ensures.cases in
    let cut = c.in-Some-split_once.ensures.cases in
    block_piece _ _ _ _ _ _ (stripped_utf8 (codes "/*") _ _ c.utf8.text body) (stripped (codes "/*") _ _ body) cut.2 cut.4

pub returns-in-None : goal.returns-in-None
returns-in-None c =
    let body = c.in_ok-body.ensures.cases in
    open_body _ _ (stripped_utf8 (codes "/*") _ _ c.utf8.text body) (stripped (codes "/*") _ _ body) c.in-None.ensures.cases
