use Rattle.dj_declarations.specs.View.{source_view}
use Rattle.dj_parser.proofs.Grammars.{line_texts, line_room}
use Rattle.dj_parser.proofs.answers.make_line.Goals as goal

pub resolve_source-requires : goal.resolve_source-requires
resolve_source-requires c =
    let few = c.token_spans.ensures.tokens_are_few _ c.args.bytes.now c.args.tokens.now.list c.requires.lexed in
    record {
      texts = line_texts c.args.bytes.now c.args.tokens.now.list (source_view c.args.bytes.now c.in-Ok.raw) c.requires.lexed c.in-Ok.ensures.spelled;
      room = line_room c.args.bytes.now c.args.tokens.now.list few c.requires.short (source_view c.args.bytes.now c.in-Ok.raw) c.in-Ok.ensures.spelled;
    }
