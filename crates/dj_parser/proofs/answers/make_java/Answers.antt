use Rattle.std.proofs.Common.{map}
use Rattle.dj_declarations.specs.View.{class_view}
use Rattle.dj_parser.proofs.Grammars.{java_texts, java_room}
use Rattle.dj_parser.proofs.answers.make_java.Goals as goal

pub resolve_java-requires : goal.resolve_java-requires
resolve_java-requires c =
    let few = c.token_spans.ensures.tokens_are_few _ c.args.bytes.now c.args.tokens.now.list c.requires.lexed in
    rw c.as_slice.ensures.value
    (record {
      texts = java_texts c.args.bytes.now c.args.tokens.now.list (map (class_view c.args.bytes.now) c.in-Ok.raws.items) c.requires.lexed c.in-Ok.ensures.spelled;
      room = java_room c.args.bytes.now c.args.tokens.now.list few c.requires.short (map (class_view c.args.bytes.now) c.in-Ok.raws.items) c.in-Ok.ensures.spelled;
    })
