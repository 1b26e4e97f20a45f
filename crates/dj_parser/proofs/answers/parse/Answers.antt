use Rattle.std.proofs.Common.{length}
use Rattle.dj_lexer.specs.Symbols.{symbols_of}
use Rattle.dj_tree.specs.Plain.{plain_source}
use Rattle.dj_parser.proofs.Grammars.{line_given, line_syntax, line_known}
use Rattle.dj_parser.proofs.answers.parse.Goals as goal

pub returns-clause-given : goal.returns-clause-given
returns-clause-given c =
    line_given (symbols_of c.args.bytes.now c.args.tokens.now.list) (length c.args.bytes.now) c.make_line.result (line_known (symbols_of c.args.bytes.now c.args.tokens.now.list) plain_source c.make_line.result c.make_line.ensures.spelled) c.make_line.ensures.cause

pub returns-clause-syntax : goal.returns-clause-syntax
returns-clause-syntax c =
    line_syntax (symbols_of c.args.bytes.now c.args.tokens.now.list) (length c.args.bytes.now) c.make_line.result (line_known (symbols_of c.args.bytes.now c.args.tokens.now.list) plain_source c.make_line.result c.make_line.ensures.spelled) c.make_line.ensures.cause
