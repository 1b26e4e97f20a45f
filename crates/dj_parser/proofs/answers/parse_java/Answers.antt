use Rattle.std.proofs.Common.{length}
use Rattle.dj_lexer.specs.Symbols.{symbols_of}
use Rattle.dj_tree.specs.Plain.{plain_java}
use Rattle.dj_parser.proofs.Grammars.{java_given, java_syntax, java_known}
use Rattle.dj_parser.proofs.answers.parse_java.Goals as goal

pub returns-clause-given : goal.returns-clause-given
returns-clause-given c =
    java_given (symbols_of c.args.bytes.now c.args.tokens.now.list) (length c.args.bytes.now) c.make_java.result (java_known (symbols_of c.args.bytes.now c.args.tokens.now.list) plain_java c.make_java.result c.make_java.ensures.spelled) c.make_java.ensures.cause

pub returns-clause-syntax : goal.returns-clause-syntax
returns-clause-syntax c =
    java_syntax (symbols_of c.args.bytes.now c.args.tokens.now.list) (length c.args.bytes.now) c.make_java.result (java_known (symbols_of c.args.bytes.now c.args.tokens.now.list) plain_java c.make_java.result c.make_java.ensures.spelled) c.make_java.ensures.cause
