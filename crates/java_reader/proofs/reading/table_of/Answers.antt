use Rattle.std.proofs.Common.{subst}
use Rattle.dj_tree.specs.Plain.{plain_java}
use Rattle.java_reader.specs.Faults.{IsFirstFound}
use Rattle.java_reader.specs.Files.{at_fault}
use Rattle.java_reader.proofs.reading.table_of.Goals as goal

pub make_table-requires-clause-expressions : goal.make_table-requires-clause-expressions
make_table-requires-clause-expressions c = c.laid_has_expressions.ensures.of_classes (plain_java c.args.source.now) c.requires.laid

pub returns-in-Ok-Some : goal.returns-in-Ok-Some
returns-in-Ok-Some c =
    record {
      table = λ _. at_fault c.args.tokens.now.list (plain_java c.args.source.now) c.in-Ok-Some.fault c.in-Ok-Some.at c.requires.tokens c.requires.spelled
          (subst (IsFirstFound (plain_java c.args.source.now)) c.in-Ok-Some.field-0-is c.in-Ok-Some.ensures);
    }

pub returns-in-Ok : goal.returns-in-Ok
returns-in-Ok c =
    record {
      table = record {
        reads = record {
          tokens = c.args.tokens.now.list;
          lexed = c.requires.tokens.lexed;
          classes = plain_java c.args.source.now;
          spelled = c.requires.spelled;
          sound = subst (IsFirstFound (plain_java c.args.source.now)) c.in-Ok-None.field-0-is c.in-Ok-None.ensures;
          made = c.in-Ok.ensures;
        };
        shallow = c.requires.tokens.shallow;
      };
    }
