use Rattle.std.proofs.Common.{map}
use Rattle.std.specs.String.{string_bytes}
use Rattle.dj_run.specs.Commands.{command_of}
use Rattle.dj_run.specs.Outcomes.{answer_of}
use Rattle.dj_run.proofs.Headline.{checked, varied}
use Rattle.dj_run.proofs.program.run.Goals as goal

pub returns-in-Ok-clause-headline : goal.returns-in-Ok-clause-headline
returns-in-Ok-clause-headline g c = λ done file bytes source is held says small. (
  answer_of c.in-Ok.outcome,
  c.put_outcome.ensures.status done.written,
  c.put_outcome.ensures.text done.written,
  checked c.one_each.ensures bytes source says (g.F.Files.left c.args.files.now) file held (answer_of c.in-Ok.outcome) (command_of (map string_bytes c.args.words.now)) is
      c.in-Ok.ensures.defined small,
)

pub returns-in-Ok-clause-variants : goal.returns-in-Ok-clause-variants
returns-in-Ok-clause-variants g c = λ done file bytes config order source chosen is held says right word allowed. (
  answer_of c.in-Ok.outcome,
  c.put_outcome.ensures.status done.written,
  c.put_outcome.ensures.text done.written,
  varied c.one_each.ensures bytes source says (g.F.Files.left c.args.files.now) file held (answer_of c.in-Ok.outcome) (command_of (map string_bytes c.args.words.now)) config
      chosen order is c.in-Ok.ensures.defined right word allowed,
)
