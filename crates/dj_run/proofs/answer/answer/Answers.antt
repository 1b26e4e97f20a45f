use Rattle.std.proofs.Common.{Some, map, refl, sym, subst}
use Rattle.std.specs.String.{string_bytes}
use Rattle.dj_run.specs.Commands.{command_of}
use Rattle.dj_run.specs.Answers.{Answers, usage}
use Rattle.dj_run.specs.Outcomes.{Reads, answer_of}
use Rattle.dj_run.proofs.Answering.{unbuilt_answer, asked_answer}
use Rattle.dj_run.proofs.answer.answer.Goals as goal

pub returns-in-None-clause-defined : goal.returns-in-None-clause-defined
returns-in-None-clause-defined g c = subst (λ command. Answers (g.F.Files.left c.args.files.now) command usage) (sym c.in-None.ensures) refl

pub returns-in-Some-Unbuilt-clause-defined : goal.returns-in-Some-Unbuilt-clause-defined
returns-in-Some-Unbuilt-clause-defined g c =
    let command = command_of (map string_bytes c.args.words.now) in
    unbuilt_answer (g.F.Files.left c.args.files.now) command (subst (λ f. Reads (Some f) command) c.in-Some-Unbuilt.field-0-is c.in-Some-Unbuilt.ensures)

pub reply-requires : goal.reply-requires
reply-requires g c = let read = c.in_ok-reading-in-Some-Ask.ensures.read in (read.0, read.2)

pub returns-in_ok-reply-in-Some-Ask-clause-defined : goal.returns-in_ok-reply-in-Some-Ask-clause-defined
returns-in_ok-reply-in-Some-Ask-clause-defined g c =
    let command = command_of (map string_bytes c.args.words.now) in
    let left = g.F.Files.left c.args.files.now in
    let read = c.in_ok-reading-in-Some-Ask.ensures.read in
    let answer = answer_of c.in_ok-reply-in-Some-Ask.field-0 in
    let is = subst (λ f. Reads (Some f) command) c.in-Some-Ask.field-0-is c.in-Some-Ask.ensures in
    subst (λ k. Answers left k answer) (sym is)
    (asked_answer left c.in-Some-Ask.question c.in-Some-Ask.file.now read.0 answer read.1 (c.in_ok-reply-in-Some-Ask.ensures read.0 read.2))
