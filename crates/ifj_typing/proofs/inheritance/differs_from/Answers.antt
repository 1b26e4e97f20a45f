use Rattle.std.proofs.Common.{refl}
use Rattle.dj_calculus.proofs.Members.{either}
use Rattle.ifj_table.specs.Entries.{text_at, plain_signature}
use Rattle.ifj_table.specs.Tables.{plain_table, table_names}
use Rattle.ifj_lineages.proofs.Clashing.{turns_differs, clashes_differs, differs_cases}
use Rattle.ifj_typing.specs.Kinds.{text_of}
use Rattle.ifj_typing.proofs.Owners.{denied}
use Rattle.ifj_typing.proofs.inheritance.differs_from.Goals as goal

pub returns-then-turns : goal.returns-then-turns
returns-then-turns c =
    let t = c.args.table.now in (
      λ is. turns_differs (plain_table t) (text_of (table_names t) c.args.class) (text_at (table_names t) c.args.method.now.spot) (plain_signature (table_names t) c.args.method.now)
          (c.turns.ensures.0 c.if-turns.true),
      λ differs. refl,
    )

pub returns-in-Some : goal.returns-in-Some
returns-in-Some c =
    let t = c.args.table.now in
    let class = text_of (table_names t) c.args.class in
    let name = text_at (table_names t) c.args.method.now.spot in
    let signature = plain_signature (table_names t) c.args.method.now in (
      λ is. clashes_differs (plain_table t) class name signature (c.in-Some.ensures.0 is),
      λ differs. either (differs_cases (plain_table t) class name signature differs) (λ turns. absurd (denied c.turns.result c.turns.ensures c.if-turns.false turns)) (λ clashes. c.in-Some.ensures.1 clashes),
    )
