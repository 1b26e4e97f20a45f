use Rattle.std.proofs.Common.{length, refl, arith}
use Rattle.std.proofs.lemmas.List.{length-map}
use Rattle.std.proofs.lemmas.Option.{slice_get_read}
use Rattle.dj_tree.specs.Plain.{plain_delta}
use Rattle.dj_line.specs.Lines.{plain_line}
use Rattle.dj_line.proofs.PartItems.{part_within}
use Rattle.dj_line.proofs.line.Line.part_of.Goals as goal

pub returns : goal.returns
returns c =
    let line = c.args.self.now in
    let stands = line.tables.parts_are c.args.delta c.index.result.now
    (slice_get_read line.part_numbers.items (length line.part_numbers.items) c.args.delta c.index.result.now refl
    (omega (arith, line.tables.as_many_parts, length-map line.source.deltas (plain_delta line.source.names line.source.exprs))) c.index.ensures) in
    record { part = stands; from_one = stands.counted; within = part_within (plain_line line) line.accepted c.args.delta c.index.result.now stands }
