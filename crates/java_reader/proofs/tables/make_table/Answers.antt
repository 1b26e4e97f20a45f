use Rattle.std.proofs.Common.{ap, ◌∙◌}
use Rattle.ifj_table.specs.Tables.{plain_table}
use Rattle.java_reader.specs.Making.{declared}
use Rattle.java_reader.proofs.Ready.{sorted, all_ready, names_once, same_table}
use Rattle.java_reader.proofs.tables.make_table.Goals as goal

pub add_classes-requires-clause-ready : goal.add_classes-requires-clause-ready
add_classes-requires-clause-ready c =
    let s = c.args.source.now in
    all_ready s.names s.exprs s.classes (declared c.as_slice-2.result.now) (sorted c.as_slice.ensures c.as_slice-2.ensures.value c.in_ok-classes.ensures) c.requires.formed.classes c.requires.expressions c.requires.sound

pub add_classes-requires-clause-once : goal.add_classes-requires-clause-once
add_classes-requires-clause-once c =
    let s = c.args.source.now in
    names_once s.names s.exprs s.classes (declared c.as_slice-2.result.now) (sorted c.as_slice.ensures c.as_slice-2.ensures.value c.in_ok-classes.ensures) c.requires.formed.classes c.requires.expressions c.requires.sound

pub returns : goal.returns
returns c =
    let s = c.args.source.now in
    ap plain_table c.into_table.ensures ∙ c.in_ok-add_classes.ensures
    ∙ same_table s.names s.exprs s.classes (declared c.as_slice-2.result.now) (sorted c.as_slice.ensures c.as_slice-2.ensures.value c.in_ok-classes.ensures) c.requires.formed.classes c.requires.expressions c.requires.sound
