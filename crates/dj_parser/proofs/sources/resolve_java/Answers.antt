use Rattle.std.proofs.Common.{[], refl}
use Rattle.dj_declarations.specs.View.{class_view}
use Rattle.dj_tree.specs.Plain.{plain_class}
use Rattle.dj_tree.specs.WellFormed.{IsClass}
use Rattle.dj_parser.specs.Said.{said_class}
use Rattle.dj_parser.proofs.Growing.{can_start, grew_not}
use Rattle.dj_parser.proofs.Loops.{can_each, stand_each}
use Rattle.dj_parser.proofs.Assembling.{java_stands}
use Rattle.dj_parser.proofs.sources.resolve_java.Goals as goal

pub resolve_each-requires : goal.resolve_each-requires
resolve_each-requires c =
    can_each said_class (class_view c.args.bytes.now) c.args.raws.now c.args.raws.now refl (can_start c.new.ensures c.new-2.ensures c.new-3.ensures c.requires.texts c.requires.room)

pub returns : goal.returns
returns c =
    let t = c.resolve_each.new.tables in
    let known = c.in_ok-classes.ensures.grew.known in
    let is =
    java_stands t known
    (stand_each (plain_class t.names t.exprs) (IsClass t.names t.exprs) (class_view c.args.bytes.now) c.args.raws.now c.args.raws.now c.in_ok-classes.classes.items c.from_vec.result refl
    c.from_vec.ensures (c.in_ok-classes.ensures.stand t [] (grew_not known))) in
    record { stands = is.same; well_formed = is.well }
