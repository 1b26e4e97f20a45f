use Rattle.std.proofs.Common.{ap, sym, ◌∙◌}
use Rattle.dj_tree.specs.Trees as plain
use Rattle.dj_tree.specs.Plain.{plain_operation}
use Rattle.dj_faults.proofs.NameLemmas.{one_number}
use Rattle.dj_apply.proofs.OverlapLemmas.{apart_clash}
use Rattle.dj_apply.proofs.overlaps.overlap_of_operations.Goals as goal

pub returns-else-class-other_class : goal.returns-else-class-other_class
returns-else-class-other_class c =
    apart_clash (plain_operation c.args.source.now.names c.args.source.now.exprs c.args.one.now) (plain_operation c.args.source.now.names c.args.source.now.exprs c.args.other.now)
    (λ same. c.if-class-other_class.false
    (one_number c.args.source.now.names c.requires.distinct c.class_of-class.result.name.0 c.class_of-other_class.result.name.0 (c.class_of-class.ensures.known c.args.source.now.names c.args.source.now.exprs c.requires.one_known) (c.class_of-other_class.ensures.known c.args.source.now.names c.args.source.now.exprs c.requires.other_known)
    (ap (λ (x : plain.Spot). x.text) (c.class_of-class.ensures.name c.args.source.now.names c.args.source.now.exprs) ∙ same ∙ sym (ap (λ (x : plain.Spot). x.text) (c.class_of-other_class.ensures.name c.args.source.now.names c.args.source.now.exprs)))))
