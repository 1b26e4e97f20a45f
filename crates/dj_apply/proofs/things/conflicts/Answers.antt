use Rattle.std.proofs.Common.{◌&&◌, sym, ap, ◌∙◌}
use Rattle.dj_calculus.specs.Conflicts.{collide}
use Rattle.dj_apply.specs.Touched.{plain_touch}
use Rattle.dj_apply.proofs.TouchLemmas.{other_texts, same_texts}
use Rattle.dj_apply.proofs.things.conflicts.Goals as goal

pub returns-then-one-other : goal.returns-then-one-other
returns-then-one-other c = λ names distinct one other.
    sym (ap (λ b. b && collide (plain_touch names c.args.one.touch) (plain_touch names c.args.other.touch)) (other_texts names distinct c.args.one.class.0 c.args.other.class.0 one.class other.class c.if-one-other.true))

pub returns : goal.returns
returns c = λ names distinct one other.
    c.collides.ensures names distinct one.touch other.touch
    ∙ sym (ap (λ b. b && collide (plain_touch names c.args.one.touch) (plain_touch names c.args.other.touch)) (same_texts names distinct c.args.one.class.0 c.args.other.class.0 one.class other.class c.if-one-other.false))
