use Rattle.std.proofs.Common.{◌≡◌, nat_eq, sym, subst}
use Rattle.dj_calculus.specs.Conflicts.{collide}
use Rattle.dj_calculus.specs.Things.{only, method_named}
use Rattle.dj_faults.proofs.NameLemmas.{same_test}
use Rattle.dj_apply.specs.declared.things.Touch.{Touch}
use Rattle.dj_apply.specs.Touched.{text_of, plain_touch, IsTouch}
use Rattle.dj_apply.proofs.things.is_on_method.Goals as goal

pub returns-in-Method : goal.returns-in-Method
returns-in-Method c = λ names distinct low known.
    subst (λ (t : Touch). IsTouch names t → nat_eq c.args.name.0 c.in-Method.other.0 ≡ collide (only (method_named (text_of names c.args.name.0))) (plain_touch names t)) (sym c.in-Method.is)
    (λ below. same_test names distinct c.args.name.0 c.in-Method.other.0 low below) known
