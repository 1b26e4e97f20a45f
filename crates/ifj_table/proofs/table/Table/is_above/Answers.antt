use Rattle.std.proofs.Common.{◌≡◌, refl, sym, ap, ◌∙◌, subst, arith}
use Rattle.std.specs.Prelude.{unwrap_or, []}
use Rattle.std.proofs.lemmas.Bool.{false≢true}
use Rattle.std.proofs.lemmas.Slice.Eq.{bytes_eq-Decides}
use Rattle.ifj_table.specs.Tables.{name_text}
use Rattle.ifj_table.proofs.Superclasses.{not_above, not_above_at_all, is_above_here, climbs}
use Rattle.ifj_table.proofs.table.Table.is_above.Goals as goal

pub returns-in-None : goal.returns-in-None
returns-in-None c =
    let t = c.args.self.now in
    (λ e. absurd cc, λ above. absurd (not_above t c.args.upper.now (name_text t c.args.lower.0) (name_text t c.up.at.0) c.up._turn c.up.invariant.1 c.in-None.ensures.found above))

pub returns-then-eq : goal.returns-then-eq
returns-then-eq c =
    let t = c.args.self.now in
    let same = ap (λ o. unwrap_or o []) c.text.ensures ∙ (bytes_eq-Decides c.text.result.now c.args.upper.now).0 (sym c.if-eq.ensures) in (
      λ e. is_above_here t c.args.upper.now (name_text t c.args.lower.0) (name_text t c.up.at.0) c.up._turn c.up.invariant.1 (name_text t c.in-Some.parent.0) c.in-Some.ensures.found same,
      λ above. refl,
    )

pub up-preserved : goal.up-preserved
up-preserved c =
    let t = c.args.self.now in (
      c.in-Some.ensures.known,
      climbs t c.args.upper.now (name_text t c.args.lower.0) (name_text t c.up.at.0) c.up._turn c.up.invariant.1 (name_text t c.in-Some.parent.0) c.in-Some.ensures.found
          (λ same. let equal = (bytes_eq-Decides c.text.result.now c.args.upper.now).1 (sym (ap (λ o. unwrap_or o []) c.text.ensures) ∙ same) in absurd (false≢true (c.if-eq.ensures ∙ equal))),
    )

pub returns : goal.returns
returns c =
    let t = c.args.self.now in
    (λ e. absurd cc, λ above. absurd (not_above_at_all t c.args.upper.now (name_text t c.args.lower.0) (name_text t c.up.at.0) c.up._turn c.up.invariant.1 (omega (arith, c.up-test.false, c.len-turn-end.ensures, t.classes.ok.0)) above))
