use Rattle.std.proofs.Common.{[], take, get_or, ap, sym, ◌∙◌, false}
use Rattle.std.proofs.lemmas.List.{take_more, take_all}
use Rattle.sat_clauses.specs.declared.literal.Lit.{Lit}
use Rattle.sat_clauses.specs.ClauseLists.{with_literal, joined}
use Rattle.sat_clauses.proofs.SetLemmas.{joined-push}
use Rattle.sat_clauses.proofs.resolvent.Resolvent.start.Goals as goal

pub loop-lit-preserved : goal.loop-lit-preserved
loop-lit-preserved c =
    let zero_lit : Lit = record { var = 0; positive = false } in
    let lits = c.args.lits.now in
    let at = c.loop-lit.lit-index in
    let lit : Lit = get_or lits at zero_lit in
    c.in_default.ensures.ok ∙ ap (λ ls. with_literal ls lit) c.loop-lit.invariant ∙ sym (ap (joined []) (take_more lits at zero_lit c.loop-lit-test.true) ∙ joined-push [] (take at lits) lit)

pub returns-clause-ok : goal.returns-clause-ok
returns-clause-ok c = c.loop-lit.invariant ∙ ap (joined []) (take_all c.loop-lit.lit-index c.args.lits.now c.loop-lit-test.false)
