use Rattle.std.proofs.Common.{◌≡◌, ◌∙◌, ap, sym, subst, All, OnOk, OnErr}
use Rattle.sat_clauses.specs.Literals.{IsLiteral}
use Rattle.gate_encoder.specs.Appending.{with_clauses, IsBegun, clauses_of, literals_in}
use Rattle.gate_encoder.proofs.Appended.{opposites_are, any_is}
use Rattle.gate_encoder.proofs.parts.push_gate.Goals as goal

pub push_junction-requires-clause-rest : goal.push_junction-requires-clause-rest
push_junction-requires-clause-rest c =
    subst (All IsLiteral) (sym (c.deref.ensures.value ∙ c.in_ok-opposites-in-All.ensures))
    (opposites_are c.in-All.parts.now (subst (λ p. All IsLiteral (literals_in p)) c.in-All.is c.requires.parts))

pub push_junction-requires-in-Any-clause-each : goal.push_junction-requires-in-Any-clause-each
push_junction-requires-in-Any-clause-each c =
    subst (All IsLiteral) (sym (c.deref-in-Any.ensures.value ∙ c.in_ok-opposites-in-Any.ensures))
    (opposites_are c.in-Any.parts.now (subst (λ p. All IsLiteral (literals_in p)) c.in-Any.is c.requires.parts))

pub returns-in_ok-opposites-in-Any-clause-ok : goal.returns-in_ok-opposites-in-Any-clause-ok
returns-in_ok-opposites-in-Any-clause-ok c =
    let same = any_is c.args.gate c.opposite.result c.in-Any.parts.now c.deref-in-Any.result.now c.opposite.ensures (c.deref-in-Any.ensures.value ∙ c.in_ok-opposites-in-Any.ensures) in
    subst (λ cs. OnOk c.push_junction-in-Any.result (c.push_junction-in-Any.new.clauses ≡ with_clauses c.args.clauses.now cs)) (same ∙ ap (clauses_of c.args.gate) (sym c.in-Any.is)) c.push_junction-in-Any.ensures.ok

pub returns-in_ok-opposites-in-Any-clause-err : goal.returns-in_ok-opposites-in-Any-clause-err
returns-in_ok-opposites-in-Any-clause-err c =
    let same = any_is c.args.gate c.opposite.result c.in-Any.parts.now c.deref-in-Any.result.now c.opposite.ensures (c.deref-in-Any.ensures.value ∙ c.in_ok-opposites-in-Any.ensures) in
    subst (λ cs. OnErr c.push_junction-in-Any.result (IsBegun c.args.clauses.now cs c.push_junction-in-Any.new.clauses)) (same ∙ ap (clauses_of c.args.gate) (sym c.in-Any.is)) c.push_junction-in-Any.ensures.err
