use Rattle.std.proofs.Common.{◌≡◌, ◌<◌, ◌+◌, ◌∙◌, ap, sym, subst, length, set, true, false, arith}
use Rattle.std.proofs.lemmas.Slice.Zip.{length-zip}
use Rattle.std.proofs.lemmas.List.{length-set}
use Rattle.sat_clauses.specs.declared.literal.Lit.{Lit}
use Rattle.gate_encoder.specs.Writing.{literal, has_gate}
use Rattle.gate_encoder.specs.Appending.{clauses_of, IsBegun, with_clauses}
use Rattle.gate_encoder.proofs.Appended.{on_err}
use Rattle.gate_encoder.proofs.Gating.{cut_none, gate_cut, gate_done, gate_kept, number_kept_gated, mark_tells}
use Rattle.gate_encoder.proofs.gates.Gates.gate.Goals as goal

pub index-requires : goal.index-requires
index-requires g c =
    let v = c.self.inside.written in
    omega (arith, c.in_ok-place.ensures.within, ap (λ w. length w.keys) c.self.view_is, length-zip c.self.inside.keys.keys v.items, v.ok.0)

pub index_mut-requires : goal.index_mut-requires
index_mut-requires g c =
    let v = c.self.inside.written in
    omega (arith, c.in_ok-place.ensures.within, ap (λ w. length w.keys) c.self.view_is, length-zip c.self.inside.keys.keys v.items, v.ok.0)

pub returns-in_err-push_gate-clause-err : goal.returns-in_err-push_gate-clause-err
returns-in_err-push_gate-clause-err g c =
    let eq = g.K.PartialEq.eq in
    let w = c.args.self.now in
    let k = c.args.key in
    let inside = c.self.inside in
    let number = c.self.view_is ∙ c.in_ok-place.ensures.written in
    let cs = clauses_of (literal eq w k) c.args.parts in
    let within : c.in_ok-place.place < length inside.written.items = omega (arith, c.in_ok-place.ensures.within, ap (λ x. length x.keys) c.self.view_is, length-zip inside.keys.keys inside.written.items, inside.written.ok.0) in
    let tells = mark_tells eq w k cs inside.keys.keys inside.written.items inside.clauses number c.in_ok-place.place g.met.K.Eq.laws c.self.invariant c.in_ok-place.ensures.place c.index.result.now within c.index.ensures in
    let none : has_gate eq w k ≡ false = sym tells ∙ c.if-not-index.true in
    let lit : c.literal_at-lit.result ≡ literal eq w k = c.literal_at-lit.ensures ∙ ap (λ n. let l : Lit = record { var = n + 1; positive = true } in l) c.in_ok-place.ensures.place in
    on_err _ _
    (gate_cut eq w k cs inside.keys.keys inside.written.items inside.clauses number c.push_gate.new.clauses none
    (subst (λ (l : Lit). IsBegun inside.clauses (clauses_of l c.args.parts) c.push_gate.new.clauses) lit c.in_err-push_gate.ensures.err))

pub returns-in_ok-push_gate-clause-written : goal.returns-in_ok-push_gate-clause-written
returns-in_ok-push_gate-clause-written g c =
    let eq = g.K.PartialEq.eq in
    let w = c.args.self.now in
    let k = c.args.key in
    let inside = c.self.inside in
    let number = c.self.view_is ∙ c.in_ok-place.ensures.written in
    let cs = clauses_of (literal eq w k) c.args.parts in
    let within : c.in_ok-place.place < length inside.written.items = omega (arith, c.in_ok-place.ensures.within, ap (λ x. length x.keys) c.self.view_is, length-zip inside.keys.keys inside.written.items, inside.written.ok.0) in
    let tells = mark_tells eq w k cs inside.keys.keys inside.written.items inside.clauses number c.in_ok-place.place g.met.K.Eq.laws c.self.invariant c.in_ok-place.ensures.place c.index.result.now within c.index.ensures in
    let none : has_gate eq w k ≡ false = sym tells ∙ c.if-not-index.true in
    let lit : c.literal_at-lit.result ≡ literal eq w k = c.literal_at-lit.ensures ∙ ap (λ n. let l : Lit = record { var = n + 1; positive = true } in l) c.in_ok-place.ensures.place in
    gate_done eq w k cs inside.keys.keys inside.written.items inside.clauses number c.in_ok-place.place g.met.K.Eq.laws c.self.invariant c.in_ok-place.ensures.place c.push_gate.new.clauses none
    (c.in_ok-push_gate.ensures.ok ∙ ap (λ (l : Lit). with_clauses inside.clauses (clauses_of l c.args.parts)) lit)

pub returns-else-not-index-clause-written : goal.returns-else-not-index-clause-written
returns-else-not-index-clause-written g c =
    let eq = g.K.PartialEq.eq in
    let w = c.args.self.now in
    let k = c.args.key in
    let inside = c.self.inside in
    let number = c.self.view_is ∙ c.in_ok-place.ensures.written in
    let cs = clauses_of (literal eq w k) c.args.parts in
    let within : c.in_ok-place.place < length inside.written.items = omega (arith, c.in_ok-place.ensures.within, ap (λ x. length x.keys) c.self.view_is, length-zip inside.keys.keys inside.written.items, inside.written.ok.0) in
    let tells = mark_tells eq w k cs inside.keys.keys inside.written.items inside.clauses number c.in_ok-place.place g.met.K.Eq.laws c.self.invariant c.in_ok-place.ensures.place c.index.result.now within c.index.ensures in
    let there : has_gate eq w k ≡ true = sym tells ∙ c.if-not-index.false in
    c.in_ok-place.ensures.written ∙ number_kept_gated eq w k cs there ∙ sym (gate_kept eq w k cs there)

pub returns-in_err-place-clause-err : goal.returns-in_err-place-clause-err
returns-in_err-place-clause-err g c = on_err _ _ (cut_none g.K.PartialEq.eq c.args.self.now c.place_of.new.self _ c.in_err-place.ensures.err)

pub returns-in_ok-push_gate-clause-numbered : goal.returns-in_ok-push_gate-clause-numbered
returns-in_ok-push_gate-clause-numbered g c =
    let ks = c.self.inside.keys.keys in
    let marks = c.self.inside.written.items in
    let var = ap (λ (l : Lit). l.var) c.literal_at-lit.ensures in
    let keys = ap (λ x. length x.keys) c.self.view_is in
    (omega (arith, var), omega (arith, var, keys, c.in_ok-place.ensures.within, length-zip ks marks, length-zip ks (set marks c.in_ok-place.place true), length-set marks c.in_ok-place.place true))

pub returns-in_ok-push_gate-clause-grown : goal.returns-in_ok-push_gate-clause-grown
returns-in_ok-push_gate-clause-grown g c =
    let ks = c.self.inside.keys.keys in
    let marks = c.self.inside.written.items in
    let keys = ap (λ x. length x.keys) c.self.view_is in
    omega (arith, keys, c.place_of.ensures.grown, length-zip ks marks, length-zip ks (set marks c.in_ok-place.place true), length-set marks c.in_ok-place.place true)
