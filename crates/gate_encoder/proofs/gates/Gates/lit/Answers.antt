use Rattle.std.proofs.Common.{◌≡◌, ◌+◌, ◌∙◌, true, sym, ap, is_some}
use Rattle.std.specs.List.{list_any, position_or_len}
use Rattle.sat_clauses.specs.declared.literal.Lit.{Lit}
use Rattle.gate_encoder.proofs.Keys.{view_keys, found_place}
use Rattle.gate_encoder.proofs.gates.Gates.lit.Goals as goal

pub returns-in_err-place-clause-numbered : goal.returns-in_err-place-clause-numbered
returns-in_err-place-clause-numbered g c =
    let names = view_keys c.self.inside.keys.keys c.self.inside.written.items c.self.inside.clauses c.args.self.now c.self.view_is c.self.invariant in
    ap is_some c.from_residual.ensures ∙ c.in_err-place.ensures.found ∙ ap (list_any (g.K.PartialEq.eq c.args.key.now)) (sym names)

pub returns-clause-numbered : goal.returns-clause-numbered
returns-clause-numbered g c =
    let names = view_keys c.self.inside.keys.keys c.self.inside.written.items c.self.inside.clauses c.args.self.now c.self.view_is c.self.invariant in
    c.in_ok-place.ensures.found ∙ ap (list_any (g.K.PartialEq.eq c.args.key.now)) (sym names)

pub returns-clause-literal : goal.returns-clause-literal
returns-clause-literal g c =
    let names = view_keys c.self.inside.keys.keys c.self.inside.written.items c.self.inside.clauses c.args.self.now c.self.view_is c.self.invariant in
    let test = g.K.PartialEq.eq c.args.key.now in
    let place : c.in_ok-place.place ≡ position_or_len test (Rattle.std.specs.Map.keys_of c.args.self.now.keys) =
    found_place test c.self.inside.keys.keys c.in_ok-place.place c.in_ok-place.ensures.index ∙ ap (position_or_len test) (sym names) in
    c.literal_at.ensures ∙ ap (λ n. let l : Lit = record { var = n + 1; positive = true } in l) place
