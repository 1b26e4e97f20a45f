use Rattle.std.proofs.Common.{◌≤◌, ℕ, subst, ◌∙◌, List, [], ◌∷◌, ◌++◌, Bool, false, sym, ap, length, length-append, arith}
use Rattle.gate_encoder.specs.Writing.{Written}
use Rattle.std.specs.List.{position_or_len, zip}
use Rattle.std.proofs.lemmas.Slice.Zip.{length-zip}
use Rattle.gate_encoder.proofs.Keys.{view_keys, number_added, number_kept}
use Rattle.gate_encoder.proofs.Gating.{length_number}
use Rattle.gate_encoder.proofs.gates.Gates.place_of.Goals as goal

pub returns-then-added-clause-written : goal.returns-then-added-clause-written
returns-then-added-clause-written g c =
    number_added g.K.PartialEq.eq c.self.inside.keys.keys c.insert_full.new.self.keys c.self.inside.written.items c.push_reserved.new.self.items c.self.inside.clauses c.args.key c.args.self.now
    c.self.view_is c.self.invariant (sym c.if-added.true ∙ c.in_ok-place.ensures.added) c.in_ok-place.ensures.keys
    (c.push_reserved.ensures.items ∙ ap (λ ms. ms ++ false ∷ []) c.reserve.ensures.items)

pub returns-else-added-clause-written : goal.returns-else-added-clause-written
returns-else-added-clause-written g c =
    number_kept g.K.PartialEq.eq c.self.inside.keys.keys c.insert_full.new.self.keys c.reserve.new.self.items c.self.inside.clauses c.args.key c.args.self.now
    (ap (λ (ms : List Bool). let w : Written _ = record { keys = zip c.self.inside.keys.keys ms; clauses = c.self.inside.clauses } in w) c.reserve.ensures.items ∙ c.self.view_is) (ap length c.reserve.ensures.items ∙ c.self.invariant)
    (sym c.if-added.false ∙ c.in_ok-place.ensures.added) c.in_ok-place.ensures.keys

pub returns-then-added-clause-place : goal.returns-then-added-clause-place
returns-then-added-clause-place g c =
    let names = view_keys c.self.inside.keys.keys c.self.inside.written.items c.self.inside.clauses c.args.self.now c.self.view_is c.self.invariant in
    c.in_ok-place.ensures.index ∙ ap (position_or_len (g.K.PartialEq.eq c.args.key)) (sym names)

pub returns-else-added-clause-place : goal.returns-else-added-clause-place
returns-else-added-clause-place g c =
    let names = view_keys c.self.inside.keys.keys c.self.inside.written.items c.self.inside.clauses c.args.self.now c.self.view_is c.self.invariant in
    c.in_ok-place.ensures.index ∙ ap (position_or_len (g.K.PartialEq.eq c.args.key)) (sym names)

pub returns-then-added-clause-within : goal.returns-then-added-clause-within
returns-then-added-clause-within g c =
    omega (
      arith,
      length-zip c.insert_full.new.self.keys c.push_reserved.new.self.items,
      c.in_ok-place.ensures.within,
      rw c.if-added.true at c.in_ok-place.ensures.len,
      c.self.invariant,
      ap length c.push_reserved.ensures.items,
      ap length c.reserve.ensures.items,
      length-append c.reserve.new.self.items (false ∷ []),
    )

pub returns-else-added-clause-within : goal.returns-else-added-clause-within
returns-else-added-clause-within g c =
    omega (arith, length-zip c.insert_full.new.self.keys c.reserve.new.self.items, c.in_ok-place.ensures.within, rw c.if-added.false at c.in_ok-place.ensures.len, c.self.invariant, ap length c.reserve.ensures.items)

pub returns-then-added-clause-small : goal.returns-then-added-clause-small
returns-then-added-clause-small g c =
    let v = c.push_reserved.new.self in omega (arith, length-zip c.insert_full.new.self.keys v.items, v.ok.0, v.ok.1, v.small)

pub returns-else-added-clause-small : goal.returns-else-added-clause-small
returns-else-added-clause-small g c =
    let v = c.reserve.new.self in omega (arith, length-zip c.insert_full.new.self.keys v.items, v.ok.0, v.ok.1, v.small)

pub returns-then-added-clause-grown : goal.returns-then-added-clause-grown
returns-then-added-clause-grown g c =
    subst (λ (n : ℕ). length c.args.self.now.keys ≤ n) (ap (λ (w : Written _). length w.keys) (sym (returns-then-added-clause-written g c))) (length_number g.K.PartialEq.eq c.args.self.now c.args.key)
