use Rattle.std.proofs.Common.{◌≡◌, ◌∷◌, [], map, take}
use Rattle.gate_encoder.specs.Appending.{with_clauses}
use Rattle.gate_encoder.proofs.parts.push_pairs.Given as goal

abbrev pub invariant-loop-lit : goal.invariant-loop-lit
invariant-loop-lit l = l.clauses ≡ with_clauses l.initial.clauses (map (λ lit. l.first ∷ lit ∷ []) (take l.lit-index l.each))
