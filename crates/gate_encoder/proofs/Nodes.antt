-- The entries of one node, as a call writes them.
use Rattle.std.proofs.Common.{◌≡◌, Bool, List, [], ◌∷◌, fold, Result, Ok, Err, OnOk, OnErr, sym, ap, ◌∙◌, subst}
use Rattle.std.specs.List.{flat_map}
use Rattle.std.proofs.lemmas.List.{append-nil}
use Rattle.dj_formula.specs.declared.formula.Gate.{Gate}
use Rattle.sat_clauses.specs.declared.literal.Lit.{Lit}
use Rattle.sat_clauses.specs.Literals.{opposite}
use Rattle.gate_encoder.specs.Entries.{Entry}
use Rattle.gate_encoder.specs.Writing.{Written, Step, steps, write, IsCut}
use Rattle.gate_encoder.specs.Formulas.{node_entries}

module _ {K E : Type 0} (eq : K → K → Bool) (w new : Written K) (result : Result Lit E) (gives : K → Type 0) (key : K) (entry : K → Entry K Lit) (gate : Gate) (operands : List Lit)
    (given : gives key) (one : (name : K) → node_entries opposite name gate operands ≡ entry name ∷ []) where
  pub node_wrote : OnOk result (new ≡ write eq w (entry key)) → OnOk result ((name : K) → ((k : K) → gives k → k ≡ name) → new ≡ fold (write eq) w (node_entries opposite name gate operands))
  node_wrote wrote = by result wrote
    where
      by : (r : Result Lit E) → OnOk r (new ≡ write eq w (entry key)) → OnOk r ((name : K) → ((k : K) → gives k → k ≡ name) → new ≡ fold (write eq) w (node_entries opposite name gate operands))
      by (Ok x) is = λ name all. is ∙ ap (λ k. write eq w (entry k)) (all key given) ∙ ap (fold (write eq) w) (sym (one name))
      by (Err e) is = tt

  pub node_cut : OnErr result (IsCut eq w (steps eq w (entry key)) new) → OnErr result ((name : K) → ((k : K) → gives k → k ≡ name) → IsCut eq w (flat_map (steps eq w) (node_entries opposite name gate operands)) new)
  node_cut cut = by result cut
    where
      by : (r : Result Lit E) → OnErr r (IsCut eq w (steps eq w (entry key)) new) → OnErr r ((name : K) → ((k : K) → gives k → k ≡ name) → IsCut eq w (flat_map (steps eq w) (node_entries opposite name gate operands)) new)
      by (Ok x) is = tt
      by (Err e) is = λ name all.
          subst (λ (all : List (Step K)). IsCut eq w all new)
          (ap (λ k. steps eq w (entry k)) (all key given) ∙ sym (append-nil (steps eq w (entry name))) ∙ ap (flat_map (steps eq w)) (sym (one name))) is
