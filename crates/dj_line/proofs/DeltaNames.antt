-- The names of a source's deltas.
use Rattle.std.proofs.Common.{◌≡◌, zero, suc, List, [], ◌∷◌, map, All, refl, ap, arith}
use Rattle.dj_names.specs.Texts.{Text}
use Rattle.dj_tree.specs.Plain.{plain_spot, plain_delta}
use Rattle.dj_tree.specs.WellFormed.{IsKnown, IsDelta}
use Rattle.dj_tree.specs.declared.declarations.DeltaDecl.{DeltaDecl}
use Rattle.dj_tree.specs.declared.expression.ExprNode.{ExprNode}

module _ (names : List Text) (exprs : List ExprNode) where
  pub delta_spots : (deltas : List DeltaDecl) → map (plain_spot names) (map (λ d. d.spot) deltas) ≡ map (λ d. d.name) (map (plain_delta names exprs) deltas)
  delta_spots [] = refl
  delta_spots (d ∷ deltas) = ap (λ xs. plain_spot names d.spot ∷ xs) (delta_spots deltas)

  pub spots_known : (deltas : List DeltaDecl) → All (IsDelta names exprs) deltas → All (IsKnown names) (map (λ d. d.spot) deltas)
  spots_known [] known k d low = absurd (omega arith)
  spots_known (x ∷ deltas) known zero d low = (known 0 x (omega arith)).spot
  spots_known (x ∷ deltas) known (suc k) d low = spots_known deltas (λ i e l. known (suc i) e (omega arith)) k d (omega arith)

pub delta_keys : (deltas : List DeltaDecl) → map (λ d. d.spot.name.0) deltas ≡ map (λ s. s.name.0) (map (λ d. d.spot) deltas)
delta_keys [] = refl
delta_keys (d ∷ deltas) = ap (λ xs. d.spot.name.0 ∷ xs) (delta_keys deltas)
