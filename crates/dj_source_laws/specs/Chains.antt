-- The order of the parts: which lists of parts are their chain.
use Rattle.std.specs.Prelude.{◌≡◌, ◌↔◌, ℕ, suc, List, slice_get, Some, None, Contains}
use Rattle.dj_tree.specs.Trees.{Spot, Part}
use Rattle.dj_source_laws.specs.Once.{OnceBy}

-- The list has just these parts, each once by its name. Its first has no `after`, and the `after` of each next one names the one before it.
pub record IsChain (parts chained : List Part) : Type 0 where
  pub same : (p : Part) → Contains chained p ↔ Contains parts p
  pub once : OnceBy (λ p. p.name.text) chained
  pub first : (p : Part) → slice_get chained 0 ≡ Some p → p.after ≡ None
  pub next : (k : ℕ) (p q : Part) → slice_get chained k ≡ Some p → slice_get chained (suc k) ≡ Some q
      → (after : Spot) × (q.after ≡ Some after) × (after.text ≡ p.name.text)
