use Rattle.std.proofs.Common.{[], ◌∷◌, refl, arith}
use Rattle.dj_calculus.specs.Products.{no_parts, part_and}
use Rattle.dj_calculus.specs.Parts.{chain}
use Rattle.dj_calculus.specs.Samples.S13
use Rattle.dj_calculus.proofs.ProductLemmas.{default_along}
use Rattle.dj_calculus.proofs.TwoOrders.{every_order}
use Rattle.dj_calculus.proofs.examples.disjoint_deltas.Goals as goal

pub returns : goal.returns
returns c =
    record {
      as_written = default_along S13.sample [] (chain S13.sample);
      turned = part_and {mine = S13.delta_p ∷ []} (record { moves = []; below = tt; is = refl }) (part_and {mine = S13.delta_r ∷ S13.delta_q ∷ []} (record { moves = (0, 1) ∷ []; below = (omega arith, omega arith, tt); is = refl }) no_parts);
      product = record { each = every_order };
    }
