-- The default order is allowed, so a configuration has at most one product.
use Rattle.std.proofs.Common.{◌≡◌, List, [], ◌∷◌, refl}
use Rattle.std.specs.List.{flat_map}
use Rattle.dj_tree.specs.Trees.{Part, Source}
use Rattle.dj_calculus.specs.Configurations.{Configuration}
use Rattle.dj_calculus.specs.Parts.{active, chain}
use Rattle.dj_calculus.specs.Products.{AllowedAlong, no_parts, part_and, Product}
use Rattle.dj_calculus.specs.Tables.{Table}
use Rattle.dj_calculus.proofs.Members.{same_some}

pub default_along : (source : Source) (c : Configuration) (parts : List Part) → AllowedAlong source c parts (flat_map (active source c) parts)
default_along source c [] = no_parts
default_along source c (p ∷ parts) = part_and (record { moves = []; below = tt; is = refl }) (default_along source c parts)

pub one_product : (source : Source) (c : Configuration) (t u : Table) → Product source c t → Product source c u → t ≡ u
one_product source c t u a b =
    let order = default_along source c (chain source) in
    same_some t u _ (a.each _ order) (b.each _ order)
