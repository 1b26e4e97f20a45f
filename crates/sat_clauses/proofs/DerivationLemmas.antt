-- Derivations that grow at their ends: what a client that makes or checks one step by step cites.
use Rattle.std.proofs.Common.{List, [], ◌∷◌, ◌++◌, refl, ap, subst}
use Rattle.sat_clauses.specs.declared.literal.Lit.{Lit}
use Rattle.sat_clauses.specs.declared.derivation.Link.{Link}
use Rattle.sat_clauses.specs.Derivations.{Resolution, Leads, Chain, Makes, Follow}

-- one link more
pub Chain-push : (known : List (List Lit)) (links : List Link) (link : Link) (start clause next : List Lit) → Chain known links start clause → Leads known link clause next → Chain known (links ++ link ∷ []) start next
Chain-push known [] link start clause next chain leads = (next, subst (λ c. Leads known link c next) chain leads, refl)
Chain-push known (l ∷ ls) link start clause next chain leads = (chain.0, chain.1, Chain-push known ls link chain.0 clause next chain.2 leads)

-- one step more
pub Follow-push : (known all : List (List Lit)) (steps : List Resolution) (step : Resolution) (clause : List Lit) → Follow known steps all → Makes all step clause → Follow known (steps ++ step ∷ []) (all ++ clause ∷ [])
Follow-push known all [] step clause follow makes = (clause, subst (λ k. Makes k step clause) follow makes, ap (λ k. k ++ clause ∷ []) follow)
Follow-push known all (s ∷ ss) step clause follow makes = (follow.0, follow.1, Follow-push (known ++ follow.0 ∷ []) all ss step clause follow.2 makes)
