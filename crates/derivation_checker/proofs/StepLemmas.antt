-- Links and steps by their places, as the checker's loops reach them.
use Rattle.std.proofs.Common.{◌≡◌, ◌≢◌, ◌≤◌, ◌<◌, ◌+◌, ◌-◌, ℕ, zero, suc, true, ◌&&◌, List, [], ◌∷◌, ◌++◌, None, Some, Result, Ok, Err, IfErr, IsErrAnd, length, slice_get, get_or, take, drop, map, refl, sym, ap, subst, ◌∙◌, arith, append_assoc}
use Rattle.std.specs.declared.vec.Vec.{Vec}
use Rattle.std.proofs.lemmas.Bool.{and_parts}
use Rattle.std.proofs.lemmas.Option.{get_or_from_slice_get, slice_get_within}
use Rattle.std.proofs.lemmas.List.{take_more, take_all, take-append-drop, length-take-le, map-append, length-map}
use Rattle.sat_clauses.specs.declared.literal.Lit.{Lit}
use Rattle.sat_clauses.specs.declared.derivation.Link.{Link}
use Rattle.sat_clauses.specs.declared.derivation.Step.{Step}
use Rattle.sat_clauses.specs.Literals.{opposite}
use Rattle.sat_clauses.specs.ClauseLists.{has, resolvent, literal_lists}
use Rattle.sat_clauses.specs.Derivations.{Resolution, resolution_of, Leads, Chain, Makes, Follow}
use Rattle.sat_clauses.proofs.DerivationLemmas.{Chain-push, Follow-push}
use Rattle.derivation_checker.specs.declared.fault.StepFault.{StepFault}
use Rattle.derivation_checker.specs.declared.fault.CheckError.{CheckError}
use Rattle.derivation_checker.specs.declared.fault.CheckError.TheVariants.{Fault, NoMemory}
use Rattle.derivation_checker.specs.Faults.{IfFault, LinkHasFault, ChainHasFault, StepHasFault, StepsHaveFault}
use Rattle.derivation_checker.specs.Faults.StepHasFault.{in_chain}

-- no clause has a number past the end
pub past_end : {X : Type 0} (known : List X) (number : ℕ) → None ≡ slice_get known number → length known ≤ number
past_end [] number e = omega arith
past_end (x ∷ xs) zero e = cc
past_end (x ∷ xs) (suc n) e = let rest = past_end xs n e in omega arith

-- a list, split at a place
pub split_at : {X : Type 0} (xs : List X) (i : ℕ) (d : X) → i < length xs → xs ≡ take i xs ++ get_or xs i d ∷ drop (i + 1) xs
split_at xs i d h = sym (take-append-drop (i + 1) xs) ∙ ap (λ l. l ++ drop (i + 1) xs) (take_more xs i d h) ∙ append_assoc (take i xs) (get_or xs i d ∷ []) (drop (i + 1) xs)

-- the error of a callee is handed on
pub handed_on : {T : Type 0} (r : Result T CheckError) (x : CheckError) (P : CheckError → Type 0) → IsErrAnd r (λ e. e ≡ x) → P x → IsErrAnd r P
handed_on (Ok v) x P is p = is
handed_on (Err e) x P is p = subst P (sym is) p

pub if_err : {T : Type 0} (r : Result T CheckError) (P : CheckError → Type 0) → IsErrAnd r P → IfErr r P
if_err (Ok v) P p = absurd p
if_err (Err e) P p = p

module _ (known : List (List Lit)) (links : List Link) (place : ℕ) (none : Link) (start clause : List Lit) (within : place < length links) (chain : Chain known (take place links) start clause) where
  -- a link that has a fault
  pub chain_fault : (step : ℕ) (fault : StepFault) → LinkHasFault known step place (get_or links place none) clause fault → ChainHasFault known step links start fault
  chain_fault step fault here =
      record {
        before = take place links;
        link = get_or links place none;
        after = drop (place + 1) links;
        split = split_at links place none within;
        clause = clause;
        right = chain;
        here = subst (λ k. LinkHasFault known step k (get_or links place none) clause fault) (sym (length-take-le place links (omega arith))) here;
      }

  -- a link that leads on
  pub chain_more : (next other : List Lit) → slice_get known (get_or links place none).clause ≡ Some other
      → (has clause (get_or links place none).pivot && has other (opposite (get_or links place none).pivot)) ≡ true
      → next ≡ resolvent (get_or links place none).pivot clause other → Chain known (take (place + 1) links) start next
  chain_more next other at both resolved =
      let parts = and_parts (has clause (get_or links place none).pivot) (has other (opposite (get_or links place none).pivot)) both in
      let leads : Leads known (get_or links place none) clause next = record { other = other; numbered = at; pivot = parts.0; opposite = parts.1; resolved = resolved } in
      subst (λ ls. Chain known ls start next) (sym (take_more links place none within)) (Chain-push known (take place links) (get_or links place none) start clause next chain leads)

-- a step whose first clause is known: a link has a fault, or all links lead on
module _ (known : List (List Lit)) (step : Step) (links : List Link) (place : ℕ) (start begun clause : List Lit)
    (at : slice_get known step.first ≡ Some start) (begins : begun ≡ start) (those : links ≡ step.chain.items) (chain : Chain known (take place links) begun clause) where
  pub step_fault : (number : ℕ) (none : Link) (fault : StepFault) → place < length links → LinkHasFault known number place (get_or links place none) clause fault → StepHasFault known number (resolution_of step) fault
  step_fault number none fault within here =
      let found : ChainHasFault known number links begun fault = chain_fault known links place none begun clause within chain number fault here in
      let placed : ChainHasFault known number step.chain.items start fault = subst (λ b. ChainHasFault known number step.chain.items b fault) begins (subst (λ ls. ChainHasFault known number ls begun fault) those found) in
      in_chain start fault at placed

  pub step_makes : length links ≤ place → Makes known (resolution_of step) clause
  step_makes past =
      let whole : Chain known links begun clause = subst (λ ls. Chain known ls begun clause) (take_all place links past) chain in
      record { start = start; numbered = at; chain = subst (λ b. Chain known step.chain.items b clause) begins (subst (λ ls. Chain known ls begun clause) those whole) }

-- what follows from what is said of a fault
pub if_fault : (e : CheckError) (P Q : StepFault → Type 0) → ((fault : StepFault) → P fault → Q fault) → IfFault e P → IfFault e Q
if_fault (Fault fault) P Q h p = h fault p
if_fault NoMemory P Q h p = p

-- no elements
pub none_there : {X : Type 0} (xs : List X) → length xs ≤ 0 → xs ≡ []
none_there [] h = refl
none_there (x ∷ xs) h = absurd (omega arith)

-- the resolutions of steps, split at a place
pub split_steps : (steps : List Step) (place : ℕ) (none : Step) → place < length steps → map resolution_of steps ≡ map resolution_of (take place steps) ++ resolution_of (get_or steps place none) ∷ map resolution_of (drop (place + 1) steps)
split_steps steps place none within = ap (map resolution_of) (split_at steps place none within) ∙ map-append resolution_of (take place steps) (get_or steps place none ∷ drop (place + 1) steps)

module _ (clauses known : List (List Lit)) (steps : List Step) (place : ℕ) (none : Step) (within : place < length steps) (follow : Follow clauses (map resolution_of (take place steps)) known) where
  -- a step that has a fault
  pub steps_fault : (fault : StepFault) → StepHasFault known place (resolution_of (get_or steps place none)) fault → StepsHaveFault clauses (map resolution_of steps) fault
  steps_fault fault here =
      let count : length (map resolution_of (take place steps)) ≡ place = length-map (take place steps) resolution_of ∙ length-take-le place steps (omega arith) in
      record {
        before = map resolution_of (take place steps);
        step = resolution_of (get_or steps place none);
        after = map resolution_of (drop (place + 1) steps);
        split = split_steps steps place none within;
        known = known;
        right = follow;
        here = subst (λ k. StepHasFault known k (resolution_of (get_or steps place none)) fault) (sym count) here;
      }

  -- a step that makes a clause
  pub steps_more : (clause : List Lit) → Makes known (resolution_of (get_or steps place none)) clause → Follow clauses (map resolution_of (take (place + 1) steps)) (known ++ clause ∷ [])
  steps_more clause makes =
      let more : map resolution_of (take (place + 1) steps) ≡ map resolution_of (take place steps) ++ resolution_of (get_or steps place none) ∷ [] =
      ap (map resolution_of) (take_more steps place none within) ∙ map-append resolution_of (take place steps) (get_or steps place none ∷ []) in
      subst (λ ss. Follow clauses ss (known ++ clause ∷ [])) (sym more) (Follow-push clauses known (map resolution_of (take place steps)) (resolution_of (get_or steps place none)) clause follow makes)

-- one clause more
pub lists_push : {A : Type 0} (clauses : List (List Lit)) (made : List (Vec Lit A)) (clause : Vec Lit A) → clauses ++ literal_lists (made ++ clause ∷ []) ≡ (clauses ++ literal_lists made) ++ clause.items ∷ []
lists_push clauses made clause = ap (λ ls. clauses ++ ls) (map-append (λ c. c.items) made (clause ∷ [])) ∙ sym (append_assoc clauses (literal_lists made) (clause.items ∷ []))

-- the last of the clauses
pub at_last : {X : Type 0} (xs : List X) (x : X) → Some x ≡ slice_get xs (length xs - 1) → xs ≡ take (length xs - 1) xs ++ x ∷ []
at_last xs x at =
    let i = length xs - 1 in
    let within : i < length xs = slice_get_within xs i x (sym at) in
    sym (take_all (i + 1) xs (omega arith)) ∙ take_more xs i x within ∙ ap (λ y. take i xs ++ y ∷ []) (get_or_from_slice_get xs i x x (sym at))

-- the clauses that steps made, up to the last
module _ {A : Type 0} (clauses : List (List Lit)) (steps : List Step) (made : List (Vec Lit A)) (count : length made ≡ length steps) where
  pub no_steps_there : None ≡ slice_get made (length made - 1) → map resolution_of steps ≡ []
  no_steps_there at =
      let past : length made ≤ length made - 1 = past_end made (length made - 1) at in
      ap (map resolution_of) (none_there steps (omega arith))

  pub steps_there : (last : Vec Lit A) → Some last ≡ slice_get made (length made - 1) → map resolution_of steps ≢ []
  steps_there last at none =
      let within : length made - 1 < length made = slice_get_within made (length made - 1) last (sym at) in
      let zero_steps : length steps ≡ 0 = sym (length-map steps resolution_of) ∙ ap length none in
      omega arith

  pub right_steps : (last : Vec Lit A) → Some last ≡ slice_get made (length made - 1) → Follow clauses (map resolution_of steps) (clauses ++ literal_lists made)
      → Follow clauses (map resolution_of steps) ((clauses ++ literal_lists (take (length made - 1) made)) ++ last.items ∷ [])
  right_steps last at follow =
      let all : clauses ++ literal_lists made ≡ (clauses ++ literal_lists (take (length made - 1) made)) ++ last.items ∷ [] =
      ap (λ m. clauses ++ literal_lists m) (at_last made last at) ∙ lists_push clauses (take (length made - 1) made) last in
      subst (Follow clauses (map resolution_of steps)) all follow

-- all steps are right, and the last makes this clause
pub record EndsIn (clauses : List (List Lit)) (steps : List Resolution) (last : List Lit) : Type 0 where
  pub before : List (List Lit)
  pub some : steps ≢ []
  pub right : Follow clauses steps (before ++ last ∷ [])

pub ends_in : {A : Type 0} (clauses : List (List Lit)) (steps given : List Step) (made seen : List (Vec Lit A)) (last : Vec Lit A) → given ≡ steps → seen ≡ made → length made ≡ length given
    → Some last ≡ slice_get seen (length seen - 1) → Follow clauses (map resolution_of given) (clauses ++ literal_lists made) → EndsIn clauses (map resolution_of steps) last.items
ends_in clauses steps given made seen last those same count at follow =
    let all_made : length made ≡ length steps = count ∙ ap length those in
    let at_made : Some last ≡ slice_get made (length made - 1) = at ∙ ap (λ m. slice_get m (length m - 1)) same in
    let right : Follow clauses (map resolution_of steps) (clauses ++ literal_lists made) = subst (λ ss. Follow clauses (map resolution_of ss) (clauses ++ literal_lists made)) those follow in
    record {
      before = clauses ++ literal_lists (take (length made - 1) made);
      some = steps_there clauses steps made all_made last at_made;
      right = right_steps clauses steps made all_made last at_made right;
    }
