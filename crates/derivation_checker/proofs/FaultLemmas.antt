-- A derivation has one first fault, and none where it derives the empty clause.
use Rattle.std.proofs.Common.{◌≡◌, ◌≢◌, ◌⊎◌, ◌≤◌, ◌+◌, ℕ, true, List, [], ◌∷◌, ◌++◌, Some, length, slice_get, refl, sym, ap, subst, ◌∙◌, inl, inr, arith}
use Rattle.std.proofs.lemmas.Bool.{and_from, true≢false}
use Rattle.std.proofs.lemmas.Option.{same_Some, slice_get_within}
use Rattle.sat_clauses.specs.declared.literal.Lit.{Lit}
use Rattle.sat_clauses.specs.declared.derivation.Link.{Link}
use Rattle.sat_clauses.specs.Literals.{opposite}
use Rattle.sat_clauses.specs.ClauseLists.{has, resolvent}
use Rattle.sat_clauses.specs.Derivations.{Resolution, Leads, Chain, Makes, Follow, Derives}
use Rattle.derivation_checker.specs.declared.fault.StepFault.{StepFault}
use Rattle.derivation_checker.specs.declared.fault.StepFault.TheVariants.{NotEmpty}
use Rattle.derivation_checker.specs.declared.fault.CheckError.{CheckError}
use Rattle.derivation_checker.specs.declared.fault.CheckError.TheVariants.{Fault, NoMemory}
use Rattle.derivation_checker.specs.Faults.{IfFault, LinkHasFault, ChainHasFault, StepHasFault, StepsHaveFault, FirstFault}
use Rattle.derivation_checker.proofs.StepLemmas.{EndsIn}
use Rattle.derivation_checker.specs.Faults.LinkHasFault.{unknown, no_pivot}
use Rattle.derivation_checker.specs.Faults.StepHasFault.{unknown_first, in_chain}
use Rattle.derivation_checker.specs.Faults.FirstFault.{no_steps, in_step, not_empty}

-- a number that is known isn't past the end
known_not_past : (known : List (List Lit)) (id : ℕ) (clause : List Lit) → slice_get known id ≡ Some clause → length known ≤ id → ⊥
known_not_past known id clause at past = let within = slice_get_within known id clause at in omega arith

one_clause : (known : List (List Lit)) (id : ℕ) (a b : List Lit) → slice_get known id ≡ Some a → slice_get known id ≡ Some b → a ≡ b
one_clause known id a b p q = same_Some a b (sym p ∙ q)

-- a link leads to one clause, or has one fault
one_next : (known : List (List Lit)) (link : Link) (clause a b : List Lit) → Leads known link clause a → Leads known link clause b → a ≡ b
one_next known link clause a b p q =
    p.resolved ∙ ap (resolvent link.pivot clause) (one_clause known link.clause p.other q.other p.numbered q.numbered) ∙ sym q.resolved

leads_right : (known : List (List Lit)) (step place : ℕ) (link : Link) (clause next : List Lit) (fault : StepFault) → Leads known link clause next → LinkHasFault known step place link clause fault → ⊥
leads_right known step place link clause next _ leads (unknown past) = known_not_past known link.clause leads.other leads.numbered past
leads_right known step place link clause next _ leads (no_pivot other at lacks) =
    let same = one_clause known link.clause leads.other other leads.numbered at in
    let there : has other (opposite link.pivot) ≡ true = subst (λ o. has o (opposite link.pivot) ≡ true) same leads.opposite in
    true≢false (sym (and_from (has clause link.pivot) (has other (opposite link.pivot)) leads.pivot there) ∙ lacks)

one_link_fault : (known : List (List Lit)) (step place : ℕ) (link : Link) (clause : List Lit) (f g : StepFault) → LinkHasFault known step place link clause f → LinkHasFault known step place link clause g → f ≡ g
one_link_fault known step place link clause _ _ (unknown _) (unknown _) = refl
one_link_fault known step place link clause _ _ (unknown past) (no_pivot other at _) = absurd (known_not_past known link.clause other at past)
one_link_fault known step place link clause _ _ (no_pivot other at _) (unknown past) = absurd (known_not_past known link.clause other at past)
one_link_fault known step place link clause _ _ (no_pivot _ _ _) (no_pivot _ _ _) = refl

-- the fault of links, link by link
abbrev Along : List (List Lit) → ℕ → ℕ → List Link → List Lit → StepFault → Type 0
Along known step place [] clause fault = ⊥
Along known step place (link ∷ links) clause fault =
    LinkHasFault known step place link clause fault ⊎ ((next : List Lit) × Leads known link clause next × Along known step (place + 1) links next fault)

along : (known : List (List Lit)) (step place n : ℕ) (before after : List Link) (link : Link) (start clause : List Lit) (fault : StepFault) → n ≡ place + length before
    → Chain known before start clause → LinkHasFault known step n link clause fault → Along known step place (before ++ link ∷ after) start fault
along known step place n [] after link start clause fault e chain here =
    let same : n ≡ place = omega arith in
    inl (subst (λ c. LinkHasFault known step place link c fault) chain (subst (λ k. LinkHasFault known step k link clause fault) same here))
along known step place n (l ∷ ls) after link start clause fault e chain here =
    inr (chain.0, chain.1, along known step (place + 1) n ls after link chain.0 clause fault (omega arith) chain.2 here)

chain_along : (known : List (List Lit)) (step : ℕ) (links : List Link) (start : List Lit) (fault : StepFault) → ChainHasFault known step links start fault → Along known step 0 links start fault
chain_along known step links start fault h =
    subst (λ ls. Along known step 0 ls start fault) (sym h.split) (along known step 0 (length h.before) h.before h.after h.link start h.clause fault (omega arith) h.right h.here)

one_along : (known : List (List Lit)) (step place : ℕ) (links : List Link) (start : List Lit) (f g : StepFault) → Along known step place links start f → Along known step place links start g → f ≡ g
one_along known step place [] start f g p q = absurd p
one_along known step place (link ∷ links) start f g (inl p) (inl q) = one_link_fault known step place link start f g p q
one_along known step place (link ∷ links) start f g (inl p) (inr q) = absurd (leads_right known step place link start q.0 f q.1 p)
one_along known step place (link ∷ links) start f g (inr p) (inl q) = absurd (leads_right known step place link start p.0 g p.1 q)
one_along known step place (link ∷ links) start f g (inr p) (inr q) =
    one_along known step (place + 1) links q.0 f g (subst (λ c. Along known step (place + 1) links c f) (one_next known link start p.0 q.0 p.1 q.1) p.2) q.2

chain_right : (known : List (List Lit)) (step place : ℕ) (links : List Link) (start last : List Lit) (fault : StepFault) → Chain known links start last → Along known step place links start fault → ⊥
chain_right known step place [] start last fault chain h = h
chain_right known step place (link ∷ links) start last fault chain (inl h) = leads_right known step place link start chain.0 fault chain.1 h
chain_right known step place (link ∷ links) start last fault chain (inr h) =
    chain_right known step (place + 1) links h.0 last fault (subst (λ c. Chain known links c last) (one_next known link start chain.0 h.0 chain.1 h.1) chain.2) h.2

one_last : (known : List (List Lit)) (links : List Link) (start a b : List Lit) → Chain known links start a → Chain known links start b → a ≡ b
one_last known [] start a b p q = p ∙ sym q
one_last known (link ∷ links) start a b p q =
    one_last known links q.0 a b (subst (λ c. Chain known links c a) (one_next known link start p.0 q.0 p.1 q.1) p.2) q.2

-- a step makes one clause, or has one fault
one_made : (known : List (List Lit)) (step : Resolution) (a b : List Lit) → Makes known step a → Makes known step b → a ≡ b
one_made known step a b p q =
    one_last known step.links q.start a b (subst (λ s. Chain known step.links s a) (one_clause known step.first p.start q.start p.numbered q.numbered) p.chain) q.chain

step_right : (known : List (List Lit)) (number : ℕ) (step : Resolution) (clause : List Lit) (fault : StepFault) → Makes known step clause → StepHasFault known number step fault → ⊥
step_right known number step clause _ makes (unknown_first past) = known_not_past known step.first makes.start makes.numbered past
step_right known number step clause _ makes (in_chain start fault at h) =
    chain_right known number 0 step.links start clause fault (subst (λ s. Chain known step.links s clause) (one_clause known step.first makes.start start makes.numbered at) makes.chain) (chain_along known number step.links start fault h)

one_step_fault : (known : List (List Lit)) (number : ℕ) (step : Resolution) (f g : StepFault) → StepHasFault known number step f → StepHasFault known number step g → f ≡ g
one_step_fault known number step _ _ (unknown_first _) (unknown_first _) = refl
one_step_fault known number step _ _ (unknown_first past) (in_chain start g at _) = absurd (known_not_past known step.first start at past)
one_step_fault known number step _ _ (in_chain start f at _) (unknown_first past) = absurd (known_not_past known step.first start at past)
one_step_fault known number step _ _ (in_chain start f at h) (in_chain other g by k) =
    one_along known number 0 step.links other f g (chain_along known number step.links other f (subst (λ s. ChainHasFault known number step.links s f) (one_clause known step.first start other at by) h)) (chain_along known number step.links other g k)

-- the fault of steps, step by step
abbrev Onward : List (List Lit) → ℕ → List Resolution → StepFault → Type 0
Onward known number [] fault = ⊥
Onward known number (step ∷ steps) fault =
    StepHasFault known number step fault ⊎ ((clause : List Lit) × Makes known step clause × Onward (known ++ clause ∷ []) (number + 1) steps fault)

onward : (known all : List (List Lit)) (number n : ℕ) (before after : List Resolution) (step : Resolution) (fault : StepFault) → n ≡ number + length before
    → Follow known before all → StepHasFault all n step fault → Onward known number (before ++ step ∷ after) fault
onward known all number n [] after step fault e follow here =
    let same : n ≡ number = omega arith in
    inl (subst (λ k. StepHasFault k number step fault) follow (subst (λ k. StepHasFault all k step fault) same here))
onward known all number n (s ∷ ss) after step fault e follow here =
    inr (follow.0, follow.1, onward (known ++ follow.0 ∷ []) all (number + 1) n ss after step fault (omega arith) follow.2 here)

steps_onward : (known : List (List Lit)) (steps : List Resolution) (fault : StepFault) → StepsHaveFault known steps fault → Onward known 0 steps fault
steps_onward known steps fault h =
    subst (λ ss. Onward known 0 ss fault) (sym h.split) (onward known h.known 0 (length h.before) h.before h.after h.step fault (omega arith) h.right h.here)

one_onward : (known : List (List Lit)) (number : ℕ) (steps : List Resolution) (f g : StepFault) → Onward known number steps f → Onward known number steps g → f ≡ g
one_onward known number [] f g p q = absurd p
one_onward known number (step ∷ steps) f g (inl p) (inl q) = one_step_fault known number step f g p q
one_onward known number (step ∷ steps) f g (inl p) (inr q) = absurd (step_right known number step q.0 f q.1 p)
one_onward known number (step ∷ steps) f g (inr p) (inl q) = absurd (step_right known number step p.0 g p.1 q)
one_onward known number (step ∷ steps) f g (inr p) (inr q) =
    one_onward (known ++ q.0 ∷ []) (number + 1) steps f g (subst (λ c. Onward (known ++ c ∷ []) (number + 1) steps f) (one_made known step p.0 q.0 p.1 q.1) p.2) q.2

steps_right : (known all : List (List Lit)) (number : ℕ) (steps : List Resolution) (fault : StepFault) → Follow known steps all → Onward known number steps fault → ⊥
steps_right known all number [] fault follow h = h
steps_right known all number (step ∷ steps) fault follow (inl h) = step_right known number step follow.0 fault follow.1 h
steps_right known all number (step ∷ steps) fault follow (inr h) =
    steps_right (known ++ h.0 ∷ []) all (number + 1) steps fault (subst (λ c. Follow (known ++ c ∷ []) steps all) (one_made known step follow.0 h.0 follow.1 h.1) follow.2) h.2

one_all : (known a b : List (List Lit)) (steps : List Resolution) → Follow known steps a → Follow known steps b → a ≡ b
one_all known a b [] p q = p ∙ sym q
one_all known a b (step ∷ steps) p q =
    one_all (known ++ q.0 ∷ []) a b steps (subst (λ c. Follow (known ++ c ∷ []) steps a) (one_made known step p.0 q.0 p.1 q.1) p.2) q.2

-- steps that are all right have no fault of their own
pub follow_right : (known all : List (List Lit)) (steps : List Resolution) (fault : StepFault) → Follow known steps all → StepsHaveFault known steps fault → ⊥
follow_right known all steps fault follow h = steps_right known all 0 steps fault follow (steps_onward known steps fault h)

pub one_fault : (known : List (List Lit)) (steps : List Resolution) (f g : StepFault) → StepsHaveFault known steps f → StepsHaveFault known steps g → f ≡ g
one_fault known steps f g p q = one_onward known 0 steps f g (steps_onward known steps f p) (steps_onward known steps g q)

no_fault_in_none : (known : List (List Lit)) (steps : List Resolution) (fault : StepFault) → steps ≡ [] → StepsHaveFault known steps fault → ⊥
no_fault_in_none known steps fault e h = follow_right known known [] fault refl (subst (λ ss. StepsHaveFault known ss fault) e h)

-- the last of the clauses
abbrev last_of : List Lit → List (List Lit) → List Lit
last_of none [] = none
last_of none (clause ∷ clauses) = last_of clause clauses

last_of-push : (none : List Lit) (clauses : List (List Lit)) (clause : List Lit) → last_of none (clauses ++ clause ∷ []) ≡ clause
last_of-push none [] clause = refl
last_of-push none (c ∷ cs) clause = last_of-push c cs clause

last_one : (before other : List (List Lit)) (a b : List Lit) → before ++ a ∷ [] ≡ other ++ b ∷ [] → a ≡ b
last_one before other a b e = sym (last_of-push [] before a) ∙ ap (last_of []) e ∙ last_of-push [] other b

-- steps with a fault of their own have it as the first, and no steps have theirs
pub first_of_steps : (clauses : List (List Lit)) (steps : List Resolution) (fault first : StepFault) → StepsHaveFault clauses steps fault → FirstFault clauses steps first → fault ≡ first
first_of_steps clauses steps fault _ h (no_steps e) = absurd (no_fault_in_none clauses steps fault e h)
first_of_steps clauses steps fault _ h (in_step first k) = one_fault clauses steps fault first h k
first_of_steps clauses steps fault _ h (not_empty before last some follow other) = absurd (follow_right clauses (before ++ last ∷ []) steps fault follow h)

-- what the last clause of right steps says
module _ (clauses : List (List Lit)) (steps : List Resolution) (last : List Lit) (ends : EndsIn clauses steps last) where
  pub derives_empty : last ≡ [] → Derives clauses steps
  derives_empty e = record { before = ends.before; some = ends.some; follow = subst (λ l. Follow clauses steps (ends.before ++ l ∷ [])) e ends.right }

  pub derived_last : Derives clauses steps → last ≡ []
  derived_last derives = last_one ends.before derives.before last [] (one_all clauses (ends.before ++ last ∷ []) (derives.before ++ [] ∷ []) steps ends.right derives.follow)

  pub ends_in_fault : last ≢ [] → FirstFault clauses steps NotEmpty
  ends_in_fault other = not_empty ends.before last ends.some ends.right other

  pub first_of_right : (first : StepFault) → FirstFault clauses steps first → (NotEmpty ≡ first) × (last ≢ [])
  first_of_right _ (no_steps e) = absurd (ends.some e)
  first_of_right _ (in_step first h) = absurd (follow_right clauses (ends.before ++ last ∷ []) steps first ends.right h)
  first_of_right _ (not_empty others end some follow other) =
      (refl, λ e. other (last_one others ends.before end last (one_all clauses (others ++ end ∷ []) (ends.before ++ last ∷ []) steps follow ends.right) ∙ e))

-- where steps have no fault of their own, an error that has one is want of memory
pub memory_alone : (error : CheckError) (clauses : List (List Lit)) (steps : List Resolution) → Derives clauses steps → IfFault error (StepsHaveFault clauses steps) → error ≡ NoMemory
memory_alone (Fault fault) clauses steps derives h = absurd (follow_right clauses (derives.before ++ [] ∷ []) steps fault derives.follow h)
memory_alone NoMemory clauses steps derives h = refl
