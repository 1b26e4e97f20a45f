-- Lemmas for clients that apply the operations of a part one after the other. The other files here that clients may cite: `FaultProofs`
-- (faults and broken rules, what an attempt makes), `MemberOrders` (members and steps in another order), `Clear` (operations that keep each
-- other's faults), `OnePart` and `PassProofs` (one part more: `part_makes_next`, `least_met_counts`; the end: `all_make_product`,
-- `clean_with_product`), `ConflictProofs` (`conflict_of`, `least_conflict_prevents`, `disjoint_from`).
use Rattle.std.proofs.Common.{◌≡◌, ◌⊎◌, inl, inr, ℕ, ◌<◌, ◌≤◌, List, [], ◌∷◌, ◌++◌, Some, Contains, append_assoc, refl, sym, ap, ◌∙◌, subst, arith}
use Rattle.std.specs.List.{flat_map}
use Rattle.std.specs.List.Sorted.{IsPermutation}
use Rattle.std.proofs.lemmas.List.Elements.{Contains-append_left, Contains-append_right}
use Rattle.std.proofs.lemmas.List.Sorted.{IsPermutation-refl, IsPermutation-trans, IsPermutation-append, IsPermutation-append_left, IsPermutation-append_right, IsPermutation-append_comm}
use Rattle.dj_tree.specs.declared.source.Instance.{Instance}
use Rattle.dj_tree.specs.Trees.{Operation, adds_class, modifies_class, removes_class}
use Rattle.dj_calculus.specs.Tables.{Table}
use Rattle.dj_calculus.specs.Operations.{apply}
use Rattle.dj_calculus.specs.Instances.{IsLeast}
use Rattle.dj_calculus.specs.LineRules.{OperationRule}
use Rattle.dj_calculus.proofs.Members.{either, in_front_or_behind}
use Rattle.dj_calculus.proofs.Independence.{Reordered, same, keep, crossed, joined, reordered}
use Rattle.dj_product_laws.specs.OperationFaults.{faults}
use Rattle.dj_product_laws.specs.Passes.{unless_broken, attempt, attempt_all, met, SameMembers, adds, modifies, removes, AllSameMembers, no_operations, operation_and, IsAnOrder}
use Rattle.dj_product_laws.specs.LeastPairs.{IsLeastPair}
use Rattle.dj_product_laws.proofs.FaultProofs.{rule_from, rule_told}
use Rattle.dj_product_laws.proofs.OnePart.{no_elements}

-- ---- an attempt, by the rules that the operation breaks

-- where it breaks none it has no fault
pub no_faults : (t : Table) (x : Operation) → ((rule at : ℕ) → ¬ (OperationRule t x rule at)) → faults t x ≡ []
no_faults t x sound = no_elements (faults t x) (λ q has. sound q.0 q.1 (rule_from t x q has))

-- and the attempt is what it makes
pub attempt_makes : (t u : Table) (x : Operation) → ((rule at : ℕ) → ¬ (OperationRule t x rule at)) → apply x t ≡ Some u → attempt x t ≡ u
attempt_makes t u x sound makes = rw (no_faults t x sound, makes) refl

-- where it breaks one, nothing changes
pub attempt_stays : (t : Table) (x : Operation) (rule at : ℕ) → OperationRule t x rule at → attempt x t ≡ t
attempt_stays t x rule at breaks = stays (faults t x) (rule_told t x rule at breaks)
  where
    stays : (fs : List (ℕ × ℕ)) → Contains fs (rule, at) → unless_broken fs (apply x t) t ≡ t
    stays [] (k, low, is) = absurd (omega arith)
    stays (f ∷ fs) has = refl

-- ---- operation by operation

pub attempt_all_append : (xs ys : List Operation) (t : Table) → attempt_all (xs ++ ys) t ≡ attempt_all ys (attempt_all xs t)
attempt_all_append [] ys t = refl
attempt_all_append (x ∷ xs) ys t = attempt_all_append xs ys (attempt x t)

pub met_append : (xs ys : List Operation) (t : Table) → met (xs ++ ys) t ≡ met xs t ++ met ys (attempt_all xs t)
met_append [] ys t = refl
met_append (x ∷ xs) ys t =
    ap (λ fs. faults t x ++ fs) (met_append xs ys (attempt x t)) ∙ sym (append_assoc (faults t x) (met xs (attempt x t)) (met ys (attempt_all xs (attempt x t))))

-- what is met with one operation more: what was met, and what it breaks on the running table
pub met_more : (xs : List Operation) (x : Operation) (t : Table) (rule at : ℕ) → Contains (met (xs ++ x ∷ []) t) (rule, at)
    → Contains (met xs t) (rule, at) ⊎ OperationRule (attempt_all xs t) x rule at
met_more xs x t rule at has =
    let u = attempt_all xs t in
    either (in_front_or_behind (met xs t) (met (x ∷ []) u) (rule, at) (subst (λ fs. Contains {X = ℕ × ℕ} fs (rule, at)) (met_append xs (x ∷ []) t) has)) (λ before. inl before)
    (λ here. either (in_front_or_behind (faults u x) [] (rule, at) here) (λ fault. inr (rule_from u x (rule, at) fault)) (λ nothing. absurd (omega (arith, nothing.1))))

pub met_still : (xs : List Operation) (x : Operation) (t : Table) (q : ℕ × ℕ) → Contains (met xs t) q → Contains (met (xs ++ x ∷ []) t) q
met_still xs x t q has =
    subst (λ fs. Contains fs q) (sym (met_append xs (x ∷ []) t)) (Contains-append_left (met xs t) (met (x ∷ []) (attempt_all xs t)) q has)

pub met_now : (xs : List Operation) (x : Operation) (t : Table) (rule at : ℕ) → OperationRule (attempt_all xs t) x rule at
    → Contains (met (xs ++ x ∷ []) t) (rule, at)
met_now xs x t rule at breaks =
    let u = attempt_all xs t in
    subst (λ fs. Contains {X = ℕ × ℕ} fs (rule, at)) (sym (met_append xs (x ∷ []) t))
    (Contains-append_right (met xs t) (met (x ∷ []) u) (rule, at) (Contains-append_left (faults u x) [] (rule, at) (rule_told u x rule at breaks)))

-- ---- orders of operations

-- an operation is itself
pub same_operation : (x : Operation) → SameMembers x x
same_operation (adds_class c) = adds {name = c.name} {parent = c.parent} (IsPermutation-refl c.fields) (IsPermutation-refl c.methods)
same_operation (modifies_class c) = modifies {name = c.name} {parent = c.parent} (IsPermutation-refl c.members)
same_operation (removes_class c) = removes

all_themselves : (xs : List Operation) → AllSameMembers xs xs
all_themselves [] = no_operations
all_themselves (x ∷ xs) = operation_and (same_operation x) (all_themselves xs)

-- a permutation is an order
pub order_of : (operations xs : List Operation) → IsPermutation operations xs → IsAnOrder operations xs
order_of operations xs permuted = record { order = xs; permuted = permuted; members = all_themselves xs }

-- an order of a permutation is an order
pub order_after : (operations others xs : List Operation) → IsPermutation operations others → IsAnOrder others xs → IsAnOrder operations xs
order_after operations others xs permuted o =
    record { order = o.order; permuted = IsPermutation-trans operations others o.order permuted o.permuted; members = o.members }

all_append : (us vs xs ys : List Operation) → AllSameMembers us xs → AllSameMembers vs ys → AllSameMembers (us ++ vs) (xs ++ ys)
all_append us vs xs ys no_operations more = more
all_append us vs xs ys (operation_and {xs = rest} {ys = others} alike all) more = operation_and alike (all_append rest vs others ys all more)

-- orders of two lists, one behind the other
pub order_append : (us vs xs ys : List Operation) → IsAnOrder us xs → IsAnOrder vs ys → IsAnOrder (us ++ vs) (xs ++ ys)
order_append us vs xs ys o p =
    record { order = o.order ++ p.order; permuted = IsPermutation-append us o.order vs p.order o.permuted p.permuted; members = all_append o.order p.order xs ys o.members p.members }

-- one operation, its members in another order
pub order_of_one : (x y : Operation) → SameMembers x y → IsAnOrder (x ∷ []) (y ∷ [])
order_of_one x y alike = record { order = x ∷ []; permuted = IsPermutation-refl (x ∷ []); members = operation_and alike no_operations }

pub order_of_none : IsAnOrder [] []
order_of_none = record { order = []; permuted = IsPermutation-refl []; members = no_operations }

-- what the elements of a list give, the elements in another order
flat_reordered : {X Y : Type 0} (f : X → List Y) (xs ys : List X) → Reordered xs ys → IsPermutation (flat_map f xs) (flat_map f ys)
flat_reordered f xs ys same = IsPermutation-refl (flat_map f xs)
flat_reordered f xs ys (keep x {xs = us} {ys = vs} r) = IsPermutation-append_right (f x) (flat_map f us) (flat_map f vs) (flat_reordered f us vs r)
flat_reordered f xs ys (crossed x y {xs = rest}) =
    rw (← append_assoc (f x) (f y) (flat_map f rest), ← append_assoc (f y) (f x) (flat_map f rest))
    (IsPermutation-append_left (flat_map f rest) (f x ++ f y) (f y ++ f x) (IsPermutation-append_comm (f x) (f y)))
flat_reordered f xs ys (joined {ys = ms} p q) =
    IsPermutation-trans (flat_map f xs) (flat_map f ms) (flat_map f ys) (flat_reordered f xs ms p) (flat_reordered f ms ys q)

pub flat_permuted : {X Y : Type 0} (f : X → List Y) (xs ys : List X) → IsPermutation xs ys → IsPermutation (flat_map f xs) (flat_map f ys)
flat_permuted f xs ys permuted = flat_reordered f xs ys (reordered xs ys permuted)

-- ---- least pairs

pub one_least_pair : (P : ℕ → ℕ → Type 0) (a b c d : ℕ) → IsLeastPair P a b → IsLeastPair P c d → (a ≡ c) × (b ≡ d)
one_least_pair P a b c d one other = (first, second)
  where
    lower : (a < c) ⊎ ((a ≡ c) × (b ≤ d))
    lower = one.least c d other.is

    higher : (c < a) ⊎ ((c ≡ a) × (d ≤ b))
    higher = other.least a b one.is

    first : a ≡ c
    first = grind (arith, lower, higher)

    second : b ≡ d
    second = grind (arith, lower, higher)

-- of what holds of the same pairs
pub least_moved : (P Q : ℕ → ℕ → Type 0) (a b : ℕ) → ((p q : ℕ) → P p q → Q p q) → ((p q : ℕ) → Q p q → P p q) → IsLeastPair P a b → IsLeastPair Q a b
least_moved P Q a b onward back l = record { is = onward a b l.is; least = λ p q has. l.least p q (back p q has) }

-- of either of two, where it is no greater than the least of the other
pub least_of_either : (P Q : ℕ → ℕ → Type 0) (a b c d : ℕ) → IsLeastPair P a b → IsLeastPair Q c d → (a < c) ⊎ ((a ≡ c) × (b ≤ d))
    → IsLeastPair (λ p q. P p q ⊎ Q p q) a b
least_of_either P Q a b c d one other low =
    record { is = inl one.is; least = λ p q has. either has (λ of_one. one.least p q of_one) (λ of_other. after a b c d p q low (other.least p q of_other)) }
  where
    after : (a b c d p q : ℕ) → (a < c) ⊎ ((a ≡ c) × (b ≤ d)) → (c < p) ⊎ ((c ≡ p) × (d ≤ q)) → (a < p) ⊎ ((a ≡ p) × (b ≤ q))
    after a b c d p q low high = grind arith

-- and where the other holds of none
pub least_of_one : (P Q : ℕ → ℕ → Type 0) (a b : ℕ) → IsLeastPair P a b → ((p q : ℕ) → ¬ (Q p q)) → IsLeastPair (λ p q. P p q ⊎ Q p q) a b
least_of_one P Q a b one none =
    record { is = inl one.is; least = λ p q has. either has (λ of_one. one.least p q of_one) (λ of_other. absurd (none p q of_other)) }

pub either_turned : (P Q : ℕ → ℕ → Type 0) (a b : ℕ) → IsLeastPair (λ p q. P p q ⊎ Q p q) a b → IsLeastPair (λ p q. Q p q ⊎ P p q) a b
either_turned P Q a b l =
    least_moved (λ p q. P p q ⊎ Q p q) (λ p q. Q p q ⊎ P p q) a b (λ p q has. either has (λ x. inr x) (λ x. inl x)) (λ p q has. either has (λ x. inr x) (λ x. inl x)) l

-- ---- pairs and instances

-- the least instance of rules with one place, as a pair of rule and place
pub pair_of_least : (P : ℕ → ℕ → Type 0) (i : Instance) → IsLeast (λ j. P j.rule j.at × (j.second ≡ j.at)) i → IsLeastPair P i.rule i.at
pair_of_least P i l =
    record { is = l.is.0; least = λ p q has. lexical i.rule i.at i.second p q (l.least (record { rule = p; at = q; second = q }) (has, refl)) }
  where
    lexical : (a b s p q : ℕ) → (a < p) ⊎ ((a ≡ p) × ((b < q) ⊎ ((b ≡ q) × (s ≤ q)))) → (a < p) ⊎ ((a ≡ p) × (b ≤ q))
    lexical a b s p q h = grind arith

-- the least instance of rule 1, as a pair of its places
pub places_of_least : (P : ℕ → ℕ → Type 0) (i : Instance) → IsLeast (λ j. (j.rule ≡ 1) × P j.at j.second) i → IsLeastPair P i.at i.second
places_of_least P i l =
    record { is = l.is.1; least = λ p q has. lexical i.rule i.at i.second p q l.is.0 (l.least (record { rule = 1; at = p; second = q }) (refl, has)) }
  where
    lexical : (r a b p q : ℕ) → r ≡ 1 → (r < 1) ⊎ ((r ≡ 1) × ((a < p) ⊎ ((a ≡ p) × (b ≤ q)))) → (a < p) ⊎ ((a ≡ p) × (b ≤ q))
    lexical r a b p q e h = grind arith

-- an instance with one place is that of its rule and its place
pub with_one_place : (i : Instance) → i.second ≡ i.at → record { rule = i.rule; at = i.at; second = i.at } ≡ i
with_one_place i e = ap (λ s. record i { second = s }) (sym e)
