-- The operations of the active deltas of a part.
use Rattle.std.proofs.Common.{◌≡◌, ℕ, zero, suc, ◌+◌, ◌<◌, ◌≤◌, Bool, true, false, cond, List, [], ◌∷◌, ◌++◌, map, take, length, filter, slice_get, get_or, Some, refl, sym, ap, ◌∙◌, arith}
use Rattle.std.specs.List.{flat_map, cons_option}
use Rattle.std.specs.Option.{option_map}
use Rattle.std.proofs.lemmas.List.{append-nil, take_more, take_all}
use Rattle.std.proofs.lemmas.List.Elements.{filter-append, filter_map-append}
use Rattle.std.proofs.lemmas.Grind.{flat_map-append}
use Rattle.std.proofs.lemmas.Option.{slice_get-map}
use Rattle.dj_tree.specs.Trees as plain
use Rattle.dj_tree.specs.Trees.{Delta, Operation}
use Rattle.dj_tree.specs.Plain.{plain_delta, plain_operation, plain_source}
use Rattle.dj_tree.specs.declared.declarations.ClassOp.{ClassOp}
use Rattle.dj_tree.specs.declared.declarations.DeltaDecl.{DeltaDecl}
use Rattle.dj_tree.specs.declared.source.Source.{Source}
use Rattle.dj_calculus.specs.Configurations.{Configuration}
use Rattle.dj_line.specs.Orders.{plain_order, is_active}
use Rattle.dj_apply.specs.ActiveOperations.{active_operations}

-- the delta of one number
one_active : (source : plain.Source) (b : Bool) (delta : ℕ) (d : Delta) → b ≡ true → slice_get source.deltas delta ≡ Some d
    → flat_map (λ (d : Delta). d.operations) (plain_order source (cond b (delta ∷ []) [])) ≡ d.operations
one_active source true delta d on here = ap (λ o. flat_map (λ (d : Delta). d.operations) (cons_option o [])) here ∙ append-nil d.operations
one_active source false delta d on here = absurd cc

pub active_delta : (s : Source) (line : plain.Source) (c : Configuration) (delta : ℕ) (d : DeltaDecl) → plain_source s ≡ line → slice_get s.deltas delta ≡ Some d → is_active line c delta ≡ true
    → map (plain_operation s.names s.exprs) d.ops ≡ active_operations line c (delta ∷ [])
active_delta s line c delta d is here on =
    let there : slice_get line.deltas delta ≡ Some (plain_delta s.names s.exprs d) =
    ap (λ (x : plain.Source). slice_get x.deltas delta) (sym is) ∙ slice_get-map (plain_delta s.names s.exprs) s.deltas delta ∙ ap (option_map (plain_delta s.names s.exprs)) here in
    sym (one_active line (is_active line c delta) delta (plain_delta s.names s.exprs d) on there)

-- the element of a number that is there
there_at : {X : Type 0} (xs : List X) (k : ℕ) → k < length xs → (x : X) × (slice_get xs k ≡ Some x)
there_at [] k low = absurd (omega (arith, low))
there_at (x ∷ xs) zero low = (x, refl)
there_at (x ∷ xs) (suc k) low = there_at xs k (omega (arith, low))

-- what is said to be the operations of the delta of a number
pub active_operations_are : (s : Source) (line : plain.Source) (c : Configuration) (delta : ℕ) (ops : List ClassOp) → plain_source s ≡ line → delta < length line.deltas
    → ((d : Delta) → slice_get (plain_source s).deltas delta ≡ Some d → d.operations ≡ map (plain_operation s.names s.exprs) ops) → is_active line c delta ≡ true
    → map (plain_operation s.names s.exprs) ops ≡ active_operations line c (delta ∷ [])
active_operations_are s line c delta ops is low are on =
    let d = there_at line.deltas delta low in
    sym (are d.0 (ap (λ (x : plain.Source). slice_get x.deltas delta) is ∙ d.1)) ∙ sym (one_active line (is_active line c delta) delta d.0 on d.1)

pub none_active : (source : plain.Source) (b : Bool) (delta : ℕ) → b ≡ false → flat_map (λ (d : Delta). d.operations) (plain_order source (cond b (delta ∷ []) [])) ≡ []
none_active source true delta off = absurd cc
none_active source false delta off = refl

pub inactive_delta : (line : plain.Source) (c : Configuration) (delta : ℕ) (xs : List Operation) → is_active line c delta ≡ false → xs ≡ xs ++ active_operations line c (delta ∷ [])
inactive_delta line c delta xs off = sym (ap (λ ys. xs ++ ys) (none_active line (is_active line c delta) delta off) ∙ append-nil xs)

-- ---- several deltas

pub operations_append : (line : plain.Source) (c : Configuration) (ms ns : List ℕ) → active_operations line c (ms ++ ns) ≡ active_operations line c ms ++ active_operations line c ns
operations_append line c ms ns =
    ap (λ xs. flat_map (λ (d : Delta). d.operations) (plain_order line xs)) (filter-append (is_active line c) ms ns)
    ∙ ap (flat_map (λ (d : Delta). d.operations)) (filter_map-append (slice_get line.deltas) (filter (is_active line c) ms) (filter (is_active line c) ns))
    ∙ flat_map-append (λ (d : Delta). d.operations) (plain_order line (filter (is_active line c) ms)) (plain_order line (filter (is_active line c) ns))

pub operations_next : (line : plain.Source) (c : Configuration) (numbers : List ℕ) (i d : ℕ) (xs ys : List Operation) → i < length numbers → xs ≡ active_operations line c (take i numbers)
    → ys ≡ xs ++ active_operations line c (get_or numbers i d ∷ []) → ys ≡ active_operations line c (take (i + 1) numbers)
operations_next line c numbers i d xs ys low so_far is =
    is ∙ ap (λ zs. zs ++ active_operations line c (get_or numbers i d ∷ [])) so_far
    ∙ sym (ap (active_operations line c) (take_more numbers i d low) ∙ operations_append line c (take i numbers) (get_or numbers i d ∷ []))

pub operations_all : (line : plain.Source) (c : Configuration) (numbers : List ℕ) (i : ℕ) (xs : List Operation) → length numbers ≤ i → xs ≡ active_operations line c (take i numbers) → xs ≡ active_operations line c numbers
operations_all line c numbers i xs high so_far = so_far ∙ ap (active_operations line c) (take_all i numbers high)
