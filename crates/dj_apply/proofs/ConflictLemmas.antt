-- Conflicts of the active deltas of a part, with one delta more behind the others, and of the parts of a chain.
use Rattle.std.proofs.Common.{◌≡◌, ◌⊎◌, inl, inr, ℕ, zero, suc, ◌+◌, ◌<◌, ◌≤◌, Bool, true, false, cond, List, [], ◌∷◌, ◌++◌, length, map, take, filter, slice_get, get_or, Option, None, Some, refl, sym, ap, ◌∙◌, subst, arith}
use Rattle.std.specs.List.{flat_map, cons_option}
use Rattle.std.proofs.lemmas.List.{append-nil, append_assoc, map-append, take_more, take_all}
use Rattle.std.proofs.lemmas.List.Elements.{filter-append, filter_map-append}
use Rattle.std.proofs.lemmas.Grind.{flat_map-append}
use Rattle.std.proofs.lemmas.Option.{slice_get_within, slice_get-map, get_or_from_slice_get}
use Rattle.arena_walk.proofs.ForestLemmas.{slice_get-append, slice_get-push}
use Rattle.dj_names.specs.Texts.{Text}
use Rattle.dj_tree.specs.Trees.{Delta, Operation, Part, Source}
use Rattle.dj_tree.specs.Plain.{plain_operation}
use Rattle.dj_tree.specs.declared.expression.ExprNode.{ExprNode}
use Rattle.dj_tree.specs.declared.declarations.ClassOp.{ClassOp}
use Rattle.dj_calculus.specs.Accepted.{IsAccepted}
use Rattle.dj_calculus.specs.Configurations.{Configuration}
use Rattle.dj_calculus.specs.Conflicts.{ConflictAt}
use Rattle.dj_calculus.specs.Parts.{chain, active}
use Rattle.dj_calculus.specs.Things as calculus
use Rattle.dj_calculus.specs.Things.{touched_by}
use Rattle.dj_calculus.proofs.Counting.{got_within, number_in}
use Rattle.dj_calculus.proofs.Members.{either, from_flat, mapped, no_element, within_flat}
use Rattle.dj_line.specs.Orders.{plain_order, is_active}
use Rattle.dj_line.specs.Placing.{numbers_of, numbers_along}
use Rattle.dj_line.proofs.ActiveOrders.{active_part}
use Rattle.dj_product_laws.specs.LineConflicts.{ConflictIn}
use Rattle.dj_product_laws.specs.LeastPairs.{IsLeastPair}
use Rattle.dj_product_laws.proofs.OverlapProofs.{delta_by_delta, part_by_part}
use Rattle.dj_apply.specs.ActiveOperations.{active_deltas, active_operations}
use Rattle.dj_apply.specs.Least.{IsLeastBy, IsEarlierOf, Among}
use Rattle.dj_apply.specs.Overlaps.{IsNoLater, ThingsClash, OperationsClash, DeltasClash, PartClash}
use Rattle.dj_apply.specs.declared.overlaps.Thing.{Thing}
use Rattle.dj_apply.proofs.LeastLemmas.{least_same, least_either}
use Rattle.dj_apply.proofs.OverlapLemmas.{no_later_joins, clash_from, conflict_from}

abbrev pub operations_in_all : List Delta → List Operation
operations_in_all ds = flat_map (λ (d : Delta). d.operations) ds

-- with no other operations nothing conflicts, nor without deltas
pub none_clash : (xs : List Operation) → IsLeastBy IsNoLater (OperationsClash xs []) None
none_clash xs found clash = no_element clash.2.0 clash.2.1

-- of the things of the first operations together
pub clash_by_things : (xs ys : List Operation) (o : Option Thing) → IsLeastBy IsNoLater (Among (ThingsClash (flat_map touched_by xs)) ys) o → IsLeastBy IsNoLater (OperationsClash xs ys) o
clash_by_things xs ys o is = least_same IsNoLater o to back is
  where
    to : (found : Thing) → Among (ThingsClash (flat_map touched_by xs)) ys found → OperationsClash xs ys found
    to found (y, of_ys, (b, of_y, (a, of_xs, clash))) = let x = from_flat touched_by xs a of_xs in (x.0, x.1, (y, of_ys, (a, x.2, (b, of_y, clash))))

    back : (found : Thing) → OperationsClash xs ys found → Among (ThingsClash (flat_map touched_by xs)) ys found
    back found (x, of_xs, (y, of_ys, (a, of_x, (b, of_y, clash)))) = (y, of_ys, (b, of_y, (a, within_flat touched_by xs x a of_xs of_x, clash)))

-- a thing more, and the things of an operation more, behind those of earlier ones
pub things_next : (before things : List calculus.Thing) (i : ℕ) (a : calculus.Thing) → slice_get things i ≡ Some a → (before ++ take i things) ++ a ∷ [] ≡ before ++ take (i + 1) things
things_next before things i a here =
    append_assoc before (take i things) (a ∷ [])
    ∙ ap (λ xs. before ++ xs) (sym (take_more things i a (slice_get_within things i a here) ∙ ap (λ x. take i things ++ x ∷ []) (get_or_from_slice_get things i a a here)))

pub touched_next : (names : List Text) (exprs : List ExprNode) (before : List calculus.Thing) (xs : List ClassOp) (i : ℕ) (x : ClassOp) → slice_get xs i ≡ Some x
    → (before ++ flat_map touched_by (map (plain_operation names exprs) (take i xs))) ++ touched_by (plain_operation names exprs x)
    ≡ before ++ flat_map touched_by (map (plain_operation names exprs) (take (i + 1) xs))
touched_next names exprs before xs i x here =
    let more : take (i + 1) xs ≡ take i xs ++ x ∷ [] = take_more xs i x (slice_get_within xs i x here) ∙ ap (λ y. take i xs ++ y ∷ []) (get_or_from_slice_get xs i x x here) in
    append_assoc before (flat_map touched_by (map (plain_operation names exprs) (take i xs))) (touched_by (plain_operation names exprs x))
    ∙ ap (λ zs. before ++ zs) (sym (ap (λ zs. flat_map touched_by (map (plain_operation names exprs) zs)) more
    ∙ ap (flat_map touched_by) (map-append (plain_operation names exprs) (take i xs) (x ∷ []))
    ∙ flat_map-append touched_by (map (plain_operation names exprs) (take i xs)) (plain_operation names exprs x ∷ [])
    ∙ ap (λ zs. flat_map touched_by (map (plain_operation names exprs) (take i xs)) ++ zs) (append-nil (touched_by (plain_operation names exprs x)))))

pub none_among_none : IsLeastBy IsNoLater (DeltasClash []) None
none_among_none found w = delta_by_delta.none found.first found.second w

-- ---- one delta more

-- an element of a list with one more at its end
earlier_or_last : {X : Type 0} (xs : List X) (last : X) (k : ℕ) (x : X) → slice_get (xs ++ last ∷ []) k ≡ Some x → (slice_get xs k ≡ Some x) ⊎ ((k ≡ length xs) × (x ≡ last))
earlier_or_last [] last zero x e = inr (refl, cc)
earlier_or_last [] last (suc k) x e = absurd cc
earlier_or_last (y ∷ xs) last zero x e = inl e
earlier_or_last (y ∷ xs) last (suc k) x e = either (earlier_or_last xs last k x e) (λ here. inl here) (λ here. inr (ap suc here.0, here.1))

module _ (ds : List Delta) (d : Delta) where
  -- two of the earlier ones, or one of them and the last
  into : (found : Thing) (i j : ℕ) (one other : Delta) → i < j → slice_get (ds ++ d ∷ []) i ≡ Some one → slice_get (ds ++ d ∷ []) j ≡ Some other → ConflictAt one other found.first found.second
      → DeltasClash ds found ⊎ OperationsClash (operations_in_all ds) d.operations found
  into found i j one other behind at_i at_j clash =
      either (earlier_or_last ds d j other at_j)
      (λ j_in.
      let low : i < length ds = omega (arith, behind, slice_get_within ds j other j_in) in
      inl (record { i = i; j = j; behind = behind; one = one; other = other; at_i = sym (slice_get-append ds (d ∷ []) i low) ∙ at_i; at_j = j_in; clash = clash }))
      (λ j_last. either (earlier_or_last ds d i one at_i)
      (λ i_in.
      let pair = clash_from one other found.first found.second clash in
      let with_last : OperationsClash one.operations d.operations found = subst (λ (o : Delta). OperationsClash one.operations o.operations found) j_last.1 pair in
      inr (with_last.0, within_flat (λ (e : Delta). e.operations) ds one with_last.0 (got_within ds i one i_in) with_last.1, with_last.2))
      (λ i_last. absurd (omega (arith, behind, i_last.0, j_last.0))))

  out_of_earlier : (found : Thing) → DeltasClash ds found → DeltasClash (ds ++ d ∷ []) found
  out_of_earlier found w =
      record {
        i = w.i;
        j = w.j;
        behind = w.behind;
        one = w.one;
        other = w.other;
        at_i = slice_get-append ds (d ∷ []) w.i (slice_get_within ds w.i w.one w.at_i) ∙ w.at_i;
        at_j = slice_get-append ds (d ∷ []) w.j (slice_get_within ds w.j w.other w.at_j) ∙ w.at_j;
        clash = w.clash;
      }

  out_of_last : (found : Thing) → OperationsClash (operations_in_all ds) d.operations found → DeltasClash (ds ++ d ∷ []) found
  out_of_last found clash =
      let one = from_flat (λ (e : Delta). e.operations) ds clash.0 clash.1 in
      let number = number_in ds one.0 one.1 in
      let low = slice_get_within ds number.0 one.0 number.1 in
      record {
        i = number.0;
        j = length ds;
        behind = low;
        one = one.0;
        other = d;
        at_i = slice_get-append ds (d ∷ []) number.0 low ∙ number.1;
        at_j = slice_get-push ds d;
        clash = conflict_from one.0 d found (clash.0, one.2, clash.2);
      }

-- the least one with one delta more, or with none more
push_delta : (ds : List Delta) (more : Option Delta) (first here o : Option Thing) → IsLeastBy IsNoLater (DeltasClash ds) first → IsLeastBy IsNoLater (OperationsClash (operations_in_all ds) (operations_in_all (cons_option more []))) here
    → IsEarlierOf IsNoLater first here o → IsLeastBy IsNoLater (DeltasClash (ds ++ cons_option more [])) o
push_delta ds None first here o before now e =
    subst (λ (es : List Delta). IsLeastBy IsNoLater (DeltasClash es) o) (sym (append-nil ds))
    (least_same IsNoLater o (λ x found. either found (λ clash. clash) (λ clash. no_element clash.2.0 clash.2.1)) (λ x found. inl found)
    (least_either IsNoLater no_later_joins (DeltasClash ds) (OperationsClash (operations_in_all ds) []) first here o before now e))
push_delta ds (Some d) first here o before now e =
    least_same IsNoLater o (λ x found. either found (out_of_earlier ds d x) (out_of_last ds d x)) (λ x w. into ds d x w.i w.j w.one w.other w.behind w.at_i w.at_j w.clash)
    (least_either IsNoLater no_later_joins (DeltasClash ds) (OperationsClash (operations_in_all ds) d.operations) first here o before
    (subst (λ (ys : List Operation). IsLeastBy IsNoLater (OperationsClash (operations_in_all ds) ys) here) (append-nil d.operations) now) e)

one_or_none : (line : Source) (b : Bool) (n : ℕ) → (more : Option Delta) × (plain_order line (cond b (n ∷ []) []) ≡ cons_option more [])
one_or_none line true n = (slice_get line.deltas n, refl)
one_or_none line false n = (None, refl)

module _ (line : Source) (c : Configuration) where
  deltas_append : (ms ns : List ℕ) → active_deltas line c (ms ++ ns) ≡ active_deltas line c ms ++ active_deltas line c ns
  deltas_append ms ns =
      ap (plain_order line) (filter-append (is_active line c) ms ns)
      ∙ filter_map-append (slice_get line.deltas) (filter (is_active line c) ms) (filter (is_active line c) ns)

  push_number : (ns : List ℕ) (n : ℕ) (first here o : Option Thing) → IsLeastBy IsNoLater (DeltasClash (active_deltas line c ns)) first
      → IsLeastBy IsNoLater (OperationsClash (active_operations line c ns) (active_operations line c (n ∷ []))) here → IsEarlierOf IsNoLater first here o
      → IsLeastBy IsNoLater (DeltasClash (active_deltas line c (ns ++ n ∷ []))) o
  push_number ns n first here o before now e =
      let more = one_or_none line (is_active line c n) n in
      subst (λ (es : List Delta). IsLeastBy IsNoLater (DeltasClash es) o) (sym (deltas_append ns (n ∷ []) ∙ ap (λ (es : List Delta). active_deltas line c ns ++ es) more.1))
      (push_delta (active_deltas line c ns) more.0 first here o before
      (subst (λ (es : List Delta). IsLeastBy IsNoLater (OperationsClash (active_operations line c ns) (operations_in_all es)) here) more.1 now) e)

  pub conflicts_next : (numbers : List ℕ) (i d : ℕ) (xs : List Operation) (first here o : Option Thing) → i < length numbers → xs ≡ active_operations line c (take i numbers)
      → IsLeastBy IsNoLater (DeltasClash (active_deltas line c (take i numbers))) first
      → IsLeastBy IsNoLater (OperationsClash xs (active_operations line c (get_or numbers i d ∷ []))) here → IsEarlierOf IsNoLater first here o
      → IsLeastBy IsNoLater (DeltasClash (active_deltas line c (take (i + 1) numbers))) o
  conflicts_next numbers i d xs first here o low are before now e =
      subst (λ (ns : List ℕ). IsLeastBy IsNoLater (DeltasClash (active_deltas line c ns)) o) (sym (take_more numbers i d low))
      (push_number (take i numbers) (get_or numbers i d) first here o before
      (subst (λ (ys : List Operation). IsLeastBy IsNoLater (OperationsClash ys (active_operations line c (get_or numbers i d ∷ []))) here) are now) e)

  pub conflicts_all : (numbers : List ℕ) (i : ℕ) (o : Option Thing) → length numbers ≤ i → IsLeastBy IsNoLater (DeltasClash (active_deltas line c (take i numbers))) o
      → IsLeastBy IsNoLater (DeltasClash (active_deltas line c numbers)) o
  conflicts_all numbers i o high is = subst (λ (ns : List ℕ). IsLeastBy IsNoLater (DeltasClash (active_deltas line c ns)) o) (take_all i numbers high) is

  -- ---- parts

  -- those of the deltas of these numbers are those of the part
  pub of_part : (accepted : IsAccepted line) (k : ℕ) (numbers : List ℕ) → slice_get (numbers_along line) k ≡ Some numbers → (part : Part) × (slice_get (chain line) k ≡ Some part) × (active_deltas line c numbers ≡ active line c part)
  of_part accepted k numbers here =
      let part = mapped (numbers_of line) (slice_get (chain line) k) numbers (sym (slice_get-map (numbers_of line) (chain line) k) ∙ here) in
      (part.0, part.1, ap (active_deltas line c) (sym part.2) ∙ active_part line accepted c part.0 (got_within (chain line) k part.0 part.1))

  pub least_in : (o : Option Thing) → IsLeastBy IsNoLater (Among (PartClash line c) (chain line)) o → IsLeastBy IsNoLater (λ (found : Thing). ConflictIn line c found.first found.second) o
  least_in o is = least_same IsNoLater o (λ x found. (part_by_part line c x.first x.second).1 found) (λ x found. (part_by_part line c x.first x.second).0 found) is

  pub none_in : IsLeastBy IsNoLater (λ (found : Thing). ConflictIn line c found.first found.second) None → (first second : ℕ) → ¬ (ConflictIn line c first second)
  none_in none first second = none (record { first = first; second = second })

  pub least_pair : (found : Thing) → IsLeastBy IsNoLater (λ (x : Thing). ConflictIn line c x.first x.second) (Some found) → IsLeastPair (ConflictIn line c) found.first found.second
  least_pair found is = record { is = is.0; least = λ p q has. is.1 (record { first = p; second = q }) has }
