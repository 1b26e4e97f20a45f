-- Faults in trees, methods and operations.
use Rattle.std.proofs.Common.{◌≡◌, ◌⊎◌, inl, inr, ℕ, List, [], ◌∷◌, ◌++◌, length, map, fold, All, Option, Some, refl, sym, subst}
use Rattle.std.specs.List.{filter_map, AllZip}
use Rattle.std.specs.Option.{option_map}
use Rattle.std.proofs.lemmas.List.Elements.{All-contains, Contains-append_left, Contains-append_right, Contains-append_cases, Contains-push_cases, Contains-push}
use Rattle.arena_walk.specs.Tree.{Tree, trees_of, nodes, nodes_each}
use Rattle.dj_calculus.proofs.Members.{either, filtered_from, mapped_within, no_element, mapped_from}
use Rattle.dj_tree.specs.Plain.{plain_spot, plain_field, plain_method, plain_member}
use Rattle.dj_tree.specs.WellFormed.{IsKnown, IsField, IsMethod, IsMember}
use Rattle.dj_tree.specs.declared.declarations.Spot.{Spot}
use Rattle.dj_tree.specs.declared.declarations.FieldDecl.{FieldDecl}
use Rattle.dj_tree.specs.declared.declarations.Method.{Method}
use Rattle.dj_tree.specs.declared.declarations.MemberOp.{MemberOp}
use Rattle.dj_tree.specs.declared.declarations.MemberOp.TheVariants.{AddsField, AddsMethod, ModifiesMethod, RemovesField, RemovesMethod}
use Rattle.dj_tree.specs.declared.source.Source.{Source}
use Rattle.dj_calculus.specs.Contents.{field_name, method_name}
use Rattle.dj_calculus.specs.FaultPlaces.{Repeats}
use Rattle.dj_faults.specs.LeastPlace.{IsLeastPlace, Among, first_place}
use Rattle.dj_faults.specs.Numbers.{Again, IsSound}
use Rattle.dj_faults.specs.Spots.{field_spot, method_spot}
use Rattle.dj_faults.proofs.LeastLemmas.{least_same, least_either}
use Rattle.dj_faults.proofs.NameLemmas.{map_named, filter_named, AllKnown}
use Rattle.dj_faults.proofs.ListFaults.{by_repeats}

-- ---- along trees

module _ {N : Type 0} (P : N → ℕ → Type 0) where
  -- one more fact, and the places in the trees
  least_kids : (Q : ℕ → Type 0) (kids : List (Tree N)) (outs : List (Option ℕ)) (own : Option ℕ) → IsLeastPlace Q own → AllZip (λ t out. IsLeastPlace (Among P (nodes t)) out) kids outs
      → IsLeastPlace (λ at. Q at ⊎ Among P (nodes_each (trees_of kids)) at) (fold first_place own outs)
  least_kids Q [] [] own is each = least_same own (λ at h. inl h) (λ at h. either h (λ q. q) (λ found. no_element found.0 found.1)) is
  least_kids Q [] (o ∷ outs) own is each = absurd each
  least_kids Q (t ∷ kids) [] own is each = absurd each
  least_kids Q (t ∷ kids) (o ∷ outs) own is each =
      least_same (fold first_place (first_place own o) outs) to from (least_kids (λ at. Q at ⊎ Among P (nodes t) at) kids outs (first_place own o) (least_either own o is each.0) each.1)
    where
      to : (at : ℕ) → (Q at ⊎ Among P (nodes t) at) ⊎ Among P (nodes_each (trees_of kids)) at → Q at ⊎ Among P (nodes t ++ nodes_each (trees_of kids)) at
      to at (inl (inl q)) = inl q
      to at (inl (inr found)) = inr (found.0, Contains-append_left (nodes t) (nodes_each (trees_of kids)) found.0 found.1, found.2)
      to at (inr found) = inr (found.0, Contains-append_right (nodes t) (nodes_each (trees_of kids)) found.0 found.1, found.2)

      from : (at : ℕ) → Q at ⊎ Among P (nodes t ++ nodes_each (trees_of kids)) at → (Q at ⊎ Among P (nodes t) at) ⊎ Among P (nodes_each (trees_of kids)) at
      from at (inl q) = inl (inl q)
      from at (inr found) =
          either (Contains-append_cases (nodes t) (nodes_each (trees_of kids)) found.0 found.1) (λ here. inl (inr (found.0, here, found.2))) (λ later. inr (found.0, later, found.2))

  -- the least place in a tree, from that of its root and those of its children
  pub least_tree : (n : N) (kids : List (Tree N)) (outs : List (Option ℕ)) (own : Option ℕ) → IsLeastPlace (P n) own → AllZip (λ t out. IsLeastPlace (Among P (nodes t)) out) kids outs
      → IsLeastPlace (Among P (nodes_each (trees_of kids) ++ n ∷ [])) (fold first_place own outs)
  least_tree n kids outs own is each = least_same (fold first_place own outs) to from (least_kids (P n) kids outs own is each)
    where
      to : (at : ℕ) → P n at ⊎ Among P (nodes_each (trees_of kids)) at → Among P (nodes_each (trees_of kids) ++ n ∷ []) at
      to at (inl here) = (n, Contains-push (nodes_each (trees_of kids)) n, here)
      to at (inr found) = (found.0, Contains-append_left (nodes_each (trees_of kids)) (n ∷ []) found.0 found.1, found.2)

      from : (at : ℕ) → Among P (nodes_each (trees_of kids) ++ n ∷ []) at → P n at ⊎ Among P (nodes_each (trees_of kids)) at
      from at found =
          either (Contains-push_cases (nodes_each (trees_of kids)) n found.0 found.1) (λ earlier. inr (found.0, earlier, found.2))
          (λ same. inl (subst (λ y. P y at) (sym same) found.2))

-- ---- along lists

-- at one of the things, by what they stand for
pub least_mapped : {X Y : Type 0} (P : Y → ℕ → Type 0) (f : X → Y) (xs : List X) (o : Option ℕ) → IsLeastPlace (Among (λ x. P (f x)) xs) o → IsLeastPlace (Among P (map f xs)) o
least_mapped {X} {Y} P f xs o is = least_same o to from is
  where
    to : (at : ℕ) → Among (λ x. P (f x)) xs at → Among P (map f xs) at
    to at h = (f h.0, mapped_within f xs h.0 h.1, h.2)

    from : (at : ℕ) → Among P (map f xs) at → Among (λ x. P (f x)) xs at
    from at h = let x = mapped_from f xs h.0 h.1 in (x.0, x.1, subst (λ y. P y at) (sym x.2) h.2)

-- ---- names in methods, classes and changes

module _ (s : Source) (sound : IsSound s) where
  known_fields : (fields : List FieldDecl) → All (IsField s.names) fields → AllKnown s.names (map (λ f. f.spot) fields)
  known_fields fields all x there =
      let f = mapped_from (λ (f : FieldDecl). f.spot) fields x there in
      subst (IsKnown s.names) f.2 (All-contains (IsField s.names) fields f.0 all f.1).1

  known_methods : (methods : List Method) → All (IsMethod s.names s.exprs) methods → AllKnown s.names (map (λ m. m.spot) methods)
  known_methods methods all x there =
      let m = mapped_from (λ (m : Method). m.spot) methods x there in
      subst (IsKnown s.names) m.2 (All-contains (IsMethod s.names s.exprs) methods m.0 all m.1).spot

  known_field : (m : MemberOp) (x : Spot) → IsMember s.names s.exprs m → field_spot m ≡ Some x → IsKnown s.names x
  known_field (AddsField f) x is e = let same : f.spot ≡ x = cc in subst (IsKnown s.names) same is.1
  known_field (RemovesField f) x is e = let same : f ≡ x = cc in subst (IsKnown s.names) same is
  known_field (AddsMethod m) x is e = absurd cc
  known_field (ModifiesMethod m) x is e = absurd cc
  known_field (RemovesMethod m) x is e = absurd cc

  known_method : (m : MemberOp) (x : Spot) → IsMember s.names s.exprs m → method_spot m ≡ Some x → IsKnown s.names x
  known_method (AddsMethod m) x is e = let same : m.spot ≡ x = cc in subst (IsKnown s.names) same is.spot
  known_method (ModifiesMethod m) x is e = let same : m.spot ≡ x = cc in subst (IsKnown s.names) same is.spot
  known_method (RemovesMethod m) x is e = let same : m ≡ x = cc in subst (IsKnown s.names) same is
  known_method (AddsField f) x is e = absurd cc
  known_method (RemovesField f) x is e = absurd cc

  same_field : (m : MemberOp) → field_name (plain_member s.names s.exprs m) ≡ option_map (plain_spot s.names) (field_spot m)
  same_field (AddsField f) = refl
  same_field (RemovesField f) = refl
  same_field (AddsMethod m) = refl
  same_field (ModifiesMethod m) = refl
  same_field (RemovesMethod m) = refl

  same_method : (m : MemberOp) → method_name (plain_member s.names s.exprs m) ≡ option_map (plain_spot s.names) (method_spot m)
  same_method (AddsMethod m) = refl
  same_method (ModifiesMethod m) = refl
  same_method (RemovesMethod m) = refl
  same_method (AddsField f) = refl
  same_method (RemovesField f) = refl

  pub least_fields : (fields : List FieldDecl) (spots : List Spot) (o : Option ℕ) → All (IsField s.names) fields → spots ≡ map (λ f. f.spot) fields → IsLeastPlace (Again spots (length spots)) o
      → IsLeastPlace (Repeats (map (λ f. f.name) (map (plain_field s.names) fields))) o
  least_fields fields spots o all e is =
      by_repeats s sound _ o _ (known_fields fields all) (map_named (λ f. f.spot) (λ f. f.name) (plain_field s.names) (plain_spot s.names) (λ f. refl) fields)
      (subst (λ zs. IsLeastPlace (Again zs (length zs)) o) e is)

  pub least_methods : (methods : List Method) (spots : List Spot) (o : Option ℕ) → All (IsMethod s.names s.exprs) methods → spots ≡ map (λ m. m.spot) methods → IsLeastPlace (Again spots (length spots)) o
      → IsLeastPlace (Repeats (map (λ m. m.name) (map (plain_method s.names s.exprs) methods))) o
  least_methods methods spots o all e is =
      by_repeats s sound _ o _ (known_methods methods all) (map_named (λ m. m.spot) (λ m. m.name) (plain_method s.names s.exprs) (plain_spot s.names) (λ m. refl) methods)
      (subst (λ zs. IsLeastPlace (Again zs (length zs)) o) e is)

  pub least_fields_changed : (members : List MemberOp) (spots : List Spot) (o : Option ℕ) → All (IsMember s.names s.exprs) members → spots ≡ filter_map field_spot members → IsLeastPlace (Again spots (length spots)) o
      → IsLeastPlace (Repeats (filter_map field_name (map (plain_member s.names s.exprs) members))) o
  least_fields_changed members spots o all e is =
      by_repeats s sound _ o _ known (filter_named field_spot field_name (plain_member s.names s.exprs) (plain_spot s.names) same_field members)
      (subst (λ zs. IsLeastPlace (Again zs (length zs)) o) e is)
    where
      known : AllKnown s.names (filter_map field_spot members)
      known x there = let m = filtered_from field_spot members x there in known_field m.0 x (All-contains (IsMember s.names s.exprs) members m.0 all m.1) m.2

  pub least_methods_changed : (members : List MemberOp) (spots : List Spot) (o : Option ℕ) → All (IsMember s.names s.exprs) members → spots ≡ filter_map method_spot members → IsLeastPlace (Again spots (length spots)) o
      → IsLeastPlace (Repeats (filter_map method_name (map (plain_member s.names s.exprs) members))) o
  least_methods_changed members spots o all e is =
      by_repeats s sound _ o _ known (filter_named method_spot method_name (plain_member s.names s.exprs) (plain_spot s.names) same_method members)
      (subst (λ zs. IsLeastPlace (Again zs (length zs)) o) e is)
    where
      known : AllKnown s.names (filter_map method_spot members)
      known x there = let m = filtered_from method_spot members x there in known_method m.0 x (All-contains (IsMember s.names s.exprs) members m.0 all m.1) m.2
