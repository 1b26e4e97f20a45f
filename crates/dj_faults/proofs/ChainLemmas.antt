-- The chain of parts by numbers, and the parts that are not on it.
use Rattle.std.proofs.Common.{◌≡◌, ℕ, zero, suc, ◌+◌, ◌-◌, ◌<◌, Bool, true, false, cond, ◌||◌, List, [], ◌∷◌, ◌++◌, length, take, map, get_or, slice_get, nat_eq, All, Contains, Option, None, Some, is_none, is_some, IfSome, refl, sym, ap, ◌∙◌, subst, append_assoc, arith}
use Rattle.std.specs.List.{find, filter_map, cons_option}
use Rattle.std.specs.Option.{option_map, option_map_or, option_and_then, option_to_list}
use Rattle.std.specs.Str.{bytes_eq}
use Rattle.std.proofs.lemmas.List.{take_more, append-nil, length-map}
use Rattle.std.proofs.lemmas.Slice.Eq.{bytes_eq-Decides}
use Rattle.std.proofs.lemmas.Option.{slice_get-map, slice_get-get_or, slice_get_within, get_or_from_slice_get}
use Rattle.std.proofs.lemmas.List.Elements.{All-contains, All-push, filter_map-append}
use Rattle.std.proofs.lemmas.Bool.{cases_lt}
use Rattle.dj_calculus.proofs.Counting.{got_within}
use Rattle.dj_calculus.proofs.Members.{same_some, mapped, either, no_element, first_or_other, among_others, filtered_from, mapped_within, mapped_from, named_within, named_from}
use Rattle.dj_calculus.proofs.PartChain.{chain_is_reached}
use Rattle.dj_names.specs.Texts.{Text}
use Rattle.dj_tree.specs.Trees as plain
use Rattle.dj_tree.specs.Plain.{plain_spot, plain_source, plain_part}
use Rattle.dj_tree.specs.WellFormed.{IsKnown, IsPart}
use Rattle.dj_tree.specs.declared.declarations.Spot.{Spot}
use Rattle.dj_tree.specs.declared.declarations.PartDecl.{PartDecl}
use Rattle.dj_tree.specs.declared.source.Source.{Source}
use Rattle.dj_calculus.specs.Configurations.{is_named}
use Rattle.dj_calculus.specs.Parts.{first_part, comes_after, next_part, IsReached, parts_from, chain}
use Rattle.dj_calculus.specs.Faults.{RepeatedPart, PartsNoChain}
use Rattle.dj_calculus.specs.FaultPlaces.{Repeats, FaultStands, repeated_part, parts_no_chain}
use Rattle.dj_faults.specs.LeastPlace.{IsLeastPlace, Among}
use Rattle.dj_faults.specs.Numbers.{Unmet, IsSound}
use Rattle.dj_faults.specs.Chains.{comes_after_name, IsNumberOf}
use Rattle.dj_faults.proofs.LeastLemmas.{least_same}
use Rattle.dj_faults.proofs.NameLemmas.{same_test, AllKnown, Unnamed}
use Rattle.dj_faults.proofs.ListFaults.{known_parts, parts_named, by_unknown}

-- ---- what is found first

found_or : {X : Type 0} (b : Bool) (z : X) (f g : Option X) → cond b (Some z) (cond (is_some f) f g) ≡ cond (is_some (cond b (Some z) f)) (cond b (Some z) f) g
found_or true z f g = refl
found_or false z f g = refl

find_suc : {X : Type 0} (p : X → Bool) (xs : List X) (i : ℕ) (x : X) → slice_get xs i ≡ Some x → find p (take (suc i) xs) ≡ cond (is_some (find p (take i xs))) (find p (take i xs)) (cond (p x) (Some x) None)
find_suc p [] i x e = absurd cc
find_suc p (z ∷ xs) zero x e = let same : z ≡ x = cc in ap (λ y. cond (p y) (Some y) None) same
find_suc p (z ∷ xs) (suc i) x e = ap (λ o. cond (p z) (Some z) o) (find_suc p xs i x e) ∙ found_or (p z) z (find p (take i xs)) (cond (p x) (Some x) None)

find_more : {X : Type 0} (p : X → Bool) (xs : List X) (i : ℕ) (x : X) → slice_get xs i ≡ Some x → find p (take (i + 1) xs) ≡ cond (is_some (find p (take i xs))) (find p (take i xs)) (cond (p x) (Some x) None)
find_more p xs i x e = let one : i + 1 ≡ suc i = omega arith in ap (λ k. find p (take k xs)) one ∙ find_suc p xs i x e

pub still_none : {X : Type 0} (p : X → Bool) (xs : List X) (i : ℕ) (x : X) → slice_get xs i ≡ Some x → find p (take i xs) ≡ None → p x ≡ false → find p (take (i + 1) xs) ≡ None
still_none p xs i x e none fails =
    find_more p xs i x e ∙ ap (λ o. cond (is_some o) o (cond (p x) (Some x) None)) none ∙ ap (λ b. cond b (Some x) None) fails

first_past : {X : Type 0} (b : Bool) (z x : X) (f g : Option X) → cond b (Some z) f ≡ None → (f ≡ None → g ≡ Some x) → cond b (Some z) g ≡ Some x
first_past true z x f g none rest = absurd cc
first_past false z x f g none rest = rest none

pub found_at : {X : Type 0} (p : X → Bool) (xs : List X) (i : ℕ) (x : X) → slice_get xs i ≡ Some x → find p (take i xs) ≡ None → p x ≡ true → find p xs ≡ Some x
found_at p [] i x e none is = absurd cc
found_at p (z ∷ xs) zero x e none is = let same : z ≡ x = cc in ap (λ b. cond b (Some z) (find p xs)) (ap p same ∙ is) ∙ ap Some same
found_at p (z ∷ xs) (suc i) x e none is = first_past (p z) z x (find p (take i xs)) (find p xs) none (λ rest. found_at p xs i x e rest is)

-- one more part is noted
follow_step : (parts : List PartDecl) (i : ℕ) (x : PartDecl) (b : Bool) (old : Option ℕ) (f : Option PartDecl) → slice_get parts i ≡ Some x → i < length parts → IsNumberOf parts i f old
    → IsNumberOf parts (i + 1) (cond (is_some f) f (cond b (Some x) None)) (cond (is_some old) old (cond b (Some i) None))
follow_step parts i x true None f e low is = (ap (λ o. cond (is_some o) o (Some x)) is.0 ∙ sym e, omega arith)
follow_step parts i x false None f e low is = (ap (λ o. cond (is_some o) o None) is.0, tt)
follow_step parts i x b (Some k) f e low is =
    let there = slice_get-get_or parts k x (omega (arith, is.1)) in
    (ap (λ o. cond (is_some o) o (cond b (Some x) None)) (is.0 ∙ there) ∙ sym there, omega (arith, is.1))

pub follow_next : (parts : List PartDecl) (i : ℕ) (x : PartDecl) (n : ℕ) (old new : Option ℕ) → slice_get parts i ≡ Some x → IsNumberOf parts i (find (comes_after_name n) (take i parts)) old
    → new ≡ cond (is_some old) old (cond (comes_after_name n x) (Some i) None) → IsNumberOf parts (i + 1) (find (comes_after_name n) (take (i + 1) parts)) new
follow_next parts i x n old new e is same =
    subst (λ o. IsNumberOf parts (i + 1) (find (comes_after_name n) (take (i + 1) parts)) o) (sym same)
    (subst (λ f. IsNumberOf parts (i + 1) f (cond (is_some old) old (cond (comes_after_name n x) (Some i) None))) (sym (find_more (comes_after_name n) parts i x e))
    (follow_step parts i x (comes_after_name n x) old (find (comes_after_name n) (take i parts)) e (slice_get_within parts i x e) is))

-- ---- plain parts

mapped_or : {X Y : Type 0} (f : X → Y) (b : Bool) (x : X) (o : Option X) → cond b (Some (f x)) (option_map f o) ≡ option_map f (cond b (Some x) o)
mapped_or f true x o = refl
mapped_or f false x o = refl

find_mapped : {X Y : Type 0} (q : Y → Bool) (f : X → Y) (xs : List X) → find q (map f xs) ≡ option_map f (find (λ x. q (f x)) xs)
find_mapped q f [] = refl
find_mapped q f (x ∷ xs) = ap (λ o. cond (q (f x)) (Some (f x)) o) (find_mapped q f xs) ∙ mapped_or f (q (f x)) x (find (λ x. q (f x)) xs)

find_same : {X : Type 0} (p q : X → Bool) (xs : List X) → ((x : X) → Contains xs x → p x ≡ q x) → find p xs ≡ find q xs
find_same p q [] same = refl
find_same p q (x ∷ xs) same =
    ap (λ b. cond b (Some x) (find p xs)) (same x (0, omega arith, refl)) ∙ ap (λ o. cond (q x) (Some x) o) (find_same p q xs (λ y there. same y (among_others x y xs there)))

none_mapped : {X Y : Type 0} (f : X → Y) (o : Option X) → is_none (option_map f o) ≡ is_none o
none_mapped f None = refl
none_mapped f (Some x) = refl

then_mapped : {X Y : Type 0} (f : X → Y) (xs : List X) (o : Option ℕ) → option_and_then (slice_get (map f xs)) o ≡ option_map f (option_and_then (slice_get xs) o)
then_mapped f xs None = refl
then_mapped f xs (Some k) = slice_get-map f xs k

no_more : (k : ℕ) (parts : List plain.Part) → parts_from k parts None ≡ []
no_more zero parts = refl
no_more (suc k) parts = refl

differ : true ≡ false → ⊥
differ e = absurd cc

-- the name of one more part by its number
pub names_next : (parts : List PartDecl) (numbers : List ℕ) (i k : ℕ) (x : PartDecl) → slice_get numbers i ≡ Some k → slice_get parts k ≡ Some x
    → filter_map (λ k. option_map (λ p. p.spot) (slice_get parts k)) (take (i + 1) numbers) ≡ filter_map (λ k. option_map (λ p. p.spot) (slice_get parts k)) (take i numbers) ++ x.spot ∷ []
names_next parts numbers i k x e f =
    let g = λ (k : ℕ). option_map (λ (p : PartDecl). p.spot) (slice_get parts k) in
    let more : take (i + 1) numbers ≡ take i numbers ++ k ∷ [] = take_more numbers i k (slice_get_within numbers i k e) ∙ ap (λ y. take i numbers ++ y ∷ []) (get_or_from_slice_get numbers i k k e) in
    ap (filter_map g) more ∙ filter_map-append g (take i numbers) (k ∷ []) ∙ ap (λ o. filter_map g (take i numbers) ++ cons_option (option_map (λ (p : PartDecl). p.spot) o) []) f

module _ (s : Source) (sound : IsSound s) where
  same_after : (x : PartDecl) (o : Option Spot) → IsKnown s.names x.spot → IfSome o (IsKnown s.names)
      → option_map_or (λ name. bytes_eq name.text (plain_spot s.names x.spot).text) (option_map (plain_spot s.names) o) false ≡ option_map_or (λ a. nat_eq a.name.0 x.spot.name.0) o false
  same_after x None known there = refl
  same_after x (Some a) known there = sym (same_test s.names sound.distinct a.name.0 x.spot.name.0 there known)

  next_plain : (x : PartDecl) → Contains s.parts x → next_part (plain_source s).parts (plain_part s.names s.formulas x) ≡ option_map (plain_part s.names s.formulas) (find (comes_after_name x.spot.name.0) s.parts)
  next_plain x there =
      let known = All-contains (IsPart s.names s.formulas) s.parts x sound.formed.parts there in
      find_mapped (comes_after (plain_part s.names s.formulas x)) (plain_part s.names s.formulas) s.parts
      ∙ ap (option_map (plain_part s.names s.formulas)) (find_same _ _ s.parts (λ y within. same_after x y.after known.spot (All-contains (IsPart s.names s.formulas) s.parts y sound.formed.parts within).after))

  pub first_plain : (o : Option ℕ) → IsNumberOf s.parts (length s.parts) (find (λ p. is_none p.after) s.parts) o → option_and_then (slice_get (plain_source s).parts) o ≡ first_part (plain_source s).parts
  first_plain o is =
      then_mapped (plain_part s.names s.formulas) s.parts o ∙ ap (option_map (plain_part s.names s.formulas)) (sym is.0)
      ∙ ap (option_map (plain_part s.names s.formulas)) (find_same _ _ s.parts (λ y within. sym (none_mapped (plain_spot s.names) y.after)))
      ∙ sym (find_mapped (λ p. is_none p.after) (plain_part s.names s.formulas) s.parts)

  -- one step along the chain
  pub chain_next : (items : List ℕ) (i : ℕ) (o new : Option ℕ) → i < length s.parts → IfSome o (λ k. k < length s.parts)
      → IsNumberOf s.parts (length s.parts) (option_and_then (λ p. find (comes_after_name p.spot.name.0) s.parts) (option_and_then (slice_get s.parts) o)) new
      → filter_map (slice_get (plain_source s).parts) items ++ parts_from (length s.parts - i) (plain_source s).parts (option_and_then (slice_get (plain_source s).parts) o) ≡ chain (plain_source s)
      → filter_map (slice_get (plain_source s).parts) (items ++ option_to_list o) ++ parts_from (length s.parts - (i + 1)) (plain_source s).parts (option_and_then (slice_get (plain_source s).parts) new) ≡ chain (plain_source s)
  chain_next items i None new low within is before =
      ap (λ xs. filter_map (slice_get (plain_source s).parts) xs ++ parts_from (length s.parts - (i + 1)) (plain_source s).parts (option_and_then (slice_get (plain_source s).parts) new)) (append-nil items)
      ∙ ap (λ o. filter_map (slice_get (plain_source s).parts) items ++ parts_from (length s.parts - (i + 1)) (plain_source s).parts o) (then_mapped (plain_part s.names s.formulas) s.parts new ∙ ap (option_map (plain_part s.names s.formulas)) (sym is.0))
      ∙ ap (λ ps. filter_map (slice_get (plain_source s).parts) items ++ ps) (no_more (length s.parts - (i + 1)) (plain_source s).parts ∙ sym (no_more (length s.parts - i) (plain_source s).parts)) ∙ before
  chain_next items i (Some k) new low within is before = step (get_or s.parts k _) (slice_get-get_or s.parts k (part_of s.parts low) within)
    where
      part_of : (parts : List PartDecl) → i < length parts → PartDecl
      part_of [] h = absurd (omega arith)
      part_of (p ∷ parts) h = p

      step : (x : PartDecl) → slice_get s.parts k ≡ Some x
          → filter_map (slice_get (plain_source s).parts) (items ++ k ∷ []) ++ parts_from (length s.parts - (i + 1)) (plain_source s).parts (option_and_then (slice_get (plain_source s).parts) new) ≡ chain (plain_source s)
      step x e =
          let P = (plain_source s).parts in
          let here : slice_get (plain_source s).parts k ≡ Some (plain_part s.names s.formulas x) = slice_get-map (plain_part s.names s.formulas) s.parts k ∙ ap (option_map (plain_part s.names s.formulas)) e in
          let more : length s.parts - i ≡ suc (length s.parts - (i + 1)) = omega arith in
          let next : option_and_then (slice_get (plain_source s).parts) new ≡ next_part (plain_source s).parts (plain_part s.names s.formulas x) =
          then_mapped (plain_part s.names s.formulas) s.parts new
          ∙ ap (option_map (plain_part s.names s.formulas)) (sym is.0 ∙ ap (option_and_then (λ (p : PartDecl). find (comes_after_name p.spot.name.0) s.parts)) e)
          ∙ sym (next_plain x (k, within, get_or_from_slice_get s.parts k x x e)) in
          ap (λ ps. ps ++ parts_from (length s.parts - (i + 1)) (plain_source s).parts (option_and_then (slice_get (plain_source s).parts) new)) (filter_map-append (slice_get (plain_source s).parts) items (k ∷ []))
          ∙ append_assoc (filter_map (slice_get (plain_source s).parts) items) (cons_option (slice_get (plain_source s).parts k) []) (parts_from (length s.parts - (i + 1)) (plain_source s).parts (option_and_then (slice_get (plain_source s).parts) new))
          ∙ ap (λ o. filter_map (slice_get (plain_source s).parts) items ++ (cons_option o [] ++ parts_from (length s.parts - (i + 1)) (plain_source s).parts (option_and_then (slice_get (plain_source s).parts) new))) here
          ∙ ap (λ o. filter_map (slice_get (plain_source s).parts) items ++ (plain_part s.names s.formulas x ∷ parts_from (length s.parts - (i + 1)) (plain_source s).parts o)) next
          ∙ ap (λ n. filter_map (slice_get (plain_source s).parts) items ++ parts_from n (plain_source s).parts (Some (plain_part s.names s.formulas x))) (sym more)
          ∙ ap (λ o. filter_map (slice_get (plain_source s).parts) items ++ parts_from (length s.parts - i) (plain_source s).parts o) (sym here) ∙ before

  pub within_next : (items : List ℕ) (o : Option ℕ) → All (λ k. k < length s.parts) items → IfSome o (λ k. k < length s.parts) → All (λ k. k < length s.parts) (items ++ option_to_list o)
  within_next items None all within = subst (All (λ k. k < length s.parts)) (sym (append-nil items)) all
  within_next items (Some k) all within = All-push (λ k. k < length s.parts) items k all within

  pub chain_first : (items : List ℕ) (o : Option ℕ) → items ≡ [] → IsNumberOf s.parts (length s.parts) (find (λ p. is_none p.after) s.parts) o
      → filter_map (slice_get (plain_source s).parts) items ++ parts_from (length s.parts - 0) (plain_source s).parts (option_and_then (slice_get (plain_source s).parts) o) ≡ chain (plain_source s)
  chain_first items o none is =
      let all : length s.parts - 0 ≡ length (plain_source s).parts = omega (arith, length-map s.parts (plain_part s.names s.formulas)) in
      ap (λ xs. filter_map (slice_get (plain_source s).parts) xs ++ parts_from (length s.parts - 0) (plain_source s).parts (option_and_then (slice_get (plain_source s).parts) o)) none
      ∙ ap (λ n. parts_from n (plain_source s).parts (option_and_then (slice_get (plain_source s).parts) o)) all
      ∙ ap (parts_from (length (plain_source s).parts) (plain_source s).parts) (first_plain o is)

  -- the names of the parts on the chain
  chain_named : (numbers : List ℕ) → map (λ p. p.name) (filter_map (slice_get (plain_source s).parts) numbers) ≡ map (plain_spot s.names) (filter_map (λ k. option_map (λ p. p.spot) (slice_get s.parts k)) numbers)
  chain_named [] = refl
  chain_named (k ∷ numbers) =
      ap (λ o. map (λ p. p.name) (cons_option o (filter_map (slice_get (plain_source s).parts) numbers))) (slice_get-map (plain_part s.names s.formulas) s.parts k) ∙ named (slice_get s.parts k) (chain_named numbers)
    where
      named : (o : Option PartDecl) → map (λ p. p.name) (filter_map (slice_get (plain_source s).parts) numbers) ≡ map (plain_spot s.names) (filter_map (λ k. option_map (λ p. p.spot) (slice_get s.parts k)) numbers)
          → map (λ p. p.name) (cons_option (option_map (plain_part s.names s.formulas) o) (filter_map (slice_get (plain_source s).parts) numbers))
          ≡ map (plain_spot s.names) (cons_option (option_map (λ p. p.spot) o) (filter_map (λ k. option_map (λ p. p.spot) (slice_get s.parts k)) numbers))
      named None rest = rest
      named (Some p) rest = ap (λ xs. plain_spot s.names p.spot ∷ xs) rest

  known_reached : (numbers : List ℕ) → AllKnown s.names (filter_map (λ k. option_map (λ p. p.spot) (slice_get s.parts k)) numbers)
  known_reached numbers x there =
      let k = filtered_from (λ k. option_map (λ p. p.spot) (slice_get s.parts k)) numbers x there in
      let p = mapped (λ (p : PartDecl). p.spot) (slice_get s.parts k.0) x k.2 in
      subst (IsKnown s.names) p.2 (All-contains (IsPart s.names s.formulas) s.parts p.0 sound.formed.parts (got_within s.parts k.0 p.0 p.1)).spot

  module _ (once : (at : ℕ) → ¬ (FaultStands (plain_source s) RepeatedPart at)) where
    one_of_name : (i j : ℕ) (p q : plain.Part) → slice_get (plain_source s).parts i ≡ Some p → slice_get (plain_source s).parts j ≡ Some q → p.name.text ≡ q.name.text → p ≡ q
    one_of_name i j p q at_i at_j same =
        either (cases_lt i j) (λ less. absurd (once q.name.at (repeated_part q.name.at (twice i j p q less at_i at_j same))))
        (λ more. either (cases_lt j i) (λ less. absurd (once p.name.at (repeated_part p.name.at (twice j i q p less at_j at_i (sym same)))))
        (λ less. let equal : i ≡ j = omega arith in same_some p q (slice_get (plain_source s).parts j) (ap (slice_get (plain_source s).parts) (sym equal) ∙ at_i) at_j))
      where
        twice : (i j : ℕ) (p q : plain.Part) → i < j → slice_get (plain_source s).parts i ≡ Some p → slice_get (plain_source s).parts j ≡ Some q → p.name.text ≡ q.name.text → Repeats (map (λ p. p.name) (plain_source s).parts) q.name.at
        twice i j p q less at_i at_j same =
            record {
              before = i;
              number = j;
              earlier = less;
              x = p.name;
              y = q.name;
              at_before = slice_get-map (λ (p : plain.Part). p.name) (plain_source s).parts i ∙ ap (option_map (λ p. p.name)) at_i;
              at_number = slice_get-map (λ (p : plain.Part). p.name) (plain_source s).parts j ∙ ap (option_map (λ p. p.name)) at_j;
              same = same;
              here = refl;
            }

    pub least_no_chain : (numbers : List ℕ) (spots reached : List Spot) (o : Option ℕ) → filter_map (slice_get (plain_source s).parts) numbers ≡ chain (plain_source s) → spots ≡ map (λ p. p.spot) s.parts
        → reached ≡ filter_map (λ k. option_map (λ p. p.spot) (slice_get s.parts k)) numbers → IsLeastPlace (Among (Unmet reached) spots) o → IsLeastPlace (FaultStands (plain_source s) PartsNoChain) o
    least_no_chain numbers spots reached o whole e f is =
        least_same o to back (by_unknown s sound _ _ o _ _ (known_parts s sound) (known_reached numbers) (parts_named s sound) (sym (ap (map (λ p. p.name)) whole) ∙ chain_named numbers)
        (subst (λ zs. IsLeastPlace (Among (Unmet (filter_map (λ k. option_map (λ p. p.spot) (slice_get s.parts k)) numbers)) zs) o) e (subst (λ zs. IsLeastPlace (Among (Unmet zs) spots) o) f is)))
      where
        to : (at : ℕ) → Unnamed (map (λ p. p.name) (plain_source s).parts) (map (λ p. p.name) (chain (plain_source s))) at → FaultStands (plain_source s) PartsNoChain at
        to at h =
            let p = mapped_from (λ (p : plain.Part). p.name) (plain_source s).parts h.x h.within in
            subst (FaultStands (plain_source s) PartsNoChain) (ap (λ x. x.at) p.2 ∙ h.here)
            (parts_no_chain p.0 p.1 (λ reached. differ (sym (named_within (map (λ p. p.name) (chain (plain_source s))) h.x
            (subst (Contains (map (λ p. p.name) (chain (plain_source s)))) p.2 (mapped_within (λ (p : plain.Part). p.name) (chain (plain_source s)) p.0 ((chain_is_reached (plain_source s) p.0 once).1 reached)))) ∙ h.unnamed)))

        on_chain : (q : plain.Part) → Contains (chain (plain_source s)) q → (k : ℕ) × (slice_get (plain_source s).parts k ≡ Some q)
        on_chain q there = let k = filtered_from (slice_get (plain_source s).parts) numbers q (subst (λ ps. Contains ps q) (sym whole) there) in (k.0, k.2)

        unnamed : (p : plain.Part) → Contains (plain_source s).parts p → ¬ (IsReached (plain_source s).parts p) → (b : Bool) → is_named (map (λ p. p.name) (chain (plain_source s))) p.name.text ≡ b → b ≡ false
        unnamed p within never false e = refl
        unnamed p within never true e =
            let x = named_from (map (λ p. p.name) (chain (plain_source s))) p.name.text e in
            let q = mapped_from (λ (p : plain.Part). p.name) (chain (plain_source s)) x.0 x.1 in
            let k = on_chain q.0 q.1 in
            let i = slice_get-get_or (plain_source s).parts within.0 p within.1 ∙ ap Some within.2 in
            let same = one_of_name k.0 within.0 q.0 p k.1 i (ap (λ x. x.text) q.2 ∙ x.2) in
            absurd (never (subst (IsReached (plain_source s).parts) same ((chain_is_reached (plain_source s) q.0 once).0 q.1)))

        back : (at : ℕ) → FaultStands (plain_source s) PartsNoChain at → Unnamed (map (λ p. p.name) (plain_source s).parts) (map (λ p. p.name) (chain (plain_source s))) at
        back at (parts_no_chain p within never) =
            record { x = p.name; within = mapped_within (λ (p : plain.Part). p.name) (plain_source s).parts p within; unnamed = unnamed p within never _ refl; here = refl }
