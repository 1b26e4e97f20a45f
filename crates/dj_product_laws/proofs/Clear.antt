-- Operations that don't conflict keep each other's faults. So what is met by operations of which no two conflict are their faults on the
-- table before the first of them, and in any order they come to the same.
use Rattle.std.proofs.Common.{◌≡◌, ℕ, List, [], ◌∷◌, ◌++◌, map, Option, Some, None, Contains, refl, sym, ap, ◌∙◌, subst}
use Rattle.std.specs.List.{flat_map}
use Rattle.std.proofs.lemmas.List.{map-id}
use Rattle.std.proofs.lemmas.List.Elements.{Contains-append_right}
use Rattle.std.specs.FinMap.{get}
use Rattle.dj_tree.specs.Trees.{MemberOperation, adds_field, adds_method, modifies_method, removes_field, removes_method}
use Rattle.dj_tree.specs.Trees.{Change, Operation, adds_class, modifies_class, removes_class, Delta}
use Rattle.dj_calculus.specs.Maps.{with_at}
use Rattle.dj_calculus.specs.Contents.{class_name}
use Rattle.dj_calculus.specs.Conflicts.{Disjoint}
use Rattle.dj_calculus.specs.Things.{Step, does, first_steps, steps_of, Piece, piece}
use Rattle.dj_calculus.specs.Tables.{ClassEntry, Table}
use Rattle.dj_calculus.specs.Operations.{run, look, write, changes, take_step, class_changes, apply}
use Rattle.dj_calculus.proofs.Members.{Each, none, and, each_of, either, mapped, mapped_within, from_flat, StandOnce}
use Rattle.dj_calculus.proofs.OperationLemmas.{look_elsewhere, operation_keeps}
use Rattle.dj_calculus.proofs.GoodLemmas.{run_keeps}
use Rattle.dj_calculus.proofs.Independence.{Pairwise, no_pairs, pairs}
use Rattle.dj_calculus.proofs.DisjointDeltas.{StepsApart, NoConflict, apart_from_things, clash, get_there, none_between, operations_independent, same_or_not}
use Rattle.dj_calculus_laws.proofs.ForProducts.{conflict_turned, no_conflict_elsewhere}
use Rattle.dj_product_laws.specs.OperationFaults.{if_there, if_missing, modify_faults, member_faults, class_faults, faults}
use Rattle.dj_product_laws.specs.Passes.{unless_broken, attempt, met}
use Rattle.dj_product_laws.proofs.EachTwo.{EachTwo, no_two, two_and, each_then, each_in, each_two_append, each_two_named}

pub clear_turned : (x y : Operation) → NoConflict x y → NoConflict y x
clear_turned x y clear a b of_y of_x clashing = clear b a of_x of_y (conflict_turned a b clashing)

-- ---- an operation keeps the faults of another

-- what a step that touches another piece leaves at this one
step_keeps : (p : Piece) (y : Step) (c d : ClassEntry) → ¬ (p ≡ piece y) → take_step y c ≡ Some d → look p d ≡ look p c
step_keeps p y c d apart taken =
    let held = mapped (λ held. write (piece y) held c) (changes y (look (piece y) c)) d taken in
    ap (look p) (sym held.2) ∙ look_elsewhere p (piece y) held.0 c (λ same. apart (sym same))

steps_keep : (p : Piece) (ys : List Step) (c d : ClassEntry) → ((y : Step) → Contains ys y → ¬ (p ≡ piece y)) → run take_step ys c ≡ Some d
    → look p d ≡ look p c
steps_keep p ys c d apart taken =
    run_keeps take_step (λ e. look p e ≡ look p c) ys c d (each_of _ ys (λ y within u v step kept. step_keeps p y u v (apart y within) step ∙ kept)) taken refl

-- an operation on a member has the same faults where its piece is the same
same_member_faults : (m : MemberOperation) (c d : ClassEntry) → look (piece (does m)) d ≡ look (piece (does m)) c → member_faults d m ≡ member_faults c m
same_member_faults (adds_field f) c d is = ap (if_there 4 f.name.at) is
same_member_faults (adds_method m) c d is = ap (if_there 6 m.name.at) is
same_member_faults (modifies_method m) c d is = ap (modify_faults m) is
same_member_faults (removes_field f) c d is = ap (if_missing 5 f.at) is
same_member_faults (removes_method m) c d is = ap (if_missing 7 m.at) is

flat_same : {X Y : Type 0} (f g : X → List Y) (xs : List X) → Each (λ x. f x ≡ g x) xs → flat_map f xs ≡ flat_map g xs
flat_same f g xs none = refl
flat_same f g xs (and {x = x} {xs = rest} is all) = ap (λ ys. ys ++ flat_map f rest) is ∙ ap (λ ys. g x ++ ys) (flat_same f g rest all)

member_within : (c : Change) (m : MemberOperation) → Contains c.members m → Contains (steps_of c) (does m)
member_within c m within = Contains-append_right (first_steps c.parent) (map does c.members) (does m) (mapped_within does c.members m within)

module _ (c d : Change) (apart : StepsApart c d) where
  entry_keeps : (entry after : ClassEntry) → run take_step (steps_of d) entry ≡ Some after
      → flat_map (member_faults after) c.members ≡ flat_map (member_faults entry) c.members
  entry_keeps entry after ran =
      flat_same (member_faults after) (member_faults entry) c.members
      (each_of _ c.members (λ m within. same_member_faults m entry after
      (steps_keep (piece (does m)) (steps_of d) entry after (λ y of_d. apart (does m) y (member_within c m within) of_d) ran)))

  held_keeps : (o after : Option ClassEntry) → class_changes (modifies_class d) o ≡ Some after
      → class_faults (modifies_class c) after ≡ class_faults (modifies_class c) o
  held_keeps None after e = absurd cc
  held_keeps (Some entry) after e =
      let made = mapped Some (run take_step (steps_of d) entry) after e in
      ap (class_faults (modifies_class c)) (sym made.2) ∙ entry_keeps entry made.0 made.1

  change_keeps : (t u : Table) → c.name.text ≡ d.name.text → apply (modifies_class d) t ≡ Some u → faults u (modifies_class c) ≡ faults t (modifies_class c)
  change_keeps t u same applied =
      let held = mapped (λ held. with_at t d.name.text held) (class_changes (modifies_class d) (get t d.name.text)) u applied in
      let there : get (with_at t d.name.text held.0) c.name.text ≡ held.0 = ap (λ k. get (with_at t d.name.text held.0) k) same ∙ get_there t d.name.text held.0 in
      ap (class_faults (modifies_class c)) (ap (λ v. get v c.name.text) (sym held.2) ∙ there) ∙ held_keeps (get t d.name.text) held.0 held.1
      ∙ ap (λ k. class_faults (modifies_class c) (get t k)) (sym same)

keeps_in_class : (x y : Operation) (t u : Table) → (class_name x).text ≡ (class_name y).text → NoConflict x y → apply y t ≡ Some u → faults u x ≡ faults t x
keeps_in_class (adds_class c) y t u same clear applied = clash (adds_class c) y same clear refl
keeps_in_class (removes_class c) y t u same clear applied = clash (removes_class c) y same clear refl
keeps_in_class (modifies_class c) (adds_class d) t u same clear applied = clash (modifies_class c) (adds_class d) same clear refl
keeps_in_class (modifies_class c) (removes_class d) t u same clear applied = clash (modifies_class c) (removes_class d) same clear refl
keeps_in_class (modifies_class c) (modifies_class d) t u same clear applied = change_keeps c d (apart_from_things c d same clear) t u same applied

-- what another operation makes has the same faults for this one
pub apply_keeps_faults : (x y : Operation) (t u : Table) → NoConflict x y → apply y t ≡ Some u → faults u x ≡ faults t x
apply_keeps_faults x y t u clear applied =
    either (same_or_not _ (class_name x).text (class_name y).text refl) (λ same. keeps_in_class x y t u same clear applied)
    (λ other. ap (class_faults x) (operation_keeps y t u (class_name x).text (λ same. other (sym same)) applied))

-- and so has what it makes where it is attempted
pub attempt_keeps_faults : (x y : Operation) (t : Table) → NoConflict x y → faults (attempt y t) x ≡ faults t x
attempt_keeps_faults x y t clear = after (faults t y) (apply y t) refl
  where
    after : (fs : List (ℕ × ℕ)) (o : Option Table) → apply y t ≡ o → faults (unless_broken fs o t) x ≡ faults t x
    after [] None e = refl
    after [] (Some u) e = apply_keeps_faults x y t u clear e
    after (f ∷ fs) o e = refl

-- ---- operations of which no two conflict

pub met_are_faults : (xs : List Operation) (t : Table) → EachTwo NoConflict xs → met xs t ≡ flat_map (faults t) xs
met_are_faults xs t no_two = refl
met_are_faults xs t (two_and {x = x} {xs = rest} first more) =
    ap (λ fs. faults t x ++ fs) (met_are_faults rest (attempt x t) more
    ∙ flat_same (faults (attempt x t)) (faults t) rest (each_then (λ y clear. attempt_keeps_faults y x t (clear_turned x y clear)) rest first))

pub pairwise_clear : (xs : List Operation) → EachTwo NoConflict xs → Pairwise apply xs
pairwise_clear xs no_two = no_pairs
pairwise_clear xs (two_and {x = x} {xs = rest} first more) = pairs (each_then (operations_independent x) rest first) (pairwise_clear rest more)

-- operations on classes of their own
pub clear_by_class : (operations : List Operation) → StandOnce (map class_name operations) → EachTwo NoConflict operations
clear_by_class operations once = subst (EachTwo NoConflict) (map-id operations) (each_two_named NoConflict class_name (λ x. x) no_conflict_elsewhere operations once)

-- the operations of deltas of which each two are disjoint
pub clear_by_delta : (deltas : List Delta) → EachTwo Disjoint deltas → Each (λ d. StandOnce (map class_name d.operations)) deltas
    → EachTwo NoConflict (flat_map (λ d. d.operations) deltas)
clear_by_delta deltas no_two onces = no_two
clear_by_delta deltas (two_and {x = d} {xs = rest} first more) (and once onces) =
    each_two_append NoConflict d.operations (flat_map (λ e. e.operations) rest) (clear_by_class d.operations once) (clear_by_delta rest more onces)
    (λ x y of_d of_rest. let e = from_flat (λ e. e.operations) rest y of_rest in none_between d e.0 x y (each_in rest e.0 first e.1) of_d e.2)
