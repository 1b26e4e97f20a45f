-- Operations of one delta are on different classes, and steps of one change touch different pieces.
use Rattle.std.proofs.Common.{◌≡◌, ◌≢◌, ℕ, zero, suc, ◌<◌, List, [], ◌∷◌, ◌++◌, map, Option, None, Some, length, slice_index_or, Contains, refl, subst, arith}
use Rattle.std.specs.List.{AllPairs, filter_map}
use Rattle.dj_tree.specs.Trees.{Spot, Class, MemberOperation, Delta, Change, Source}
use Rattle.dj_calculus.specs.Accepted.{IsAccepted}
use Rattle.dj_calculus.specs.Contents.{class_name, classes_of, changes_of, field_name, method_name}
use Rattle.dj_calculus.specs.Faults.{RepeatedMember}
use Rattle.dj_calculus.specs.FaultPlaces.{repeated_field, repeated_method}
use Rattle.dj_calculus.specs.Things.{Step, extends, does, first_steps, steps_of, piece}
use Rattle.dj_calculus.proofs.Members.{StandOnce, later_once, first_apart, mapped_within, mapped_from}
use Rattle.dj_calculus.proofs.OperationLemmas.{apart_members, named, later_option, not_superclass}
use Rattle.dj_calculus.proofs.GoodLemmas.{classes_once, members_once}

pub same_default : {X : Type 0} (xs : List X) (k : ℕ) (d e : X) → k < length xs → slice_index_or xs k d ≡ slice_index_or xs k e
same_default [] k d e low = absurd (omega arith)
same_default (x ∷ xs) zero d e low = refl
same_default (x ∷ xs) (suc k) d e low = same_default xs k d e (omega arith)

-- P of each two elements: of the first one and each other, and of each two of the others
pub pairs_and : {X : Type 0} (P : X → X → Type 0) (x : X) (xs : List X) → ((y : X) → Contains xs y → P x y) → AllPairs P xs → AllPairs P (x ∷ xs)
pairs_and P x xs first rest zero zero d behind low = absurd (omega arith)
pairs_and P x xs first rest zero (suc j) d behind low =
    let y = slice_index_or xs j d in
    first y (j, omega arith, same_default xs j y d (omega arith))
pairs_and P x xs first rest (suc i) zero d behind low = absurd (omega arith)
pairs_and P x xs first rest (suc i) (suc j) d behind low = rest i j d (omega arith) (omega arith)

pub no_pairs_of : {X : Type 0} (P : X → X → Type 0) → AllPairs P []
no_pairs_of P i j d behind low = absurd (omega arith)

abbrev Differs : {X : Type 0} → (X → Spot) → X → X → Type 0
Differs name x y = (name x).text ≢ (name y).text

apart_names : {X : Type 0} (name : X → Spot) (xs : List X) → StandOnce (map name xs) → AllPairs (Differs name) xs
apart_names name [] once = no_pairs_of (Differs name)
apart_names name (x ∷ xs) once =
    pairs_and (Differs name) x xs (λ y within. first_apart (name x) (name y) (map name xs) once (mapped_within name xs y within))
    (apart_names name xs (later_once (name x) (map name xs) once))

pub classes_apart : (source : Source) (delta : Delta) → IsAccepted source → Contains source.deltas delta
    → AllPairs (λ x y. (class_name x).text ≢ (class_name y).text) delta.operations
classes_apart source delta accepted within = apart_names class_name delta.operations (classes_once source accepted delta within)

abbrev Apart : Step → Step → Type 0
Apart x y = piece x ≢ piece y

members_apart : (members : List MemberOperation) → StandOnce (filter_map field_name members) → StandOnce (filter_map method_name members)
    → AllPairs Apart (map does members)
members_apart [] fields methods = no_pairs_of Apart
members_apart (m ∷ rest) fields methods =
    pairs_and Apart (does m) (map does rest)
    (λ y within. let found = mapped_from does rest y within in
    subst (Apart (does m)) found.2 (apart_members m found.0 rest fields methods found.1 (named m) (named found.0)))
    (members_apart rest (later_option (field_name m) _ fields) (later_option (method_name m) _ methods))

with_first : (parent : Option Spot) (members : List MemberOperation) → StandOnce (filter_map field_name members) → StandOnce (filter_map method_name members)
    → AllPairs Apart (first_steps parent ++ map does members)
with_first None members fields methods = members_apart members fields methods
with_first (Some p) members fields methods =
    pairs_and Apart (extends p) (map does members)
    (λ y within. let found = mapped_from does members y within in subst (Apart (extends p)) found.2 (not_superclass found.0 (named found.0)))
    (members_apart members fields methods)

pub steps_apart : (source : Source) (c : Change) → IsAccepted source → Contains (changes_of source) c → AllPairs Apart (steps_of c)
steps_apart source c accepted within = let once = members_once source accepted c within in with_first c.parent c.members once.fields once.methods

pub fields_once : (source : Source) (c : Class) → IsAccepted source → Contains (classes_of source) c → AllPairs (λ f g. f.name.text ≢ g.name.text) c.fields
fields_once source c accepted within = apart_names (λ f. f.name) c.fields (λ at r. accepted RepeatedMember at (repeated_field c at within r))

pub methods_once : (source : Source) (c : Class) → IsAccepted source → Contains (classes_of source) c → AllPairs (λ m n. m.name.text ≢ n.name.text) c.methods
methods_once source c accepted within = apart_names (λ m. m.name) c.methods (λ at r. accepted RepeatedMember at (repeated_method c at within r))
