-- Slots of literals: what filling and emptying one does to the literals in them.
use Rattle.std.proofs.Common.{◌≡◌, ◌≢◌, ℕ, zero, suc, Bool, true, false, cond, not, List, [], ◌∷◌, ◌++◌, ◌⊎◌, ◌||◌, Option, None, Some, IfSome, IfNone, is_some, ◌<◌, ◌+◌, take, get_or, set, length, slice_get, slice_index_or, refl, sym, ap, subst, ◌∙◌, inl, inr, arith}
use Rattle.std.specs.List.{IsDistinct, AllByRecursion}
use Rattle.std.specs.Option.{option_eq}
use Rattle.std.proofs.lemmas.Bool.{true≢false}
use Rattle.std.proofs.lemmas.List.{take_more}
use Rattle.std.proofs.lemmas.List.Elements.{filter_map-append}
use Rattle.sat_clauses.specs.declared.literal.Lit.{Lit}
use Rattle.sat_clauses.specs.Literals.{same_literal}
use Rattle.sat_clauses.specs.ClauseLists.{has, with_literal, without}
use Rattle.sat_clauses.specs.Resolvents.{filled, IsPlaced}
use Rattle.sat_clauses.proofs.SetLemmas.{one_literal, same_itself}

-- no slot has the literal
abbrev pub Misses : List (Option Lit) → Lit → Type 0
Misses slots lit = (place : ℕ) → slice_get slots place ≢ Some (Some lit)

-- at most one slot has each literal
abbrev pub IsOnce : List (Option Lit) → Type 0
IsOnce slots = (i j : ℕ) (lit : Lit) → slice_get slots i ≡ Some (Some lit) → slice_get slots j ≡ Some (Some lit) → i ≡ j

pub once_placed : (slots : List (Option Lit)) (place_of : Lit → Option ℕ) → IsPlaced slots place_of → IsOnce slots
once_placed slots place_of placed = λ i j lit p q. let a = placed i lit p in let b = placed j lit q in cc

once_tail : (slot : Option Lit) (slots : List (Option Lit)) → IsOnce (slot ∷ slots) → IsOnce slots
once_tail slot slots once = λ i j lit p q. let same = once (suc i) (suc j) lit p q in omega arith

pub has_filled : (slots : List (Option Lit)) (place : ℕ) (lit : Lit) → slice_get slots place ≡ Some (Some lit) → has (filled slots) lit ≡ true
has_filled [] place lit at = cc
has_filled (None ∷ slots) zero lit at = cc
has_filled (Some l ∷ slots) zero lit at = let same : l ≡ lit = cc in rw (same, same_itself lit) refl
has_filled (None ∷ slots) (suc place) lit at = has_filled slots place lit at
has_filled (Some l ∷ slots) (suc place) lit at = rw (has_filled slots place lit at) (or_true (same_literal lit l))
  where
    or_true : (b : Bool) → (b || true) ≡ true
    or_true true = refl
    or_true false = refl

apart_head : (l lit : Lit) (slots : List (Option Lit)) → Misses (Some l ∷ slots) lit → same_literal lit l ≡ false
apart_head l lit slots misses = by (same_literal lit l) refl
  where
    by : (b : Bool) → same_literal lit l ≡ b → b ≡ false
    by true e = absurd (misses 0 (ap (λ x. Some (Some x)) (sym (one_literal lit l e))))
    by false e = refl

pub has_missed : (slots : List (Option Lit)) (lit : Lit) → Misses slots lit → has (filled slots) lit ≡ false
has_missed [] lit misses = refl
has_missed (None ∷ slots) lit misses = has_missed slots lit (λ k. misses (suc k))
has_missed (Some l ∷ slots) lit misses = rw (apart_head l lit slots misses, has_missed slots lit (λ k. misses (suc k))) refl

pub filled_missed : (slots : List (Option Lit)) (lit : Lit) → Misses slots lit → filled slots ≡ without (filled slots) lit
filled_missed [] lit misses = refl
filled_missed (None ∷ slots) lit misses = filled_missed slots lit (λ k. misses (suc k))
filled_missed (Some l ∷ slots) lit misses = rw (apart_head l lit slots misses) (ap (λ ls. l ∷ ls) (filled_missed slots lit (λ k. misses (suc k))))

-- one slot emptied
pub filled_emptied : (slots : List (Option Lit)) (place : ℕ) (lit : Lit) → IsOnce slots → slice_get slots place ≡ Some (Some lit) → filled (set slots place None) ≡ without (filled slots) lit
filled_emptied [] place lit once at = cc
filled_emptied (None ∷ slots) zero lit once at = cc
filled_emptied (Some l ∷ slots) zero lit once at =
    let same : l ≡ lit = cc in
    let rest : Misses slots lit = λ k there. let e = once (suc k) zero lit there at in omega arith in
    rw (same, same_itself lit) (filled_missed slots lit rest)
filled_emptied (None ∷ slots) (suc place) lit once at = filled_emptied slots place lit (once_tail None slots once) at
filled_emptied (Some l ∷ slots) (suc place) lit once at = by (same_literal lit l) refl (filled_emptied slots place lit (once_tail (Some l) slots once) at)
  where
    by : (b : Bool) → same_literal lit l ≡ b → filled (set slots place None) ≡ without (filled slots) lit → l ∷ filled (set slots place None) ≡ cond (not b) (l ∷ without (filled slots) lit) (without (filled slots) lit)
    by true e rest = let clash = once zero (suc place) lit (ap (λ x. Some (Some x)) (sym (one_literal lit l e))) at in absurd (omega arith)
    by false e rest = ap (λ ls. l ∷ ls) rest

slot_kept : (slots : List (Option Lit)) (place k : ℕ) (lit : Lit) → slice_get (set slots place None) k ≡ Some (Some lit) → slice_get slots k ≡ Some (Some lit)
slot_kept [] place k lit at = cc
slot_kept (x ∷ slots) zero zero lit at = cc
slot_kept (x ∷ slots) zero (suc k) lit at = at
slot_kept (x ∷ slots) (suc place) zero lit at = at
slot_kept (x ∷ slots) (suc place) (suc k) lit at = slot_kept slots place k lit at

pub placed_emptied : (slots : List (Option Lit)) (place_of : Lit → Option ℕ) (place : ℕ) → IsPlaced slots place_of → IsPlaced (set slots place None) place_of
placed_emptied slots place_of place placed = λ k lit at. placed k lit (slot_kept slots place k lit at)

-- one slot more
last_slot : (slots : List (Option Lit)) (lit other : Lit) (k : ℕ) → slice_get (slots ++ Some lit ∷ []) k ≡ Some (Some other) → (slice_get slots k ≡ Some (Some other)) ⊎ ((k ≡ length slots) × (other ≡ lit))
last_slot [] lit other zero at = inr (refl, cc)
last_slot [] lit other (suc k) at = cc
last_slot (x ∷ slots) lit other zero at = inl at
last_slot (x ∷ slots) lit other (suc k) at = elim (last_slot slots lit other k at) [ inl here ↦ inl here | inr (e, same) ↦ inr (ap suc e, same) ]

-- a literal that no slot has gets another place
pub placed_anew : (slots : List (Option Lit)) (lit : Lit) (old new : Lit → Option ℕ) → Misses slots lit → ((other : Lit) → same_literal lit other ≡ false → new other ≡ old other) → IsPlaced slots old → IsPlaced slots new
placed_anew slots lit old new misses others placed = λ k other at. others other (apart k other at) ∙ placed k other at
  where
    apart : (k : ℕ) (other : Lit) → slice_get slots k ≡ Some (Some other) → same_literal lit other ≡ false
    apart k other at = by (same_literal lit other) refl
      where
        by : (b : Bool) → same_literal lit other ≡ b → b ≡ false
        by true e = absurd (misses k (subst (λ o. slice_get slots k ≡ Some (Some o)) (sym (one_literal lit other e)) at))
        by false e = refl

pub placed_more : (slots : List (Option Lit)) (lit : Lit) (place_of : Lit → Option ℕ) → place_of lit ≡ Some (length slots) → IsPlaced slots place_of → IsPlaced (slots ++ Some lit ∷ []) place_of
placed_more slots lit place_of here placed = λ k other at.
    elim (last_slot slots lit other k at) [
      | inl there ↦ placed k other there
      | inr (e, same) ↦ ap place_of same ∙ here ∙ ap Some (sym e)
    ]

pub filled_more : (slots : List (Option Lit)) (lit : Lit) → Misses slots lit → filled (slots ++ Some lit ∷ []) ≡ with_literal (filled slots) lit
filled_more slots lit misses =
    filter_map-append (λ slot. slot) slots (Some lit ∷ []) ∙ ap (λ b. cond b (filled slots) (filled slots ++ lit ∷ [])) (sym (has_missed slots lit misses))

pub filled_there : (slots : List (Option Lit)) (place : ℕ) (lit : Lit) → slice_get slots place ≡ Some (Some lit) → filled slots ≡ with_literal (filled slots) lit
filled_there slots place lit at = ap (λ b. cond b (filled slots) (filled slots ++ lit ∷ [])) (sym (has_filled slots place lit at))

-- the literals in slots are distinct
apart_from : (l : Lit) (slots : List (Option Lit)) → Misses slots l → AllByRecursion (λ y. same_literal l y ≡ false) (filled slots)
apart_from l [] misses = tt
apart_from l (None ∷ slots) misses = apart_from l slots (λ k. misses (suc k))
apart_from l (Some y ∷ slots) misses = (apart_head y l slots misses, apart_from l slots (λ k. misses (suc k)))

pub distinct_filled : (slots : List (Option Lit)) → IsOnce slots → IsDistinct same_literal (filled slots)
unfolding IsDistinct
distinct_filled [] once = tt
distinct_filled (None ∷ slots) once = distinct_filled slots (once_tail None slots once)
distinct_filled (Some l ∷ slots) once =
    (apart_from l slots (λ k there. let e = once (suc k) zero l there refl in omega arith), distinct_filled slots (once_tail (Some l) slots once))

-- a slot read and compared
pub slot_filled : (slots : List (Option Lit)) (place : ℕ) (lit : Lit) (d : Option Lit) → place < length slots → option_eq same_literal (slice_index_or slots place d) (Some lit) ≡ true → slice_get slots place ≡ Some (Some lit)
slot_filled [] place lit d within e = absurd (omega arith)
slot_filled (None ∷ slots) zero lit d within e = cc
slot_filled (Some l ∷ slots) zero lit d within e = ap (λ x. Some (Some x)) (one_literal l lit e)
slot_filled (slot ∷ slots) (suc place) lit d within e = slot_filled slots place lit d (omega arith) e

pub slot_told : (slots : List (Option Lit)) (place : ℕ) (lit : Lit) (d : Option Lit) → slice_get slots place ≡ Some (Some lit) → option_eq same_literal (slice_index_or slots place d) (Some lit) ≡ true
slot_told [] place lit d at = cc
slot_told (None ∷ slots) zero lit d at = cc
slot_told (Some l ∷ slots) zero lit d at = let same : l ≡ lit = cc in rw same (same_itself lit)
slot_told (slot ∷ slots) (suc place) lit d at = slot_told slots place lit d at

-- what a look for the slot of a literal tells
module _ (slots : List (Option Lit)) (lit : Lit) where
  pub has_told : (found : Option ℕ) → IfSome found (λ place. slice_get slots place ≡ Some (Some lit)) → IfNone found (Misses slots lit) → is_some found ≡ has (filled slots) lit
  has_told (Some place) there nowhere = sym (has_filled slots place lit there)
  has_told None there nowhere = sym (has_missed slots lit nowhere)

  pub there_told : (found : Option ℕ) → IfSome found (λ place. slice_get slots place ≡ Some (Some lit)) → is_some found ≡ true → filled slots ≡ with_literal (filled slots) lit
  there_told (Some place) there some = filled_there slots place lit there
  there_told None there some = absurd (true≢false (sym some))

  pub missed_told : (found : Option ℕ) → IfNone found (Misses slots lit) → is_some found ≡ false → Misses slots lit
  missed_told (Some place) nowhere none = absurd (true≢false none)
  missed_told None nowhere none = nowhere

-- one slot more of those read so far
pub filled_step : (slots : List (Option Lit)) (place : ℕ) (d : Option Lit) → place < length slots → filled (take (place + 1) slots) ≡ filled (take place slots) ++ filled (get_or slots place d ∷ [])
filled_step slots place d within = ap filled (take_more slots place d within) ∙ filter_map-append (λ slot. slot) (take place slots) (get_or slots place d ∷ [])
