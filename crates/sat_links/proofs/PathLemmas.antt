-- Ways along links in both directions: what a write keeps of them, and how they are cut and joined.
use Rattle.std.proofs.Common.{◌≡◌, ◌≢◌, ℕ, ◌<◌, List, [], ◌∷◌, ◌++◌, length, get_or, set, refl, sym, ap, ◌∙◌, subst}
use Rattle.std.proofs.lemmas.List.{length-set, get_or-set_same, get_or-set_other, append-nil}
use Rattle.sat_links.specs.Rings.{following, Leads}
use Rattle.sat_links.proofs.ApartLemmas.{Misses, Apart, Misses-parts, Apart-left, Apart-middle}

-- the first number of a list, and the last one, or another where there is none
abbrev pub first_or : ℕ → List ℕ → ℕ
first_or none [] = none
first_or none (x ∷ xs) = x

abbrev pub last_or : ℕ → List ℕ → ℕ
last_or none [] = none
last_or none (x ∷ xs) = last_or x xs

pub differs_from_last : (a x : ℕ) (xs : List ℕ) → a ≢ x → Misses a xs → a ≢ last_or x xs
differs_from_last a x [] d m = d
differs_from_last a x (y ∷ ys) d m = differs_from_last a y ys m.0 m.1

pub last_misses : (x : ℕ) (xs ys : List ℕ) → Misses x ys → Apart (xs ++ ys) → Misses (last_or x xs) ys
last_misses x [] ys misses apart = misses
last_misses x (y ∷ xs) ys misses apart = last_misses y xs ys (Misses-parts y xs ys apart.0).1 apart.1

-- a way keeps where no number that it reads is written
pub Leads-set : (previous next : List ℕ) (from : ℕ) (xs : List ℕ) (to : ℕ) (i a j b : ℕ)
    → Leads previous next from xs to → Misses i (from ∷ xs) → Misses j xs → j ≢ to → Leads (set previous j b) (set next i a) from xs to
Leads-set previous next from [] to i a j b way apart misses differs = (
  get_or-set_other next i from a 0 (λ e. apart.0 (sym e)) ∙ way.0,
  get_or-set_other previous j to b 0 (λ e. differs (sym e)) ∙ way.1,
)
Leads-set previous next from (x ∷ xs) to i a j b way apart misses differs = (
  get_or-set_other next i from a 0 (λ e. apart.0 (sym e)) ∙ way.0,
  get_or-set_other previous j x b 0 (λ e. misses.0 (sym e)) ∙ way.1,
  Leads-set previous next x xs to i a j b way.2 apart.1 misses.1 differs,
)

-- a way that turns to another number at its end
pub Leads-turn : (previous next : List ℕ) (from : ℕ) (xs : List ℕ) (to turn : ℕ)
    → Leads previous next from xs to → Apart (from ∷ xs) → Misses turn xs → last_or from xs < length next → turn < length previous
    → Leads (set previous turn (last_or from xs)) (set next (last_or from xs) turn) from xs turn
Leads-turn previous next from [] to turn way apart misses within here = (get_or-set_same next from turn 0 within, get_or-set_same previous turn from 0 here)
Leads-turn previous next from (x ∷ xs) to turn way apart misses within here = (
  get_or-set_other next (last_or x xs) from turn 0 (differs_from_last from x xs apart.0.0 apart.0.1) ∙ way.0,
  get_or-set_other previous turn x (last_or x xs) 0 (λ e. misses.0 (sym e)) ∙ way.1,
  Leads-turn previous next x xs to turn way.2 apart.1 misses.1 within here,
)

pub Leads-join : (previous next : List ℕ) (from : ℕ) (xs : List ℕ) (x : ℕ) (ys : List ℕ) (to : ℕ)
    → Leads previous next from xs x → Leads previous next x ys to → Leads previous next from (xs ++ x ∷ ys) to
Leads-join previous next from [] x ys to way rest = (way.0, way.1, rest)
Leads-join previous next from (y ∷ xs) x ys to way rest = (way.0, way.1, Leads-join previous next y xs x ys to way.2 rest)

pub Leads-parts : (previous next : List ℕ) (from : ℕ) (xs : List ℕ) (x : ℕ) (ys : List ℕ) (to : ℕ)
    → Leads previous next from (xs ++ x ∷ ys) to → Leads previous next from xs x × Leads previous next x ys to
Leads-parts previous next from [] x ys to way = ((way.0, way.1), way.2)
Leads-parts previous next from (y ∷ xs) x ys to way = let parts = Leads-parts previous next y xs x ys to way.2 in ((way.0, way.1, parts.0), parts.1)

-- what stands in the links at the two ends of a way
pub next_is : (previous next : List ℕ) (from : ℕ) (xs : List ℕ) (to : ℕ) → Leads previous next from xs to → get_or next from 0 ≡ first_or to xs
next_is previous next from [] to way = way.0
next_is previous next from (x ∷ xs) to way = way.0

pub previous_is : (previous next : List ℕ) (from : ℕ) (xs : List ℕ) (to : ℕ) → Leads previous next from xs to → get_or previous to 0 ≡ last_or from xs
previous_is previous next from [] to way = way.1
previous_is previous next from (x ∷ xs) to way = previous_is previous next x xs to way.2

-- a way is what follows its start
pub following_is : (previous next : List ℕ) (from : ℕ) (xs : List ℕ) (to : ℕ) → Leads previous next from xs to → following next from (length xs) ≡ xs
following_is previous next from [] to way = refl
following_is previous next from (x ∷ xs) to way = rw way.0 (ap (λ l. x ∷ l) (following_is previous next x xs to way.2))

-- a way from 0 to 0 without a number in its middle
pub cut : (previous next : List ℕ) (xs ys : List ℕ) (v : ℕ)
    → Leads previous next 0 (xs ++ v ∷ ys) 0 → Apart (0 ∷ (xs ++ v ∷ ys)) → last_or 0 xs < length next → first_or 0 ys < length previous
    → Leads (set previous (first_or 0 ys) (last_or 0 xs)) (set next (last_or 0 xs) (first_or 0 ys)) 0 (xs ++ ys) 0
cut previous next xs [] v way apart within here =
    let parts = Leads-parts previous next 0 xs v [] 0 way in
    let misses = Misses-parts 0 xs (v ∷ []) apart.0 in
    subst (λ l. Leads (set previous 0 (last_or 0 xs)) (set next (last_or 0 xs) 0) 0 l 0) (sym (append-nil xs))
    (Leads-turn previous next 0 xs v 0 parts.0 (misses.0, Apart-left xs (v ∷ []) apart.1) misses.0 within here)
cut previous next xs (y ∷ ys) v way apart within here =
    let parts = Leads-parts previous next 0 xs v (y ∷ ys) 0 way in
    let misses = Misses-parts 0 xs (v ∷ y ∷ ys) apart.0 in
    let after = Apart-middle xs (y ∷ ys) v apart.1 in
    let near = Apart-middle xs ys y after.2 in
    let before = Leads-turn previous next 0 xs v y parts.0 (misses.0, Apart-left xs (v ∷ y ∷ ys) apart.1) near.0 within here in
    let last = last_misses 0 xs (y ∷ ys) misses.1.1 after.2 in
    let rest = Leads-set previous next y ys 0 (last_or 0 xs) y y (last_or 0 xs) parts.1.2 last near.1 (λ e. misses.1.1.0 (sym e)) in
    Leads-join (set previous y (last_or 0 xs)) (set next (last_or 0 xs) y) 0 xs y ys 0 before rest

-- a way from 0 to 0 with a new number at its end
pub add_last : (previous next : List ℕ) (xs : List ℕ) (v : ℕ)
    → Leads previous next 0 xs 0 → Apart (0 ∷ xs) → Misses v (0 ∷ xs) → last_or 0 xs < length next → v < length next → 0 < length previous → v < length previous
    → Leads (set (set previous v (last_or 0 xs)) 0 v) (set (set next (last_or 0 xs) v) v 0) 0 (xs ++ v ∷ []) 0
add_last previous next xs v way apart misses within next_holds holds_0 holds =
    let turned = Leads-turn previous next 0 xs 0 v way apart misses.1 within holds in
    let previous1 = set previous v (last_or 0 xs) in
    let next1 = set next (last_or 0 xs) v in
    let kept = Leads-set previous1 next1 0 xs v v 0 0 v turned misses apart.0 (λ e. misses.0 (sym e)) in
    Leads-join (set previous1 0 v) (set next1 v 0) 0 xs v [] 0 kept (
      get_or-set_same next1 v 0 0 (subst (λ n. v < n) (sym (length-set next (last_or 0 xs) v)) next_holds),
      get_or-set_same previous1 0 v 0 (subst (λ n. 0 < n) (sym (length-set previous v (last_or 0 xs))) holds_0),
    )
