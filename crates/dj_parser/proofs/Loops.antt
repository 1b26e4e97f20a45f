-- Loops that make the things of a list one by one.
use Rattle.std.proofs.Common.{◌≡◌, ℕ, ◌+◌, ◌<◌, ◌≤◌, List, [], ◌∷◌, ◌++◌, length, get_or, take, drop, map, refl, sym, ap, subst, ◌∙◌, append_assoc}
use Rattle.std.specs.List.{AllZip}
use Rattle.std.proofs.lemmas.List.{take_more, take_all, take-append-drop, append-nil}
use Rattle.std.proofs.lemmas.List.Elements.{All-nil, All-cons}
use Rattle.dj_names.specs.Texts.{Text}
use Rattle.dj_parser.specs.Said.{said_each}
use Rattle.dj_parser.specs.Growth.{CanSay, Grew}
use Rattle.dj_parser.specs.Resolved.{Stands, StandEach}
use Rattle.dj_parser.specs.declared.tables.Tables.{Tables}
use Rattle.dj_parser.proofs.Growing.{can_first, can_then, grew_then}
use Rattle.arena_walk.proofs.WalkLemmas.{AllZip-more}

pub said_append : {A : Type 0} (says : A → List Text) (xs ys : List A) → said_each says (xs ++ ys) ≡ said_each says xs ++ said_each says ys
said_append says [] ys = refl
said_append says (x ∷ xs) ys = ap (λ rest. says x ++ rest) (said_append says xs ys) ∙ sym (append_assoc (says x) (said_each says xs) (said_each says ys))

-- what the things of a list say, by what they stand for
pub said_map : {A X : Type 0} (says : X → List Text) (view : A → X) (xs : List A) → said_each (λ a. says (view a)) xs ≡ said_each says (map view xs)
said_map says view [] = refl
said_map says view (x ∷ xs) = ap (λ rest. says (view x) ++ rest) (said_map says view xs)

module _ {A : Type 0} (raws : List A) (i : ℕ) (x : A) (below : i < length raws) (is : x ≡ get_or raws i x) where
  pub one_more : take (i + 1) raws ≡ take i raws ++ x ∷ []
  one_more = take_more raws i x below ∙ ap (λ y. take i raws ++ y ∷ []) (sym is)

  pub split : raws ≡ take i raws ++ (x ∷ drop (i + 1) raws)
  split = sym (take-append-drop (i + 1) raws) ∙ ap (λ front. front ++ drop (i + 1) raws) one_more ∙ append_assoc (take i raws) (x ∷ []) (drop (i + 1) raws)

  -- the next thing can be made
  pub can_next : {old now : Tables} (says : A → List Text) → CanSay old (said_each says raws) → Grew old now (said_each says (take i raws)) → CanSay now (says x)
  can_next {old = old} says can grew =
      let parts : said_each says raws ≡ said_each says (take i raws) ++ (says x ++ said_each says (drop (i + 1) raws)) =
      ap (said_each says) split ∙ said_append says (take i raws) (x ∷ drop (i + 1) raws) in
      can_first _ (can_then _ (subst (λ texts. CanSay old texts) parts can) grew)

  pub grew_next : {old now new : Tables} (says : A → List Text) → Grew old now (said_each says (take i raws)) → Grew now new (says x)
      → Grew old new (said_each says (take (i + 1) raws))
  grew_next {old = old} {now = now} {new = new} says grew more =
      let parts : said_each says (take (i + 1) raws) ≡ said_each says (take i raws) ++ (says x ++ []) =
      ap (said_each says) one_more ∙ said_append says (take i raws) (x ∷ []) in
      let last : says x ++ [] ≡ says x = append-nil (says x) in
      subst (λ texts. Grew old new texts) (sym (parts ∙ ap (λ rest. said_each says (take i raws) ++ rest) last)) (grew_then grew more)

  pub zip_next : {B : Type 0} (R : A → B → Type 0) (outs : List B) (y : B) → AllZip R (take i raws) outs → R x y → AllZip R (take (i + 1) raws) (outs ++ y ∷ [])
  zip_next R outs y zip last = rw one_more (AllZip-more R (take i raws) outs x y zip last)

pub grew_all : {A : Type 0} {old new : Tables} (raws : List A) (i : ℕ) (says : A → List Text) → length raws ≤ i → Grew old new (said_each says (take i raws)) → Grew old new (said_each says raws)
grew_all {old = old} {new = new} raws i says end grew = subst (λ xs. Grew old new (said_each says xs)) (take_all i raws end) grew

pub zip_all : {A B : Type 0} (R : A → B → Type 0) (raws : List A) (i : ℕ) (outs : List B) → length raws ≤ i → AllZip R (take i raws) outs → AllZip R raws outs
zip_all R raws i outs end zip = subst (λ xs. AllZip R xs outs) (take_all i raws end) zip

-- the outs of a list stand for what the list stands for
pub zip_stands : {A B X : Type 0} (plain_of : B → X) (IsWell : B → Type 0) (view : A → X) (raws : List A) (outs : List B)
    → AllZip (λ raw out. Stands plain_of IsWell out (view raw)) raws outs → StandEach plain_of IsWell outs (map view raws)
zip_stands plain_of IsWell view [] [] zip = record { same = refl; well = All-nil IsWell }
zip_stands plain_of IsWell view [] (y ∷ outs) zip = absurd zip
zip_stands plain_of IsWell view (x ∷ raws) [] zip = absurd zip
zip_stands {X = X} plain_of IsWell view (x ∷ raws) (y ∷ outs) zip =
    let rest = zip_stands plain_of IsWell view raws outs zip.1 in
    record {
      same = ap (λ (z : X). z ∷ map plain_of outs) zip.0.same ∙ ap (λ (zs : List X). view x ∷ zs) rest.same;
      well = All-cons IsWell y outs zip.0.well rest.well;
    }

-- ---- the same, where a slice is the list of a vector, and each thing of it is viewed

pub can_each : {A X : Type 0} {t : Tables} (says : X → List Text) (view : A → X) (raws slice : List A) → slice ≡ raws → CanSay t (said_each says (map view raws))
    → CanSay t (said_each (λ a. says (view a)) slice)
can_each {t = t} says view raws slice same can = subst (λ texts. CanSay t texts) (sym (said_map says view slice ∙ ap (λ xs. said_each says (map view xs)) same)) can

pub grew_each : {A X : Type 0} {old new : Tables} (says : X → List Text) (view : A → X) (raws slice : List A) → slice ≡ raws → Grew old new (said_each (λ a. says (view a)) slice)
    → Grew old new (said_each says (map view raws))
grew_each {old = old} {new = new} says view raws slice same grew = subst (λ texts. Grew old new texts) (said_map says view slice ∙ ap (λ xs. said_each says (map view xs)) same) grew

pub stand_each : {A B X : Type 0} (plain_of : B → X) (IsWell : B → Type 0) (view : A → X) (raws slice : List A) (outs list : List B) → slice ≡ raws → list ≡ outs
    → AllZip (λ raw out. Stands plain_of IsWell out (view raw)) slice outs → StandEach plain_of IsWell list (map view raws)
stand_each plain_of IsWell view raws slice outs list same listed zip =
    rw (← same, listed) (zip_stands plain_of IsWell view slice outs zip)
