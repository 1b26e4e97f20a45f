-- The least places of things, by what they touch.
use Rattle.std.specs.Prelude.{◌≡◌, ℕ, ◌<◌, ◌≤◌, ◌==◌, Bool, true, false, ◌&&◌, List, length, Option, Some, nat_eq}
use Rattle.indexmap.specs.IndexMap.{IndexMap, get}
use Rattle.dj_names.specs.Texts.{Text}
use Rattle.dj_calculus.specs.Things.{Touch, Thing, whole, only, superclass, field_named, method_named}
use Rattle.dj_calculus.specs.Conflicts.{conflict}
use Rattle.dj_apply.specs.Least.{IsLeastBy, IsEarlierOf, Among}
use Rattle.dj_apply.specs.Touched.{text_of}
use Rattle.dj_apply.specs.declared.least_places.MemberOfClass.{MemberOfClass}
use Rattle.dj_apply.specs.declared.least_places.LeastPlaces.{LeastPlaces}

abbrev pub NoGreater : ℕ → ℕ → Type 0
NoGreater a b = a ≤ b

abbrev pub same_member : MemberOfClass → MemberOfClass → Bool
same_member a b = a.class == b.class && a.name == b.name

-- what is kept of the key became the lesser of it and the place, and of all others it stayed
abbrev pub Lowers : {K S : Type 0} → (K → K → Bool) → IndexMap K ℕ S → IndexMap K ℕ S → K → ℕ → Type 0
Lowers {K} eq old new key at = IsEarlierOf NoGreater (get eq old key) (Some at) (get eq new key) × ((other : K) → eq key other ≡ false → get eq new other ≡ get eq old other)

-- the place of one of these things of which this holds
abbrev pub PlaceOf : (Thing → Type 0) → List Thing → ℕ → Type 0
PlaceOf P = Among (λ a at. P a × (at ≡ a.at))

-- the place of one of these things that conflicts with another
abbrev pub IsPlaceAgainst : Thing → List Thing → ℕ → Type 0
IsPlaceAgainst b = PlaceOf (λ a. conflict a b ≡ true)

-- for each key that is known, the least place of the things that it is for
abbrev pub TellsLeast : {K : Type 0} → (K → Type 0) → (K → Thing → Type 0) → List Thing → (K → Option ℕ) → Type 0
TellsLeast {K} Known Is things place = (key : K) → Known key → IsLeastBy NoGreater (PlaceOf (Is key) things) (place key)

-- the thing is of this class, and touches this of it
abbrev pub Touches : Text → Touch → Thing → Type 0
Touches class touch a = (a.class ≡ class) × (a.touch ≡ touch)

abbrev pub IsNumber : List Text → ℕ → Type 0
IsNumber names number = number < length names

abbrev pub IsMemberKnown : List Text → MemberOfClass → Type 0
IsMemberKnown names m = (m.class < length names) × (m.name < length names)

-- the least places of these things are kept
pub record Keeps (names : List Text) (p : LeastPlaces) (things : List Thing) : Type 0 where
  pub of_any : TellsLeast (IsNumber names) (λ class a. a.class ≡ text_of names class) things (get nat_eq p.any)
  pub of_wholes : TellsLeast (IsNumber names) (λ class. Touches (text_of names class) whole) things (get nat_eq p.wholes)
  pub of_superclasses : TellsLeast (IsNumber names) (λ class. Touches (text_of names class) (only superclass)) things (get nat_eq p.superclasses)
  pub of_fields : TellsLeast (IsMemberKnown names) (λ m. Touches (text_of names m.class) (only (field_named (text_of names m.name)))) things (get same_member p.fields)
  pub of_methods : TellsLeast (IsMemberKnown names) (λ m. Touches (text_of names m.class) (only (method_named (text_of names m.name)))) things (get same_member p.methods)
