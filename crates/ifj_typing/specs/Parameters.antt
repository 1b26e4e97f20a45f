-- The types of parameters by the numbers of their names.
use Rattle.std.specs.Prelude.{◌≡◌, ℕ, ◌<◌, List, map, length, nat_eq, Some}
use Rattle.std.specs.Option.{option_map}
use Rattle.indexmap.specs.IndexMap.{IndexMap, get}
use Rattle.dj_names.specs.Texts.{Text}
use Rattle.dj_names.specs.declared.names.Name.{Name}
use Rattle.dj_tree.specs.Plain.{plain_spot}
use Rattle.dj_tree.specs.declared.declarations.Spot.{Spot}
use Rattle.dj_calculus.specs.Tables.{texts_of}
use Rattle.dj_calculus.specs.Typing.{last_named}
use Rattle.ifj_typing.specs.Kinds.{text_of}

-- the texts of spots
abbrev pub spot_texts : List Text → List Spot → List Text
spot_texts names spots = texts_of (map (plain_spot names) spots)

-- the map tells the type of the last of the parameters that has a name, by the name's number
pub record TellsTypes {S : Type 0} (names kept kinds : List Text) (found : IndexMap ℕ Name S) : Type 0 where
  pub tells : (x : Name) → x.0 < length names → option_map (text_of names) (get nat_eq found x.0) ≡ last_named kept kinds (text_of names x)
  pub known : (x : ℕ) (kind : Name) → get nat_eq found x ≡ Some kind → kind.0 < length names
