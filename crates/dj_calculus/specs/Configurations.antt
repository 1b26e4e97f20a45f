-- Configurations: which features are chosen, which choices are valid, and what a configuration word means.
use Rattle.std.specs.Prelude.{◌≡◌, ℕ, ◌<◌, ◌≤◌, ◌==◌, Bool, false, List, [], map, length, slice_get, Some, unwrap_or, IsTrue, IsFalse, codes, if◌then◌else◌}
use Rattle.std.specs.List.{list_any, position_or_len, slice_split}
use Rattle.std.specs.Str.{bytes_eq}
use Rattle.dj_names.specs.Texts.{Text}
use Rattle.dj_tree.specs.Trees.{Spot, Source}
use Rattle.dj_calculus.specs.Formulas.{value}

-- a truth value for each feature, in the order in which the features are listed
abbrev pub Configuration : Type 0
Configuration = List Bool

-- whether some of the names is this text
abbrev pub is_named : List Spot → Text → Bool
is_named names text = list_any (λ x. bytes_eq x.text text) names

-- Whether a feature is chosen: its truth value. A feature without one is not chosen, and of a feature listed twice the first value is
-- taken. Neither comes up in a valid configuration of an accepted line.
abbrev pub chosen : Source → Configuration → Text → Bool
chosen source c x = unwrap_or (slice_get c (position_or_len (λ f. bytes_eq f.text x) source.features)) false

-- a configuration in which the `valid` formula is true
pub record IsValid (source : Source) (c : Configuration) : Type 0 where
  pub each : length c ≡ length source.features
  pub holds : IsTrue (value (chosen source c) source.valid)

-- ---- configuration words

-- The pieces of a word: none of `-`, and else what stands between its commas. The empty word has one piece, the empty text.
abbrev pub pieces_of : Text → List Text
pieces_of word = if bytes_eq word (codes "-") then [] else slice_split (λ byte. byte == 44) word

-- the configuration that chooses the pieces
abbrev pub choosing : Source → List Text → Configuration
choosing source pieces = map (λ f. list_any (bytes_eq f.text) pieces) source.features

pub data ConfigurationFault : Type 0 where
  unknown_feature : ℕ → ConfigurationFault
  repeated_feature : ℕ → ConfigurationFault
  not_valid : ConfigurationFault

-- the piece of this number, from 0, is at fault: it is no feature, or it stood before
pub data PieceFault (source : Source) (pieces : List Text) : ℕ → ConfigurationFault → Type 0 where
  no_feature : (k : ℕ) (piece : Text) → slice_get pieces k ≡ Some piece → IsFalse (is_named source.features piece)
      → PieceFault source pieces k (unknown_feature k)
  stood_before : (k before : ℕ) (piece : Text) → before < k → slice_get pieces before ≡ Some piece → slice_get pieces k ≡ Some piece
      → PieceFault source pieces k (repeated_feature k)

abbrev pub HasNoPieceFault : Source → List Text → Type 0
HasNoPieceFault source pieces = (k : ℕ) (fault : ConfigurationFault) → ¬ (PieceFault source pieces k fault)

-- the word stands for this valid configuration: each piece is a feature, and stands once
pub record ConfigurationWord (source : Source) (word : Text) (c : Configuration) : Type 0 where
  pub features : HasNoPieceFault source (pieces_of word)
  pub chooses : c ≡ choosing source (pieces_of word)
  pub valid : IsValid source c

-- why the word stands for none: its leftmost piece that is at fault, and else that the formula is false
pub data ConfigurationWordFault (source : Source) (word : Text) : ConfigurationFault → Type 0 where
  leftmost : (k : ℕ) (fault : ConfigurationFault) → PieceFault source (pieces_of word) k fault
      → ((other : ℕ) (g : ConfigurationFault) → PieceFault source (pieces_of word) other g → k ≤ other)
      → ConfigurationWordFault source word fault
  invalid : HasNoPieceFault source (pieces_of word) → ¬ (IsValid source (choosing source (pieces_of word)))
      → ConfigurationWordFault source word not_valid
