-- The errors of configuration words and order words, by the faults that they stand for.
use Rattle.std.specs.Prelude.{ℕ, ◌≤◌, List, ⊤}
use Rattle.dj_names.specs.Texts.{Text}
use Rattle.dj_tree.specs.Trees.{Source}
use Rattle.dj_calculus.specs.Configurations.{ConfigurationFault, unknown_feature, repeated_feature, not_valid, PieceFault, ConfigurationWordFault}
use Rattle.dj_line.specs.declared.errors.ConfigError.{ConfigError}
use Rattle.dj_line.specs.declared.errors.ConfigError.TheVariants.{UnknownFeature, RepeatedFeature, NotValid, NoMemory}

-- the error of a fault
abbrev pub config_error : ConfigurationFault → ConfigError
config_error (unknown_feature k) = UnknownFeature k
config_error (repeated_feature k) = RepeatedFeature k
config_error not_valid = NotValid

-- the fault stands at this piece, and none at a piece before it
pub record IsLeftmost (source : Source) (pieces : List Text) (k : ℕ) (fault : ConfigurationFault) : Type 0 where
  pub here : PieceFault source pieces k fault
  pub first : (other : ℕ) (g : ConfigurationFault) → PieceFault source pieces other g → k ≤ other

-- the error has its cause in the pieces
abbrev pub IsPieceError : Source → List Text → ConfigError → Type 0
IsPieceError source pieces (UnknownFeature k) = IsLeftmost source pieces k (unknown_feature k)
IsPieceError source pieces (RepeatedFeature k) = IsLeftmost source pieces k (repeated_feature k)
IsPieceError source pieces NotValid = ⊥
IsPieceError source pieces NoMemory = ⊤

-- the error has its cause in the word
abbrev pub IsWordError : Source → Text → ConfigError → Type 0
IsWordError source word (UnknownFeature k) = ConfigurationWordFault source word (unknown_feature k)
IsWordError source word (RepeatedFeature k) = ConfigurationWordFault source word (repeated_feature k)
IsWordError source word NotValid = ConfigurationWordFault source word not_valid
IsWordError source word NoMemory = ⊤
