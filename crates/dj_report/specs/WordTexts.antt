-- What is said of words of the command line that are refused.
use Rattle.std.specs.Prelude.{◌<◌, ℕ, [], ◌∷◌, length, slice_get, unwrap_or, codes}
use Rattle.dj_names.specs.Texts.{Text}
use Rattle.dj_calculus.specs.Configurations.{pieces_of, ConfigurationFault, unknown_feature, repeated_feature, not_valid}
use Rattle.dj_calculus.specs.Products.{OrderFault, unknown_delta, not_allowed}
use Rattle.dj_line.specs.declared.errors.ConfigError.{ConfigError}
use Rattle.dj_line.specs.declared.errors.ConfigError.TheVariants as config
use Rattle.dj_line.specs.declared.errors.OrderError.{OrderError}
use Rattle.dj_line.specs.declared.errors.OrderError.TheVariants as order
use Rattle.dj_report.specs.Join.{joined, line_end}

-- the piece of this number, from 0
abbrev pub piece_at : Text → ℕ → Text
piece_at word k = unwrap_or (slice_get (pieces_of word) k) []

-- why a word stands for no configuration
abbrev pub configuration_text : Text → ConfigurationFault → Text
configuration_text word (unknown_feature k) = joined (codes "configuration refused: unknown feature " ∷ piece_at word k ∷ line_end ∷ [])
configuration_text word (repeated_feature k) = joined (codes "configuration refused: repeated feature " ∷ piece_at word k ∷ line_end ∷ [])
configuration_text word not_valid = joined (codes "configuration refused: not valid" ∷ line_end ∷ [])

-- why a word stands for no order
abbrev pub order_text : Text → OrderFault → Text
order_text word (unknown_delta k) = joined (codes "order refused: unknown delta " ∷ piece_at word k ∷ line_end ∷ [])
order_text word not_allowed = joined (codes "order refused: not allowed" ∷ line_end ∷ [])

-- ---- what can be said

-- the error isn't want of memory, and the word has the piece that it is about
abbrev pub IsConfigurationRefusal : Text → ConfigError → Type 0
IsConfigurationRefusal word (config.UnknownFeature k) = k < length (pieces_of word)
IsConfigurationRefusal word (config.RepeatedFeature k) = k < length (pieces_of word)
IsConfigurationRefusal word config.NotValid = Unit {0}
IsConfigurationRefusal word config.NoMemory = ⊥

abbrev pub IsOrderRefusal : Text → OrderError → Type 0
IsOrderRefusal word (order.UnknownDelta k) = k < length (pieces_of word)
IsOrderRefusal word order.NotAllowed = Unit {0}
IsOrderRefusal word order.NoMemory = ⊥
