-- A word stands for one configuration at most, or is refused for one fault; an order word likewise.
use Rattle.std.proofs.Common.{◌≡◌, ◌≢◌, ◌↔◌, ◌<◌, ℕ, List, length, Result, Err, refl, sym, subst, ◌∙◌}
use Rattle.std.proofs.lemmas.Option.{slice_get_within}
use Rattle.dj_names.specs.Texts.{Text}
use Rattle.dj_tree.specs.Trees.{Source}
use Rattle.dj_calculus.specs.Configurations.{Configuration, pieces_of, ConfigurationFault, unknown_feature, repeated_feature, not_valid, PieceFault, no_feature, stood_before, ConfigurationWord, ConfigurationWordFault, leftmost, invalid}
use Rattle.dj_calculus.specs.Products.{OrderFault, unknown_delta, not_allowed, OrderWordFault}
use Rattle.dj_calculus.specs.Products as orders
use Rattle.dj_line.specs.Words.{config_error}
use Rattle.dj_line.specs.OrderWords.{order_error}
use Rattle.dj_line.specs.declared.errors.ConfigError.{ConfigError}
use Rattle.dj_line.specs.declared.errors.ConfigError.TheVariants as config
use Rattle.dj_line.specs.declared.errors.OrderError.{OrderError}
use Rattle.dj_line.specs.declared.errors.OrderError.TheVariants as order
use Rattle.dj_report.specs.WordTexts.{IsConfigurationRefusal, IsOrderRefusal}

-- ---- configurations

pub one_configuration : (source : Source) (word : Text) (c d : Configuration) → ConfigurationWord source word c → ConfigurationWord source word d → c ≡ d
one_configuration source word c d first second = first.chooses ∙ sym second.chooses

within : (source : Source) (pieces : List Text) (k : ℕ) (f : ConfigurationFault) → PieceFault source pieces k f → k < length pieces
within source pieces _ _ (no_feature k x at unknown) = slice_get_within pieces k x at
within source pieces _ _ (stood_before k before x earlier at_before at) = slice_get_within pieces k x at

numbered : (source : Source) (pieces : List Text) (k : ℕ) (f : ConfigurationFault) → PieceFault source pieces k f → (word : Text) → pieces ≡ pieces_of word → IsConfigurationRefusal word (config_error f)
numbered source pieces _ _ (no_feature k x at unknown) word is = let P : List Text → Type 0 = λ all. k < length all in subst P is (slice_get_within pieces k x at)
numbered source pieces _ _ (stood_before k before x earlier at_before at) word is = let P : List Text → Type 0 = λ all. k < length all in subst P is (slice_get_within pieces k x at)

pub configuration_sayable : (source : Source) (word : Text) (f : ConfigurationFault) → ConfigurationWordFault source word f → IsConfigurationRefusal word (config_error f)
configuration_sayable source word _ (leftmost k f here first) = numbered source (pieces_of word) k f here word refl
configuration_sayable source word _ (invalid features no_valid) = tt

-- an error other than want of memory is that of a fault
pub configuration_fault_of : {C : Type 0} (source : Source) (word : Text) (error : ConfigError) → error ≢ config.NoMemory
    → ((f : ConfigurationFault) → ◌≢◌ {A = Result C ConfigError} (Err error) (Err config.NoMemory) → (◌≡◌ {A = Result C ConfigError} (Err error) (Err (config_error f))) ↔ ConfigurationWordFault source word f)
    → (f : ConfigurationFault) × (error ≡ config_error f) × ConfigurationWordFault source word f
configuration_fault_of source word (config.UnknownFeature k) memory refused = (unknown_feature k, refl, (refused (unknown_feature k) (λ e. cc)).0 refl)
configuration_fault_of source word (config.RepeatedFeature k) memory refused = (repeated_feature k, refl, (refused (repeated_feature k) (λ e. cc)).0 refl)
configuration_fault_of source word config.NotValid memory refused = (not_valid, refl, (refused not_valid (λ e. cc)).0 refl)
configuration_fault_of source word config.NoMemory memory refused = absurd (memory refl)

-- ---- orders

pub order_sayable : (source : Source) (c : Configuration) (word : Text) (f : OrderFault) → OrderWordFault source c word f → IsOrderRefusal word (order_error f)
order_sayable source c word _ (orders.leftmost k (piece, at, unknown) first) = slice_get_within (pieces_of word) k piece at
order_sayable source c word _ (orders.disallowed known no_order) = tt

pub order_fault_of : {C : Type 0} (source : Source) (c : Configuration) (word : Text) (error : OrderError) → error ≢ order.NoMemory
    → ((f : OrderFault) → ◌≢◌ {A = Result C OrderError} (Err error) (Err order.NoMemory) → (◌≡◌ {A = Result C OrderError} (Err error) (Err (order_error f))) ↔ OrderWordFault source c word f)
    → (f : OrderFault) × (error ≡ order_error f) × OrderWordFault source c word f
order_fault_of source c word (order.UnknownDelta k) memory refused = (unknown_delta k, refl, (refused (unknown_delta k) (λ e. cc)).0 refl)
order_fault_of source c word order.NotAllowed memory refused = (not_allowed, refl, (refused not_allowed (λ e. cc)).0 refl)
order_fault_of source c word order.NoMemory memory refused = absurd (memory refl)
