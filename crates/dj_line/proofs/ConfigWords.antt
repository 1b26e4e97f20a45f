-- What the answers for a configuration word say, both ways.
use Rattle.std.proofs.Common.{◌≡◌, ℕ, ◌≤◌, Bool, true, false, List, length, Some, Result, Ok, Err, refl, sym, ap, ◌∙◌, subst, arith}
use Rattle.std.specs.Prelude.{◌↔◌, MatchResult, IsOk}
use Rattle.dj_names.specs.Texts.{Text}
use Rattle.dj_tree.specs.Trees.{Source}
use Rattle.std.proofs.lemmas.List.{length-map}
use Rattle.dj_calculus.specs.Formulas.{value}
use Rattle.dj_formula.specs.declared.formula.Formula.{Formula}
use Rattle.dj_formula.specs.Value.{HasValue}
use Rattle.dj_calculus.specs.Configurations.{Configuration, chosen, ConfigurationFault, unknown_feature, repeated_feature, not_valid, PieceFault, no_feature, stood_before, HasNoPieceFault, choosing, pieces_of, is_named, IsValid, ConfigurationWord, ConfigurationWordFault, leftmost, invalid}
use Rattle.dj_line.specs.declared.errors.Config.{Config}
use Rattle.dj_line.specs.declared.errors.ConfigError.{ConfigError}
use Rattle.dj_line.specs.declared.errors.ConfigError.TheVariants.{UnknownFeature, RepeatedFeature, NotValid, NoMemory}
use Rattle.dj_line.specs.Words.{config_error, IsPieceError, IsWordError}

-- ---- at most one fault, and none beside a configuration

least : (k m : ℕ) → k ≤ m → m ≤ k → k ≡ m
least k m a b = omega arith

-- a piece that stood before is a feature where no earlier piece is at fault
one_kind : (source : Source) (pieces : List Text) (k : ℕ) (f g : ConfigurationFault) → PieceFault source pieces k f → ((other : ℕ) (h : ConfigurationFault) → PieceFault source pieces other h → k ≤ other) → PieceFault source pieces k g → f ≡ g
one_kind source pieces k f g (no_feature m x at named) first (no_feature n y at_y named_y) = refl
one_kind source pieces k f g (stood_before m before x low at_before at) first (stood_before n other y low_y at_other at_y) = refl
one_kind source pieces k f g (no_feature m x at named) first (stood_before n before y low at_before at_y) =
    let e : Some x ≡ Some y = sym at ∙ at_y in
    let same : x ≡ y = cc in
    absurd (omega (arith, low, first before (unknown_feature before) (no_feature before y at_before (ap (is_named source.features) (sym same) ∙ named))))
one_kind source pieces k f g (stood_before m before x low at_before at) first (no_feature n y at_y named) =
    let e : Some y ≡ Some x = sym at_y ∙ at in
    let same : y ≡ x = cc in
    absurd (omega (arith, low, first before (unknown_feature before) (no_feature before x at_before (ap (is_named source.features) (sym same) ∙ named))))

pub one_fault : (source : Source) (word : Text) (f g : ConfigurationFault) → ConfigurationWordFault source word f → ConfigurationWordFault source word g → f ≡ g
one_fault source word f g (leftmost k a here first) (leftmost m b there least_there) =
    let same : k ≡ m = least k m (first m g there) (least_there k f here) in
    let P : ℕ → Type 0 = λ n. PieceFault source (pieces_of word) n g in
    one_kind source (pieces_of word) k f g here first (subst P (sym same) there)
one_fault source word f g (leftmost k a here first) (invalid none bad) = absurd (none k f here)
one_fault source word f g (invalid none bad) (leftmost k a here first) = absurd (none k g here)
one_fault source word f g (invalid none bad) (invalid nor worse) = refl

pub no_fault : (source : Source) (word : Text) (c : Configuration) (f : ConfigurationFault) → ConfigurationWord source word c → ConfigurationWordFault source word f → ⊥
no_fault source word c f stands (leftmost k a here first) = stands.features k f here
no_fault source word c f stands (invalid none bad) = bad (subst (λ d. IsValid source d) stands.chooses stands.valid)

-- ---- what the answers say

pub piece_error : (source : Source) (word : Text) (e : ConfigError) → IsPieceError source (pieces_of word) e → IsWordError source word e
piece_error source word (UnknownFeature k) h = leftmost k (unknown_feature k) h.here h.first
piece_error source word (RepeatedFeature k) h = leftmost k (repeated_feature k) h.here h.first
piece_error source word NotValid h = absurd h
piece_error source word NoMemory h = tt

abbrev WordAnswer : Source → Text → Result Config ConfigError → Type 0
WordAnswer source word result = MatchResult result (λ config. ConfigurationWord source word config.chosen.items) (IsWordError source word)

error_stands : (source : Source) (word : Text) (e : ConfigError) → IsWordError source word e → (e ≡ NoMemory → ⊥) → (f : ConfigurationFault) × (e ≡ config_error f) × ConfigurationWordFault source word f
error_stands source word (UnknownFeature k) h some = (unknown_feature k, refl, h)
error_stands source word (RepeatedFeature k) h some = (repeated_feature k, refl, h)
error_stands source word NotValid h some = (not_valid, refl, h)
error_stands source word NoMemory h some = absurd (some refl)

stands_error : (source : Source) (word : Text) (f : ConfigurationFault) → IsWordError source word (config_error f) → ConfigurationWordFault source word f
stands_error source word (unknown_feature k) h = h
stands_error source word (repeated_feature k) h = h
stands_error source word not_valid h = h

pub given_exactly : (source : Source) (word : Text) (result : Result Config ConfigError) → WordAnswer source word result → (result ≡ Err NoMemory → ⊥) → IsOk result ↔ ((c : Configuration) × ConfigurationWord source word c)
given_exactly source word (Ok config) answer some = ((λ _. (config.chosen.items, answer)), (λ _. refl))
given_exactly source word (Err e) answer some =
    let f = error_stands source word e answer (λ same. some (ap Err same)) in
    ((λ ok. absurd (cc)), (λ given. absurd (no_fault source word given.0 f.0 given.1 f.2)))

pub refused_exactly : (source : Source) (word : Text) (fault : ConfigurationFault) (result : Result Config ConfigError) → WordAnswer source word result → (result ≡ Err NoMemory → ⊥)
    → (result ≡ Err (config_error fault)) ↔ ConfigurationWordFault source word fault
refused_exactly source word fault (Ok config) answer some = ((λ e. absurd (cc)), (λ stands. absurd (no_fault source word config.chosen.items fault answer stands)))
refused_exactly source word fault (Err e) answer some = (
  (λ is. let same : e ≡ config_error fault = cc in stands_error source word fault (subst (λ d. IsWordError source word d) same answer)),
  (λ stands.
      let f = error_stands source word e answer (λ same. some (ap Err same)) in
      ap Err (f.1 ∙ ap config_error (one_fault source word f.0 fault f.2 stands))),
)

-- ---- the value of the formula of valid configurations

module _ (source : Source) (word : Text) (pieces : List Text) (c : Configuration) (are : pieces ≡ pieces_of word) (h : HasNoPieceFault source pieces × (c ≡ choosing source pieces)) where
  clean : HasNoPieceFault source (pieces_of word)
  clean = subst (HasNoPieceFault source) are h.0

  made : c ≡ choosing source (pieces_of word)
  made = h.1 ∙ ap (choosing source) are

  pub valid_word : value (chosen source c) source.valid ≡ true → ConfigurationWord source word c
  valid_word on = record { features = clean; chooses = made; valid = record { each = ap length made ∙ length-map source.features _; holds = on } }

  pub invalid_word : value (chosen source c) source.valid ≡ false → ConfigurationWordFault source word not_valid
  invalid_word off =
      let P : Configuration → Type 0 = λ d. value (chosen source d) source.valid ≡ false in
      let off_there = subst P made off in
      invalid clean (λ valid. let on = valid.holds in absurd (cc))

-- a formula has one value
pub one_value : (formula : Formula) (c d : Configuration) (a b : Bool) → c ≡ d → HasValue formula c a → HasValue formula d b → a ≡ b
one_value formula c d a b same has_a has_b =
    let P : Configuration → Type 0 = λ e. HasValue formula e a in
    let e : Some a ≡ Some b = sym (subst P same has_a) ∙ has_b in cc
