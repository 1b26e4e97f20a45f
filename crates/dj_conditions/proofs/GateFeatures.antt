-- The features in the gates of a formula.
use Rattle.std.proofs.Common.{◌≡◌, ℕ, ◌<◌, ◌+◌, Bool, true, false, cond, not, ◌||◌, List, [], ◌∷◌, length, Contains, Some, refl, subst, arith}
use Rattle.std.specs.Str.{bytes_eq}
use Rattle.arena_walk.specs.Tree.{nodes}
use Rattle.dj_names.specs.Texts.{Text}
use Rattle.dj_tree.specs.Trees as plain
use Rattle.dj_tree.specs.Trees.{FormulaForm, TrueForm, FalseForm, FeatureForm, NotForm, AndForm, OrForm, ImpliesForm, SameForm}
use Rattle.dj_tree.proofs.InForm.{nodes_in_form}
use Rattle.dj_calculus.specs.Formulas.{name_in, names_in}
use Rattle.dj_calculus.specs.Configurations.{is_named}
use Rattle.dj_calculus.proofs.Members.{kept_by, mapped_from}
use Rattle.dj_formula.specs.declared.formula.Gate.{Gate}
use Rattle.dj_formula.specs.declared.formula.Gate.TheVariants.{Feature}
use Rattle.dj_formula.specs.Value.{HasFeaturesBelow}
use Rattle.dj_conditions.specs.Conditions.{gate_of, gates_of, feature_number}

-- a feature that is named has a number below the number of features
pub named_below : (features : List plain.Spot) (x : Text) → is_named features x ≡ true → feature_number features x < length features
named_below [] x named = absurd (cc)
named_below (f ∷ features) x named = first_case (bytes_eq f.text x) (named_below features x) named
  where
    first_case : (b : Bool) → (is_named features x ≡ true → feature_number features x < length features) → (b || is_named features x) ≡ true → cond (not b) (1 + feature_number features x) 0 < length (f ∷ features)
    first_case true later e = omega arith
    first_case false later e = omega (arith, later e)

named_form : (features : List plain.Spot) (form : FormulaForm) (number : ℕ) → gate_of features form ≡ Feature number → (x : plain.Spot) × (name_in form ≡ Some x) × (feature_number features x.text ≡ number)
named_form features TrueForm number e = absurd (cc)
named_form features FalseForm number e = absurd (cc)
named_form features (FeatureForm x) number e = (x, refl, cc)
named_form features NotForm number e = absurd (cc)
named_form features AndForm number e = absurd (cc)
named_form features OrForm number e = absurd (cc)
named_form features ImpliesForm number e = absurd (cc)
named_form features SameForm number e = absurd (cc)

-- where each name in a formula is a feature, each feature in its gates has a number below the number of features
pub features_below : (features : List plain.Spot) (meant : plain.Formula) → ((x : plain.Spot) → Contains (names_in meant) x → is_named features x.text ≡ true) → HasFeaturesBelow (length features) (gates_of features meant)
features_below features meant named = λ number has.
    let P : List Gate → Type 0 = λ gs. Contains gs (Feature number) in
    let it = mapped_from (gate_of features) (nodes meant) (Feature number) (subst P (nodes_in_form (gate_of features) meant) has) in
    let x = named_form features it.0 number it.2 in
    omega (arith, named_below features x.0.text (named x.0 (kept_by name_in (nodes meant) it.0 x.0 it.1 x.1)), x.2)
