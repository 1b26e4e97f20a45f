-- The names of the chosen features, one feature after the other, and the word that they make.
use Rattle.std.proofs.Common.{◌≡◌, ◌⊎◌, inl, inr, ℕ, suc, ◌<◌, Bool, true, false, Bor, List, [], ◌∷◌, ◌++◌, map, length, Some, slice_get, unwrap_or, refl, sym, ap, ◌∙◌, subst, append_assoc, codes, arith}
use Rattle.std.specs.List.{All, flat_map, join_by}
use Rattle.std.proofs.lemmas.List.{map-append}
use Rattle.dj_names.specs.Texts.{Text}
use Rattle.dj_tree.specs.Plain.{plain_spot}
use Rattle.dj_tree.specs.declared.declarations.Spot.{Spot}
use Rattle.dj_calculus.specs.Configurations.{Configuration}
use Rattle.dj_report.specs.Answers.{chosen_names, names_word}

-- ---- one feature more

pub rest_of : {X : Type 0} (P : X → Type 0) (xs rest : List X) (x : X) → xs ≡ x ∷ rest → All P xs → All P rest
rest_of P xs rest x is all = λ k d low. (subst (All P) is all) (suc k) d (omega arith)

module _ (names : List Text) (all : List Text) where
  -- what is left once a feature is passed over
  pub passed : (so_far : List Text) (xs rest : List Spot) (values bits : Configuration) (x : Spot) (b : Bool) → xs ≡ x ∷ rest → values ≡ b ∷ bits → b ≡ false
      → so_far ++ chosen_names (map (plain_spot names) xs) values ≡ all → so_far ++ chosen_names (map (plain_spot names) rest) bits ≡ all
  passed so_far xs rest values bits x b first value unchosen is =
      sym (ap (λ u. so_far ++ u) (ap (λ u. chosen_names (map (plain_spot names) u) values) first ∙ ap (chosen_names (plain_spot names x ∷ map (plain_spot names) rest)) (value ∙ ap (λ v. v ∷ bits) unchosen))) ∙ is

  -- and once its name is put behind the others
  pub chosen_too : (so_far : List Text) (xs rest : List Spot) (values bits : Configuration) (x : Spot) (b : Bool) (name : Text) → xs ≡ x ∷ rest → values ≡ b ∷ bits
      → b ≡ true → slice_get names x.name.0 ≡ Some name → so_far ++ chosen_names (map (plain_spot names) xs) values ≡ all
      → (so_far ++ name ∷ []) ++ chosen_names (map (plain_spot names) rest) bits ≡ all
  chosen_too so_far xs rest values bits x b name first value chosen says is =
      append_assoc so_far (name ∷ []) (chosen_names (map (plain_spot names) rest) bits)
      ∙ ap (λ u. so_far ++ u ∷ chosen_names (map (plain_spot names) rest) bits) (sym (ap (λ o. unwrap_or o []) says))
      ∙ sym (ap (λ u. so_far ++ u) (ap (λ u. chosen_names (map (plain_spot names) u) values) first ∙ ap (chosen_names (plain_spot names x ∷ map (plain_spot names) rest)) (value ∙ ap (λ v. v ∷ bits) chosen)))
      ∙ is

pub put_behind : (xs ys : List (Bor (List ℕ))) (x : Bor (List ℕ)) → ys ≡ xs ++ x ∷ [] → map (λ (n : Bor (List ℕ)). n.now) ys ≡ map (λ (n : Bor (List ℕ)). n.now) xs ++ x.now ∷ []
put_behind xs ys x is = ap (map (λ (n : Bor (List ℕ)). n.now)) is ∙ map-append (λ (n : Bor (List ℕ)). n.now) xs (x ∷ [])

-- nothing is left where a list is at its end
pub none_left : (names : List Text) (xs : List Spot) (values : Configuration) → (length xs ≡ 0) ⊎ (length values ≡ 0)
    → chosen_names (map (plain_spot names) xs) values ≡ []
none_left names [] values end = refl
none_left names (x ∷ xs) [] end = refl
none_left names (x ∷ xs) (b ∷ bits) (inl none) = absurd (omega (arith, none))
none_left names (x ∷ xs) (b ∷ bits) (inr none) = absurd (omega (arith, none))

-- ---- the word

joined_behind : (sep : Text) (xs : List (Bor (List ℕ))) → flat_map (λ (x : Bor (List ℕ)). sep ++ x.now) xs ≡ flat_map (λ (t : Text). sep ++ t) (map (λ (x : Bor (List ℕ)). x.now) xs)
joined_behind sep [] = refl
joined_behind sep (x ∷ xs) = ap (λ u. (sep ++ x.now) ++ u) (joined_behind sep xs)

pub joined_names : (sep : Text) (xs : List (Bor (List ℕ))) → join_by (λ (x : Bor (List ℕ)). x.now) sep xs ≡ join_by (λ (t : Text). t) sep (map (λ (x : Bor (List ℕ)). x.now) xs)
joined_names sep [] = refl
joined_names sep (x ∷ xs) = ap (λ u. x.now ++ u) (joined_behind sep xs)

-- one name or more are joined
pub word_of_some : (xs : List (Bor (List ℕ))) (names : List Text) (word : Text) → 0 < length xs → map (λ (x : Bor (List ℕ)). x.now) xs ≡ names
    → word ≡ join_by (λ (x : Bor (List ℕ)). x.now) (codes ",") xs → word ≡ names_word names
word_of_some [] names word some is says = absurd (omega (arith, some))
word_of_some (x ∷ xs) names word some is says = says ∙ joined_names (codes ",") (x ∷ xs) ∙ ap names_word is
