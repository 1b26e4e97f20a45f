-- Signatures: types compared place by place.
use Rattle.std.proofs.Common.{◌≡◌, ◌&&◌, ℕ, zero, suc, ◌+◌, ◌<◌, ◌≤◌, Bool, true, false, List, [], ◌∷◌, length, map, drop, refl, sym, ap, ap₂, ◌∙◌, get_or, arith}
use Rattle.std.proofs.lemmas.List.{length-map, drop_all}
use Rattle.std.specs.Str.{bytes_eq}
use Rattle.dj_names.specs.Texts.{Text}
use Rattle.dj_tree.specs.Trees.{Spot, Field}
use Rattle.dj_tree.specs.Plain.{plain_spot, plain_field}
use Rattle.dj_tree.specs.declared.declarations.FieldDecl.{FieldDecl}
use Rattle.dj_calculus.specs.Entries.{same_types}

pub other_lengths : {X Y : Type 0} (f : X → Spot) (g : Y → Spot) (xs : List X) (ys : List Y) → (length xs ≡ length ys → ⊥) → same_types (map f xs) (map g ys) ≡ false
other_lengths f g [] [] differ = absurd (differ refl)
other_lengths f g [] (y ∷ ys) differ = refl
other_lengths f g (x ∷ xs) [] differ = refl
other_lengths f g (x ∷ xs) (y ∷ ys) differ = ap (λ b. bytes_eq (f x).text (g y).text && b) (other_lengths f g xs ys (λ same. differ (ap suc same))) ∙ no_both (bytes_eq (f x).text (g y).text)
  where
    no_both : (b : Bool) → (b && false) ≡ false
    no_both true = refl
    no_both false = refl

pub next_types : {X Y : Type 0} (f : X → Spot) (g : Y → Spot) (xs : List X) (ys : List Y) (i : ℕ) (d : X) (e : Y) → i < length xs → i < length ys
    → same_types (drop i (map f xs)) (drop i (map g ys)) ≡ bytes_eq (f (get_or xs i d)).text (g (get_or ys i e)).text && same_types (drop (suc i) (map f xs)) (drop (suc i) (map g ys))
next_types f g [] ys i d e p q = absurd (omega arith)
next_types f g (x ∷ xs) [] i d e p q = absurd (omega arith)
next_types f g (x ∷ xs) (y ∷ ys) zero d e p q = refl
next_types f g (x ∷ xs) (y ∷ ys) (suc i) d e p q = next_types f g xs ys i d e (omega arith) (omega arith)

pub no_types : (xs ys : List Spot) (i : ℕ) → length xs ≤ i → length ys ≤ i → same_types (drop i xs) (drop i ys) ≡ true
no_types xs ys i p q = ap₂ same_types (drop_all i xs p) (drop_all i ys q)

module _ {X Y : Type 0} (f : X → Spot) (g : Y → Spot) (xs : List X) (ys : List Y) (i : ℕ) (d : X) (e : Y) (long : length xs ≡ length ys)
    (so_far : same_types (map f xs) (map g ys) ≡ same_types (drop i (map f xs)) (drop i (map g ys))) where
  pub one_differs : i < length xs → bytes_eq (f (get_or xs i d)).text (g (get_or ys i e)).text ≡ false → false ≡ same_types (map f xs) (map g ys)
  one_differs low differs = sym (so_far ∙ next_types f g xs ys i d e low (omega arith) ∙ ap (λ b. b && same_types (drop (suc i) (map f xs)) (drop (suc i) (map g ys))) differs)

  pub one_more : i < length xs → bytes_eq (f (get_or xs i d)).text (g (get_or ys i e)).text ≡ true → same_types (map f xs) (map g ys) ≡ same_types (drop (i + 1) (map f xs)) (drop (i + 1) (map g ys))
  one_more low same =
      so_far ∙ next_types f g xs ys i d e low (omega arith) ∙ ap (λ b. b && same_types (drop (suc i) (map f xs)) (drop (suc i) (map g ys))) same
      ∙ ap (λ n. same_types (drop n (map f xs)) (drop n (map g ys))) (suc_is i)
    where
      suc_is : (n : ℕ) → suc n ≡ n + 1
      suc_is n = omega arith

pub all_same : {X Y : Type 0} (f : X → Spot) (g : Y → Spot) (xs : List X) (ys : List Y) (i : ℕ) → length xs ≡ length ys → same_types (map f xs) (map g ys) ≡ same_types (drop i (map f xs)) (drop i (map g ys)) → length xs ≤ i → true ≡ same_types (map f xs) (map g ys)
all_same f g xs ys i long so_far high = sym (so_far ∙ no_types (map f xs) (map g ys) i (omega (arith, length-map xs f)) (omega (arith, length-map ys g)))

-- the types of the parameters of a declared method
pub kinds_of : (names : List Text) (ps : List FieldDecl) → map (λ (p : Field). p.kind) (map (plain_field names) ps) ≡ map (λ (p : FieldDecl). plain_spot names p.kind) ps
kinds_of names [] = refl
kinds_of names (p ∷ ps) = ap (λ xs. plain_spot names p.kind ∷ xs) (kinds_of names ps)

both_differ : (a b : Bool) → a ≡ false → false ≡ (a && b)
both_differ a b e = sym (ap (λ x. x && b) e)

only_other : (a b : Bool) → a ≡ true → b ≡ (a && b)
only_other a b e = sym (ap (λ x. x && b) e)

-- the types that the code compares are those of the signatures
pub types_differ : (a b c d : Bool) → a ≡ b → b ≡ c → a ≡ false → false ≡ (c && d)
types_differ a b c d p q e = both_differ c d (sym q ∙ sym p ∙ e)

pub types_agree : (a b c d : Bool) → a ≡ b → b ≡ c → a ≡ true → d ≡ (c && d)
types_agree a b c d p q e = only_other c d (sym q ∙ sym p ∙ e)
