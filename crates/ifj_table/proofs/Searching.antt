-- A search by halves.
use Rattle.std.proofs.Common.{◌≡◌, ◌⊎◌, inl, inr, ℕ, suc, ◌+◌, ◌<◌, ◌≤◌, List, [], length, map, slice_get, get_or, Some, refl, sym, ap, ◌∙◌, subst, arith}
use Rattle.std.specs.Prelude.{unwrap_or}
use Rattle.std.specs.Option.{option_map}
use Rattle.std.specs.Ordering.{ordering_reverse}
use Rattle.std.specs.declared.cmp.Ordering.TheVariants.{Less, Equal, Greater}
use Rattle.std.specs.FinMap.{slice_cmp-IsAntisymmetric, nat_cmp-IsAntisymmetric}
use Rattle.std.proofs.lemmas.Cmp.{nat_list_cmp_total}
use Rattle.std.proofs.lemmas.Option.{slice_get-map, slice_get-get_or}
use Rattle.dj_names.specs.Texts.{Text}
use Rattle.dj_tree.specs.declared.declarations.Spot.{Spot}
use Rattle.dj_calculus.specs.Maps.{text_cmp}
use Rattle.dj_calculus.proofs.Members.{same_some}
use Rattle.ifj_table.specs.Sorted.{AreRising}
use Rattle.ifj_table.specs.Entries.{text_at}

-- texts before the first place are less, and those from the second on are greater
pub record IsBetween (keys : List Text) (key : Text) (low high : ℕ) : Type 0 where
  pub within : high ≤ length keys
  pub not_past : low ≤ high
  pub before : (i : ℕ) (x : Text) → i < low → slice_get keys i ≡ Some x → text_cmp x key ≡ Less
  pub behind : (i : ℕ) (x : Text) → high ≤ i → slice_get keys i ≡ Some x → text_cmp key x ≡ Less

below_or_at : (i n : ℕ) → i < suc n → (i < n) ⊎ (i ≡ n)
below_or_at i n low = grind arith

module _ (keys : List Text) (key : Text) (low high middle : ℕ) (x : Text) (rising : AreRising keys) (between : IsBetween keys key low high) (here : slice_get keys middle ≡ Some x) where
  -- the text in the middle is less
  pub in_upper_half : middle < high → text_cmp x key ≡ Less → IsBetween keys key (middle + 1) high
  in_upper_half below less = record {
    within = between.within;
    not_past = omega arith;
    before = λ i y low_i at_i. by i y at_i (below_or_at i middle (omega arith));
    behind = between.behind;
  }
    where
      by : (i : ℕ) (y : Text) → slice_get keys i ≡ Some y → (i < middle) ⊎ (i ≡ middle) → text_cmp y key ≡ Less
      by i y at_i (inl lower) = nat_list_cmp_total.trans y x key (rising i middle y x lower at_i here) less
      by i y at_i (inr same) = let equal : y ≡ x = same_some y x (slice_get keys i) at_i (ap (slice_get keys) same ∙ here) in subst (λ z. text_cmp z key ≡ Less) (sym equal) less

  -- it is greater
  pub in_lower_half : low ≤ middle → middle < high → text_cmp key x ≡ Less → IsBetween keys key low middle
  in_lower_half above below greater = record {
    within = omega (arith, between.within);
    not_past = above;
    before = between.before;
    behind = λ i y high_i at_i. by i y at_i (below_or_at middle i (omega arith));
  }
    where
      by : (i : ℕ) (y : Text) → slice_get keys i ≡ Some y → (middle < i) ⊎ (middle ≡ i) → text_cmp key y ≡ Less
      by i y at_i (inl higher) = nat_list_cmp_total.trans key x y greater (rising middle i x y higher here at_i)
      by i y at_i (inr same) = let equal : x ≡ y = same_some x y (slice_get keys i) (ap (slice_get keys) (sym same) ∙ here) at_i in subst (λ z. text_cmp key z ≡ Less) equal greater

-- the other way round
pub turned : (x y : Text) → text_cmp x y ≡ Greater → text_cmp y x ≡ Less
turned x y e = nat_list_cmp_total.antisymm y x ∙ ap ordering_reverse e

pub equal_texts : (x y : Text) → text_cmp x y ≡ Equal → x ≡ y
equal_texts x y e = slice_cmp-IsAntisymmetric nat_cmp-IsAntisymmetric x y e

-- the key of an element at a number
pub key_of_element : {E : Type 0} (f : E → Text) (es : List E) (m : ℕ) (e : E) (text : Text) → m < length es → e ≡ get_or es m e → f e ≡ text → slice_get (map f es) m ≡ Some text
key_of_element f es m e text low is same =
    slice_get-map f es m ∙ ap (option_map f) (slice_get-get_or es m e low ∙ ap Some (sym is)) ∙ ap Some same

-- the text of a name
pub text_of_name : (names : List Text) (x : Spot) (n : ℕ) (text : Text) → slice_get names n ≡ Some text → n ≡ x.name.0 → text_at names x ≡ text
text_of_name names x n text at same = ap (λ k. unwrap_or (slice_get names k) []) (sym same) ∙ ap (λ o. unwrap_or o []) at
