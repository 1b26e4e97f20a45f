-- What steps of a change touch, and names by their numbers.
use Rattle.std.proofs.Common.{◌≡◌, ℕ, zero, suc, ◌-◌, ◌<◌, Bool, true, false, List, ◌∷◌, ◌++◌, map, length, slice_get, Option, None, Some, nat_eq, refl, sym, ap, ◌∙◌, subst, arith}
use Rattle.std.specs.Option.{option_map}
use Rattle.std.specs.Str.{bytes_eq}
use Rattle.std.proofs.lemmas.Option.{slice_get-map}
use Rattle.std.proofs.lemmas.Bool.Decides.{Decides-eqb}
use Rattle.dj_names.specs.Texts.{Text, AreDistinct}
use Rattle.dj_tree.specs.Plain.{plain_spot, plain_member}
use Rattle.dj_tree.specs.declared.expression.ExprNode.{ExprNode}
use Rattle.dj_tree.specs.declared.declarations.Spot.{Spot}
use Rattle.dj_tree.specs.declared.declarations.MemberOp.{MemberOp}
use Rattle.dj_calculus.specs.Things.{extends, does, first_steps, Thing, thing_of}
use Rattle.dj_faults.proofs.NameLemmas.{same_test}
use Rattle.dj_apply.specs.Touched.{text_of}

-- behind the first
pub later_get : {X : Type 0} (x : X) (xs : List X) (k : ℕ) (o : Option X) → (k ≡ 0 → ⊥) → slice_get xs (k - 1) ≡ o → slice_get (x ∷ xs) k ≡ o
later_get x xs zero o behind is = absurd (behind refl)
later_get x xs (suc k) o behind is = let same : k ≡ suc k - 1 = omega arith in ap (slice_get xs) same ∙ is

module _ (names : List Text) (exprs : List ExprNode) (class : Text) (members : List MemberOp) where
  pub member_thing : (k : ℕ) (m : MemberOp) → slice_get members k ≡ Some m → slice_get (map (thing_of class) (map does (map (plain_member names exprs) members))) k ≡ Some (thing_of class (does (plain_member names exprs m)))
  member_thing k m here =
      slice_get-map (thing_of class) (map does (map (plain_member names exprs) members)) k
      ∙ ap (option_map (thing_of class)) (slice_get-map does (map (plain_member names exprs) members) k
      ∙ ap (option_map does) (slice_get-map (plain_member names exprs) members k ∙ ap (option_map (plain_member names exprs)) here))

  pub step_thing_alone : (p : Option Spot) (k : ℕ) (m : MemberOp) (t : Thing) → p ≡ None → slice_get members k ≡ Some m → t ≡ thing_of class (does (plain_member names exprs m))
      → slice_get (map (thing_of class) (first_steps (option_map (plain_spot names) p) ++ map does (map (plain_member names exprs) members))) k ≡ Some t
  step_thing_alone p k m t none here is =
      subst (λ q. slice_get (map (thing_of class) (first_steps (option_map (plain_spot names) q) ++ map does (map (plain_member names exprs) members))) k ≡ Some t) (sym none)
      (member_thing k m here ∙ ap Some (sym is))

  pub step_thing_behind : (p : Option Spot) (parent : Spot) (k : ℕ) (m : MemberOp) (t : Thing) → p ≡ Some parent → (k ≡ 0 → ⊥) → slice_get members (k - 1) ≡ Some m → t ≡ thing_of class (does (plain_member names exprs m))
      → slice_get (map (thing_of class) (first_steps (option_map (plain_spot names) p) ++ map does (map (plain_member names exprs) members))) k ≡ Some t
  step_thing_behind p parent k m t some behind here is =
      subst (λ q. slice_get (map (thing_of class) (first_steps (option_map (plain_spot names) q) ++ map does (map (plain_member names exprs) members))) k ≡ Some t) (sym some)
      (later_get (thing_of class (extends (plain_spot names parent))) (map (thing_of class) (map does (map (plain_member names exprs) members))) k (Some t) behind (member_thing (k - 1) m here ∙ ap Some (sym is)))

-- ---- names

not_equal : (a b : ℕ) (test : Bool) → nat_eq a b ≡ test → (a ≡ b → ⊥) → nat_eq a b ≡ false
not_equal a b true e differ = absurd (differ ((Decides-eqb a b).0 e))
not_equal a b false e differ = e

pub other_texts : (names : List Text) → AreDistinct names → (a b : ℕ) → a < length names → b < length names → (a ≡ b → ⊥) → bytes_eq (text_of names a) (text_of names b) ≡ false
other_texts names distinct a b low below differ = sym (same_test names distinct a b low below) ∙ not_equal a b _ refl differ

pub same_texts : (names : List Text) → AreDistinct names → (a b : ℕ) → a < length names → b < length names → (a ≡ b) → bytes_eq (text_of names a) (text_of names b) ≡ true
same_texts names distinct a b low below same = sym (same_test names distinct a b low below) ∙ (Decides-eqb a b).1 same
