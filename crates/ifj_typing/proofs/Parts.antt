-- What is said of a whole expression, from what is said of its parts and of its root.
use Rattle.std.proofs.Common.{◌≡◌, ◌⊎◌, inl, inr, ℕ, zero, suc, List, [], ◌∷◌, length, slice_get, Some, Contains, refl, subst}
use Rattle.std.specs.List.{AllZip}
use Rattle.std.specs.declared.result.Result.{Result}
use Rattle.std.specs.declared.result.Result.TheVariants.{Ok, Err}
use Rattle.std.proofs.lemmas.Option.{slice_get_within}
use Rattle.dj_names.specs.Texts.{Text}
use Rattle.arena_walk.specs.Tree.{children_of}
use Rattle.arena_walk.proofs.Visitors.{out_at}
use Rattle.dj_tree.specs.Trees.{Expr}
use Rattle.dj_tree.specs.declared.source.Instance.{Instance}
use Rattle.dj_calculus.specs.Tables.{Table}
use Rattle.dj_calculus.specs.Typing.{Home}
use Rattle.dj_calculus.specs.BodyRules.{IsWithin, itself, deeper, HasType, NodeRule}
use Rattle.dj_calculus.specs.Instances.{IsNotAfter, IsLeast}
use Rattle.dj_calculus.proofs.Counting.{number_in, got_within}
use Rattle.dj_calculus.proofs.Members.{either}
use Rattle.dj_calculus.proofs.TypeLemmas.{rule_has_parts, sound_within}
use Rattle.ifj_typing.specs.Kinds.{plain_kind}
use Rattle.ifj_typing.specs.Least.{Before, OfElement, IsFault}
use Rattle.ifj_typing.specs.Said.{BreaksAt, BreaksIn, SaysRoot, Says, IsRight}
use Rattle.ifj_typing.specs.declared.kind.Kind.{Kind}
use Rattle.ifj_typing.specs.declared.kind.Typed.{Typed}
use Rattle.ifj_typing.proofs.Leasts.{not_after}

-- the part of one out
pub part_at : {A B : Type 0} (R : A → B → Type 0) (kids : List A) (outs : List B) (k : ℕ) (kid : A) → AllZip R kids outs → slice_get kids k ≡ Some kid → (out : B) × (slice_get outs k ≡ Some out) × R kid out
part_at R [] [] k kid h e = absurd cc
part_at R [] (y ∷ ys) k kid h e = absurd h
part_at R (x ∷ xs) [] k kid h e = absurd h
part_at R (x ∷ xs) (y ∷ ys) zero kid h e = let same : x ≡ kid = cc in (y, refl, subst (λ z. R z y) same h.0)
part_at R (x ∷ xs) (y ∷ ys) (suc k) kid h e = part_at R xs ys k kid h.1 e

-- what stands within an expression is it or stands within a part
root_or_part : (node whole : Expr) → IsWithin node whole → (node ≡ whole) ⊎ ((part : Expr) × IsWithin node part × Contains (children_of whole) part)
root_or_part node whole itself = inl refl
root_or_part node whole (deeper {part = part} within of) = inr (part, within, of)

module _ (t : Table) (home : Home) (names : List Text) where
  abbrev Right : Expr → Typed → Type 0
  Right = IsRight t home names

  said_type : (e : Expr) (found : Result Kind Instance) → Says t home names e found → ((i : Instance) → ¬ (found ≡ Err i)) → HasType t home e
  said_type e (Ok kind) says none = (plain_kind names kind, says)
  said_type e (Err i) says none = absurd (none i refl)

  -- where no fault was found, each part has a type
  pub parts_typed : (parts : List Expr) (outs : List Typed) → AllZip (IsRight t home names) parts outs → ((i : Instance) → ¬ (Before (OfElement IsFault outs) (length outs) i))
      → (part : Expr) → Contains parts part → HasType t home part
  parts_typed parts outs right none part has =
      let number = number_in parts part has in
      let out = part_at Right parts outs number.0 part right number.1 in
      said_type part out.0.found out.2.says (λ i is. none i (number.0, slice_get_within outs number.0 out.0 out.1, (out.0, out.1, is)))

  module _ (whole : Expr) where
    root_least : (i : Instance) → ((part : Expr) → Contains (children_of whole) part → HasType t home part) → IsLeast (BreaksAt t home whole) i → IsLeast (BreaksIn t home whole) i
    root_least i typed l =
        record {
          is = record { breaks = record { node = whole; within = itself; breaks = l.is.breaks }; one_place = l.is.one_place };
          least = λ j b. either (root_or_part b.breaks.node whole b.breaks.within)
              (λ same. l.least j (record { breaks = subst (λ (n : Expr). NodeRule t home n j.rule j.at) same b.breaks.breaks; one_place = b.one_place }))
              (λ deep. absurd (sound_within t home deep.0 j.rule j.at (typed deep.0 deep.2) (record { node = b.breaks.node; within = deep.1; breaks = b.breaks.breaks })));
        }

    -- what is said of the root is said of the whole, where the parts have types
    pub says_over : (found : Result Kind Instance) → ((part : Expr) → Contains (children_of whole) part → HasType t home part) → SaysRoot t home names whole found → Says t home names whole found
    says_over (Ok kind) typed says = says
    says_over (Err i) typed says = root_least i typed says

    -- the least of what breaks a rule within a part
    said_fault : (e : Expr) (found : Result Kind Instance) (i : Instance) → Says t home names e found → found ≡ Err i → IsLeast (BreaksIn t home e) i
    said_fault e found i says is = subst (Says t home names e) is says

    module _ (outs : List Typed) (right : AllZip (IsRight t home names) (children_of whole) outs) (i : Instance) (l : IsLeast (Before (OfElement IsFault outs) (length outs)) i) where
      broken : (part : Expr) × Contains (children_of whole) part × BreaksIn t home part i
      broken =
          let kid = out_at Right (children_of whole) outs l.is.0 l.is.2.0 right l.is.2.1 in
          (kid.0, got_within (children_of whole) l.is.0 kid.0 kid.1, (said_fault kid.0 l.is.2.0.found i kid.2.says l.is.2.2).is)

      not_before : (part : Expr) (number : ℕ) (out : Typed) (j : Instance) (found : Result Kind Instance) → slice_get outs number ≡ Some out → out.found ≡ found
          → Says t home names part found → BreaksIn t home part j → IsNotAfter i j
      not_before part number out j (Ok kind) here is says b = absurd (sound_within t home part j.rule j.at (plain_kind names kind, says) b.breaks)
      not_before part number out j (Err k) here is says b =
          not_after i k j (l.least k (number, slice_get_within outs number out here, (out, here, is))) (says.least j b)

      not_after_part : (j : Instance) (part : Expr) → Contains (children_of whole) part → BreaksIn t home part j → IsNotAfter i j
      not_after_part j part has b =
          let number = number_in (children_of whole) part has in
          let out = part_at Right (children_of whole) outs number.0 part right number.1 in
          not_before part number.0 out.0 j out.0.found out.1 refl out.2.says b

      not_after_any : (j : Instance) → BreaksIn t home whole j → IsNotAfter i j
      not_after_any j b =
          either (root_or_part b.breaks.node whole b.breaks.within)
          (λ same. absurd (sound_within t home broken.0 i.rule i.at (rule_has_parts t home whole broken.0 j.rule j.at (subst (λ (n : Expr). NodeRule t home n j.rule j.at) same b.breaks.breaks) broken.1) broken.2.breaks))
          (λ deep. not_after_part j deep.0 deep.2 (record { breaks = record { node = b.breaks.node; within = deep.1; breaks = b.breaks.breaks }; one_place = b.one_place }))

      -- the least fault of the parts is the least of the whole
      pub says_part : IsLeast (BreaksIn t home whole) i
      says_part =
          record {
            is = record {
              breaks = record { node = broken.2.breaks.node; within = deeper broken.2.breaks.within broken.1; breaks = broken.2.breaks.breaks };
              one_place = broken.2.one_place;
            };
            least = not_after_any;
          }
