-- What is said of a body, from what is said of its expression.
use Rattle.std.proofs.Common.{◌≡◌, inr, ℕ, refl, sym, arith}
use Rattle.dj_tree.specs.Trees.{Expr}
use Rattle.dj_tree.specs.declared.source.Instance.{Instance}
use Rattle.dj_calculus.specs.Tables.{Table}
use Rattle.dj_calculus.specs.Subclasses.{Kind, class_kind, Below}
use Rattle.dj_calculus.specs.Typing.{Home, Types}
use Rattle.dj_calculus.specs.BodyRules.{place_of, BreaksWithin}
use Rattle.dj_calculus.specs.Instances.{IsNotAfter, IsLeast}
use Rattle.dj_calculus.proofs.TypeLemmas.{one_type, sound_within}
use Rattle.ifj_typing.specs.Bodies.{BodyRule, within, returned, BreaksBody}
use Rattle.ifj_typing.specs.Said.{BreaksIn}
use Rattle.ifj_typing.proofs.Leasts.{same_least}
use Rattle.ifj_typing.proofs.OneRule.{fault}

module _ (t : Table) (home : Home) (e : Expr) where
  broken_within : (r p s q : ℕ) → BreaksWithin t home e s q → BodyRule t home e r p → BreaksWithin t home e r p
  broken_within r p s q breaks (within is) = is
  broken_within r p s q breaks (returned kind types wrong) = absurd (sound_within t home e s q (kind, types) breaks)

  -- some node within it breaks a rule
  pub body_broken : (i : Instance) → IsLeast (BreaksIn t home e) i → IsLeast (BreaksBody t home e) i
  body_broken i l =
      same_least (BreaksIn t home e) (BreaksBody t home e) (λ j b. record { breaks = within b.breaks; one_place = b.one_place })
      (λ j b. record { breaks = broken_within j.rule j.at i.rule i.at l.is.breaks b.breaks; one_place = b.one_place }) i l

  module _ (kind : Kind) (types : Types t home e kind) where
    not_broken : (r p : ℕ) → Below t kind (class_kind home.heading.result) → BodyRule t home e r p → ⊥
    not_broken r p below (within is) = sound_within t home e r p (kind, types) is
    not_broken r p below (returned other its wrong) = wrong (rw (one_type t home e other kind its types) below)

    -- it has a type below the result type
    pub body_sound : Below t kind (class_kind home.heading.result) → (i : Instance) → ¬ (BreaksBody t home e i)
    body_sound below i b = not_broken i.rule i.at below b.breaks

    only_returned : (r p : ℕ) → BodyRule t home e r p → (r ≡ 21) × (p ≡ place_of e)
    only_returned r p (within is) = absurd (sound_within t home e r p (kind, types) is)
    only_returned r p (returned other its wrong) = (refl, refl)

    -- it has another type
    pub body_returned : ¬ (Below t kind (class_kind home.heading.result)) → IsLeast (BreaksBody t home e) (fault 21 (place_of e))
    body_returned wrong =
        record {
          is = record { breaks = returned kind types wrong; one_place = refl };
          least = λ j b. let only = only_returned j.rule j.at b.breaks in first j only.0 only.1 b.one_place;
        }
      where
        first : (j : Instance) → j.rule ≡ 21 → j.at ≡ place_of e → j.second ≡ j.at → IsNotAfter (fault 21 (place_of e)) j
        first j r p s = inr (sym r, inr (sym p, omega arith))
