-- Arguments, one by one, against the types of parameters.
use Rattle.std.proofs.Common.{◌≡◌, ◌≢◌, inr, ℕ, suc, ◌+◌, ◌<◌, List, [], ◌∷◌, length, Option, Some, slice_get, get_or, refl, sym, ap, ◌∙◌, subst, arith}
use Rattle.std.specs.Prelude.{All}
use Rattle.std.specs.List.{AllZip}
use Rattle.std.proofs.lemmas.Option.{slice_get_within, slice_get-get_or}
use Rattle.dj_names.specs.Texts.{Text}
use Rattle.arena_walk.specs.Tree.{trees_of, list_of}
use Rattle.arena_walk.proofs.Visitors.{out_at, list_of-trees_of}
use Rattle.dj_tree.specs.Trees.{Expr}
use Rattle.dj_tree.specs.declared.declarations.Spot.{Spot}
use Rattle.dj_tree.specs.declared.source.Instance.{Instance}
use Rattle.dj_calculus.specs.Tables.{Table}
use Rattle.dj_calculus.specs.Typing.{Home, AllBelow, none_below, and_below}
use Rattle.dj_calculus.specs.BodyRules.{HasType, HaveTypes, WrongArgument}
use Rattle.dj_calculus.specs.Instances.{IsNotAfter, IsLeast}
use Rattle.dj_calculus.proofs.Counting.{got_within}
use Rattle.dj_calculus.proofs.Members.{same_some}
use Rattle.dj_calculus.proofs.TypeLemmas.{one_type}
use Rattle.ifj_typing.specs.Arguments.{FitsOne, WrongOne, FitsAt, WrongAt}
use Rattle.ifj_typing.specs.Kinds.{text_of}
use Rattle.ifj_typing.specs.Least.{Judges, IsLesser, Before, EachBefore}
use Rattle.ifj_typing.specs.Said.{IsRight, ArgumentRule, number, argument, BreaksArguments}
use Rattle.ifj_typing.specs.Scopes.{AreTyped}
use Rattle.ifj_typing.specs.declared.kind.Typed.{Typed}
use Rattle.ifj_typing.proofs.Leasts.{judges_next, same_judges, same_least}
use Rattle.ifj_typing.proofs.OneRule.{fault}
use Rattle.ifj_typing.proofs.LastNamed.{texts, text_here}
use Rattle.ifj_typing.proofs.Parts.{parts_typed}

module _ (t : Table) (home : Home) where
  fits_not_wrong : (es : List Expr) (us : List Text) (k : ℕ) → FitsAt t home es us k → (i : Instance) → ¬ (WrongAt t home es us k i)
  fits_not_wrong es us k fits i w =
      let f = fits w.e w.u w.argument w.parameter in
      w.wrong.wrong (rw (one_type t home w.e w.wrong.kind f.0 w.wrong.types f.1) f.2)

  module _ (es : List Expr) (us : List Text) (n : ℕ) (e : Expr) (u : Text) (here : slice_get es n ≡ Some e) (its : slice_get us n ≡ Some u) where
    fits_here : FitsOne t home e u → FitsAt t home es us n
    fits_here fits = λ d v p q.
        let same : e ≡ d = same_some e d (slice_get es n) here p in
        let also : u ≡ v = same_some u v (slice_get us n) its q in
        subst (λ x. FitsOne t home x v) same (subst (λ x. FitsOne t home e x) also fits)

    wrong_here : (i : Instance) → WrongAt t home es us n i → WrongOne t home e u i
    wrong_here i w =
        let same : w.e ≡ e = same_some w.e e (slice_get es n) w.argument here in
        let also : w.u ≡ u = same_some w.u u (slice_get us n) w.parameter its in
        subst (λ x. WrongOne t home x u i) same (subst (λ x. WrongOne t home w.e x i) also w.wrong)

    judged_here : (o : Option Instance) → Judges (FitsOne t home e u) (WrongOne t home e u) o → Judges (FitsAt t home es us n) (WrongAt t home es us n) o
    judged_here =
        same_judges (WrongOne t home e u) (WrongAt t home es us n) fits_here (λ i w. record { e = e; u = u; argument = here; parameter = its; wrong = w }) wrong_here

  module _ (names : List Text) where
    -- one argument more
    pub fit_next : (es : List Expr) (outs : List Typed) (types : List Spot) (n : ℕ) (d : Typed) (s : Spot) (a b r : Option Instance) → AllZip (IsRight t home names) es outs
        → n < length outs → n < length types → Judges (EachBefore (FitsAt t home es (texts names types)) n) (Before (WrongAt t home es (texts names types)) n) a
        → ((e : Expr) → IsRight t home names e (get_or outs n d)
        → Judges (FitsOne t home e (text_of names (get_or types n s).name)) (WrongOne t home e (text_of names (get_or types n s).name)) b)
        → IsLesser a b r → Judges (EachBefore (FitsAt t home es (texts names types)) (n + 1)) (Before (WrongAt t home es (texts names types)) (n + 1)) r
    fit_next es outs types n d s a b r right low also before here is =
        let kid = out_at (IsRight t home names) es outs n (get_or outs n d) right (slice_get-get_or outs n d low) in
        judges_next (FitsAt t home es (texts names types)) (WrongAt t home es (texts names types)) n (fits_not_wrong es (texts names types)) a b r before
        (judged_here es (texts names types) n kid.0 (text_of names (get_or types n s).name) kid.1 (text_here names types n s also) b (here kid.0 kid.2)) is

    -- where for each a type was found, each has one
    pub have_types : (es : List Expr) (outs : List Typed) → AllZip (IsRight t home names) es outs → AreTyped names outs → HaveTypes t home (trees_of es)
    have_types es outs right typed =
        subst (All (HasType t home)) (sym (list_of-trees_of es))
        (λ k d low. parts_typed t home names es outs right (λ i b. (typed b.0 b.2.0 b.2.1).sound i b.2.2) (get_or es k d) (got_within es k (get_or es k d) (slice_get-get_or es k d low)))

  -- arguments that all fit
  pub all_below : (es : List Expr) (us : List Text) → length es ≡ length us → EachBefore (FitsAt t home es us) (length us) → AllBelow t home (trees_of es) us
  all_below [] [] count fits = none_below
  all_below [] (u ∷ us) count fits = absurd (omega (arith, count))
  all_below (e ∷ es) [] count fits = absurd (omega (arith, count))
  all_below (e ∷ es) (u ∷ us) count fits =
      let first = fits 0 (omega arith) e u refl refl in
      and_below first.1 first.2 (all_below es us (omega (arith, count)) (λ k low d v p q. fits (suc k) (omega arith) d v p q))

  module _ (es : List Expr) (us : List Text) (at : ℕ) (typed : HaveTypes t home (trees_of es)) where
    as_listed : length (list_of (trees_of es)) ≡ length es
    as_listed = ap length (list_of-trees_of es)

    only_number : (r p : ℕ) → length es ≢ length us → ArgumentRule t home (trees_of es) us at r p → (r ≡ 18) × (p ≡ at)
    only_number r p other (number wrong) = (refl, refl)
    only_number r p other (argument v wrong) = absurd (other (sym as_listed ∙ wrong.count))

    -- too few of them, or too many
    pub wrong_number : length es ≢ length us → IsLeast (BreaksArguments t home (trees_of es) us at) (fault 18 at)
    wrong_number other =
        record {
          is = record { breaks = number (record { typed = typed; count = λ same. other (sym as_listed ∙ same) }); one_place = refl };
          least = λ j b. let only = only_number j.rule j.at other b.breaks in inr_first j only.0 only.1 b.one_place;
        }
      where
        inr_first : (j : Instance) → j.rule ≡ 18 → j.at ≡ at → j.second ≡ j.at → IsNotAfter (fault 18 at) j
        inr_first j r p s = inr (sym r, inr (sym p, omega arith))

    module _ (count : length es ≡ length us) where
      wrong_argument : (k : ℕ) (i : Instance) (w : WrongAt t home es us k i) → WrongArgument t home (trees_of es) us w.e
      wrong_argument k i w =
          record {
            typed = typed;
            count = as_listed ∙ count;
            number = k;
            argument = subst (λ ds. slice_get ds k ≡ Some w.e) (sym (list_of-trees_of es)) w.argument;
            parameter = w.u;
            its = w.parameter;
            kind = w.wrong.kind;
            types = w.wrong.types;
            wrong = w.wrong.wrong;
          }

      breaks_so : (k : ℕ) (i : Instance) → WrongAt t home es us k i → BreaksArguments t home (trees_of es) us at i
      breaks_so k i w =
          record {
            breaks = subst (λ r. ArgumentRule t home (trees_of es) us at r i.at) (sym w.wrong.rule)
                (subst (λ p. ArgumentRule t home (trees_of es) us at 19 p) (sym w.wrong.place) (argument w.e (wrong_argument k i w)));
            one_place = w.wrong.one_place;
          }

      wrong_so : (i : Instance) (r p : ℕ) → ArgumentRule t home (trees_of es) us at r p → i.rule ≡ r → i.at ≡ p → i.second ≡ i.at → Before (WrongAt t home es us) (length us) i
      wrong_so i r p (number wrong) is here one = absurd (wrong.count (as_listed ∙ count))
      wrong_so i r p (argument v wrong) is here one = (
        wrong.number,
        slice_get_within us wrong.number wrong.parameter wrong.its,
        record {
          e = v;
          u = wrong.parameter;
          argument = subst (λ ds. slice_get ds wrong.number ≡ Some v) (list_of-trees_of es) wrong.argument;
          parameter = wrong.its;
          wrong = record { rule = is; place = here; one_place = one; kind = wrong.kind; types = wrong.types; wrong = wrong.wrong };
        },
      )

      -- the least of them that doesn't fit
      pub least_wrong : (i : Instance) → IsLeast (Before (WrongAt t home es us) (length us)) i → IsLeast (BreaksArguments t home (trees_of es) us at) i
      least_wrong = same_least _ _ (λ i b. breaks_so b.0 i b.2) (λ i b. wrong_so i i.rule i.at b.breaks refl refl b.one_place)
