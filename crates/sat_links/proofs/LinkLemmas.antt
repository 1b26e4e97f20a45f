-- Links through lists of watches: what a written link keeps, and how a watch is cut out and put first.
use Rattle.std.proofs.Common.{◌≡◌, ◌≢◌, ℕ, zero, suc, ◌<◌, ◌≤◌, List, [], ◌∷◌, ◌++◌, length, get_or, set, Option, None, Some, refl, sym, ap, ◌∙◌, subst, inl, inr, arith}
use Rattle.std.proofs.lemmas.Bool.{cases_eq}
use Rattle.std.proofs.lemmas.List.{length-set, get_or-set_same, get_or-set_other, get_or_read}
use Rattle.sat_links.specs.declared.watches.Watch.{Watch}
use Rattle.sat_links.specs.Links.{next_of, walk, LeadsTo, AllLead, Relinks}
use Rattle.sat_links.proofs.ApartLemmas.{Misses, Misses-parts}

-- a link written into the row of its clause
pub relinked : (next : List (List (Option Watch))) (row row1 : List (Option Watch)) (w : Watch) (to : Option Watch) → w.clause < length next → row ≡ get_or next w.clause row
    → get_or row1 w.slot None ≡ to → ((other : ℕ) → other ≢ w.slot → get_or row1 other None ≡ get_or row other None) → Relinks next w to (set next w.clause row1)
relinked next row row1 w to within row_is here others =
    let there : get_or (set next w.clause row1) w.clause [] ≡ row1 = get_or-set_same next w.clause row1 [] within in
    let before : get_or next w.clause [] ≡ row = sym (get_or_read next w.clause row within row_is []) in
    record {
      here = ap (λ r. get_or r w.slot None) there ∙ here;
      others = λ other differs.
          elim (cases_eq other.clause w.clause) [
            | inl same ↦
                let slots : other.slot ≢ w.slot = λ e. differs (λ j. record { clause = same j; slot = e j }) in
                ap (λ k. get_or (get_or (set next w.clause row1) k []) other.slot None) same
                ∙ ap (λ r. get_or r other.slot None) there
                ∙ others other.slot slots
                ∙ ap (λ r. get_or r other.slot None) (sym before)
                ∙ ap (λ k. get_or (get_or next k []) other.slot None) (sym same)
            | inr apart ↦ ap (λ r. get_or r other.slot None) (get_or-set_other next w.clause other.clause row1 [] apart)
          ];
      count = length-set next w.clause row1;
    }

-- a list that the links lead through is the walk
pub walk_is : (next : List (List (Option Watch))) (from : Option Watch) (xs : List Watch) (count : ℕ) → LeadsTo next from xs → length xs ≤ count → walk next count from ≡ xs
walk_is next from [] zero way enough = refl
walk_is next from [] (suc count) way enough = rw way refl
walk_is next from (x ∷ xs) zero way enough = absurd (omega arith)
walk_is next from (x ∷ xs) (suc count) way enough = rw way.0 (ap (λ l. x ∷ l) (walk_is next (next_of next x) xs count way.1 (omega arith)))

-- a list without the watch whose link was written
pub LeadsTo-relinked : {old new : List (List (Option Watch))} {watch : Watch} {to : Option Watch} → Relinks old watch to new → (from : Option Watch) (xs : List Watch) → Misses watch xs → LeadsTo old from xs → LeadsTo new from xs
LeadsTo-relinked r from [] misses way = way
LeadsTo-relinked {old} {new} r from (x ∷ xs) misses way = (
  way.0,
  subst (λ after. LeadsTo new after xs) (sym (r.others x (λ e. misses.0 (sym e)))) (LeadsTo-relinked r (next_of old x) xs misses.1 way.1),
)

-- a list without the watch after the one whose link was written
pub LeadsTo-cut : {old new : List (List (Option Watch))} (b w : Watch) → Relinks old b (next_of old w) new → (from : Option Watch) (xs ys : List Watch)
    → LeadsTo old from (xs ++ b ∷ w ∷ ys) → Misses b xs → Misses b ys → LeadsTo new from (xs ++ b ∷ ys)
LeadsTo-cut {old} {new} b w r from [] ys way misses after = (way.0, subst (λ next. LeadsTo new next ys) (sym r.here) (LeadsTo-relinked r (next_of old w) ys after way.1.1))
LeadsTo-cut {old} {new} b w r from (x ∷ xs) ys way misses after = (
  way.0,
  subst (λ next. LeadsTo new next (xs ++ b ∷ ys)) (sym (r.others x (λ e. misses.0 (sym e)))) (LeadsTo-cut b w r (next_of old x) xs ys way.1 misses.1 after),
)

-- the same of all lists: a watch is cut out where it is first, and after another, and a watch is put first
pub cut_first : (heads : List (Option Watch)) (next : List (List (Option Watch))) (lists : List (List Watch)) (at : ℕ) (w : Watch) (ys : List Watch)
    → AllLead heads next lists → at < length heads → at < length lists → get_or lists at [] ≡ w ∷ ys → AllLead (set heads at (next_of next w)) next (set lists at ys)
cut_first heads next lists at w ys lead in_heads in_lists is = λ place.
    elim (cases_eq place at) [
      | inl e ↦ rw (e, get_or-set_same heads at (next_of next w) None in_heads, get_or-set_same lists at ys [] in_lists) (subst (LeadsTo next (get_or heads at None)) is (lead at)).1
      | inr differs ↦ rw (get_or-set_other heads at place (next_of next w) None differs, get_or-set_other lists at place ys [] differs) (lead place)
    ]

pub cut_after : (heads : List (Option Watch)) (old new : List (List (Option Watch))) (lists : List (List Watch)) (at : ℕ) (b w : Watch) (xs ys : List Watch)
    → AllLead heads old lists → Relinks old b (next_of old w) new → at < length lists → get_or lists at [] ≡ xs ++ b ∷ w ∷ ys
    → ((place : ℕ) → Misses b (get_or (set lists at (xs ++ w ∷ ys)) place [])) → AllLead heads new (set lists at (xs ++ b ∷ ys))
cut_after heads old new lists at b w xs ys lead r in_lists is misses = λ place.
    elim (cases_eq place at) [
      | inl e ↦
          let here = Misses-parts b xs (w ∷ ys) (subst (Misses b) (get_or-set_same lists at (xs ++ w ∷ ys) [] in_lists) (misses at)) in
          rw (e, get_or-set_same lists at (xs ++ b ∷ ys) [] in_lists) (LeadsTo-cut b w r (get_or heads at None) xs ys (subst (LeadsTo old (get_or heads at None)) is (lead at)) here.0 here.1.1)
      | inr differs ↦
          let there = subst (Misses b) (get_or-set_other lists at place (xs ++ w ∷ ys) [] differs) (misses place) in
          rw (get_or-set_other lists at place (xs ++ b ∷ ys) [] differs) (LeadsTo-relinked r (get_or heads place None) (get_or lists place []) there (lead place))
    ]

pub put_first : (heads : List (Option Watch)) (old new : List (List (Option Watch))) (lists : List (List Watch)) (at : ℕ) (w : Watch)
    → AllLead heads old lists → Relinks old w (get_or heads at None) new → at < length heads → at < length lists
    → ((place : ℕ) → Misses w (get_or lists place [])) → AllLead (set heads at (Some w)) new (set lists at (w ∷ get_or lists at []))
put_first heads old new lists at w lead r in_heads in_lists misses = λ place.
    elim (cases_eq place at) [
      | inl e ↦
          rw (e, get_or-set_same heads at (Some w) None in_heads, get_or-set_same lists at (w ∷ get_or lists at []) [] in_lists) (
            refl,
            subst (λ next. LeadsTo new next (get_or lists at [])) (sym r.here) (LeadsTo-relinked r (get_or heads at None) (get_or lists at []) (misses at) (lead at)),
          )
      | inr differs ↦
          rw (get_or-set_other heads at place (Some w) None differs, get_or-set_other lists at place (w ∷ get_or lists at []) [] differs)
          (LeadsTo-relinked r (get_or heads place None) (get_or lists place []) (misses place) (lead place))
    ]
