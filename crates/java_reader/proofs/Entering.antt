-- Named elements that are entered into a map one after the other, and one class of a table that is changed.
use Rattle.std.proofs.Common.{◌≡◌, ℕ, zero, suc, ◌<◌, cond, List, [], ◌∷◌, ◌++◌, map, take, Some, None, slice_get, Contains, refl, sym, ap, ◌∙◌, arith}
use Rattle.std.specs.Option.{option_map}
use Rattle.std.specs.FinMap.{get, insert, from_entries}
use Rattle.std.specs.Cmp.{eq_by_cmp_equiv}
use Rattle.std.proofs.lemmas.Option.{slice_get-map}
use Rattle.dj_names.specs.Texts.{Text}
use Rattle.dj_tree.specs.Trees.{Spot}
use Rattle.dj_calculus.specs.Maps.{TextMap}
use Rattle.dj_calculus.proofs.Counting.{number_in}
use Rattle.dj_calculus.proofs.DisjointDeltas.{with_at_apart}
use Rattle.dj_calculus.proofs.MapLemmas.{text_total, text_get-empty, text_get-insert, reinserted}
use Rattle.dj_calculus.proofs.Members.{among_others}
use Rattle.dj_calculus.proofs.OperationLemmas.{get_elsewhere}
use Rattle.ifj_table.specs.Changes.{changed_at}
use Rattle.ifj_table.proofs.TableChanges.{changed_there}
use Rattle.java_reader.specs.Making.{StandOnce}

taken_at : {X : Type 0} (i k : ℕ) (xs : List X) (x : X) → slice_get (take i xs) k ≡ Some x → (k < i) × (slice_get xs k ≡ Some x)
taken_at zero k xs x e = absurd cc
taken_at (suc i) k [] x e = absurd cc
taken_at (suc i) zero (y ∷ xs) x e = (omega arith, e)
taken_at (suc i) (suc k) (y ∷ xs) x e = let later = taken_at i k xs x e in let low = later.0 in (omega arith, later.1)

module _ {E X : Type 0} (name : E → Spot) (read : E → X) where
  -- the elements by their names
  abbrev pub entered : List E → TextMap X
  entered es = from_entries (map (λ e. ((name e).text, read e)) es)

  -- none of the elements has the name of this one
  abbrev pub Apart : List E → E → Type 0
  Apart es e = (d : E) → Contains es d → ¬ ((name d).text ≡ (name e).text)

  pub absent : (es : List E) (e : E) → Apart es e → get (entered es) (name e).text ≡ None
  absent [] e apart = text_get-empty X (name e).text
  absent (d ∷ es) e apart =
      get_elsewhere (entered es) (name d).text (name e).text (Some (read d)) (apart d (0, omega arith, refl)) ∙ absent es e (λ f within. apart f (among_others d f es within))

  pub entered_last : (es : List E) (e : E) → Apart es e → entered (es ++ e ∷ []) ≡ insert (entered es) (name e).text (read e)
  entered_last [] e apart = refl
  entered_last (d ∷ es) e apart =
      ap (λ m. insert m (name d).text (read d)) (entered_last es e (λ f within. apart f (among_others d f es within)))
      ∙ with_at_apart (entered es) (name e).text (name d).text (Some (read e)) (Some (read d)) (λ same. apart d (0, omega arith, refl) (sym same))

  -- where each name stands once, the elements before one are apart from it
  pub apart_before : (es : List E) (i : ℕ) (e : E) → slice_get es i ≡ Some e → StandOnce (map name es) → Apart (take i es) e
  apart_before es i e at once d within same =
      let there = number_in (take i es) d within in
      let found = taken_at i there.0 es d there.1 in
      once (name e).at (record {
        before = there.0;
        number = i;
        earlier = found.0;
        x = name d;
        y = name e;
        at_before = slice_get-map name es there.0 ∙ ap (option_map name) found.1;
        at_number = slice_get-map name es i ∙ ap (option_map name) at;
        same = same;
        here = refl;
      })

-- ---- one class of a table

pub got_inserted : {X : Type 0} (m : TextMap X) (k : Text) (x : X) → get (insert m k x) k ≡ Some x
got_inserted {X} m k x = text_get-insert X m k x k ∙ ap (λ b. cond b (Some x) (get m k)) ((eq_by_cmp_equiv text_total).refl k)

pub changed_inserted : {X : Type 0} (m : TextMap X) (k : Text) (x : X) (change : X → X) → changed_at (insert m k x) k change ≡ insert m k (change x)
changed_inserted {X} m k x change = changed_there (insert m k x) k x change (got_inserted m k x) ∙ reinserted X m k x (change x)
