-- A flat table while classes, fields and versions are put into it.
use Rattle.std.proofs.Common.{◌≡◌, ℕ, zero, suc, ◌+◌, Bool, true, false, cond, T, ◌&&◌, List, [], ◌∷◌, ◌++◌, map, take, drop, length, slice_get, Some, None, Option, refl, sym, ap, ap₂, ◌∙◌, subst, append_assoc, arith}
use Rattle.std.specs.Prelude.{IsSome, is_some}
use Rattle.std.specs.List.{enumerate_from}
use Rattle.std.specs.Option.{option_map}
use Rattle.std.specs.Ordering.{is_lt}
use Rattle.std.specs.Cmp.{eq_by_cmp_equiv}
use Rattle.std.specs.declared.cmp.Ordering.TheVariants.{Less}
use Rattle.std.specs.FinMap.{get, insert, empty, entries, from_entries, find, is_sorted, get-from_entries, from_entries_push}
use Rattle.std.specs.FinMap.Entries.{below_all}
use Rattle.std.proofs.lemmas.List.{length-map, map-append, take-append-drop, take_more}
use Rattle.std.proofs.lemmas.List.FromFn.{length-enumerate_from}
use Rattle.std.proofs.lemmas.Option.{get_or_from_slice_get, slice_get_within, slice_get-map}
use Rattle.arena_walk.proofs.TreeLemmas.{drop_at_place}
use Rattle.dj_names.specs.Texts.{Text}
use Rattle.dj_tree.specs.Trees.{Method}
use Rattle.dj_calculus.specs.Maps.{TextMap, text_cmp}
use Rattle.dj_calculus.specs.Tables.{MethodEntry, ClassEntry, Table}
use Rattle.dj_calculus.specs.Entries.{method_entry}
use Rattle.dj_calculus.specs.FlatTables.{version, versions}
use Rattle.dj_calculus.proofs.MapLemmas.{text_total, text_antisymmetric, text_get-insert, reinserted, entries_of_sorted}
use Rattle.ifj_table.specs.Changes.{changed_at, with_field, with_method}
use Rattle.ifj_table.specs.Lookups.{own_field, own_method}
use Rattle.ifj_table.specs.Entries.{text_at, plain_field, fields_of}
use Rattle.ifj_table.specs.Sorted.{AreRising, pairs_of}
use Rattle.ifj_table.specs.declared.entry.FieldEntry.{FieldEntry}
use Rattle.ifj_table.proofs.MemberLemmas.{behind}
use Rattle.ifj_table.proofs.TableChanges.{changed_there, unchanged}
use Rattle.ifj_flatten.specs.Changes.{with_fields, with_methods, AreApart, names_of, HasMade, IsVersion}
use Rattle.ifj_flatten.proofs.VersionsApart.{rising_apart, not_before}

-- ---- maps with one key changed

pub get_itself : {X : Type 0} (m : TextMap X) (k : Text) (x : X) → get (insert m k x) k ≡ Some x
get_itself {X} m k x = text_get-insert X m k x k ∙ ap (λ b. cond b (Some x) (get m k)) ((eq_by_cmp_equiv text_total).refl k)

pub get_changed : {X : Type 0} (m : TextMap X) (k : Text) (x : X) (f : X → X) → get m k ≡ Some x → get (changed_at m k f) k ≡ Some (f x)
get_changed m k x f there = ap (λ n. get n k) (changed_there m k x f there) ∙ get_itself m k (f x)

pub changed_twice : {X : Type 0} (m : TextMap X) (k : Text) (x : X) (f g : X → X) → get m k ≡ Some x → changed_at (changed_at m k f) k g ≡ changed_at m k (λ y. g (f y))
changed_twice {X} m k x f g there =
    changed_there (changed_at m k f) k (f x) g (get_changed m k x f there)
    ∙ ap (λ n. insert n k (g (f x))) (changed_there m k x f there) ∙ reinserted X m k (f x) (g (f x))
    ∙ sym (changed_there m k x (λ y. g (f y)) there)

-- ---- an element of a list, and what stands before and behind it

pub record IsSplit {X : Type 0} (xs : List X) (at : ℕ) (x : X) : Type 0 where
  pub whole : xs ≡ take at xs ++ x ∷ drop (at + 1) xs
  pub more : take (at + 1) xs ≡ take at xs ++ x ∷ []

pub split_at : {X : Type 0} (xs : List X) (at : ℕ) (x : X) → slice_get xs at ≡ Some x → IsSplit xs at x
split_at xs at x here =
    let low = slice_get_within xs at x here in
    let place = drop_at_place xs at low in
    let same : place.0 ≡ x = cc in
    record {
      whole = sym (take-append-drop at xs) ∙ ap (λ ys. take at xs ++ ys) (place.1 ∙ ap (λ y. y ∷ drop (at + 1) xs) same);
      more = take_more xs at x low ∙ ap (λ y. take at xs ++ y ∷ []) (get_or_from_slice_get xs at x x here);
    }

-- ---- lists of entries in the order of their names

t_both : (a b : Bool) → T a → T b → T (a && b)
t_both true b p q = q
t_both false b p q = absurd p

module _ {X : Type 0} where
  below_rising : (k : Text) (es : List (Text × X)) → ((j : ℕ) (y : Text) → slice_get (names_of es) j ≡ Some y → text_cmp k y ≡ Less) → T (below_all text_cmp k es)
  below_rising k [] less = tt
  below_rising k (e ∷ es) less =
      t_both (is_lt (text_cmp k e.0)) (below_all text_cmp k es) (subst (λ o. T (is_lt o)) (sym (less 0 e.0 refl)) tt) (below_rising k es (λ j y is. less (suc j) y is))

  sorted_rising : (es : List (Text × X)) → AreRising (names_of es) → T (is_sorted text_cmp es)
  sorted_rising [] rising = tt
  sorted_rising (e ∷ es) rising =
      t_both (below_all text_cmp e.0 es) (is_sorted text_cmp es) (below_rising e.0 es (λ j y is. rising 0 (suc j) e.0 y (omega arith) refl is))
      (sorted_rising es (λ i j x y l p q. rising (suc i) (suc j) x y (omega (arith, l)) p q))

  pub entries_rising : (es : List (Text × X)) → AreRising (names_of es) → entries (from_entries {R = text_cmp} es) ≡ es
  entries_rising es rising = entries_of_sorted es (sorted_rising es rising)

pub names_are : {E X : Type 0} (key : E → Text) (read : E → X) (es : List E) → names_of (pairs_of key read es) ≡ map key es
names_are key read [] = refl
names_are key read (e ∷ es) = ap (λ ks. key e ∷ ks) (names_are key read es)

-- an entry of a list whose keys rise isn't among those before it
pub rising_new : {E X : Type 0} (key : E → Text) (read : E → X) (es : List E) (at : ℕ) (e : E) → AreRising (map key es) → slice_get es at ≡ Some e → find text_cmp (key e) (pairs_of key read (take at es)) ≡ None
rising_new {E} {X} key read es at e rising here =
    let pair : E → Text × X = λ d. (key d, read d) in
    let split = split_at es at e here in
    let whole : pairs_of key read es ≡ pairs_of key read (take at es) ++ pair e ∷ pairs_of key read (drop (at + 1) es) = ap (map pair) split.whole ∙ map-append pair (take at es) (e ∷ drop (at + 1) es) in
    not_before (pairs_of key read (take at es)) (pairs_of key read (drop (at + 1) es)) (key e) (read e)
    (subst (λ xs. AreApart (names_of xs)) whole (subst AreApart (sym (names_are key read es)) (rising_apart (map key es) rising)))

-- one entry more
pub rising_more : {E X : Type 0} (key : E → Text) (read : E → X) (es : List E) (at : ℕ) (e : E) → slice_get es at ≡ Some e → pairs_of key read (take (at + 1) es) ≡ pairs_of key read (take at es) ++ (key e, read e) ∷ []
rising_more {E} {X} key read es at e here =
    let pair : E → Text × X = λ d. (key d, read d) in
    ap (map pair) (split_at es at e here).more ∙ map-append pair (take at es) (e ∷ [])

-- ---- fields

module _ (names : List Text) (before : Table) (class : Text) (entry : ClassEntry) (there : get before class ≡ Some entry) (now : Table) (fields : List FieldEntry) (at : ℕ)
    (is : now ≡ changed_at before class (with_fields (fields_of names (take at fields)))) where
  class_there : get now class ≡ Some (with_fields (fields_of names (take at fields)) entry)
  class_there = ap (λ t. get t class) is ∙ get_changed before class entry (with_fields (fields_of names (take at fields))) there

  pub fields_there : IsSome (get now class)
  fields_there = ap is_some class_there

  module _ (f : FieldEntry) (rising : AreRising (map (λ (g : FieldEntry). text_at names g.spot) fields)) (here : slice_get fields at ≡ Some f) where
    none_before : find text_cmp (text_at names f.spot) (pairs_of (λ (g : FieldEntry). text_at names g.spot) (plain_field names) (take at fields)) ≡ None
    none_before = rising_new (λ (g : FieldEntry). text_at names g.spot) (plain_field names) fields at f rising here

    pub field_new : own_field now class (text_at names f.spot) ≡ None
    field_new =
        behind (λ (c : ClassEntry). get c.fields (text_at names f.spot)) (get now class) (with_fields (fields_of names (take at fields)) entry) class_there
        ∙ get-from_entries text_total _ (text_at names f.spot) ∙ none_before

    pub field_more : (new : Table) → new ≡ changed_at now class (with_field (text_at names f.spot) (plain_field names f)) → new ≡ changed_at before class (with_fields (fields_of names (take (at + 1) fields)))
    field_more new added =
        let pairs = pairs_of (λ (g : FieldEntry). text_at names g.spot) (plain_field names) (take at fields) in
        let one_more : fields_of names (take (at + 1) fields) ≡ insert (fields_of names (take at fields)) (text_at names f.spot) (plain_field names f) =
        ap from_entries (rising_more (λ (g : FieldEntry). text_at names g.spot) (plain_field names) fields at f here)
        ∙ from_entries_push text_total text_antisymmetric pairs (text_at names f.spot) (plain_field names f) none_before in
        added ∙ ap (λ t. changed_at t class (with_field (text_at names f.spot) (plain_field names f))) is
        ∙ changed_twice before class entry (with_fields (fields_of names (take at fields))) (with_field (text_at names f.spot) (plain_field names f)) there
        ∙ ap (λ fs. changed_at before class (with_fields fs)) (sym one_more)

pub no_fields : (names : List Text) (before : Table) (class : Text) (entry : ClassEntry) → get before class ≡ Some entry → entry.fields ≡ empty → before ≡ changed_at before class (with_fields (fields_of names []))
no_fields names before class entry there none =
    let same : with_fields empty entry ≡ entry = ap (λ fs. with_fields fs entry) (sym none) in
    sym (unchanged before class entry there) ∙ changed_there before class entry (λ c. c) there ∙ ap (insert before class) (sym same) ∙ sym (changed_there before class entry (with_fields empty) there)

-- ---- versions

module _ {before : Table} {class : Text} {done : List (Text × MethodEntry)} {now : Table} (made : HasMade before class done now) where
  made_class : get now class ≡ Some (with_methods (from_entries done) made.entry)
  made_class = ap (λ t. get t class) made.is ∙ get_changed before class made.entry (with_methods (from_entries done)) made.there

  pub made_there : IsSome (get now class)
  made_there = ap is_some made_class

  made_own : (k : Text) → own_method now class k ≡ find text_cmp k done
  made_own k =
      behind (λ (c : ClassEntry). get c.methods k) (get now class) (with_methods (from_entries done) made.entry) made_class ∙ get-from_entries text_total done k

  pub made_new : (k : Text) (x : MethodEntry) (rest : List (Text × MethodEntry)) → AreApart (names_of (done ++ (k, x) ∷ rest)) → own_method now class k ≡ None
  made_new k x rest apart = made_own k ∙ not_before done rest k x apart

  pub made_more : (k : Text) (x : MethodEntry) (new : Table) → own_method now class k ≡ None → new ≡ changed_at now class (with_method k x) → HasMade before class (done ++ (k, x) ∷ []) new
  made_more k x new none added = record {
    entry = made.entry;
    there = made.there;
    is =
        let one_more : from_entries {R = text_cmp} (done ++ (k, x) ∷ []) ≡ insert (from_entries done) k x = from_entries_push text_total text_antisymmetric done k x (sym (made_own k) ∙ none) in
        added ∙ ap (λ t. changed_at t class (with_method k x)) made.is
        ∙ changed_twice before class made.entry (with_methods (from_entries done)) (with_method k x) made.there
        ∙ ap (λ ms. changed_at before class (with_methods ms)) (sym one_more);
  }

pub made_as : {before : Table} {class : Text} {done : List (Text × MethodEntry)} {now : Table} (same : List (Text × MethodEntry)) → HasMade before class done now → done ≡ same → HasMade before class same now
made_as {before} {class} {done} {now} same made e = subst (λ ds. HasMade before class ds now) e made

abbrev numbered : (X : Type 0) → ℕ → X → Option (ℕ × X)
numbered X k x = Some (k, x)

numbered_at : {X : Type 0} (n j : ℕ) (xs : List X) (x : X) → slice_get xs j ≡ Some x → slice_get (enumerate_from n xs) j ≡ Some (n + j, x)
numbered_at n j [] x is = absurd cc
numbered_at {X} n zero (y ∷ xs) x is = let same : y ≡ x = cc in ap₂ (numbered X) (omega arith) same
numbered_at {X} n (suc j) (y ∷ xs) x is = numbered_at (n + 1) j xs x is ∙ ap (λ k. numbered X k x) (omega arith)

pub version_at : (c m : Text) (method : MethodEntry) (number : ℕ) (made : Method) → IsVersion c m method number made → slice_get (versions c (m, method)) number ≡ Some (made.name.text, method_entry made)
version_at c m method number made is =
    slice_get-map (version c m method) (enumerate_from 0 method.bodies) number ∙ ap (option_map (version c m method)) (numbered_at 0 number method.bodies is.body is.stands)
    ∙ ap (λ k. Some (version c m method (k, is.body))) (omega arith) ∙ ap Some is.is

pub many_versions : (c m : Text) (method : MethodEntry) → length (versions c (m, method)) ≡ length method.bodies
many_versions c m method = length-map (enumerate_from 0 method.bodies) (version c m method) ∙ length-enumerate_from 0 method.bodies

-- the version of this number may follow, and behind it the others
pub one_apart : (done vs : List (Text × MethodEntry)) (number : ℕ) (k : Text) (x : MethodEntry) → AreApart (names_of (done ++ vs)) → slice_get vs number ≡ Some (k, x) → AreApart (names_of ((done ++ take number vs) ++ (k, x) ∷ drop (number + 1) vs))
one_apart done vs number k x apart here =
    subst (λ es. AreApart (names_of es)) (ap (λ es. done ++ es) (split_at vs number (k, x) here).whole ∙ sym (append_assoc done (take number vs) ((k, x) ∷ drop (number + 1) vs))) apart
