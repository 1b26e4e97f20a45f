-- Lines of entries, one after another, and entries in the order of their names.
use Rattle.std.proofs.Common.{◌≡◌, ◌<◌, ◌≤◌, ◌+◌, ℕ, zero, suc, Bool, true, false, ◌&&◌, T, List, [], ◌∷◌, ◌++◌, map, length, take, get_or, slice_get, Some, refl, ap, sym, ◌∙◌, subst, arith}
use Rattle.std.specs.Prelude.{codes}
use Rattle.std.specs.List.{flat_map, zip}
use Rattle.std.specs.Ordering.{is_lt}
use Rattle.std.specs.declared.cmp.Ordering.TheVariants.{Less}
use Rattle.std.specs.FinMap.{entries, is_sorted}
use Rattle.std.specs.FinMap.Entries.{below_all}
use Rattle.std.proofs.lemmas.List.{take_more, map-append, append-nil, append_assoc, length-map}
use Rattle.std.proofs.lemmas.Grind.{flat_map-append}
use Rattle.dj_names.specs.Texts.{Text}
use Rattle.dj_calculus.specs.Maps.{text_cmp}
use Rattle.dj_calculus.specs.JavaText.{listed}
use Rattle.dj_calculus.proofs.MapLemmas.{entries_of_sorted}
use Rattle.ifj_table.specs.Sorted.{AreRising, pairs_of, map_of}
use Rattle.dj_calculus.specs.JavaText.{class_text, java_text}
use Rattle.dj_tree.specs.declared.expression.ExprNode.{ExprNode}
use Rattle.ifj_table.specs.Entries.{text_at, plain_class}
use Rattle.ifj_table.specs.Held.{AreClasses}
use Rattle.ifj_table.specs.Tables.{plain_table, table_names, table_nodes, table_classes}
use Rattle.ifj_table.specs.declared.entry.ClassEntry.{ClassEntry}
use Rattle.ifj_table.specs.declared.table.Table.{Table}
use Rattle.java_text.specs.Pieces.{comma}

-- ---- lines

flat_map-more : {X Y Z : Type 0} (lines : Y → List Z) (read : X → Y) (xs : List X) (i : ℕ) (d : X) → i < length xs → flat_map lines (map read (take (i + 1) xs)) ≡ flat_map lines (map read (take i xs)) ++ lines (read (get_or xs i d))
flat_map-more lines read xs i d l =
    ap (λ ys. flat_map lines (map read ys)) (take_more xs i d l)
    ∙ ap (flat_map lines) (map-append read (take i xs) (get_or xs i d ∷ []))
    ∙ flat_map-append lines (map read (take i xs)) (read (get_or xs i d) ∷ [])
    ∙ ap (λ ys. flat_map lines (map read (take i xs)) ++ ys) (append-nil (lines (read (get_or xs i d))))

-- a text that has the lines so far, with the lines of one entry more
pub lines_more : {X Y Z : Type 0} (lines : Y → List Z) (read : X → Y) (xs : List X) (i : ℕ) (d : X) (start before after : List Z) → i < length xs → before ≡ start ++ flat_map lines (map read (take i xs)) → after ≡ before ++ lines (read (get_or xs i d)) → after ≡ start ++ flat_map lines (map read (take (i + 1) xs))
lines_more lines read xs i d start before after l so_far last =
    last ∙ ap (λ ys. ys ++ lines (read (get_or xs i d))) so_far ∙ append_assoc start _ _ ∙ ap (λ ys. start ++ ys) (sym (flat_map-more lines read xs i d l))

-- ---- lists with commas

listed_push : (ts : List Text) (t : Text) → listed (ts ++ t ∷ []) ≡ listed ts ++ (comma (length ts) ++ t)
listed_push [] t = refl
listed_push (s ∷ []) t = refl
listed_push (s ∷ u ∷ ts) t =
    ap (λ r. s ++ (codes ", " ++ r)) (listed_push (u ∷ ts) t)
    ∙ ap (λ r. s ++ r) (sym (append_assoc (codes ", ") (listed (u ∷ ts)) (comma (length (u ∷ ts)) ++ t)))
    ∙ sym (append_assoc s (codes ", " ++ listed (u ∷ ts)) (comma (length (u ∷ ts)) ++ t))

taken : {X : Type 0} (k : ℕ) (xs : List X) → k ≤ length xs → length (take k xs) ≡ k
taken zero [] l = refl
taken zero (x ∷ xs) l = refl
taken (suc k) [] l = absurd (omega (arith, l))
taken (suc k) (x ∷ xs) l = let rest = taken k xs (omega (arith, l)) in omega (arith, rest)

module _ {A X : Type 0} (read : A → X) where
  -- both lists as they are read, side by side
  abbrev pub paired : List A → List A → List (X × X)
  paired kinds own = zip (map read kinds) (map read own)

  pair_at : (kinds own : List A) (i : ℕ) (d e : A) (f : X × X) → i < length kinds → i < length own → get_or (paired kinds own) i f ≡ (read (get_or kinds i d), read (get_or own i e))
  pair_at [] own i d e f l m = absurd (omega (arith, l))
  pair_at (x ∷ xs) [] i d e f l m = absurd (omega (arith, m))
  pair_at (x ∷ xs) (y ∷ ys) zero d e f l m = refl
  pair_at (x ∷ xs) (y ∷ ys) (suc i) d e f l m = pair_at xs ys i d e f (omega (arith, l)) (omega (arith, m))

  pub as_many : (kinds own : List A) → length own ≡ length kinds → length (paired kinds own) ≡ length kinds
  as_many [] own e = refl
  as_many (x ∷ xs) [] e = absurd (omega (arith, e))
  as_many (x ∷ xs) (y ∷ ys) e = let rest = as_many xs ys (omega (arith, e)) in omega (arith, rest)

  -- one pair more
  pub pairs_more : (texts : X × X → Text) (kinds own : List A) (i : ℕ) (d e : A) (start before between after : Text) → length own ≡ length kinds → i < length kinds
      → before ≡ start ++ listed (map texts (take i (paired kinds own))) → between ≡ before ++ comma i → after ≡ between ++ texts (read (get_or kinds i d), read (get_or own i e))
      → after ≡ start ++ listed (map texts (take (i + 1) (paired kinds own)))
  pairs_more texts kinds own i d e start before between after same low so_far then_comma last =
      let pairs = paired kinds own in
      let many = as_many kinds own same in
      let f : X × X = (read d, read e) in
      let done = map texts (take i pairs) in
      let last_text = texts (read (get_or kinds i d), read (get_or own i e)) in
      let count : length done ≡ i = length-map (take i pairs) texts ∙ taken i pairs (omega (arith, many, low)) in
      let more : map texts (take (i + 1) pairs) ≡ done ++ last_text ∷ [] =
      ap (map texts) (take_more pairs i f (omega (arith, many, low))) ∙ map-append texts (take i pairs) (get_or pairs i f ∷ [])
      ∙ ap (λ t. done ++ texts t ∷ []) (pair_at kinds own i d e f low (omega (arith, same, low))) in
      last ∙ ap (λ t. t ++ last_text) (then_comma ∙ ap (λ t. t ++ comma i) so_far) ∙ append_assoc (start ++ listed done) (comma i) last_text ∙ append_assoc start (listed done) (comma i ++ last_text)
      ∙ ap (λ k. start ++ (listed done ++ (comma k ++ last_text))) (sym count) ∙ ap (λ t. start ++ t) (sym (listed_push done last_text)) ∙ ap (λ ts. start ++ listed ts) (sym more)

-- ---- entries in order

t_both : (a b : Bool) → T a → T b → T (a && b)
t_both true b p q = q
t_both false b p q = absurd p

module _ {X : Type 0} where
  below : (k : Text) (es : List (Text × X)) → ((j : ℕ) (y : Text) → slice_get (map (λ (e : Text × X). e.0) es) j ≡ Some y → text_cmp k y ≡ Less) → T (below_all text_cmp k es)
  below k [] less = tt
  below k (e ∷ es) less =
      t_both (is_lt (text_cmp k e.0)) (below_all text_cmp k es) (subst (λ o. T (is_lt o)) (sym (less 0 e.0 refl)) tt) (below k es (λ j y is. less (suc j) y is))

  sorted_pairs : (es : List (Text × X)) → AreRising (map (λ (e : Text × X). e.0) es) → T (is_sorted text_cmp es)
  sorted_pairs [] rising = tt
  sorted_pairs (e ∷ es) rising =
      t_both (below_all text_cmp e.0 es) (is_sorted text_cmp es) (below e.0 es (λ j y is. rising 0 (suc j) e.0 y (omega arith) refl is))
      (sorted_pairs es (λ i j x y l p q. rising (suc i) (suc j) x y (omega (arith, l)) p q))

keys_of : {E X : Type 0} (key : E → Text) (read : E → X) (es : List E) → map (λ (p : Text × X). p.0) (pairs_of key read es) ≡ map key es
keys_of key read [] = refl
keys_of key read (e ∷ es) = ap (λ ks. key e ∷ ks) (keys_of key read es)

-- the entries of the map of a list whose keys rise
pub entries_are : {E X : Type 0} (key : E → Text) (read : E → X) (es : List E) → AreRising (map key es) → entries (map_of key read es) ≡ pairs_of key read es
entries_are key read es rising = entries_of_sorted (pairs_of key read es) (sorted_pairs (pairs_of key read es) (subst AreRising (sym (keys_of key read es)) rising))

-- the lines of all classes of a table are its text
pub table_written : (t : Table) (names : List Text) (exprs : List ExprNode) (classes : List ClassEntry) (text : Text) → names ≡ table_names t → exprs ≡ table_nodes t → classes ≡ table_classes t
    → AreClasses (table_names t) (table_nodes t) classes → text ≡ flat_map class_text (pairs_of (λ c. text_at names c.spot) (plain_class names exprs) classes) → text ≡ java_text (plain_table t)
table_written t names exprs classes text n e k held is =
    is
    ∙ ap (λ ns. flat_map class_text (pairs_of (λ c. text_at ns c.spot) (plain_class ns exprs) classes)) n
    ∙ ap (λ es. flat_map class_text (pairs_of (λ c. text_at (table_names t) c.spot) (plain_class (table_names t) es) classes)) e
    ∙ sym (ap (flat_map class_text) (entries_are (λ c. text_at (table_names t) c.spot) (plain_class (table_names t) (table_nodes t)) classes held.rising))
    ∙ ap (λ cs. flat_map class_text (entries (map_of (λ c. text_at (table_names t) c.spot) (plain_class (table_names t) (table_nodes t)) cs))) k
