-- Deltas that are disjoint are independent, and so are the operations of a delta and the steps of a change. For clients too.
use Rattle.std.proofs.Common.{◌≡◌, ◌⊎◌, inl, inr, Bool, true, false, ◌&&◌, cond, List, [], ◌∷◌, ◌++◌, map, Option, Some, None, Contains, refl, sym, ap, ◌∙◌, subst, arith}
use Rattle.std.specs.Option.{option_map}
use Rattle.std.specs.List.{filter_map}
use Rattle.std.specs.Ordering.{eq_by_cmp}
use Rattle.std.specs.Str.{bytes_eq}
use Rattle.std.specs.FinMap.{get, same_map}
use Rattle.std.proofs.lemmas.Slice.Eq.{bytes_eq-Decides}
use Rattle.std.specs.Cmp.{eq_by_cmp_equiv}
use Rattle.std.proofs.lemmas.Bool.{false≢true}
use Rattle.dj_names.specs.Texts.{Text}
use Rattle.dj_tree.specs.Trees.{Spot, MemberOperation, Change, Operation, adds_class, modifies_class, removes_class, Delta}
use Rattle.dj_calculus.specs.Maps.{text_cmp, TextMap, with_at}
use Rattle.dj_calculus.specs.Contents.{class_name, field_name, method_name}
use Rattle.dj_calculus.specs.Things.{Step, extends, does, first_steps, steps_of, Piece, superclass, field_named, method_named, piece, Touch, whole, mention, Thing, thing_of, touched_by}
use Rattle.dj_calculus.specs.Conflicts.{same_piece, collide, conflict, Disjoint}
use Rattle.dj_calculus.specs.Tables.{ClassEntry}
use Rattle.dj_calculus.specs.Operations.{run, update, inside, Held, look, write, changes, take_step, class_changes, apply, apply_delta}
use Rattle.dj_calculus.proofs.MapLemmas.{text_total, text_antisymmetric, text_get-insert, text_get-remove, same_key}
use Rattle.dj_calculus.proofs.Members.{each_of, each_map, among_others, either, mapped_within, within_flat, StandOnce, later_once, first_apart, mapped}
use Rattle.dj_calculus.proofs.OperationLemmas.{get_elsewhere, look_elsewhere, named, apart_members, not_superclass, later_option}
use Rattle.dj_calculus.proofs.Independence.{Independent, turned, run_independent, Pairwise, no_pairs, pairs}

-- ---- changes of parts

unmapped : {A B : Type 0} (f : A → B) (o : Option A) → option_map f o ≡ None → o ≡ None
unmapped f None e = refl
unmapped f (Some a) e = absurd cc

-- changes of parts that are apart
module _ {S A B : Type 0} (look_a : S → A) (write_a : A → S → S) (look_b : S → B) (write_b : B → S → S) (a_stays : (b : B) (s : S) → look_a (write_b b s) ≡ look_a s)
    (b_stays : (a : A) (s : S) → look_b (write_a a s) ≡ look_b s) (either_way : (a : A) (b : B) (s : S) → write_b b (write_a a s) ≡ write_a a (write_b b s)) where
  pub update_apart : (f : A → Option A) (g : B → Option B) → Independent (update look_a write_a f) (update look_b write_b g)
  update_apart f g =
      record {
        both = λ s u v p q.
            let a = mapped (λ x. write_a x s) (f (look_a s)) u p in
            let b = mapped (λ y. write_b y s) (g (look_b s)) v q in (
              write_b b.0 (write_a a.0 s),
              ap (update look_b write_b g) (sym a.2) ∙ ap (λ y. option_map (λ z. write_b z (write_a a.0 s)) (g y)) (b_stays a.0 s)
                  ∙ ap (option_map (λ z. write_b z (write_a a.0 s))) b.1,
              ap (update look_a write_a f) (sym b.2) ∙ ap (λ x. option_map (λ z. write_a z (write_b b.0 s)) (f x)) (a_stays b.0 s)
                  ∙ ap (option_map (λ z. write_a z (write_b b.0 s))) a.1 ∙ ap Some (sym (either_way a.0 b.0 s)),
            );
        left = λ s u p q.
            let a = mapped (λ x. write_a x s) (f (look_a s)) u p in
            ap (update look_b write_b g) (sym a.2) ∙ ap (λ y. option_map (λ z. write_b z (write_a a.0 s)) (g y)) (b_stays a.0 s)
            ∙ ap (option_map (λ z. write_b z (write_a a.0 s))) (unmapped (λ y. write_b y s) (g (look_b s)) q);
        right = λ s v p q.
            let b = mapped (λ y. write_b y s) (g (look_b s)) v p in
            ap (update look_a write_a f) (sym b.2) ∙ ap (λ x. option_map (λ z. write_a z (write_b b.0 s)) (f x)) (a_stays b.0 s)
            ∙ ap (option_map (λ z. write_a z (write_b b.0 s))) (unmapped (λ x. write_a x s) (f (look_a s)) q);
      }

-- independent changes of one part
module _ {S A : Type 0} (see : S → A) (put : A → S → S) (seen : (a : A) (s : S) → see (put a s) ≡ a) (again : (a b : A) (s : S) → put b (put a s) ≡ put b s) where
  pub update_same : (f g : A → Option A) → Independent f g → Independent (update see put f) (update see put g)
  update_same f g i =
      record {
        both = λ s u v p q.
            let a = mapped (λ x. put x s) (f (see s)) u p in
            let b = mapped (λ x. put x s) (g (see s)) v q in
            let w = i.both (see s) a.0 b.0 a.1 b.1 in (
              put w.0 s,
              ap (update see put g) (sym a.2) ∙ ap (λ x. option_map (λ z. put z (put a.0 s)) (g x)) (seen a.0 s) ∙ ap (option_map (λ z. put z (put a.0 s))) w.1 ∙ ap Some (again a.0 w.0 s),
              ap (update see put f) (sym b.2) ∙ ap (λ x. option_map (λ z. put z (put b.0 s)) (f x)) (seen b.0 s) ∙ ap (option_map (λ z. put z (put b.0 s))) w.2 ∙ ap Some (again b.0 w.0 s),
            );
        left = λ s u p q.
            let a = mapped (λ x. put x s) (f (see s)) u p in
            ap (update see put g) (sym a.2) ∙ ap (λ x. option_map (λ z. put z (put a.0 s)) (g x)) (seen a.0 s)
            ∙ ap (option_map (λ z. put z (put a.0 s))) (i.left (see s) a.0 a.1 (unmapped (λ x. put x s) (g (see s)) q));
        right = λ s v p q.
            let b = mapped (λ x. put x s) (g (see s)) v p in
            ap (update see put f) (sym b.2) ∙ ap (λ x. option_map (λ z. put z (put b.0 s)) (f x)) (seen b.0 s)
            ∙ ap (option_map (λ z. put z (put b.0 s))) (i.right (see s) b.0 b.1 (unmapped (λ x. put x s) (f (see s)) q));
      }

inside_both : {X : Type 0} (f g : X → Option X) → Independent f g → (o a b : Option X) → inside f o ≡ Some a → inside g o ≡ Some b
    → (z : Option X) × (inside g a ≡ Some z) × (inside f b ≡ Some z)
inside_both f g i None a b p q = absurd cc
inside_both f g i (Some x) a b p q =
    let u = mapped Some (f x) a p in
    let v = mapped Some (g x) b q in
    let w = i.both x u.0 v.0 u.1 v.1 in
    (Some w.0, ap (inside g) (sym u.2) ∙ ap (option_map Some) w.1, ap (inside f) (sym v.2) ∙ ap (option_map Some) w.2)

inside_left : {X : Type 0} (f g : X → Option X) → Independent f g → (o a : Option X) → inside f o ≡ Some a → inside g o ≡ None → inside g a ≡ None
inside_left f g i None a p q = absurd cc
inside_left f g i (Some x) a p q =
    let u = mapped Some (f x) a p in
    ap (inside g) (sym u.2) ∙ ap (option_map Some) (i.left x u.0 u.1 (unmapped Some (g x) q))

inside_independent : {X : Type 0} (f g : X → Option X) → Independent f g → Independent (inside f) (inside g)
inside_independent f g i =
    record { both = inside_both f g i; left = inside_left f g i; right = inside_left g f (turned f g i) }

-- ---- maps

pub get_with_at : {X : Type 0} (m : TextMap X) (k : Text) (held : Option X) (q : Text) → get (with_at m k held) q ≡ cond (eq_by_cmp text_cmp q k) held (get m q)
get_with_at {X} m k None q = text_get-remove X m k q
get_with_at {X} m k (Some x) q = text_get-insert X m k x q

itself : (k : Text) → eq_by_cmp text_cmp k k ≡ true
itself k = (eq_by_cmp_equiv text_total).refl k

pub get_there : {X : Type 0} (m : TextMap X) (k : Text) (held : Option X) → get (with_at m k held) k ≡ held
get_there m k held = get_with_at m k held k ∙ ap (λ b. cond b held (get m k)) (itself k)

put_twice : {X : Type 0} (b : Bool) (x y o : Option X) → cond b y (cond b x o) ≡ cond b y o
put_twice true x y o = refl
put_twice false x y o = refl

pub with_at_again : {X : Type 0} (m : TextMap X) (k : Text) (x y : Option X) → with_at (with_at m k x) k y ≡ with_at m k y
with_at_again m k x y =
    same_map text_total text_antisymmetric _ _ (λ q. get_with_at (with_at m k x) k y q ∙ ap (cond (eq_by_cmp text_cmp q k) y) (get_with_at m k x q)
    ∙ put_twice (eq_by_cmp text_cmp q k) x y (get m q) ∙ sym (get_with_at m k y q))

put_both : {X : Type 0} (a b : Bool) (x y o : Option X) → ¬ ((a ≡ true) × (b ≡ true)) → cond b y (cond a x o) ≡ cond a x (cond b y o)
put_both true true x y o not_both = absurd (not_both (refl, refl))
put_both true false x y o not_both = refl
put_both false true x y o not_both = refl
put_both false false x y o not_both = refl

pub with_at_apart : {X : Type 0} (m : TextMap X) (k j : Text) (x y : Option X) → ¬ (k ≡ j) → with_at (with_at m k x) j y ≡ with_at (with_at m j y) k x
with_at_apart m k j x y apart =
    same_map text_total text_antisymmetric _ _ (λ q. get_with_at (with_at m k x) j y q ∙ ap (cond (eq_by_cmp text_cmp q j) y) (get_with_at m k x q)
    ∙ put_both (eq_by_cmp text_cmp q k) (eq_by_cmp text_cmp q j) x y (get m q) (λ both. apart (sym (same_key q k both.0) ∙ same_key q j both.1))
    ∙ sym (get_with_at (with_at m j y) k x q ∙ ap (cond (eq_by_cmp text_cmp q k) x) (get_with_at m j y q)))

-- two texts are the same or not
pub same_or_not : (b : Bool) (k j : Text) → eq_by_cmp text_cmp k j ≡ b → (k ≡ j) ⊎ (¬ (k ≡ j))
same_or_not true k j e = inl (same_key k j e)
same_or_not false k j e = inr (λ same. false≢true (sym e ∙ ap (λ x. eq_by_cmp text_cmp x j) same ∙ itself j))

-- ---- steps

write_apart : (p q : Piece) (x : Held p) (y : Held q) (c : ClassEntry) → ¬ (p ≡ q) → write q y (write p x c) ≡ write p x (write q y c)
write_apart superclass superclass x y c apart = absurd (apart refl)
write_apart superclass (field_named g) x y c apart = refl
write_apart superclass (method_named n) x y c apart = refl
write_apart (field_named f) superclass x y c apart = refl
write_apart (field_named f) (field_named g) x y c apart = ap (λ m. record c { fields = m }) (with_at_apart c.fields f g x y (λ same. apart (ap field_named same)))
write_apart (field_named f) (method_named n) x y c apart = refl
write_apart (method_named m) superclass x y c apart = refl
write_apart (method_named m) (field_named g) x y c apart = refl
write_apart (method_named m) (method_named n) x y c apart = ap (λ z. record c { methods = z }) (with_at_apart c.methods m n x y (λ same. apart (ap method_named same)))

pub steps_independent : (x y : Step) → ¬ (piece x ≡ piece y) → Independent (take_step x) (take_step y)
steps_independent x y apart =
    update_apart (look (piece x)) (write (piece x)) (look (piece y)) (write (piece y)) (λ held c. look_elsewhere (piece x) (piece y) held c (λ same. apart (sym same)))
    (λ held c. look_elsewhere (piece y) (piece x) held c apart) (λ a b c. write_apart (piece x) (piece y) a b c apart) (changes x) (changes y)

-- ---- operations

pub other_classes : (x y : Operation) → ¬ ((class_name x).text ≡ (class_name y).text) → Independent (apply x) (apply y)
other_classes x y apart =
    update_apart (λ t. get t (class_name x).text) (λ held t. with_at t (class_name x).text held) (λ t. get t (class_name y).text) (λ held t. with_at t (class_name y).text held)
    (λ held t. get_elsewhere t (class_name y).text (class_name x).text held (λ same. apart (sym same)))
    (λ held t. get_elsewhere t (class_name x).text (class_name y).text held apart)
    (λ a b t. with_at_apart t (class_name x).text (class_name y).text a b apart) (class_changes x) (class_changes y)

-- changes of one class whose steps are apart
one_class : (k j : Text) (f g : Option ClassEntry → Option (Option ClassEntry)) → k ≡ j → Independent f g
    → Independent (update (λ t. get t k) (λ held t. with_at t k held) f) (update (λ t. get t j) (λ held t. with_at t j held) g)
one_class k j f g same i =
    subst (λ q. Independent (update (λ t. get t k) (λ held t. with_at t k held) f) (update (λ t. get t q) (λ held t. with_at t q held) g)) same
    (update_same (λ t. get t k) (λ held t. with_at t k held) (λ held t. get_there t k held) (λ a b t. with_at_again t k a b) f g i)

abbrev pub StepsApart : Change → Change → Type 0
StepsApart c d = (x y : Step) → Contains (steps_of c) x → Contains (steps_of d) y → ¬ (piece x ≡ piece y)

pub changes_independent : (c d : Change) → StepsApart c d → Independent (run take_step (steps_of c)) (run take_step (steps_of d))
changes_independent c d apart =
    run_independent take_step (run take_step (steps_of d)) (steps_of c)
    (each_of _ (steps_of c) (λ x of_c. turned (run take_step (steps_of d)) (take_step x)
    (run_independent take_step (take_step x) (steps_of d) (each_of _ (steps_of d) (λ y of_d. turned (take_step x) (take_step y) (steps_independent x y (apart x y of_c of_d)))))))

-- no thing of the one operation conflicts with one of the other
abbrev pub NoConflict : Operation → Operation → Type 0
NoConflict x y = (a b : Thing) → Contains (touched_by x) a → Contains (touched_by y) b → ¬ (conflict a b ≡ true)

pub same_bytes : (a b : Text) → a ≡ b → bytes_eq a b ≡ true
same_bytes a b same = (bytes_eq-Decides a b).1 same

both_true : (a b : Bool) → a ≡ true → b ≡ true → (a && b) ≡ true
both_true a b p q = rw (p, q) refl

pub same_piece_itself : (p : Piece) → same_piece p p ≡ true
same_piece_itself superclass = refl
same_piece_itself (field_named f) = same_bytes f f refl
same_piece_itself (method_named m) = same_bytes m m refl

same_pieces : (p q : Piece) → p ≡ q → same_piece p q ≡ true
same_pieces p q same = subst (λ r. same_piece p r ≡ true) same (same_piece_itself p)

pub apart_from_things : (c d : Change) → c.name.text ≡ d.name.text → NoConflict (modifies_class c) (modifies_class d) → StepsApart c d
apart_from_things c d same clear x y of_c of_d pieces =
    clear (thing_of c.name.text x) (thing_of d.name.text y) (among_others _ _ _ (mapped_within (thing_of c.name.text) (steps_of c) x of_c))
    (among_others _ _ _ (mapped_within (thing_of d.name.text) (steps_of d) y of_d)) (both_true _ _ (same_bytes _ _ same) (same_pieces _ _ pieces))

-- what an operation touches first: the whole class, or the mention of it
abbrev pub own_touch : Operation → Touch
own_touch (adds_class c) = whole
own_touch (modifies_class c) = mention
own_touch (removes_class c) = whole

abbrev pub own : Operation → Thing
own x = record { class = (class_name x).text; touch = own_touch x; at = (class_name x).at }

pub has_own : (x : Operation) → Contains (touched_by x) (own x)
has_own (adds_class c) = (0, omega arith, refl)
has_own (modifies_class c) = (0, omega arith, refl)
has_own (removes_class c) = (0, omega arith, refl)

pub clash : {G : Type 0} (x y : Operation) → (class_name x).text ≡ (class_name y).text → NoConflict x y → collide (own_touch x) (own_touch y) ≡ true → G
clash x y same clear touches = absurd (clear (own x) (own y) (has_own x) (has_own y) (both_true _ _ (same_bytes _ _ same) touches))

same_class : (x y : Operation) → (class_name x).text ≡ (class_name y).text → NoConflict x y → Independent (apply x) (apply y)
same_class (adds_class c) y same clear = clash (adds_class c) y same clear refl
same_class (removes_class c) y same clear = clash (removes_class c) y same clear refl
same_class (modifies_class c) (adds_class d) same clear = clash (modifies_class c) (adds_class d) same clear refl
same_class (modifies_class c) (removes_class d) same clear = clash (modifies_class c) (removes_class d) same clear refl
same_class (modifies_class c) (modifies_class d) same clear =
    one_class c.name.text d.name.text _ _ same
    (inside_independent (run take_step (steps_of c)) (run take_step (steps_of d)) (changes_independent c d (apart_from_things c d same clear)))

pub operations_independent : (x y : Operation) → NoConflict x y → Independent (apply x) (apply y)
operations_independent x y clear =
    either (same_or_not _ (class_name x).text (class_name y).text refl) (λ same. same_class x y same clear) (λ other. other_classes x y other)

-- ---- deltas

-- no thing of an operation of the one conflicts with one of an operation of the other
pub none_between : (d e : Delta) (x y : Operation) → Disjoint d e → Contains d.operations x → Contains e.operations y → NoConflict x y
none_between d e x y disjoint of_d of_e a b of_x of_y clash =
    disjoint (a.at, (b.at, record { a = a; b = b; of_one = within_flat touched_by d.operations x a of_d of_x; of_other = within_flat touched_by e.operations y b of_e of_y; clash = clash; first_at = refl; second_at = refl }))

pub deltas_independent : (d e : Delta) → Disjoint d e → Independent (apply_delta d) (apply_delta e)
deltas_independent d e disjoint =
    run_independent apply (apply_delta e) d.operations
    (each_of _ d.operations (λ x of_d. turned (apply_delta e) (apply x)
    (run_independent apply (apply x) e.operations (each_of _ e.operations (λ y of_e. turned (apply x) (apply y) (operations_independent x y (none_between d e x y disjoint of_d of_e)))))))

-- the operations of a delta, each on a class of its own, are independent
pub operations_pairwise : (operations : List Operation) → StandOnce (map class_name operations) → Pairwise apply operations
operations_pairwise [] once = no_pairs
operations_pairwise (x ∷ rest) once =
    pairs (each_of _ rest (λ y within. other_classes x y (first_apart (class_name x) (class_name y) (map class_name rest) once (mapped_within class_name rest y within))))
    (operations_pairwise rest (later_once (class_name x) (map class_name rest) once))

pub members_pairwise : (members : List MemberOperation) → StandOnce (filter_map field_name members) → StandOnce (filter_map method_name members)
    → Pairwise take_step (map does members)
members_pairwise [] fields methods = no_pairs
members_pairwise (m ∷ rest) fields methods =
    pairs (each_map (λ y. Independent (take_step (does m)) (take_step y)) does rest
    (λ n within. steps_independent (does m) (does n) (apart_members m n rest fields methods within (named m) (named n))))
    (members_pairwise rest (later_option (field_name m) _ fields) (later_option (method_name m) _ methods))

-- and so are the steps of a change
pub steps_pairwise : (parent : Option Spot) (members : List MemberOperation) → StandOnce (filter_map field_name members) → StandOnce (filter_map method_name members)
    → Pairwise take_step (first_steps parent ++ map does members)
steps_pairwise None members fields methods = members_pairwise members fields methods
steps_pairwise (Some p) members fields methods =
    pairs (each_map (λ y. Independent (take_step (extends p)) (take_step y)) does members (λ n within. steps_independent (extends p) (does n) (not_superclass n (named n))))
    (members_pairwise members fields methods)
