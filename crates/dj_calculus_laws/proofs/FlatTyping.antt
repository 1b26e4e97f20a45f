-- The flat table of a well typed table is well typed. For clients: which methods a flat table has, and where they are from.
use Rattle.std.proofs.Common.{◌≡◌, ◌⊎◌, inl, inr, ℕ, zero, suc, ◌+◌, ◌-◌, ◌<◌, ◌==◌, Bool, true, false, cond, ◌||◌, List, [], ◌∷◌, ◌++◌, map, length, slice_get, Option, Some, None, is_some, IsSome, IsTrue, Contains, refl, sym, ap, ◌∙◌, subst, arith}
use Rattle.std.specs.Bool.{if◌then◌else◌}
use Rattle.std.specs.List.{list_any, flat_map, enumerate_from}
use Rattle.std.specs.Option.{option_map}
use Rattle.std.specs.Ordering.{eq_by_cmp}
use Rattle.std.specs.Cmp.{eq_by_cmp_equiv}
use Rattle.std.specs.FinMap.{get, find, entries, get-entries, get-from_entries}
use Rattle.std.proofs.lemmas.Bool.{false≢true, eqb-true, eq-eqb, ne_eqb}
use Rattle.std.proofs.lemmas.Option.{slice_get_within}
use Rattle.std.proofs.lemmas.List.Elements.{All-contains, Contains-append_left, Contains-append_right}
use Rattle.dj_names.specs.Texts.{Text}
use Rattle.arena_walk.specs.Tree.{branch, no_trees, tree_and, trees_of, nodes, nodes_each, fold_each}
use Rattle.dj_tree.specs.Trees.{Spot, Expr, ExprForm, VariableForm, ThisForm, NullForm, FieldForm, CallForm, NewForm, CastForm, AssignForm, OriginalForm}
use Rattle.dj_calculus.specs.Maps.{text_cmp}
use Rattle.dj_calculus.specs.Tables.{FieldEntry, Body, MethodEntry, ClassEntry, Table, Heading, heading_of, texts_of}
use Rattle.dj_calculus.specs.Entries.{same_signature, is_original}
use Rattle.dj_calculus.specs.Subclasses.{object, Exists, HasSuperclass, Steps, stay, up, Above, Kind, class_kind, Below, null_below, same, below_object, above, Nearest, own, inherited, FieldOf, MethodOf}
use Rattle.dj_calculus.specs.Typing.{Home, home_of, Arguments, Types, AllBelow, none_below, and_below, IsBody, kept, Returns, types_in, WellTyped}
use Rattle.dj_calculus.specs.Typing.{type_of_variable, type_of_this, type_of_null, type_of_new, type_of_cast, type_of_field, type_of_assignment, type_of_call, type_of_original}
use Rattle.dj_calculus.specs.TableForms.{EachMethod, IsTable}
use Rattle.dj_calculus.specs.FlatTables.{version_name, calling_over, calling, version, versions, flat_class, flat, names_in_form, names_in_body, names_in_field, names_in_method, names_in_class, has_dollar, BeginsPlainly, HasNoDollar}
use Rattle.dj_calculus.proofs.MapLemmas.{text_total, same_key, found_entry, found_in_entries, entry_found}
use Rattle.dj_calculus.proofs.Members.{no_element, first_or_other, among_others, either, mapped, mapped_within, mapped_from, from_flat, within_flat, only_one}
use Rattle.dj_calculus.proofs.Counting.{there_is, got_within}
use Rattle.dj_calculus.proofs.Chains.{none_or_value, circle_endless}
use Rattle.dj_calculus_laws.proofs.SpelledNames.{FormSays, ExprSays, EachSays}
use Rattle.dj_calculus_laws.proofs.VersionNames.{version_has_dollar, one_version}

-- ---- lists of entries

find_keyed : {X Y : Type 0} (g : Text → X → Y) (q : Text) (es : List (Text × X)) → find text_cmp q (map (λ (e : Text × X). (e.0, g e.0 e.1)) es) ≡ option_map (g q) (find text_cmp q es)
find_keyed g q [] = refl
find_keyed g q (e ∷ es) = chosen (eq_by_cmp text_cmp q e.0) e.0 e.1 _ (find text_cmp q es) refl (find_keyed g q es)
  where
    chosen : (b : Bool) (k : Text) (x : _) (o : Option _) (p : Option _) → eq_by_cmp text_cmp q k ≡ b → o ≡ option_map (g q) p → cond b (Some (g k x)) o ≡ option_map (g q) (cond b (Some x) p)
    chosen true k x o p is e = ap (λ z. Some (g z x)) (sym (same_key q k is))
    chosen false k x o p is e = e

found_some : {X : Type 0} (es : List (Text × X)) (q : Text) (v : X) → Contains es (q, v) → (x : X) × (find text_cmp q es ≡ Some x)
found_some [] q v has = no_element (q, v) has
found_some (e ∷ es) q v has = by_test (eq_by_cmp text_cmp q e.0) refl (first_or_other e (q, v) es has) (found_some es q v)
  where
    by_test : (b : Bool) → eq_by_cmp text_cmp q e.0 ≡ b → (e ≡ (q, v)) ⊎ Contains es (q, v) → (Contains es (q, v) → (x : _) × (find text_cmp q es ≡ Some x))
        → (x : _) × (cond b (Some e.1) (find text_cmp q es) ≡ Some x)
    by_test true is where_it_is later = (e.1, refl)
    by_test false is (inl here) later = absurd (false≢true (sym is ∙ ap (λ z. eq_by_cmp text_cmp q z.0) here ∙ (eq_by_cmp_equiv text_total).refl q))
    by_test false is (inr behind) later = later behind

-- ---- numbers of bodies

number_of : {X : Type 0} (n : ℕ) (xs : List X) (e : ℕ × X) → Contains (enumerate_from n xs) e → (j : ℕ) × (e.0 ≡ n + j) × (slice_get xs j ≡ Some e.1)
number_of n [] e has = no_element e has
number_of n (x ∷ xs) e has =
    either (first_or_other (n, x) e (enumerate_from (n + 1) xs) has) (λ here. (0, sym (ap (λ y. y.0) here) ∙ omega arith, ap (λ y. Some y.1) here))
    (λ later. let found = number_of (n + 1) xs e later in (suc found.0, found.1 ∙ omega arith, found.2))

pair_of : {X : Type 0} (a b : ℕ) (y x : X) → a ≡ b → y ≡ x → ◌≡◌ {A = ℕ × X} (a, y) (b, x)
pair_of a b y x p q = cc

numbered : {X : Type 0} (n j : ℕ) (xs : List X) (x : X) → slice_get xs j ≡ Some x → Contains (enumerate_from n xs) (n + j, x)
numbered n j [] x is = absurd cc
numbered n zero (y ∷ xs) x is = (0, omega arith, pair_of n (n + 0) y x (omega arith) cc)
numbered n (suc j) (y ∷ xs) x is =
    let sum : (n + 1) + j ≡ n + suc j = omega arith in
    among_others (n, y) (n + suc j, x) (enumerate_from (n + 1) xs) (subst (λ k. Contains (enumerate_from (n + 1) xs) (k, x)) sum (numbered (n + 1) j xs x is))

-- ---- the classes of a flat table

abbrev pub flat_entry : Text → ClassEntry → ClassEntry
flat_entry c e = (flat_class (c, e)).1

module _ (t : Table) where
  pub get_flat : (c : Text) → get (flat t) c ≡ option_map (flat_entry c) (get t c)
  get_flat c = get-from_entries text_total _ c ∙ find_keyed flat_entry c (entries t) ∙ ap (option_map (flat_entry c)) (sym (get-entries t c))

  pub flat_there : (c : Text) (e : ClassEntry) → get t c ≡ Some e → get (flat t) c ≡ Some (flat_entry c e)
  flat_there c e is = get_flat c ∙ ap (option_map (flat_entry c)) is

  pub flat_from : (c : Text) (x : ClassEntry) → get (flat t) c ≡ Some x → (e : ClassEntry) × (get t c ≡ Some e) × (flat_entry c e ≡ x)
  flat_from c x is = mapped (flat_entry c) (get t c) x (sym (get_flat c) ∙ is)

  superclass_there : (c d : Text) → HasSuperclass t c d → HasSuperclass (flat t) c d
  superclass_there c d has = record { entry = flat_entry c has.entry; there = flat_there c has.entry has.there; parent = has.parent }

  superclass_from : (c d : Text) → HasSuperclass (flat t) c d → HasSuperclass t c d
  superclass_from c d has =
      let e = flat_from c has.entry has.there in
      record { entry = e.0; there = e.1; parent = ap (λ z. z.parent.text) e.2 ∙ has.parent }

  steps_there : (c d : Text) → Steps t c d → Steps (flat t) c d
  steps_there c d stay = stay
  steps_there c d (up {d = x} has steps) = up (superclass_there c x has) (steps_there x d steps)

  steps_from : (c d : Text) → Steps (flat t) c d → Steps t c d
  steps_from c d stay = stay
  steps_from c d (up {d = x} has steps) = up (superclass_from c x has) (steps_from x d steps)

  above_there : (c d : Text) → Above t c d → Above (flat t) c d
  above_there c d over = (over.0, superclass_there c over.0 over.1, steps_there over.0 d over.2)

  above_from : (c d : Text) → Above (flat t) c d → Above t c d
  above_from c d over = (over.0, superclass_from c over.0 over.1, steps_from over.0 d over.2)

  exists_there : (c : Text) → Exists t c → Exists (flat t) c
  exists_there c (inl is) = inl is
  exists_there c (inr there) =
      either (none_or_value (get t c)) (λ none. absurd (false≢true (subst IsSome none there)))
      (λ found. inr (ap is_some (flat_there c found.0 found.1)))

  below_there : (a b : Kind) → Below t a b → Below (flat t) a b
  below_there a b (null_below k) = null_below b
  below_there a b (same k) = same a
  below_there a b (below_object k) = below_object a
  below_there a b (above c d over) = above c d (above_there c d over)

  field_there : (c f kind : Text) → FieldOf t c f kind → FieldOf (flat t) c f kind
  field_there c f kind has = record { owner = has.owner; field = has.field; nearest = up_to c has.owner has.field has.nearest; has = has.has }
    where
      up_to : (c d : Text) (x : FieldEntry) → Nearest t (λ e. get e.fields f) c d x → Nearest (flat t) (λ e. get e.fields f) c d x
      up_to c d x (own {entry = e} is has) = own (flat_there c e is) has
      up_to c d x (inherited {entry = e} is lacks more) = inherited (flat_there c e is) lacks (up_to e.parent.text d x more)

-- ---- the methods of a flat class

-- the version that a method of a flat class is
pub record Origin (c : Text) (e : ClassEntry) (n : Text) (x : MethodEntry) : Type 0 where
  pub m : Text
  pub method : MethodEntry
  pub number : ℕ
  pub body : Body
  pub there : get e.methods m ≡ Some method
  pub its : slice_get method.bodies number ≡ Some body
  pub is : version c m method (number, body) ≡ (n, x)

abbrev pub Plain : Text → Type 0
Plain x = has_dollar x ≡ false

module _ (c : Text) (e : ClassEntry) where
  pub origin : (n : Text) (x : MethodEntry) → get (flat_entry c e).methods n ≡ Some x → Origin c e n x
  origin n x is =
      let of = from_flat (versions c) (entries e.methods) (n, x) (found_in_entries _ n x is) in
      let one = mapped_from (version c of.0.0 of.0.1) (enumerate_from 0 of.0.1.bodies) (n, x) of.2 in
      let at = number_of 0 of.0.1.bodies one.0 one.1 in
      let number : one.0.0 ≡ at.0 = at.1 ∙ omega arith in
      record {
        m = of.0.0;
        method = of.0.1;
        number = one.0.0;
        body = one.0.1;
        there = entry_found e.methods of.0.0 of.0.1 of.1;
        its = ap (λ k. slice_get of.0.1.bodies k) number ∙ at.2;
        is = one.2;
      }

  -- a version is among them
  pub version_there : (m : Text) (method : MethodEntry) (k : ℕ) (body : Body) → get e.methods m ≡ Some method → slice_get method.bodies k ≡ Some body
      → (x : MethodEntry) × (get (flat_entry c e).methods (version c m method (k, body)).0 ≡ Some x)
  version_there m method k body there its =
      let one = version c m method (k, body) in
      let sum : 0 + k ≡ k = omega arith in
      let within = subst (λ i. Contains (enumerate_from 0 method.bodies) (i, body)) sum (numbered 0 k method.bodies body its) in
      let listed = within_flat (versions c) (entries e.methods) (m, method) one (found_entry e.methods m method there)
      (mapped_within (version c m method) (enumerate_from 0 method.bodies) (k, body) within) in
      let found = found_some (flat_map (versions c) (entries e.methods)) one.0 one.1 listed in
      (found.0, get-from_entries text_total _ one.0 ∙ found.1)

  -- its name: that of the method, or with `$`
  version_named : (m : Text) (method : MethodEntry) (k : ℕ) (body : Body) (n : Text) → (version c m method (k, body)).0 ≡ n
      → ((m ≡ n) × (k + 1 ≡ length method.bodies)) ⊎ (version_name c m k ≡ n)
  version_named m method k body n is = by_test (k + 1 == length method.bodies) refl is
    where
      by_test : (b : Bool) → (k + 1 == length method.bodies) ≡ b → (if b then m else version_name c m k) ≡ n → ((m ≡ n) × (k + 1 ≡ length method.bodies)) ⊎ (version_name c m k ≡ n)
      by_test true test e = inl (e, eqb-true (k + 1) (length method.bodies) test)
      by_test false test e = inr e

  -- where the methods' names have no `$`
  module _ (plain : (m : Text) (method : MethodEntry) → get e.methods m ≡ Some method → Plain m) where
    -- what stands at a name without `$` is the newest version of the method of this name
    pub newest_from : (n : Text) (x : MethodEntry) → Plain n → get (flat_entry c e).methods n ≡ Some x → (o : Origin c e n x) × (o.m ≡ n)
    newest_from n x of_n is =
        let o = origin n x is in
        either (version_named o.m o.method o.number o.body n (ap (λ z. z.0) o.is)) (λ newest. (o, newest.0))
        (λ older. absurd (false≢true (sym of_n ∙ ap has_dollar (sym older) ∙ version_has_dollar c o.m o.number)))

    -- and what stands at the name of an older version is one of that method
    pub older_from : (m : Text) (k : ℕ) (x : MethodEntry) → Plain c → Plain m → get (flat_entry c e).methods (version_name c m k) ≡ Some x
        → (o : Origin c e (version_name c m k) x) × (o.m ≡ m)
    older_from m k x of_c of_m is =
        let o = origin (version_name c m k) x is in
        either (version_named o.m o.method o.number o.body (version_name c m k) (ap (λ z. z.0) o.is))
        (λ newest. absurd (false≢true (sym (plain o.m o.method o.there) ∙ ap has_dollar newest.0 ∙ version_has_dollar c m k)))
        (λ older. (o, (one_version c c o.m m o.number k of_c of_c (plain o.m o.method o.there) of_m older).0))

    same_method : (m : Text) (method : MethodEntry) (n : Text) (x : MethodEntry) (o : Origin c e n x) → o.m ≡ m → get e.methods m ≡ Some method → x.signature ≡ method.signature
    same_method m method n x o is there =
        let same_entry : o.method ≡ method = one_of o.method method (sym (ap (get e.methods) is) ∙ o.there) there in
        sym (ap (λ z. z.1.signature) o.is) ∙ ap (λ z. z.signature) same_entry
      where
        one_of : (a b : MethodEntry) → get e.methods m ≡ Some a → get e.methods m ≡ Some b → a ≡ b
        one_of a b p q = cc

    -- a method that has a body keeps its name and its signature
    pub method_there : (m : Text) (method : MethodEntry) → get e.methods m ≡ Some method → 0 < length method.bodies
        → (x : MethodEntry) × (get (flat_entry c e).methods m ≡ Some x) × (x.signature ≡ method.signature)
    method_there m method there some =
        let k = length method.bodies - 1 in
        let body = there_is method.bodies k (omega arith) in
        let found = version_there m method k body.0 there body.1 in
        let at = subst (λ n. get (flat_entry c e).methods n ≡ Some found.0) (newest_name m method k body.0 (omega arith)) found.1 in
        let o = newest_from m found.0 (plain m method there) at in
        (found.0, at, same_method m method m found.0 o.0 o.1 there)
      where
        newest_name : (m : Text) (method : MethodEntry) (k : ℕ) (body : Body) → k + 1 ≡ length method.bodies → (version c m method (k, body)).0 ≡ m
        newest_name m method k body last = ap (λ b. if b then m else version_name c m k) (eq-eqb (k + 1) (length method.bodies) last)

    -- an older version has the method's signature
    pub older_there : (m : Text) (method : MethodEntry) (k : ℕ) → Plain c → get e.methods m ≡ Some method → k + 1 < length method.bodies
        → (x : MethodEntry) × (get (flat_entry c e).methods (version_name c m k) ≡ Some x) × (x.signature ≡ method.signature)
    older_there m method k of_c there low =
        let body = there_is method.bodies k (omega arith) in
        let found = version_there m method k body.0 there body.1 in
        let at = subst (λ n. get (flat_entry c e).methods n ≡ Some found.0) (older_name m method k body.0 low) found.1 in
        let o = older_from m k found.0 of_c (plain m method there) at in
        (found.0, at, same_method m method (version_name c m k) found.0 o.0 o.1 there)
      where
        older_name : (m : Text) (method : MethodEntry) (k : ℕ) (body : Body) → k + 1 < length method.bodies → (version c m method (k, body)).0 ≡ version_name c m k
        older_name m method k body low = ap (λ b. if b then m else version_name c m k) (ne_eqb (k + 1) (length method.bodies) (λ same. absurd (omega arith)))

    -- a name without `$` that is no method is none of the flat class
    pub method_missing : (n : Text) → Plain n → get e.methods n ≡ None → get (flat_entry c e).methods n ≡ None
    method_missing n of_n none =
        either (none_or_value (get (flat_entry c e).methods n)) (λ missing. missing)
        (λ found. let o = newest_from n found.0 of_n found.1 in absurd (not_both (sym (ap (get e.methods) o.1) ∙ o.0.there) none))
      where
        not_both : {o : Option MethodEntry} {x : MethodEntry} → o ≡ Some x → o ≡ None → ⊥
        not_both p q = absurd cc

-- ---- names without `$`

form_plain : (form : ExprForm) → ((n : Text) → Contains (names_in_form form) n → Plain n) → FormSays Plain form
form_plain (VariableForm x) each = each x.text (0, omega arith, refl)
form_plain (ThisForm at) each = tt
form_plain (NullForm at) each = tt
form_plain (FieldForm f) each = each f.text (0, omega arith, refl)
form_plain (CallForm m) each = each m.text (0, omega arith, refl)
form_plain (NewForm c) each = each c.text (0, omega arith, refl)
form_plain (CastForm c) each = each c.text (0, omega arith, refl)
form_plain (AssignForm f) each = each f.text (0, omega arith, refl)
form_plain (OriginalForm at) each = tt

mutual
  expr_plain : (e : Expr) → ((form : ExprForm) → Contains (nodes e) form → FormSays Plain form) → ExprSays Plain e
  expr_plain (branch form parts) each =
      (each form (Contains-append_right (nodes_each parts) (form ∷ []) form (0, omega arith, refl)), each_plain parts (λ f has. each f (Contains-append_left (nodes_each parts) (form ∷ []) f has)))

  each_plain : (es : Arguments) → ((form : ExprForm) → Contains (nodes_each es) form → FormSays Plain form) → EachSays Plain es
  each_plain no_trees each = tt
  each_plain (tree_and e es) each =
      (expr_plain e (λ f has. each f (Contains-append_left (nodes e) (nodes_each es) f has)), each_plain es (λ f has. each f (Contains-append_right (nodes e) (nodes_each es) f has)))

module _ (t : Table) (dollars : HasNoDollar t) (c : Text) (e : ClassEntry) (there : get t c ≡ Some e) where
  name_plain : (n : Text) → Contains (names_in_class (c, e)) n → Plain n
  name_plain n has = All-contains Plain (flat_map names_in_class (entries t)) n dollars (within_flat names_in_class (entries t) (c, e) n (found_entry t c e there) has)

  pub class_plain : Plain c
  class_plain = name_plain c (0, omega arith, refl)

  in_method : (m : Text) (method : MethodEntry) (n : Text) → get e.methods m ≡ Some method → Contains (names_in_method (m, method)) n → Plain n
  in_method m method n is has =
      let fields = flat_map names_in_field (entries e.fields) in
      let methods = flat_map names_in_method (entries e.methods) in
      let here = within_flat names_in_method (entries e.methods) (m, method) n (found_entry e.methods m method is) has in
      name_plain n (among_others c n (e.parent.text ∷ (fields ++ methods)) (among_others e.parent.text n (fields ++ methods) (Contains-append_right fields methods n here)))

  pub method_plain : (m : Text) (method : MethodEntry) → get e.methods m ≡ Some method → Plain m
  method_plain m method is = in_method m method m is (0, omega arith, refl)

  pub body_plain : (m : Text) (method : MethodEntry) (body : Body) → get e.methods m ≡ Some method → Contains method.bodies body → ExprSays Plain body.value
  body_plain m method body is within =
      expr_plain body.value (λ form has. form_plain form (λ n named.
      let types = texts_of method.signature.parameters in
      let bodies = flat_map names_in_body method.bodies in
      let in_value = within_flat names_in_form (nodes body.value) form n has named in
      let in_body = within_flat names_in_body method.bodies body n within (Contains-append_right (texts_of body.names) (flat_map names_in_form (nodes body.value)) n in_value) in
      in_method m method n is (among_others m n (method.signature.result.text ∷ (types ++ bodies)) (among_others method.signature.result.text n (types ++ bodies) (Contains-append_right types bodies n in_body)))))

-- ---- types in the flat table

module _ (t : Table) (is_table : IsTable t) (dollars : HasNoDollar t) where
  nearest_there : (m c d : Text) (x : MethodEntry) → Plain m → Nearest t (λ e. get e.methods m) c d x
      → (y : MethodEntry) × Nearest (flat t) (λ e. get e.methods m) c d y × (heading_of y.signature ≡ heading_of x.signature)
  nearest_there m c d x of_m (own {entry = e} is has) =
      let found = method_there c e (method_plain t dollars c e is) m x has (is_table.methods c m e x is has).some in
      (found.0, own (flat_there t c e is) found.1, ap heading_of found.2)
  nearest_there m c d x of_m (inherited {entry = e} is lacks more) =
      let above_it = nearest_there m e.parent.text d x of_m more in
      (above_it.0, inherited (flat_there t c e is) (method_missing c e (method_plain t dollars c e is) m of_m lacks) above_it.1, above_it.2)

  method_of_there : (c m : Text) (heading : Heading) → Plain m → MethodOf t c m heading → MethodOf (flat t) c m heading
  method_of_there c m heading of_m has =
      let found = nearest_there m c has.owner has.method of_m has.nearest in
      record { owner = has.owner; method = found.0; nearest = found.1; has = found.2 ∙ has.has }

  related_there : (a : Kind) (c : Text) → (Below t a (class_kind c)) ⊎ (Below t (class_kind c) a) → (Below (flat t) a (class_kind c)) ⊎ (Below (flat t) (class_kind c) a)
  related_there a c (inl below) = inl (below_there t a (class_kind c) below)
  related_there a c (inr over) = inr (below_there t (class_kind c) a over)

  module _ (home : Home) (name : Text) where
    -- where `original(..)` stands, its call of this method of `this` is typed
    abbrev Answered : List ExprForm → Type 0
    Answered forms = (at : ℕ) → Contains forms (OriginalForm at) → MethodOf (flat t) home.class name home.heading

    in_parts : (form : ExprForm) (parts : Arguments) → Answered (nodes (branch form parts)) → Answered (nodes_each parts)
    in_parts form parts answered at has = answered at (Contains-append_left (nodes_each parts) (form ∷ []) (OriginalForm at) has)

    in_first : (e : Expr) (es : Arguments) → Answered (nodes_each (tree_and e es)) → Answered (nodes e)
    in_first e es answered at has = answered at (Contains-append_left (nodes e) (nodes_each es) (OriginalForm at) has)

    in_others : (e : Expr) (es : Arguments) → Answered (nodes_each (tree_and e es)) → Answered (nodes_each es)
    in_others e es answered at has = answered at (Contains-append_right (nodes e) (nodes_each es) (OriginalForm at) has)

    mutual
      types_there : (e : Expr) (k : Kind) → Types t home e k → ExprSays Plain e → Answered (nodes e) → Types (flat t) home (calling name e) k
      types_there e k (type_of_variable is) says answered = type_of_variable is
      types_there e k type_of_this says answered = type_of_this
      types_there e k type_of_null says answered = type_of_null
      types_there e k (type_of_new {d = d} exists) says answered = type_of_new (exists_there t d.text exists)
      types_there e k (type_of_cast {d = d} {e = v} {a = a} exists types related) says answered =
          type_of_cast (exists_there t d.text exists) (types_there v a types says.1.0 (in_first v no_trees (in_parts (CastForm d) (tree_and v no_trees) answered))) (related_there a d.text related)
      types_there e k (type_of_field {e = v} {f = f} {a = a} {kind = kind} types has) says answered =
          type_of_field (types_there v (class_kind a) types says.1.0 (in_first v no_trees (in_parts (FieldForm f) (tree_and v no_trees) answered))) (field_there t a f.text kind has)
      types_there e k (type_of_assignment {e = v} {v = w} {f = f} {a = a} {kind = kind} {b = b} types has value below) says answered =
          let parts = in_parts (AssignForm f) (tree_and v (tree_and w no_trees)) answered in
          type_of_assignment (types_there v (class_kind a) types says.1.0 (in_first v (tree_and w no_trees) parts)) (field_there t a f.text kind has)
          (types_there w b value says.1.1.0 (in_first w no_trees (in_others v (tree_and w no_trees) parts))) (below_there t b (class_kind kind) below)
      types_there e k (type_of_call {e = v} {m = m} {arguments = es} {a = a} {heading = heading} types has below) says answered =
          let parts = in_parts (CallForm m) (tree_and v es) answered in
          type_of_call (types_there v (class_kind a) types says.1.0 (in_first v es parts)) (method_of_there a m.text heading says.0 has)
          (each_there es heading.parameters below says.1.1 (in_others v es parts))
      types_there e k (type_of_original {at = at} {arguments = es} below) says answered =
          type_of_call type_of_this (answered at (Contains-append_right (nodes_each es) (OriginalForm at ∷ []) (OriginalForm at) (0, omega arith, refl)))
          (each_there es home.heading.parameters below says.1 (in_parts (OriginalForm at) es answered))

      each_there : (es : Arguments) (ps : List Text) → AllBelow t home es ps → EachSays Plain es → Answered (nodes_each es)
          → AllBelow (flat t) home (trees_of (fold_each (calling_over name) es)) ps
      each_there es ps none_below says answered = none_below
      each_there es ps (and_below {e = v} {a = a} {arguments = rest} {u = u} {parameters = more} types below all) says answered =
          and_below (types_there v a types says.0 (in_first v rest answered)) (below_there t a (class_kind u) below) (each_there rest more all says.1 (in_others v rest answered))

-- ---- well typed

any_from : {X : Type 0} (p : X → Bool) (xs : List X) (x : X) → Contains xs x → p x ≡ true → list_any p xs ≡ true
any_from p [] x has is = no_element x has
any_from p (y ∷ xs) x has is =
    either (first_or_other y x xs has) (λ same_one. rw (ap p same_one ∙ is) refl) (λ later. or_last (p y) (list_any p xs) (any_from p xs x later is))
  where
    or_last : (a b : Bool) → b ≡ true → (a || b) ≡ true
    or_last true b e = refl
    or_last false b e = e

module _ (t : Table) (is_table : IsTable t) (plainly : EachMethod t BeginsPlainly) (dollars : HasNoDollar t) (typed : WellTyped t) where
  superclasses : (c : Text) (x : ClassEntry) → get (flat t) c ≡ Some x → Exists (flat t) x.parent.text
  superclasses c x is =
      let e = flat_from t c x is in
      subst (λ z. Exists (flat t) z.parent.text) e.2 (exists_there t e.0.parent.text (typed.superclasses c e.0 e.1))

  rooted : (c : Text) (x : ClassEntry) → get (flat t) c ≡ Some x → Steps (flat t) c object
  rooted c x is = let e = flat_from t c x is in steps_there t c object (typed.rooted c e.0 e.1)

  field_types : (c f : Text) (x : ClassEntry) (field : FieldEntry) → get (flat t) c ≡ Some x → get x.fields f ≡ Some field → Exists (flat t) field.kind.text
  field_types c f x field is has =
      let e = flat_from t c x is in
      exists_there t field.kind.text (typed.field_types c f e.0 field e.1 (subst (λ z. get z.fields f ≡ Some field) (sym e.2) has))

  from_method : (c n : Text) (x : ClassEntry) (method : MethodEntry) (e : ClassEntry) → flat_entry c e ≡ x → get x.methods n ≡ Some method → Origin c e n method
  from_method c n x method e e_is has = origin c e n method (subst (λ z. get z.methods n ≡ Some method) (sym e_is) has)

  its_signature : (c n : Text) (e : ClassEntry) (method : MethodEntry) (o : Origin c e n method) → o.method.signature ≡ method.signature
  its_signature c n e method o = ap (λ z. z.1.signature) o.is

  signatures : (c n : Text) (x : ClassEntry) (method : MethodEntry) (kind : Spot) → get (flat t) c ≡ Some x → get x.methods n ≡ Some method
      → Contains (types_in method.signature) kind → Exists (flat t) kind.text
  signatures c n x method kind is has within =
      let e = flat_from t c x is in
      let o = from_method c n x method e.0 e.2 has in
      exists_there t kind.text
      (typed.signatures c o.m e.0 o.method kind e.1 o.there (subst (λ s. Contains (types_in s) kind) (sym (its_signature c n e.0 method o)) within))

  fields : (c d f : Text) (x upper : ClassEntry) (field : FieldEntry) → get (flat t) c ≡ Some x → get x.fields f ≡ Some field
      → Above (flat t) c d → get (flat t) d ≡ Some upper → get upper.fields f ≡ None
  fields c d f x upper field is has over upper_is =
      let e = flat_from t c x is in
      let u = flat_from t d upper upper_is in
      subst (λ z. get z.fields f ≡ None) u.2
      (typed.fields c d f e.0 u.0 field e.1 (subst (λ z. get z.fields f ≡ Some field) (sym e.2) has) (above_from t c d over) u.1)

  no_circle : (c d : Text) → Above t c d → c ≡ d → ⊥
  no_circle c d over is =
      let endless = circle_endless t c (subst (λ z. Above t c z) (sym is) over) in
      let e = over.1.entry in
      false≢true (subst IsSome is_table.no_object (endless object (typed.rooted c e over.1.there)))

  module _ (c d n : Text) (e u : ClassEntry) (method other : MethodEntry) (e_is : get t c ≡ Some e) (u_is : get t d ≡ Some u) (over : Above t c d)
      (has : get (flat_entry c e).methods n ≡ Some method) (there : get (flat_entry d u).methods n ≡ Some other) where
    lower : Origin c e n method
    lower = origin c e n method has

    upper : Origin d u n other
    upper = origin d u n other there

    newest_overrides : lower.m ≡ n → IsTrue (same_signature method.signature other.signature)
    newest_overrides newest =
        let of_n : Plain n = subst Plain newest (method_plain t dollars c e e_is lower.m lower.method lower.there) in
        let p = newest_from d u (method_plain t dollars d u u_is) n other of_n there in
        let agrees = typed.methods c d n e u lower.method p.0.method e_is (subst (λ z. get e.methods z ≡ Some lower.method) newest lower.there) over u_is
        (subst (λ z. get u.methods z ≡ Some p.0.method) p.1 p.0.there) in
        let first = subst (λ s. IsTrue (same_signature s p.0.method.signature)) (its_signature c n e method lower) agrees in
        subst (λ s. IsTrue (same_signature method.signature s)) (its_signature d n u other p.0) first

    older_overrides : version_name c lower.m lower.number ≡ n → IsTrue (same_signature method.signature other.signature)
    older_overrides older =
        either (version_named d u upper.m upper.method upper.number upper.body n (ap (λ z. z.0) upper.is))
        (λ newest. absurd (false≢true (sym (subst Plain newest.0 (method_plain t dollars d u u_is upper.m upper.method upper.there)) ∙ ap has_dollar (sym older) ∙ version_has_dollar c lower.m lower.number)))
        (λ its. absurd (no_circle c d over
        (one_version c d lower.m upper.m lower.number upper.number (class_plain t dollars c e e_is) (class_plain t dollars d u u_is)
        (method_plain t dollars c e e_is lower.m lower.method lower.there) (method_plain t dollars d u u_is upper.m upper.method upper.there) (older ∙ sym its)).1))

    overrides : IsTrue (same_signature method.signature other.signature)
    overrides =
        either (version_named c e lower.m lower.method lower.number lower.body n (ap (λ z. z.0) lower.is)) (λ newest. newest_overrides newest.0) (λ older. older_overrides older)

  methods : (c d n : Text) (x upper : ClassEntry) (method other : MethodEntry) → get (flat t) c ≡ Some x → get x.methods n ≡ Some method
      → Above (flat t) c d → get (flat t) d ≡ Some upper → get upper.methods n ≡ Some other → IsTrue (same_signature method.signature other.signature)
  methods c d n x upper method other is has over upper_is there =
      let e = flat_from t c x is in
      let u = flat_from t d upper upper_is in
      overrides c d n e.0 u.0 method other e.1 u.1 (above_from t c d over) (subst (λ z. get z.methods n ≡ Some method) (sym e.2) has)
      (subst (λ z. get z.methods n ≡ Some other) (sym u.2) there)

  module _ (c : Text) (e : ClassEntry) (e_is : get t c ≡ Some e) (m : Text) (method : MethodEntry) (there : get e.methods m ≡ Some method) where
    -- where body k says `original`, version k - 1 is in the flat table
    answered : (k : ℕ) (body : Body) → slice_get method.bodies k ≡ Some body → (at : ℕ) → Contains (nodes body.value) (OriginalForm at)
        → MethodOf (flat t) c (version_name c m (k - 1)) (heading_of method.signature)
    answered zero body its at has =
        let oldest = plainly c m e method e_is there in
        let same_body : oldest.0 ≡ body = one_of oldest.0 body oldest.1 its in
        absurd (false≢true (sym oldest.2 ∙ any_from is_original (nodes oldest.0.value) (OriginalForm at) (subst (λ b. Contains (nodes b.value) (OriginalForm at)) (sym same_body) has) refl))
      where
        one_of : (a b : Body) → slice_get method.bodies 0 ≡ Some a → slice_get method.bodies 0 ≡ Some b → a ≡ b
        one_of a b p q = cc
    answered (suc k) body its at has =
        let within = slice_get_within method.bodies (suc k) body its in
        let found = older_there c e (method_plain t dollars c e e_is) m method k (class_plain t dollars c e e_is) there (omega arith) in
        let number : k ≡ suc k - 1 = omega arith in
        subst (λ i. MethodOf (flat t) c (version_name c m i) (heading_of method.signature)) number
        (record { owner = c; method = found.0; nearest = own (flat_there t c e e_is) found.1; has = ap heading_of found.2 })

    version_returns : (k : ℕ) (body : Body) → slice_get method.bodies k ≡ Some body → (b : Body) → Contains (version c m method (k, body)).1.bodies b
        → Returns (flat t) (home_of c (version c m method (k, body)).1 b) b.value
    version_returns k body its b within =
        let home = home_of c method body in
        let name = version_name c m (k - 1) in
        let kept_there = got_within method.bodies k body its in
        let returns = typed.bodies home body.value (kept m e_is there kept_there) in
        let types = types_there t is_table dollars home name body.value returns.kind returns.types (body_plain t dollars c e e_is m method body there kept_there) (answered k body its) in
        let new : Body = record { names = body.names; value = calling name body.value } in
        subst (λ z. Returns (flat t) (home_of c (version c m method (k, body)).1 z) z.value) (only_one new b within)
        (record { kind = returns.kind; types = types; below = below_there t returns.kind (class_kind home.heading.result) returns.below })

  bodies : (home : Home) (value : Expr) → IsBody (flat t) home value → Returns (flat t) home value
  bodies home value (kept {c = c} n {entry = x} {method = method} {body = b} is has within) =
      let e = flat_from t c x is in
      let o = from_method c n x method e.0 e.2 has in
      let all = version_returns c e.0 e.1 o.m o.method o.there o.number o.body o.its in
      subst (λ y. (z : Body) → Contains y.bodies z → Returns (flat t) (home_of c y z) z.value) (ap (λ y. y.1) o.is) all b within

  pub flat_well_typed : WellTyped (flat t)
  flat_well_typed =
      record { superclasses = superclasses; rooted = rooted; field_types = field_types; signatures = signatures; fields = fields; methods = methods; bodies = bodies }
