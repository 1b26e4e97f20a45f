-- What versions tell of a class, from what they tell of its superclass.
use Rattle.std.proofs.Common.{◌≡◌, ◌==◌, ◌⊎◌, inl, inr, ◌<◌, ◌^◌, ℕ, zero, suc, ◌∷◌, replicate, Bool, true, false, List, [], map, length, slice_get, set, get_or, Option, Some, None, is_some, refl, sym, ap, ◌∙◌, subst, arith}
use Rattle.std.specs.Prelude.{IsSome, IfSome, MatchOption, Decides, unwrap_or}
use Rattle.std.specs.Bool.{if◌then◌else◌}
use Rattle.std.specs.Option.{option_map}
use Rattle.std.specs.FinMap.{get}
use Rattle.std.proofs.lemmas.List.{length-set, length-replicate}
use Rattle.std.proofs.lemmas.Bool.{eqb-true, eqb-false, false≢true}
use Rattle.std.proofs.lemmas.Option.{slice_get-map, slice_get_within}
use Rattle.dj_names.specs.Texts.{Text, AreDistinct}
use Rattle.dj_calculus.specs.Tables as calculus
use Rattle.dj_calculus.specs.Subclasses.{HasSuperclass, Steps, stay, up, Above, Nearest, own, inherited}
use Rattle.dj_calculus.proofs.Chains.{one_superclass}
use Rattle.dj_calculus.proofs.Members.{same_some, not_both}
use Rattle.persistent_trie.specs.Versions.{says, Keeps}
use Rattle.persistent_trie.specs.declared.node.Node.{Node}
use Rattle.persistent_trie.specs.declared.trie.Root.{Root}
use Rattle.ifj_table.specs.Entries.{text_at, plain_class, plain_field, plain_method, fields_of, methods_of}
use Rattle.ifj_table.specs.Held.{IsClassEntry, IsFieldEntry, IsMethodEntry}
use Rattle.ifj_table.specs.Lookups.{IsClassNamed, IsFoundField, IsFoundMethod, HasNoField, HasNoMethod}
use Rattle.ifj_table.specs.Tables.{plain_table, table_names, table_classes, class_keys, name_text}
use Rattle.ifj_table.specs.declared.entry.ClassEntry.{ClassEntry}
use Rattle.ifj_table.specs.declared.entry.FieldEntry.{FieldEntry}
use Rattle.ifj_table.specs.declared.entry.MethodEntry.{MethodEntry}
use Rattle.ifj_table.specs.declared.lookups.Found.{Found}
use Rattle.ifj_table.specs.declared.table.Table.{Table}
use Rattle.ifj_table.proofs.EntryMaps.{got, entry_there, element_at}
use Rattle.ifj_table.proofs.TableLemmas.{all_at, class_at, element_is}
use Rattle.ifj_table.proofs.MemberLemmas.{field_key, method_key}
use Rattle.ifj_table.proofs.Inherited.{entry_held}
use Rattle.ifj_lineages.specs.Overlays.{field_numbers, method_numbers, IsOver, Overlays}
use Rattle.ifj_lineages.specs.Lineages.{TellsFields, TellsMethods, TellsAbove, TellsClashes, Tells, AreLineages}
use Rattle.ifj_lineages.specs.Overrides.{Turns, Clashes, TurnsAmong}
use Rattle.ifj_lineages.specs.declared.lineages.Lineage.{Lineage}
use Rattle.ifj_lineages.specs.declared.lineages.Lineages.{Lineages}
use Rattle.ifj_lineages.proofs.Owners.{named_there, one_number}
use Rattle.ifj_lineages.proofs.Clashing.{clashes_inherited, inherits_clashes, clashes_here, here_clashes}

-- ---- from the superclass

-- a member that neither the class nor its superclass has
none_below : {X : Type 0} (t : calculus.Table) (member : calculus.ClassEntry → Option X) (c : Text) (entry : calculus.ClassEntry) → get t c ≡ Some entry → member entry ≡ None
    → ((d : Text) (x : X) → ¬ (Nearest t member entry.parent.text d x)) → (d : Text) (x : X) → ¬ (Nearest t member c d x)
none_below t member c entry there lacks none d x (own {entry = e} here has) =
    let same : e ≡ entry = same_some e entry (get t c) here there in
    not_both x (member entry) lacks (ap member (sym same) ∙ has)
none_below t member c entry there lacks none d x (inherited {entry = e} here without rest) =
    let same : e ≡ entry = same_some e entry (get t c) here there in
    none d x (subst (λ (z : calculus.ClassEntry). Nearest t member z.parent.text d x) same rest)

-- no class is there
pub none_there : {X : Type 0} (t : calculus.Table) (member : calculus.ClassEntry → Option X) (c : Text) → get t c ≡ None → (d : Text) (x : X) → ¬ (Nearest t member c d x)
none_there t member c missing d x (own here has) = absurd cc
none_there t member c missing d x (inherited here without rest) = absurd cc

is_none : {X : Type 0} (o : Option X) → ¬ (IsSome o) → o ≡ None
is_none None not_some = refl
is_none (Some x) not_some = absurd (not_some refl)

module _ (t : Table) (distinct : AreDistinct (table_names t)) (class : ClassEntry) (is : IsClassNamed t (text_at (table_names t) class.spot) class) where
  there : get (plain_table t) (text_at t.names class.spot) ≡ Some (plain_class t.names t.exprs class)
  there = named_there t (text_at t.names class.spot) class is

  held : IsClassEntry t.names t.exprs class
  held = entry_held t (text_at t.names class.spot) class is

  -- ---- fields

  field_at : (place name : ℕ) → slice_get (field_numbers class.fields.items) place ≡ Some name → (f : FieldEntry) × (slice_get class.fields.items place ≡ Some f) × (f.spot.name.0 ≡ name)
  field_at place name here = by (slice_get class.fields.items place) refl (sym (slice_get-map (λ (f : FieldEntry). f.spot.name.0) class.fields.items place) ∙ here)
    where
      by : (o : Option FieldEntry) → slice_get class.fields.items place ≡ o → option_map (λ (f : FieldEntry). f.spot.name.0) o ≡ Some name
          → (f : FieldEntry) × (slice_get class.fields.items place ≡ Some f) × (f.spot.name.0 ≡ name)
      by None e told = absurd cc
      by (Some f) e told = (f, e, cc)

  pub fields_below : (old new : List (Node Found)) (parent root : Root) → TellsFields t old parent (text_at t.names class.parent)
      → Overlays (field_numbers class.fields.items) (length class.fields.items) class.spot.name (says old parent) (says new root) → TellsFields t new root (text_at t.names class.spot)
  fields_below old new parent root tells over name low small = by (over name small)
    where
      text : Text
      text = name_text t name

      own_field : (place : ℕ) → slice_get (field_numbers class.fields.items) place ≡ Some name → IsFoundField t (text_at t.names class.spot) (name_text t name) (record { owner = class.spot.name; place = place })
      own_field place here =
          let it = field_at place name here in
          let named : text_at t.names it.0.spot ≡ name_text t name = ap (λ n. unwrap_or (slice_get t.names n) []) it.2 in
          record {
            known = held.spot;
            owner = class;
            is_owner = is;
            entry = it.0;
            stands = it.1;
            named = named;
            nearest = own there (subst (λ k. get (fields_of t.names class.fields.items) k ≡ Some (plain_field t.names it.0)) named (got (field_key t.names) (plain_field t.names) class.fields.items place it.0 held.rising_fields it.1));
          }

      lacks : ((place : ℕ) → place < length class.fields.items → ¬ (slice_get (field_numbers class.fields.items) place ≡ Some name)) → get (fields_of t.names class.fields.items) (name_text t name) ≡ None
      lacks none = is_none (get (fields_of t.names class.fields.items) (name_text t name)) (λ some. no_such (entry_there (field_key t.names) (plain_field t.names) class.fields.items (name_text t name) some))
        where
          no_such : (at : ℕ) × (slice_get (map (field_key t.names) class.fields.items) at ≡ Some (name_text t name)) → ⊥
          no_such (at, here) =
              let it = element_at (field_key t.names) class.fields.items at (name_text t name) here in
              let known = (all_at (IsFieldEntry t.names) class.fields.items at it.0 held.fields it.1).spot in
              let same = one_number t.names it.0.spot.name.0 name distinct known low it.2 in
              none at (slice_get_within class.fields.items at it.0 it.1)
              (slice_get-map (λ (f : FieldEntry). f.spot.name.0) class.fields.items at ∙ ap (option_map (λ (f : FieldEntry). f.spot.name.0)) it.1 ∙ ap Some same)

      from_parent : get (fields_of t.names class.fields.items) (name_text t name) ≡ None → (o : Option Found)
          → MatchOption o (HasNoField t (text_at t.names class.parent) (name_text t name)) (IsFoundField t (text_at t.names class.parent) (name_text t name))
          → MatchOption o (HasNoField t (text_at t.names class.spot) (name_text t name)) (IsFoundField t (text_at t.names class.spot) (name_text t name))
      from_parent without None none = none_below (plain_table t) (λ entry. get entry.fields (name_text t name)) (text_at t.names class.spot) (plain_class t.names t.exprs class) there without none
      from_parent without (Some found) told =
          record {
            known = told.known;
            owner = told.owner;
            is_owner = told.is_owner;
            entry = told.entry;
            stands = told.stands;
            named = told.named;
            nearest = inherited there without told.nearest;
          }

      by : IsOver (field_numbers class.fields.items) (length class.fields.items) class.spot.name name (says old parent name) (says new root name)
          → MatchOption (says new root name) (HasNoField t (text_at t.names class.spot) (name_text t name)) (IsFoundField t (text_at t.names class.spot) (name_text t name))
      by (inl (place, less, here, told)) = rw told (own_field place here)
      by (inr (none, same)) = rw same (from_parent (lacks none) (says old parent name) (tells name low small))

  -- ---- methods

  method_at : (place name : ℕ) → slice_get (method_numbers class.methods.items) place ≡ Some name → (m : MethodEntry) × (slice_get class.methods.items place ≡ Some m) × (m.spot.name.0 ≡ name)
  method_at place name here = by (slice_get class.methods.items place) refl (sym (slice_get-map (λ (m : MethodEntry). m.spot.name.0) class.methods.items place) ∙ here)
    where
      by : (o : Option MethodEntry) → slice_get class.methods.items place ≡ o → option_map (λ (m : MethodEntry). m.spot.name.0) o ≡ Some name
          → (m : MethodEntry) × (slice_get class.methods.items place ≡ Some m) × (m.spot.name.0 ≡ name)
      by None e told = absurd cc
      by (Some m) e told = (m, e, cc)

  pub methods_below : (old new : List (Node Found)) (parent root : Root) → TellsMethods t old parent (text_at t.names class.parent)
      → Overlays (method_numbers class.methods.items) (length class.methods.items) class.spot.name (says old parent) (says new root) → TellsMethods t new root (text_at t.names class.spot)
  methods_below old new parent root tells over name low small = by (over name small)
    where
      text : Text
      text = name_text t name

      own_method : (place : ℕ) → slice_get (method_numbers class.methods.items) place ≡ Some name → IsFoundMethod t (text_at t.names class.spot) (name_text t name) (record { owner = class.spot.name; place = place })
      own_method place here =
          let it = method_at place name here in
          let named : text_at t.names it.0.spot ≡ name_text t name = ap (λ n. unwrap_or (slice_get t.names n) []) it.2 in
          record {
            known = held.spot;
            owner = class;
            is_owner = is;
            entry = it.0;
            stands = it.1;
            named = named;
            nearest = own there (subst (λ k. get (methods_of t.names t.exprs class.methods.items) k ≡ Some (plain_method t.names t.exprs it.0)) named (got (method_key t.names) (plain_method t.names t.exprs) class.methods.items place it.0 held.rising_methods it.1));
          }

      lacks : ((place : ℕ) → place < length class.methods.items → ¬ (slice_get (method_numbers class.methods.items) place ≡ Some name)) → get (methods_of t.names t.exprs class.methods.items) (name_text t name) ≡ None
      lacks none = is_none (get (methods_of t.names t.exprs class.methods.items) (name_text t name)) (λ some. no_such (entry_there (method_key t.names) (plain_method t.names t.exprs) class.methods.items (name_text t name) some))
        where
          no_such : (at : ℕ) × (slice_get (map (method_key t.names) class.methods.items) at ≡ Some (name_text t name)) → ⊥
          no_such (at, here) =
              let it = element_at (method_key t.names) class.methods.items at (name_text t name) here in
              let known = (all_at (IsMethodEntry t.names t.exprs) class.methods.items at it.0 held.methods it.1).spot in
              let same = one_number t.names it.0.spot.name.0 name distinct known low it.2 in
              none at (slice_get_within class.methods.items at it.0 it.1)
              (slice_get-map (λ (m : MethodEntry). m.spot.name.0) class.methods.items at ∙ ap (option_map (λ (m : MethodEntry). m.spot.name.0)) it.1 ∙ ap Some same)

      from_parent : get (methods_of t.names t.exprs class.methods.items) (name_text t name) ≡ None → (o : Option Found)
          → MatchOption o (HasNoMethod t (text_at t.names class.parent) (name_text t name)) (IsFoundMethod t (text_at t.names class.parent) (name_text t name))
          → MatchOption o (HasNoMethod t (text_at t.names class.spot) (name_text t name)) (IsFoundMethod t (text_at t.names class.spot) (name_text t name))
      from_parent without None none = none_below (plain_table t) (λ entry. get entry.methods (name_text t name)) (text_at t.names class.spot) (plain_class t.names t.exprs class) there without none
      from_parent without (Some found) told =
          record {
            known = told.known;
            owner = told.owner;
            is_owner = told.is_owner;
            entry = told.entry;
            stands = told.stands;
            named = told.named;
            nearest = inherited there without told.nearest;
          }

      by : IsOver (method_numbers class.methods.items) (length class.methods.items) class.spot.name name (says old parent name) (says new root name)
          → MatchOption (says new root name) (HasNoMethod t (text_at t.names class.spot) (name_text t name)) (IsFoundMethod t (text_at t.names class.spot) (name_text t name))
      by (inl (place, less, here, told)) = rw told (own_method place here)
      by (inr (none, same)) = rw same (from_parent (lacks none) (says old parent name) (tells name low small))

  -- ---- superclasses

  pub above_below : (old new : List (Node (Unit {0}))) (parent root : Root) → class.parent.name.0 < length t.names → TellsAbove t old parent (text_at t.names class.parent)
      → ((name : ℕ) → name < 2 ^ 32 → says new root name ≡ (if name == class.parent.name.0 then Some tt else says old parent name)) → TellsAbove t new root (text_at t.names class.spot)
  above_below old new parent root known tells changed name low small = by (name == class.parent.name.0) refl
    where
      superclass : HasSuperclass (plain_table t) (text_at t.names class.spot) (text_at t.names class.parent)
      superclass = record { entry = plain_class t.names t.exprs class; there = there; parent = refl }

      above : Above (plain_table t) (text_at t.names class.parent) (name_text t name) → Above (plain_table t) (text_at t.names class.spot) (name_text t name)
      above (d, has, steps) = (text_at t.names class.parent, superclass, up has steps)

      from_above : ◌≡◌ {A = Bool} (name == class.parent.name.0) false → Above (plain_table t) (text_at t.names class.spot) (name_text t name) → Above (plain_table t) (text_at t.names class.parent) (name_text t name)
      from_above other (d, has, steps) = at (subst (λ x. Steps (plain_table t) x (name_text t name)) (one_superclass (plain_table t) (text_at t.names class.spot) d (text_at t.names class.parent) has superclass) steps) refl
        where
          at : {e : Text} → Steps (plain_table t) (text_at t.names class.parent) e → e ≡ name_text t name → Above (plain_table t) (text_at t.names class.parent) (name_text t name)
          at stay same = absurd (eqb-false name class.parent.name.0 other (sym (one_number t.names class.parent.name.0 name distinct known low same)))
          at (up {d = x} first rest) same = (x, first, subst (λ e. Steps (plain_table t) x e) same rest)

      by : (b : Bool) → ◌≡◌ {A = Bool} (name == class.parent.name.0) b → Decides (is_some (says new root name)) (Above (plain_table t) (text_at t.names class.spot) (name_text t name))
      by true is_parent =
          let told : says new root name ≡ Some tt = changed name small ∙ ap (λ b. if b then Some tt else says old parent name) is_parent in
          let one : name ≡ class.parent.name.0 = eqb-true name class.parent.name.0 is_parent in (
            λ some. (text_at t.names class.parent, superclass, subst (λ n. Steps (plain_table t) (text_at t.names class.parent) (name_text t n)) (sym one) stay),
            λ above. ap is_some told,
          )
      by false other =
          let told : says new root name ≡ says old parent name = changed name small ∙ ap (λ b. if b then Some tt else says old parent name) other in
          let before = tells name low small in (
            λ some. above (before.0 (sym (ap is_some told) ∙ some)),
            λ upper. ap is_some told ∙ before.1 (from_above other upper),
          )

  -- ---- signatures

  pub clashes_below : (old new : List (Node (Unit {0}))) (parent root : Root) → TellsClashes t old parent (text_at t.names class.parent)
      → ((name : ℕ) → name < 2 ^ 32 → Decides (is_some (says new root name)) (IsSome (says old parent name) ⊎ TurnsAmong t class (length class.methods.items) name))
      → TellsClashes t new root (text_at t.names class.spot)
  clashes_below old new parent root tells over name low small = by (get (methods_of t.names t.exprs class.methods.items) (name_text t name)) refl
    where
      before : Decides (is_some (says old parent name)) (Clashes (plain_table t) (text_at t.names class.parent) (name_text t name))
      before = tells name low small

      now : Decides (is_some (says new root name)) (IsSome (says old parent name) ⊎ TurnsAmong t class (length class.methods.items) name)
      now = over name small

      its : (turns : TurnsAmong t class (length class.methods.items) name)
          → (get (methods_of t.names t.exprs class.methods.items) (name_text t name) ≡ Some (plain_method t.names t.exprs turns.method)) × (text_at t.names turns.method.spot ≡ name_text t name)
      its turns =
          let named : text_at t.names turns.method.spot ≡ name_text t name = ap (λ n. unwrap_or (slice_get t.names n) []) turns.named in (
            subst (λ k. get (methods_of t.names t.exprs class.methods.items) k ≡ Some (plain_method t.names t.exprs turns.method)) named
                (got (method_key t.names) (plain_method t.names t.exprs) class.methods.items turns.place turns.method held.rising_methods turns.stands),
            named,
          )

      by : (o : Option calculus.MethodEntry) → get (methods_of t.names t.exprs class.methods.items) (name_text t name) ≡ o
          → Decides (is_some (says new root name)) (Clashes (plain_table t) (text_at t.names class.spot) (name_text t name))
      by None lacks = (λ some. said (now.0 some), λ clashes. now.1 (inl (before.1 (inherits_clashes (plain_table t) _ (name_text t name) (plain_class t.names t.exprs class) there lacks clashes))))
        where
          said : IsSome (says old parent name) ⊎ TurnsAmong t class (length class.methods.items) name → Clashes (plain_table t) (text_at t.names class.spot) (name_text t name)
          said (inl some) = clashes_inherited (plain_table t) _ (name_text t name) (plain_class t.names t.exprs class) there lacks (before.0 some)
          said (inr turns) = absurd (not_both _ (get (methods_of t.names t.exprs class.methods.items) (name_text t name)) lacks (its turns).0)
      by (Some x) has = (λ some. clashes_here (plain_table t) _ (name_text t name) (plain_class t.names t.exprs class) there x has (said (now.0 some)), λ clashes. now.1 (says_so (here_clashes (plain_table t) _ (name_text t name) (plain_class t.names t.exprs class) there x has clashes)))
        where
          said : IsSome (says old parent name) ⊎ TurnsAmong t class (length class.methods.items) name → Turns (plain_table t) (text_at t.names class.parent) (name_text t name) x.signature ⊎ Clashes (plain_table t) (text_at t.names class.parent) (name_text t name)
          said (inl some) = inr (before.0 some)
          said (inr turns) =
              let it = its turns in
              let same = same_some (plain_method t.names t.exprs turns.method) x (get (methods_of t.names t.exprs class.methods.items) (name_text t name)) it.0 has in
              inl (subst (λ (z : calculus.MethodEntry). Turns (plain_table t) (text_at t.names class.parent) (name_text t name) z.signature) same
              (subst (λ k. Turns (plain_table t) (text_at t.names class.parent) k (plain_method t.names t.exprs turns.method).signature) it.1 turns.turns))

          says_so : Turns (plain_table t) (text_at t.names class.parent) (name_text t name) x.signature ⊎ Clashes (plain_table t) (text_at t.names class.parent) (name_text t name)
              → IsSome (says old parent name) ⊎ TurnsAmong t class (length class.methods.items) name
          says_so (inr clashes) = inl (before.1 clashes)
          says_so (inl turns) =
              let at = entry_there (method_key t.names) (plain_method t.names t.exprs) class.methods.items (name_text t name) (ap is_some has) in
              let it = element_at (method_key t.names) class.methods.items at.0 (name_text t name) at.1 in
              let known = (all_at (IsMethodEntry t.names t.exprs) class.methods.items at.0 it.0 held.methods it.1).spot in
              let reads : get (methods_of t.names t.exprs class.methods.items) (name_text t name) ≡ Some (plain_method t.names t.exprs it.0) =
              subst (λ k. get (methods_of t.names t.exprs class.methods.items) k ≡ Some (plain_method t.names t.exprs it.0)) it.2
              (got (method_key t.names) (plain_method t.names t.exprs) class.methods.items at.0 it.0 held.rising_methods it.1) in
              let same = same_some x (plain_method t.names t.exprs it.0) (get (methods_of t.names t.exprs class.methods.items) (name_text t name)) has reads in
              inr (record {
                place = at.0;
                before = slice_get_within class.methods.items at.0 it.0 it.1;
                method = it.0;
                stands = it.1;
                named = one_number t.names it.0.spot.name.0 name distinct known low it.2;
                turns = subst (λ k. Turns (plain_table t) (text_at t.names class.parent) k (plain_method t.names t.exprs it.0).signature) (sym it.2)
                    (subst (λ (z : calculus.MethodEntry). Turns (plain_table t) (text_at t.names class.parent) (name_text t name) z.signature) same turns);
              })

-- ---- a name of no class

module _ (t : Table) (class : Text) (missing : get (plain_table t) class ≡ None) where
  pub no_fields : (nodes : List (Node Found)) (root : Root) → ((key : ℕ) → says nodes root key ≡ None) → TellsFields t nodes root class
  no_fields nodes root none name low small = rw (none name) (none_there (plain_table t) (λ entry. get entry.fields (name_text t name)) class missing)

  pub no_methods : (nodes : List (Node Found)) (root : Root) → ((key : ℕ) → says nodes root key ≡ None) → TellsMethods t nodes root class
  no_methods nodes root none name low small = rw (none name) (none_there (plain_table t) (λ entry. get entry.methods (name_text t name)) class missing)

  pub none_above : (nodes : List (Node (Unit {0}))) (root : Root) → ((key : ℕ) → says nodes root key ≡ None) → TellsAbove t nodes root class
  none_above nodes root none name low small = (
    λ some. absurd (false≢true (sym (ap is_some (none name)) ∙ some)),
    λ above. absurd (no_step above),
  )
    where
      no_step : {e : Text} → Above (plain_table t) class e → ⊥
      no_step (d, has, steps) = not_both has.entry (get (plain_table t) class) missing has.there

  pub no_clashes : (nodes : List (Node (Unit {0}))) (root : Root) → ((key : ℕ) → says nodes root key ≡ None) → TellsClashes t nodes root class
  no_clashes nodes root none name low small = (
    λ some. absurd (false≢true (sym (ap is_some (none name)) ∙ some)),
    λ clashes. absurd (none_there (plain_table t) (λ entry. get entry.methods (name_text t name)) class missing clashes.owner clashes.method clashes.nearest),
  )

-- ---- later versions

pub record Keeping (all later : Lineages) : Type 0 where
  pub fields : Keeps all.fields later.fields
  pub methods : Keeps all.methods later.methods
  pub above : Keeps all.above later.above
  pub clashes : Keeps all.clashes later.clashes

pub tells_later : (t : Table) (all later : Lineages) (class : Text) (lineage : Lineage) → Keeping all later → Tells t all class lineage → Tells t later class lineage
tells_later t all later class lineage keeps tells =
    record {
      has_fields = keeps.fields.there lineage.fields tells.has_fields;
      fields = λ name low small. rw (keeps.fields.same lineage.fields tells.has_fields name) (tells.fields name low small);
      has_methods = keeps.methods.there lineage.methods tells.has_methods;
      methods = λ name low small. rw (keeps.methods.same lineage.methods tells.has_methods name) (tells.methods name low small);
      has_above = keeps.above.there lineage.above tells.has_above;
      above = λ name low small. rw (keeps.above.same lineage.above tells.has_above name) (tells.above name low small);
      has_clashes = keeps.clashes.there lineage.clashes tells.has_clashes;
      clashes = λ name low small. rw (keeps.clashes.same lineage.clashes tells.has_clashes name) (tells.clashes name low small);
    }

pub lineages_later : (t : Table) (all later : Lineages) → Keeping all later → later.lineages.items ≡ all.lineages.items → AreLineages t all → AreLineages t later
lineages_later t all later keeps same are =
    record {
      count = ap length same ∙ are.count;
      tells = λ number class lineage stands here. tells_later t all later _ lineage keeps (are.tells number class lineage stands (ap (λ xs. slice_get xs number) (sym same) ∙ here));
    }

put_or_before : {X : Type 0} (xs : List X) (i n : ℕ) (y z : X) → slice_get (set xs i y) n ≡ Some z → ((n ≡ i) × (y ≡ z)) ⊎ (slice_get xs n ≡ Some z)
put_or_before [] zero n y z here = inr here
put_or_before [] (suc i) n y z here = inr here
put_or_before (x ∷ xs) zero zero y z here = inl (refl, cc)
put_or_before (x ∷ xs) zero (suc n) y z here = inr here
put_or_before (x ∷ xs) (suc i) zero y z here = inr here
put_or_before (x ∷ xs) (suc i) (suc n) y z here = by (put_or_before xs i n y z here)
  where
    by : ((n ≡ i) × (y ≡ z)) ⊎ (slice_get xs n ≡ Some z) → ((suc n ≡ suc i) × (y ≡ z)) ⊎ (slice_get xs n ≡ Some z)
    by (inl both) = inl (ap suc both.0, both.1)
    by (inr before) = inr before

-- one lineage more
pub lineage_put : (t : Table) (all later : Lineages) (number : ℕ) (class : ClassEntry) (lineage : Lineage) → Keeping all later → later.lineages.items ≡ set all.lineages.items number (Some lineage)
    → slice_get (table_classes t) number ≡ Some class → Tells t all (text_at (table_names t) class.spot) lineage → AreLineages t all → AreLineages t later
lineage_put t all later number class lineage keeps put stands tells are =
    record {
      count = ap length put ∙ length-set all.lineages.items number (Some lineage) ∙ are.count;
      tells = λ n c l here at. by n c l here (put_or_before all.lineages.items number n (Some lineage) (Some l) (ap (λ xs. slice_get xs n) (sym put) ∙ at));
    }
  where
    by : (n : ℕ) (c : ClassEntry) (l : Lineage) → slice_get (table_classes t) n ≡ Some c → ((n ≡ number) × (◌≡◌ {A = Option Lineage} (Some lineage) (Some l))) ⊎ (slice_get all.lineages.items n ≡ Some (Some l))
        → Tells t later (text_at (table_names t) c.spot) l
    by n c l here (inl (same, one)) =
        let its : class ≡ c = same_some class c (slice_get (table_classes t) n) (ap (slice_get (table_classes t)) same ∙ stands) here in
        let it : lineage ≡ l = cc in
        subst (λ (x : ClassEntry). Tells t later (text_at (table_names t) x.spot) l) its (subst (Tells t later (text_at (table_names t) class.spot)) it (tells_later t all later _ lineage keeps tells))
    by n c l here (inr before) = tells_later t all later _ l keeps (are.tells n c l here before)

-- no lineage is known yet
pub none_known : (t : Table) (all : Lineages) (count : ℕ) → count ≡ length (table_classes t) → all.lineages.items ≡ replicate count None → AreLineages t all
none_known t all count is none =
    record {
      count = ap length none ∙ length-replicate count None ∙ is;
      tells = λ number class lineage stands here. absurd (no_lineage count number lineage (ap (λ xs. slice_get xs number) (sym none) ∙ here));
    }
  where
    no_lineage : (count n : ℕ) (l : Lineage) → slice_get (replicate {A = Option Lineage} count None) n ≡ Some (Some l) → ⊥
    no_lineage zero n l here = absurd cc
    no_lineage (suc count) zero l here = absurd cc
    no_lineage (suc count) (suc n) l here = no_lineage count n l here

-- the lineage of a class of the table by its name
pub lineage_at : (t : Table) (all : Lineages) (number : ℕ) (name : Text) (found : Option Lineage) → AreLineages t all → slice_get (class_keys t) number ≡ Some name
    → found ≡ get_or all.lineages.items number found → IfSome found (Tells t all name)
lineage_at t all number name None are here is = tt
lineage_at t all number name (Some lineage) are here is =
    let it = class_at t.names t.exprs t.classes.items t.held number name here in
    let low : number < length all.lineages.items = omega (arith, slice_get_within t.classes.items number it.0 it.1, are.count) in
    subst (λ n. Tells t all n lineage) it.2 (are.tells number it.0 lineage it.1 (element_is all.lineages.items number (Some lineage) low is))
