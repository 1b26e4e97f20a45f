-- Methods of one name with more than one signature, from the superclass to the class.
use Rattle.std.proofs.Common.{◌≡◌, ◌⊎◌, inl, inr, Bool, true, false, ◌&&◌, List, [], ◌∷◌, Some, None, refl, sym, ap, ◌∙◌, subst}
use Rattle.std.specs.Prelude.{IsFalse}
use Rattle.std.specs.Str.{bytes_eq}
use Rattle.std.specs.FinMap.{get}
use Rattle.std.proofs.lemmas.Slice.Eq.{bytes_eq-Decides}
use Rattle.std.proofs.lemmas.Bool.{false≢true}
use Rattle.dj_names.specs.Texts.{Text}
use Rattle.dj_tree.specs.Trees.{Spot}
use Rattle.dj_calculus.specs.Entries.{same_types, same_signature}
use Rattle.dj_calculus.specs.Subclasses.{Steps, stay, up, own, inherited, NearestMethod}
use Rattle.dj_calculus.specs.Tables.{Signature, MethodEntry, ClassEntry, Table}
use Rattle.dj_calculus.proofs.Members.{same_some, not_both}
use Rattle.ifj_lineages.specs.Overrides.{Differs, Turns, Clashes}
use Rattle.ifj_lineages.proofs.Overriding.{has_nearest, nearest_reached}

-- ---- signatures that agree

both : (a b : Bool) → (a && b) ≡ true → (a ≡ true) × (b ≡ true)
both true true is = (refl, refl)
both true false is = absurd (false≢true is)
both false b is = absurd (false≢true is)

types_same : (xs : List Spot) → same_types xs xs ≡ true
types_same [] = refl
types_same (x ∷ xs) = ap (λ b. b && same_types xs xs) ((bytes_eq-Decides x.text x.text).1 refl) ∙ types_same xs

pub same_itself : (s : Signature) → same_signature s s ≡ true
same_itself s = ap (λ b. b && bytes_eq s.result.text s.result.text) (types_same s.parameters) ∙ (bytes_eq-Decides s.result.text s.result.text).1 refl

types_alike : (xs ys zs : List Spot) → same_types xs ys ≡ true → same_types xs zs ≡ same_types ys zs
types_alike [] [] zs is = refl
types_alike [] (y ∷ ys) zs is = absurd (false≢true is)
types_alike (x ∷ xs) [] zs is = absurd (false≢true is)
types_alike (x ∷ xs) (y ∷ ys) [] is = refl
types_alike (x ∷ xs) (y ∷ ys) (z ∷ zs) is =
    let parts = both (bytes_eq x.text y.text) (same_types xs ys) is in
    ap (λ b. bytes_eq x.text z.text && b) (types_alike xs ys zs parts.1)
    ∙ ap (λ text. bytes_eq text z.text && same_types ys zs) ((bytes_eq-Decides x.text y.text).0 parts.0)

-- signatures that agree have the same answers
pub alike : (s x y : Signature) → same_signature s x ≡ true → same_signature s y ≡ same_signature x y
alike s x y is =
    let parts = both (same_types s.parameters x.parameters) (bytes_eq s.result.text x.result.text) is in
    ap (λ b. b && bytes_eq s.result.text y.result.text) (types_alike s.parameters x.parameters y.parameters parts.0)
    ∙ ap (λ text. same_types x.parameters y.parameters && bytes_eq text y.result.text) ((bytes_eq-Decides s.result.text x.result.text).0 parts.1)

-- ---- from one signature to another

module _ (t : Table) (c m : Text) where
  pub differs_alike : (s x : Signature) → same_signature s x ≡ true → Differs t c m x → Differs t c m s
  differs_alike s x is differs =
      record {
        upper = differs.upper;
        entry = differs.entry;
        other = differs.other;
        steps = differs.steps;
        there = differs.there;
        its = differs.its;
        differs = alike s x differs.other.signature is ∙ differs.differs;
      }

  differs_back : (s x : Signature) → same_signature s x ≡ true → Differs t c m s → Differs t c m x
  differs_back s x is differs =
      record {
        upper = differs.upper;
        entry = differs.entry;
        other = differs.other;
        steps = differs.steps;
        there = differs.there;
        its = differs.its;
        differs = sym (alike s x differs.other.signature is) ∙ differs.differs;
      }

  pub turns_differs : (s : Signature) → Turns t c m s → Differs t c m s
  turns_differs s turns =
      let at = nearest_reached t (λ entry. get entry.methods m) c turns.owner turns.method turns.nearest in
      record { upper = turns.owner; entry = at.entry; other = turns.method; steps = at.steps; there = at.there; its = at.has; differs = turns.differs }

  -- one differs from a method above where another does, or the two differ
  pub clashes_differs : (s : Signature) → Clashes t c m → Differs t c m s
  clashes_differs s clashes = by (same_signature s clashes.method.signature) refl
    where
      by : (b : Bool) → same_signature s clashes.method.signature ≡ b → Differs t c m s
      by true is = differs_alike s clashes.method.signature is clashes.differs
      by false is = turns_differs s (record { owner = clashes.owner; method = clashes.method; nearest = clashes.nearest; differs = is })

  pub differs_cases : (s : Signature) → Differs t c m s → Turns t c m s ⊎ Clashes t c m
  differs_cases s differs =
      let near = has_nearest t (λ entry. get entry.methods m) c differs.upper differs.entry differs.other differs.steps differs.there differs.its in
      by near.0 near.1.0 near.1.1 (same_signature s near.1.0.signature) refl
    where
      by : (owner : Text) (x : MethodEntry) → NearestMethod t c m owner x → (b : Bool) → same_signature s x.signature ≡ b → Turns t c m s ⊎ Clashes t c m
      by owner x nearest true is = inr (record { owner = owner; method = x; nearest = nearest; differs = differs_back s x.signature is differs })
      by owner x nearest false is = inl (record { owner = owner; method = x; nearest = nearest; differs = is })

-- ---- from the superclass to the class

module _ (t : Table) (c m : Text) (entry : ClassEntry) (there : get t c ≡ Some entry) where
  goes_up : (s : Signature) → Differs t entry.parent.text m s → Differs t c m s
  goes_up s differs =
      record {
        upper = differs.upper;
        entry = differs.entry;
        other = differs.other;
        steps = up (record { entry = entry; there = there; parent = refl }) differs.steps;
        there = differs.there;
        its = differs.its;
        differs = differs.differs;
      }

  here_or_above : (s : Signature) → Differs t c m s → ((x : MethodEntry) × (get entry.methods m ≡ Some x) × IsFalse (same_signature s x.signature)) ⊎ Differs t entry.parent.text m s
  here_or_above s differs = by differs.upper differs.steps differs.there
    where
      by : (upper : Text) → Steps t c upper → get t upper ≡ Some differs.entry → ((x : MethodEntry) × (get entry.methods m ≡ Some x) × IsFalse (same_signature s x.signature)) ⊎ Differs t entry.parent.text m s
      by upper stay at =
          let same : differs.entry ≡ entry = same_some differs.entry entry (get t c) at there in
          inl (differs.other, ap (λ (e : ClassEntry). get e.methods m) (sym same) ∙ differs.its, differs.differs)
      by upper (up {d = d} first rest) at =
          let same : first.entry ≡ entry = same_some first.entry entry (get t c) first.there there in
          let parent : d ≡ entry.parent.text = sym first.parent ∙ ap (λ (e : ClassEntry). e.parent.text) same in
          inr (record {
            upper = upper;
            entry = differs.entry;
            other = differs.other;
            steps = subst (λ x. Steps t x upper) parent rest;
            there = at;
            its = differs.its;
            differs = differs.differs;
          })

  -- a class that lacks the method
  module _ (lacks : get entry.methods m ≡ None) where
    pub clashes_inherited : Clashes t entry.parent.text m → Clashes t c m
    clashes_inherited clashes =
        record { owner = clashes.owner; method = clashes.method; nearest = inherited there lacks clashes.nearest; differs = goes_up clashes.method.signature clashes.differs }

    pub inherits_clashes : Clashes t c m → Clashes t entry.parent.text m
    inherits_clashes clashes = record { owner = clashes.owner; method = clashes.method; nearest = near clashes.nearest; differs = above (here_or_above clashes.method.signature clashes.differs) }
      where
        near : {owner : Text} {y : MethodEntry} → NearestMethod t c m owner y → NearestMethod t entry.parent.text m owner y
        near {y = y} (own {entry = e} here has) = absurd (not_both y (get entry.methods m) lacks (ap (λ (x : ClassEntry). get x.methods m) (sym (same_some e entry (get t c) here there)) ∙ has))
        near {owner = owner} {y = y} (inherited {entry = e} here without rest) =
            subst (λ (x : ClassEntry). NearestMethod t x.parent.text m owner y) (same_some e entry (get t c) here there) rest

        above : ((x : MethodEntry) × (get entry.methods m ≡ Some x) × IsFalse (same_signature clashes.method.signature x.signature)) ⊎ Differs t entry.parent.text m clashes.method.signature
            → Differs t entry.parent.text m clashes.method.signature
        above (inl (x, is, differs)) = absurd (not_both x (get entry.methods m) lacks is)
        above (inr differs) = differs

  -- a class that has the method
  module _ (x : MethodEntry) (has : get entry.methods m ≡ Some x) where
    pub clashes_here : Turns t entry.parent.text m x.signature ⊎ Clashes t entry.parent.text m → Clashes t c m
    clashes_here (inl turns) = record { owner = c; method = x; nearest = own there has; differs = goes_up x.signature (turns_differs t entry.parent.text m x.signature turns) }
    clashes_here (inr clashes) = record { owner = c; method = x; nearest = own there has; differs = goes_up x.signature (clashes_differs t entry.parent.text m x.signature clashes) }

    pub here_clashes : Clashes t c m → Turns t entry.parent.text m x.signature ⊎ Clashes t entry.parent.text m
    here_clashes clashes = by (here_or_above clashes.method.signature clashes.differs)
      where
        near : {owner : Text} {y : MethodEntry} → NearestMethod t c m owner y → y ≡ x
        near {y = y} (own {entry = e} here its) = same_some y x (get entry.methods m) (ap (λ (z : ClassEntry). get z.methods m) (sym (same_some e entry (get t c) here there)) ∙ its) has
        near (inherited {entry = e} here without rest) =
            absurd (not_both x (get entry.methods m) (ap (λ (z : ClassEntry). get z.methods m) (sym (same_some e entry (get t c) here there)) ∙ without) has)

        same : clashes.method ≡ x
        same = near clashes.nearest

        by : ((y : MethodEntry) × (get entry.methods m ≡ Some y) × IsFalse (same_signature clashes.method.signature y.signature)) ⊎ Differs t entry.parent.text m clashes.method.signature
            → Turns t entry.parent.text m x.signature ⊎ Clashes t entry.parent.text m
        by (inl (y, is, differs)) =
            let it : y ≡ x = same_some y x (get entry.methods m) is has in
            absurd (false≢true (sym differs ∙ ap (λ (z : MethodEntry). same_signature z.signature y.signature) (same ∙ sym it) ∙ same_itself y.signature))
        by (inr differs) = differs_cases t entry.parent.text m x.signature (subst (λ (z : MethodEntry). Differs t entry.parent.text m z.signature) same differs)
