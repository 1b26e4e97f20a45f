use Rattle.std.proofs.Common.{rules, ◌≡◌, List, is_some, slice_get, refl, sym, ap, ◌∙◌, subst}
use Rattle.std.specs.Prelude.{unwrap_or, []}
use Rattle.std.proofs.lemmas.Bool.{false≢true}
use Rattle.std.proofs.lemmas.Slice.Eq.{bytes_eq-Decides}
use Rattle.dj_names.specs.Texts.{Text}
use Rattle.dj_calculus.specs.Subclasses.{object, class_kind, Below, same, below_object, above}
use Rattle.dj_calculus.proofs.Members.{either}
use Rattle.ifj_table.specs.Tables.{plain_table, name_text}
use Rattle.ifj_table.proofs.Superclasses.{below_cases}
use Rattle.persistent_trie.specs.Versions.{says}
use Rattle.ifj_lineages.proofs.lineages.Lineages.is_subclass.Goals as goal

pub returns-then-eq : goal.returns-then-eq
returns-then-eq c =
    let t = c.args.table.now in
    let lower : name_text t c.args.lower.0 ≡ c.text.result.now = ap (λ o. unwrap_or o []) (ap (λ (ns : List Text). slice_get ns c.args.lower.0) (sym c.names-2.ensures) ∙ c.text.ensures) in
    let upper : name_text t c.args.upper.0 ≡ c.text-text.result.now = ap (λ o. unwrap_or o []) (ap (λ (ns : List Text). slice_get ns c.args.upper.0) (sym c.names.ensures) ∙ c.text-text.ensures) in
    let equal = lower ∙ (bytes_eq-Decides c.text.result.now c.text-text.result.now).0 (sym c.if-eq.ensures) ∙ sym upper in
    (λ e. subst (λ d. Below (plain_table t) (class_kind (name_text t c.args.lower.0)) (class_kind d)) equal (same (class_kind (name_text t c.args.lower.0))), λ below. refl)

pub returns-then-eq-2 : goal.returns-then-eq-2
returns-then-eq-2 c =
    let t = c.args.table.now in
    let upper : name_text t c.args.upper.0 ≡ c.text-text.result.now = ap (λ o. unwrap_or o []) (ap (λ (ns : List Text). slice_get ns c.args.upper.0) (sym c.names.ensures) ∙ c.text-text.ensures) in
    let equal = upper ∙ (bytes_eq-Decides c.text-text.result.now object).0 (sym c.if-eq-2.ensures) in
    (λ e. subst (λ d. Below (plain_table t) (class_kind (name_text t c.args.lower.0)) (class_kind d)) (sym equal) (below_object (class_kind (name_text t c.args.lower.0))), λ below. refl)

pub returns-in-Some : goal.returns-in-Some
returns-in-Some c =
    let t = c.args.table.now in
    let lower : name_text t c.args.lower.0 ≡ c.text.result.now = ap (λ o. unwrap_or o []) (ap (λ (ns : List Text). slice_get ns c.args.lower.0) (sym c.names-2.ensures) ∙ c.text.ensures) in
    let upper : name_text t c.args.upper.0 ≡ c.text-text.result.now = ap (λ o. unwrap_or o []) (ap (λ (ns : List Text). slice_get ns c.args.upper.0) (sym c.names.ensures) ∙ c.text-text.ensures) in
    let told = c.in-Some.ensures.above c.args.upper.0 c.requires.upper (search rules) in
    let is : c.is_some.result ≡ is_some (says c.args.self.now.above c.in-Some.lineage.above c.args.upper.0) = c.is_some.ensures ∙ ap is_some c.get.ensures in (
      λ e. above (name_text t c.args.lower.0) (name_text t c.args.upper.0) (told.0 (sym is ∙ e)),
      λ below. either (below_cases (plain_table t) (class_kind (name_text t c.args.lower.0)) (class_kind (name_text t c.args.upper.0)) (name_text t c.args.lower.0) (name_text t c.args.upper.0) below refl refl)
          (λ equal. let told = (bytes_eq-Decides c.text.result.now c.text-text.result.now).1 (sym lower ∙ equal ∙ upper) in absurd (false≢true (c.if-eq.ensures ∙ told)))
          (λ rest. either rest (λ is. let told = (bytes_eq-Decides c.text-text.result.now object).1 (sym upper ∙ is) in absurd (false≢true (c.if-eq-2.ensures ∙ told)))
          (λ higher. is ∙ told.1 higher)),
    )
