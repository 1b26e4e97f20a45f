-- The parameters of a made method, one after another.
use Rattle.std.proofs.Common.{◌≡◌, ℕ, ◌+◌, ◌-◌, ◌<◌, ◌==◌, List, [], ◌∷◌, ◌++◌, length, map, take, get_or, refl, sym, ap, ap₂, ◌∙◌, subst}
use Rattle.std.specs.Prelude.{All}
use Rattle.std.proofs.lemmas.List.{map-append, take_more}
use Rattle.std.proofs.lemmas.List.Elements.{All-nil, All-push, All-weaker}
use Rattle.dj_names.specs.Texts.{Text, Extends}
use Rattle.dj_names.proofs.Extending.{extends_reflexive, extends_transitive}
use Rattle.dj_tree.specs.Trees as plain
use Rattle.dj_tree.specs.Plain.{plain_spot, plain_expr}
use Rattle.dj_tree.specs.WellFormed.{IsKnown, IsField}
use Rattle.dj_tree.specs.declared.declarations.Spot.{Spot}
use Rattle.dj_tree.specs.declared.declarations.FieldDecl.{FieldDecl}
use Rattle.dj_tree.proofs.Growing.{known_later, kept_spot}
use Rattle.std.specs.Bool.{if◌then◌else◌}
use Rattle.std.specs.Option.{option_map}
use Rattle.std.proofs.lemmas.List.{length-map}
use Rattle.std.proofs.lemmas.Option.{slice_get-map}
use Rattle.dj_tree.specs.declared.expression.ExprNode.{ExprNode}
use Rattle.dj_calculus.specs.Entries.{body_of, method_entry}
use Rattle.dj_calculus.specs.FlatTables.{version_name, calling}
use Rattle.ifj_table.specs.Entries.{text_at, plain_signature, plain_body, plain_method}
use Rattle.ifj_table.specs.declared.entry.MethodEntry.{MethodEntry as Kept}
use Rattle.ifj_flatten.specs.Changes.{IsVersion, IsMadeFrom}
use Rattle.ifj_table.proofs.EntryGrowth.{same_on}

abbrev kind_of : List Text → FieldDecl → plain.Spot
kind_of names p = plain_spot names p.kind

abbrev spot_of : List Text → FieldDecl → plain.Spot
spot_of names p = plain_spot names p.spot

-- what is known of parameters stays while names are added
pub fields_later : (names later : List Text) (ps : List FieldDecl) → Extends names later → All (IsField names) ps → All (IsField later) ps
fields_later names later ps grown all =
    All-weaker (IsField names) (IsField later) (λ p h. (known_later names later p.kind grown h.0, known_later names later p.spot grown h.1)) ps all

pub kinds_later : (names later : List Text) (ps : List FieldDecl) → Extends names later → All (IsField names) ps → map (kind_of later) ps ≡ map (kind_of names) ps
kinds_later names later ps grown all = same_on (IsField names) (kind_of later) (kind_of names) ps (λ p h. kept_spot names later p.kind grown h.0) all

pub spots_later : (names later : List Text) (ps : List FieldDecl) → Extends names later → All (IsField names) ps → map (spot_of later) ps ≡ map (spot_of names) ps
spots_later names later ps grown all = same_on (IsField names) (spot_of later) (spot_of names) ps (λ p h. kept_spot names later p.spot grown h.1) all

-- the parameters so far
pub record AreOwn (from names later : List Text) (kinds spots : List Spot) (own : List FieldDecl) : Type 0 where
  pub kinds_are : map (kind_of later) own ≡ map (plain_spot from) kinds
  pub spots_are : map (spot_of later) own ≡ map (plain_spot from) spots
  pub known : All (IsField later) own
  pub grown : Extends names later

pub own_none : (from names : List Text) → AreOwn from names names [] [] []
own_none from names = record { kinds_are = refl; spots_are = refl; known = All-nil (IsField names); grown = extends_reflexive names }

own_more : (from names later between after : List Text) (kinds spots : List Spot) (kind spot : Spot) (own : List FieldDecl) (p : FieldDecl) → AreOwn from names later kinds spots own
    → Extends later between → Extends between after → IsKnown between p.kind → IsKnown after p.spot → plain_spot between p.kind ≡ plain_spot from kind → plain_spot after p.spot ≡ plain_spot from spot
    → AreOwn from names after (kinds ++ kind ∷ []) (spots ++ spot ∷ []) (own ++ p ∷ [])
own_more from names later between after kinds spots kind spot own p so_far first second own_kind own_spot kind_is spot_is =
    let grown = extends_transitive later between after first second in
    record {
      kinds_are = map-append (kind_of after) own (p ∷ [])
          ∙ ap₂ (λ xs x. xs ++ x ∷ []) (kinds_later later after own grown so_far.known ∙ so_far.kinds_are) (kept_spot between after p.kind second own_kind ∙ kind_is)
          ∙ sym (map-append (plain_spot from) kinds (kind ∷ []));
      spots_are = map-append (spot_of after) own (p ∷ [])
          ∙ ap₂ (λ xs x. xs ++ x ∷ []) (spots_later later after own grown so_far.known ∙ so_far.spots_are) spot_is
          ∙ sym (map-append (plain_spot from) spots (spot ∷ []));
      known = All-push (IsField after) own p (fields_later later after own grown so_far.known) (known_later between after p.kind second own_kind, own_spot);
      grown = extends_transitive names later after so_far.grown grown;
    }

pub own_next : (from names later between after : List Text) (kinds spots : List Spot) (at : ℕ) (d e : Spot) (own new : List FieldDecl) (p : FieldDecl) → at < length kinds → at < length spots
    → AreOwn from names later (take at kinds) (take at spots) own → Extends later between → Extends between after → IsKnown between p.kind → IsKnown after p.spot
    → plain_spot between p.kind ≡ plain_spot from (get_or kinds at d) → plain_spot after p.spot ≡ plain_spot from (get_or spots at e) → new ≡ own ++ p ∷ []
    → AreOwn from names after (take (at + 1) kinds) (take (at + 1) spots) new
own_next from names later between after kinds spots at d e own new p low other so_far first second own_kind own_spot kind_is spot_is grew =
    let more = own_more from names later between after (take at kinds) (take at spots) (get_or kinds at d) (get_or spots at e) own p so_far first second own_kind own_spot kind_is spot_is in
    subst (λ ks. AreOwn from names after ks (take (at + 1) spots) new) (sym (take_more kinds at d low))
    (subst (λ ss. AreOwn from names after (take at kinds ++ get_or kinds at d ∷ []) ss new) (sym (take_more spots at e other))
    (subst (λ ps. AreOwn from names after (take at kinds ++ get_or kinds at d ∷ []) (take at spots ++ get_or spots at e ∷ []) ps) (sym grew) more))

-- ---- versions

abbrev pub own_name : Text → Text → ℕ → ℕ → Text
own_name c m number count = if number + 1 == count then m else version_name c m number

pub version_of : (names : List Text) (exprs : List ExprNode) (c text : Text) (method : Kept) (number count : ℕ) (name called : Text) (made : plain.Method)
    → IsMadeFrom names exprs method number name called made → count ≡ length method.bodies.items → name ≡ own_name c text number count → called ≡ version_name c text (number - 1)
    → text_at names method.spot ≡ text → IsVersion c (text_at names method.spot) (plain_method names exprs method) number made
version_of names exprs c text method number count name called made from many name_is called_is text_is = record {
  body = plain_body names exprs from.body;
  stands = slice_get-map (plain_body names exprs) method.bodies.items number ∙ ap (option_map (plain_body names exprs)) from.stands;
  is =
      let bodies = map (plain_body names exprs) method.bodies.items in
      let counted : length bodies ≡ count = length-map method.bodies.items (plain_body names exprs) ∙ sym many in
      let key : own_name c (text_at names method.spot) number (length bodies) ≡ made.name.text =
      ap (λ t. own_name c t number (length bodies)) text_is ∙ ap (own_name c text number) counted ∙ sym name_is ∙ ap (λ s. s.text) (sym from.named) in
      let body : record { names = map (plain_spot names) from.body.parameters; value = calling (version_name c (text_at names method.spot) (number - 1)) (plain_expr names exprs from.body.root.0) } ≡ body_of made =
      ap (λ t. record { names = map (plain_spot names) from.body.parameters; value = calling t (plain_expr names exprs from.body.root.0) })
      (ap (λ t. version_name c t (number - 1)) text_is ∙ sym called_is) ∙ sym from.body_is in
      let entry : record { at = method.spot.at; signature = plain_signature names method; bodies = record { names = map (plain_spot names) from.body.parameters; value = calling (version_name c (text_at names method.spot) (number - 1)) (plain_expr names exprs from.body.root.0) } ∷ [] } ≡ method_entry made =
      ap (λ b. record { at = method.spot.at; signature = plain_signature names method; bodies = b ∷ [] }) body
      ∙ ap₂ (λ at s. record { at = at; signature = s; bodies = body_of made ∷ [] }) (ap (λ s. s.at) (sym from.named)) (sym from.signature) in
      ap₂ (λ k e. (k, e)) key entry;
}
