-- Parameters in a table's own names.
use Rattle.std.proofs.Common.{◌≡◌, ℕ, ◌+◌, ◌*◌, ◌<◌, ◌≤◌, List, [], ◌∷◌, ◌++◌, length, map, take, get_or, refl, sym, ap, ap₂, ◌∙◌, subst, length-append, arith}
use Rattle.std.specs.Prelude.{All}
use Rattle.std.proofs.lemmas.List.{map-append, take_more}
use Rattle.std.proofs.lemmas.List.Elements.{All-nil, All-push, All-weaker}
use Rattle.dj_names.specs.Texts.{Text, Extends}
use Rattle.dj_names.proofs.Extending.{extends_reflexive, extends_transitive}
use Rattle.dj_tree.specs.Plain.{plain_spot}
use Rattle.dj_tree.specs.WellFormed.{IsKnown}
use Rattle.dj_tree.specs.declared.declarations.Spot.{Spot}
use Rattle.dj_tree.specs.declared.declarations.FieldDecl.{FieldDecl}
use Rattle.dj_tree.proofs.Growing.{known_later, kept_spot}
use Rattle.ifj_table.proofs.EntryGrowth.{same_on}

-- the types and the names of the parameters so far
pub record Owned (from names later : List Text) (done : List FieldDecl) (types tags : List Spot) : Type 0 where
  pub types_are : map (plain_spot later) types ≡ map (λ (p : FieldDecl). plain_spot from p.kind) done
  pub names_are : map (plain_spot later) tags ≡ map (λ (p : FieldDecl). plain_spot from p.spot) done
  pub own_types : All (IsKnown later) types
  pub own_names : All (IsKnown later) tags
  pub grown : Extends names later
  pub few : length later ≤ length names + 2 * length done

pub owned_none : (from names : List Text) → Owned from names names [] [] []
owned_none from names = record {
  types_are = refl;
  names_are = refl;
  own_types = All-nil (IsKnown names);
  own_names = All-nil (IsKnown names);
  grown = extends_reflexive names;
  few = omega arith;
}

-- names that were known stand for the same
pub later_spots : (names later : List Text) (xs : List Spot) → Extends names later → All (IsKnown names) xs → map (plain_spot later) xs ≡ map (plain_spot names) xs
later_spots names later xs grown all = same_on (IsKnown names) (plain_spot later) (plain_spot names) xs (λ x known. kept_spot names later x grown known) all

pub later_known : (names later : List Text) (xs : List Spot) → Extends names later → All (IsKnown names) xs → All (IsKnown later) xs
later_known names later xs grown all = All-weaker (IsKnown names) (IsKnown later) (λ x known. known_later names later x grown known) xs all

module _ (from names later between after : List Text) (types tags : List Spot) (kind tag : Spot) (first : Extends later between) (second : Extends between after) (one : length between ≤ length later + 1) (other : length after ≤ length between + 1)
    (own_kind : IsKnown between kind) (own_tag : IsKnown after tag) where
  owned_more : (done : List FieldDecl) (p : FieldDecl) → Owned from names later done types tags → plain_spot between kind ≡ plain_spot from p.kind → plain_spot after tag ≡ plain_spot from p.spot
      → Owned from names after (done ++ p ∷ []) (types ++ kind ∷ []) (tags ++ tag ∷ [])
  owned_more done p owned kind_is tag_is =
      let grown = extends_transitive later between after first second in
      record {
        types_are = map-append (plain_spot after) types (kind ∷ [])
            ∙ ap₂ (λ xs x. xs ++ x ∷ []) (later_spots later after types grown owned.own_types ∙ owned.types_are) (kept_spot between after kind second own_kind ∙ kind_is)
            ∙ sym (map-append (λ (q : FieldDecl). plain_spot from q.kind) done (p ∷ []));
        names_are = map-append (plain_spot after) tags (tag ∷ [])
            ∙ ap₂ (λ xs x. xs ++ x ∷ []) (later_spots later after tags grown owned.own_names ∙ owned.names_are) tag_is
            ∙ sym (map-append (λ (q : FieldDecl). plain_spot from q.spot) done (p ∷ []));
        own_types = All-push (IsKnown after) types kind (later_known later after types grown owned.own_types) (known_later between after kind second own_kind);
        own_names = All-push (IsKnown after) tags tag (later_known later after tags grown owned.own_names) own_tag;
        grown = extends_transitive names later after owned.grown grown;
        few = omega (arith, owned.few, one, other, length-append done (p ∷ []));
      }

  pub owned_next : (ps : List FieldDecl) (i : ℕ) (d : FieldDecl) (more_types more_tags : List Spot) → i < length ps → Owned from names later (take i ps) types tags → more_types ≡ types ++ kind ∷ []
      → more_tags ≡ tags ++ tag ∷ [] → plain_spot between kind ≡ plain_spot from (get_or ps i d).kind → plain_spot after tag ≡ plain_spot from (get_or ps i d).spot
      → Owned from names after (take (i + 1) ps) more_types more_tags
  owned_next ps i d more_types more_tags low owned types_grew tags_grew kind_is tag_is =
      subst (λ xs. Owned from names after (take (i + 1) ps) xs more_tags) (sym types_grew) (subst (λ ys. Owned from names after (take (i + 1) ps) (types ++ kind ∷ []) ys) (sym tags_grew)
      (subst (λ done. Owned from names after done (types ++ kind ∷ []) (tags ++ tag ∷ [])) (sym (take_more ps i d low)) (owned_more (take i ps) (get_or ps i d) owned kind_is tag_is)))
