-- The bodies of a product are bodies of the source, so they are expressions where those are.
use Rattle.std.proofs.Common.{◌≡◌, Bool, true, false, List, [], ◌∷◌, ◌++◌, Option, Some, None, Contains, refl, sym, ap, subst}
use Rattle.std.specs.Bool.{if◌then◌else◌}
use Rattle.std.proofs.lemmas.List.Elements.{Contains-append_left, Contains-append_right}
use Rattle.dj_tree.specs.Trees.{Expr, Method, Source}
use Rattle.dj_calculus.specs.Configurations.{Configuration}
use Rattle.dj_calculus.specs.Parts.{chain}
use Rattle.dj_calculus.specs.Contents.{new_methods, modified_methods}
use Rattle.dj_calculus.specs.Accepted.{IsAccepted}
use Rattle.dj_calculus.specs.Tables.{Body, MethodEntry, Table}
use Rattle.dj_calculus.specs.Entries.{signature_of, body_of, same_signature, says_original}
use Rattle.dj_calculus.specs.Operations.{modify}
use Rattle.dj_calculus.specs.Products.{Product}
use Rattle.dj_calculus.specs.Typing.{Home, IsBody, kept}
use Rattle.dj_calculus.specs.Expressions.{IsExpression, HasExpressions}
use Rattle.dj_calculus.specs.TableForms.{EachBody}
use Rattle.dj_calculus.proofs.Members.{no_element, either, in_front_or_behind, only_one}
use Rattle.dj_calculus.proofs.ProductsKeep.{Declares, made_is}

some_same : {X : Type 0} (x y : X) → ◌≡◌ {A = Option X} (Some x) (Some y) → x ≡ y
some_same x y e = cc

-- what a modified method is, and that its old signature was the same
pub record Modified (m : Method) (old new : MethodEntry) : Type 0 where
  pub same : same_signature old.signature (signature_of m) ≡ true
  pub is : record { at = m.name.at; signature = signature_of m; bodies = (if says_original m.body then old.bodies else []) ++ body_of m ∷ [] } ≡ new

pub modified : (m : Method) (old new : MethodEntry) → modify m old ≡ Some new → Modified m old new
modified m old new e = by_test (same_signature old.signature (signature_of m)) refl
  where
    by_test : (b : Bool) → same_signature old.signature (signature_of m) ≡ b → Modified m old new
    by_test true same = record { same = same; is = some_same _ new (rw same at e) }
    by_test false same = absurd (none_not_some (rw same at e))
      where
        none_not_some : ◌≡◌ {A = Option MethodEntry} None (Some new) → ⊥
        none_not_some p = absurd cc

kept_bodies : (b : Bool) (old : List Body) (body : Body) → Contains (if b then old else []) body → Contains old body
kept_bodies true old body within = within
kept_bodies false old body within = no_element body within

-- P of the bodies of a modified method: of its new body, and of the old ones
pub modified_bodies : (P : Body → Type 0) (m : Method) (old new : MethodEntry) → modify m old ≡ Some new → P (body_of m) → EachBody old P → EachBody new P
modified_bodies P m old new e here each body within =
    let bodies = ap (λ x. x.bodies) (sym (modified m old new e).is) in
    either (in_front_or_behind (if says_original m.body then old.bodies else []) (body_of m ∷ []) body (subst (λ xs. Contains xs body) bodies within))
    (λ front. each body (kept_bodies (says_original m.body) old.bodies body front)) (λ last. subst P (only_one (body_of m) body last) here)

-- ---- a source of expressions

abbrev HasFormedBodies : MethodEntry → Type 0
HasFormedBodies method = EachBody method (λ body. IsExpression body.value)

module _ (source : Source) (expressions : HasExpressions source) where
  declares : Declares (λ k. Unit {0}) (λ p. Unit {0}) (λ f x. Unit {0}) (λ m x. HasFormedBodies x) source
  declares =
      record {
        class_names = λ c of. tt;
        parents = λ c of. tt;
        new_parents = λ c p of e. tt;
        fields = λ c f of within. tt;
        new_fields = λ c f of within. tt;
        methods = λ m of body within.
            subst (λ b. IsExpression b.value) (only_one (body_of m) body within) (expressions m (Contains-append_left (new_methods source) (modified_methods source) m of));
        modified = λ m old new of e.
            modified_bodies (λ b. IsExpression b.value) m old new e (expressions m (Contains-append_right (new_methods source) (modified_methods source) m of));
      }

  pub bodies_formed : IsAccepted source → (c : Configuration) (t : Table) → Product source c t → (home : Home) (e : Expr) → IsBody t home e → IsExpression e
  bodies_formed accepted c t product home e (kept {c = k} m {entry = entry} {method = method} {body = body} is has within) =
      (made_is (λ k. Unit {0}) (λ p. Unit {0}) (λ f x. Unit {0}) (λ m x. HasFormedBodies x) source declares accepted c (chain source) t product k entry is).methods m method has body within
