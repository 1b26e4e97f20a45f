-- Lists of members of an operation: one more, and another order.
use Rattle.std.proofs.Common.{◌≡◌, ℕ, ◌+◌, ◌≤◌, List, [], ◌∷◌, ◌++◌, map, take, length, slice_get, Some, sym, ap, ◌∙◌, subst, append_assoc}
use Rattle.std.specs.Prelude.{All}
use Rattle.std.specs.List.Sorted.{IsPermutation}
use Rattle.std.proofs.lemmas.List.Sorted.{IsPermutation-map, All-permutation}
use Rattle.std.proofs.lemmas.List.{map-append, append-nil, take_more, take_all}
use Rattle.std.proofs.lemmas.List.Elements.{All-push}
use Rattle.std.proofs.lemmas.Option.{slice_get_within, get_or_from_slice_get}
use Rattle.dj_names.specs.Texts.{Text}
use Rattle.dj_tree.specs.Trees.{MemberOperation}
use Rattle.dj_tree.specs.declared.expression.ExprNode.{ExprNode}
use Rattle.dj_apply.specs.declared.members.NamedMember.{NamedMember}
use Rattle.dj_apply.specs.Members.{plain_taken, plain_members, IsTaken}

module _ (names : List Text) (exprs : List ExprNode) where
  abbrev pub Known : NamedMember → Type 0
  Known m = IsTaken names exprs m.member

  -- behind the members that stood there stand those of these elements
  pub record Pushed {X : Type 0} (f : X → MemberOperation) (old : List NamedMember) (done : List X) (now : List NamedMember) : Type 0 where
    pub members : plain_members names exprs now ≡ plain_members names exprs old ++ map f done
    pub known : All Known now

  pub pushed_none : {X : Type 0} (f : X → MemberOperation) (old : List NamedMember) → All Known old → Pushed f old [] old
  pushed_none f old known = record { members = sym (append-nil (plain_members names exprs old)); known = known }

  pub pushed_more : {X : Type 0} (f : X → MemberOperation) (old now after : List NamedMember) (xs : List X) (i : ℕ) (x : X) (m : NamedMember) → Pushed f old (take i xs) now → slice_get xs i ≡ Some x
      → after ≡ now ++ m ∷ [] → plain_taken names exprs m.member ≡ f x → IsTaken names exprs m.member → Pushed f old (take (i + 1) xs) after
  pushed_more f old now after xs i x m done here is same known =
      let more : take (i + 1) xs ≡ take i xs ++ x ∷ [] = take_more xs i x (slice_get_within xs i x here) ∙ ap (λ y. take i xs ++ y ∷ []) (get_or_from_slice_get xs i x x here) in
      record {
        members = ap (plain_members names exprs) is ∙ map-append (λ (n : NamedMember). plain_taken names exprs n.member) now (m ∷ []) ∙ ap (λ ms. ms ++ plain_taken names exprs m.member ∷ []) done.members
            ∙ append_assoc (plain_members names exprs old) (map f (take i xs)) (plain_taken names exprs m.member ∷ [])
            ∙ ap (λ y. plain_members names exprs old ++ (map f (take i xs) ++ y ∷ [])) same
            ∙ ap (λ ms. plain_members names exprs old ++ ms) (sym (map-append f (take i xs) (x ∷ [])) ∙ ap (map f) (sym more));
        known = subst (All Known) (sym is) (All-push Known now m done.known known);
      }

  pub pushed_all : {X : Type 0} (f : X → MemberOperation) (old now : List NamedMember) (xs : List X) (i : ℕ) → length xs ≤ i → Pushed f old (take i xs) now → Pushed f old xs now
  pushed_all f old now xs i high done = subst (λ ys. Pushed f old ys now) (take_all i xs high) done

  -- ---- in another order

  pub sorted_members : (members : List MemberOperation) (before after : List NamedMember) → plain_members names exprs before ≡ members → IsPermutation before after → IsPermutation members (plain_members names exprs after)
  sorted_members members before after is p =
      subst (λ ms. IsPermutation ms (plain_members names exprs after)) is (IsPermutation-map (λ (m : NamedMember). plain_taken names exprs m.member) before after p)

  pub known_sorted : (before after : List NamedMember) → IsPermutation before after → All Known before → All Known after
  known_sorted before after p known = All-permutation Known before after p known
