-- The parts of a node by how many there are.
use Rattle.std.proofs.Common.{◌≡◌, ℕ, zero, suc, ◌<◌, List, [], ◌∷◌, drop, length, Some, slice_get, get_or, sym, subst, arith}
use Rattle.std.specs.List.{AllZip}
use Rattle.std.specs.declared.result.Result.{Result}
use Rattle.std.specs.declared.result.Result.TheVariants.{Ok}
use Rattle.dj_names.specs.Texts.{Text}
use Rattle.arena_walk.specs.Tree.{over}
use Rattle.dj_tree.specs.Trees.{Expr, ExprForm}
use Rattle.dj_tree.specs.declared.source.Instance.{Instance}
use Rattle.dj_calculus.specs.Tables.{Table}
use Rattle.dj_calculus.specs.Typing.{Home, Types}
use Rattle.ifj_typing.specs.Kinds.{plain_kind}
use Rattle.ifj_typing.specs.Said.{SaysRoot, Says, IsRight}
use Rattle.ifj_typing.specs.Scopes.{AreTyped}
use Rattle.ifj_typing.specs.declared.kind.Kind.{Kind}
use Rattle.ifj_typing.specs.declared.kind.Typed.{Typed}

-- what is behind the first of a list
pub later : {X : Type 0} (xs : List X) (k : ℕ) (x : X) → slice_get (drop 1 xs) k ≡ Some x → slice_get xs (suc k) ≡ Some x
later [] zero x here = absurd cc
later [] (suc k) x here = absurd cc
later (y ∷ xs) k x here = here

pub typed_behind : (names : List Text) (outs rest : List Typed) → rest ≡ drop 1 outs → AreTyped names outs → AreTyped names rest
typed_behind names outs rest is typed k out here = typed (suc k) out (later outs k out (subst (λ xs. slice_get xs k ≡ Some out) is here))

module _ (t : Table) (home : Home) (names : List Text) where
  abbrev Right : Expr → Typed → Type 0
  Right = IsRight t home names

  typed_so : (e : Expr) (out : Typed) (kind : Kind) → IsRight t home names e out → out.found ≡ Ok kind → Types t home e (plain_kind names kind)
  typed_so e out kind right is = subst (Says t home names e) is right.says

  module _ (form : ExprForm) (result : Result Kind Instance) where
    pub no_part : (es : List Expr) (outs : List Typed) → AllZip (IsRight t home names) es outs → length outs ≡ 0 → SaysRoot t home names (over form []) result → SaysRoot t home names (over form es) result
    no_part [] outs right count says = says
    no_part (e ∷ es) [] right count says = absurd right
    no_part (e ∷ es) (x ∷ outs) right count says = absurd (omega (arith, count))

    pub one_part : (es : List Expr) (outs : List Typed) (d : Typed) (kind : Kind) → AllZip (IsRight t home names) es outs → length outs ≡ 1 → (get_or outs 0 d).found ≡ Ok kind
        → ((e : Expr) → Types t home e (plain_kind names kind) → SaysRoot t home names (over form (e ∷ [])) result) → SaysRoot t home names (over form es) result
    one_part [] [] d kind right count is says = absurd (omega (arith, count))
    one_part [] (x ∷ outs) d kind right count is says = absurd right
    one_part (e ∷ es) [] d kind right count is says = absurd right
    one_part (e ∷ []) (x ∷ outs) d kind right count is says = says e (typed_so e x kind right.0 is)
    one_part (e ∷ f ∷ es) (x ∷ []) d kind right count is says = absurd right.1
    one_part (e ∷ f ∷ es) (x ∷ y ∷ outs) d kind right count is says = absurd (omega (arith, count))

    pub two_parts : (es : List Expr) (outs : List Typed) (d c : Typed) (kind other : Kind) → AllZip (IsRight t home names) es outs → length outs ≡ 2 → (get_or outs 0 d).found ≡ Ok kind
        → (get_or outs 1 c).found ≡ Ok other
        → ((e v : Expr) → Types t home e (plain_kind names kind) → Types t home v (plain_kind names other) → SaysRoot t home names (over form (e ∷ v ∷ [])) result)
        → SaysRoot t home names (over form es) result
    two_parts es [] d c kind other right count is also says = absurd (omega (arith, count))
    two_parts es (x ∷ []) d c kind other right count is also says = absurd (omega (arith, count))
    two_parts es (x ∷ y ∷ z ∷ outs) d c kind other right count is also says = absurd (omega (arith, count))
    two_parts [] (x ∷ y ∷ []) d c kind other right count is also says = absurd right
    two_parts (e ∷ []) (x ∷ y ∷ []) d c kind other right count is also says = absurd right.1
    two_parts (e ∷ v ∷ []) (x ∷ y ∷ []) d c kind other right count is also says = says e v (typed_so e x kind right.0 is) (typed_so v y other right.1.0 also)
    two_parts (e ∷ v ∷ w ∷ es) (x ∷ y ∷ []) d c kind other right count is also says = absurd right.1.1

    pub first_part : (es : List Expr) (outs rest : List Typed) (d : Typed) (kind : Kind) → AllZip (IsRight t home names) es outs → 0 < length outs → (get_or outs 0 d).found ≡ Ok kind
        → rest ≡ drop 1 outs
        → ((e : Expr) (more : List Expr) → Types t home e (plain_kind names kind) → AllZip (IsRight t home names) more rest → SaysRoot t home names (over form (e ∷ more)) result)
        → SaysRoot t home names (over form es) result
    first_part es [] rest d kind right some is behind says = absurd (omega (arith, some))
    first_part [] (x ∷ outs) rest d kind right some is behind says = absurd right
    first_part (e ∷ es) (x ∷ outs) rest d kind right some is behind says = says e es (typed_so e x kind right.0 is) (subst (AllZip (IsRight t home names) es) (sym behind) right.1)
