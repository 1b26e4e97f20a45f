-- Arguments that are put on the stack from the last on.
use Rattle.std.proofs.Common.{◌≡◌, ℕ, zero, suc, ◌+◌, ◌-◌, ◌<◌, ◌≤◌, List, [], ◌∷◌, ◌++◌, map, drop, length, Some, refl, sym, ap, ◌∙◌, append_assoc, arith}
use Rattle.std.specs.Prelude.{codes}
use Rattle.std.proofs.lemmas.List.{append-nil, length-map, length-drop}
use Rattle.dj_names.specs.Texts.{Text}
use Rattle.arena_walk.specs.Tree.{Tree, over, trees_of, size_each}
use Rattle.arena_walk.specs.Forest.{tree_at, first_number}
use Rattle.arena_walk.proofs.TreeLemmas.{drop_at_place}
use Rattle.arena_walk.proofs.SlotLemmas.{child_behind, same_first}
use Rattle.dj_tree.specs.Arities.{expr_arity}
use Rattle.dj_tree.specs.declared.expression.ExprNode.{ExprNode}
use Rattle.dj_calculus.specs.JavaText.{listed}
use Rattle.java_text.specs.declared.pieces.Piece.{Piece}
use Rattle.java_text.specs.Pieces.{Puts, written, written_at, work_at, each_work, comma}
use Rattle.java_text.proofs.Parts.{written_tree, work_tree}
use Rattle.java_text.proofs.Putting.{puts_then, puts_as}

-- the last of a list, so many
abbrev pub last_of : {X : Type 0} → ℕ → List X → List X
last_of k xs = drop (length xs - k) xs

-- the texts of trees, listed, and a closing parenthesis
abbrev pub closed : List Text → List (Tree ExprNode) → Text
closed names kids = listed (map (λ e. e.text) (map (written names) kids)) ++ codes ")"

comma_of : (n : ℕ) → 0 < n → comma n ≡ codes ", "
comma_of zero l = absurd (omega arith)
comma_of (suc n) l = refl

listed_more : (t : Text) (ts : List Text) (n : ℕ) → length ts ≡ n → listed (t ∷ ts) ≡ t ++ (comma n ++ listed ts)
listed_more t [] n e = sym (rw (← e) (append-nil t))
listed_more t (u ∷ ts) n e = rw (comma_of n (omega (arith, e))) refl

pub closed_more : (names : List Text) (u : Tree ExprNode) (kids : List (Tree ExprNode)) (n : ℕ) → length kids ≡ n → closed names (u ∷ kids) ≡ (written names u).text ++ (comma n ++ closed names kids)
closed_more names u kids n e =
    let texts = map (λ e. e.text) (map (written names) kids) in
    let many : length texts ≡ n = length-map _ _ ∙ length-map _ _ ∙ e in
    ap (λ t. t ++ codes ")") (listed_more (written names u).text texts n many) ∙ append_assoc (written names u).text (comma n ++ listed texts) (codes ")")
    ∙ ap (λ t. (written names u).text ++ t) (append_assoc (comma n) (listed texts) (codes ")"))

-- the argument before so many others
pub record Before (exprs : List ExprNode) (at : ℕ) (kids : List (Tree ExprNode)) (j child first : ℕ) : Type 0 where
  pub tree : Tree ExprNode
  pub stands : tree_at expr_arity exprs child ≡ Some tree
  pub more : last_of (j + 1) kids ≡ tree ∷ last_of j kids
  pub many : length (last_of j kids) ≡ j
  pub number : first + size_each (trees_of (last_of (j + 1) kids)) ≡ at

length_last : {X : Type 0} (xs : List X) (j : ℕ) → j ≤ length xs → length (last_of j xs) ≡ j
length_last xs j l = let many = length-drop (length xs - j) xs in omega (arith, many)

pub before : (exprs : List ExprNode) (at : ℕ) (n : ExprNode) (kids : List (Tree ExprNode)) (j child first : ℕ) → tree_at expr_arity exprs at ≡ Some (over n kids) → j < length kids
    → child + 1 + size_each (trees_of (last_of j kids)) ≡ at
    → (u : Tree ExprNode) × (tree_at expr_arity exprs child ≡ Some u) × (first ≡ first_number child u) × (first ≤ child)
    → Before exprs at kids j child first
before exprs at n kids j child first is low behind found =
    let this = child_behind expr_arity exprs at n kids j child is low behind in
    let place = drop_at_place kids (length kids - (j + 1)) (omega arith) in
    let begins = same_first expr_arity exprs child first this.0 this.1 found in
    let next : length kids - (j + 1) + 1 ≡ length kids - j = omega (arith, low) in
    let same : place.0 ≡ this.0 = one (place.2) (this.3) in
    record {
      tree = this.0;
      stands = this.1;
      more = place.1 ∙ ap (λ t. t ∷ drop (length kids - (j + 1) + 1) kids) same ∙ ap (λ k. this.0 ∷ drop k kids) next;
      many = length_last kids j (omega (arith, low));
      number = omega (arith, begins, this.2);
    }
  where
    one : {X : Type 0} {o : _} {x y : X} → o ≡ Some x → o ≡ Some y → x ≡ y
    one p q = cc

-- one argument more
pub argument_put : (names : List Text) (exprs : List ExprNode) (at : ℕ) (kids : List (Tree ExprNode)) (j child first : ℕ) (a b c d : List Piece) → Before exprs at kids j child first
    → Puts names exprs (closed names (last_of j kids)) (each_work (last_of j kids) + 1) a b → Puts names exprs (comma j) 1 b c
    → Puts names exprs (written_at names exprs child).text (work_at exprs child) c d
    → Puts names exprs (closed names (last_of (j + 1) kids)) (each_work (last_of (j + 1) kids) + 1) a d
argument_put names exprs at kids j child first a b c d this put put_comma put_node =
    let text = ap (λ w. w.text) (written_tree names exprs child this.tree this.stands) in
    let work = work_tree exprs child this.tree this.stands in
    let all_work = ap each_work this.more in
    puts_as names exprs (puts_then names exprs (puts_then names exprs put put_comma) put_node)
    (ap (λ t. t ++ (comma j ++ closed names (last_of j kids))) text ∙ sym (closed_more names this.tree (last_of j kids) j this.many) ∙ ap (closed names) (sym this.more))
    (omega (arith, work, all_work))
