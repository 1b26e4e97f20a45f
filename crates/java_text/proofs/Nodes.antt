-- The pieces of a node, by its form.
use Rattle.std.proofs.Common.{◌≡◌, ℕ, ◌+◌, ◌-◌, ◌≤◌, List, [], ◌∷◌, ◌++◌, map, drop, length, slice_get, sym, ap, ◌∙◌, append_assoc, arith}
use Rattle.std.specs.Prelude.{codes, All}
use Rattle.dj_names.specs.Texts.{Text}
use Rattle.arena_walk.specs.Forest.{tree_at}
use Rattle.dj_tree.specs.Arities.{expr_arity}
use Rattle.dj_tree.specs.Plain.{plain_spot, expr_form}
use Rattle.dj_tree.specs.WellFormed.{IsExprNode}
use Rattle.dj_tree.specs.declared.declarations.Spot.{Spot}
use Rattle.dj_tree.specs.declared.expression.ExprNode.{ExprNode}
use Rattle.dj_tree.specs.declared.expression.ExprNode.TheVariants as node
use Rattle.dj_calculus.specs.JavaText.{receiver, operand, arguments_text, text_over}
use Rattle.ifj_table.proofs.TableLemmas.{all_at}
use Rattle.java_text.specs.declared.pieces.Piece.{Piece}
use Rattle.java_text.specs.Pieces.{Puts, IsNode, kids_at, written, written_at, work_at, each_work}
use Rattle.java_text.proofs.Putting.{puts_as}
use Rattle.java_text.proofs.Parts.{written_tree, work_tree, node_text, node_work, no_parts, first_part, only_part, two_parts}
use Rattle.java_text.proofs.Arguments.{last_of}

-- the names of a node of the arena are there
pub node_known : (names : List Text) (exprs : List ExprNode) (at : ℕ) (n : ExprNode) → All (IsExprNode names) exprs → IsNode exprs at n → IsExprNode names n
node_known names exprs at n all is = all_at (IsExprNode names) exprs at n all is.stands

abbrev pub member_text : List Text → List ExprNode → ℕ → Spot → Text
member_text names exprs child m = receiver (written_at names exprs child) ++ (codes "." ++ (plain_spot names m).text)

module _ (names : List Text) (exprs : List ExprNode) (at : ℕ) (a b : List Piece) where
  abbrev PutsIt : Text → ℕ → Type 0
  PutsIt text work = Puts names exprs text work a b

  abbrev pub PutsAll : Type 0
  PutsAll = PutsIt (written_at names exprs at).text (work_at exprs at - 1)

  -- a node without parts
  pub leaf_put : (n : ExprNode) (text : Text) (work : ℕ) → IsNode exprs at n → expr_arity n ≡ 0 → text ≡ text_over (expr_form names n) [] → work ≤ 8 → PutsIt text work → PutsAll
  leaf_put n text work is none same less put =
      let parts = no_parts (kids_at exprs at) (is.many ∙ none) in
      let all_work = node_work exprs at n [] is parts in
      puts_as names exprs put (same ∙ sym (node_text names exprs at n [] is parts)) (omega (arith, all_work, less))

  pub field_put : (f : Spot) (child : ℕ) → IsNode exprs at (node.Field f) → tree_at expr_arity exprs child ≡ slice_get (kids_at exprs at) 0
      → PutsIt (member_text names exprs child f) (work_at exprs child + 4) → PutsAll
  field_put f child is found put =
      let part = only_part (kids_at exprs at) _ is.many found in
      let n = node.Field f in
      let all_work = node_work exprs at n (part.0 ∷ []) is part.2 in
      let its_work = work_tree exprs child part.0 part.1 in
      puts_as names exprs put
      (ap (λ w. receiver w ++ (codes "." ++ (plain_spot names f).text)) (written_tree names exprs child part.0 part.1) ∙ sym (node_text names exprs at n (part.0 ∷ []) is part.2))
      (omega (arith, all_work, its_work))

  pub cast_put : (d : Spot) (child : ℕ) → IsNode exprs at (node.Cast d) → tree_at expr_arity exprs child ≡ slice_get (kids_at exprs at) 0
      → PutsIt (codes "(" ++ ((plain_spot names d).text ++ (codes ") " ++ operand (written_at names exprs child)))) (1 + (1 + (1 + (work_at exprs child + 2)))) → PutsAll
  cast_put d child is found put =
      let part = only_part (kids_at exprs at) _ is.many found in
      let n = node.Cast d in
      let all_work = node_work exprs at n (part.0 ∷ []) is part.2 in
      let its_work = work_tree exprs child part.0 part.1 in
      puts_as names exprs put
      (ap (λ w. codes "(" ++ ((plain_spot names d).text ++ (codes ") " ++ operand w))) (written_tree names exprs child part.0 part.1)
      ∙ ap (λ t. codes "(" ++ t) (sym (append_assoc (plain_spot names d).text (codes ")") (codes " " ++ operand (written names part.0))))
      ∙ sym (node_text names exprs at n (part.0 ∷ []) is part.2))
      (omega (arith, all_work, its_work))

  pub assignment_put : (f : Spot) (child value : ℕ) → IsNode exprs at (node.Assign f) → tree_at expr_arity exprs child ≡ slice_get (kids_at exprs at) 0 → tree_at expr_arity exprs value ≡ slice_get (kids_at exprs at) 1
      → PutsIt (member_text names exprs child f ++ (codes " = " ++ (written_at names exprs value).text)) ((work_at exprs child + 4) + (1 + work_at exprs value)) → PutsAll
  assignment_put f child value is found its put =
      let parts = two_parts (kids_at exprs at) _ _ is.many found its in
      let e = parts.0 in
      let v = parts.1.0 in
      let n = node.Assign f in
      let kids = e ∷ v ∷ [] in
      let all_work = node_work exprs at n kids is parts.1.3 in
      let its_work = work_tree exprs child e parts.1.1 in
      let value_work = work_tree exprs value v parts.1.2 in
      let f_text = (plain_spot names f).text in
      puts_as names exprs put
      (ap (λ w. (receiver w ++ (codes "." ++ f_text)) ++ (codes " = " ++ (written_at names exprs value).text)) (written_tree names exprs child e parts.1.1)
      ∙ ap (λ w. (receiver (written names e) ++ (codes "." ++ f_text)) ++ (codes " = " ++ w.text)) (written_tree names exprs value v parts.1.2)
      ∙ append_assoc (receiver (written names e)) (codes "." ++ f_text) (codes " = " ++ (written names v).text)
      ∙ sym (node_text names exprs at n kids is parts.1.3))
      (omega (arith, all_work, its_work, value_work))

  pub call_put : (m : Spot) (arguments child : ℕ) → IsNode exprs at (node.Call m arguments) → tree_at expr_arity exprs child ≡ slice_get (kids_at exprs at) 0
      → PutsIt (member_text names exprs child m ++ arguments_text (map (written names) (last_of arguments (kids_at exprs at)))) ((work_at exprs child + 4) + (each_work (last_of arguments (kids_at exprs at)) + 2)) → PutsAll
  call_put m arguments child is found put =
      let kids = kids_at exprs at in
      let part = first_part kids _ (omega (arith, is.many)) found in
      let e = part.0 in
      let n = node.Call m arguments in
      let one : length kids - arguments ≡ 1 = omega (arith, is.many) in
      let rest = ap (λ k. drop k kids) one in
      let split : kids ≡ e ∷ last_of arguments kids = part.2 ∙ ap (λ ks. e ∷ ks) (sym rest) in
      let all_work = node_work exprs at n (e ∷ last_of arguments kids) is split in
      let its_work = work_tree exprs child e part.1 in
      let args = arguments_text (map (written names) (last_of arguments kids)) in
      let m_text = (plain_spot names m).text in
      puts_as names exprs put
      (ap (λ w. (receiver w ++ (codes "." ++ m_text)) ++ args) (written_tree names exprs child e part.1)
      ∙ append_assoc (receiver (written names e)) (codes "." ++ m_text) args
      ∙ sym (node_text names exprs at n (e ∷ last_of arguments kids) is split))
      (omega (arith, all_work, its_work))

  pub original_put : (place arguments : ℕ) → IsNode exprs at (node.Original place arguments)
      → PutsIt (codes "original" ++ arguments_text (map (written names) (last_of arguments (kids_at exprs at)))) (1 + (each_work (last_of arguments (kids_at exprs at)) + 2)) → PutsAll
  original_put place arguments is put =
      let kids = kids_at exprs at in
      let n = node.Original place arguments in
      let none : length kids - arguments ≡ 0 = omega (arith, is.many) in
      let split : kids ≡ last_of arguments kids = sym (ap (λ k. drop k kids) none) in
      let all_work = node_work exprs at n (last_of arguments kids) is split in
      puts_as names exprs put (sym (node_text names exprs at n (last_of arguments kids) is split)) (omega (arith, all_work))
