-- The nodes of a formula tell it.
use Rattle.std.proofs.Common.{◌≡◌, ℕ, ◌+◌, List, refl, sym, ap, subst, ◌∙◌}
use Rattle.std.specs.Prelude.{unwrap_or, slice_get}
use Rattle.arena_walk.specs.Tree.{size, nodes, EachNode}
use Rattle.arena_walk.specs.Forest.{HasArity}
use Rattle.arena_walk.proofs.Visitors.{same_from_nodes, trees-nodes}
use Rattle.dj_lexer.specs.Symbols.{Symbol}
use Rattle.dj_reader.specs.Combining.{SpellsMapped, changed}
use Rattle.dj_reader.proofs.Laws.{mapped_reads, same_reads}
use Rattle.dj_formula_reader.proofs.Reading.{formulas_are_read}
use Rattle.dj_tree.specs.Trees.{Formula, always}
use Rattle.dj_tree.specs.FormulaGrammar as grammar
use Rattle.dj_tree.specs.FormulaGrammar.{FormulaLevel, SpellsAt}
use Rattle.dj_formula_reader.specs.Laws.{OneFormula, parts, formula_of, SpellsNodes, FormulaTreesAreRead}

-- each operator that the grammar spells has as many parts as it takes
pub each_operator : {l : FormulaLevel} {s : List Symbol} {a : Formula} → SpellsAt l s a → (first : ℕ) → EachNode (λ u _. HasArity parts u) first a
each_operator (grammar.same {a = a} at x y) first = ((each_operator x first, (each_operator y (first + size a), tt)), refl)
each_operator (grammar.one_implies x) first = each_operator x first
each_operator (grammar.implies {a = a} at x y) first = ((each_operator x first, (each_operator y (first + size a), tt)), refl)
each_operator (grammar.one_or x) first = each_operator x first
each_operator (grammar.or {a = a} at x y) first = ((each_operator x first, (each_operator y (first + size a), tt)), refl)
each_operator (grammar.or_doubled {a = a} at x y) first = ((each_operator x first, (each_operator y (first + size a), tt)), refl)
each_operator (grammar.one_and x) first = each_operator x first
each_operator (grammar.and {a = a} at x y) first = ((each_operator x first, (each_operator y (first + size a), tt)), refl)
each_operator (grammar.and_doubled {a = a} at x y) first = ((each_operator x first, (each_operator y (first + size a), tt)), refl)
each_operator (grammar.one_not x) first = each_operator x first
each_operator (grammar.not at x) first = ((each_operator x first, tt), refl)
each_operator (grammar.true_word at) first = (tt, refl)
each_operator (grammar.false_word at) first = (tt, refl)
each_operator (grammar.feature_name x i) first = (tt, refl)
each_operator (grammar.in_parentheses o c x) first = each_operator x first

pub one_formula : OneFormula
one_formula s t a b x y e = same_from_nodes parts 0 a b (each_operator x 0) (each_operator y 0) e

tree_of_nodes : {l : FormulaLevel} {s : List Symbol} {a : Formula} → SpellsAt l s a → formula_of (nodes a) ≡ a
tree_of_nodes {a = a} x = ap (λ l. unwrap_or (slice_get l 0) always) (trees-nodes parts 0 a (each_operator x 0))

pub formula_trees_are_read : FormulaTreesAreRead
formula_trees_are_read = same_reads (record { to = to; from = from }) (mapped_reads formula_of formulas_are_read)
  where
    to : (s : List Symbol) (a : Formula) → SpellsMapped formula_of SpellsNodes s a → grammar.SpellsFormula s a
    to s a (changed {x = forms} p) =
        let P : Formula → Type 0 = λ b. grammar.SpellsFormula s b in
        subst P (sym (ap formula_of p.same ∙ tree_of_nodes p.spelled)) p.spelled

    from : (s : List Symbol) (a : Formula) → grammar.SpellsFormula s a → SpellsMapped formula_of SpellsNodes s a
    from s a p =
        let P : Formula → Type 0 = λ b. SpellsMapped formula_of SpellsNodes s b in
        subst P (tree_of_nodes p) (changed (record { value = a; spelled = p; same = refl }))
