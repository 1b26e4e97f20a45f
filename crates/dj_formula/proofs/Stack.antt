-- A walk that keeps the values of trees in front of a slice: those that no gate has taken yet, the last one last.
use Rattle.std.proofs.Common.{◌≡◌, ℕ, zero, suc, ◌+◌, ◌-◌, ◌<◌, ◌≤◌, Bool, List, [], ◌∷◌, ◌++◌, length, take, drop, get_or, slice_get, Some, ap, sym, ◌∙◌, subst, arith}
use Rattle.std.specs.Prelude.{slice_range, slice_set}
use Rattle.std.proofs.lemmas.List.{take-take, length-take-le, drop-take, take_more_set, drop_all}
use Rattle.arena_walk.specs.Tree.{Tree, root_of, EachNode}
use Rattle.arena_walk.specs.Forest.{tree_at, first_number, HasArity}
use Rattle.arena_walk.proofs.Visitors.{outs_fold, nodes_to, IsAlong, along_start, along_enough, along_kids, along_next, along_end, along_at, along_with, next_node}
use Rattle.dj_formula.specs.declared.formula.Gate.{Gate}
use Rattle.dj_formula.specs.Gates.{operands, IsBelow}
use Rattle.dj_formula.specs.Value.{gate_value, value_of, HasFeaturesBelow}
use Rattle.dj_formula.proofs.Trees.{tree_there, each_below}

abbrev IsValueOf : List Bool → Tree Gate → Bool → Type 0
IsValueOf chosen u value = value ≡ value_of chosen u

abbrev IsRootBelow : List Bool → Tree Gate → ℕ → Type 0
IsRootBelow chosen u at = IsBelow (length chosen) (root_of u)

-- these values stand before the node `at` of the tree t at `root`
abbrev pub StandBefore : List Bool → List Gate → ℕ → Tree Gate → ℕ → List Bool → Type 0
StandBefore chosen ns root t at values = IsAlong operands (IsValueOf chosen) (IsRootBelow chosen) t at (drop at (take (root + 1) ns)) values

taken : (scratch : List Bool) (start finished : ℕ) → start ≤ finished → drop start (take finished scratch) ≡ slice_range scratch start finished
taken scratch start finished h =
    let whole : finished ≡ start + (finished - start) = omega arith in
    ap (λ k. drop start (take k scratch)) whole ∙ drop-take start (finished - start) scratch

front : (scratch : List Bool) (finished : ℕ) (value d : Bool) → take finished scratch ≡ value ∷ [] → get_or scratch 0 d ≡ value
front scratch zero value d e = absurd (cc)
front [] (suc finished) value d e = absurd (cc)
front (x ∷ xs) (suc finished) value d e = cc

module _ (chosen : List Bool) (ns : List Gate) (root : ℕ) (t : Tree Gate) where
  pub stand_first : (at : ℕ) (values : List Bool) → at ≡ first_number root t → values ≡ [] → tree_at operands ns root ≡ Some t → EachNode (λ u _. HasArity operands u) (first_number root t) t → HasFeaturesBelow (length chosen) t → StandBefore chosen ns root t at values
  stand_first at values first none is whole below =
      subst (λ (k : ℕ). StandBefore chosen ns root t k values) (sym first)
      (along_with operands (IsValueOf chosen) (IsRootBelow chosen) t (first_number root t) _ [] values (sym none)
      (along_start operands (IsValueOf chosen) (IsRootBelow chosen) t (first_number root t) _ whole (each_below (length chosen) (first_number root t) t below) (nodes_to operands ns root t is)))

  pub stand_last : (at finished : ℕ) (scratch : List Bool) (d : Bool) → length (take (root + 1) ns) ≤ at → StandBefore chosen ns root t at (take finished scratch) → get_or scratch 0 d ≡ value_of chosen t
  stand_last at finished scratch d past stand =
      let end = along_end operands (IsValueOf chosen) (IsRootBelow chosen) t at _ (take finished scratch) (drop_all at (take (root + 1) ns) past) stand in
      front scratch finished end.0 d end.1 ∙ end.2

  -- at a gate of the tree
  module _ (at : ℕ) (gate : Gate) (here : slice_get ns at ≡ Some gate) (before : at < root + 1) where
    at_gate : (values : List Bool) → StandBefore chosen ns root t at values → IsAlong operands (IsValueOf chosen) (IsRootBelow chosen) t at (gate ∷ drop (at + 1) (take (root + 1) ns)) values
    at_gate values stand = along_at operands (IsValueOf chosen) (IsRootBelow chosen) t at _ _ values (next_node ns (root + 1) at gate here before) stand

    stand_enough : (values : List Bool) → StandBefore chosen ns root t at values → operands gate ≤ length values
    stand_enough values stand = along_enough operands (IsValueOf chosen) (IsRootBelow chosen) t at gate _ values (at_gate values stand)

    next : (values : List Bool) → StandBefore chosen ns root t at values → StandBefore chosen ns root t (at + 1) (take (length values - operands gate) values ++ gate_value chosen gate (drop (length values - operands gate) values) ∷ [])
    next values stand =
        along_next operands (IsValueOf chosen) (IsValueOf chosen) (IsRootBelow chosen) t at gate _ values (gate_value chosen gate (drop (length values - operands gate) values)) (at_gate values stand) (λ u value is. is)
        (λ kids stands _. outs_fold (gate_value chosen) gate kids (drop (length values - operands gate) values) stands)

    -- the gate's value takes the place of those of its operands
    pub stand_next : (scratch : List Bool) (finished start : ℕ) (value : Bool) → finished ≤ length scratch → start + operands gate ≡ finished → start < length scratch → value ≡ gate_value chosen gate (slice_range scratch start finished) → StandBefore chosen ns root t at (take finished scratch) → StandBefore chosen ns root t (at + 1) (take (start + 1) (slice_set scratch start value))
    stand_next scratch finished start value room parts within is stand =
        let values = take finished scratch in
        let from : length values - operands gate ≡ start = omega (arith, length-take-le finished scratch room) in
        let kept : take (length values - operands gate) values ≡ take start scratch = ap (λ k. take k values) from ∙ take-take start finished scratch (omega arith) in
        let operands_are : drop (length values - operands gate) values ≡ slice_range scratch start finished = ap (λ k. drop k values) from ∙ taken scratch start finished (omega arith) in
        along_with operands (IsValueOf chosen) (IsRootBelow chosen) t (at + 1) _ _ (take (start + 1) (slice_set scratch start value))
        (ap (λ xs. xs ++ gate_value chosen gate (drop (length values - operands gate) values) ∷ []) kept
        ∙ ap (λ xs. take start scratch ++ gate_value chosen gate xs ∷ []) operands_are
        ∙ ap (λ v. take start scratch ++ v ∷ []) (sym is)
        ∙ sym (take_more_set scratch start value within))
        (next values stand)

-- at a gate of its tree there are values for its operands, and the gate is no feature without a value
module _ (chosen : List Bool) (ns : List Gate) (root at : ℕ) (gate : Gate) (there : root < length ns) (here : slice_get ns at ≡ Some gate) (before : at < root + 1) where
  pub operands_stand : (scratch : List Bool) (finished : ℕ) → finished ≤ length scratch → ((t : Tree Gate) → tree_at operands ns root ≡ Some t → StandBefore chosen ns root t at (take finished scratch)) → operands gate ≤ finished
  operands_stand scratch finished room all =
      let tree = tree_there ns root there in
      omega (arith, length-take-le finished scratch room, stand_enough chosen ns root tree.0 at gate here before (take finished scratch) (all tree.0 tree.1))

  pub gate_is_below : (values : List Bool) → ((t : Tree Gate) → tree_at operands ns root ≡ Some t → StandBefore chosen ns root t at values) → IsBelow (length chosen) gate
  gate_is_below values all =
      let tree = tree_there ns root there in
      (along_kids operands (IsValueOf chosen) (IsRootBelow chosen) tree.0 at gate _ values (at_gate chosen ns root tree.0 at gate here before values (all tree.0 tree.1))).2
