-- What can be said of an instance of a rule in the bytes of its file.
use Rattle.std.specs.Prelude.{◌≡◌, ℕ, ◌≤◌, List, length}
use Rattle.dj_lexer.specs.TokensAt.{IsTokenAt}
use Rattle.dj_tree.specs.declared.source.Instance.{Instance}

-- Its rule is one of the table of rules, its places stand in the bytes, and a token of the bytes, in one of the two dialects, begins at its
-- place. That token is the name that is told. Only an instance of rule 1 tells its second place.
pub record CanBeSaid (bytes : List ℕ) (instance : Instance) : Type 0 where
  pub from_one : 1 ≤ instance.rule
  pub to_last : instance.rule ≤ 23
  pub within : instance.at ≤ length bytes
  pub second_within : instance.rule ≡ 1 → instance.second ≤ length bytes
  pub name : List ℕ
  pub named : IsTokenAt bytes instance.at name
