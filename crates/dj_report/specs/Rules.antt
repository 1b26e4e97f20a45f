-- What is said of an instance of a rule.
use Rattle.std.specs.Prelude.{◌≡◌, ◌≢◌, ℕ, ◌-◌, List, [], ◌∷◌, slice_get, unwrap_or, codes}
use Rattle.std.specs.Fmt.{decimal}
use Rattle.dj_names.specs.Texts.{Text}
use Rattle.dj_lexer.specs.TokensAt.{IsTokenAt}
use Rattle.dj_tree.specs.declared.source.Instance.{Instance}
use Rattle.dj_report.specs.Join.{joined, line_end}
use Rattle.dj_report.specs.Places.{IsPlaceText}

-- the words of each rule, from 1 to 23
abbrev pub rules : List Text
rules =
    codes "overlap" ∷ codes "class there" ∷ codes "class missing" ∷ codes "field there" ∷ codes "field missing"
    ∷ codes "method there" ∷ codes "method missing" ∷ codes "signature differs" ∷ codes "unknown superclass"
    ∷ codes "circular superclasses" ∷ codes "unknown type" ∷ codes "hidden field" ∷ codes "override differs"
    ∷ codes "unknown variable" ∷ codes "unknown class" ∷ codes "no field" ∷ codes "no method"
    ∷ codes "number of arguments" ∷ codes "argument type" ∷ codes "assigned type" ∷ codes "returned type"
    ∷ codes "unrelated cast" ∷ codes "member of null" ∷ []

abbrev pub rule_words : ℕ → Text
rule_words rule = unwrap_or (slice_get rules (rule - 1)) []

-- "rule", its number and its words, then the name and its place
abbrev pub rule_line : Text → Text → Text → Text → Text
rule_line number words name place =
    joined (codes "rule " ∷ number ∷ codes " " ∷ words ∷ codes ": " ∷ name ∷ codes " at " ∷ place ∷ line_end ∷ [])

-- the same with a second place
abbrev pub rule_line_with : Text → Text → Text → Text → Text → Text
rule_line_with number words name place second =
    joined (codes "rule " ∷ number ∷ codes " " ∷ words ∷ codes ": " ∷ name ∷ codes " at " ∷ place ∷ codes " and " ∷ second ∷ line_end ∷ [])

-- The line of an instance, with its places in the bytes. Its name is the token that begins at its place, and only rule 1 has a second place.
pub data IsRuleText (bytes : List ℕ) (instance : Instance) : Text → Type 0 where
  at_one_place : (name place : Text) → instance.rule ≢ 1 → IsTokenAt bytes instance.at name → IsPlaceText bytes instance.at place
      → IsRuleText bytes instance (rule_line (decimal instance.rule) (rule_words instance.rule) name place)
  at_two_places : (name place second : Text) → instance.rule ≡ 1 → IsTokenAt bytes instance.at name → IsPlaceText bytes instance.at place
      → IsPlaceText bytes instance.second second
      → IsRuleText bytes instance (rule_line_with (decimal instance.rule) (rule_words instance.rule) name place second)
