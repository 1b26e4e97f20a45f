-- What the pieces of a rule's line make of it, and that there is one such line.
use Rattle.std.proofs.Common.{◌≡◌, ◌≢◌, ℕ, List, [], ◌∷◌, sym, ap, refl, ◌∙◌, subst, codes}
use Rattle.std.specs.Fmt.{decimal}
use Rattle.dj_names.specs.Texts.{Text}
use Rattle.dj_lexer.specs.TokensAt.{IsTokenAt}
use Rattle.dj_lexer.specs.Laws.{OneTokenAt}
use Rattle.dj_tree.specs.declared.source.Instance.{Instance}
use Rattle.dj_report.specs.Places.{IsPlaceText}
use Rattle.dj_report.specs.Rules.{rule_words, rule_line, rule_line_with, IsRuleText, at_one_place, at_two_places}
use Rattle.dj_tree.specs.Trees.{Source}
use Rattle.dj_calculus.specs.Configurations.{Configuration}
use Rattle.dj_report.specs.Join.{joined, line_end}
use Rattle.dj_report.specs.Answers.{configuration_word, IsNoText, no_and_why}
use Rattle.dj_report.specs.Laws.{OneRuleText, OneNoText}
use Rattle.dj_report.proofs.OneText.{one_place}

pub told_at_one : (bytes : List ℕ) (instance : Instance) (number words name place text : Text) → number ≡ decimal instance.rule → words ≡ rule_words instance.rule
    → instance.rule ≢ 1 → IsTokenAt bytes instance.at name → IsPlaceText bytes instance.at place → text ≡ rule_line number words name place
    → IsRuleText bytes instance text
told_at_one bytes instance number words name place text counts said other token stands says =
    subst (IsRuleText bytes instance)
    (sym (says ∙ ap (λ n. rule_line n words name place) counts ∙ ap (λ w. rule_line (decimal instance.rule) w name place) said))
    (at_one_place name place other token stands)

pub told_at_two : (bytes : List ℕ) (instance : Instance) (number words name place second text : Text) → number ≡ decimal instance.rule
    → words ≡ rule_words instance.rule → instance.rule ≡ 1 → IsTokenAt bytes instance.at name → IsPlaceText bytes instance.at place
    → IsPlaceText bytes instance.second second → text ≡ rule_line_with number words name place second → IsRuleText bytes instance text
told_at_two bytes instance number words name place second text counts said first token stands also says =
    subst (IsRuleText bytes instance)
    (sym
    (says ∙ ap (λ n. rule_line_with n words name place second) counts
    ∙ ap (λ w. rule_line_with (decimal instance.rule) w name place second) said))
    (at_two_places name place second first token stands also)

pub told_no : (bytes : List ℕ) (source plain : Source) (c : Configuration) (instance : Instance) (why word text : Text) → source ≡ plain
    → IsRuleText bytes instance why → word ≡ configuration_word source c
    → text ≡ joined (codes "no" ∷ line_end ∷ codes "configuration " ∷ word ∷ line_end ∷ why ∷ []) → IsNoText bytes plain c instance text
told_no bytes source plain c instance why word text same is said says =
    subst (IsNoText bytes plain c instance)
    (sym (says ∙ ap (λ w. joined (codes "no" ∷ line_end ∷ codes "configuration " ∷ w ∷ line_end ∷ why ∷ [])) (said ∙ ap (λ s. configuration_word s c) same)))
    (no_and_why why is)

-- ---- one text

pub one_rule_line : OneTokenAt → OneRuleText
one_rule_line one_token bytes instance _ _ (at_one_place name p other is at_p) (at_one_place name_q q _ so at_q) =
    ap (λ n. rule_line (decimal instance.rule) (rule_words instance.rule) n p) (one_token bytes instance.at name name_q is so)
    ∙ ap (λ x. rule_line (decimal instance.rule) (rule_words instance.rule) name_q x) (one_place bytes instance.at p q at_p at_q)
one_rule_line one_token bytes instance _ _ (at_one_place name p other is at_p) (at_two_places name_q q r first so at_q at_r) = absurd (other first)
one_rule_line one_token bytes instance _ _ (at_two_places name p s first is at_p at_s) (at_one_place name_q q other so at_q) = absurd (other first)
one_rule_line one_token bytes instance _ _ (at_two_places name p s first is at_p at_s) (at_two_places name_q q r _ so at_q at_r) =
    ap (λ n. rule_line_with (decimal instance.rule) (rule_words instance.rule) n p s) (one_token bytes instance.at name name_q is so)
    ∙ ap (λ x. rule_line_with (decimal instance.rule) (rule_words instance.rule) name_q x s) (one_place bytes instance.at p q at_p at_q)
    ∙ ap (λ x. rule_line_with (decimal instance.rule) (rule_words instance.rule) name_q q x) (one_place bytes instance.second s r at_s at_r)

pub one_no : OneRuleText → OneNoText
one_no one_line bytes source c instance _ _ (no_and_why why is) (no_and_why other so) = rw (one_line bytes instance why other is so) refl
