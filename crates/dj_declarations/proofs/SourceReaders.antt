-- Readers of parts, product lines and Java files.
use Rattle.std.proofs.Common.{◌≡◌, ℕ, true, false, List, [], ◌∷◌, ◌++◌, refl, sym, ap, subst, ◌∙◌, append_assoc}
use Rattle.std.specs.Prelude.{codes}
use Rattle.dj_lexer.specs.Symbols.{Symbol}
use Rattle.dj_lexer.specs.declared.token.Dialect.TheVariants.{Line, Java}
use Rattle.dj_tree.specs.Words.{word, sign, named}
use Rattle.dj_tree.specs.Trees.{Spot, Formula, always, Expr, Class, Delta, Item, Part, Source}
use Rattle.dj_tree.specs.Repeats as repeats
use Rattle.dj_tree.specs.Repeats.{Many, Listing}
use Rattle.dj_tree.specs.FormulaGrammar as formulas
use Rattle.dj_tree.specs.FormulaGrammar.{SpellsFormula}
use Rattle.dj_tree.specs.ExprGrammar.{SpellsExpr}
use Rattle.dj_tree.specs.ClassGrammar as classes
use Rattle.dj_tree.specs.ClassGrammar.{SpellsClass}
use Rattle.dj_tree.specs.LineGrammar as lines
use Rattle.dj_tree.specs.LineGrammar.{SpellsCondition, SpellsItem, SpellsPart, SpellsDelta, SpellsSource}
use Rattle.dj_tree.specs.Spells.{SpellsJava}
use Rattle.dj_reader.specs.Terminals.{is_the_word, is_the_sign}
use Rattle.dj_reader.specs.Reading.{Outcome, next, IsReader, Anything, IsSign, End}
use Rattle.dj_reader.specs.Combining.{a_sign, a_word, SpellsSign, the_sign, SpellsWord, the_word, SpellsName, the_name, both, SpellsBoth, one_and_other, SpellsMapped, changed}
use Rattle.dj_reader.specs.Combining.{passes, until, SpellsUntil, closed, to_end, optionally, SpellsOptionally, left_out, given, SpellsListing, closed_list}
use Rattle.dj_reader.proofs.Symbols.{sign_is}
use Rattle.dj_reader.proofs.Laws.{both_reads, Joins, mapped_reads, same_reads}
use Rattle.dj_reader.proofs.Repeating.{until_reads}
use Rattle.dj_reader.proofs.ToEnd.{to_end_reads}
use Rattle.dj_reader.proofs.Pieces.{sign_reads, word_reads, name_reads, some_name, some_name_is, Listed, listing_reads, optionally_reads}
use Rattle.dj_declarations.specs.Readings.{second, behind, item_from, item_reading, part_from, part_reading, title_from, title_reading, features_reading, valid_from, valid_reading, source_from, source_reading, delta_reading, java_reading}
use Rattle.dj_declarations.proofs.Pieces.{moved, joins_any, behind_reads, BeginsOpen, up_to_brace, SpellsHead, head, head_reads, some_head}
use Rattle.dj_declarations.proofs.MemberReaders.{class_reads}
use Rattle.dj_declarations.proofs.OperationReaders.{delta_reads}

-- ---- parts, given formulas

some_formula : SpellsFormula (word (codes "true") 0 ∷ []) always
some_formula = formulas.one_implies (formulas.one_or (formulas.one_and (formulas.one_not (formulas.true_word 0))))

module _ (formula : List Symbol → Outcome Formula) (formula_is : IsReader SpellsFormula (IsSign (codes ";")) formula) where
  -- "when" formula
  abbrev When : List Symbol → Formula → Type 0
  When = SpellsMapped second (SpellsBoth (SpellsWord (codes "when")) SpellsFormula)

  semicolon_leads : (t rest : List Symbol) (at : ℕ) → SpellsSign (codes ";") t at → Anything (next rest) → IsSign (codes ";") (next (t ++ rest))
  semicolon_leads t rest at (the_sign k) follows = refl

  before_semicolon : {X : Type 0} {First : List Symbol → X → Type 0} → Joins First (IsSign (codes ";")) (SpellsSign (codes ";")) Anything
  before_semicolon = record { leads = semicolon_leads; symbols = sign (codes ";") 0 ∷ []; value = 0; spelled = the_sign 0 }

  when_reads : IsReader When (IsSign (codes ";")) (behind (a_word (codes "when")) formula)
  when_reads = behind_reads (joins_any _ _ some_formula) (word_reads (codes "when")) formula_is

  condition_reads : IsReader (SpellsOptionally When (SpellsSign (codes ";"))) Anything
      (optionally (is_the_word (codes "when")) (behind (a_word (codes "when")) formula) (a_sign (codes ";")))
  condition_reads = optionally_reads (record { one_begins = one_begins; body_begins = body_begins }) before_semicolon when_reads (sign_reads (codes ";"))
    where
      one_begins : (s rest : List Symbol) (a : Formula) → When s a → passes (is_the_word (codes "when")) (next (s ++ rest)) ≡ true
      one_begins s rest a (changed (one_and_other (the_word at) p)) = refl

      body_begins : (s rest : List Symbol) (at : ℕ) → SpellsSign (codes ";") s at → passes (is_the_word (codes "when")) (next (s ++ rest)) ≡ false
      body_begins s rest at (the_sign k) = refl

  pub item_reads : IsReader SpellsItem Anything (item_reading formula)
  item_reads = same_reads (record { to = to; from = from }) (mapped_reads item_from (both_reads (joins_any _ _ (left_out (the_sign 0))) name_reads condition_reads))
    where
      to : (s : List Symbol) (i : Item) → SpellsMapped item_from (SpellsBoth SpellsName (SpellsOptionally When (SpellsSign (codes ";")))) s i → SpellsItem s i
      to s i (changed (one_and_other (the_name x k) (left_out (the_sign at)))) = lines.item at x k lines.no_condition
      to s i (changed (one_and_other (the_name x k) (given (changed (one_and_other (the_word w) p)) (the_sign at)))) = lines.item at x k (lines.when w p)

      from : (s : List Symbol) (i : Item) → SpellsItem s i → SpellsMapped item_from (SpellsBoth SpellsName (SpellsOptionally When (SpellsSign (codes ";")))) s i
      from s i (lines.item at x k lines.no_condition) = changed (one_and_other (the_name x k) (left_out (the_sign at)))
      from s i (lines.item at x k (lines.when w p)) = changed (one_and_other (the_name x k) (given (changed (one_and_other (the_word w) p)) (the_sign at)))

  pub item_opens : BeginsOpen SpellsItem
  item_opens s i (lines.item at x k p) = (named x, (_, refl, refl))

  pub part_reads : IsReader SpellsPart Anything (part_reading formula)
  part_reads =
      same_reads (record { to = to; from = from })
      (mapped_reads part_from
      (both_reads (joins_any _ _ (one_and_other (the_name some_name some_name_is) (some_head SpellsItem (codes "after")))) (word_reads (codes "part"))
      (both_reads (joins_any _ _ (some_head SpellsItem (codes "after"))) name_reads (head_reads (codes "after") item_opens item_reads))))
    where
      to : (s : List Symbol) (p : Part) → SpellsMapped part_from (SpellsBoth (SpellsWord (codes "part")) (SpellsBoth SpellsName (SpellsHead (codes "after") SpellsItem))) s p → SpellsPart s p
      to s p (changed (one_and_other (the_word at) (one_and_other (the_name x i) (head a b o many)))) = lines.part at a b x i o many

      from : (s : List Symbol) (p : Part) → SpellsPart s p → SpellsMapped part_from (SpellsBoth (SpellsWord (codes "part")) (SpellsBoth SpellsName (SpellsHead (codes "after") SpellsItem))) s p
      from s p (lines.part at a b x i o many) = changed (one_and_other (the_word at) (one_and_other (the_name x i) (head a b o many)))

  pub part_opens : BeginsOpen SpellsPart
  part_opens s p (lines.part at a b x i o many) = (word (codes "part") at, (_, refl, refl))

  -- "valid" formula ";"
  abbrev pub Valid : List Symbol → Formula → Type 0
  Valid = SpellsMapped valid_from (SpellsBoth (SpellsWord (codes "valid")) (SpellsBoth SpellsFormula (SpellsSign (codes ";"))))

  some_valid : Valid (word (codes "valid") 0 ∷ word (codes "true") 0 ∷ sign (codes ";") 0 ∷ []) always
  some_valid = changed (one_and_other (the_word 0) (one_and_other some_formula (the_sign 0)))

  valid_reads : IsReader Valid Anything (valid_reading formula)
  valid_reads =
      mapped_reads valid_from
      (both_reads (joins_any _ _ (one_and_other some_formula (the_sign 0))) (word_reads (codes "valid")) (both_reads before_semicolon formula_is (sign_reads (codes ";"))))

-- ---- the head of a line

abbrev Title : List Symbol → Spot → Type 0
Title = SpellsMapped title_from (SpellsBoth (SpellsWord (codes "line")) (SpellsBoth SpellsName (SpellsSign (codes "{"))))

title_reads : IsReader Title Anything title_reading
title_reads =
    mapped_reads title_from
    (both_reads (joins_any _ _ (one_and_other (the_name some_name some_name_is) (the_sign 0))) (word_reads (codes "line")) (both_reads (joins_any _ _ (the_sign 0)) name_reads (sign_reads (codes "{"))))

abbrev Features : List Symbol → List Spot → Type 0
Features = SpellsMapped second (SpellsBoth (SpellsWord (codes "features")) (SpellsListing (codes ";") SpellsName))

names_listed : Listed (codes ";") SpellsName
names_listed = record { begins = begins; no_comma = λ at. refl; symbols = named some_name ∷ []; value = some_name; spelled = the_name some_name some_name_is }
  where
    begins : (s : List Symbol) (x : Spot) → SpellsName s x → (first : Symbol) × ((rest : List Symbol) × (s ≡ first ∷ rest) × (is_the_sign (codes ";") first ≡ false))
    begins s x (the_name y i) = (named y, ([], refl, refl))

no_names : SpellsListing (codes ";") SpellsName (sign (codes ";") 0 ∷ []) []
no_names = closed_list 0 repeats.nothing

features_reads : IsReader Features Anything features_reading
features_reads = behind_reads (joins_any _ _ no_names) (word_reads (codes "features")) (listing_reads names_listed name_reads)

some_features : Features (word (codes "features") 0 ∷ sign (codes ";") 0 ∷ []) []
some_features = changed (one_and_other (the_word 0) no_names)

-- the names of a list, in the two ways in which they are said
names_to : {s : List Symbol} {xs : List Spot} → Listing SpellsName s xs → Listing lines.SpellsName s xs
names_to repeats.nothing = repeats.nothing
names_to (repeats.listed (the_name x i) many) = repeats.listed (lines.a_name x i) (more_to many)
  where
    more_to : {s : List Symbol} {xs : List Spot} → Many (repeats.AfterComma SpellsName) s xs → Many (repeats.AfterComma lines.SpellsName) s xs
    more_to repeats.none = repeats.none
    more_to (repeats.more (repeats.after_comma c (the_name y j)) zs) = repeats.more (repeats.after_comma c (lines.a_name y j)) (more_to zs)

names_from : {s : List Symbol} {xs : List Spot} → Listing lines.SpellsName s xs → Listing SpellsName s xs
names_from repeats.nothing = repeats.nothing
names_from (repeats.listed (lines.a_name x i) many) = repeats.listed (the_name x i) (more_from many)
  where
    more_from : {s : List Symbol} {xs : List Spot} → Many (repeats.AfterComma lines.SpellsName) s xs → Many (repeats.AfterComma SpellsName) s xs
    more_from repeats.none = repeats.none
    more_from (repeats.more (repeats.after_comma c (lines.a_name y j)) zs) = repeats.more (repeats.after_comma c (the_name y j)) (more_from zs)

-- ---- whole files

module _ (expr : List Symbol → Outcome Expr) (formula : List Symbol → Outcome Formula) (expr_is : IsReader (SpellsExpr Line) (IsSign (codes ";")) expr)
    (formula_is : IsReader SpellsFormula (IsSign (codes ";")) formula) where
  delta_some : (s : List Symbol) (x : Delta) → SpellsDelta s x → (first : Symbol) × ((rest : List Symbol) × (s ≡ first ∷ rest))
  delta_some s x (lines.delta at a b y i many) = (word (codes "delta") at, (_, refl))

  abbrev Parts : List Symbol → List Part → Type 0
  Parts = SpellsUntil (is_the_sign (codes "}")) SpellsPart

  abbrev Modules : List Symbol → List Part × List Delta → Type 0
  Modules = SpellsBoth Parts (Many SpellsDelta)

  abbrev Rest : List Symbol → Formula × (List Part × List Delta) → Type 0
  Rest = SpellsBoth (SpellsMapped valid_from (SpellsBoth (SpellsWord (codes "valid")) (SpellsBoth SpellsFormula (SpellsSign (codes ";"))))) Modules

  no_parts : Parts (sign (codes "}") 0 ∷ []) []
  no_parts = closed (sign (codes "}") 0) repeats.none refl

  some_modules : Modules (sign (codes "}") 0 ∷ []) ([], [])
  some_modules = one_and_other no_parts repeats.none

  modules_reads : IsReader Modules End (both (until (is_the_sign (codes "}")) (part_reading formula)) (to_end (delta_reading expr)))
  modules_reads =
      both_reads (joins_any [] [] repeats.none) (until_reads (up_to_brace (part_opens formula formula_is)) (part_reads formula formula_is)) (to_end_reads delta_some (delta_reads expr expr_is))

  rest_reads : IsReader Rest End (both (valid_reading formula) (both (until (is_the_sign (codes "}")) (part_reading formula)) (to_end (delta_reading expr))))
  rest_reads = both_reads (joins_any _ _ some_modules) (valid_reads formula formula_is) modules_reads

  some_rest : Rest (word (codes "valid") 0 ∷ word (codes "true") 0 ∷ sign (codes ";") 0 ∷ sign (codes "}") 0 ∷ []) (always, ([], []))
  some_rest = one_and_other (some_valid formula formula_is) some_modules

  pub source_reads : IsReader SpellsSource End (source_reading expr formula)
  source_reads =
      same_reads (record { to = to; from = from })
      (mapped_reads source_from
      (both_reads (joins_any _ _ (one_and_other some_features some_rest)) title_reads (both_reads (joins_any _ _ some_rest) features_reads rest_reads)))
    where
      layout : (listed condition chain modules : List Symbol) (e f g h : Symbol)
          → (listed ++ e ∷ []) ++ f ∷ ((condition ++ g ∷ []) ++ ((chain ++ h ∷ []) ++ modules)) ≡ listed ++ e ∷ f ∷ (condition ++ g ∷ (chain ++ h ∷ modules))
      layout listed condition chain modules e f g h =
          append_assoc listed (e ∷ []) (f ∷ ((condition ++ g ∷ []) ++ ((chain ++ h ∷ []) ++ modules)))
          ∙ ap (λ l. listed ++ e ∷ f ∷ l) (append_assoc condition (g ∷ []) ((chain ++ h ∷ []) ++ modules) ∙ ap (λ l. condition ++ g ∷ l) (append_assoc chain (h ∷ []) modules))

      to : (s : List Symbol) (x : Source) → SpellsMapped source_from (SpellsBoth Title (SpellsBoth Features Rest)) s x → SpellsSource s x
      to s x (changed (one_and_other (changed (one_and_other (the_word a) (one_and_other (the_name t i) (the_sign b))))
          (one_and_other (changed (one_and_other (the_word c) (closed_list {s = listed} {xs = features} e names)))
          (one_and_other (changed (one_and_other (the_word f) (one_and_other {s = condition} {x = valid} p (the_sign g))))
          (one_and_other {t = modules} {y = deltas} (closed {s = chain} {xs = parts} h many is_close) all))))) =
          let source = source_from (t, (features, (valid, (parts, deltas)))) in
          let close : h ≡ sign (codes "}") h.at = sign_is (codes "}") h is_close in
          let P : Symbol → Type 0 = λ y.
          SpellsSource
          (word (codes "line") a ∷ named t ∷ sign (codes "{") b ∷ word (codes "features") c
          ∷ ((listed ++ sign (codes ";") e ∷ []) ++ word (codes "valid") f ∷ ((condition ++ sign (codes ";") g ∷ []) ++ ((chain ++ y ∷ []) ++ modules))))
          source in
          subst P (sym close)
          (moved SpellsSource source
          (ap (λ l. word (codes "line") a ∷ named t ∷ sign (codes "{") b ∷ word (codes "features") c ∷ l)
          (sym (layout listed condition chain modules (sign (codes ";") e) (word (codes "valid") f) (sign (codes ";") g) (sign (codes "}") h.at))))
          (lines.source a b c e f g h.at t i (names_to names) p many all))

      from : (s : List Symbol) (x : Source) → SpellsSource s x → SpellsMapped source_from (SpellsBoth Title (SpellsBoth Features Rest)) s x
      from s x (lines.source {listed = listed} {condition = condition} {chain = chain} {modules = modules} {features = features} {valid = valid} {parts = parts} {deltas = deltas} a b c e f g h t i names p many all) =
          moved (SpellsMapped source_from (SpellsBoth Title (SpellsBoth Features Rest))) (source_from (t, (features, (valid, (parts, deltas)))))
          (ap (λ l. word (codes "line") a ∷ named t ∷ sign (codes "{") b ∷ word (codes "features") c ∷ l)
          (layout listed condition chain modules (sign (codes ";") e) (word (codes "valid") f) (sign (codes ";") g) (sign (codes "}") h)))
          (changed (one_and_other (changed (one_and_other (the_word a) (one_and_other (the_name t i) (the_sign b))))
          (one_and_other (changed (one_and_other (the_word c) (closed_list e (names_from names))))
          (one_and_other (changed (one_and_other (the_word f) (one_and_other p (the_sign g)))) (one_and_other (closed (sign (codes "}") h) many refl) all)))))

-- ---- Java files

pub java_reads : (expr : List Symbol → Outcome Expr) → IsReader (SpellsExpr Java) (IsSign (codes ";")) expr → IsReader SpellsJava End (java_reading expr)
java_reads expr is = to_end_reads class_some (class_reads Java expr is)
  where
    class_some : (s : List Symbol) (c : Class) → SpellsClass Java s c → (first : Symbol) × ((rest : List Symbol) × (s ≡ first ∷ rest))
    class_some s c (classes.class at a b x i o many) = (word (codes "class") at, (_, refl))
