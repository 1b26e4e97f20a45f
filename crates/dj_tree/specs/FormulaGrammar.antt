-- The grammar of formulas: which tokens spell which formula. One case a production.
use Rattle.std.specs.Prelude.{ℕ, List, [], ◌∷◌, ◌++◌, codes}
use Rattle.dj_lexer.specs.Symbols.{Symbol}
use Rattle.dj_tree.specs.Words.{word, sign, named, IsName}
use Rattle.dj_tree.specs.Trees.{Spot, Formula, always, never, feature, negation, conjunction, disjunction, implication, equivalence}

-- how tightly an operator binds, from the loosest on
pub data FormulaLevel : Type 0 where
  Equivalences : FormulaLevel
  Implications : FormulaLevel
  Disjunctions : FormulaLevel
  Conjunctions : FormulaLevel
  Negations : FormulaLevel

pub data SpellsAt : FormulaLevel → List Symbol → Formula → Type 0 where
  -- formula = implies { "<->" implies }
  same : {s t : List Symbol} {a b : Formula} (at : ℕ) → SpellsAt Equivalences s a → SpellsAt Implications t b
      → SpellsAt Equivalences (s ++ sign (codes "<->") at ∷ t) (equivalence a b)
  one_implies : {s : List Symbol} {a : Formula} → SpellsAt Implications s a → SpellsAt Equivalences s a
  -- implies = or [ "->" implies ]
  implies : {s t : List Symbol} {a b : Formula} (at : ℕ) → SpellsAt Disjunctions s a → SpellsAt Implications t b
      → SpellsAt Implications (s ++ sign (codes "->") at ∷ t) (implication a b)
  one_or : {s : List Symbol} {a : Formula} → SpellsAt Disjunctions s a → SpellsAt Implications s a
  -- or = and { ( "|" | "||" ) and }
  or : {s t : List Symbol} {a b : Formula} (at : ℕ) → SpellsAt Disjunctions s a → SpellsAt Conjunctions t b
      → SpellsAt Disjunctions (s ++ sign (codes "|") at ∷ t) (disjunction a b)
  or_doubled : {s t : List Symbol} {a b : Formula} (at : ℕ) → SpellsAt Disjunctions s a → SpellsAt Conjunctions t b
      → SpellsAt Disjunctions (s ++ sign (codes "||") at ∷ t) (disjunction a b)
  one_and : {s : List Symbol} {a : Formula} → SpellsAt Conjunctions s a → SpellsAt Disjunctions s a
  -- and = not { ( "&" | "&&" ) not }
  and : {s t : List Symbol} {a b : Formula} (at : ℕ) → SpellsAt Conjunctions s a → SpellsAt Negations t b
      → SpellsAt Conjunctions (s ++ sign (codes "&") at ∷ t) (conjunction a b)
  and_doubled : {s t : List Symbol} {a b : Formula} (at : ℕ) → SpellsAt Conjunctions s a → SpellsAt Negations t b
      → SpellsAt Conjunctions (s ++ sign (codes "&&") at ∷ t) (conjunction a b)
  one_not : {s : List Symbol} {a : Formula} → SpellsAt Negations s a → SpellsAt Conjunctions s a
  -- not = "!" not | "true" | "false" | NAME | "(" formula ")"
  not : {s : List Symbol} {a : Formula} (at : ℕ) → SpellsAt Negations s a → SpellsAt Negations (sign (codes "!") at ∷ s) (negation a)
  true_word : (at : ℕ) → SpellsAt Negations (word (codes "true") at ∷ []) always
  false_word : (at : ℕ) → SpellsAt Negations (word (codes "false") at ∷ []) never
  feature_name : (x : Spot) → IsName x → SpellsAt Negations (named x ∷ []) (feature x)
  in_parentheses : {s : List Symbol} {a : Formula} (opening closing : ℕ) → SpellsAt Equivalences s a
      → SpellsAt Negations (sign (codes "(") opening ∷ (s ++ sign (codes ")") closing ∷ [])) a

-- the tokens spell the formula
abbrev pub SpellsFormula : List Symbol → Formula → Type 0
SpellsFormula s a = SpellsAt Equivalences s a
