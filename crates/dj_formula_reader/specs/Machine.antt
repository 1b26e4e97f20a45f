-- A machine that takes the symbols of a formula one by one.
use Rattle.std.specs.Prelude.{ℕ, Bool, List, [], ◌∷◌, ◌++◌, codes, nat_le, if◌then◌else◌}
use Rattle.dj_lexer.specs.Symbols.{Symbol}
use Rattle.dj_tree.specs.Trees.{FormulaForm, TrueForm, FalseForm, FeatureForm, NotForm, AndForm, OrForm, ImpliesForm, SameForm}
use Rattle.dj_reader.specs.Terminals.{is_the_word, is_the_sign, is_a_name, spot_of}
use Rattle.dj_reader.specs.Reading.{Outcome, got, fault}
use Rattle.dj_formula_reader.specs.declared.machine.Frame.{Frame}
use Rattle.dj_formula_reader.specs.declared.machine.Frame.TheVariants.{Open, Same, Implies, Or, And, Not}

-- how tightly an open operator binds. A bracket doesn't.
abbrev pub rank_of : Frame → ℕ
rank_of Open = 0
rank_of Same = 1
rank_of Implies = 2
rank_of Or = 3
rank_of And = 4
rank_of Not = 5

-- the node that a finished operator leaves
abbrev pub left_by : Frame → List FormulaForm
left_by Open = []
left_by Same = SameForm ∷ []
left_by Implies = ImpliesForm ∷ []
left_by Or = OrForm ∷ []
left_by And = AndForm ∷ []
left_by Not = NotForm ∷ []

-- what is open once the operators on top that bind as tightly are finished, and the nodes that they leave
abbrev pub kept : ℕ → List Frame → List Frame
kept rank [] = []
kept rank (top ∷ frames) = if nat_le rank (rank_of top) then kept rank frames else top ∷ frames

abbrev pub passed : ℕ → List Frame → List FormulaForm
passed rank [] = []
passed rank (top ∷ frames) = if nat_le rank (rank_of top) then left_by top ++ passed rank frames else []

-- The machine waits for an operand, or holds one. It knows what is open, the innermost first, and the nodes so far.
pub data State : Type 0 where
  waiting : List Frame → List FormulaForm → State
  holding : List Frame → List FormulaForm → State

pub data Move : Type 0 where
  go : State → Move
  finish : List FormulaForm → Move
  stuck : Move

abbrev pub take_operand : Symbol → List Frame → List FormulaForm → Move
take_operand s frames forms =
    if is_the_sign (codes "!") s then go (waiting (Not ∷ frames) forms)
    else (if is_the_sign (codes "(") s then go (waiting (Open ∷ frames) forms)
    else (if is_the_word (codes "true") s then go (holding frames (forms ++ TrueForm ∷ []))
    else (if is_the_word (codes "false") s then go (holding frames (forms ++ FalseForm ∷ []))
    else (if is_a_name s then go (holding frames (forms ++ FeatureForm (spot_of s) ∷ [])) else stuck))))

-- an operator of this rank, behind the operators before it that bind as tightly as `over`
abbrev pub take_operator : Frame → ℕ → List Frame → List FormulaForm → Move
take_operator operator over frames forms = go (waiting (operator ∷ kept over frames) (forms ++ passed over frames))

abbrev pub close_bracket : List Frame → List FormulaForm → Move
close_bracket (Open ∷ frames) forms = go (holding frames forms)
close_bracket frames forms = stuck

abbrev pub end_formula : List Frame → List FormulaForm → Move
end_formula [] forms = finish forms
end_formula frames forms = stuck

abbrev pub is_either : List ℕ → List ℕ → Symbol → Bool
is_either one other s = if is_the_sign one s then is_the_sign one s else is_the_sign other s

abbrev pub take_next : Symbol → List Frame → List FormulaForm → Move
take_next s frames forms =
    if is_either (codes "&") (codes "&&") s then take_operator And 4 frames forms
    else (if is_either (codes "|") (codes "||") s then take_operator Or 3 frames forms
    else (if is_the_sign (codes "->") s then take_operator Implies 3 frames forms
    else (if is_the_sign (codes "<->") s then take_operator Same 1 frames forms
    else (if is_the_sign (codes ")") s then close_bracket (kept 1 frames) (forms ++ passed 1 frames)
    else (if is_the_sign (codes ";") s then end_formula (kept 1 frames) (forms ++ passed 1 frames) else stuck)))))

abbrev pub step : State → Symbol → Move
step (waiting frames forms) s = take_operand s frames forms
step (holding frames forms) s = take_next s frames forms

-- what follows a move at a symbol: going on, the nodes of the whole formula, or a fault
abbrev pub follow : Move → Symbol → List Symbol → (State → Outcome (List FormulaForm)) → Outcome (List FormulaForm)
follow (go state) s rest go_on = go_on state
follow (finish forms) s rest go_on = got forms (s ∷ rest)
follow stuck s rest go_on = fault (s ∷ rest)

abbrev pub run : State → List Symbol → Outcome (List FormulaForm)
run state [] = fault []
run state (s ∷ rest) = follow (step state s) s rest (λ later. run later rest)

-- from nothing open
unfoldable pub formula_reading : List Symbol → Outcome (List FormulaForm)
formula_reading symbols = run (waiting [] []) symbols
