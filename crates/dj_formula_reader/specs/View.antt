-- The state of the machine in the code.
use Rattle.std.specs.Prelude.{◌≡◌, ℕ, List, [], ◌∷◌, map, Option, Some, None, if◌then◌else◌}
use Rattle.dj_lexer.specs.Symbols.{symbol_of}
use Rattle.dj_tree.specs.Trees.{FormulaForm, TrueForm, FalseForm, FeatureForm, NotForm, AndForm, OrForm, ImpliesForm, SameForm}
use Rattle.dj_reader.specs.Terminals.{spot_of}
use Rattle.dj_formula_reader.specs.declared.machine.Frame.{Frame}
use Rattle.dj_formula_reader.specs.declared.machine.FormulaMark.{FormulaMark}
use Rattle.dj_formula_reader.specs.declared.machine.FormulaMark.TheVariants.{True, False, Feature, Not, And, Or, Implies, Same}
use Rattle.dj_formula_reader.specs.declared.machine.Machine.{Machine}
use Rattle.dj_formula_reader.specs.declared.machine.Turn.{Turn}
use Rattle.dj_formula_reader.specs.declared.machine.Turn.TheVariants.{Goes, Ends, Stops}
use Rattle.dj_formula_reader.specs.Machine.{State, waiting, holding, Move, go, finish, stuck, kept, passed}

-- the node that a mark stands for, in a text
abbrev pub form_of : List ℕ → FormulaMark → FormulaForm
form_of bytes True = TrueForm
form_of bytes False = FalseForm
form_of bytes (Feature token) = FeatureForm (spot_of (symbol_of bytes token))
form_of bytes Not = NotForm
form_of bytes And = AndForm
form_of bytes Or = OrForm
form_of bytes Implies = ImpliesForm
form_of bytes Same = SameForm

abbrev pub forms_of : List ℕ → List FormulaMark → List FormulaForm
forms_of bytes marks = map (form_of bytes) marks

abbrev pub state_of : List ℕ → Machine → State
state_of bytes m = if m.is_waiting then waiting m.frames (forms_of bytes m.marks.items) else holding m.frames (forms_of bytes m.marks.items)

abbrev pub move_of : List ℕ → Turn → Machine → Move
move_of bytes Goes m = go (state_of bytes m)
move_of bytes Ends m = finish (forms_of bytes m.marks.items)
move_of bytes Stops m = stuck

-- the operator on top is finished, where it binds as tightly as the rank, and leaves a mark
abbrev pub Finishes : List ℕ → ℕ → List Frame → Option FormulaMark → List Frame → Type 0
Finishes bytes rank old None new = (new ≡ old) × (kept rank old ≡ old) × (passed rank old ≡ [])
Finishes bytes rank old (Some mark) new = ((top : Frame) × (old ≡ top ∷ new)) × (kept rank old ≡ kept rank new) × (passed rank old ≡ form_of bytes mark ∷ passed rank new)
