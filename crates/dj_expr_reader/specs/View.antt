-- The state of the machine in the code.
use Rattle.std.specs.Prelude.{◌≡◌, ℕ, ◌+◌, ◌<◌, List, [], ◌∷◌, map, Option, Some, None}
use Rattle.dj_lexer.specs.Symbols.{symbol_of}
use Rattle.dj_lexer.specs.declared.token.Token.{Token}
use Rattle.dj_tree.specs.Trees.{Spot, VariableForm, ThisForm, NullForm, FieldForm, CallForm, NewForm, CastForm, AssignForm, OriginalForm}
use Rattle.dj_reader.specs.Terminals.{spot_of}
use Rattle.dj_expr_reader.specs.declared.machine.ExprMark.{ExprMark}
use Rattle.dj_expr_reader.specs.declared.machine.ExprMark.TheVariants as node
use Rattle.dj_expr_reader.specs.declared.machine.Callee.{Callee}
use Rattle.dj_expr_reader.specs.declared.machine.Callee.TheVariants.{Method, Original}
use Rattle.dj_expr_reader.specs.declared.machine.Frame.{Frame}
use Rattle.dj_expr_reader.specs.declared.machine.Frame.TheVariants.{Bracket, Cast, Assign, Arguments}
use Rattle.dj_expr_reader.specs.declared.machine.Mode.{Mode}
use Rattle.dj_expr_reader.specs.declared.machine.Mode.TheVariants.{Waiting, Opened, OpenedName, ClosedName, Named, New, NewClass, NewOpened, Holding, Dotted, Member, Called}
use Rattle.dj_expr_reader.specs.declared.machine.Machine.{Machine}
use Rattle.dj_expr_reader.specs.declared.machine.Turn.{Turn}
use Rattle.dj_expr_reader.specs.declared.machine.Turn.TheVariants.{Goes, Ends, Stops}
use Rattle.dj_expr_reader.specs.Marks.{Mark}
use Rattle.dj_expr_reader.specs.Machine as plain
use Rattle.dj_expr_reader.specs.Machine.{Move, go, finish, stuck}

-- a name, and the place of a keyword, in a text
abbrev pub name_at : List ℕ → Token → Spot
name_at bytes token = spot_of (symbol_of bytes token)

-- the node that a mark stands for
abbrev pub plain_mark : List ℕ → ExprMark → Mark
plain_mark bytes (node.Variable x) = (VariableForm (name_at bytes x), 0)
plain_mark bytes (node.This token) = (ThisForm token.from, 0)
plain_mark bytes (node.Null token) = (NullForm token.from, 0)
plain_mark bytes (node.Field f) = (FieldForm (name_at bytes f), 1)
plain_mark bytes (node.Call m arguments) = (CallForm (name_at bytes m), arguments + 1)
plain_mark bytes (node.New class) = (NewForm (name_at bytes class), 0)
plain_mark bytes (node.Cast class) = (CastForm (name_at bytes class), 1)
plain_mark bytes (node.Assign f) = (AssignForm (name_at bytes f), 2)
plain_mark bytes (node.Original token arguments) = (OriginalForm token.from, arguments)

abbrev pub plain_marks : List ℕ → List ExprMark → List Mark
plain_marks bytes marks = map (plain_mark bytes) marks

abbrev pub plain_callee : List ℕ → Callee → plain.Callee
plain_callee bytes (Method m) = plain.Method (name_at bytes m)
plain_callee bytes (Original token) = plain.Original token.from

abbrev pub plain_frame : List ℕ → Frame → plain.Frame
plain_frame bytes Bracket = plain.Bracket
plain_frame bytes (Cast class) = plain.Cast (name_at bytes class)
plain_frame bytes (Assign f) = plain.Assign (name_at bytes f)
plain_frame bytes (Arguments callee count) = plain.Arguments (plain_callee bytes callee) count

abbrev pub plain_frames : List ℕ → List Frame → List plain.Frame
plain_frames bytes frames = map (plain_frame bytes) frames

abbrev pub plain_mode : List ℕ → Mode → plain.Mode
plain_mode bytes Waiting = plain.Waiting
plain_mode bytes Opened = plain.Opened
plain_mode bytes (OpenedName x) = plain.OpenedName (name_at bytes x)
plain_mode bytes (ClosedName x) = plain.ClosedName (name_at bytes x)
plain_mode bytes (Named x) = plain.Named (name_at bytes x)
plain_mode bytes New = plain.New
plain_mode bytes (NewClass class) = plain.NewClass (name_at bytes class)
plain_mode bytes (NewOpened class) = plain.NewOpened (name_at bytes class)
plain_mode bytes Holding = plain.Holding
plain_mode bytes Dotted = plain.Dotted
plain_mode bytes (Member f) = plain.Member (name_at bytes f)
plain_mode bytes (Called callee) = plain.Called (plain_callee bytes callee)

-- what a turn left the machine with
abbrev pub plain_move : List ℕ → Turn → Machine → Move
plain_move bytes Goes m = go (plain_mode bytes m.mode) (plain_frames bytes m.frames) (plain_marks bytes m.marks.items)
plain_move bytes Ends m = finish (plain_marks bytes m.marks.items)
plain_move bytes Stops m = stuck

-- a cast or an assignment on top is taken off, and leaves its mark
abbrev pub Finishes : List Frame → Option ExprMark → List Frame → Type 0
Finishes (Cast class ∷ frames) mark new = (mark ≡ Some (node.Cast class)) × (new ≡ frames)
Finishes (Assign f ∷ frames) mark new = (mark ≡ Some (node.Assign f)) × (new ≡ frames)
Finishes old mark new = (mark ≡ None) × (new ≡ old)

-- no arguments that are open have as many complete ones
abbrev pub CountsBelow : ℕ → List Frame → Type 0
CountsBelow most [] = Unit {0}
CountsBelow most (Bracket ∷ frames) = CountsBelow most frames
CountsBelow most (Cast class ∷ frames) = CountsBelow most frames
CountsBelow most (Assign f ∷ frames) = CountsBelow most frames
CountsBelow most (Arguments callee count ∷ frames) = (count < most) × CountsBelow most frames

-- one more argument can be counted wherever arguments are open
abbrev pub CanCount : List Frame → Type 0
CanCount frames = CountsBelow 4294967295 frames
