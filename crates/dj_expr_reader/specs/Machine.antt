-- A machine that takes the symbols of an expression one by one. It never looks ahead: what a prefix leaves open is decided by the next symbol.
use Rattle.std.specs.Prelude.{ℕ, ◌+◌, Bool, false, ◌&&◌, ◌||◌, List, [], ◌∷◌, ◌++◌, codes, if◌then◌else◌}
use Rattle.std.specs.Str.{bytes_eq}
use Rattle.dj_lexer.specs.Symbols.{Symbol}
use Rattle.dj_lexer.specs.declared.token.Dialect.{Dialect}
use Rattle.dj_lexer.specs.declared.token.Dialect.TheVariants.{Line, Java}
use Rattle.dj_tree.specs.Trees.{Spot, VariableForm, ThisForm, NullForm, FieldForm, CallForm, NewForm, CastForm, AssignForm, OriginalForm}
use Rattle.dj_reader.specs.Terminals.{is_the_word, is_the_sign, is_a_name, spot_of}
use Rattle.dj_reader.specs.Reading.{Outcome, got, fault}
use Rattle.dj_expr_reader.specs.Marks.{Mark}

-- what is called: a method, or the method body before, where that is asked for
pub data Callee : Type 0 where
  Method : Spot → Callee
  Original : ℕ → Callee

-- What is open: a bracket around an expression, a cast before its operand, an assignment before its value, or arguments with the number of complete ones.
pub data Frame : Type 0 where
  Bracket : Frame
  Cast : Spot → Frame
  Assign : Spot → Frame
  Arguments : Callee → ℕ → Frame

-- the node of a call
abbrev pub call_mark : Callee → ℕ → Mark
call_mark (Method m) count = (CallForm m, count + 1)
call_mark (Original at) count = (OriginalForm at, count)

-- what is open once the casts and assignments on top are finished, and the nodes that they leave
abbrev pub kept : List Frame → List Frame
kept [] = []
kept (Bracket ∷ frames) = Bracket ∷ frames
kept (Cast class ∷ frames) = kept frames
kept (Assign f ∷ frames) = kept frames
kept (Arguments callee count ∷ frames) = Arguments callee count ∷ frames

abbrev pub passed : List Frame → List Mark
passed [] = []
passed (Bracket ∷ frames) = []
passed (Cast class ∷ frames) = (CastForm class, 1) ∷ passed frames
passed (Assign f ∷ frames) = (AssignForm f, 2) ∷ passed frames
passed (Arguments callee count ∷ frames) = []

-- what was taken last
pub data Mode : Type 0 where
  -- an operand comes next
  Waiting : Mode
  -- `(`, which begins a cast or stands around an expression; then a name; then `)`
  Opened : Mode
  OpenedName : Spot → Mode
  ClosedName : Spot → Mode
  -- a name
  Named : Spot → Mode
  -- `new`; then a class; then `(`
  New : Mode
  NewClass : Spot → Mode
  NewOpened : Spot → Mode
  -- an operand with all that is behind it; then `.`; then a name
  Holding : Mode
  Dotted : Mode
  Member : Spot → Mode
  -- `(` before arguments
  Called : Callee → Mode

-- The machine goes on, with what is open, the innermost first, and the nodes so far. Or it ends, or the symbol is refused.
pub data Move : Type 0 where
  go : Mode → List Frame → List Mark → Move
  finish : List Mark → Move
  stuck : Move

abbrev pub begins_operand : Symbol → Bool
begins_operand s = is_a_name s || is_the_word (codes "this") s || is_the_word (codes "null") s || is_the_word (codes "new") s || is_the_sign (codes "(") s

abbrev pub take_operand : Symbol → List Frame → List Mark → Move
take_operand s frames marks =
    if is_the_sign (codes "(") s then go Opened frames marks
    else (if is_the_word (codes "this") s then go Holding frames (marks ++ (ThisForm s.at, 0) ∷ [])
    else (if is_the_word (codes "null") s then go Holding frames (marks ++ (NullForm s.at, 0) ∷ [])
    else (if is_the_word (codes "new") s then go New frames marks
    else (if is_a_name s then go (Named (spot_of s)) frames marks else stuck))))

abbrev pub close_bracket : List Frame → List Mark → Move
close_bracket (Bracket ∷ frames) marks = go Holding frames marks
close_bracket (Arguments callee count ∷ frames) marks = go Holding frames (marks ++ call_mark callee (count + 1) ∷ [])
close_bracket frames marks = stuck

abbrev pub next_argument : List Frame → List Mark → Move
next_argument (Arguments callee count ∷ frames) marks = go Waiting (Arguments callee (count + 1) ∷ frames) marks
next_argument frames marks = stuck

abbrev pub end_expression : List Frame → List Mark → Move
end_expression [] marks = finish marks
end_expression frames marks = stuck

-- behind an operand
abbrev pub take_next : Symbol → List Frame → List Mark → Move
take_next s frames marks =
    if is_the_sign (codes ".") s then go Dotted frames marks
    else (if is_the_sign (codes ")") s then close_bracket (kept frames) (marks ++ passed frames)
    else (if is_the_sign (codes ",") s then next_argument (kept frames) (marks ++ passed frames)
    else (if is_the_sign (codes ";") s then end_expression (kept frames) (marks ++ passed frames) else stuck)))

-- A word `original` may stand before arguments.
abbrev pub asks_for_original : Dialect → Spot → Bool
asks_for_original Line x = bytes_eq x.text (codes "original")
asks_for_original Java x = false

abbrev pub take_after_name : Dialect → Spot → Symbol → List Frame → List Mark → Move
take_after_name dialect x s frames marks =
    if is_the_sign (codes "(") s && asks_for_original dialect x then go (Called (Original x.at)) frames marks
    else take_next s frames (marks ++ (VariableForm x, 0) ∷ [])

-- An assignment is no operand of a cast.
abbrev pub begin_value : Spot → List Frame → List Mark → Move
begin_value f (Cast class ∷ frames) marks = stuck
begin_value f frames marks = go Waiting (Assign f ∷ frames) marks

abbrev pub take_after_member : Spot → Symbol → List Frame → List Mark → Move
take_after_member f s frames marks =
    if is_the_sign (codes "(") s then go (Called (Method f)) frames marks
    else (if is_the_sign (codes "=") s then begin_value f frames marks else take_next s frames (marks ++ (FieldForm f, 1) ∷ []))

-- behind `(`, behind a name after it, and behind `)` after that
abbrev pub take_opened : Symbol → List Frame → List Mark → Move
take_opened s frames marks = if is_a_name s then go (OpenedName (spot_of s)) frames marks else take_operand s (Bracket ∷ frames) marks

abbrev pub take_after_opened_name : Dialect → Spot → Symbol → List Frame → List Mark → Move
take_after_opened_name dialect x s frames marks =
    if is_the_sign (codes ")") s then go (ClosedName x) frames marks else take_after_name dialect x s (Bracket ∷ frames) marks

abbrev pub take_after_closed_name : Spot → Symbol → List Frame → List Mark → Move
take_after_closed_name x s frames marks = if begins_operand s then take_operand s (Cast x ∷ frames) marks else take_next s frames (marks ++ (VariableForm x, 0) ∷ [])

-- behind `new`, behind the class after it, and behind `(` after that
abbrev pub take_class : Symbol → List Frame → List Mark → Move
take_class s frames marks = if is_a_name s then go (NewClass (spot_of s)) frames marks else stuck

abbrev pub open_object : Spot → Symbol → List Frame → List Mark → Move
open_object class s frames marks = if is_the_sign (codes "(") s then go (NewOpened class) frames marks else stuck

abbrev pub close_object : Spot → Symbol → List Frame → List Mark → Move
close_object class s frames marks = if is_the_sign (codes ")") s then go Holding frames (marks ++ (NewForm class, 0) ∷ []) else stuck

-- behind `.`
abbrev pub take_member : Symbol → List Frame → List Mark → Move
take_member s frames marks = if is_a_name s then go (Member (spot_of s)) frames marks else stuck

-- behind `(` before arguments
abbrev pub take_argument : Callee → Symbol → List Frame → List Mark → Move
take_argument callee s frames marks =
    if is_the_sign (codes ")") s then go Holding frames (marks ++ call_mark callee 0 ∷ []) else take_operand s (Arguments callee 0 ∷ frames) marks

abbrev pub step : Dialect → Mode → List Frame → List Mark → Symbol → Move
step dialect Waiting frames marks s = take_operand s frames marks
step dialect Opened frames marks s = take_opened s frames marks
step dialect (OpenedName x) frames marks s = take_after_opened_name dialect x s frames marks
step dialect (ClosedName x) frames marks s = take_after_closed_name x s frames marks
step dialect (Named x) frames marks s = take_after_name dialect x s frames marks
step dialect New frames marks s = take_class s frames marks
step dialect (NewClass class) frames marks s = open_object class s frames marks
step dialect (NewOpened class) frames marks s = close_object class s frames marks
step dialect Holding frames marks s = take_next s frames marks
step dialect Dotted frames marks s = take_member s frames marks
step dialect (Member f) frames marks s = take_after_member f s frames marks
step dialect (Called callee) frames marks s = take_argument callee s frames marks

-- what follows a move at a symbol: going on, the nodes of the whole expression, or a fault
abbrev pub follow : Move → Symbol → List Symbol → (Mode → List Frame → List Mark → Outcome (List Mark)) → Outcome (List Mark)
follow (go mode frames marks) s rest go_on = go_on mode frames marks
follow (finish marks) s rest go_on = got marks (s ∷ rest)
follow stuck s rest go_on = fault (s ∷ rest)

abbrev pub run : Dialect → Mode → List Frame → List Mark → List Symbol → Outcome (List Mark)
run dialect mode frames marks [] = fault []
run dialect mode frames marks (s ∷ rest) =
    follow (step dialect mode frames marks s) s rest (λ next frames_then marks_then. run dialect next frames_then marks_then rest)

-- from nothing open
unfoldable pub expr_reading : Dialect → List Symbol → Outcome (List Mark)
expr_reading dialect symbols = run dialect Waiting [] [] symbols
