-- What the grammar spells is read.
use Rattle.std.proofs.Common.{◌≡◌, ℕ, ◌+◌, List, [], ◌∷◌, ◌++◌, length, refl, sym, ap, ap₂, subst, ◌∙◌, append_assoc, arith}
use Rattle.std.proofs.lemmas.List.{append-nil}
use Rattle.std.specs.Prelude.{codes}
use Rattle.arena_walk.specs.Tree.{trees_of, list_of}
use Rattle.arena_walk.proofs.Visitors.{list_of-trees_of}
use Rattle.dj_lexer.specs.Symbols.{Symbol}
use Rattle.dj_lexer.specs.declared.token.Dialect.{Dialect}
use Rattle.dj_lexer.specs.declared.token.Dialect.TheVariants.{Line}
use Rattle.dj_tree.specs.Words.{word, sign, named, IsName, is_reserved}
use Rattle.dj_tree.specs.Trees.{Spot, Expr, variable, field_of, call_of, new_of, cast_to, assignment, original_at, VariableForm, FieldForm, CallForm, CastForm, AssignForm, OriginalForm}
use Rattle.dj_tree.specs.ExprGrammar as grammar
use Rattle.dj_tree.specs.ExprGrammar.{ExprLevel, Whole, Unary, Postfix, Primary, SpellsAt, SpellsArguments, SpellsEach}
use Rattle.dj_expr_reader.specs.Marks.{Mark, marks_of, marks_each}
use Rattle.dj_expr_reader.specs.Machine.{Callee, Method, Original, Frame, Bracket, Cast, Assign, Arguments, call_mark, kept, passed, Waiting, Opened, ClosedName, Named, Holding, Called, go, take_operand, take_next, take_after_name, begin_value, step, run}
use Rattle.dj_expr_reader.proofs.Frames.{AllPass, Keeps, NoCast, and_one, passed-and_one, kept-top, passed-top}
use Rattle.dj_expr_reader.proofs.Begins.{Begun, single, name_first, other_first, begun, First, first_of_all, first_of_each}
use Rattle.dj_reader.proofs.Symbols.{not_word}

-- what may come behind an operand
pub data Follower : Symbol → Type 0 where
  dot : (at : ℕ) → Follower (sign (codes ".") at)
  closes : (at : ℕ) → Follower (sign (codes ")") at)
  comma : (at : ℕ) → Follower (sign (codes ",") at)
  semicolon : (at : ℕ) → Follower (sign (codes ";") at)

-- The machine has taken the symbols of an operand, with all that binds to it: it holds it, and nothing is open that wasn't.
pub record Taken (d : Dialect) (frames : List Frame) (marks : List Mark) (s : List Symbol) (e : Expr) : Type 0 where
  pub runs : (t : Symbol) (rest : List Symbol) → Follower t
      → run d Waiting frames marks (s ++ t ∷ rest) ≡ run d Holding frames (marks ++ marks_of e) (t ∷ rest)

-- The machine has taken the symbols of an expression: it holds an operand, and casts and assignments on top finish the expression.
pub record Settled (d : Dialect) (frames : List Frame) (marks : List Mark) (s : List Symbol) (e : Expr) : Type 0 where
  pub opened : List Frame
  pub made : List Mark
  pub pass : AllPass opened
  pub whole : made ++ passed opened ≡ marks_of e
  pub runs : (t : Symbol) (rest : List Symbol) → Follower t
      → run d Waiting frames marks (s ++ t ∷ rest) ≡ run d Holding (opened ++ frames) (marks ++ made) (t ∷ rest)

-- the same of the arguments of a call, so many before the last
pub record Listed (d : Dialect) (callee : Callee) (frames : List Frame) (marks : List Mark) (s : List Symbol) (es : List Expr) : Type 0 where
  pub opened : List Frame
  pub made : List Mark
  pub before : ℕ
  pub count : before + 1 ≡ length es
  pub pass : AllPass opened
  pub whole : made ++ passed opened ≡ marks_each (trees_of es)
  pub runs : (t : Symbol) (rest : List Symbol) → Follower t
      → run d Waiting (Arguments callee 0 ∷ frames) marks (s ++ t ∷ rest) ≡ run d Holding (opened ++ Arguments callee before ∷ frames) (marks ++ made) (t ∷ rest)

-- ---- what finishes a list of marks

-- what holds an operand that what is open on top finishes
pub finished : (opened frames : List Frame) (marks made whole : List Mark) → AllPass opened → Keeps frames → made ++ passed opened ≡ whole
    → (kept (opened ++ frames) ≡ frames) × ((marks ++ made) ++ passed (opened ++ frames) ≡ marks ++ whole)
finished opened frames marks made whole a k e = (
  kept-top opened frames a k,
  ap (λ l. (marks ++ made) ++ l) (passed-top opened frames a k) ∙ append_assoc marks made (passed opened) ∙ ap (λ l. marks ++ l) e,
)

-- ---- names

name_step : (x : Spot) → IsName x → (frames : List Frame) (marks : List Mark) → take_operand (named x) frames marks ≡ go (Named x) frames marks
unfolding is_reserved
name_step x i frames marks = rw (not_word x i (codes "this") refl, not_word x i (codes "null") refl, not_word x i (codes "new") refl, i) refl

name_followed : (d : Dialect) (x : Spot) (frames : List Frame) (marks : List Mark) (t : Symbol) → Follower t
    → take_after_name d x t frames marks ≡ take_next t frames (marks ++ (VariableForm x, 0) ∷ [])
name_followed d x frames marks t (dot at) = refl
name_followed d x frames marks t (closes at) = refl
name_followed d x frames marks t (comma at) = refl
name_followed d x frames marks t (semicolon at) = refl

-- ---- primaries

variable_taken : (d : Dialect) (frames : List Frame) (marks : List Mark) (x : Spot) → IsName x → Taken d frames marks (named x ∷ []) (variable x)
variable_taken d frames marks x i = record { runs = λ t rest f. rw (name_step x i frames marks, name_followed d x frames marks t f) refl }

object_taken : (d : Dialect) (frames : List Frame) (marks : List Mark) (at o c : ℕ) (class : Spot) → IsName class
    → Taken d frames marks (word (codes "new") at ∷ named class ∷ sign (codes "(") o ∷ sign (codes ")") c ∷ []) (new_of class)
object_taken d frames marks at o c class i = record { runs = λ t rest f. rw i refl }

-- in a bracket that may be a cast
in_bracket : (d : Dialect) (frames : List Frame) (marks : List Mark) {s : List Symbol} {e : Expr} → Begun s e → Settled d (Bracket ∷ frames) marks s e → (c : ℕ) (t : Symbol) (rest : List Symbol)
    → Follower t → run d Opened frames marks (s ++ sign (codes ")") c ∷ t ∷ rest) ≡ run d Holding frames (marks ++ marks_of e) (t ∷ rest)
in_bracket d frames marks {s = s} {e = e} b x c t rest f = elim_begun b x
  where
    closed_name : (x : Spot) (u : Symbol) → Follower u → step d (ClosedName x) frames marks u ≡ take_next u frames (marks ++ (VariableForm x, 0) ∷ [])
    closed_name x u (dot at) = refl
    closed_name x u (closes at) = refl
    closed_name x u (comma at) = refl
    closed_name x u (semicolon at) = refl

    closing : {s : List Symbol} {e : Expr} (x : Settled d (Bracket ∷ frames) marks s e)
        → run d Holding (x.opened ++ Bracket ∷ frames) (marks ++ x.made) (sign (codes ")") c ∷ t ∷ rest) ≡ run d Holding frames (marks ++ marks_of e) (t ∷ rest)
    closing {e = e} x = let done = finished x.opened (Bracket ∷ frames) marks x.made (marks_of e) x.pass tt x.whole in rw (done.0, done.1) refl

    elim_begun : {s : List Symbol} {e : Expr} → Begun s e → Settled d (Bracket ∷ frames) marks s e
        → run d Opened frames marks (s ++ sign (codes ")") c ∷ t ∷ rest) ≡ run d Holding frames (marks ++ marks_of e) (t ∷ rest)
    elim_begun (single x i) y = rw (i, closed_name x t f) refl
    elim_begun (name_first x i u more h) y =
        let same : run d Opened frames marks (named x ∷ u ∷ more ++ sign (codes ")") c ∷ t ∷ rest) ≡ run d Waiting (Bracket ∷ frames) marks (named x ∷ u ∷ more ++ sign (codes ")") c ∷ t ∷ rest)
        = rw (name_step x i (Bracket ∷ frames) marks, i, h) refl in
        same ∙ y.runs (sign (codes ")") c) (t ∷ rest) (closes c) ∙ closing y
    elim_begun (other_first u more n b o) y =
        let same : run d Opened frames marks (u ∷ more ++ sign (codes ")") c ∷ t ∷ rest) ≡ run d Waiting (Bracket ∷ frames) marks (u ∷ more ++ sign (codes ")") c ∷ t ∷ rest) = rw n refl in
        same ∙ y.runs (sign (codes ")") c) (t ∷ rest) (closes c) ∙ closing y

bracket_taken : (d : Dialect) (frames : List Frame) (marks : List Mark) {s : List Symbol} {e : Expr} (o c : ℕ) → Begun s e → Settled d (Bracket ∷ frames) marks s e
    → Taken d frames marks (sign (codes "(") o ∷ (s ++ sign (codes ")") c ∷ [])) e
bracket_taken d frames marks {s = s} o c b x =
    record { runs = λ t rest f. ap (run d Opened frames marks) (append_assoc s (sign (codes ")") c ∷ []) (t ∷ rest)) ∙ in_bracket d frames marks b x c t rest f }

-- ---- arguments

-- once the bracket before them was taken
pub record Passed (d : Dialect) (callee : Callee) (frames : List Frame) (marks : List Mark) (s : List Symbol) (es : List Expr) : Type 0 where
  pub runs : (c : ℕ) (rest : List Symbol)
      → run d (Called callee) frames marks (s ++ sign (codes ")") c ∷ rest) ≡ run d Holding frames (marks ++ (marks_each (trees_of es) ++ call_mark callee (length es) ∷ [])) rest

begin_arguments : (d : Dialect) (callee : Callee) (frames : List Frame) (marks : List Mark) {s : List Symbol} → First s → (rest : List Symbol)
    → run d (Called callee) frames marks (s ++ rest) ≡ run d Waiting (Arguments callee 0 ∷ frames) marks (s ++ rest)
begin_arguments d callee frames marks {s = s} f rest =
    let begun_so : run d (Called callee) frames marks (f.symbol ∷ f.rest ++ rest) ≡ run d Waiting (Arguments callee 0 ∷ frames) marks (f.symbol ∷ f.rest ++ rest) = rw f.opens refl in
    subst (λ l. run d (Called callee) frames marks (l ++ rest) ≡ run d Waiting (Arguments callee 0 ∷ frames) marks (l ++ rest)) (sym f.is) begun_so

listed_passed : (d : Dialect) (callee : Callee) (frames : List Frame) (marks : List Mark) {s : List Symbol} {es : List Expr} → First s → Listed d callee frames marks s es → Passed d callee frames marks s es
listed_passed d callee frames marks {s = s} {es = es} f x =
    record { runs = λ c rest. begin_arguments d callee frames marks f (sign (codes ")") c ∷ rest) ∙ x.runs (sign (codes ")") c) rest (closes c) ∙ closing c rest }
  where
    closing : (c : ℕ) (rest : List Symbol) → run d Holding (x.opened ++ Arguments callee x.before ∷ frames) (marks ++ x.made) (sign (codes ")") c ∷ rest)
        ≡ run d Holding frames (marks ++ (marks_each (trees_of es) ++ call_mark callee (length es) ∷ [])) rest
    closing c rest =
        let done = finished x.opened (Arguments callee x.before ∷ frames) marks x.made (marks_each (trees_of es)) x.pass tt x.whole in
        rw (done.0, done.1, x.count) (ap (λ k. run d Holding frames k rest) (append_assoc marks (marks_each (trees_of es)) (call_mark callee (length es) ∷ [])))

one_listed : (d : Dialect) (callee : Callee) (frames : List Frame) (marks : List Mark) {s : List Symbol} {e : Expr} → Settled d (Arguments callee 0 ∷ frames) marks s e
    → Listed d callee frames marks s (e ∷ [])
one_listed d callee frames marks {e = e} x =
    record { opened = x.opened; made = x.made; before = 0; count = refl; pass = x.pass; whole = x.whole ∙ sym (append-nil (marks_of e)); runs = x.runs }

pub marks_each-and_one : (es : List Expr) (e : Expr) → marks_each (trees_of (es ++ e ∷ [])) ≡ marks_each (trees_of es) ++ marks_of e
marks_each-and_one [] e = append-nil (marks_of e)
marks_each-and_one (f ∷ es) e = ap (λ l. marks_of f ++ l) (marks_each-and_one es e) ∙ sym (append_assoc (marks_of f) (marks_each (trees_of es)) (marks_of e))

pub length-and_one : (es : List Expr) (e : Expr) → length (es ++ e ∷ []) ≡ length es + 1
length-and_one [] e = refl
length-and_one (f ∷ es) e = let shorter : length (es ++ e ∷ []) ≡ length es + 1 = length-and_one es e in omega (arith, shorter)

next_listed : (d : Dialect) (callee : Callee) (frames : List Frame) (marks : List Mark) {s t : List Symbol} {es : List Expr} {e : Expr} (at : ℕ) → Listed d callee frames marks s es
    → Settled d (Arguments callee (length es) ∷ frames) (marks ++ marks_each (trees_of es)) t e → Listed d callee frames marks (s ++ sign (codes ",") at ∷ t) (es ++ e ∷ [])
next_listed d callee frames marks {s = s} {t = t} {es = es} {e = e} at x y =
    record {
      opened = y.opened;
      made = marks_each (trees_of es) ++ y.made;
      before = length es;
      count = sym (length-and_one es e);
      pass = y.pass;
      whole = append_assoc (marks_each (trees_of es)) y.made (passed y.opened) ∙ ap (λ l. marks_each (trees_of es) ++ l) y.whole ∙ sym (marks_each-and_one es e);
      runs = λ u rest f.
          ap (run d Waiting (Arguments callee 0 ∷ frames) marks) (append_assoc s (sign (codes ",") at ∷ t) (u ∷ rest)) ∙ x.runs (sign (codes ",") at) (t ++ u ∷ rest) (comma at)
          ∙ next_step (t ++ u ∷ rest) ∙ y.runs u rest f
          ∙ ap (λ m. run d Holding (y.opened ++ Arguments callee (length es) ∷ frames) m (u ∷ rest)) (append_assoc marks (marks_each (trees_of es)) y.made);
    }
  where
    next_step : (rest : List Symbol) → run d Holding (x.opened ++ Arguments callee x.before ∷ frames) (marks ++ x.made) (sign (codes ",") at ∷ rest)
        ≡ run d Waiting (Arguments callee (length es) ∷ frames) (marks ++ marks_each (trees_of es)) rest
    next_step rest =
        let done = finished x.opened (Arguments callee x.before ∷ frames) marks x.made (marks_each (trees_of es)) x.pass tt x.whole in rw (done.0, done.1, x.count) refl

pub length-parts : (es : List Expr) → length (list_of (trees_of es)) ≡ length es
length-parts es = ap length (list_of-trees_of es)

-- ---- what binds to an operand

field_taken : (d : Dialect) (frames : List Frame) (marks : List Mark) {s : List Symbol} {e : Expr} (at : ℕ) (f : Spot) → IsName f → Taken d frames marks s e
    → Taken d frames marks (s ++ sign (codes ".") at ∷ named f ∷ []) (field_of e f)
field_taken d frames marks {s = s} {e = e} at f i x = record {
  runs = λ t rest k.
      ap (run d Waiting frames marks) (append_assoc s (sign (codes ".") at ∷ named f ∷ []) (t ∷ rest)) ∙ x.runs (sign (codes ".") at) (named f ∷ t ∷ rest) (dot at) ∙ member t rest k
      ∙ ap (λ m. run d Holding frames m (t ∷ rest))
      (append_assoc marks (marks_of e) ((FieldForm f, 1) ∷ []) ∙ ap (λ l. marks ++ (l ++ (FieldForm f, 1) ∷ [])) (sym (append-nil (marks_of e))));
}
  where
    member : (t : Symbol) (rest : List Symbol) → Follower t
        → run d Holding frames (marks ++ marks_of e) (sign (codes ".") at ∷ named f ∷ t ∷ rest) ≡ run d Holding frames ((marks ++ marks_of e) ++ (FieldForm f, 1) ∷ []) (t ∷ rest)
    member t rest (dot at) = rw i refl
    member t rest (closes at) = rw i refl
    member t rest (comma at) = rw i refl
    member t rest (semicolon at) = rw i refl

call_taken : (d : Dialect) (frames : List Frame) (marks : List Mark) {s t : List Symbol} {e : Expr} {es : List Expr} (at o c : ℕ) (m : Spot) → IsName m → Taken d frames marks s e
    → Passed d (Method m) frames (marks ++ marks_of e) t es
    → Taken d frames marks (s ++ sign (codes ".") at ∷ named m ∷ sign (codes "(") o ∷ (t ++ sign (codes ")") c ∷ [])) (call_of e m es)
call_taken d frames marks {s = s} {t = t} {e = e} {es = es} at o c m i x y = record {
  runs = λ u rest k.
      ap (run d Waiting frames marks)
      (append_assoc s (sign (codes ".") at ∷ named m ∷ sign (codes "(") o ∷ (t ++ sign (codes ")") c ∷ [])) (u ∷ rest)
      ∙ ap (λ l. s ++ sign (codes ".") at ∷ named m ∷ sign (codes "(") o ∷ l) (append_assoc t (sign (codes ")") c ∷ []) (u ∷ rest)))
      ∙ x.runs (sign (codes ".") at) (named m ∷ sign (codes "(") o ∷ t ++ sign (codes ")") c ∷ u ∷ rest) (dot at) ∙ called (t ++ sign (codes ")") c ∷ u ∷ rest) ∙ y.runs c (u ∷ rest)
      ∙ ap (λ l. run d Holding frames l (u ∷ rest))
      (append_assoc marks (marks_of e) (marks_each (trees_of es) ++ (CallForm m, length es + 1) ∷ [])
      ∙ ap (λ l. marks ++ l) (sym (append_assoc (marks_of e) (marks_each (trees_of es)) ((CallForm m, length es + 1) ∷ []))) ∙ ap (λ n. marks ++ ((marks_of e ++ marks_each (trees_of es)) ++ (CallForm m, n) ∷ [])) counted);
}
  where
    called : (rest : List Symbol) → run d Holding frames (marks ++ marks_of e) (sign (codes ".") at ∷ named m ∷ sign (codes "(") o ∷ rest) ≡ run d (Called (Method m)) frames (marks ++ marks_of e) rest
    called rest = rw i refl

    counted : length es + 1 ≡ length (list_of (trees_of (e ∷ es)))
    counted = ap (λ k. k + 1) (sym (length-parts es)) ∙ omega arith

original_taken : (frames : List Frame) (marks : List Mark) {t : List Symbol} {es : List Expr} (at o c : ℕ) → Passed Line (Original at) frames marks t es
    → Taken Line frames marks (word (codes "original") at ∷ sign (codes "(") o ∷ (t ++ sign (codes ")") c ∷ [])) (original_at at es)
unfolding is_reserved
original_taken frames marks {t = t} {es = es} at o c y = record {
  runs = λ u rest k.
      ap (run Line (Called (Original at)) frames marks) (append_assoc t (sign (codes ")") c ∷ []) (u ∷ rest)) ∙ y.runs c (u ∷ rest)
      ∙ ap (λ n. run Line Holding frames (marks ++ (marks_each (trees_of es) ++ (OriginalForm at, n) ∷ [])) (u ∷ rest)) (sym (length-parts es));
}

-- ---- casts, assignments

cast_settled : (d : Dialect) (frames : List Frame) (marks : List Mark) {s : List Symbol} {e : Expr} (o c : ℕ) (class : Spot) → IsName class → First s → Settled d (Cast class ∷ frames) marks s e
    → Settled d frames marks (sign (codes "(") o ∷ named class ∷ sign (codes ")") c ∷ s) (cast_to class e)
cast_settled d frames marks {s = s} {e = e} o c class i f x =
    record {
      opened = x.opened ++ Cast class ∷ [];
      made = x.made;
      pass = and_one x.opened (Cast class) x.pass tt;
      whole =
          ap (λ k. x.made ++ k) (passed-and_one x.opened (Cast class) x.pass) ∙ sym (append_assoc x.made (passed x.opened) ((CastForm class, 1) ∷ []))
          ∙ ap (λ k. k ++ (CastForm class, 1) ∷ []) (x.whole ∙ sym (append-nil (marks_of e)));
      runs = λ t rest k. begin_operand (t ∷ rest) ∙ x.runs t rest k ∙ ap (λ l. run d Holding l (marks ++ x.made) (t ∷ rest)) (sym (append_assoc x.opened (Cast class ∷ []) frames));
    }
  where
    begin_operand : (rest : List Symbol) → run d Waiting frames marks (sign (codes "(") o ∷ named class ∷ sign (codes ")") c ∷ s ++ rest) ≡ run d Waiting (Cast class ∷ frames) marks (s ++ rest)
    begin_operand rest =
        let to_name : run d Waiting frames marks (sign (codes "(") o ∷ named class ∷ sign (codes ")") c ∷ s ++ rest) ≡ run d (ClosedName class) frames marks (s ++ rest) = rw i refl in
        let begun_so : run d (ClosedName class) frames marks (f.symbol ∷ f.rest ++ rest) ≡ run d Waiting (Cast class ∷ frames) marks (f.symbol ∷ f.rest ++ rest) = rw f.begins refl in
        to_name ∙ subst (λ l. run d (ClosedName class) frames marks (l ++ rest) ≡ run d Waiting (Cast class ∷ frames) marks (l ++ rest)) (sym f.is) begun_so

value_step : (f : Spot) (frames : List Frame) (marks : List Mark) → NoCast frames → begin_value f frames marks ≡ go Waiting (Assign f ∷ frames) marks
value_step f [] marks n = refl
value_step f (Bracket ∷ frames) marks n = refl
value_step f (Cast class ∷ frames) marks n = absurd n
value_step f (Assign g ∷ frames) marks n = refl
value_step f (Arguments callee count ∷ frames) marks n = refl

assigned_settled : (d : Dialect) (frames : List Frame) (marks : List Mark) {s t : List Symbol} {e v : Expr} (at equals : ℕ) (f : Spot) → IsName f → NoCast frames → Taken d frames marks s e
    → Settled d (Assign f ∷ frames) (marks ++ marks_of e) t v → Settled d frames marks (s ++ sign (codes ".") at ∷ named f ∷ sign (codes "=") equals ∷ t) (assignment e f v)
assigned_settled d frames marks {s = s} {t = t} {e = e} {v = v} at equals f i n x y =
    record {
      opened = y.opened ++ Assign f ∷ [];
      made = marks_of e ++ y.made;
      pass = and_one y.opened (Assign f) y.pass tt;
      whole =
          ap (λ k. (marks_of e ++ y.made) ++ k) (passed-and_one y.opened (Assign f) y.pass) ∙ sym (append_assoc (marks_of e ++ y.made) (passed y.opened) ((AssignForm f, 2) ∷ []))
          ∙ ap (λ k. k ++ (AssignForm f, 2) ∷ []) (append_assoc (marks_of e) y.made (passed y.opened) ∙ ap (λ k. marks_of e ++ k) (y.whole ∙ sym (append-nil (marks_of v))));
      runs = λ u rest k.
          ap (run d Waiting frames marks) (append_assoc s (sign (codes ".") at ∷ named f ∷ sign (codes "=") equals ∷ t) (u ∷ rest))
          ∙ x.runs (sign (codes ".") at) (named f ∷ sign (codes "=") equals ∷ t ++ u ∷ rest) (dot at) ∙ to_value (t ++ u ∷ rest) ∙ y.runs u rest k
          ∙ ap₂ (λ l m. run d Holding l m (u ∷ rest)) (sym (append_assoc y.opened (Assign f ∷ []) frames)) (append_assoc marks (marks_of e) y.made);
    }
  where
    to_value : (rest : List Symbol) → run d Holding frames (marks ++ marks_of e) (sign (codes ".") at ∷ named f ∷ sign (codes "=") equals ∷ rest) ≡ run d Waiting (Assign f ∷ frames) (marks ++ marks_of e) rest
    to_value rest = rw (i, value_step f frames (marks ++ marks_of e) n) refl

postfix_settled : (d : Dialect) (frames : List Frame) (marks : List Mark) {s : List Symbol} {e : Expr} → Taken d frames marks s e → Settled d frames marks s e
postfix_settled d frames marks {e = e} x = record { opened = []; made = marks_of e; pass = tt; whole = append-nil (marks_of e); runs = x.runs }

-- ---- all productions

-- what is read at a level
abbrev pub Reads : ExprLevel → Dialect → List Frame → List Mark → List Symbol → Expr → Type 0
Reads Whole d frames marks s e = NoCast frames → Settled d frames marks s e
Reads Unary d frames marks s e = Settled d frames marks s e
Reads Postfix d frames marks s e = Taken d frames marks s e
Reads Primary d frames marks s e = Taken d frames marks s e

mutual
  pub settle : {d : Dialect} {l : ExprLevel} {s : List Symbol} {e : Expr} → SpellsAt d l s e → (frames : List Frame) (marks : List Mark) → Reads l d frames marks s e
  settle (grammar.assigned {d = d} {e = e} at equals f i x y) frames marks =
      λ n. assigned_settled d frames marks at equals f i n (settle x frames marks) (settle y (Assign f ∷ frames) (marks ++ marks_of e) tt)
  settle (grammar.one_unary x) frames marks = λ n. settle x frames marks
  settle (grammar.cast {d = d} o c class i x) frames marks = cast_settled d frames marks o c class i (first_of_all (begun x)) (settle x (Cast class ∷ frames) marks)
  settle (grammar.one_postfix {d = d} x) frames marks = postfix_settled d frames marks (settle x frames marks)
  settle (grammar.field {d = d} at f i x) frames marks = field_taken d frames marks at f i (settle x frames marks)
  settle (grammar.call {d = d} {e = e} at o c m i x y) frames marks =
      call_taken d frames marks at o c m i (settle x frames marks) (settle_arguments y (Method m) frames (marks ++ marks_of e))
  settle (grammar.one_primary x) frames marks = settle x frames marks
  settle (grammar.this_word at) frames marks = record { runs = λ t rest f. refl }
  settle (grammar.null_word at) frames marks = record { runs = λ t rest f. refl }
  settle (grammar.variable_name {d = d} x i) frames marks = variable_taken d frames marks x i
  settle (grammar.original at o c y) frames marks = original_taken frames marks at o c (settle_arguments y (Original at) frames marks)
  settle (grammar.new_object {d = d} at o c class i) frames marks = object_taken d frames marks at o c class i
  settle (grammar.in_parentheses {d = d} o c x) frames marks = bracket_taken d frames marks o c (begun x) (settle x (Bracket ∷ frames) marks tt)

  settle_arguments : {d : Dialect} {s : List Symbol} {es : List Expr} → SpellsArguments d s es → (callee : Callee) (frames : List Frame) (marks : List Mark) → Passed d callee frames marks s es
  settle_arguments grammar.no_arguments callee frames marks = record { runs = λ c rest. refl }
  settle_arguments (grammar.some_arguments {d = d} y) callee frames marks = listed_passed d callee frames marks (first_of_each y) (settle_each y callee frames marks)

  settle_each : {d : Dialect} {s : List Symbol} {es : List Expr} → SpellsEach d s es → (callee : Callee) (frames : List Frame) (marks : List Mark) → Listed d callee frames marks s es
  settle_each (grammar.one {d = d} x) callee frames marks = one_listed d callee frames marks (settle x (Arguments callee 0 ∷ frames) marks tt)
  settle_each (grammar.next {d = d} {es = es} at x y) callee frames marks =
      next_listed d callee frames marks at (settle_each x callee frames marks) (settle y (Arguments callee (length es) ∷ frames) (marks ++ marks_each (trees_of es)) tt)
