-- Each step of the machine goes on with the beginning of an expression, ends one, or is stuck.
use Rattle.std.proofs.Common.{◌≡◌, ℕ, ◌+◌, Bool, true, false, List, [], ◌∷◌, ◌++◌, length, refl, sym, ap, ap₂, subst, ◌∙◌, append_assoc}
use Rattle.std.proofs.lemmas.List.{append-nil}
use Rattle.std.specs.Prelude.{codes, ◌&&◌}
use Rattle.std.proofs.lemmas.Slice.Eq.{bytes_eq-Decides}
use Rattle.std.proofs.lemmas.Bool.{cond_both}
use Rattle.arena_walk.specs.Tree.{trees_of}
use Rattle.dj_lexer.specs.Symbols.{Symbol}
use Rattle.dj_lexer.specs.declared.token.Dialect.{Dialect}
use Rattle.dj_lexer.specs.declared.token.Dialect.TheVariants.{Line, Java}
use Rattle.dj_tree.specs.Words.{word, sign, named, IsName}
use Rattle.dj_tree.specs.Trees.{Spot, Expr, variable, this_at, null_at, field_of, new_of, VariableForm, FieldForm}
use Rattle.dj_tree.specs.ExprGrammar as grammar
use Rattle.dj_tree.specs.ExprGrammar.{ExprLevel, Whole, Unary, Postfix, Primary, SpellsAt, SpellsArguments, SpellsEach, SpellsExpr}
use Rattle.dj_reader.specs.Terminals.{is_the_word, is_the_sign, is_a_name, spot_of}
use Rattle.dj_reader.proofs.Symbols.{sign_is, word_is, name_is}
use Rattle.dj_expr_reader.specs.Marks.{Mark, marks_of, marks_each, SpellsMarks}
use Rattle.dj_expr_reader.specs.Machine.{Callee, Method, Original, Frame, Bracket, Cast, Assign, Arguments, call_mark, kept, passed, Mode, Waiting, Opened, OpenedName, ClosedName, Named, New, NewClass, NewOpened, Holding, Dotted, Member, Called, Move, go, finish, stuck, begins_operand, take_operand, close_bracket, next_argument, end_expression, take_next, asks_for_original, take_after_name, begin_value, take_after_member, step}
use Rattle.dj_expr_reader.proofs.Frames.{NoCast}
use Rattle.dj_expr_reader.proofs.Complete.{marks_each-and_one, length-and_one}
use Rattle.dj_expr_reader.proofs.Sound.{hole, none, some, Waits, start, opens, casts, assigns, arguments, Calls, calls, asks, Holds, fits, finish_top, and_last, finish_call}

-- these symbols lead to the state
pub data Reached (d : Dialect) : Mode → List Frame → List Mark → List Symbol → Type 0 where
  waiting : {frames : List Frame} {marks : List Mark} {s : List Symbol} → Waits d frames marks s → Reached d Waiting frames marks s
  opened : {frames : List Frame} {marks : List Mark} {s : List Symbol} (at : ℕ) → Waits d frames marks s → Reached d Opened frames marks (s ++ sign (codes "(") at ∷ [])
  opened_name : {frames : List Frame} {marks : List Mark} {s : List Symbol} (at : ℕ) (x : Spot) → IsName x → Waits d frames marks s
      → Reached d (OpenedName x) frames marks (s ++ sign (codes "(") at ∷ named x ∷ [])
  closed_name : {frames : List Frame} {marks : List Mark} {s : List Symbol} (o c : ℕ) (x : Spot) → IsName x → Waits d frames marks s
      → Reached d (ClosedName x) frames marks (s ++ sign (codes "(") o ∷ named x ∷ sign (codes ")") c ∷ [])
  a_name : {frames : List Frame} {marks : List Mark} {s : List Symbol} (x : Spot) → IsName x → Waits d frames marks s → Reached d (Named x) frames marks (s ++ named x ∷ [])
  new_word : {frames : List Frame} {marks : List Mark} {s : List Symbol} (at : ℕ) → Waits d frames marks s → Reached d New frames marks (s ++ word (codes "new") at ∷ [])
  new_class : {frames : List Frame} {marks : List Mark} {s : List Symbol} (at : ℕ) (class : Spot) → IsName class → Waits d frames marks s
      → Reached d (NewClass class) frames marks (s ++ word (codes "new") at ∷ named class ∷ [])
  new_opened : {frames : List Frame} {marks : List Mark} {s : List Symbol} (at o : ℕ) (class : Spot) → IsName class → Waits d frames marks s
      → Reached d (NewOpened class) frames marks (s ++ word (codes "new") at ∷ named class ∷ sign (codes "(") o ∷ [])
  holding : {frames : List Frame} {marks : List Mark} {s : List Symbol} → Holds d Postfix frames marks s → Reached d Holding frames marks s
  dotted : {frames : List Frame} {marks : List Mark} {s : List Symbol} (at : ℕ) → Holds d Postfix frames marks s → Reached d Dotted frames marks (s ++ sign (codes ".") at ∷ [])
  member : {frames : List Frame} {marks : List Mark} {s : List Symbol} (at : ℕ) (f : Spot) → IsName f → Holds d Postfix frames marks s
      → Reached d (Member f) frames marks (s ++ sign (codes ".") at ∷ named f ∷ [])
  called : {callee : Callee} {frames : List Frame} {marks : List Mark} {s : List Symbol} → Calls d callee frames marks s → Reached d (Called callee) frames marks s

-- what a move at a symbol comes to
abbrev pub Comes : Dialect → List Symbol → Symbol → Move → Type 0
Comes d s x (go mode frames marks) = Reached d mode frames marks (s ++ x ∷ [])
Comes d s x (finish marks) = SpellsMarks d s marks × (x ≡ sign (codes ";") x.at)
Comes d s x stuck = Unit {0}

at_sign : (d : Dialect) (s : List Symbol) (x : Symbol) (m : Move) (text : List ℕ) → is_the_sign text x ≡ true → Comes d s (sign text x.at) m → Comes d s x m
at_sign d s x m text t c = let P : Symbol → Type 0 = λ y. Comes d s y m in subst P (sym (sign_is text x t)) c

-- going on behind a symbol that passed a test
by_sign : {d : Dialect} {mode : Mode} {frames : List Frame} {marks : List Mark} (s : List Symbol) (x : Symbol) (text : List ℕ) → is_the_sign text x ≡ true
    → Reached d mode frames marks (s ++ sign text x.at ∷ []) → Reached d mode frames marks (s ++ x ∷ [])
by_sign {d} {mode} {frames} {marks} s x text t r = subst (λ y. Reached d mode frames marks (s ++ y ∷ [])) (sym (sign_is text x t)) r

by_word : {d : Dialect} {mode : Mode} {frames : List Frame} {marks : List Mark} (s : List Symbol) (x : Symbol) (text : List ℕ) → is_the_word text x ≡ true
    → Reached d mode frames marks (s ++ word text x.at ∷ []) → Reached d mode frames marks (s ++ x ∷ [])
by_word {d} {mode} {frames} {marks} s x text t r = subst (λ y. Reached d mode frames marks (s ++ y ∷ [])) (sym (word_is text x t)) r

by_name : {d : Dialect} {mode : Mode} {frames : List Frame} {marks : List Mark} (s : List Symbol) (x : Symbol) → is_a_name x ≡ true
    → (IsName (spot_of x) → Reached d mode frames marks (s ++ named (spot_of x) ∷ [])) → Reached d mode frames marks (s ++ x ∷ [])
by_name {d} {mode} {frames} {marks} s x t r = let n = name_is x t in subst (λ y. Reached d mode frames marks (s ++ y ∷ [])) (sym n.0) (r n.1)

-- ---- operands

primary : {d : Dialect} {frames : List Frame} {marks : List Mark} {s : List Symbol} (t : List Symbol) (e : Expr) → Waits d frames marks s → SpellsAt d Primary t e
    → Reached d Holding frames (marks ++ marks_of e) (s ++ t)
primary {marks = marks} {s = s} t e w p =
    holding (record { before = marks; s = s; t = t; value = e; waits = w; spelled = grammar.one_primary p; marks_are = refl; symbols_are = refl })

operand_step : (d : Dialect) (frames : List Frame) (marks : List Mark) (s : List Symbol) (x : Symbol) → Waits d frames marks s → Comes d s x (take_operand x frames marks)
operand_step d frames marks s x w =
    cond_both (is_the_sign (codes "(") x) _ _ (Comes d s x) (λ h. by_sign s x (codes "(") h (opened x.at w))
    (λ _. cond_both (is_the_word (codes "this") x) _ _ (Comes d s x)
    (λ h. by_word s x (codes "this") h (primary (word (codes "this") x.at ∷ []) (this_at x.at) w (grammar.this_word x.at)))
    (λ _. cond_both (is_the_word (codes "null") x) _ _ (Comes d s x)
    (λ h. by_word s x (codes "null") h (primary (word (codes "null") x.at ∷ []) (null_at x.at) w (grammar.null_word x.at)))
    (λ _. cond_both (is_the_word (codes "new") x) _ _ (Comes d s x) (λ h. by_word s x (codes "new") h (new_word x.at w))
    (λ _. cond_both (is_a_name x) _ _ (Comes d s x) (λ h. by_name s x h (λ i. a_name (spot_of x) i w)) (λ _. tt)))))

-- ---- behind an operand

closing : (d : Dialect) (frames : List Frame) (marks : List Mark) (s : List Symbol) (at : ℕ) → Holds d (hole frames) frames marks s
    → Comes d s (sign (codes ")") at) (close_bracket frames marks)
closing d [] marks s at h = tt
closing d (Cast class ∷ frames) marks s at h = tt
closing d (Assign f ∷ frames) marks s at h = tt
closing d (Bracket ∷ frames) marks s at h = of h.waits h.spelled h.marks_are h.symbols_are
  where
    of : {before : List Mark} {u t : List Symbol} {e : Expr} → Waits d (Bracket ∷ frames) before u → SpellsAt d Whole t e
        → marks ≡ before ++ marks_of e → s ≡ u ++ t → Reached d Holding frames marks (s ++ sign (codes ")") at ∷ [])
    of {before = before} {t = t} {e = e} (opens {s = v} o w) x m g =
        holding (record {
          before = before;
          s = v;
          t = sign (codes "(") o ∷ (t ++ sign (codes ")") at ∷ []);
          value = e;
          waits = w;
          spelled = grammar.one_primary (grammar.in_parentheses o at x);
          marks_are = m;
          symbols_are = ap (λ l. l ++ sign (codes ")") at ∷ []) (g ∙ append_assoc v (sign (codes "(") o ∷ []) t) ∙ append_assoc v (sign (codes "(") o ∷ t) (sign (codes ")") at ∷ []);
        })
closing d (Arguments callee count ∷ frames) marks s at h = of h.waits h.spelled h.marks_are h.symbols_are
  where
    of : {count : ℕ} {before : List Mark} {u t : List Symbol} {e : Expr} → Waits d (Arguments callee count ∷ frames) before u → SpellsAt d Whole t e
        → marks ≡ before ++ marks_of e → s ≡ u ++ t → Reached d Holding frames (marks ++ call_mark callee (count + 1) ∷ []) (s ++ sign (codes ")") at ∷ [])
    of {t = t} {e = e} (arguments {marks = first} {s = v} {t = others} {es = es} c so_far) x m g =
        let h = finish_call at c (grammar.some_arguments (and_last so_far x)) in
        let marks_so : first ++ (marks_each (trees_of (es ++ e ∷ [])) ++ call_mark callee (length (es ++ e ∷ [])) ∷ []) ≡ marks ++ call_mark callee (length es + 1) ∷ [] =
        ap₂ (λ k n. first ++ (k ++ call_mark callee n ∷ [])) (marks_each-and_one es e) (length-and_one es e)
        ∙ sym (append_assoc first (marks_each (trees_of es) ++ marks_of e) (call_mark callee (length es + 1) ∷ []))
        ∙ ap (λ k. k ++ call_mark callee (length es + 1) ∷ []) (sym (append_assoc first (marks_each (trees_of es)) (marks_of e)) ∙ sym m) in
        let symbols_so : v ++ ((others ++ t) ++ sign (codes ")") at ∷ []) ≡ s ++ sign (codes ")") at ∷ [] =
        sym (append_assoc v (others ++ t) (sign (codes ")") at ∷ [])) ∙ ap (λ k. k ++ sign (codes ")") at ∷ []) (sym (append_assoc v others t) ∙ sym g) in
        holding (subst (λ k. Holds d Postfix frames (marks ++ call_mark callee (length es + 1) ∷ []) k) symbols_so
        (subst (λ k. Holds d Postfix frames k (v ++ ((others ++ t) ++ sign (codes ")") at ∷ []))) marks_so h))

separating : (d : Dialect) (frames : List Frame) (marks : List Mark) (s : List Symbol) (at : ℕ) → Holds d (hole frames) frames marks s
    → Comes d s (sign (codes ",") at) (next_argument frames marks)
separating d [] marks s at h = tt
separating d (Bracket ∷ frames) marks s at h = tt
separating d (Cast class ∷ frames) marks s at h = tt
separating d (Assign f ∷ frames) marks s at h = tt
separating d (Arguments callee count ∷ frames) marks s at h = of h.waits h.spelled h.marks_are h.symbols_are
  where
    of : {count : ℕ} {before : List Mark} {u t : List Symbol} {e : Expr} → Waits d (Arguments callee count ∷ frames) before u → SpellsAt d Whole t e
        → marks ≡ before ++ marks_of e → s ≡ u ++ t → Reached d Waiting (Arguments callee (count + 1) ∷ frames) marks (s ++ sign (codes ",") at ∷ [])
    of {t = t} {e = e} (arguments {marks = first} {s = v} {t = others} {es = es} c so_far) x m g =
        let w = arguments c (some at (and_last so_far x)) in
        let marks_so : first ++ marks_each (trees_of (es ++ e ∷ [])) ≡ marks =
        ap (λ k. first ++ k) (marks_each-and_one es e) ∙ sym (append_assoc first (marks_each (trees_of es)) (marks_of e)) ∙ sym m in
        let symbols_so : v ++ ((others ++ t) ++ sign (codes ",") at ∷ []) ≡ s ++ sign (codes ",") at ∷ [] =
        sym (append_assoc v (others ++ t) (sign (codes ",") at ∷ [])) ∙ ap (λ k. k ++ sign (codes ",") at ∷ []) (sym (append_assoc v others t) ∙ sym g) in
        waiting (subst (λ n. Waits d (Arguments callee n ∷ frames) marks (s ++ sign (codes ",") at ∷ [])) (length-and_one es e)
        (subst (λ k. Waits d (Arguments callee (length (es ++ e ∷ [])) ∷ frames) marks k) symbols_so
        (subst (λ k. Waits d (Arguments callee (length (es ++ e ∷ [])) ∷ frames) k (v ++ ((others ++ t) ++ sign (codes ",") at ∷ []))) marks_so w)))

ending : (d : Dialect) (frames : List Frame) (marks : List Mark) (s : List Symbol) (at : ℕ) → Holds d (hole frames) frames marks s
    → Comes d s (sign (codes ";") at) (end_expression frames marks)
ending d (f ∷ frames) marks s at h = tt
ending d [] marks s at h = (of h.waits h.spelled h.marks_are h.symbols_are, refl)
  where
    of : {before : List Mark} {u t : List Symbol} {e : Expr} → Waits d [] before u → SpellsAt d Whole t e → marks ≡ before ++ marks_of e → s ≡ u ++ t → SpellsMarks d s marks
    of {e = e} start x m g = let P : List Symbol → Type 0 = λ l. SpellsExpr d l e in record { value = e; spelled = subst P (sym g) x; same = m }

next_step : (d : Dialect) (frames : List Frame) (marks : List Mark) (s : List Symbol) (x : Symbol) → Holds d Postfix frames marks s → Comes d s x (take_next x frames marks)
next_step d frames marks s x h =
    cond_both (is_the_sign (codes ".") x) _ _ (Comes d s x) (λ t. by_sign s x (codes ".") t (dotted x.at h))
    (λ _. cond_both (is_the_sign (codes ")") x) _ _ (Comes d s x) (λ t. at_sign d s x _ (codes ")") t (closing d (kept frames) (marks ++ passed frames) s x.at done))
    (λ _. cond_both (is_the_sign (codes ",") x) _ _ (Comes d s x) (λ t. at_sign d s x _ (codes ",") t (separating d (kept frames) (marks ++ passed frames) s x.at done))
    (λ _. cond_both (is_the_sign (codes ";") x) _ _ (Comes d s x) (λ t. at_sign d s x _ (codes ";") t (ending d (kept frames) (marks ++ passed frames) s x.at done))
    (λ _. tt))))
  where
    done : Holds d (hole (kept frames)) (kept frames) (marks ++ passed frames) s
    done = finish_top frames marks s (fits h)

-- ---- behind a name

both_true : (a b : Bool) → (a && b) ≡ true → (a ≡ true) × (b ≡ true)
both_true true b e = (refl, e)
both_true false b e = absurd (let clash : false ≡ true = e in cc)

asked : (d : Dialect) (x : Spot) → asks_for_original d x ≡ true → (d ≡ Line) × (x.text ≡ codes "original")
asked Line x e = (refl, (bytes_eq-Decides x.text (codes "original")).0 e)
asked Java x e = absurd (let clash : false ≡ true = e in cc)

after_name_step : (d : Dialect) (x : Spot) → IsName x → (frames : List Frame) (marks : List Mark) (s : List Symbol) (y : Symbol) → Waits d frames marks s
    → Comes d (s ++ named x ∷ []) y (take_after_name d x y frames marks)
after_name_step d x i frames marks s y w =
    cond_both (is_the_sign (codes "(") y && asks_for_original d x) _ _ (Comes d (s ++ named x ∷ []) y)
    (λ h. let both = both_true (is_the_sign (codes "(") y) (asks_for_original d x) h in
    by_sign (s ++ named x ∷ []) y (codes "(") both.0 (asks_here (asked d x both.1)))
    (λ _. next_step d frames (marks ++ (VariableForm x, 0) ∷ []) (s ++ named x ∷ []) y a_variable)
  where
    asks_here : (d ≡ Line) × (x.text ≡ codes "original") → Reached d (Called (Original x.at)) frames marks ((s ++ named x ∷ []) ++ sign (codes "(") y.at ∷ [])
    asks_here is =
        let P : List Symbol → Type 0 = λ l. Calls d (Original x.at) frames marks l in
        called (subst P (ap (λ u. s ++ word u x.at ∷ sign (codes "(") y.at ∷ []) (sym is.1) ∙ sym (append_assoc s (named x ∷ []) (sign (codes "(") y.at ∷ []))) (asks x.at y.at is.0 w))

    a_variable : Holds d Postfix frames (marks ++ (VariableForm x, 0) ∷ []) (s ++ named x ∷ [])
    a_variable =
        record { before = marks; s = s; t = named x ∷ []; value = variable x; waits = w; spelled = grammar.one_primary (grammar.variable_name x i); marks_are = refl; symbols_are = refl }

-- ---- behind a member

assigning : (d : Dialect) (f : Spot) → IsName f → (frames : List Frame) (marks : List Mark) (s : List Symbol) (dot equals : ℕ) → Holds d Postfix frames marks s
    → Comes d (s ++ sign (codes ".") dot ∷ named f ∷ []) (sign (codes "=") equals) (begin_value f frames marks)
assigning d f i frames marks s dot equals h = of frames h (λ n. value n)
  where
    value : NoCast frames → Reached d Waiting (Assign f ∷ frames) marks ((s ++ sign (codes ".") dot ∷ named f ∷ []) ++ sign (codes "=") equals ∷ [])
    value n =
        let symbols_so : h.s ++ (h.t ++ sign (codes ".") dot ∷ named f ∷ sign (codes "=") equals ∷ []) ≡ (s ++ sign (codes ".") dot ∷ named f ∷ []) ++ sign (codes "=") equals ∷ [] =
        sym (append_assoc h.s h.t (sign (codes ".") dot ∷ named f ∷ sign (codes "=") equals ∷ []))
        ∙ ap (λ l. l ++ sign (codes ".") dot ∷ named f ∷ sign (codes "=") equals ∷ []) (sym h.symbols_are)
        ∙ sym (append_assoc s (sign (codes ".") dot ∷ named f ∷ []) (sign (codes "=") equals ∷ [])) in
        waiting (subst (λ k. Waits d (Assign f ∷ frames) k ((s ++ sign (codes ".") dot ∷ named f ∷ []) ++ sign (codes "=") equals ∷ [])) (sym h.marks_are)
        (subst (λ l. Waits d (Assign f ∷ frames) (h.before ++ marks_of h.value) l) symbols_so (assigns dot equals f i n h.waits h.spelled)))

    of : (frames : List Frame) → Holds d Postfix frames marks s
        → (NoCast frames → Reached d Waiting (Assign f ∷ frames) marks ((s ++ sign (codes ".") dot ∷ named f ∷ []) ++ sign (codes "=") equals ∷ []))
        → Comes d (s ++ sign (codes ".") dot ∷ named f ∷ []) (sign (codes "=") equals) (begin_value f frames marks)
    of [] h v = v tt
    of (Bracket ∷ frames) h v = v tt
    of (Cast class ∷ frames) h v = tt
    of (Assign g ∷ frames) h v = v tt
    of (Arguments callee count ∷ frames) h v = v tt

after_member_step : (d : Dialect) (f : Spot) → IsName f → (frames : List Frame) (marks : List Mark) (s : List Symbol) (dot : ℕ) (y : Symbol) → Holds d Postfix frames marks s
    → Comes d (s ++ sign (codes ".") dot ∷ named f ∷ []) y (take_after_member f y frames marks)
after_member_step d f i frames marks s dot y h =
    cond_both (is_the_sign (codes "(") y) _ _ (Comes d symbols y) (λ t. by_sign symbols y (codes "(") t (called a_call))
    (λ _. cond_both (is_the_sign (codes "=") y) _ _ (Comes d symbols y) (λ t. at_sign d symbols y _ (codes "=") t (assigning d f i frames marks s dot y.at h))
    (λ _. next_step d frames (marks ++ (FieldForm f, 1) ∷ []) symbols y a_field))
  where
    symbols : List Symbol
    symbols = s ++ sign (codes ".") dot ∷ named f ∷ []

    a_call : Calls d (Method f) frames marks ((s ++ sign (codes ".") dot ∷ named f ∷ []) ++ sign (codes "(") y.at ∷ [])
    a_call =
        let symbols_so : h.s ++ (h.t ++ sign (codes ".") dot ∷ named f ∷ sign (codes "(") y.at ∷ []) ≡ (s ++ sign (codes ".") dot ∷ named f ∷ []) ++ sign (codes "(") y.at ∷ [] =
        sym (append_assoc h.s h.t (sign (codes ".") dot ∷ named f ∷ sign (codes "(") y.at ∷ []))
        ∙ ap (λ l. l ++ sign (codes ".") dot ∷ named f ∷ sign (codes "(") y.at ∷ []) (sym h.symbols_are)
        ∙ sym (append_assoc s (sign (codes ".") dot ∷ named f ∷ []) (sign (codes "(") y.at ∷ [])) in
        subst (λ k. Calls d (Method f) frames k ((s ++ sign (codes ".") dot ∷ named f ∷ []) ++ sign (codes "(") y.at ∷ [])) (sym h.marks_are)
        (subst (λ l. Calls d (Method f) frames (h.before ++ marks_of h.value) l) symbols_so (calls dot y.at f i h.waits h.spelled))

    a_field : Holds d Postfix frames (marks ++ (FieldForm f, 1) ∷ []) (s ++ sign (codes ".") dot ∷ named f ∷ [])
    a_field =
        record {
          before = h.before;
          s = h.s;
          t = h.t ++ sign (codes ".") dot ∷ named f ∷ [];
          value = field_of h.value f;
          waits = h.waits;
          spelled = grammar.field dot f i h.spelled;
          marks_are =
              ap (λ k. k ++ (FieldForm f, 1) ∷ []) (h.marks_are ∙ ap (λ k. h.before ++ k) (sym (append-nil (marks_of h.value))))
              ∙ append_assoc h.before (marks_of h.value ++ []) ((FieldForm f, 1) ∷ []);
          symbols_are = ap (λ l. l ++ sign (codes ".") dot ∷ named f ∷ []) h.symbols_are ∙ append_assoc h.s h.t (sign (codes ".") dot ∷ named f ∷ []);
        }

-- ---- all modes

-- what comes behind some symbols, where these are grouped in another way
regrouped : (d : Dialect) (s t : List Symbol) (x : Symbol) (m : Move) → s ≡ t → Comes d s x m → Comes d t x m
regrouped d s t x m e c = subst (λ l. Comes d l x m) e c

and_symbol : (d : Dialect) (mode : Mode) (frames : List Frame) (marks : List Mark) (s t : List Symbol) (y : Symbol) → Reached d mode frames marks (s ++ (t ++ y ∷ []))
    → Reached d mode frames marks ((s ++ t) ++ y ∷ [])
and_symbol d mode frames marks s t y r = subst (λ l. Reached d mode frames marks l) (sym (append_assoc s t (y ∷ []))) r

pub step_comes : {d : Dialect} {mode : Mode} {frames : List Frame} {marks : List Mark} {s : List Symbol} (x : Symbol) → Reached d mode frames marks s
    → Comes d s x (step d mode frames marks x)
step_comes {d} {frames = frames} {marks = marks} {s = s} y (waiting w) = operand_step d frames marks s y w
step_comes {d} {frames = frames} {marks = marks} y (opened {s = s} at w) =
    cond_both (is_a_name y) _ _ (Comes d (s ++ sign (codes "(") at ∷ []) y)
    (λ h. by_name _ y h (λ i. and_symbol d _ frames marks s (sign (codes "(") at ∷ []) (named (spot_of y)) (opened_name at (spot_of y) i w)))
    (λ _. operand_step d (Bracket ∷ frames) marks (s ++ sign (codes "(") at ∷ []) y (opens at w))
step_comes {d} {frames = frames} {marks = marks} y (opened_name {s = s} at x i w) =
    cond_both (is_the_sign (codes ")") y) _ _ (Comes d (s ++ sign (codes "(") at ∷ named x ∷ []) y)
    (λ h. by_sign _ y (codes ")") h (and_symbol d _ frames marks s (sign (codes "(") at ∷ named x ∷ []) (sign (codes ")") y.at) (closed_name at y.at x i w)))
    (λ _. regrouped d _ _ y _ (append_assoc s (sign (codes "(") at ∷ []) (named x ∷ [])) (after_name_step d x i (Bracket ∷ frames) marks (s ++ sign (codes "(") at ∷ []) y (opens at w)))
step_comes {d} {frames = frames} {marks = marks} y (closed_name {s = s} o c x i w) =
    cond_both (begins_operand y) _ _ (Comes d (s ++ sign (codes "(") o ∷ named x ∷ sign (codes ")") c ∷ []) y)
    (λ _. operand_step d (Cast x ∷ frames) marks (s ++ sign (codes "(") o ∷ named x ∷ sign (codes ")") c ∷ []) y (casts o c x i w))
    (λ _. next_step d frames (marks ++ (VariableForm x, 0) ∷ []) (s ++ sign (codes "(") o ∷ named x ∷ sign (codes ")") c ∷ []) y
    (record {
      before = marks;
      s = s;
      t = sign (codes "(") o ∷ named x ∷ sign (codes ")") c ∷ [];
      value = variable x;
      waits = w;
      spelled = grammar.one_primary (grammar.in_parentheses o c (grammar.one_unary (grammar.one_postfix (grammar.one_primary (grammar.variable_name x i)))));
      marks_are = refl;
      symbols_are = refl;
    }))
step_comes {d} {frames = frames} {marks = marks} y (a_name {s = s} x i w) = after_name_step d x i frames marks s y w
step_comes {d} {frames = frames} {marks = marks} y (new_word {s = s} at w) =
    cond_both (is_a_name y) _ _ (Comes d (s ++ word (codes "new") at ∷ []) y)
    (λ h. by_name _ y h (λ i. and_symbol d _ frames marks s (word (codes "new") at ∷ []) (named (spot_of y)) (new_class at (spot_of y) i w))) (λ _. tt)
step_comes {d} {frames = frames} {marks = marks} y (new_class {s = s} at class i w) =
    cond_both (is_the_sign (codes "(") y) _ _ (Comes d (s ++ word (codes "new") at ∷ named class ∷ []) y)
    (λ h. by_sign _ y (codes "(") h (and_symbol d _ frames marks s (word (codes "new") at ∷ named class ∷ []) (sign (codes "(") y.at) (new_opened at y.at class i w))) (λ _. tt)
step_comes {d} {frames = frames} {marks = marks} y (new_opened {s = s} at o class i w) =
    cond_both (is_the_sign (codes ")") y) _ _ (Comes d (s ++ word (codes "new") at ∷ named class ∷ sign (codes "(") o ∷ []) y)
    (λ h. by_sign _ y (codes ")") h
    (and_symbol d _ frames _ s (word (codes "new") at ∷ named class ∷ sign (codes "(") o ∷ []) (sign (codes ")") y.at)
    (primary (word (codes "new") at ∷ named class ∷ sign (codes "(") o ∷ sign (codes ")") y.at ∷ []) (new_of class) w (grammar.new_object at o y.at class i))))
    (λ _. tt)
step_comes {d} {frames = frames} {marks = marks} {s = s} y (holding h) = next_step d frames marks s y h
step_comes {d} {frames = frames} {marks = marks} y (dotted {s = s} at h) =
    cond_both (is_a_name y) _ _ (Comes d (s ++ sign (codes ".") at ∷ []) y)
    (λ t. by_name _ y t (λ i. and_symbol d _ frames marks s (sign (codes ".") at ∷ []) (named (spot_of y)) (member at (spot_of y) i h))) (λ _. tt)
step_comes {d} {frames = frames} {marks = marks} y (member {s = s} at f i h) = after_member_step d f i frames marks s at y h
step_comes {d} {frames = frames} {marks = marks} {s = s} y (called {callee = callee} c) =
    cond_both (is_the_sign (codes ")") y) _ _ (Comes d s y) (λ t. by_sign s y (codes ")") t (holding (finish_call y.at c grammar.no_arguments)))
    (λ _. operand_step d (Arguments callee 0 ∷ frames) marks s y
    (subst (λ l. Waits d (Arguments callee 0 ∷ frames) marks l) (append-nil s)
    (subst (λ k. Waits d (Arguments callee 0 ∷ frames) k (s ++ [])) (append-nil marks) (arguments c none))))
