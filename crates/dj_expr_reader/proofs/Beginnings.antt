-- What the machine has taken can be made an expression.
use Rattle.std.proofs.Common.{◌≡◌, ℕ, List, [], ◌∷◌, ◌++◌, refl, sym, ap, subst, ◌∙◌, append_assoc}
use Rattle.std.proofs.lemmas.List.{append-nil}
use Rattle.std.specs.Prelude.{codes}
use Rattle.dj_lexer.specs.Symbols.{Symbol}
use Rattle.dj_lexer.specs.declared.token.Dialect.{Dialect}
use Rattle.dj_tree.specs.Words.{word, sign, named, IsName, is_reserved}
use Rattle.dj_tree.specs.Trees.{Spot, Expr, variable}
use Rattle.dj_tree.specs.ExprGrammar as grammar
use Rattle.dj_tree.specs.ExprGrammar.{ExprLevel, Whole, Unary, Postfix, Primary, SpellsAt, SpellsArguments}
use Rattle.dj_reader.specs.Reading.{IsBeginning}
use Rattle.dj_expr_reader.specs.Marks.{Mark, marks_of, SpellsMarks}
use Rattle.dj_expr_reader.specs.Machine.{Callee, Frame, Mode}
use Rattle.dj_expr_reader.proofs.Sound.{hole, unary_fits, whole_fits, Waits, start, opens, casts, assigns, arguments, Calls, calls, asks, Holds, fits, and_last, original_spelled}
use Rattle.dj_expr_reader.proofs.Moves.{Reached, waiting, opened, opened_name, closed_name, a_name, new_word, new_class, new_opened, holding, dotted, member, called}

-- what begins a beginning is one
front_of : {d : Dialect} {l : List Symbol} (s t : List Symbol) → l ≡ s ++ t → IsBeginning (SpellsMarks d) l → IsBeginning (SpellsMarks d) s
front_of {d} s t e b =
    record {
      more = t ++ b.more;
      value = b.value;
      spelled = subst (λ k. SpellsMarks d k b.value) (ap (λ k. k ++ b.more) e ∙ append_assoc s t b.more) b.spelled;
    }

same_symbols : {d : Dialect} {l : List Symbol} (s : List Symbol) → l ≡ s → IsBeginning (SpellsMarks d) l → IsBeginning (SpellsMarks d) s
same_symbols {d} s e b = subst (λ k. IsBeginning (SpellsMarks d) k) e b

mutual
  -- with an expression that fits
  filled : {d : Dialect} {frames : List Frame} {marks : List Mark} {s : List Symbol} → Waits d frames marks s → {t : List Symbol} {e : Expr} → SpellsAt d (hole frames) t e
      → IsBeginning (SpellsMarks d) (s ++ t)
  filled {d} start {t = t} {e = e} x =
      record { more = []; value = marks_of e; spelled = record { value = e; spelled = subst (λ l. SpellsAt d Whole l e) (sym (append-nil t)) x; same = refl } }
  filled (opens {frames = frames} {s = s} o w) {t = t} x =
      front_of ((s ++ sign (codes "(") o ∷ []) ++ t) (sign (codes ")") 0 ∷ [])
      (sym (append_assoc s (sign (codes "(") o ∷ t) (sign (codes ")") 0 ∷ [])) ∙ ap (λ l. l ++ sign (codes ")") 0 ∷ []) (sym (append_assoc s (sign (codes "(") o ∷ []) t)))
      (filled w (unary_fits frames (grammar.one_postfix (grammar.one_primary (grammar.in_parentheses o 0 x)))))
  filled (casts {frames = frames} {s = s} o c class i w) {t = t} x =
      same_symbols _ (sym (append_assoc s (sign (codes "(") o ∷ named class ∷ sign (codes ")") c ∷ []) t)) (filled w (unary_fits frames (grammar.cast o c class i x)))
  filled (assigns {frames = frames} {s = s} {t = t} dot equals f i n w y) {t = u} x =
      same_symbols _
      (ap (λ l. s ++ l) (sym (append_assoc t (sign (codes ".") dot ∷ named f ∷ sign (codes "=") equals ∷ []) u))
      ∙ sym (append_assoc s (t ++ sign (codes ".") dot ∷ named f ∷ sign (codes "=") equals ∷ []) u)) (filled w (whole_fits frames n (grammar.assigned dot equals f i y x)))
  filled (arguments {s = s} {t = t} c so_far) {t = u} x =
      front_of ((s ++ t) ++ u) (sign (codes ")") 0 ∷ [])
      (sym (append_assoc s (t ++ u) (sign (codes ")") 0 ∷ [])) ∙ ap (λ l. l ++ sign (codes ")") 0 ∷ []) (sym (append_assoc s t u)))
      (filled_call c (grammar.some_arguments (and_last so_far x)))

  filled_call : {d : Dialect} {callee : Callee} {frames : List Frame} {marks : List Mark} {s : List Symbol} → Calls d callee frames marks s → {t : List Symbol} {es : List Expr}
      → SpellsArguments d t es → IsBeginning (SpellsMarks d) (s ++ (t ++ sign (codes ")") 0 ∷ []))
  filled_call (calls {frames = frames} {s = s} {t = receiver} dot o m i w x) {t = t} y =
      same_symbols _
      (ap (λ l. s ++ l) (sym (append_assoc receiver (sign (codes ".") dot ∷ named m ∷ sign (codes "(") o ∷ []) (t ++ sign (codes ")") 0 ∷ [])))
      ∙ sym (append_assoc s (receiver ++ sign (codes ".") dot ∷ named m ∷ sign (codes "(") o ∷ []) (t ++ sign (codes ")") 0 ∷ [])))
      (filled w (unary_fits frames (grammar.one_postfix (grammar.call dot o 0 m i x y))))
  filled_call (asks {frames = frames} {s = s} at o is w) {t = t} y =
      same_symbols _ (sym (append_assoc s (word (codes "original") at ∷ sign (codes "(") o ∷ []) (t ++ sign (codes ")") 0 ∷ [])))
      (filled w (unary_fits frames (grammar.one_postfix (grammar.one_primary (original_spelled at o 0 is y)))))

-- with a primary that begins so
begins_primary : {d : Dialect} {frames : List Frame} {marks : List Mark} {s : List Symbol} {e : Expr} (t u : List Symbol) → Waits d frames marks s → SpellsAt d Primary (t ++ u) e
    → IsBeginning (SpellsMarks d) (s ++ t)
begins_primary {frames = frames} {s = s} t u w x =
    front_of (s ++ t) u (sym (append_assoc s t u)) (filled w (unary_fits frames (grammar.one_postfix (grammar.one_primary x))))

in_brackets : {d : Dialect} (o c : ℕ) (x : Spot) → IsName x → SpellsAt d Primary (sign (codes "(") o ∷ named x ∷ sign (codes ")") c ∷ []) (variable x)
in_brackets o c x i = grammar.in_parentheses o c (grammar.one_unary (grammar.one_postfix (grammar.one_primary (grammar.variable_name x i))))

a_field : Spot
a_field = record { text = codes "f"; at = 0 }

is_field : IsName a_field
unfolding is_reserved a_field
is_field = refl

-- with a field
with_field : {d : Dialect} {frames : List Frame} {marks : List Mark} {s : List Symbol} (dot : ℕ) (f : Spot) → IsName f → Holds d Postfix frames marks s
    → IsBeginning (SpellsMarks d) (s ++ sign (codes ".") dot ∷ named f ∷ [])
with_field {frames = frames} dot f i h =
    same_symbols _ (sym (append_assoc h.s h.t (sign (codes ".") dot ∷ named f ∷ [])) ∙ ap (λ l. l ++ sign (codes ".") dot ∷ named f ∷ []) (sym h.symbols_are))
    (filled h.waits (unary_fits frames (grammar.one_postfix (grammar.field dot f i h.spelled))))

pub beginning : {d : Dialect} {mode : Mode} {frames : List Frame} {marks : List Mark} {s : List Symbol} → Reached d mode frames marks s → IsBeginning (SpellsMarks d) s
beginning {s = s} (waiting w) = same_symbols s (append-nil s) (begins_primary [] (word (codes "this") 0 ∷ []) w (grammar.this_word 0))
beginning (opened at w) =
    begins_primary (sign (codes "(") at ∷ []) (word (codes "this") 0 ∷ sign (codes ")") 0 ∷ []) w
    (grammar.in_parentheses at 0 (grammar.one_unary (grammar.one_postfix (grammar.one_primary (grammar.this_word 0)))))
beginning (opened_name at x i w) = begins_primary (sign (codes "(") at ∷ named x ∷ []) (sign (codes ")") 0 ∷ []) w (in_brackets at 0 x i)
beginning (closed_name o c x i w) = begins_primary (sign (codes "(") o ∷ named x ∷ sign (codes ")") c ∷ []) [] w (in_brackets o c x i)
beginning (a_name x i w) = begins_primary (named x ∷ []) [] w (grammar.variable_name x i)
beginning (new_word at w) =
    begins_primary (word (codes "new") at ∷ []) (named a_field ∷ sign (codes "(") 0 ∷ sign (codes ")") 0 ∷ []) w (grammar.new_object at 0 0 a_field is_field)
beginning (new_class at class i w) =
    begins_primary (word (codes "new") at ∷ named class ∷ []) (sign (codes "(") 0 ∷ sign (codes ")") 0 ∷ []) w (grammar.new_object at 0 0 class i)
beginning (new_opened at o class i w) =
    begins_primary (word (codes "new") at ∷ named class ∷ sign (codes "(") o ∷ []) (sign (codes ")") 0 ∷ []) w (grammar.new_object at o 0 class i)
beginning {s = s} (holding h) = let f = fits h in same_symbols s (sym f.symbols_are) (filled f.waits f.spelled)
beginning (dotted {s = s} at h) =
    front_of (s ++ sign (codes ".") at ∷ []) (named a_field ∷ []) (sym (append_assoc s (sign (codes ".") at ∷ []) (named a_field ∷ []))) (with_field at a_field is_field h)
beginning (member at f i h) = with_field at f i h
beginning {s = s} (called c) = front_of s (sign (codes ")") 0 ∷ []) refl (filled_call c grammar.no_arguments)
