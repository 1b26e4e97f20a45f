-- The machine reads formulas.
use Rattle.std.proofs.Common.{◌≡◌, ◌≤◌, List, [], ◌∷◌, ◌++◌, refl, sym, ap, subst, ◌∙◌, append_assoc, arith}
use Rattle.std.proofs.lemmas.List.{append-nil}
use Rattle.std.specs.Prelude.{codes}
use Rattle.arena_walk.specs.Tree.{nodes}
use Rattle.dj_lexer.specs.Symbols.{Symbol}
use Rattle.dj_tree.specs.Words.{word, sign}
use Rattle.dj_tree.specs.Trees.{Formula, always, FormulaForm}
use Rattle.dj_tree.specs.FormulaGrammar as grammar
use Rattle.dj_tree.specs.FormulaGrammar.{FormulaLevel, Equivalences, Implications, Disjunctions, Conjunctions, Negations, SpellsAt, SpellsFormula}
use Rattle.dj_reader.specs.Reading.{got, fault, next, IsTaken, Begins, IsBeginning, CannotStand, IsFault, IsSign}
use Rattle.dj_reader.proofs.Laws.{got_value, got_rest}
use Rattle.dj_formula_reader.specs.declared.machine.Frame.{Frame}
use Rattle.dj_formula_reader.specs.declared.machine.Frame.TheVariants.{Open, Same, Implies, Or, And, Not}
use Rattle.dj_formula_reader.specs.Machine.{State, waiting, holding, Move, go, finish, stuck, step, follow, run, formula_reading}
use Rattle.dj_formula_reader.specs.Laws.{SpellsNodes, FormulasAreRead}
use Rattle.dj_formula_reader.proofs.Frames.{AtLeast, leaves, kept-top, passed-top}
use Rattle.dj_formula_reader.proofs.Complete.{tightness, settle}
use Rattle.dj_formula_reader.proofs.Sound.{looser_level, right_level, result_level, IsOperator, is_same, is_implies, is_or, is_or_doubled, is_and, is_and_doubled, combined, rank_is, hole, Waits, start, opens, negates, operates}
use Rattle.dj_formula_reader.proofs.Moves.{Reached, Whole, Comes, step_comes}

-- ---- a formula can be made of what is open

-- the brackets that are still to be closed
abbrev pub closers : List Frame → List Symbol
closers [] = []
closers (Open ∷ frames) = sign (codes ")") 0 ∷ closers frames
closers (Same ∷ frames) = closers frames
closers (Implies ∷ frames) = closers frames
closers (Or ∷ frames) = closers frames
closers (And ∷ frames) = closers frames
closers (Not ∷ frames) = closers frames

no_closer : {f : Frame} {op : Symbol} {form : FormulaForm} → IsOperator f op form → (frames : List Frame) → closers (f ∷ frames) ≡ closers frames
no_closer (is_same at) frames = refl
no_closer (is_implies at) frames = refl
no_closer (is_or at) frames = refl
no_closer (is_or_doubled at) frames = refl
no_closer (is_and at) frames = refl
no_closer (is_and_doubled at) frames = refl

fits_negations : (level : FormulaLevel) → tightness level ≤ 5
fits_negations Equivalences = omega arith
fits_negations Implications = omega arith
fits_negations Disjunctions = omega arith
fits_negations Conjunctions = omega arith
fits_negations Negations = omega arith

completed : {frames : List Frame} {forms : List FormulaForm} {s : List Symbol} → Waits frames forms s → (t : List Symbol) (a : Formula) (level : FormulaLevel) → SpellsAt level t a
    → tightness (hole frames) ≤ tightness level → (b : Formula) × SpellsFormula (s ++ (t ++ closers frames)) b
completed start t a level x fit =
    let P : List Symbol → Type 0 = λ l. SpellsFormula l a in
    (a, subst P (sym (append-nil t)) (looser_level level Equivalences fit x))
completed (opens {frames = frames} {s = s} at w) t a level x fit =
    let inner = sign (codes "(") at ∷ (t ++ sign (codes ")") 0 ∷ []) in
    let more = completed w inner a Negations (grammar.in_parentheses at 0 (looser_level level Equivalences fit x)) (fits_negations (hole frames)) in
    let P : List Symbol → Type 0 = λ l. SpellsFormula l more.0 in
    let joined : s ++ (inner ++ closers frames) ≡ (s ++ sign (codes "(") at ∷ []) ++ (t ++ sign (codes ")") 0 ∷ closers frames) =
    ap (λ l. s ++ sign (codes "(") at ∷ l) (append_assoc t (sign (codes ")") 0 ∷ []) (closers frames))
    ∙ sym (append_assoc s (sign (codes "(") at ∷ []) (t ++ sign (codes ")") 0 ∷ closers frames)) in
    (more.0, subst P joined more.1)
completed (negates {frames = frames} {s = s} at w) t a level x fit =
    let inner = sign (codes "!") at ∷ t in
    let more = completed w inner _ Negations (grammar.not at (looser_level level Negations fit x)) (fits_negations (hole frames)) in
    let P : List Symbol → Type 0 = λ l. SpellsFormula l more.0 in
    (more.0, subst P (sym (append_assoc s (sign (codes "!") at ∷ []) (t ++ closers frames))) more.1)
completed (operates {f = f} {op = op} {frames = frames} {s = s} {t = u} is w y below) t a level x fit =
    let inner = u ++ op ∷ t in
    let more = completed w inner _ (result_level f) (combined is y (looser_level level (right_level f) fit x)) (omega (arith, below, rank_is is)) in
    let P : List Symbol → Type 0 = λ l. SpellsFormula l more.0 in
    let joined : s ++ (inner ++ closers frames) ≡ (s ++ (u ++ op ∷ [])) ++ (t ++ closers (f ∷ frames)) =
    ap (λ l. s ++ l) (append_assoc u (op ∷ t) (closers frames) ∙ sym (append_assoc u (op ∷ []) (t ++ closers frames)))
    ∙ sym (append_assoc s (u ++ op ∷ []) (t ++ closers frames))
    ∙ ap (λ l. (s ++ (u ++ op ∷ [])) ++ (t ++ l)) (sym (no_closer is frames)) in
    (more.0, subst P joined more.1)

beginning : (state : State) (s : List Symbol) → Reached state s → IsBeginning SpellsNodes s
beginning (waiting frames forms) s w =
    let more = completed w (word (codes "true") 0 ∷ []) always Negations (grammar.true_word 0) (fits_negations (hole frames)) in
    record { more = word (codes "true") 0 ∷ closers frames; value = nodes more.0; spelled = record { value = more.0; spelled = more.1; same = refl } }
beginning (holding frames forms) s h =
    let more = completed h.waits h.t h.value h.level h.spelled h.fits in
    let P : List Symbol → Type 0 = λ l. SpellsFormula l more.0 in
    let joined : h.s ++ (h.t ++ closers frames) ≡ s ++ closers frames = sym (append_assoc h.s h.t (closers frames)) ∙ ap (λ l. l ++ closers frames) (sym h.symbols_are) in
    record { more = closers frames; value = nodes more.0; spelled = record { value = more.0; spelled = subst P joined more.1; same = refl } }

-- ---- what is spelled is read

ends_so : (forms : List FormulaForm) (rest : List Symbol) → IsSign (codes ";") (next rest) → (opened : List Frame) → AtLeast 1 opened → (made : List FormulaForm)
    → made ++ leaves opened ≡ forms → run (holding (opened ++ []) made) rest ≡ got forms rest
ends_so forms [] sign_is opened tight made whole = absurd sign_is
ends_so forms (x ∷ rest) sign_is opened tight made whole =
    let P : Symbol → Type 0 = λ y. run (holding (opened ++ []) made) (y ∷ rest) ≡ got forms (y ∷ rest) in
    subst P (sym sign_is) (rw (kept-top 1 opened [] tight tt, passed-top 1 opened [] tight tt, whole) refl)

complete : (front rest : List Symbol) (forms : List FormulaForm) → SpellsNodes front forms → IsSign (codes ";") (next rest) → formula_reading (front ++ rest) ≡ got forms rest
unfolding formula_reading
complete front rest forms p follows =
    let x = settle p.spelled [] [] tt in
    x.runs rest ∙ ends_so forms rest follows x.opened x.tightly x.made (x.whole ∙ sym p.same)

-- ---- what is read is spelled

record Ended (s symbols rest : List Symbol) (forms : List FormulaForm) : Type 0 where
  front : List Symbol
  joined : symbols ≡ front ++ rest
  whole : Whole forms (s ++ front)
  follows : IsSign (codes ";") (next rest)

sound_from : (symbols : List Symbol) (state : State) (s rest : List Symbol) (forms : List FormulaForm) → Reached state s → run state symbols ≡ got forms rest → Ended s symbols rest forms
sound_from [] state s rest forms r e = absurd cc
sound_from (x ∷ symbols) state s rest forms r e =
    by_move (step state x) (step_comes state s x r) e (λ later reached f. sound_from symbols later (s ++ x ∷ []) rest forms reached f)
  where
    by_move : (m : Move) → Comes s x m → follow m x symbols (λ later. run later symbols) ≡ got forms rest
        → ((later : State) → Reached later (s ++ x ∷ []) → run later symbols ≡ got forms rest → Ended (s ++ x ∷ []) symbols rest forms) → Ended s (x ∷ symbols) rest forms
    by_move (go later) comes e on =
        let b = on later comes e in
        let P : List Symbol → Type 0 = λ l. Whole forms l in
        record { front = x ∷ b.front; joined = ap (λ l. x ∷ l) b.joined; whole = subst P (append_assoc s (x ∷ []) b.front) b.whole; follows = b.follows }
    by_move (finish made) comes e on =
        let P : List FormulaForm → Type 0 = λ l. Whole l (s ++ []) in
        let Q : List Symbol → Type 0 = λ l. Whole made l in
        let R : List Symbol → Type 0 = λ l. IsSign (codes ";") (next l) in
        record { front = []; joined = got_rest e; whole = subst P (got_value e) (subst Q (sym (append-nil s)) comes.0); follows = subst R (got_rest e) comes.1 }
    by_move stuck comes e on = absurd cc

sound : (symbols rest : List Symbol) (forms : List FormulaForm) → formula_reading symbols ≡ got forms rest → IsTaken SpellsNodes (IsSign (codes ";")) symbols rest forms
unfolding formula_reading
sound symbols rest forms e =
    let b = sound_from symbols (waiting [] []) [] rest forms start e in
    record { front = b.front; joined = b.joined; spelled = record { value = b.whole.value; spelled = b.whole.spelled; same = b.whole.same }; follows = b.follows }

-- ---- faults

-- the machine stops at the first symbol of these, or at the end
abbrev pub Stops : State → List Symbol → Type 0
Stops state [] = Unit {0}
Stops state (x ∷ rest) = step state x ≡ stuck

record Stopped (first : State) (s symbols rest : List Symbol) : Type 0 where
  front : List Symbol
  joined : symbols ≡ front ++ rest
  last : State
  reached : Reached last (s ++ front)
  runs : (more : List Symbol) → run first (front ++ more) ≡ run last more
  stops : Stops last rest

faulty_from : (symbols : List Symbol) (state : State) (s rest : List Symbol) → Reached state s → run state symbols ≡ fault rest → Stopped state s symbols rest
faulty_from [] state s rest r e =
    let none_left : [] ≡ rest = cc in
    let P : List Symbol → Type 0 = λ l. Stopped state s [] l in
    let Q : List Symbol → Type 0 = λ l. Reached state l in
    subst P none_left (record { front = []; joined = refl; last = state; reached = subst Q (sym (append-nil s)) r; runs = λ more. refl; stops = tt })
faulty_from (x ∷ symbols) state s rest r e =
    by_move (step state x) refl (step_comes state s x r) e (λ later reached f. faulty_from symbols later (s ++ x ∷ []) rest reached f)
  where
    by_move : (m : Move) → step state x ≡ m → Comes s x m → follow m x symbols (λ later. run later symbols) ≡ fault rest
        → ((later : State) → Reached later (s ++ x ∷ []) → run later symbols ≡ fault rest → Stopped later (s ++ x ∷ []) symbols rest) → Stopped state s (x ∷ symbols) rest
    by_move (go later) is comes e on =
        let b = on later comes e in
        let Q : List Symbol → Type 0 = λ l. Reached b.last l in
        record {
          front = x ∷ b.front;
          joined = ap (λ l. x ∷ l) b.joined;
          last = b.last;
          reached = subst Q (append_assoc s (x ∷ []) b.front) b.reached;
          runs = λ more. ap (λ m. follow m x (b.front ++ more) (λ later. run later (b.front ++ more))) is ∙ b.runs more;
          stops = b.stops;
        }
    by_move (finish made) is comes e on = absurd cc
    by_move stuck is comes e on =
        let same : x ∷ symbols ≡ rest = cc in
        let P : List Symbol → Type 0 = λ l. Stopped state s (x ∷ symbols) l in
        let Q : List Symbol → Type 0 = λ l. Reached state l in
        subst P same (record { front = []; joined = refl; last = state; reached = subst Q (sym (append-nil s)) r; runs = λ more. refl; stops = is })

-- where the machine finds a fault nothing is spelled
nothing_spelled : (symbols rest : List Symbol) → formula_reading symbols ≡ fault rest → ¬ (Begins SpellsNodes (IsSign (codes ";")) symbols)
nothing_spelled symbols rest e b =
    let t = b.1.1 in
    let read_so : formula_reading symbols ≡ got b.1.0 b.0 = ap formula_reading t.joined ∙ complete t.front b.0 b.1.0 t.spelled t.follows in
    let clash : got b.1.0 b.0 ≡ fault rest = sym read_so ∙ e in
    absurd cc

cannot : (front rest : List Symbol) (last : State) → ((more : List Symbol) → formula_reading (front ++ more) ≡ run last more) → Stops last rest
    → CannotStand SpellsNodes (IsSign (codes ";")) front rest
cannot front [] last runs stops = nothing_spelled front [] (ap formula_reading (sym (append-nil front)) ∙ runs [])
cannot front (x ∷ rest) last runs stops = λ more.
    nothing_spelled (front ++ x ∷ more) (x ∷ more) (runs (x ∷ more) ∙ ap (λ m. follow m x more (λ later. run later more)) stops)

faulty : (symbols rest : List Symbol) → formula_reading symbols ≡ fault rest → IsFault SpellsNodes (IsSign (codes ";")) symbols rest
unfolding formula_reading
faulty symbols rest e =
    let b = faulty_from symbols (waiting [] []) [] rest start e in
    record { front = b.front; joined = b.joined; beginning = beginning b.last b.front b.reached; wrong = cannot b.front rest b.last b.runs b.stops }

pub formulas_are_read : FormulasAreRead
formulas_are_read = record { complete = complete; sound = sound; faulty = faulty }
