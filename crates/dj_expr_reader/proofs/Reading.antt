-- The reading of expressions keeps what a reading promises.
use Rattle.std.proofs.Common.{◌≡◌, ℕ, List, [], ◌∷◌, ◌++◌, Option, refl, sym, ap, subst, ◌∙◌, append_assoc}
use Rattle.std.proofs.lemmas.List.{append-nil}
use Rattle.std.specs.Prelude.{codes}
use Rattle.dj_lexer.specs.Symbols.{Symbol}
use Rattle.dj_lexer.specs.declared.token.Dialect.{Dialect}
use Rattle.dj_tree.specs.Words.{sign}
use Rattle.dj_tree.specs.Trees.{Expr}
use Rattle.dj_tree.specs.ExprGrammar.{SpellsExpr}
use Rattle.dj_reader.specs.Reading.{got, fault, next, IsTaken, Begins, IsFault, IsSign}
use Rattle.dj_reader.proofs.Laws.{got_value, got_rest}
use Rattle.dj_expr_reader.specs.Marks.{Mark, marks_of, SpellsMarks}
use Rattle.dj_expr_reader.specs.Laws.{ExpressionsAreRead}
use Rattle.dj_expr_reader.specs.Machine.{Frame, Mode, Waiting, Holding, Move, go, finish, stuck, step, follow, run, expr_reading}
use Rattle.dj_expr_reader.proofs.Complete.{Settled, settle, semicolon, finished}
use Rattle.dj_expr_reader.proofs.Sound.{start}
use Rattle.dj_expr_reader.proofs.Moves.{Reached, waiting, Comes, step_comes}
use Rattle.dj_expr_reader.proofs.Beginnings.{beginning}

abbrev Semicolon : Option Symbol → Type 0
Semicolon = IsSign (codes ";")

-- ---- what is spelled is read

whole_read : {d : Dialect} {s : List Symbol} {e : Expr} → SpellsExpr d s e → (at : ℕ) (rest : List Symbol)
    → run d Waiting [] [] (s ++ sign (codes ";") at ∷ rest) ≡ got (marks_of e) (sign (codes ";") at ∷ rest)
whole_read {d} {s} {e} spelled at rest = x.runs (sign (codes ";") at) rest (semicolon at) ∙ ends
  where
    x : Settled d [] [] s e
    x = settle spelled [] [] tt

    ends : run d Holding (x.opened ++ []) ([] ++ x.made) (sign (codes ";") at ∷ rest) ≡ got (marks_of e) (sign (codes ";") at ∷ rest)
    ends = let done = finished x.opened [] [] x.made (marks_of e) x.pass tt x.whole in rw (done.0, done.1) refl

complete : (d : Dialect) (front rest : List Symbol) (marks : List Mark) → SpellsMarks d front marks → Semicolon (next rest) → run d Waiting [] [] (front ++ rest) ≡ got marks rest
complete d front [] marks x f = absurd f
complete d front (s ∷ rest) marks x f =
    let P : Symbol → Type 0 = λ y. run d Waiting [] [] (front ++ y ∷ rest) ≡ got marks (y ∷ rest) in
    subst P (sym f) (whole_read x.spelled s.at rest ∙ ap (λ m. got m (sign (codes ";") s.at ∷ rest)) (sym x.same))

-- ---- what is read is spelled

-- what some symbols led to goes on with the others
abbrev pub Leads : Dialect → Mode → List Frame → List Mark → List Symbol → Type 0
Leads d mode frames marks s = (more : List Symbol) → run d Waiting [] [] (s ++ more) ≡ run d mode frames marks more

taken : (d : Dialect) (mode : Mode) (frames : List Frame) (marks : List Mark) (s symbols rest : List Symbol) (x : List Mark) → Reached d mode frames marks s
    → run d mode frames marks symbols ≡ got x rest → IsTaken (SpellsMarks d) Semicolon (s ++ symbols) rest x
taken d mode frames marks s [] rest x r e = absurd cc
taken d mode frames marks s (y ∷ symbols) rest x r e =
    of (λ later frames_then marks_then t q k. taken d later frames_then marks_then t symbols rest x q k) (step d mode frames marks y) (step_comes y r) e
  where
    of : ((later : Mode) (frames_then : List Frame) (marks_then : List Mark) (t : List Symbol) → Reached d later frames_then marks_then t
        → run d later frames_then marks_then symbols ≡ got x rest → IsTaken (SpellsMarks d) Semicolon (t ++ symbols) rest x)
        → (m : Move) → Comes d s y m → follow m y symbols (λ later frames_then marks_then. run d later frames_then marks_then symbols) ≡ got x rest
        → IsTaken (SpellsMarks d) Semicolon (s ++ y ∷ symbols) rest x
    of again (go later frames_then marks_then) c k =
        subst (λ l. IsTaken (SpellsMarks d) Semicolon l rest x) (append_assoc s (y ∷ []) symbols) (again later frames_then marks_then (s ++ y ∷ []) c k)
    of again (finish made) c k =
        let rest_is : y ∷ symbols ≡ rest = got_rest k in
        let P : List Symbol → Type 0 = λ l. Semicolon (next l) in
        record { front = s; joined = ap (λ l. s ++ l) rest_is; spelled = subst (λ m. SpellsMarks d s m) (got_value k) c.0; follows = subst P rest_is c.1 }
    of again stuck c k = absurd cc

-- ---- where nothing is read

no_reading : (d : Dialect) (symbols rest : List Symbol) → run d Waiting [] [] symbols ≡ fault rest → ¬ (Begins (SpellsMarks d) Semicolon symbols)
no_reading d symbols rest e b =
    let clash : got b.1.0 b.0 ≡ fault rest = sym (complete d b.1.1.front b.0 b.1.0 b.1.1.spelled b.1.1.follows) ∙ ap (run d Waiting [] []) (sym b.1.1.joined) ∙ e in
    cc

found : (d : Dialect) (mode : Mode) (frames : List Frame) (marks : List Mark) (s symbols rest : List Symbol) → Reached d mode frames marks s → Leads d mode frames marks s
    → run d mode frames marks symbols ≡ fault rest → IsFault (SpellsMarks d) Semicolon (s ++ symbols) rest
found d mode frames marks s [] rest r l e =
    let end : [] ≡ rest = cc in
    let P : List Symbol → Type 0 = λ k. IsFault (SpellsMarks d) Semicolon (s ++ []) k in
    subst P end (record { front = s; joined = refl; beginning = beginning r; wrong = no_reading d s [] (ap (run d Waiting [] []) (sym (append-nil s)) ∙ l []) })
found d mode frames marks s (y ∷ symbols) rest r l e =
    of (λ later frames_then marks_then t q m k. found d later frames_then marks_then t symbols rest q m k) (step d mode frames marks y) refl (step_comes y r) e
  where
    of : ((later : Mode) (frames_then : List Frame) (marks_then : List Mark) (t : List Symbol) → Reached d later frames_then marks_then t → Leads d later frames_then marks_then t
        → run d later frames_then marks_then symbols ≡ fault rest → IsFault (SpellsMarks d) Semicolon (t ++ symbols) rest)
        → (m : Move) → step d mode frames marks y ≡ m → Comes d s y m → follow m y symbols (λ later frames_then marks_then. run d later frames_then marks_then symbols) ≡ fault rest
        → IsFault (SpellsMarks d) Semicolon (s ++ y ∷ symbols) rest
    of again (go later frames_then marks_then) is c k =
        subst (λ t. IsFault (SpellsMarks d) Semicolon t rest) (append_assoc s (y ∷ []) symbols)
        (again later frames_then marks_then (s ++ y ∷ []) c (λ more. ap (run d Waiting [] []) (append_assoc s (y ∷ []) more) ∙ l (y ∷ more) ∙ rw is refl) k)
    of again (finish made) is c k = absurd cc
    of again stuck is c k =
        let here : y ∷ symbols ≡ rest = cc in
        let P : List Symbol → Type 0 = λ t. IsFault (SpellsMarks d) Semicolon (s ++ y ∷ symbols) t in
        subst P here (record { front = s; joined = refl; beginning = beginning r; wrong = λ more. no_reading d (s ++ y ∷ more) (y ∷ more) (l (y ∷ more) ∙ rw is refl) })

pub expressions_are_read : ExpressionsAreRead
unfolding expr_reading
expressions_are_read d =
    record {
      complete = complete d;
      sound = λ symbols rest marks e. taken d Waiting [] [] [] symbols rest marks (waiting start) e;
      faulty = λ symbols rest e. found d Waiting [] [] [] symbols rest (waiting start) (λ more. refl) e;
    }
