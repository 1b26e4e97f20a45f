-- The greatest variable of clauses.
use Rattle.std.proofs.Common.{◌≡◌, ℕ, ◌≤◌, ◌<◌, List, [], ◌∷◌, ◌++◌, All, fold, max, slice_get, Some, length, get_or, ap, ◌∙◌, arith, refl}
use Rattle.std.proofs.lemmas.List.Sums.{fold_push}
use Rattle.std.proofs.lemmas.List.Elements.{All-head, All-tail, All-cons, All-nil, All-weaker}
use Rattle.std.proofs.lemmas.Option.{slice_get-map, slice_get_read}
use Rattle.std.specs.Option.{option_map}
use Rattle.std.specs.declared.vec.Vec.{Vec}
use Rattle.sat_clauses.specs.declared.literal.Lit.{Lit}
use Rattle.sat_clauses.specs.ClauseLists.{literal_lists}
use Rattle.sat_solver.specs.Stores.{greatest_in, greatest_var}
use Rattle.sat_solver.proofs.AlongLemmas.{All-at}

grows : {X : Type 0} (f : X → ℕ) (a : ℕ) (xs : List X) → a ≤ fold (λ g x. max g (f x)) a xs
grows f a [] = omega arith
grows f a (x ∷ xs) = let rest = grows f (max a (f x)) xs in omega (arith, rest)

-- none is above the greatest
below : {X : Type 0} (f : X → ℕ) (a : ℕ) (xs : List X) → All (λ x. f x ≤ fold (λ g y. max g (f y)) a xs) xs
below f a [] = All-nil (λ x. f x ≤ a)
below f a (x ∷ xs) =
    let rest = grows f (max a (f x)) xs in
    All-cons (λ y. f y ≤ fold (λ g z. max g (f z)) (max a (f x)) xs) x xs (omega (arith, rest)) (below f (max a (f x)) xs)

pub literals_below : (lits : List Lit) → All (λ lit. lit.var ≤ greatest_in lits) lits
literals_below lits = below (λ lit. lit.var) 0 lits

pub clauses_below : (clauses : List (List Lit)) → All (λ clause. greatest_in clause ≤ greatest_var clauses) clauses
clauses_below clauses = below greatest_in 0 clauses

pub greatest-push : (clauses : List (List Lit)) (clause : List Lit) → greatest_var (clauses ++ clause ∷ []) ≡ max (greatest_var clauses) (greatest_in clause)
greatest-push clauses clause = fold_push (λ greatest c. max greatest (greatest_in c)) 0 clauses clause

pub clause_below : (clauses : List (List Lit)) (place : ℕ) (clause : List Lit) → slice_get clauses place ≡ Some clause → All (λ lit. lit.var ≤ greatest_var clauses) clause
clause_below clauses place clause e =
    let here : greatest_in clause ≤ greatest_var clauses = All-at (λ c. greatest_in c ≤ greatest_var clauses) clauses place clause (clauses_below clauses) e in
    All-weaker (λ lit. lit.var ≤ greatest_in clause) (λ lit. lit.var ≤ greatest_var clauses) (λ lit within. omega arith) clause (literals_below clause)

-- literals of the variables leave the greatest as it is
pub greatest-within : (n : ℕ) (lits : List Lit) → All (λ lit. lit.var ≤ n) lits → greatest_in lits ≤ n
greatest-within n lits all = go 0 lits (omega arith) all
  where
    go : (a : ℕ) (ls : List Lit) → a ≤ n → All (λ lit. lit.var ≤ n) ls → fold (λ greatest lit. max greatest lit.var) a ls ≤ n
    go a [] h all = h
    go a (l ∷ ls) h all = let head = All-head (λ lit. lit.var ≤ n) l ls all in go (max a l.var) ls (omega (arith, head)) (All-tail (λ lit. lit.var ≤ n) l ls all)

-- the literals of a vector are at its place
pub listed : {A : Type 0} (clauses : List (Vec Lit A)) (place : ℕ) (clause : Vec Lit A) → place < length clauses → clause ≡ get_or clauses place clause → slice_get (literal_lists clauses) place ≡ Some clause.items
listed {A} clauses place clause within at =
    let items : Vec Lit A → List Lit = λ c. c.items in
    slice_get-map items clauses place ∙ ap (option_map items) (slice_get_read clauses (length clauses) place clause refl within at)
