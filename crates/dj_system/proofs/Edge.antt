-- What is appended by several writes, and what a trait's clauses come to where nothing is told.
use Rattle.std.proofs.Common.{◌≡◌, ◌+◌, ◌-◌, ◌≤◌, ℕ, List, ◌++◌, length, take, drop, ap, sym, ◌∙◌, append_assoc, arith, Option, Some, None, Result, Ok, Err, IfOk, OnOk, OnErr}
use Rattle.std.proofs.Math.Seq.{take-add}
use Rattle.std.proofs.lemmas.Grind.{common_steps}
use Rattle.std.specs.Io.KnownBytes.{Appends, Keeps}

pub take_rest : (p : List ℕ) (w : ℕ) → w ≤ length p → take (length p - w) (drop w p) ≡ drop w p
take_rest p w h = grind (arith, common_steps)

-- a front of the piece was written, and then so many of its other bytes
pub appends-more : (a b c : Option (List ℕ)) (p : List ℕ) (w n : ℕ) → w ≤ length p → Appends a b (take w p)
    → Appends b c (take n (take (length p - w) (drop w p))) → Appends a c (take (w + n) p)
appends-more None b c p w n within front more = tt
appends-more (Some x) None c p w n within front more = absurd front
appends-more (Some x) (Some y) None p w n within front more = absurd more
appends-more (Some x) (Some y) (Some z) p w n within front more =
    let rest : z ≡ y ++ take n (drop w p) = more ∙ ap (λ r. y ++ take n r) (take_rest p w within) in
    let joined : y ++ take n (drop w p) ≡ (x ++ take w p) ++ take n (drop w p) = ap (λ r. r ++ take n (drop w p)) front in
    let whole : x ++ (take w p ++ take n (drop w p)) ≡ x ++ take (w + n) p = ap (λ r. x ++ r) (sym (take-add w n p)) in
    rest ∙ joined ∙ append_assoc x (take w p) (take n (drop w p)) ∙ whole

-- and then nothing
pub appends-kept : (a b c : Option (List ℕ)) (p : List ℕ) → Appends a b p → Keeps b c → Appends a c p
appends-kept None b c p front kept = tt
appends-kept (Some x) None c p front kept = absurd front
appends-kept (Some x) (Some y) None p front kept = absurd kept
appends-kept (Some x) (Some y) (Some z) p front kept = kept ∙ front

-- what always holds holds of an answer, whichever it is
pub if_ok_always : {T E : Type 0} (r : Result T E) (P : T → Type 0) → ((x : T) → P x) → IfOk r P
if_ok_always (Ok x) P always = always x
if_ok_always (Err e) P always = tt

pub on_err_always : {T E : Type 0} (r : Result T E) (P : Type 0) → P → OnErr r P
on_err_always (Ok x) P always = tt
on_err_always (Err e) P always = always

-- the one count is that of each path
pub on_ok_each : {T E : Type 0} (r : Result T E) (P : Type 0) → OnOk r P → OnOk r (List ℕ → P)
on_ok_each (Ok x) P holds = λ path. holds
on_ok_each (Err e) P holds = tt
