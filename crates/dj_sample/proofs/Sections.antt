-- Sections with a line for each number.
use Rattle.std.proofs.Common.{◌≡◌, ℕ, suc, ◌+◌, ◌++◌, sym, ap, ◌∙◌, arith}
use Rattle.dj_sample.specs.Samples.{Text, for_each}

-- the text of one number more
pub next : (of : ℕ → Text) (n number : ℕ) (before text after : Text) → before ≡ for_each n of → number ≡ n + 1 → text ≡ of number → after ≡ before ++ text → after ≡ for_each (n + 1) of
next of n number before text after all is one pushed =
    let more : n + 1 ≡ suc n = omega arith in
    let last : number ≡ suc n = is ∙ more in
    pushed ∙ ap (λ t. t ++ text) all ∙ ap (λ t. for_each n of ++ t) (one ∙ ap of last) ∙ ap (λ m. for_each m of) (sym more)

-- all of them
pub all_of : (of : ℕ → Text) (n i : ℕ) (text : Text) → text ≡ for_each i of → i ≡ n → text ≡ for_each n of
all_of of n i text all is = all ∙ ap (λ m. for_each m of) is
