-- Filling an array from the front with one value.
-- Assumes nothing.
use mathlib.Core.Path.{◌≡◌, sym, ap, ◌∙◌}
use mathlib.Core.List.{List, [], ◌∷◌, ◌++◌, append_assoc}
use Prim.Native.Nat.{ℕ, suc, ◌+◌, ◌-◌, ◌<◌}
use native.Mathlib.Omega.{arith}
use lib.ListN.{set, replicate, length-replicate, replicate-append-replicate}
use lib.Seq.{set_at}
use Rattle.state.specs.Fresh.{filled}

-- one place more
pub filled_more : {A : Type 0} (x z : A) (size n : ℕ) → n < size → set (filled n size x z) n x ≡ filled (n + 1) size x z
filled_more x z size n h =
    let m = size - (n + 1) in
    let left : size - n ≡ suc m = omega arith in
    ap (λ (k : ℕ). set (replicate n x ++ replicate k z) n x) left
    ∙ set_at (replicate n x) z (replicate m z) x n (length-replicate n x)
    ∙ sym (append_assoc (replicate n x) (x ∷ []) (replicate m z))
    ∙ ap (λ l. l ++ replicate m z) (replicate-append-replicate n 1 x)

-- the same of an array that is filled so far
pub filled_again : {A : Type 0} (made : List A) (x z : A) (size n : ℕ) → n < size → made ≡ filled n size x z
    → set made n x ≡ filled (n + 1) size x z
filled_again made x z size n h e = ap (λ l. set l n x) e ∙ filled_more x z size n h
