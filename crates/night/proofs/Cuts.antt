-- The blocks of some bytes: the first block, and the blocks of the rest.
-- Assumes nothing.
use mathlib.Core.Path.{◌≡◌, refl, sym, ap, subst, ◌∙◌}
use mathlib.Core.List.{List, [], ◌∷◌, ◌++◌}
use Prim.Native.Nat.{ℕ, zero, suc, ◌+◌, ◌≤◌, ◌<◌}
use native.Mathlib.Nat.{not-suc-le-zero}
use native.Mathlib.Omega.{arith}
use lib.ListN.{length, take, drop, length-drop}
use lib.Seq.{get_or-drop}
use Rattle.trace.specs.Bytes.{AreBytes}
use Rattle.night.specs.File.{cut_into, blocks_of}

-- cutting at most n or m blocks is the same where both are enough
cut_same : (n m : ℕ) (l : List ℕ) → length l ≤ n → length l ≤ m → cut_into n l ≡ cut_into m l
unfolding cut_into
cut_same zero zero l h g = refl
cut_same zero (suc m) [] h g = refl
cut_same zero (suc m) (b ∷ l) h g = absurd (not-suc-le-zero h)
cut_same (suc n) zero [] h g = refl
cut_same (suc n) zero (b ∷ l) h g = absurd (not-suc-le-zero g)
cut_same (suc n) (suc m) [] h g = refl
cut_same (suc n) (suc m) (b ∷ l) h g =
    let e = length-drop 512 (b ∷ l) in
    ap (λ (bs : List (List ℕ)). take 512 (b ∷ l) ∷ bs) (cut_same n m (drop 512 (b ∷ l)) (omega (arith, e, h)) (omega (arith, e, g)))

-- dropping as many as were taken
pub drop_taken : (n : ℕ) (l : List ℕ) → drop (length (take n l)) l ≡ drop n l
drop_taken zero l = refl
drop_taken (suc n) [] = refl
drop_taken (suc n) (x ∷ l) = drop_taken n l

pub first_block : (l : List ℕ) → 1 ≤ length l → blocks_of l ≡ take 512 l ∷ blocks_of (drop (length (take 512 l)) l)
unfolding cut_into
first_block [] h = absurd (omega arith)
first_block (b ∷ l) h =
    let e = length-drop 512 (b ∷ l) in
    ap (λ (bs : List (List ℕ)). take 512 (b ∷ l) ∷ bs)
    (cut_same (length l) (length (drop 512 (b ∷ l))) (drop 512 (b ∷ l)) (omega (arith, e)) (omega arith)
    ∙ ap blocks_of (sym (drop_taken 512 (b ∷ l))))

-- the bytes after some bytes are bytes
pub drop_bytes : (u : ℕ) (l : List ℕ) → AreBytes l → AreBytes (drop u l)
drop_bytes u l b i = subst (λ (m : ℕ). m < 256) (sym (get_or-drop u l i 0)) (b (u + i))

-- bytes behind bytes are bytes
pub append_bytes : (k l : List ℕ) → AreBytes k → AreBytes l → AreBytes (k ++ l)
append_bytes [] l a b i = b i
append_bytes (x ∷ k) l a b zero = a zero
append_bytes (x ∷ k) l a b (suc i) = append_bytes k l (λ j. a (suc j)) b i
