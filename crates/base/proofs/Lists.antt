-- Lists alone: rows of zeros, parts of parts.
-- Assumes nothing.
use mathlib.Core.Path.{◌≡◌, refl}
use mathlib.Core.List.{List, [], ◌∷◌}
use Prim.Native.Nat.{ℕ, zero, suc, ◌+◌, ◌-◌, ◌≤◌}
use native.Mathlib.Omega.{arith}
use lib.ListN.{length, get_or, replicate, take, drop, length-drop}
use lib.Seq.{take_all, take-take}

-- a row of zeros has nothing but zeros
pub get_d_zeros : (n k : ℕ) → ◌≡◌ {A = ℕ} (get_or (replicate n 0) k 0) 0
get_d_zeros zero k = refl
get_d_zeros (suc n) zero = refl
get_d_zeros (suc n) (suc k) = get_d_zeros n k

-- what lies inside the first m is there in the whole
pub take_inside : (n u m : ℕ) (l : List ℕ) → u + n ≤ m → take n (drop u (take m l)) ≡ take n (drop u l)
take_inside n zero m l h = take-take n m l (omega arith)
take_inside n (suc u) zero l h = absurd (omega arith)
take_inside n (suc u) (suc m) [] h = refl
take_inside n (suc u) (suc m) (x ∷ l) h = take_inside n u m l (omega arith)

-- all from a place on, as a slice up to its end has it
pub rest_of : (i : ℕ) (l : List ℕ) → take (length l - i) (drop i l) ≡ drop i l
rest_of i l = take_all (length l - i) (drop i l) (omega (arith, length-drop i l))
