-- The sum that the check takes: how large it is, and one byte more.
-- Assumes nothing.
use mathlib.Core.Path.{◌≡◌, refl, ap, ap₂, ◌∙◌}
use mathlib.Core.List.{List}
use Rattle.std.proofs.lemmas.List.{length-take, get_or-take}
use Rattle.std.specs.Prelude.{length, take, get_or}
use Prim.Native.Nat.{ℕ, ◌+◌, ◌*◌, ◌%◌, ◌≤◌, ◌<◌}
use native.Mathlib.Nat.{mul-le-mul}
use native.Mathlib.Omega.{arith}
use Rattle.trace.specs.Bytes.{byte}
use Rattle.trace.specs.Check.{sum, weighed, check_value}
use Rattle.trace.proofs.Sums.{sum_more, sum_le}

-- nothing is summed yet
pub sum_start : (l : List ℕ) → 0 ≡ sum 0 (weighed l)
unfolding sum
sum_start l = refl

module _ (l : List ℕ) (small : (i : ℕ) → byte l i < 256) where
  -- a byte of the 510 with its weight
  pub weighed_le : (i : ℕ) → i < 510 → weighed l i ≤ 130050
  weighed_le i h =
      let b = small i in
      let w : i + 1 ≤ 510 = omega arith in
      let v : byte l i ≤ 255 = omega arith in
      mul-le-mul w v

  -- all of those passed
  pub weights_le : (n : ℕ) → n ≤ 510 → sum n (weighed l) ≤ 66325500
  weights_le n h = let s = sum_le n 130050 (weighed l) (λ i g. weighed_le i (omega arith)) in omega arith

  -- one byte more, as the loop takes it from the first 510: the sum fits, and is that of one more
  pub weights_step : (i s w x : ℕ) → i < length (take 510 l) → w ≡ i + 1 → x ≡ get_or (take 510 l) i 0 → s ≡ sum i (weighed l)
      → (s + w * x ≤ 66325500) × (s + w * x ≡ sum (i + 1) (weighed l))
  weights_step i s w x h d e f =
      let below : i < 510 = omega (arith, length-take 510 l) in
      let more = sum_more i (weighed l) s (w * x) f (ap₂ ◌*◌ d (e ∙ get_or-take 510 l i 0 below)) in
      let most = weights_le (i + 1) (omega arith) in
      (omega arith, more)

-- the whole sum
pub weights_end : (l : List ℕ) (i s : ℕ) → s ≡ sum i (weighed l) → i ≡ 510 → s % 65521 ≡ check_value l
unfolding check_value
weights_end l i s e d = ap (λ (x : ℕ). x % 65521) (e ∙ ap (λ (n : ℕ). sum n (weighed l)) d)
