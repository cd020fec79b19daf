-- The bytes of a line in the parts in which they are stored, and how long a line is at most.
-- Assumes nothing.
use mathlib.Core.Path.{◌≡◌, refl}
use mathlib.Core.List.{[], ◌∷◌, ◌++◌}
use Prim.Native.Nat.{ℕ, ◌+◌, ◌≤◌, ◌<◌}
use native.Mathlib.Omega.{arith}
use Rattle.base.specs.declared.reply.Departure.{Departure}
use Rattle.base.specs.Flit.{letter_of}
use Rattle.listing.specs.Digits.{decimal, hex}
use Rattle.listing.specs.Lines.{credit, flit, finish, refusal, spaced, print}
use Rattle.listing.proofs.Decimals.{decimal_digit}
use Rattle.listing.proofs.Ranges.{FlitIn}

pub credit_bytes : (cycle input vc : ℕ) → input < 8 → vc < 4
    → (67 ∷ 32 ∷ decimal cycle) ++ (32 ∷ (48 + input) ∷ 32 ∷ (48 + vc) ∷ 10 ∷ []) ≡ print (credit cycle input vc)
unfolding print spaced
credit_bytes cycle input vc i v = rw (decimal_digit input (omega arith), decimal_digit vc (omega arith))

pub flit_bytes : (cycle output letter : ℕ) (d : Departure) → FlitIn cycle output d → letter ≡ letter_of d.kind
    → (70 ∷ 32 ∷ decimal cycle)
    ++ ((32 ∷ (48 + output) ∷ 32 ∷ (48 + d.out_vc) ∷ 32 ∷ (48 + d.input) ∷ 32 ∷ (48 + d.vc) ∷ 32 ∷ letter ∷ 32 ∷ []) ++
    (hex d.payload ++ (10 ∷ [])))
    ≡ print (flit cycle output d)
unfolding print spaced
flit_bytes cycle output letter d x e =
    rw (
      e,
      decimal_digit output (omega arith),
      decimal_digit d.out_vc (omega arith),
      decimal_digit d.input (omega arith),
      decimal_digit d.vc (omega arith),
    )

pub finish_bytes : (cycles flits : ℕ)
    → (69 ∷ 32 ∷ []) ++ (decimal cycles ++ ((32 ∷ []) ++ (decimal flits ++ (10 ∷ [])))) ≡ print (finish cycles flits)
unfolding print spaced
finish_bytes cycles flits = refl

pub refusal_bytes : (number cycle place : ℕ) → place ≤ 7
    → (82 ∷ 32 ∷ []) ++ (decimal number ++ ((32 ∷ []) ++ (decimal cycle ++ (32 ∷ (48 + place) ∷ 10 ∷ []))))
    ≡ print (refusal number cycle place)
unfolding print spaced
refusal_bytes number cycle place h = rw (decimal_digit place (omega arith))
