-- The unused bytes, one after the other: the `|` of those passed is 0 just when each of them is.
-- Assumes nothing.
use Rattle.std.specs.Prelude.{◌≡◌, true, List, ℕ, ◌+◌, ◌-◌, ◌<◌, eqb, length, get_or, take, drop, bit_or}
use Rattle.std.proofs.Common.{ap, ◌∙◌, arith}
use Rattle.std.proofs.lemmas.List.{length-take, get_or-take}
use lib.Seq.{get_or-drop}
use Rattle.base.proofs.Zeros.{blank_none, blank_more}
use Rattle.trace.specs.Bytes.{zeros}

pub zeros_none : (l : List ℕ) (from : ℕ) → true ≡ zeros l from (from + 0)
unfolding zeros
zeros_none l from = blank_none from l ∙ ap (zeros l from) (omega arith)

pub zeros_more : (l : List ℕ) (from to k any : ℕ) → k < length (take (to - from) (drop from l)) → eqb any 0 ≡ zeros l from (from + k)
    → eqb (bit_or any (get_or (take (to - from) (drop from l)) k 0)) 0 ≡ zeros l from (from + (k + 1))
unfolding zeros
zeros_more l from to k any h e =
    let below : k < to - from = omega (arith, length-take (to - from) (drop from l)) in
    ap (λ (x : ℕ). eqb (bit_or any x) 0) (get_or-take (to - from) (drop from l) k 0 below ∙ get_or-drop from l k 0)
    ∙ blank_more from (from + k) any l (omega arith) e
    ∙ ap (zeros l from) (omega arith)
