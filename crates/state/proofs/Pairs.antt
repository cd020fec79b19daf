-- The pairs of kind and destination that a legal flit can have, as the bits of a word: bit 8 * kind + destination.
-- Assumes nothing.
use mathlib.Core.Path.{◌≡◌, refl, sym, ap, ◌∙◌}
use mathlib.Core.Bool.{Bool, true, false, cond, beq, ◌&&◌, and-true, and-false}
use Prim.Native.Nat.{ℕ, ◌+◌, ◌-◌, ◌*◌, ◌/◌, ◌%◌, ◌^◌, ◌≤◌, ◌<◌}
use native.Mathlib.Omega.{arith}
use lib.Dec.{eqb, leb, ltb}
use lib.Pow.{pow_pos, pow_mono}
use borrow.Author.Tests.{lt-ltb, le-ltb}
use Rattle.base.specs.declared.config.Config.{Config}
use Rattle.base.specs.declared.flit.Flit.{Flit}
use Rattle.base.specs.Flit.{kind_of, destination_of, starts_kind, head, single}
use Rattle.base.specs.Search.{every}
use Rattle.base.proofs.Bits.{shl_one}
use Rattle.base.proofs.Search.{every_at, beq_same}
use Rattle.state.specs.Sound.{legal_flit}

-- `1 << p` as the code has it
abbrev pub shifted : ℕ → ℕ
shifted p = 1 * 2 ^ p % 18446744073709551616

shifted_is : (p : ℕ) → p ≤ 8 → shifted p ≡ 2 ^ p
shifted_is p h = shl_one 64 p (omega arith)

pub shifted_range : (p : ℕ) → p ≤ 8 → (1 ≤ shifted p) × (shifted p ≤ 256)
shifted_range p h = (omega (arith, shifted_is p h, pow_pos p), omega (arith, shifted_is p h, pow_mono h))

-- the word, where u is `1 << p`: H and S to each port below p, B and T to 0
abbrev pub pairs : ℕ → ℕ
pairs u = (u - 1) * 256 + 65536 + 16777216 + (u - 1) * 4294967296

can_come : ℕ → ℕ → Bool
can_come p pair = leb head (pair / 8) && leb (pair / 8) single && cond (starts_kind (pair / 8)) (ltb (pair % 8) p) (eqb (pair % 8) 0)

-- computed for each number of ports and each pair
pairs_right : every 9 (λ (p : ℕ). every 64 (λ (pair : ℕ). beq (eqb (pairs (2 ^ p) / 2 ^ pair % 2) 1) (can_come p pair))) ≡ true
unfolding every can_come starts_kind
pairs_right = refl

-- the parts of a legal flit, but for bits beyond them
abbrev parts : Config → ℕ → ℕ → Bool
parts c kind destination = leb head kind && leb kind single && cond (starts_kind kind) (ltb destination c.ports) (eqb destination 0)

short : (a : Bool) (w : ℕ) → w < 274877906944 → a ≡ (a && ltb w 274877906944)
short a w h = sym (and-true a) ∙ ap (λ b. a && b) (sym (lt-ltb w 274877906944 h))

-- the bit of its pair says whether a flit is legal
pub legal_pair : (c : Config) (f : Flit) → c.ports ≤ 8 → f.word < 274877906944
    → eqb (pairs (shifted c.ports) / 2 ^ (f.word / 4294967296) % 2) 1 ≡ legal_flit c f
unfolding legal_flit kind_of destination_of can_come
legal_pair c f h g =
    let pair = f.word / 4294967296 in
    let low : pair < 64 = omega arith in
    let kind : pair / 8 ≡ f.word / 34359738368 % 8 = omega arith in
    let right : eqb (pairs (2 ^ c.ports) / 2 ^ pair % 2) 1 ≡ parts c (pair / 8) (pair % 8) = beq_same _ _
    (every_at 64 _ (every_at 9 _ pairs_right
    c.ports (omega arith)) pair low) in
    ap (λ u. eqb (pairs u / 2 ^ pair % 2) 1) (shifted_is c.ports h) ∙ right ∙ ap (λ k. parts c k (pair % 8)) kind
    ∙ short (parts c (f.word / 34359738368 % 8) (pair % 8)) f.word g

pub legal_long : (c : Config) (f : Flit) → 274877906944 ≤ f.word → false ≡ legal_flit c f
unfolding legal_flit
legal_long c f h =
    sym (and-false (parts c (kind_of f) (destination_of f))) ∙ ap (λ b. parts c (kind_of f) (destination_of f) && b) (sym (le-ltb
    f.word 274877906944 h))
