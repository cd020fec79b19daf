-- The test of a run, clause by clause.
-- Assumes nothing.
use mathlib.Core.Path.{◌≡◌, refl, sym, ap, ap₂, ◌∙◌}
use mathlib.Core.Bool.{Bool, true, false, ◌&&◌}
use Prim.Native.Nat.{ℕ, ◌+◌, ◌-◌, ◌*◌, ◌≤◌, ◌<◌}
use native.Mathlib.Nat.{mul-le-mul}
use native.Mathlib.Omega.{arith}
use lib.Arith.{lt_of_le-ne}
use lib.Dec.{eqb, leb, ltb}
use borrow.Author.Tests.{leb-true, leb-false, le-leb, lt-leb, ltb-true, ltb-false, eqb-true, eqb-false}
use Rattle.base.specs.Search.{any}
use Rattle.base.proofs.Search.{any_at, any_none}
use Rattle.state.specs.Blank.{blank}
use Rattle.state.specs.Sound.{sound}
use Rattle.trace.specs.declared.place.Place.{Place}
use Rattle.trace.specs.Place.{good_place}
use Rattle.runs.specs.declared.Run.{Run}
use Rattle.runs.specs.Run.{between_blocks, stopped_inside, place_right, run_sound}

-- k cycles of the last block were accepted, at q before it
abbrev pub in_last : Place → ℕ → ℕ → Bool
in_last q c k = leb k c && between_blocks q (c - k)

-- n less k is at most c where n is at most c and k
most_more : (n k c : ℕ) → leb n (c + k) ≡ leb (n - k) c
most_more n k c = go (leb n (c + k)) refl
  where
    go : (b : Bool) → leb n (c + k) ≡ b → b ≡ leb (n - k) c
    go true e = let l = leb-true n (c + k) e in sym (le-leb (n - k) c (omega arith))
    go false e = let l = leb-false n (c + k) e in sym (lt-leb (n - k) c (omega arith))

module _ (p : Place) (c : ℕ) where
  pub nowhere_between : good_place p c ≡ false → false ≡ between_blocks p c
  unfolding between_blocks
  nowhere_between g = rw g

  pub ended_between : good_place p c ≡ true → p.ended ≡ true → leb p.number (c + 2) ≡ between_blocks p c
  unfolding between_blocks
  ended_between g e = rw (g, e) (most_more p.number 2 c)

  pub going_between : good_place p c ≡ true → p.ended ≡ false → leb p.number (c + 1) ≡ between_blocks p c
  unfolding between_blocks
  going_between g e = rw (g, e) (most_more p.number 1 c)

  -- no cycle comes before the configuration block
  pub early_inside : p.configured ≡ false → false ≡ stopped_inside p c
  unfolding stopped_inside
  early_inside k = rw k

  -- no block was read
  pub none_inside : p.configured ≡ true → p.number ≡ 0 → false ≡ stopped_inside p c
  unfolding stopped_inside
  none_inside k e = rw (k, e)

  pub ended_inside : p.configured ≡ true → 1 ≤ p.number → p.ended ≡ true → false ≡ stopped_inside p c
  unfolding stopped_inside
  ended_inside k l e = rw (k, le-leb 1 p.number l, e)

  -- the search for the cycles of the last block
  pub search_all : p.configured ≡ true → 1 ≤ p.number → p.ended ≡ false
      → any 7 (in_last (record { number = p.number - 1; configured = p.configured; ended = false }) c) ≡ stopped_inside p c
  unfolding stopped_inside
  search_all k l e = rw (k, le-leb 1 p.number l, e)

-- the search at q, k by k
module _ (q : Place) (c : ℕ) where
  -- none of the first k
  abbrev pub NoneBelow : ℕ → Type 0
  NoneBelow k = (i : ℕ) → i < k → in_last q c i ≡ false

  pub search_found : (k : ℕ) → k < 7 → k ≤ c → between_blocks q (c - k) ≡ true → true ≡ any 7 (in_last q c)
  search_found k l m e = sym (any_at 7 (in_last q c) k l (ap₂ ◌&&◌ (le-leb k c m) e))

  -- more than there are
  pub search_few : (k : ℕ) → NoneBelow k → c < k → false ≡ any 7 (in_last q c)
  search_few k none few = sym (any_none 7 (in_last q c) (λ i l. go i (ltb i k) refl))
    where
      go : (i : ℕ) → (b : Bool) → ltb i k ≡ b → in_last q c i ≡ false
      go i true e = none i (ltb-true i k e)
      go i false e = let l = ltb-false i k e in ap (λ (b : Bool). b && between_blocks q (c - i)) (lt-leb i c (omega arith))

  pub search_on : (k : ℕ) → NoneBelow k → k ≤ c → between_blocks q (c - k) ≡ false → NoneBelow (k + 1)
  search_on k none m e i l = go (eqb i k) refl
    where
      go : (b : Bool) → eqb i k ≡ b → in_last q c i ≡ false
      go true d = ap (in_last q c) (eqb-true i k d) ∙ ap₂ ◌&&◌ (le-leb k c m) e
      go false d = none i (lt_of_le-ne (omega arith) (eqb-false i k d))

  pub search_none : (k : ℕ) → NoneBelow k → 7 ≤ k → false ≡ any 7 (in_last q c)
  search_none k none l = sym (any_none 7 (in_last q c) (λ i h. none i (omega arith)))

module _ (p : Place) (c : ℕ) (over : Bool) where
  pub place_between : between_blocks p c ≡ true → true ≡ place_right p c over
  unfolding place_right
  place_between e = rw e

  pub place_over : between_blocks p c ≡ false → over ≡ true → stopped_inside p c ≡ place_right p c over
  unfolding place_right
  place_over e f = rw (e, f)

  pub place_wrong : between_blocks p c ≡ false → over ≡ false → false ≡ place_right p c over
  unfolding place_right
  place_wrong e f = rw (e, f)

module _ (n : Run) where
  abbrev right : Bool
  right = place_right n.place n.router.cycle n.over

  pub run_lost : right ≡ false → false ≡ run_sound n
  unfolding run_sound
  run_lost e = rw e

  pub run_unblank : right ≡ true → n.place.configured ≡ false → blank n.router ≡ false → false ≡ run_sound n
  unfolding run_sound
  run_unblank e f g = rw (e, f, g)

  pub run_unconfigured : right ≡ true → n.place.configured ≡ false → blank n.router ≡ true → eqb n.flits 0 ≡ run_sound n
  unfolding run_sound
  run_unconfigured e f g = rw (e, f, g)

  pub run_unsound : right ≡ true → n.place.configured ≡ true → sound n.router ≡ false → false ≡ run_sound n
  unfolding run_sound
  run_unsound e f g = rw (e, f, g)

  pub run_few : right ≡ true → n.place.configured ≡ true → sound n.router ≡ true
      → leb n.flits (n.router.config.ports * n.router.cycle) ≡ run_sound n
  unfolding run_sound
  run_few e f g = rw (e, f, g)

-- a product that fits
pub flits_fit : {p c : ℕ} → p ≤ 8 → c ≤ 1000000000 → p * c < 18446744073709551616
flits_fit {p} {c} l m = let h = mul-le-mul l m in omega (arith, h)
