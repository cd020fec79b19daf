-- Every good place is on some file's way, so that 2 comes exactly where no file leads.
-- Assumes nothing.
use mathlib.Core.Path.{◌≡◌, refl, sym, ap, subst, subst₂, ◌∙◌}
use mathlib.Core.Logic.{◌↔◌}
use mathlib.Core.Bool.{Bool, true, false, cond, not, true≢false}
use mathlib.Core.List.{List, [], ◌∷◌}
use Rattle.std.specs.Prelude.{Ok}
use Prim.Native.Nat.{ℕ, zero, suc, ◌+◌, ◌-◌, ◌≤◌, ◌<◌}
use native.Mathlib.Nat.{mul-suc, add-zero, le_refl}
use native.Mathlib.Omega.{arith}
use lib.Dec.{leb, lit≤}
use borrow.Author.Tests.{leb-true, leb-false}
use Rattle.base.specs.Sizes.{cycle_limit, in_range, first_illegal, illegal_field}
use Rattle.base.specs.Numbers as numbers
use Rattle.base.specs.Refusal.{number_of}
use Rattle.trace.specs.declared.place.Place.{Place}
use Rattle.trace.specs.Bytes.{AreBytes, big_endian}
use Rattle.trace.specs.Blocks.{config_of, end_of_body, block_numbers}
use Rattle.trace.specs.Place.{start, cycle_blocks, can_hold, good_place}
use Rattle.trace.specs.Rules.{place_unsound, has_wrong_kind, has_wrong_number, has_wrong_count, has_wrong_order, has_wrong_total, field_wrong}
use Rattle.trace.specs.declared.judging.Answer.{Answer}
use Rattle.trace.specs.declared.judging.Found.{Found}
use Rattle.trace.specs.declared.judging.Found.TheVariants as found
use Rattle.trace.specs.Judged.{accepted, read_of, taken, judged_by_field, judged}
use Rattle.trace.specs.Way.{cycles_in, Brought, Way, begins}
use Rattle.trace.proofs.Places.{Held, Good, nothing, after, good_is}
use Rattle.trace.proofs.Runs.{judged_run}
use Rattle.trace.proofs.Sealed.{sealed, sealed_holds, sealed_bytes, known_bytes}
use Rattle.trace.proofs.Ways.{MayStand, way_stands, way_never_2, way_judged}
use Rattle.trace.proofs.Exactness.{two_exactly}
use Rattle.trace.proofs.Made.{at, cycles_block, cycles_bytes, cycles_judged, end_block, end_bytes, end_judged}

-- a block that is accepted goes on
go_on : (skips : Bool) (p : Place) (c : ℕ) (l : List ℕ) (r : Found) (q : Place) (brought : ℕ) → Way skips p c → AreBytes l
    → judged p c l ≡ accepted r q → Brought skips (cycles_in (Ok r)) brought → c + brought ≤ cycle_limit → Way skips q (c + brought)
go_on skips p c l r q brought w b e many limit =
    subst (λ (o : Answer). Way skips o.place (c + brought)) e
    (way_judged skips p c l w b (ap (λ (o : Answer). number_of o.found) e) brought
    (subst (λ (o : Answer). Brought skips (cycles_in o.found) brought) (sym e) many) limit)

-- a block that holds none
no_cycles : (skips : Bool) → Brought skips 0 0
no_cycles skips = record { most = lit≤ tt; all = λ q. refl }

-- ---- the configuration block

ones : List ℕ
ones = 1 ∷ 0 ∷ 0 ∷ 0 ∷ 0 ∷ 0 ∷ 0 ∷ 0 ∷ 1 ∷ 1 ∷ 1 ∷ 1 ∷ 1 ∷ 1 ∷ 1 ∷ []

ones_bytes : AreBytes ones
unfolding ones
ones_bytes = known_bytes ones refl

ones_judged : judged start 0 (sealed ones) ≡ accepted (found.Configuration (config_of (sealed ones))) (at 1)
unfolding ones sealed big_endian end_of_body can_hold good_place has_wrong_kind has_wrong_number has_wrong_count has_wrong_order has_wrong_total field_wrong in_range
    first_illegal illegal_field read_of taken judged_by_field
ones_judged = judged_run start 0 (sealed ones) 495 refl refl (lit≤ tt) (sealed_holds ones (lit≤ tt)) refl refl refl refl

configured : (skips : Bool) → Way skips (at 1) 0
configured skips = go_on skips start 0 (sealed ones) (found.Configuration (config_of (sealed ones))) (at 1) 0 begins
    (sealed_bytes ones ones_bytes) ones_judged (no_cycles skips) (lit≤ tt)

-- a block of h cycles more
one_more : (skips : Bool) (n c h brought : ℕ) → n < block_numbers → 1 ≤ h → h ≤ 7 → Way skips (at n) c → Brought skips h brought
    → c + brought ≤ cycle_limit → Way skips (at (n + 1)) (c + brought)
one_more skips n c h brought small from to w many limit =
    go_on skips (at n) c (cycles_block n c h small from to) (found.Cycles h) (at (n + 1)) brought w (cycles_bytes n c h small from to)
    (cycles_judged n c h small from to (way_stands skips (at n) c w).good) many limit

-- n cycle blocks after the configuration, with c cycles; at least one each where none are skipped
cycles_reached : (skips : Bool) (n c : ℕ) → n < block_numbers → Held n c → (skips ≡ false → n ≤ c) → Way skips (at (n + 1)) c
cycles_reached skips zero c small h each = subst (Way skips (at 1)) (let a = h.most in omega arith) (configured skips)
cycles_reached skips (suc n) c small h each = which skips refl (cycles_reached skips n)
  where
    Before : Type 0
    Before = (d : ℕ) → n < block_numbers → Held n d → (skips ≡ false → n ≤ d) → Way skips (at (n + 1)) d

    -- d cycles before the last block, which holds k and brought j
    last : Before → (d k j : ℕ) → Held n d → (skips ≡ false → n ≤ d) → 1 ≤ k → k ≤ 7 → Brought skips k j → d + j ≡ c
        → Way skips (at (suc n + 1)) c
    last reached d k j held least from to many e =
        let limit = h.limit in
        let same : n + 1 + 1 ≡ suc n + 1 = omega arith in
        subst₂ (Way skips) (ap at same) e
        (one_more skips (n + 1) d k j (omega arith) from to (reached d (omega arith) held least) many (omega arith))

    -- all seven of the last block
    seven : Before → 7 ≤ c → (skips ≡ false → n + 7 ≤ c) → Way skips (at (suc n + 1)) c
    seven reached enough more =
        let most = h.most in
        let limit = h.limit in
        last reached (c - 7) 7 7 (record { most = omega (arith, mul-suc 7 n); limit = omega arith })
        (λ q. let m = more q in omega arith) (lit≤ tt) (lit≤ tt) (record { most = lit≤ tt; all = λ q. refl }) (omega arith)

    -- a caller who skips may have taken all of the few from the last block
    skipped : Before → skips ≡ true → (b : Bool) → leb 7 c ≡ b → Way skips (at (suc n + 1)) c
    skipped reached s true q = seven reached (leb-true 7 c q) (λ e. absurd (true≢false (sym s ∙ e)))
    skipped reached s false q =
        let few = leb-false 7 c q in
        last reached 0 7 c (record { most = omega arith; limit = omega arith }) (λ e. absurd (true≢false (sym s ∙ e))) (lit≤ tt) (lit≤ tt)
        (record { most = omega arith; all = λ e. absurd (true≢false (sym s ∙ e)) }) (omega arith)

    -- one who does not has one from each block before
    whole : Before → skips ≡ false → (b : Bool) → leb (n + 7) c ≡ b → Way skips (at (suc n + 1)) c
    whole reached s true q = let enough = leb-true (n + 7) c q in seven reached (omega arith) (λ e. enough)
    whole reached s false q =
        let few = leb-false (n + 7) c q in
        let least = each s in
        let limit = h.limit in
        last reached n (c - n) (c - n) (record { most = omega arith; limit = omega arith }) (λ e. le_refl n) (omega arith) (omega arith)
        (record { most = le_refl (c - n); all = λ e. refl }) (omega arith)

    which : (b : Bool) → skips ≡ b → Before → Way skips (at (suc n + 1)) c
    which true s reached = skipped reached s (leb 7 c) refl
    which false s reached = whole reached s (leb (n + 7) c) refl

-- the end block after them
end_reached : (skips : Bool) (n c : ℕ) → n + 2 ≤ block_numbers → Held n c → (skips ≡ false → n ≤ c)
    → Way skips (record { number = n + 2; configured = true; ended = true }) c
end_reached skips n c room h each =
    let w = cycles_reached skips n c (omega arith) h each in
    let g = (way_stands skips (at (n + 1)) c w).good in
    let limit = h.limit in
    let same : n + 1 + 1 ≡ n + 2 = omega arith in
    let few : n + 1 < 4294967296 = omega arith in
    let total : c < 4294967296 = omega arith in
    subst₂ (Way skips) (ap (λ (k : ℕ). record { number = k; configured = true; ended = true }) same) (add-zero c)
    (go_on skips (at (n + 1)) c (end_block (n + 1) c few total) found.End
    (record { number = n + 1 + 1; configured = true; ended = true }) 0 w (end_bytes (n + 1) c few total) (end_judged (n + 1) c few total g) (no_cycles skips) (omega arith))

-- some file leads to every good place
pub good_reached : (skips : Bool) (p : Place) (c : ℕ) → MayStand skips p c → Way skips p c
good_reached skips p c s = go (good_is p c s.good)
  where
    there : (n : ℕ) → p.configured ≡ true → Held n c → (skips ≡ false → n ≤ c) → p.number ≤ block_numbers → (b : Bool) → p.ended ≡ b
        → p.number ≡ n + cond b 2 1 → Way skips p c
    there n k h each room true d e =
        subst (λ (q : Place). Way skips q c) (λ i. record { number = sym e i; configured = sym k i; ended = sym d i })
        (end_reached skips n c (omega arith) h each)
    there n k h each room false d e =
        subst (λ (q : Place). Way skips q c) (λ i. record { number = sym e i; configured = sym k i; ended = sym d i })
        (cycles_reached skips n c (omega arith) h each)

    go : Good p c → Way skips p c
    go (nothing k d n z) = subst₂ (Way skips) (λ i. record { number = sym n i; configured = sym k i; ended = sym d i }) (sym z) begins
    go (after n k e m h) = there n k h (λ q. let least = s.each q in omega arith) m p.ended refl e

-- a place is good exactly when some file leads to it, refused cycles skipped
pub good_exactly : (p : Place) (c : ℕ) → (good_place p c ≡ true) ↔ Way true p c
good_exactly p c = (
  λ g. good_reached true p c (record { good = g; each = λ q. absurd (true≢false q) }),
  λ w. (way_stands true p c w).good,
)

-- where none are skipped, exactly when besides each cycle block brought at least one
pub whole_exactly : (p : Place) (c : ℕ) → ((good_place p c ≡ true) × (cycle_blocks p ≤ c)) ↔ Way false p c
whole_exactly p c = (
  λ g. good_reached false p c (record { good = g.0; each = λ q. g.1 }),
  λ w. let s = way_stands false p c w in (s.good, s.each refl),
)

-- 2 comes exactly where no file leads
pub two_exactly_off_the_way : (p : Place) (c : ℕ) (l : List ℕ) → (number_of (judged p c l).found ≡ numbers.not_sound) ↔ (Way true p c → ⊥)
unfolding place_unsound
two_exactly_off_the_way p c l = (λ e w. way_never_2 true p c l w e, λ none. (two_exactly p c l).1 (go none (good_place p c) refl))
  where
    go : (Way true p c → ⊥) → (b : Bool) → good_place p c ≡ b → not b ≡ true
    go none true e = absurd (none ((good_exactly p c).0 e))
    go none false e = refl
