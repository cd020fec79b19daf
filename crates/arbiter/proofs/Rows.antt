-- The loops over the rows make what the definitions say: the winner's defeat, and the fresh order.
-- Assumes nothing.
use mathlib.Core.Path.{◌≡◌, refl, sym, ap, ap₂, subst, ◌∙◌}
use mathlib.Core.Bool.{Bool, true, false, cond, not, ◌&&◌, ◌||◌}
use mathlib.Core.List.{List, [], ◌∷◌, ◌++◌}
use Prim.Native.Nat.{ℕ, zero, suc, ◌+◌, ◌-◌, ◌^◌, ◌≤◌, ◌<◌}
use native.Mathlib.Nat.{pow-suc, le_refl}
use native.Mathlib.Numerals.{add-one}
use native.Mathlib.Omega.{arith}
use lib.Arith.{lt_of_le-ne}
use lib.Bits.{bit_or}
use lib.Dec.{eqb, ltb}
use lib.ListN.{length, get_or, set, take, length-set, length-append, get_or-append}
use lib.Pow.{pow_mono, pow_pos}
use lib.Seq.{take-suc-set, get_or-set_same, get_or-set_other, get_or_at}
use borrow.Author.Tests.{eqb-true, eqb-false, ltb-true, ltb-false, le-ltb}
use Rattle.base.specs.Bits.{bit, word_of, with_bit}
use Rattle.base.proofs.Bits.{or_with, bit_zero, bit_with, bit_word, word_lt, with_lt}
use Rattle.arbiter.specs.Matrix.{beats, raised, defeated, list_of, fresh_row, fresh_rows}

pub length_raised : (w k : ℕ) (rows : List ℕ) → length (raised w k rows) ≡ length rows
unfolding raised
length_raised w zero rows = refl
length_raised w (suc k) rows = length-set (raised w k rows) k (with_bit w (get_or (raised w k rows) k 0)) ∙ length_raised w k rows

-- one row more
pub raised_more : (w k : ℕ) (rows now : List ℕ) → now ≡ raised w k rows → set now k (bit_or (get_or now k 0) (2 ^ w)) ≡ raised w (k + 1) rows
unfolding raised
raised_more w k rows now e =
    ap₂ (λ (l : List ℕ) (x : ℕ). set l k x) e (or_with (get_or now k 0) w ∙ ap (λ (l : List ℕ). with_bit w (get_or l k 0)) e)
    ∙ sym (ap (λ (m : ℕ). raised w m rows) (add-one k))

-- nobody below n is above i
pub none_above : (i n : ℕ) → n ≤ i → 0 ≡ fresh_row n i
unfolding fresh_row word_of
none_above i zero h = refl
none_above i (suc n) h =
    ap₂ (λ (x : ℕ) (b : Bool). x + cond b (2 ^ n) 0) (none_above i n (omega arith)) (sym (le-ltb i n (omega arith)))

-- the numbers above i are all numbers less those up to i
pub all_above : (i n : ℕ) → i < n → (2 ^ n - 1) - (2 ^ (i + 1) - 1) ≡ fresh_row n i
unfolding fresh_row word_of
all_above i zero h = absurd (omega arith)
all_above i (suc n) h = go (ltb i n) refl (all_above i n)
  where
    go : (b : Bool) → ltb i n ≡ b → (i < n → (2 ^ n - 1) - (2 ^ (i + 1) - 1) ≡ fresh_row n i)
        → (2 ^ suc n - 1) - (2 ^ (i + 1) - 1) ≡ fresh_row n i + cond b (2 ^ n) 0
    go true e rest =
        let l : i < n = ltb-true i n e in
        let le : 2 ^ (i + 1) ≤ 2 ^ n = pow_mono (omega arith) in
        let r = rest l in
        omega (arith, pow-suc 2 n, pow_pos (i + 1))
    go false e rest =
        let z = none_above i n (ltb-false i n e) in
        let top : 2 ^ (i + 1) ≡ 2 ^ suc n = ap (λ (k : ℕ). 2 ^ k) (let l = ltb-false i n e in omega arith) in
        omega arith

-- one row more
pub filled_more : (f : ℕ → ℕ) (rows : List ℕ) (i x : ℕ) → i < length rows → take i rows ≡ list_of f i → x ≡ f i
    → take (i + 1) (set rows i x) ≡ list_of f (i + 1)
unfolding list_of
filled_more f rows i x h e v =
    subst (λ (k : ℕ). take k (set rows i x) ≡ list_of f k) (sym (add-one i))
    (take-suc-set rows i x h ∙ ap₂ (λ (l : List ℕ) (y : ℕ). l ++ (y ∷ [])) e v)

-- ---- who beats whom

-- the rows from k on are not raised, those below are
raised_from : (w k : ℕ) (rows : List ℕ) (i : ℕ) → k ≤ i → get_or (raised w k rows) i 0 ≡ get_or rows i 0
unfolding raised
raised_from w zero rows i h = refl
raised_from w (suc k) rows i h =
    get_or-set_other (raised w k rows) k i (with_bit w (get_or (raised w k rows) k 0)) 0 (λ e. omega arith)
    ∙ raised_from w k rows i (omega arith)

raised_below : (w k : ℕ) (rows : List ℕ) (i : ℕ) → k ≤ length rows → i < k → get_or (raised w k rows) i 0 ≡ with_bit w (get_or rows i 0)
unfolding raised
raised_below w zero rows i h l = absurd (omega arith)
raised_below w (suc k) rows i h l = go (eqb i k) refl (raised_below w k rows i (omega arith))
  where
    x : ℕ
    x = with_bit w (get_or (raised w k rows) k 0)

    go : (b : Bool) → eqb i k ≡ b → (i < k → get_or (raised w k rows) i 0 ≡ with_bit w (get_or rows i 0))
        → get_or (set (raised w k rows) k x) i 0 ≡ with_bit w (get_or rows i 0)
    go true e rest =
        let same : i ≡ k = eqb-true i k e in
        ap (λ (m : ℕ). get_or (set (raised w k rows) k x) m 0) same
        ∙ get_or-set_same (raised w k rows) k x 0 (omega (arith, length_raised w k rows))
        ∙ ap (with_bit w) (raised_from w k rows k (le_refl k) ∙ ap (λ (m : ℕ). get_or rows m 0) (sym same))
    go false e rest =
        get_or-set_other (raised w k rows) k i x 0 (eqb-false i k e) ∙ rest (lt_of_le-ne (omega arith) (eqb-false i k e))

-- after its win w beats nobody, each other of the n beats w, and between others nothing has changed
pub defeated_beats : (n w : ℕ) (rows : List ℕ) → n ≤ length rows → w < n → (i j : ℕ) → i < n
    → beats (defeated n w rows) i j ≡ (not (eqb i w) && (beats rows i j || eqb j w))
unfolding beats defeated
defeated_beats n w rows h g i j l = go (eqb i w) refl
  where
    go : (b : Bool) → eqb i w ≡ b → bit (get_or (set (raised w n rows) w 0) i 0) j ≡ (not b && (beats rows i j || eqb j w))
    go true e =
        ap (λ (m : ℕ). bit (get_or (set (raised w n rows) w 0) m 0) j) (eqb-true i w e)
        ∙ ap (λ (x : ℕ). bit x j) (get_or-set_same (raised w n rows) w 0 0 (omega (arith, length_raised w n rows))) ∙ bit_zero j
    go false e =
        ap (λ (x : ℕ). bit x j) (get_or-set_other (raised w n rows) w i 0 0 (eqb-false i w e) ∙ raised_below w n rows i h l)
        ∙ bit_with w (get_or rows i 0) j

-- rows at or beyond the width stay as they were
pub defeated_beyond : (n w : ℕ) (rows : List ℕ) → w < n → (i : ℕ) → n ≤ i → get_or (defeated n w rows) i 0 ≡ get_or rows i 0
unfolding defeated
defeated_beyond n w rows g i l =
    get_or-set_other (raised w n rows) w i 0 0 (λ e. omega arith) ∙ raised_from w n rows i l

-- and no bit beyond the width is set
pub defeated_within : (n w : ℕ) (rows : List ℕ) → n ≤ length rows → w < n → ((i : ℕ) → i < n → get_or rows i 0 < 2 ^ n) → (i : ℕ) → i < n
    → get_or (defeated n w rows) i 0 < 2 ^ n
unfolding defeated
defeated_within n w rows h g narrow i l = go (eqb i w) refl
  where
    go : (b : Bool) → eqb i w ≡ b → get_or (set (raised w n rows) w 0) i 0 < 2 ^ n
    go true e =
        subst (λ (x : ℕ). x < 2 ^ n)
        (sym (ap (λ (m : ℕ). get_or (set (raised w n rows) w 0) m 0) (eqb-true i w e)
        ∙ get_or-set_same (raised w n rows) w 0 0 (omega (arith, length_raised w n rows))))
        (pow_pos n)
    go false e =
        subst (λ (x : ℕ). x < 2 ^ n) (sym (get_or-set_other (raised w n rows) w i 0 0 (eqb-false i w e) ∙ raised_below w n rows i h l))
        (with_lt n w (get_or rows i 0) (narrow i l) g)

pub length_defeated : (n w : ℕ) (rows : List ℕ) → length (defeated n w rows) ≡ length rows
unfolding defeated
length_defeated n w rows = length-set (raised w n rows) w 0 ∙ length_raised w n rows

-- fresh, a lower number beats a higher
length_list : (f : ℕ → ℕ) (k : ℕ) → length (list_of f k) ≡ k
unfolding list_of
length_list f zero = refl
length_list f (suc k) = length-append (list_of f k) (f k ∷ []) ∙ ap (λ (m : ℕ). m + 1) (length_list f k) ∙ add-one k

list_at : (f : ℕ → ℕ) (k i : ℕ) → i < k → get_or (list_of f k) i 0 ≡ f i
unfolding list_of
list_at f zero i h = absurd (omega arith)
list_at f (suc k) i h = go (eqb i k) refl (list_at f k i)
  where
    go : (b : Bool) → eqb i k ≡ b → (i < k → get_or (list_of f k) i 0 ≡ f i) → get_or (list_of f k ++ (f k ∷ [])) i 0 ≡ f i
    go true e rest =
        let same : i ≡ k = eqb-true i k e in
        get_or_at (list_of f k) (f k) [] 0 i (length_list f k ∙ sym same) ∙ ap f (sym same)
    go false e rest =
        let l : i < k = lt_of_le-ne (omega arith) (eqb-false i k e) in
        get_or-append (list_of f k) (f k ∷ []) 0 i (omega (arith, length_list f k)) ∙ rest l

pub fresh_row-law : (places n i : ℕ) → i < places → get_or (fresh_rows places n) i 0 ≡ fresh_row n i
unfolding fresh_rows
fresh_row-law places n i h = list_at (fresh_row n) places i h

pub length_fresh : (places n : ℕ) → length (fresh_rows places n) ≡ places
unfolding fresh_rows
length_fresh places n = length_list (fresh_row n) places

pub fresh_beats : (places n i j : ℕ) → i < places → j < n → beats (fresh_rows places n) i j ≡ ltb i j
unfolding beats fresh_row
fresh_beats places n i j h g = ap (λ (x : ℕ). bit x j) (fresh_row-law places n i h) ∙ bit_word (λ (j : ℕ). ltb i j) n j g

pub fresh_lt : (n i : ℕ) → fresh_row n i < 2 ^ n
unfolding fresh_row
fresh_lt n i = word_lt (λ (j : ℕ). ltb i j) n
