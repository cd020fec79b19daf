-- The zeros that lead a number's ten digits, counted among the first nine: the number as text stands after them.
-- Assumes nothing.
use Rattle.std.proofs.Common.{◌≡◌, ◌∙◌, refl, sym, ap, Bool, true, false, cond, List, [], ◌∷◌, ◌++◌, ℕ, zero, suc, ◌+◌, ◌/◌, ◌%◌}
use Rattle.std.proofs.Common.{◌^◌, ◌<◌, length, take, drop, length-append, arith}
use Rattle.std.specs.List.{prefix_len}
use Rattle.std.proofs.lemmas.List.Sums.{prefix_len-le-length}
use native.Mathlib.Nat.{pow-suc}
use native.Mathlib.Numerals.{one-add}
use lib.Dec.{eqb, ltb}
use lib.Seq.{drop-append-le, take_at}
use borrow.Author.Tests.{eqb-true, eqb-false, eq-eqb, ne_eqb, ltb-true, ltb-false}
use Rattle.listing.specs.Digits.{glyph, decimal_within, decimal, last_digits}
use Rattle.listing.specs.Inside.{Spelled}
use Rattle.listing.proofs.Decimals.{decimal_digit, decimal_more, glyph_low, last_length}

abbrev is_zero : ℕ → Bool
is_zero d = eqb d 48

-- digits without the zeros that lead
abbrev rest : List ℕ → List ℕ
rest ds = drop (prefix_len is_zero ds) ds

-- and what is left of them with one more
abbrev ended : List ℕ → ℕ → List ℕ
ended [] d = rest (d ∷ [])
ended (c ∷ cs) d = (c ∷ cs) ++ (d ∷ [])

rest_more : (ds : List ℕ) (d : ℕ) → rest (ds ++ (d ∷ [])) ≡ ended (rest ds) d
rest_more [] d = refl
rest_more (c ∷ cs) d = go (is_zero c) (rest_more cs d)
  where
    after : Bool → List ℕ → List ℕ
    after b l = drop (cond b (1 + prefix_len is_zero l) 0) (c ∷ l)

    go : (b : Bool) → rest (cs ++ (d ∷ [])) ≡ ended (rest cs) d → after b (cs ++ (d ∷ [])) ≡ ended (after b cs) d
    go true e = simp one-add e
    go false e = refl

ended_some : (ds : List ℕ) (d : ℕ) → 0 < length ds → ended ds d ≡ ds ++ (d ∷ [])
ended_some [] d h = absurd (omega arith)
ended_some (c ∷ cs) d h = refl

decimal_some : (n : ℕ) → 0 < length (decimal n)
unfolding decimal decimal_within
decimal_some n = simp length-append (omega arith)

-- the number as text, and nothing for 0
abbrev shown : ℕ → List ℕ
shown n = cond (eqb n 0) [] (decimal n)

shown_above : (n : ℕ) → 0 < n → shown n ≡ decimal n
shown_above n h = rw (ne_eqb n 0 (λ e. omega arith))

-- with its last digit it is the number as text, for 0 too
shown_last : (n : ℕ) → shown (n / 10) ++ (glyph (n % 10) ∷ []) ≡ decimal n
shown_last n = go (ltb n 10) refl
  where
    go : (b : Bool) → ltb n 10 ≡ b → shown (n / 10) ++ (glyph (n % 10) ∷ []) ≡ decimal n
    go true e =
        let h = ltb-true n 10 e in
        let tenth : n / 10 ≡ 0 = omega arith in
        let last : n % 10 ≡ n = omega arith in
        rw (tenth, last, decimal_digit n h, glyph_low n h)
    go false e =
        let h = ltb-false n 10 e in
        rw (shown_above (n / 10) (omega arith)) (sym (decimal_more n h))

shown_more : (n : ℕ) → ended (shown (n / 10)) (glyph (n % 10)) ≡ shown n
unfolding glyph
shown_more n = go (ltb n 10) refl (eqb n 0) refl
  where
    go : (b : Bool) → ltb n 10 ≡ b → (z : Bool) → eqb n 0 ≡ z → ended (shown (n / 10)) (glyph (n % 10)) ≡ shown n
    go true e true f = rw (eqb-true n 0 f)
    go true e false f =
        let h = ltb-true n 10 e in
        let some = eqb-false n 0 f in
        let tenth : n / 10 ≡ 0 = omega arith in
        let last : n % 10 ≡ n = omega arith in
        rw (tenth, last, glyph_low n h, ne_eqb (48 + n) 48 (λ q. some (omega arith)))
        (sym (shown_above n (omega arith) ∙ decimal_digit n h))
    go false e z f =
        let h = ltb-false n 10 e in
        rw (shown_above (n / 10) (omega arith), shown_above n (omega arith))
        (ended_some (decimal (n / 10)) _ (decimal_some (n / 10)) ∙ sym (decimal_more n h))

-- a number's digits without the zeros that lead
rest_shown : (k n : ℕ) → n < 10 ^ k → rest (last_digits 10 k n) ≡ shown n
unfolding last_digits
rest_shown zero n h = rw (eq-eqb n 0 (omega arith))
rest_shown (suc k) n h =
    rest_more (last_digits 10 k (n / 10)) (glyph (n % 10))
    ∙ ap (λ ds. ended ds (glyph (n % 10))) (rest_shown k (n / 10) (omega (arith, pow-suc 10 k))) ∙ shown_more n

pub spelled : (n : ℕ) (digits : List ℕ) (zeros : ℕ) → digits ≡ last_digits 10 10 n → zeros ≡ prefix_len is_zero (take 9 digits)
    → Spelled n digits zeros
unfolding last_digits
spelled n digits zeros e f =
    let front = last_digits 10 9 (n / 10) in
    let last = glyph (n % 10) ∷ [] in
    let nine : take 9 digits ≡ front = ap (take 9) e ∙ take_at front last 9 (last_length 10 9 (n / 10)) in
    let count : zeros ≡ prefix_len is_zero front = f ∙ ap (prefix_len is_zero) nine in
    let most = prefix_len-le-length is_zero front in
    record {
      ten = ap length e ∙ last_length 10 10 n;
      shown = omega (arith, last_length 10 9 (n / 10));
      stands =
          λ g. rw (count, e) (drop-append-le (prefix_len is_zero front) front last most
          ∙ ap (λ ds. ds ++ last) (rest_shown 9 (n / 10) (omega arith)) ∙ shown_last n);
    }
