-- How long the lines are at most: each of them, a cycle's, and what the buffer has room for.
-- Assumes nothing.
use mathlib.Core.Path.{◌≡◌, refl, sym, ap, ◌∙◌}
use mathlib.Core.Bool.{true}
use mathlib.Core.List.{List, [], ◌∷◌, ◌++◌}
use Prim.Native.Nat.{ℕ, zero, suc, ◌+◌, ◌*◌, ◌≤◌, ◌<◌, zero-le}
use native.Mathlib.Nat.{mul-suc}
use native.Mathlib.Omega.{arith}
use lib.ListN.{length, get_or, length-append}
use Rattle.std.specs.Prelude.{Option, Some, None}
use Rattle.base.specs.declared.reply.Departure.{Departure}
use Rattle.base.specs.declared.reply.Reply.{Reply}
use Rattle.base.specs.Flit.{letter_of}
use Rattle.base.specs.Numbers.{room}
use Rattle.listing.specs.Digits.{decimal, hex}
use Rattle.listing.specs.Lines.{Line, credit, flit, finish, refusal, print, text, printable, by_port, credit_line, flit_line, cycle_lines}
use Rattle.listing.proofs.Bytes.{credit_bytes, flit_bytes, finish_bytes, refusal_bytes}
use Rattle.listing.proofs.Decimals.{decimal_length, hex_length}
use Rattle.listing.proofs.Ports.{text_append, text_one, printable_at, no_credit, one_credit, no_flit, one_flit, cycle_text}
use Rattle.listing.proofs.Ports.{cycle_parts}
use Rattle.listing.proofs.Ranges.{credit_in, flit_in, finish_in, refusal_in}

-- "8·31 + 8·16": a C line has at most 16 bytes, an F line 31
pub credit_length : (cycle input vc : ℕ) → printable (credit cycle input vc ∷ []) ≡ true → length (print (credit cycle input vc)) ≤ 16
credit_length cycle input vc e =
    let b = credit_in cycle input vc e in
    let l = ap length (credit_bytes cycle input vc b.1 b.2) in
    let tail : List ℕ = 32 ∷ (48 + input) ∷ 32 ∷ (48 + vc) ∷ 10 ∷ [] in
    omega (arith, length-append (67 ∷ 32 ∷ decimal cycle) tail, decimal_length 8 cycle b.0)

pub flit_length : (cycle output : ℕ) (d : Departure) → printable (flit cycle output d ∷ []) ≡ true
    → length (print (flit cycle output d)) ≤ 31
flit_length cycle output d e =
    let b = flit_in cycle output d e in
    let middle : List ℕ = 32 ∷ (48 + output) ∷ 32 ∷ (48 + d.out_vc) ∷ 32 ∷ (48 + d.input) ∷ 32 ∷ (48 + d.vc) ∷ 32 ∷ letter_of
    d.kind ∷ 32 ∷ [] in
    let rest = hex d.payload ++ (10 ∷ []) in
    omega (
      arith,
      ap length (flit_bytes cycle output _ d b refl),
      length-append (70 ∷ 32 ∷ decimal cycle) (middle ++ rest),
      length-append middle rest,
      length-append (hex d.payload) (10 ∷ []),
      decimal_length 8 cycle b.cycle_in,
      hex_length d.payload,
    )

-- an E line and an R line fit
pub finish_length : (cycles flits : ℕ) → printable (finish cycles flits ∷ []) ≡ true → length (print (finish cycles flits)) ≤ room
finish_length cycles flits e =
    let b = finish_in cycles flits e in
    let last = decimal flits ++ (10 ∷ []) in
    omega (
      arith,
      ap length (finish_bytes cycles flits),
      length-append (69 ∷ 32 ∷ []) (decimal cycles ++ ((32 ∷ []) ++ last)),
      length-append (decimal cycles) ((32 ∷ []) ++ last),
      length-append (decimal flits) (10 ∷ []),
      decimal_length 9 cycles (omega arith),
      decimal_length 9 flits (omega arith),
    )

pub refusal_length : (number cycle place : ℕ) → printable (refusal number cycle place ∷ []) ≡ true
    → length (print (refusal number cycle place)) ≤ room
refusal_length number cycle place e =
    let b = refusal_in number cycle place e in
    let last : List ℕ = 32 ∷ (48 + place) ∷ 10 ∷ [] in
    omega (
      arith,
      ap length (refusal_bytes number cycle place b.2),
      length-append (82 ∷ 32 ∷ []) (decimal number ++ ((32 ∷ []) ++ (decimal cycle ++ last))),
      length-append (decimal number) ((32 ∷ []) ++ (decimal cycle ++ last)),
      length-append (decimal cycle) last,
      decimal_length 9 number (omega arith),
      decimal_length 9 cycle (omega arith),
    )

-- ports whose lines are each at most m bytes
pub ports_length : (f : ℕ → List Line) (m n : ℕ) → ((i : ℕ) → i < n → length (text (f i)) ≤ m) → length (text (by_port f n)) ≤ m * n
unfolding by_port text
ports_length f m zero each = zero-le
ports_length f m (suc n) each =
    let before = ports_length f m n (λ i h. each i (omega arith)) in
    omega (
      arith,
      mul-suc m n,
      each n (omega arith),
      ap length (text_append (by_port f n) (f n)),
      length-append (text (by_port f n))
          (text (f n)),
    )

module _ (cycle : ℕ) (reply : Reply) where
  credits_each : (i : ℕ) → printable (credit_line cycle reply i) ≡ true → length (text (credit_line cycle reply i)) ≤ 16
  unfolding text
  credits_each i ok = go (get_or reply.senders i None) refl
    where
      go : (r : Option ℕ) → get_or reply.senders i None ≡ r → length (text (credit_line cycle reply i)) ≤ 16
      go None e = let l = ap (λ (ls : List Line). length (text ls)) (no_credit cycle reply i e) in omega arith
      go (Some vc) e =
          let one = one_credit cycle reply i vc e in
          let l = ap (λ (ls : List Line). length (text ls)) one ∙ ap length (text_one (credit cycle i vc)) in
          omega (arith, credit_length cycle i vc (sym (ap printable one) ∙ ok))

  flits_each : (i : ℕ) → printable (flit_line cycle reply i) ≡ true → length (text (flit_line cycle reply i)) ≤ 31
  unfolding text
  flits_each i ok = go (get_or reply.outputs i None) refl
    where
      go : (r : Option Departure) → get_or reply.outputs i None ≡ r → length (text (flit_line cycle reply i)) ≤ 31
      go None e = let l = ap (λ (ls : List Line). length (text ls)) (no_flit cycle reply i e) in omega arith
      go (Some d) e =
          let one = one_flit cycle reply i d e in
          let l = ap (λ (ls : List Line). length (text ls)) one ∙ ap length (text_one (flit cycle i d)) in
          omega (arith, flit_length cycle i d (sym (ap printable one) ∙ ok))

  -- "Longest cycle: 8·31 + 8·16 = 376 bytes."
  pub cycle_length-law : printable (cycle_lines cycle reply) ≡ true → length (text (cycle_lines cycle reply)) ≤ room
  cycle_length-law ok =
      let parts = cycle_parts cycle reply ok in
      let cs = ports_length (credit_line cycle reply) 16 8 (λ i h. credits_each i
      (printable_at (credit_line cycle reply) i 8 h parts.0)) in
      let fs = ports_length (flit_line cycle reply) 31 8 (λ i h. flits_each i (printable_at (flit_line cycle reply) i 8 h parts.1)) in
      omega (
        arith,
        ap length (cycle_text cycle reply),
        length-append (text (by_port (credit_line cycle reply) 8)) (text (by_port (flit_line cycle reply) 8)),
      )
