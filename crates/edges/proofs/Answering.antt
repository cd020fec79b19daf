-- What a write answers, from the outcome that its contract gives.
-- Assumes nothing.
use mathlib.Core.Path.{◌≡◌, refl, ap, ◌∙◌}
use Rattle.std.specs.Prelude.{Result, Ok, Err, true, List, ℕ, zero, suc, ◌-◌, ◌==◌, leb, length, take, drop, replicate}
use Rattle.std.specs.List.{list_all}
use borrow.Author.Tests.{leb-true}
use Rattle.base.proofs.Lists.{rest_of}
use Rattle.listing.specs.declared.Unwritten.{Unwritten}
use Rattle.listing.specs.declared.Unwritten.TheVariants.{NoRoom, OutOfRange}
use Rattle.listing.specs.Writing.{WriteOutcome, write_outcome}
use Rattle.router.proofs.Writes.{outcome_buffer}
use Rattle.edges.specs.Answers.{Answers, number_of, bytes_of}

all_zero : (n : ℕ) → list_all (λ (byte : ℕ). byte == 0) (replicate n 0) ≡ true
all_zero zero = refl
all_zero (suc n) = all_zero n

-- nothing stands behind the line
pub zero_behind : (r : Result ℕ Unwritten) (b : List ℕ) (number : ℕ) (line : List ℕ) → Answers (write_outcome r b) number line
    → list_all (λ (byte : ℕ). byte == 0) (take (length b - length line) (drop (length line) b)) ≡ true
zero_behind r b number line a =
    ap (list_all (λ (byte : ℕ). byte == 0)) (rest_of (length line) b ∙ rw (outcome_buffer r b) at a.behind)
    ∙ all_zero (length b - length line)

-- the number and the count of bytes, whatever the buffer
pub number_is : (r : Result ℕ Unwritten) (b : List ℕ) {o : WriteOutcome} → write_outcome r b ≡ o → number_of r ≡ o.number
number_is (Ok n) b e = ap (λ (o : WriteOutcome). o.number) e
number_is (Err NoRoom) b e = ap (λ (o : WriteOutcome). o.number) e
number_is (Err OutOfRange) b e = ap (λ (o : WriteOutcome). o.number) e

pub bytes_is : (r : Result ℕ Unwritten) (b : List ℕ) {o : WriteOutcome} → write_outcome r b ≡ o → bytes_of r ≡ o.bytes
bytes_is (Ok n) b e = ap (λ (o : WriteOutcome). o.bytes) e
bytes_is (Err NoRoom) b e = ap (λ (o : WriteOutcome). o.bytes) e
bytes_is (Err OutOfRange) b e = ap (λ (o : WriteOutcome). o.bytes) e

-- by value
pub computed : (o : WriteOutcome) (number : ℕ) (line : List ℕ) → o.number ≡ number → o.bytes ≡ length line
    → leb (length line) (length o.buffer) ≡ true
    → take (length line) o.buffer ≡ line → drop (length line) o.buffer ≡ replicate (length o.buffer - length line) 0
    → Answers o number line
computed o number line a b c d e =
    record { said = a; count = b; fits = leb-true (length line) (length o.buffer) c; there = d; behind = e }
