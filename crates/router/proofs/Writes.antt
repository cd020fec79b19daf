-- A write inside a run: what it answers is `wrote`, and the place after it is inside the buffer still.
-- Assumes nothing.
use mathlib.Core.Path.{◌≡◌, refl, sym, ap, ap₂, subst, ◌∙◌}
use mathlib.Core.Bool.{Bool, true, false, cond, not}
use mathlib.Core.List.{List, [], ◌∷◌}
use Prim.Native.Nat.{ℕ, ◌+◌, ◌≤◌, ◌<◌}
use native.Mathlib.Omega.{arith}
use lib.ListN.{length}
use Rattle.base.specs.Numbers.{done, no_room, out_of_range, room}
use Rattle.std.specs.Prelude.{Result, Ok, Err}
use Rattle.listing.specs.declared.Unwritten.{Unwritten}
use Rattle.listing.specs.declared.Unwritten.TheVariants.{NoRoom, OutOfRange}
use Rattle.listing.specs.Lines.{Line, finish, refusal, text, printable}
use Rattle.listing.specs.Writing.{WriteOutcome, put, lacks_room, refused_with, written, write_outcome}
use Rattle.listing.proofs.Ports.{text_one}
use Rattle.listing.proofs.Lengths.{finish_length, refusal_length}
use Rattle.listing.proofs.Outcomes.{room_there}
use Rattle.listing.proofs.Stores.{put_length}
use Rattle.router.specs.Running.{Writing, wrote}
use Rattle.router.specs.Inside.{Within}

-- a write's answer leaves the buffer that it is told of
pub outcome_buffer : (r : Result ℕ Unwritten) (b : List ℕ) → (write_outcome r b).buffer ≡ b
outcome_buffer (Ok n) b = refl
outcome_buffer (Err NoRoom) b = refl
outcome_buffer (Err OutOfRange) b = refl

-- the buffer and the size of a write's answer
pub wrote_is : (w : Writing) (lines : List Line) (r : Result ℕ Unwritten) (buffer : List ℕ) (size : ℕ) → write_outcome r buffer
    ≡ written w.buffer w.at lines
    → ((b : List ℕ) → size ≡ (write_outcome r b).bytes)
    → ◌≡◌ {A = Writing} (record { run = w.run; at = w.at + size; buffer = buffer }) (wrote lines w)
unfolding wrote
wrote_is w lines r buffer size e f =
    ap₂ (λ (n : ℕ) (b : List ℕ). record { run = w.run; at = w.at + n; buffer = b }) (f buffer ∙ ap (λ (o : WriteOutcome). o.bytes) e)
    (sym (outcome_buffer r buffer) ∙ ap (λ (o : WriteOutcome). o.buffer) e)

-- lines that are printed take no more than the room that was asked for
abbrev pub Fitting : List Line → Type 0
Fitting lines = printable lines ≡ true → length (text lines) ≤ room

module _ (b : List ℕ) (at : ℕ) (lines : List Line) (fit : Fitting lines) where
  abbrev Fits : WriteOutcome → Type 0
  Fits o = (at + o.bytes ≤ length b) × (length o.buffer ≡ length b)

  refused_fits : at ≤ length b → (number : ℕ) → Fits (refused_with number b)
  refused_fits l number = (omega arith, refl)

  pub written_fits : at ≤ length b → Fits (written b at lines)
  unfolding written lacks_room
  written_fits l = go (printable lines) refl (lacks_room b at) refl
    where
      laid : printable lines ≡ true → lacks_room b at ≡ false → at + length (text lines) ≤ length b
      laid e f = let r = room_there room b at (ap not f) in let s = fit e in omega arith

      go : (p : Bool) → printable lines ≡ p → (q : Bool) → lacks_room b at ≡ q
          → Fits (cond p (cond q (refused_with no_room b) (record
          { number = done; bytes = length (text lines); buffer = put b at (text lines) })) (refused_with out_of_range b))
      go true e true f = refused_fits l no_room
      go true e false f = (laid e f, put_length b (text lines) at (laid e f))
      go false e q f = refused_fits l out_of_range

-- the place after a write is inside the buffer after it
pub wrote_within : (w : Writing) (lines : List Line) → Fitting lines → Within w.at w.buffer
    → Within (wrote lines w).at (wrote lines w).buffer
unfolding wrote
wrote_within w lines fit i =
    let f = written_fits w.buffer w.at lines fit i.inside in
    record {
      inside = subst (λ (n : ℕ). w.at + (written w.buffer w.at lines).bytes ≤ n) (sym f.1) f.0;
      short = subst (λ (n : ℕ). n < 18446744073709551616) (sym f.1) i.short;
    }

-- so that the place does not overflow
pub place_fits : (b : List ℕ) (at : ℕ) (lines : List Line) (r : Result ℕ Unwritten) (buffer : List ℕ) (size : ℕ) → write_outcome r buffer
    ≡ written b at lines
    → ((b : List ℕ) → size ≡ (write_outcome r b).bytes) → Fitting lines → Within at b → at + size < 18446744073709551616
place_fits b at lines r buffer size e f fit i =
    let n : size ≡ (written b at lines).bytes = f buffer ∙ ap (λ (o : WriteOutcome). o.bytes) e in
    let g = (written_fits b at lines fit i.inside).0 in
    let s = i.short in
    omega (arith, n, g, s)

-- an R line and an E line fit
pub refusal_fits : (number cycle place : ℕ) → Fitting (refusal number cycle place ∷ [])
refusal_fits number cycle place e = subst (λ (b : List ℕ). length b ≤ room) (sym (text_one (refusal number cycle place)))
    (refusal_length number cycle place e)

pub finish_fits : (cycles flits : ℕ) → Fitting (finish cycles flits ∷ [])
finish_fits cycles flits e = subst (λ (b : List ℕ). length b ≤ room) (sym (text_one (finish cycles flits))) (finish_length cycles flits e)
