-- A night's calls of the run entry: parts of any length one after another, each with any buffer that is not refused.
-- Assumes nothing.
use Rattle.std.specs.Prelude.{◌≡◌, true, false, List, [], ◌++◌, ℕ, ◌*◌, ◌≤◌, length, take, drop}
use Rattle.base.specs.Numbers as numbers
use Rattle.trace.specs.Bytes.{AreBytes}
use Rattle.trace.specs.Blocks.{block_length}
use Rattle.runs.specs.declared.Run.{Run}
use Rattle.router.specs.Running.{CallOutcome, lacks_block_room, ran_of}

-- the bytes that a call used of its part: as many as it says
abbrev pub used_in : List ℕ → CallOutcome → List ℕ
used_in part o = take o.ran.used part

-- the bytes that a call wrote: as many as it says, from the place on
abbrev pub wrote_in : ℕ → CallOutcome → List ℕ
wrote_in at o = take o.ran.written (drop at o.buffer)

-- calls until the run is over: the bytes that they used, one call's after another's, and all that they wrote
pub data Calls : Run → List ℕ → List ℕ → Type 0 where
  is_over : (n : Run) → n.over ≡ true → Calls n [] []
  call : (n : Run) (part buffer : List ℕ) (at : ℕ) (used wrote : List ℕ) → n.over ≡ false → AreBytes part
      → (ran_of n part buffer at).ran.number ≡ numbers.done → Calls (ran_of n part buffer at).ran.run used wrote
      → Calls n (used_in part (ran_of n part buffer at) ++ used) (wrote_in at (ran_of n part buffer at) ++ wrote)

-- However a caller goes on, with buffers that have room for a block's lines, the night ends.
pub data Ends : Run → Type 0 where
  over : (n : Run) → n.over ≡ true → Ends n
  calls : (n : Run) → n.over ≡ false
      → ((part buffer : List ℕ) (at : ℕ) → AreBytes part → lacks_block_room buffer at ≡ false → Ends (ran_of n part buffer at).ran.run)
      → Ends n

-- the part that is handed over where these bytes are left of a file: some whole blocks of them, or all
pub data MayHand (left : List ℕ) : List ℕ → Type 0 where
  whole : (k : ℕ) → 1 ≤ k → k * block_length ≤ length left → MayHand left (take (k * block_length) left)
  all : MayHand left left

-- a file handed over until the run is over: the bytes left of it, and all that is written; what a call did not use is handed over again
pub data Hands : Run → List ℕ → List ℕ → Type 0 where
  done : (n : Run) (left : List ℕ) → n.over ≡ true → Hands n left []
  hand : (n : Run) (left part buffer : List ℕ) (at : ℕ) (wrote : List ℕ) → n.over ≡ false → MayHand left part
      → (ran_of n part buffer at).ran.number ≡ numbers.done
      → Hands (ran_of n part buffer at).ran.run (drop (ran_of n part buffer at).ran.used left) wrote
      → Hands n left (wrote_in at (ran_of n part buffer at) ++ wrote)
