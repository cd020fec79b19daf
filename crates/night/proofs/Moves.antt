-- A call with room for a block's lines moves on: it uses at least the first block of its part, or ends the run where there is none; and the
-- run is over, or further on in its file. A run that is over stays.
-- Assumes nothing.
use mathlib.Core.Path.{◌≡◌, refl, sym, ap, ap₂, subst, ◌∙◌}
use mathlib.Core.Bool.{true, false, not, ◌||◌}
use mathlib.Core.List.{List, [], ◌∷◌}
use Prim.Native.Nat.{ℕ, suc, ◌+◌, ◌-◌, ◌/◌, ◌≤◌}
use native.Mathlib.Omega.{arith}
use lib.ListN.{length, take}
use borrow.Author.Tests.{le-ltb}
use Rattle.base.specs.Numbers.{done, room}
use Rattle.trace.specs.Blocks.{block_length}
use Rattle.trace.specs.Bytes.{AreBytes}
use Rattle.listing.specs.Writing.{lacks_room}
use Rattle.listing.proofs.Outcomes.{room_there}
use Rattle.runs.specs.declared.Run.{Run}
use Rattle.runs.specs.Run.{run_sound}
use Rattle.router.specs.Running.{room_of_block, blocks_in, lacks_block_room, Call, begins, takes, going_on, CallOutcome, answered, ran_of}
use Rattle.router.proofs.Onward.{goes_over, used_on, used_inside}
use Rattle.router.proofs.RunLaws.{run_goes}
use Rattle.night.proofs.CallLines.{begin, none_over}
use Rattle.night.proofs.Used.{goes_further}

-- where there is room for a block's lines there is room for one line's
pub block_line : (buffer : List ℕ) (at : ℕ) → lacks_block_room buffer at ≡ false → lacks_room buffer at ≡ false
unfolding lacks_block_room lacks_room
block_line buffer at e =
    let there = room_there room_of_block buffer at (ap not e) in
    ap₂ ◌||◌ (le-ltb (length buffer) at (omega (arith, there))) (le-ltb (length buffer - at) room (omega (arith, there)))

pub record Moves (n : Run) (part : List ℕ) (o : CallOutcome) : Type 0 where
  pub most : o.ran.used ≤ length part
  pub least : length (take block_length part) ≤ o.ran.used
  pub over : length part ≡ 0 → o.ran.run.over ≡ true
  pub further : o.ran.run.over ≡ false → n.place.number + 1 ≤ o.ran.run.place.number

module _ (n : Run) (buffer : List ℕ) (at : ℕ) (sound : run_sound n ≡ true) (going : n.over ≡ false)
    (room : lacks_block_room buffer at ≡ false) where
  abbrev began : Call
  began = begin n buffer at sound going (block_line buffer at room)

  abbrev after : List ℕ → Call
  after part = going_on part (blocks_in part) began

  count : (part : List ℕ) → blocks_in part ≡ suc ((length part - 1) / 512)
  count part = omega arith

  first_used : (part : List ℕ) (k : ℕ) → (takes part began).used ≤ (going_on part (suc k) began).used
  unfolding going_on
  first_used part k =
      let is : going_on part (suc k) began ≡ going_on part k (takes part began) = rw (going, room) in
      subst (λ (c : Call). (takes part began).used ≤ c.used) (sym is) (used_on part k (takes part began))

  none_ends : (part : List ℕ) → length part ≡ 0 → (after part).writing.run.over ≡ true
  none_ends [] e = none_over n buffer at sound going (block_line buffer at room) room
  none_ends (b ∷ l) e = absurd (omega arith)

  goes_moves : (part : List ℕ) → AreBytes part → Moves n part (answered at (after part))
  goes_moves part bytes =
      let more = (length part - 1) / 512 in
      record {
        most = used_inside part (blocks_in part) began (omega arith);
        least = subst (λ (k : ℕ). length (take 512 part) ≤ (going_on part k began).used) (sym (count part))
            (let l = first_used part more in omega (arith, l));
        over = none_ends part;
        further = subst (λ (k : ℕ). (going_on part k began).writing.run.over ≡ false
            → n.place.number + 1 ≤ (going_on part k began).writing.run.place.number) (sym (count part))
            (goes_further part bytes more began going room);
      }

  pub call_moves : (part : List ℕ) → AreBytes part → Moves n part (ran_of n part buffer at)
  call_moves part bytes =
      subst (Moves n part) (run_goes n part buffer at sound (block_line buffer at room) (blocks_in part) refl) (goes_moves part bytes)

-- a call of a run that is over uses nothing and writes nothing
pub over_stays : (n : Run) (part buffer : List ℕ) (at : ℕ) → run_sound n ≡ true → n.over ≡ true → lacks_room buffer at ≡ false
    → ran_of n part buffer at ≡ record { ran = record { number = done; run = n; used = 0; written = 0; asks = 0 }; buffer = buffer }
over_stays n part buffer at sound o room =
    let start : Call = begins (record { run = n; at = at; buffer = buffer }) in
    let none : at - at ≡ 0 = omega arith in
    sym (run_goes n part buffer at sound room (blocks_in part) refl) ∙ ap (answered at) (goes_over part (blocks_in part) start o)
    ∙ ap (λ (m : ℕ). record { ran = record { number = done; run = n; used = 0; written = m; asks = 0 }; buffer = buffer }) none
