-- "A queue can't overflow, so no number exists for it." (01, Numbers given back): of every sound router, whoever hands it in, and in the
-- middle of every cycle that it accepts. Of a run also Times.queue_fits.
-- Assumes nothing.
use Rattle.std.specs.Prelude.{Ok}
use mathlib.Core.Path.{◌≡◌, ◌∙◌}
use mathlib.Core.List.{List}
use Prim.Native.Nat.{ℕ, ◌+◌, ◌≤◌, ◌<◌}
use native.Mathlib.Omega.{arith}
use lib.ListN.{length, take, drop, length-map, length-drop}
use lib.Seq.{length-take-le}
use Rattle.base.specs.declared.config.Config.{Config}
use Rattle.state.specs.declared.Router.{Router}
use Rattle.state.specs.Sound.{Sound}
use Rattle.state.specs.Views.{channel_number, slot_flit, queue_at}
use Rattle.store.specs.Store.{first_slot}
use Rattle.trace.specs.Bytes.{AreBytes}
use Rattle.rules.specs.Intake.{credits_reached, credits_returned, landed, offers_taken}
use Rattle.rules.specs.Step.{taken_in, step_of}
use Rattle.rules.proofs.Accepted.{taken_sound}
use Rattle.rules.proofs.Channels.{channel_room}
use Rattle.rules.proofs.Facts.{credits_sum, sound_legal, sound_lengths}
use Rattle.rules.proofs.LeftPackets.{queued_few}
use Rattle.history.specs.Demand3.{buffered, queue, on_wire}

-- a queue of n flits has n flits
queue_length : (store : List ℕ) (base n : ℕ) → n ≤ 16 → base + 16 ≤ length store → length (queue_at store base n) ≡ n
unfolding queue_at
queue_length store base n few room =
    let sixteen = length-take-le 16 (drop base store) (omega (arith, length-drop base store)) in
    length-map (take n (take 16 (drop base store))) slot_flit ∙ length-take-le n (take 16 (drop base store)) (omega arith)

module _ (s : Router) (sound : Sound s) (i v : ℕ) (port : i < s.config.ports) (vc : v < s.config.vcs) where
  abbrev c : Config
  c = s.config

  -- the buffered flits are as many as the router counts
  pub queue_counted : length (queue c s i v) ≡ buffered c s i v
  queue_counted =
      let room = channel_room c (sound_legal s sound) i v port vc in
      let size = (sound_lengths s sound).store in
      queue_length s.store (first_slot (channel_number c i v)) (buffered c s i v) (queued_few s sound i v port vc) (omega arith)

  -- and with all that is on the wire and will join them, they are at most D
  pub sound_queue_fits : length (queue c s i v) + length (on_wire c s i v) ≤ c.depth
  sound_queue_fits =
      omega (arith, queue_counted, credits_sum c s.inputs s.wire s.home sound.flow.credits i v port vc)

-- In a cycle that is accepted, from any state: after phases 1 to 4, when flits have joined the queues and none has left, D at most are
-- queued.
pub landing_fits : (s : Router) (part : List ℕ) → AreBytes part → (step_of s part).verdict ≡ Ok tt → (i v : ℕ)
    → i < s.config.ports → v < s.config.vcs → length (queue s.config (taken_in part s) i v) ≤ s.config.depth
unfolding taken_in offers_taken landed credits_returned credits_reached
landing_fits s part bytes accepted i v port vc =
    omega (arith, sound_queue_fits (taken_in part s) (taken_sound s part bytes accepted) i v port vc)
