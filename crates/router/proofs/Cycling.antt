-- One cycle of a run, and the cycles of a block one after another.
-- Assumes nothing.
use Rattle.std.specs.Prelude.{Ok, Err}
use mathlib.Core.Path.{◌≡◌, refl, sym, ap, ◌∙◌}
use mathlib.Core.Bool.{true, false}
use mathlib.Core.List.{List}
use Prim.Native.Nat.{ℕ, zero, suc, ◌+◌, ◌-◌, ◌≤◌, ◌<◌}
use native.Mathlib.Omega.{arith}
use lib.ListN.{length}
use borrow.Author.Tests.{le-leb, lt-ltb}
use Rattle.base.specs.declared.config.Config.{Config}
use Rattle.base.specs.declared.reply.Reply.{Reply}
use Rattle.state.specs.declared.Router.{Router}
use Rattle.trace.specs.Blocks.{held_of, part_at}
use Rattle.trace.specs.Cycles.{Slice, shows, part_of_cycle}
use Rattle.std.specs.Prelude.{Result}
use Rattle.listing.specs.declared.Unwritten.{Unwritten}
use Rattle.listing.specs.Lines.{refusal, cycle_lines, flit_lines}
use Rattle.listing.specs.Writing.{written, write_outcome}
use Rattle.base.specs.declared.refusal.Refusal.{Refusal}
use Rattle.base.specs.Refusal.{Verdict}
use Rattle.rules.specs.declared.Stepped.{Stepped}
use Rattle.rules.specs.Step.{step_of}
use Rattle.rules.proofs.Exactness.{refused_leaves}
use Rattle.router.specs.declared.parts.Parts.{Parts}
use Rattle.router.specs.declared.running.RunParts.{RunParts}
use Rattle.router.specs.Running.{Writing, ended_by, cycled, cycles_from}
use Rattle.router.specs.Inside.{writing_of}
use Rattle.router.specs.Whole.{router_of}
use Rattle.router.proofs.Writes.{wrote_is}

-- a step's answer in the parts after it
abbrev answer_of : Config → ℕ → Parts → List ℕ → List ℕ → List ℕ → Verdict → Reply → Stepped
answer_of c cycle parts store wire home v reply = record { verdict = v; router = router_of c cycle parts store wire home; reply = reply }

module _ (c : Config) (before : RunParts) (store wire home out part store' wire' home' : List ℕ) (cycle' : ℕ) (parts' : Parts) (v : Verdict)
    (reply : Reply)
    (e : answer_of c cycle' parts' store' wire' home' v reply ≡ step_of (router_of c before.cycle before.parts store wire home) part)
  where
    abbrev s : Router
    s = router_of c before.cycle before.parts store wire home

    says : (w : Verdict) → v ≡ w → (step_of s part).verdict ≡ w
    says w f = ap (λ (x : Stepped). x.verdict) (sym e) ∙ f

    -- a refused cycle: the arrays are as before
    pub refused_run : (r : Refusal) → v ≡ Err r
        → ended_by (refusal r.number before.cycle r.place) (writing_of c before store' wire' home' out)
        ≡ cycled part (writing_of c before store wire home out)
    unfolding cycled
    refused_run r f =
        let same : router_of c cycle' parts' store' wire' home' ≡ s = ap (λ (x : Stepped). x.router) e
        ∙ (refused_leaves s part r (says (Err r) f)).0 in
        rw (ap (λ (t : Router). t.store) same, ap (λ (t : Router). t.wire) same, ap (λ (t : Router). t.home) same, says (Err r) f)

    -- an accepted one: its lines, its flits, the router after it
    pub accepted_run : v ≡ Ok tt → (r : Result ℕ Unwritten) (out' : List ℕ) (size flits : ℕ)
        → write_outcome r out' ≡ written out before.at (cycle_lines before.cycle reply)
        → ((b : List ℕ) → size ≡ (write_outcome r b).bytes)
        → flits ≡ flit_lines (cycle_lines before.cycle reply)
        → writing_of c (record {
          parts = parts';
          place = before.place;
          cycle = cycle';
          flits = before.flits + flits;
          over = before.over;
          at = before.at + size;
        }) store' wire' home' out'
        ≡ cycled part (writing_of c before store wire home out)
    unfolding cycled
    accepted_run f r out' size flits g h k =
        rw (k, sym e, f)
        (wrote_is (writing_of c (record {
          parts = parts';
          place = before.place;
          cycle = cycle';
          flits = before.flits + flit_lines (cycle_lines before.cycle reply);
          over = before.over;
          at = before.at;
        }) store' wire' home' out)
        (cycle_lines before.cycle reply) r out' size g h)

-- the part that the reader shows is the cycle's
pub part_shown : (block : Slice) (k : ℕ) → 512 ≤ length block.bytes → held_of block.bytes ≤ 7 → k < held_of block.bytes
    → (part_of_cycle block k).bytes ≡ part_at block.bytes k
unfolding part_of_cycle shows
part_shown block k l h i = rw (le-leb 512 (length block.bytes) l, le-leb (held_of block.bytes) 7 h, lt-ltb k (held_of block.bytes) i)

module _ (block : List ℕ) (k n : ℕ) (w : Writing) where
  pub cycles_over : w.run.over ≡ true → cycles_from block k n w ≡ w
  unfolding cycles_from
  cycles_over e = go n
    where
      go : (m : ℕ) → cycles_from block k m w ≡ w
      go zero = refl
      go (suc m) = rw e

  pub cycles_none : n ≤ k → cycles_from block k (n - k) w ≡ w
  unfolding cycles_from
  cycles_none l = let e : n - k ≡ 0 = omega arith in rw e

  pub cycles_more : k < n → w.run.over ≡ false → cycles_from block k (n - k) w
      ≡ cycles_from block (k + 1) (n - (k + 1)) (cycled (part_at block k) w)
  unfolding cycles_from
  cycles_more l e = let f : n - k ≡ suc (n - (k + 1)) = omega arith in rw (f, e)
