-- The cycles that the E line and the R line name are the accepted cycles of the file.
-- Assumes nothing.
use Rattle.std.specs.Prelude.{Ok, Err}
use mathlib.Core.Path.{◌≡◌, refl, sym, ◌∙◌}
use mathlib.Core.Bool.{false, true≢false}
use mathlib.Core.List.{List, [], ◌∷◌}
use Prim.Native.Nat.{ℕ, zero, suc, ◌+◌}
use native.Mathlib.Nat.{add-zero, zero-add}
use native.Mathlib.Omega.{arith}
use lib.ListN.{length, take, drop}
use Rattle.base.specs.Sizes.{no_config}
use Rattle.state.specs.declared.Router.{Router}
use Rattle.state.specs.Fresh.{fresh_router}
use Rattle.trace.specs.declared.place.Place.{Place}
use Rattle.trace.specs.Blocks.{held_of, config_of, cycle_length, cycle_start, part_at}
use Rattle.trace.specs.Bytes.{AreBytes}
use Rattle.trace.specs.Place.{start}
use Rattle.trace.specs.declared.judging.Answer.{Answer}
use Rattle.trace.specs.Judged.{next_place, judged}
use Rattle.trace.proofs.Findings.{FoundAs, refuses, configures, holds, ends, is_over, found_as}
use Rattle.base.specs.Refusal.{Verdict}
use Rattle.rules.specs.Step.{step_of}
use Rattle.rules.proofs.ChosenStep.{cycle_steps}
use Rattle.router.proofs.Going.{piece_bytes}
use Rattle.night.specs.File.{Printed, cycle_then, cycles_then, block_then, file_from, cut_into, blocks_of, printed_of}
use Rattle.night.specs.Accepted.{counted, accepted_in, accepted_by, accepted_from, accepted_of}
use Rattle.night.proofs.Cuts.{drop_bytes}

module _ (block : List ℕ) (bytes : AreBytes block) where
  -- the cycles of a block count one each
  cycles_counted : (rest : Router → Printed) (later : Router → ℕ) → ((s : Router) → (rest s).cycles ≡ s.cycle + later s)
      → (n k : ℕ) (s : Router)
      → (cycles_then rest block k n s).cycles ≡ s.cycle + accepted_in later block k n s
  unfolding cycles_then accepted_in
  cycles_counted rest later same zero k s = same s
  cycles_counted rest later same (suc n) k s = go (step_of s (part_at block k)).verdict refl
      (λ t. cycles_counted rest later same n (k + 1) t)
    where
      go : (v : Verdict) → (step_of s (part_at block k)).verdict ≡ v
          → ((t : Router) → (cycles_then rest block (k + 1) n t).cycles ≡ t.cycle + accepted_in later block (k + 1) n t)
          → (cycle_then v (step_of s (part_at block k)) s (cycles_then rest block (k + 1) n)).cycles
          ≡ s.cycle + counted v (accepted_in later block (k + 1) n (step_of s (part_at block k)).router)
      go (Ok _) e more =
          let c = cycle_steps s (part_at block k) (piece_bytes cycle_length (cycle_start k) block bytes) e in
          let h = more (step_of s (part_at block k)).router in
          omega (arith, c, h)
      go (Err r) e more = sym (add-zero s.cycle)

  -- a block counts its cycles; the configuration block comes before any
  block_counted : (rest : Place → Router → Printed) (later : Place → Router → ℕ)
      → ((p : Place) (s : Router) → (p.configured ≡ false → s.cycle ≡ 0) → (rest p s).cycles ≡ s.cycle + later p s)
      → (p : Place) (s : Router) → (p.configured ≡ false → s.cycle ≡ 0) → (o : Answer) → FoundAs p s.cycle block o
      → (block_then o.found o.place block s rest).cycles ≡ s.cycle + accepted_by o.found o.place block s later
  unfolding fresh_router
  block_counted rest later same p s z _ (refuses n k) = sym (add-zero s.cycle)
  block_counted rest later same p s z _ (configures a b _) =
      let h = same (next_place p block) (fresh_router (config_of block)) (λ f. refl) in
      let e = z a in
      omega (arith, h, e)
  block_counted rest later same p s z _ (holds a l h _) =
      cycles_counted (rest (next_place p block)) (later (next_place p block))
      (λ t. same (next_place p block) t (λ f. absurd (true≢false f))) (held_of block) 0 s
  block_counted rest later same p s z _ (ends a _) = same (next_place p block) s (λ f. absurd (true≢false f))
  block_counted rest later same p s z _ (is_over a) = sym (add-zero s.cycle)

file_counted : (n : ℕ) (l : List ℕ) → AreBytes l → (p : Place) (s : Router) → (p.configured ≡ false → s.cycle ≡ 0)
    → (file_from (cut_into n l) p s).cycles ≡ s.cycle + accepted_from (cut_into n l) p s
unfolding file_from accepted_from cut_into
file_counted zero l bytes p s z = sym (add-zero s.cycle)
file_counted (suc n) [] bytes p s z = sym (add-zero s.cycle)
file_counted (suc n) (b ∷ l) bytes p s z =
    block_counted (take 512 (b ∷ l)) (piece_bytes 512 0 (b ∷ l) bytes) (file_from (cut_into n (drop 512 (b ∷ l))))
    (accepted_from (cut_into n (drop 512 (b ∷ l))))
    (file_counted n (drop 512 (b ∷ l)) (drop_bytes 512 (b ∷ l) bytes)) p s z (judged p s.cycle (take 512 (b ∷ l)))
    (found_as p s.cycle (take 512 (b ∷ l)))

-- "(accepted cycles, ..)", "with accepted cycles so far"
pub cycles_accepted : (bytes : List ℕ) → AreBytes bytes → (printed_of bytes).cycles ≡ accepted_of bytes
unfolding printed_of accepted_of fresh_router
cycles_accepted bytes are = file_counted (length bytes) bytes are start (fresh_router no_config) (λ f. refl)
    ∙ zero-add (accepted_from (blocks_of bytes) start (fresh_router no_config))
