-- The first block of a file: a fresh router, or the R line.
-- Assumes nothing.
use mathlib.Core.Path.{◌≡◌, sym, ap, ◌∙◌}
use mathlib.Core.List.{List, [], ◌∷◌}
use Rattle.std.specs.Prelude.{Option, None}
use Prim.Native.Nat.{ℕ, ◌+◌}
use Rattle.base.specs.declared.config.Config.{Config}
use Rattle.base.specs.Sizes.{illegal_field}
use Rattle.state.specs.declared.building.Built.{Built}
use Rattle.state.specs.Fresh.{fresh_router, built_of}
use Rattle.trace.specs.declared.place.Place.{Place}
use Rattle.std.specs.Prelude.{Result}
use Rattle.listing.specs.declared.Unwritten.{Unwritten}
use Rattle.listing.specs.Lines.{refusal}
use Rattle.listing.specs.Writing.{written, write_outcome}
use Rattle.router.specs.Running.{Writing, with_place, with_router, on_run, finished, ended_by}
use Rattle.router.proofs.Writes.{wrote_is}

module _ (w : Writing) where
  -- a legal configuration gives the fresh router
  pub built_router : (q : Place) (b : Built) (c : Config) → b ≡ built_of (illegal_field c) c → illegal_field c ≡ None
      → on_run (with_router b.router) (on_run (with_place q) w) ≡ on_run (with_router (fresh_router c)) (on_run (with_place q) w)
  unfolding built_of
  built_router q b c e l =
      ap (λ (x : Built). on_run (with_router x.router) (on_run (with_place q) w)) (e ∙ ap (λ (o : Option ℕ). built_of o c) l)

  -- before the configuration block no cycle was accepted
  pub first_refused : (n k : ℕ) → w.run.router.cycle ≡ 0 → (r : Result ℕ Unwritten) (buffer : List ℕ) (size : ℕ)
      → write_outcome r buffer ≡ written w.buffer w.at (refusal n 0 k ∷ []) → ((b : List ℕ) → size ≡ (write_outcome r b).bytes)
      → ◌≡◌ {A = Writing} (record { run = finished w.run; at = w.at + size; buffer = buffer })
      (ended_by (refusal n w.run.router.cycle k) w)
  unfolding ended_by
  first_refused n k z r buffer size e f =
      wrote_is (on_run finished w) (refusal n 0 k ∷ []) r buffer size e f ∙ ap (λ (m : ℕ). ended_by (refusal n m k) w) (sym z)
