-- Phase 1, ".. and is reported." (01): what the reply says of each sender.
-- Assumes nothing.
use mathlib.Core.Path.{◌≡◌, refl, ap, ◌∙◌}
use mathlib.Core.Bool.{cond}
use mathlib.Core.List.{List}
use Rattle.std.specs.Prelude.{Option, Some, None}
use Rattle.std.proofs.lemmas.Option.{same_Some}
use Prim.Native.Nat.{ℕ, ◌≤◌, ◌<◌}
use native.Mathlib.Omega.{arith}
use lib.ListN.{length, get_or, replicate, length-replicate, get_or-replicate}
use borrow.Author.Tests.{eq-eqb}
use Rattle.base.specs.declared.config.Config.{Config}
use Rattle.state.specs.Views.{home_place}
use Rattle.rules.specs.Ports.{named}
use Rattle.rules.specs.Intake.{reported}
use Rattle.rules.proofs.Folds.{turns_length, turns_at, turns_elsewhere}

module _ (c : Config) (home : List ℕ) where
  -- port i reports at its own place
  abbrev here : ℕ → Option ℕ
  here i = Some i

  abbrev says : ℕ → Option ℕ → Option ℕ
  says i sender = named (home_place home 0 i)

  pub reported_length : length (reported c home) ≡ 8
  unfolding reported
  reported_length =
      turns_length None here says c.ports (replicate 8 None) ∙ length-replicate {A = Option ℕ} 8 None

  -- a port reports the VC that the home line's oldest place names, if it names one
  pub reported_at : (i : ℕ) → i < c.ports → c.ports ≤ 8 → get_or (reported c home) i None ≡ named (home_place home 0 i)
  unfolding reported
  reported_at i h few =
      let l = length-replicate {A = Option ℕ} 8 None in
      turns_at None here says c.ports (replicate 8 None) i i h (omega arith)
      (λ j k n e. n (same_Some j i e))
      ∙ ap (λ b. cond b (named (home_place home 0 i)) (get_or (replicate 8 None) i None)) (eq-eqb i i refl)

  -- any other reports none
  pub reported_past : (i : ℕ) → c.ports ≤ i → i < 8 → get_or (reported c home) i None ≡ None
  unfolding reported
  reported_past i h l =
      turns_elsewhere None here says c.ports (replicate 8 None) i
      (λ j k e. let q = same_Some j i e in absurd (omega arith))
      ∙ get_or-replicate 8 i None None l
