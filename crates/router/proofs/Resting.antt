-- Nobody is ready: no input picks a VC, nobody asks for an output, no arbiter moves and nothing leaves.
-- Assumes nothing.
use Rattle.std.proofs.Common.{◌≡◌, ◌∙◌, refl, sym, ap, List, [], ℕ, zero, suc, ◌+◌, ◌*◌, ◌/◌, ◌^◌, get_or}
use Rattle.std.specs.Prelude.{Option}
use Rattle.std.proofs.lemmas.List.{set-get_or}
use Rattle.base.specs.declared.config.Config.{Config}
use Rattle.base.specs.Bits.{bit}
use Rattle.base.proofs.Bits.{bit_zero, bit_shr}
use Rattle.arbiter.specs.declared.Arbiter.{Arbiter}
use Rattle.arbiter.specs.Arbiter.{choice, after}
use Rattle.arbiter.proofs.Winners.{no_request_no_winner}
use Rattle.state.specs.Fresh.{past_arbiter}
use Rattle.rules.specs.Ports.{over_ports}
use Rattle.rules.specs.Allocation.{vc_of, arbiters_moved}
use Rattle.rules.specs.Departures.{Leaving, departures}
use Rattle.router.specs.Picks.{pick_in, asks_in}
use Rattle.router.proofs.Choosing.{input_choice}

-- no picks
abbrev pub no_picks : List (Option ℕ)
no_picks = []

-- turns that change nothing
over_rests : {A : Type 0} → (n : ℕ) (f : A → ℕ → A) (s : A) → ((t : A) (i : ℕ) → t ≡ f t i) → s ≡ over_ports n f s
unfolding over_ports
over_rests zero f s e = refl
over_rests (suc n) f s e = over_rests n f s e ∙ e (over_ports n f s) n

module _ (c : Config) where
  pub picks_rest : (set : ℕ) (arbiters : List (Arbiter 8)) → set ≡ 0 → (i : ℕ) → pick_in no_picks i ≡ input_choice c set arbiters i
  picks_rest set arbiters e i =
      sym (no_request_no_winner 8 c.arbiter c.vcs (bit (set / 2 ^ (i * c.vcs))) (get_or arbiters i past_arbiter)
      (λ j h. bit_shr set (i * c.vcs) j ∙ ap (λ (s : ℕ). bit s (i * c.vcs + j)) e ∙ bit_zero (i * c.vcs + j)))

  pub rows_rest : (arbiters : List (Arbiter 8)) (o : ℕ)
      → pick_in no_picks o ≡ choice 8 c.arbiter c.ports (λ (i : ℕ). asks_in [] i o) (get_or arbiters o past_arbiter)
  rows_rest arbiters o =
      sym (no_request_no_winner 8 c.arbiter c.ports (λ (i : ℕ). asks_in [] i o) (get_or arbiters o past_arbiter) (λ i h. refl))

  pub arbiters_rest : (n : ℕ) (arbiters : List (Arbiter 8)) → arbiters ≡ arbiters_moved 8 c n (pick_in no_picks) arbiters
  unfolding arbiters_moved after
  arbiters_rest n arbiters = over_rests c.ports _ arbiters (λ t i. sym (set-get_or t i past_arbiter))

  pub nothing_leaves : (l : Leaving) → l ≡ departures c (λ (o : ℕ). vc_of (pick_in no_picks) (pick_in no_picks o)) l
  unfolding departures
  nothing_leaves l = over_rests c.ports _ l (λ t o. refl)
