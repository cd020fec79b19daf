-- The arbiters move on, turn by turn.
-- Assumes nothing.
use Rattle.std.proofs.Common.{◌≡◌, refl, sym, ap, List, ℕ, ◌<◌, length, Option, Some, None, get_or, set}
use Rattle.std.proofs.lemmas.List.{set-get_or, get_or_default}
use Rattle.base.specs.declared.config.Config.{Config}
use Rattle.arbiter.specs.declared.Arbiter.{Arbiter}
use Rattle.arbiter.specs.Arbiter.{moved, after}
use Rattle.state.specs.Fresh.{past_arbiter}
use Rattle.rules.specs.Allocation.{arbiters_moved}
use Rattle.rules.proofs.Folds.{over_same}
use Rattle.router.specs.Picks.{pick_in}

module _ (places : ℕ) (c : Config) (n : ℕ) (picks : List (Option ℕ)) where
  -- what happens at port i
  abbrev pub turn : List (Arbiter places) → ℕ → List (Arbiter places)
  turn arbiters i = set arbiters i (after places c.arbiter n (pick_in picks i) (get_or arbiters i past_arbiter))

  module _ (arbiters : List (Arbiter places)) (i : ℕ) where
    -- without a pick it stays
    pub turn_stays : ((w : ℕ) → get_or picks i None ≡ Some w → ⊥) → arbiters ≡ turn arbiters i
    unfolding after
    turn_stays none = stays (pick_in picks i) none
      where
        stays : (pick : Option ℕ) → ((w : ℕ) → pick ≡ Some w → ⊥)
            → arbiters ≡ set arbiters i (after places c.arbiter n pick (get_or arbiters i past_arbiter))
        stays None none = sym (set-get_or arbiters i past_arbiter)
        stays (Some w) none = absurd (none w refl)

    -- after a pick it moves
    pub turn_moves : (w : ℕ) (d : Arbiter places) → get_or picks i None ≡ Some w → i < length arbiters
        → set arbiters i (moved places c.arbiter n w (get_or arbiters i d)) ≡ turn arbiters i
    unfolding after
    turn_moves w d e h = rw (e, get_or_default arbiters i d past_arbiter h)

-- picks that agree on the ports that there are move them alike
pub moved_same : (places : ℕ) (c : Config) (n : ℕ) (f g : ℕ → Option ℕ) (arbiters : List (Arbiter places))
    → ((i : ℕ) → i < c.ports → f i ≡ g i)
    → arbiters_moved places c n f arbiters ≡ arbiters_moved places c n g arbiters
unfolding arbiters_moved
moved_same places c n f g arbiters same =
    over_same c.ports (λ t i. set t i (after places c.arbiter n (f i) (get_or t i past_arbiter)))
    (λ t i. set t i (after places c.arbiter n (g i) (get_or t i past_arbiter))) arbiters
    (λ t i h. ap (λ (o : Option ℕ). set t i (after places c.arbiter n o (get_or t i past_arbiter))) (same i h))
