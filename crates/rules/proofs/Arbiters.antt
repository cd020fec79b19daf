-- The arbiters of the ports after their picks: each of a port that there is has moved by its own pick and stays sound, all others stay.
-- Assumes nothing.
use Rattle.arbiter.specs.declared.Arbiter.{Arbiter}
use mathlib.Core.Path.{◌≡◌, refl, sym, ap, ap₂, ◌∙◌}
use mathlib.Core.Bool.{Bool, true, false, cond, ◌&&◌, ◌||◌}
use mathlib.Core.List.{List}
use Rattle.std.specs.Prelude.{Option, Some}
use Prim.Native.Nat.{ℕ, ◌*◌, ◌≤◌, ◌<◌}
use native.Mathlib.Omega.{arith}
use lib.Dec.{ltb}
use lib.ListN.{length, get_or, get_or-eq_default}
use borrow.Author.Tests.{eq-eqb, ltb-true, ltb-false}
use Rattle.base.specs.declared.config.Config.{Config}
use Rattle.base.proofs.Search.{both, every_at, all_every, every_ext}
use Rattle.arbiter.specs.Arbiter.{after, sound}
use Rattle.arbiter.proofs.Soundness.{sound_is, sound_holds, after_sound}
use Rattle.state.specs.declared.Arbiters.{Arbiters}
use Rattle.state.specs.Fresh.{past_arbiter}
use Rattle.state.specs.Sound.{arbiters_sound, arbiter_unused, arbiters_unused}
use Rattle.state.specs.Views.{vc_arbiter, input_arbiter, output_arbiter}
use Rattle.rules.specs.Ports.{over_ports}
use Rattle.rules.specs.Allocation.{arbiters_moved}
use Rattle.rules.proofs.Folds.{turns, turns_at, turns_elsewhere}

-- a list in which each port changes its own place
module _ {A : Type 0} (d : A) (g : ℕ → A → A) where
  abbrev pub each : List A → ℕ → List A
  each = turns d (λ (i : ℕ). Some i) g

  pub each_at : (n : ℕ) (xs : List A) (i : ℕ) → i < n → i < length xs → get_or (over_ports n each xs) i d ≡ g i (get_or xs i d)
  each_at n xs i l m =
      turns_at d (λ (i : ℕ). Some i) g n xs i i l m (λ j h k e. k (same j i e))
      ∙ ap (λ (b : Bool). cond b (g i (get_or xs i d)) (get_or xs i d)) (eq-eqb i i refl)
    where
      same : (j i : ℕ) → Some j ≡ Some i → j ≡ i
      same j i e = cc

  pub each_beyond : (n : ℕ) (xs : List A) (i : ℕ) → n ≤ i → get_or (over_ports n each xs) i d ≡ get_or xs i d
  each_beyond n xs i l = turns_elsewhere d (λ (i : ℕ). Some i) g n xs i (λ j h e. below j i h l e)
    where
      below : (j i : ℕ) → j < n → n ≤ i → Some j ≡ Some i → ⊥
      below j i h l e = let same : j ≡ i = cc in omega arith

-- a list of arbiters, and their moves
module _ (places code n : ℕ) (room : 1 ≤ places) where
  -- a sound arbiter is not past the end
  pub sound_there : (xs : List (Arbiter places)) (i : ℕ) → sound places code n (get_or xs i past_arbiter) ≡ true → i < length xs
  sound_there xs i e = go (ltb i (length xs)) refl
    where
      go : (b : Bool) → ltb i (length xs) ≡ b → i < length xs
      go true q = ltb-true i (length xs) q
      go false q =
          let past : get_or xs i past_arbiter ≡ past_arbiter = get_or-eq_default xs past_arbiter (ltb-false i (length xs) q) in
          let long : 0 ≡ places =
          ap (λ (a : Arbiter places). length a.rows) (sym past) ∙ (sound_is places code n (get_or xs i past_arbiter) e).long in
          omega arith

  abbrev move : (ℕ → Option ℕ) → ℕ → Arbiter places → Arbiter places
  move pick i a = after places code n (pick i) a

  -- each arbiter that is sound is so after its own pick
  pub moved_sound_at : (pick : ℕ → Option ℕ) (ports : ℕ) (xs : List (Arbiter places)) (i : ℕ) → i < ports
      → sound places code n (get_or xs i past_arbiter) ≡ true
      → sound places code n (get_or (over_ports ports (each past_arbiter (move pick)) xs) i past_arbiter) ≡ true
  moved_sound_at pick ports xs i l e =
      ap (sound places code n) (each_at past_arbiter (move pick) ports xs i l (sound_there xs i e))
      ∙ sound_holds places code n (after places code n (pick i) (get_or xs i past_arbiter))
      (after_sound places code n (pick i) (get_or xs i past_arbiter) (sound_is places code n (get_or xs i past_arbiter) e))

-- those of the ports that there are
module _ (places : ℕ) (c : Config) (n : ℕ) (pick : ℕ → Option ℕ) (i : ℕ) where
  pub arbiters_moved_sound : 1 ≤ places → (xs : List (Arbiter places)) → i < c.ports
      → sound places c.arbiter n (get_or xs i past_arbiter) ≡ true
      → sound places c.arbiter n (get_or (arbiters_moved places c n pick xs) i past_arbiter) ≡ true
  unfolding arbiters_moved
  arbiters_moved_sound room xs l e = moved_sound_at places c.arbiter n room pick c.ports xs i l e

  pub arbiters_beyond : (xs : List (Arbiter places)) → c.ports ≤ i
      → get_or (arbiters_moved places c n pick xs) i past_arbiter ≡ get_or xs i past_arbiter
  unfolding arbiters_moved
  arbiters_beyond xs l = each_beyond past_arbiter (λ o a. after places c.arbiter n (pick o) a) c.ports xs i l

-- the two clauses on arbiters, from those of each port
module _ (c : Config) (later before : Arbiters) where
  pub arbiters_kept : arbiters_sound c before ≡ true
      → ((i : ℕ) → i < c.ports → sound 32 c.arbiter (c.ports * c.vcs) (vc_arbiter before i) ≡ true
      → sound 32 c.arbiter (c.ports * c.vcs) (vc_arbiter later i) ≡ true)
      → ((i : ℕ) → i < c.ports → sound 8 c.arbiter c.vcs (input_arbiter before i) ≡ true
      → sound 8 c.arbiter c.vcs (input_arbiter later i) ≡ true)
      → ((i : ℕ) → i < c.ports → sound 8 c.arbiter c.ports (output_arbiter before i) ≡ true
      → sound 8 c.arbiter c.ports (output_arbiter later i) ≡ true)
      → arbiters_sound c later ≡ true
  unfolding arbiters_sound
  arbiters_kept e f g k =
      all_every c.ports _ (λ i h.
      let p = both _ (sound 8 c.arbiter c.ports (output_arbiter before i)) (every_at c.ports _ e i h) in
      let q = both (sound 32 c.arbiter (c.ports * c.vcs) (vc_arbiter before i)) (sound 8 c.arbiter c.vcs (input_arbiter before i)) p.0 in
      ap₂ ◌&&◌ (ap₂ ◌&&◌ (f i h q.0) (g i h q.1)) (k i h p.1))

  pub unused_arbiters_kept : ((i : ℕ) → c.ports ≤ i → vc_arbiter later i ≡ vc_arbiter before i)
      → ((i : ℕ) → c.ports ≤ i → input_arbiter later i ≡ input_arbiter before i)
      → ((i : ℕ) → c.ports ≤ i → output_arbiter later i ≡ output_arbiter before i) → arbiters_unused c later ≡ arbiters_unused c before
  unfolding arbiters_unused
  unused_arbiters_kept f g k = every_ext 8 _ _ (λ i h. go i (ltb i c.ports) refl)
    where
      none : Arbiters → ℕ → Bool
      none a i =
          arbiter_unused 32 (vc_arbiter a i) && arbiter_unused 8 (input_arbiter a i)
          && arbiter_unused 8 (output_arbiter a i)

      go : (i : ℕ) (b : Bool) → ltb i c.ports ≡ b → (b || none later i) ≡ (b || none before i)
      go i true e = refl
      go i false e =
          let l = ltb-false i c.ports e in
          ap₂ ◌&&◌ (ap₂ (λ (a : Arbiter 32) (b : Arbiter 8). arbiter_unused 32 a && arbiter_unused 8 b) (f i l) (g i l))
          (ap (λ (a : Arbiter 8). arbiter_unused 8 a) (k i l))
