-- What the code picks, from sets as words and a table, is what the rules pick.
-- Assumes nothing.
use mathlib.Core.Path.{◌≡◌, refl, ap, ◌∙◌}
use mathlib.Core.Bool.{Bool}
use mathlib.Core.List.{List}
use Rattle.std.specs.Prelude.{Option, Some, None}
use Prim.Native.Nat.{ℕ, ◌*◌, ◌/◌, ◌^◌, ◌<◌, ◌≤◌}
use native.Mathlib.Omega.{arith}
use lib.ListN.{get_or}
use Rattle.base.specs.declared.config.Config.{Config}
use Rattle.base.specs.Bits.{bit, word_of}
use Rattle.base.proofs.Bits.{bit_shr, bit_word}
use Rattle.arbiter.specs.Arbiter.{choice}
use Rattle.arbiter.proofs.ByKind.{choice_same}
use Rattle.arbiter.proofs.Winners.{winner_asks}
use Rattle.state.specs.declared.Router.{Router}
use Rattle.state.specs.Fresh.{fresh_input, past_arbiter}
use Rattle.state.specs.Views.{channel_number, places}
use Rattle.rules.specs.Allocation.{asks, lowest_free_vc, granted, grant_of, is_ready, ready, input_pick, picked, request, output_pick, vc_of}
use Rattle.rules.specs.Allocation.{winning, winner}
use Rattle.rules.proofs.Channels.{channel_below}
use Rattle.router.specs.declared.allocation.Granted.{Granted}
use Rattle.router.specs.Grants.{grant_at}
use Rattle.router.specs.Picks.{pick_in, asks_in}
use Rattle.router.proofs.Asking.{places_at}
use Rattle.router.proofs.Choosing.{input_choice}

module _ (s : Router) (few : s.config.ports ≤ 8) where
  abbrev c : Config
  c = s.config

  abbrev wide : ℕ
  wide = c.ports * c.vcs

  -- phase 5
  pub grants_agree : (sets : List ℕ) → sets ≡ places 8 (λ (o : ℕ). word_of (asks s.inputs s.store o) wide) → (made : List (Option Granted))
      → ((o : ℕ) → o < c.ports → grant_at made o ≡ granted (lowest_free_vc c s.outputs o)
      (choice 32 c.arbiter wide (bit (get_or sets o 0)) (get_or s.arbiters.vcs o past_arbiter)))
      → (o : ℕ) → o < c.ports → grant_at made o ≡ grant_of s o
  unfolding grant_of
  grants_agree sets e made f o h =
      let word : get_or sets o 0 ≡ word_of (asks s.inputs s.store o) wide =
      ap (λ (t : List ℕ). get_or t o 0) e ∙ places_at 8 (λ (o : ℕ). word_of (asks s.inputs s.store o) wide) o 0 (omega arith) in
      f o h
      ∙ ap (granted (lowest_free_vc c s.outputs o))
      (choice_same 32 c.arbiter wide (bit (get_or sets o 0)) (asks s.inputs s.store o) (get_or s.arbiters.vcs o past_arbiter)
      (λ x l. ap (λ (w : ℕ). bit w x) word ∙ bit_word (asks s.inputs s.store o) wide x l))

  -- phase 6: each input's pick
  pub picks_agree : (set : ℕ) → set ≡ word_of (λ (x : ℕ). is_ready c s.outputs (get_or s.inputs x (fresh_input 0))) wide → (picks : List (Option ℕ))
      → ((i : ℕ) → i < c.ports → pick_in picks i ≡ input_choice c set s.arbiters.inputs i)
      → (i : ℕ) → i < c.ports → pick_in picks i ≡ input_pick s i
  unfolding input_pick
  picks_agree set e picks f i h =
      f i h
      ∙ choice_same 8 c.arbiter c.vcs (bit (set / 2 ^ (i * c.vcs))) (ready c s.inputs s.outputs i)
      (get_or s.arbiters.inputs i past_arbiter)
      (λ v l.
      bit_shr set (i * c.vcs) v
      ∙ ap (λ (w : ℕ). bit w (channel_number c i v)) e
      ∙ bit_word (λ (x : ℕ). is_ready c s.outputs (get_or s.inputs x (fresh_input 0))) wide (channel_number c i v)
      (channel_below c i v h l))

  module _ (picks : List (Option ℕ)) (agree : (i : ℕ) → i < c.ports → pick_in picks i ≡ input_pick s i) where
    -- the table
    pub table_agrees : (table : List (List Bool))
        → ((i o : ℕ) → i < c.ports → o < 8 → asks_in table i o ≡ picked c s.inputs i o (pick_in picks i))
        → (i o : ℕ) → i < c.ports → o < 8 → asks_in table i o ≡ request s i o
    unfolding request
    table_agrees table f i o h l = f i o h l ∙ ap (picked c s.inputs i o) (agree i h)

    -- each output's pick
    pub rows_agree : (table : List (List Bool)) → ((i o : ℕ) → i < c.ports → o < 8 → asks_in table i o ≡ request s i o) → (rows : List (Option ℕ))
        → ((o : ℕ) → o < c.ports → pick_in rows o ≡ choice 8 c.arbiter c.ports (λ (i : ℕ). asks_in table i o)
        (get_or s.arbiters.outputs o past_arbiter))
        → (o : ℕ) → o < c.ports → pick_in rows o ≡ output_pick s o
    unfolding output_pick
    rows_agree table t rows f o h =
        f o h
        ∙ choice_same 8 c.arbiter c.ports (λ (i : ℕ). asks_in table i o) (λ (i : ℕ). request s i o)
        (get_or s.arbiters.outputs o past_arbiter) (λ i l. t i o l (omega arith))

    -- who leaves by each output
    pub winners_agree : (rows : List (Option ℕ)) → ((o : ℕ) → o < c.ports → pick_in rows o ≡ output_pick s o)
        → (o : ℕ) → o < c.ports → vc_of (pick_in picks) (pick_in rows o) ≡ winner s o
    unfolding winner output_pick
    winners_agree rows f o h = ap (vc_of (pick_in picks)) (f o h) ∙ go (output_pick s o) refl
      where
        go : (w : Option ℕ) → output_pick s o ≡ w → vc_of (pick_in picks) w ≡ vc_of (input_pick s) w
        go None e = refl
        go (Some i) e =
            let low = (winner_asks 8 c.arbiter c.ports (λ (i : ℕ). request s i o)
            (get_or s.arbiters.outputs o past_arbiter) i e).0 in
            ap (winning i) (agree i low)
