-- Picks: a winner fits the arbiter's room, and what is left of a word input by input.
-- Assumes nothing.
use Rattle.std.proofs.Common.{◌≡◌, refl, ◌∙◌, sym, ap, Bool, true, false, List, ℕ, suc, ◌+◌, ◌*◌, ◌/◌, ◌^◌, ◌<◌, Option, Some, None, arith}
use Rattle.std.proofs.Common.{get_or, length, set, get_or-set_same, get_or-set_other, below_more}
use Rattle.std.proofs.lemmas.Option.{none-some}
use native.Mathlib.Nat.{suc-mul, zero-mul, div-one}
use lib.Pow.{shr-shr}
use Rattle.base.specs.declared.config.Config.{Config}
use Rattle.base.specs.Bits.{bit}
use Rattle.arbiter.specs.declared.Arbiter.{Arbiter}
use Rattle.arbiter.specs.Arbiter.{usable, choice}
use Rattle.arbiter.proofs.ByKind.{usable_fits}
use Rattle.arbiter.proofs.Winners.{winner_asks}
use Rattle.state.specs.Fresh.{past_arbiter}
use Rattle.router.specs.Picks.{pick_in}

-- a winner is below the room
pub winner_low : (places code n : ℕ) (ask : ℕ → Bool) (a : Arbiter places) (w : ℕ) → Some w ≡ choice places code n ask a → w < places
unfolding choice
winner_low places code n ask a w e = go (usable places code n a.pointer) refl
  where
    go : (b : Bool) → usable places code n a.pointer ≡ b → w < places
    go true f =
        let l = (winner_asks places code n ask a w (sym e)).0 in let r = (usable_fits places code n a.pointer f).1 in omega arith
    go false f = absurd (none-some w (sym (rw f at e)))

-- the picks so far, one more
pub picks_again : (f : ℕ → Option ℕ) (picks : List (Option ℕ)) (i : ℕ) (p : Option ℕ) → i < length picks
    → ((j : ℕ) → j < i → pick_in picks j ≡ f j) → p ≡ f i → (j : ℕ) → j < i + 1 → pick_in (set picks i p) j ≡ f j
picks_again f picks i p h below e =
    below_more (λ (j : ℕ). pick_in (set picks i p) j ≡ f j) i
    (λ j m. get_or-set_other picks i j p None (omega arith) ∙ below j m) (get_or-set_same picks i p None h ∙ e)

-- what input i picks among those of the set that are its own
abbrev pub input_choice : Config → ℕ → List (Arbiter 8) → ℕ → Option ℕ
input_choice c set arbiters i =
    choice 8 c.arbiter c.vcs (bit (set / 2 ^ (i * c.vcs))) (get_or arbiters i past_arbiter)

-- what is left of a word after one more shift
pub shifted : (word i v : ℕ) → word / 2 ^ (i * v) / 2 ^ v ≡ word / 2 ^ ((i + 1) * v)
shifted word i v =
    let n : i + 1 ≡ suc i = omega arith in
    shr-shr word (i * v) v ∙ ap (λ (k : ℕ). word / 2 ^ k) (sym (ap (λ (k : ℕ). k * v) n ∙ suc-mul i v))

pub unshifted : (word v : ℕ) → word ≡ word / 2 ^ (0 * v)
unshifted word v = sym (ap (λ (k : ℕ). word / 2 ^ k) (zero-mul v) ∙ div-one word)
