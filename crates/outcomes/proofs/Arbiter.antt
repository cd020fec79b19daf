-- arbiter: no second outcome satisfies the contract of a public function, however many places the arbiter has.
-- Assumes nothing.
use Rattle.std.proofs.Common.{refl, sym, ◌∙◌, ℕ, ◌+◌, ◌*◌, ◌<◌, arith}
use mathlib.Core.List.{not-mem-nil}
use denote.Param.{number}
use mir.Syntax.{w64}
use mir.Val.{Fits}
use prog.Memory.{up}
use Rattle.arbiter.proofs.Arbiter.fresh as fresh
use Rattle.arbiter.specs.contracts.Arbiter.fresh as fresh_contract
use Rattle.arbiter.proofs.Arbiter.choose as choose
use Rattle.arbiter.specs.contracts.Arbiter.choose as choose_contract
use Rattle.arbiter.proofs.Arbiter.moved as moved
use Rattle.arbiter.specs.contracts.Arbiter.moved as moved_contract
use Rattle.arbiter.proofs.Arbiter.is_sound as is_sound
use Rattle.arbiter.specs.contracts.Arbiter.is_sound as is_sound_contract
use Rattle.outcomes.specs.Once.{Once}

-- a type of so many places has a size; the router's two do
abbrev pub Sized : ℕ → Type 0
Sized places = Fits w64 places × (up 4 (4 + places * 4) < 9223372036854775808)

pub eight_places : Sized 8
eight_places = (record { fits = omega arith }, omega arith)

pub thirty_two_places : Sized 32
thirty_two_places = (record { fits = omega arith }, omega arith)

module _ (places : ℕ) (sized : Sized places) where
  pub fresh_once : Once (fresh_contract.ended (number places)) (fresh.Reads.Asked places sized.0) (fresh.Reads.Learnt places sized.0)
  fresh_once κs a = ((λ l m. absurd (not-mem-nil m), sized.1), λ r s u v p q. (p ∙ sym q, refl))

  pub choose_once : Once (choose_contract.ended (number places)) (choose.Reads.Asked places sized.0) (choose.Reads.Learnt places sized.0)
  choose_once κs a = ((λ l m. absurd (not-mem-nil m), sized.1), λ r s u v p q. (p ∙ sym q, refl))

  pub moved_once : Once (moved_contract.ended (number places)) (moved.Reads.Asked places sized.0) (moved.Reads.Learnt places sized.0)
  moved_once κs a = ((λ l m. absurd (not-mem-nil m), sized.1), λ r s u v p q. (p ∙ sym q, refl))

  pub is_sound_once : Once (is_sound_contract.ended (number places)) (is_sound.Reads.Asked places sized.0) (is_sound.Reads.Learnt places sized.0)
  is_sound_once κs a = ((λ l m. absurd (not-mem-nil m), sized.1), λ r s u v p q. (p ∙ sym q, refl))
