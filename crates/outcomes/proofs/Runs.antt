-- runs: no second outcome satisfies the contract of a public function.
-- Assumes nothing.
use mathlib.Core.Path.{refl, sym, ◌∙◌}
use Rattle.runs.proofs.Run.start as start
use Rattle.runs.specs.contracts.Run.start as start_contract
use Rattle.runs.proofs.is_sound as sound
use Rattle.runs.specs.contracts.is_sound as sound_contract
use Rattle.outcomes.specs.Once.{Once}

pub start_once : Once start_contract.ended start.Reads.Asked start.Reads.Learnt
start_once κs a = (tt, λ r s u v p q. (p ∙ sym q, refl))

pub is_sound_once : Once sound_contract.ended sound.Reads.Asked sound.Reads.Learnt
is_sound_once κs a = (tt, λ r s u v p q. (p ∙ sym q, refl))
