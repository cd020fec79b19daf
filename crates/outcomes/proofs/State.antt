-- state: no second outcome satisfies the contract of a public function.
-- Assumes nothing.
use mathlib.Core.Path.{refl, sym, ◌∙◌}
use Rattle.state.proofs.fresh as fresh
use Rattle.state.specs.contracts.fresh as fresh_contract
use Rattle.state.proofs.is_sound as sound
use Rattle.state.specs.contracts.is_sound as sound_contract
use Rattle.state.proofs.is_blank as blank
use Rattle.state.specs.contracts.is_blank as blank_contract
use Rattle.state.proofs.InputVc.with_binding as binding
use Rattle.state.specs.contracts.InputVc.with_binding as binding_contract
use Rattle.state.proofs.OutputVc.with_holder as holder
use Rattle.state.specs.contracts.OutputVc.with_holder as holder_contract
use Rattle.outcomes.specs.Once.{Once}

pub fresh_once : Once fresh_contract.ended fresh.Reads.Asked fresh.Reads.Learnt
fresh_once κs a = (tt, λ r s u v p q. (p ∙ sym q, refl))

pub is_sound_once : Once sound_contract.ended sound.Reads.Asked sound.Reads.Learnt
is_sound_once κs a = (tt, λ r s u v p q. (p ∙ sym q, refl))

pub is_blank_once : Once blank_contract.ended blank.Reads.Asked blank.Reads.Learnt
is_blank_once κs a = (tt, λ r s u v p q. (p ∙ sym q, refl))

pub with_binding_once : Once binding_contract.ended binding.Reads.Asked binding.Reads.Learnt
with_binding_once κs a = (tt, λ r s u v p q. (p ∙ sym q, refl))

pub with_holder_once : Once holder_contract.ended holder.Reads.Asked holder.Reads.Learnt
with_holder_once κs a = (tt, λ r s u v p q. (p ∙ sym q, refl))
