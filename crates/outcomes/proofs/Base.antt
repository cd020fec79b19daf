-- base: no second outcome satisfies the contract of a public function.
-- Assumes nothing.
use mathlib.Core.Path.{refl, sym, ◌∙◌}
use Rattle.base.proofs.config.Config.judged as judged
use Rattle.base.specs.contracts.config.Config.judged as judged_contract
use Rattle.base.proofs.config.Config.none as nothing
use Rattle.base.specs.contracts.config.Config.none as nothing_contract
use Rattle.base.proofs.flit.Flit.new as new
use Rattle.base.specs.contracts.flit.Flit.new as new_contract
use Rattle.base.proofs.flit.Flit.kind as kind
use Rattle.base.specs.contracts.flit.Flit.kind as kind_contract
use Rattle.base.proofs.flit.Flit.destination as destination
use Rattle.base.specs.contracts.flit.Flit.destination as destination_contract
use Rattle.base.proofs.flit.Flit.payload as payload
use Rattle.base.specs.contracts.flit.Flit.payload as payload_contract
use Rattle.base.proofs.starts as starts
use Rattle.base.specs.contracts.starts as starts_contract
use Rattle.base.proofs.ends as ends
use Rattle.base.specs.contracts.ends as ends_contract
use Rattle.base.proofs.letter as letter
use Rattle.base.specs.contracts.letter as letter_contract
use Rattle.base.proofs.reply.Reply.empty as empty
use Rattle.base.specs.contracts.reply.Reply.empty as empty_contract
use Rattle.outcomes.specs.Once.{Once}

pub judged_once : Once judged_contract.ended judged.Reads.Asked judged.Reads.Learnt
judged_once κs a = (tt, λ r s u v p q. (p ∙ sym q, refl))

pub none_once : Once nothing_contract.ended nothing.Reads.Asked nothing.Reads.Learnt
none_once κs a = (tt, λ r s u v p q. (p ∙ sym q, refl))

pub new_once : Once new_contract.ended new.Reads.Asked new.Reads.Learnt
new_once κs a = (tt, λ r s u v p q. (p ∙ sym q, refl))

pub kind_once : Once kind_contract.ended kind.Reads.Asked kind.Reads.Learnt
kind_once κs a = (tt, λ r s u v p q. (p ∙ sym q, refl))

pub destination_once : Once destination_contract.ended destination.Reads.Asked destination.Reads.Learnt
destination_once κs a = (tt, λ r s u v p q. (p ∙ sym q, refl))

pub payload_once : Once payload_contract.ended payload.Reads.Asked payload.Reads.Learnt
payload_once κs a = (tt, λ r s u v p q. (p ∙ sym q, refl))

pub starts_once : Once starts_contract.ended starts.Reads.Asked starts.Reads.Learnt
starts_once κs a = (tt, λ r s u v p q. (p ∙ sym q, refl))

pub ends_once : Once ends_contract.ended ends.Reads.Asked ends.Reads.Learnt
ends_once κs a = (tt, λ r s u v p q. (p ∙ sym q, refl))

pub letter_once : Once letter_contract.ended letter.Reads.Asked letter.Reads.Learnt
letter_once κs a = (tt, λ r s u v p q. (p ∙ sym q, refl))

pub empty_once : Once empty_contract.ended empty.Reads.Asked empty.Reads.Learnt
empty_once κs a = (tt, λ r s u v p q. (p ∙ sym q, refl))
