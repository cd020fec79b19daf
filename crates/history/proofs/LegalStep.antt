-- An accepted cycle is within the limits: what its part brings and what the rules choose in it is `Legal`, clause by clause.
-- Assumes nothing.
use Rattle.std.specs.Prelude.{Ok}
use mathlib.Core.Path.{◌≡◌, refl, sym, subst}
use mathlib.Core.List.{List}
use Rattle.std.specs.Prelude.{Option}
use Rattle.std.specs.Prelude.{IsSome}
use Prim.Native.Nat.{ℕ}
use Rattle.model.specs.Router.{OutVc}
use Rattle.model.specs.Legal.{Legal}
use Rattle.state.specs.declared.Router.{Router}
use Rattle.trace.specs.Bytes.{AreBytes}
use Rattle.rules.specs.Free.{look, sizes_of, free_of, event_of}
use Rattle.rules.specs.Step.{step_of}
use Rattle.history.proofs.Choice.{choice_of}
use Rattle.history.proofs.LegalOffers.{offer_is, offer_vc-law, offer_destination-law, offer_kinds, offer_paid, credit_room}
use Rattle.history.proofs.LegalGrants.{binds_unbound-law, binds_front-law, binds_free-law, binds_vc-law, binds_once-law}
use Rattle.history.proofs.LegalLeaves.{leaves_bound-law, leaves_flit-law, leaves_credit-law, leaves_input_once, leaves_output_once}

pub legal_step : (s : Router) (part : List ℕ) → AreBytes part → (step_of s part).verdict ≡ Ok tt
    → Legal look (sizes_of s.config) (free_of s) (event_of s.config part) (choice_of s part)
legal_step s part bytes accepted =
    record {
      offer_port = λ i b q. (offer_is s.config part i b q).port;
      offer_vc = offer_vc-law s part bytes accepted;
      offer_destination = offer_destination-law s part bytes accepted;
      room = credit_room s part bytes accepted;
      kinds = offer_kinds s part bytes accepted;
      paid = offer_paid s part bytes accepted;
      binds_unbound = binds_unbound-law s part bytes accepted;
      binds_front = binds_front-law s part bytes accepted;
      binds_free = binds_free-law s part bytes accepted;
      binds_vc = binds_vc-law s part bytes accepted;
      binds_once = binds_once-law s part bytes accepted;
      leaves_bound = λ i v q. subst (λ (b : Option OutVc). IsSome b) (sym (leaves_bound-law s part bytes accepted i v q)) refl;
      leaves_flit = leaves_flit-law s part bytes accepted;
      leaves_credit = λ i v b q. leaves_credit-law s part bytes accepted i v q b;
      input_once = leaves_input_once s part bytes accepted;
      output_once = leaves_output_once s part bytes accepted;
    }
