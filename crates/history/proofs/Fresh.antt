-- "Take a fresh router" (demand 3): a fresh router holds what the free router's fresh one does.
-- Assumes nothing.
use mathlib.Core.Path.{◌≡◌}
use Rattle.base.specs.declared.config.Config.{Config}
use Rattle.base.proofs.Configurations.{Legal}
use Rattle.model.specs.Router.{fresh}
use Rattle.state.specs.Fresh.{fresh_router}
use Rattle.state.proofs.FreshViews.{fresh_view-law, fresh_credit}
use Rattle.rules.specs.Free.{sizes_of, channel_of, name_of, free_of}

pub fresh_free : (c : Config) → Legal c → free_of (fresh_router c) ≡ fresh (sizes_of c)
unfolding free_of fresh_router
fresh_free c legal =
    λ t. record {
      cycle = 0;
      channel = λ i v. channel_of (fresh_view-law c legal i v t);
      opened = λ i v. (fresh_view-law c legal i v t).opened;
      bound = λ i v. name_of (fresh_view-law c legal i v t).bound;
      out_credit = λ o w. fresh_credit c legal o w t;
    }
