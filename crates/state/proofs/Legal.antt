-- What soundness says of the configuration and of the cycle count, as facts about numbers.
-- Assumes nothing.
use mathlib.Core.Path.{◌≡◌, refl}
use mathlib.Core.Bool.{true, false≢true}
use Rattle.std.specs.Prelude.{Option, Some, None}
use Prim.Native.Nat.{ℕ, ◌≤◌}
use borrow.Author.Tests.{leb-true}
use Rattle.base.specs.declared.config.Config.{Config}
use Rattle.base.specs.Sizes.{illegal_field}
use Rattle.base.proofs.Configurations.{Legal, legal_exact}
use Rattle.state.specs.declared.Router.{Router}
use Rattle.state.specs.Sound.{Sound, is_none, configuration_legal, cycles_fit}

-- a configuration that passes its clause is legal
pub configuration_legal-law : (c : Config) → configuration_legal c ≡ true → Legal c
unfolding configuration_legal is_none
configuration_legal-law c e = (legal_exact c).0 (go (illegal_field c) e)
  where
    go : (o : Option ℕ) → is_none o ≡ true → o ≡ None
    go None e = refl
    go (Some k) e = absurd (false≢true e)

-- a sound router has at most so many cycles
pub sound_cycle : {s : Router} → Sound s → s.cycle ≤ 1000000000
unfolding cycles_fit
sound_cycle {s} z = leb-true s.cycle 1000000000 z.sizes.cycles
