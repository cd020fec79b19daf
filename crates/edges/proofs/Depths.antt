-- "D 16 is legal, 17 and 0 give 1 with field 3", and what a construction gives.
-- Assumes nothing.
use mathlib.Core.Path.{◌≡◌, refl}
use Rattle.std.specs.Prelude.{true, false, Some, None}
use Rattle.base.specs.Sizes.{sized, illegal_field, first_illegal, in_range, no_config}
use Rattle.base.proofs.Configurations.{legal_exact}
use Rattle.state.specs.Fresh.{fresh_router}
use Rattle.state.specs.Sound.{is_none, all, configuration_legal, sound}
use Rattle.state.proofs.FreshIsSound.{fresh_passes}

pub sixteen : illegal_field (sized 2 2 16 2 2 2 1) ≡ None
unfolding illegal_field first_illegal in_range
sixteen = refl

pub seventeen : illegal_field (sized 2 2 17 2 2 2 1) ≡ Some 3
unfolding illegal_field first_illegal in_range
seventeen = refl

pub nought : illegal_field (sized 2 2 0 2 2 2 1) ≡ Some 3
unfolding illegal_field first_illegal in_range
nought = refl

pub sixteen_sound : sound (fresh_router (sized 2 2 16 2 2 2 1)) ≡ true
sixteen_sound = fresh_passes (sized 2 2 16 2 2 2 1) ((legal_exact (sized 2 2 16 2 2 2 1)).0 sixteen)

pub ruleset depths = (sixteen, seventeen, nought, sixteen_sound)

pub zero_unsound : sound (fresh_router no_config) ≡ false
unfolding sound all configuration_legal is_none illegal_field first_illegal in_range fresh_router
zero_unsound = refl
