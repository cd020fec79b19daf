-- What a decoded row stands for.
-- Assumes nothing.
use Rattle.std.specs.Prelude.{cond, List, ℕ}
use Rattle.std.specs.Prelude.{Option, Some, None}
use Rattle.rules.specs.Rows.{brings, vc_at, flit_at}
use Rattle.router.specs.declared.rows.Offer.{Offer}
use Rattle.router.specs.declared.rows.Row.{Row}
use Rattle.router.specs.declared.rows.Row.TheVariants.{Idle, Brings}

abbrev pub offer_of : Row → Option Offer
offer_of Idle = None
offer_of (Brings x) = Some x

-- the flit that the row of port i brings, and its VC
unfoldable pub offer_at : List ℕ → ℕ → Option Offer
offer_at part i = cond (brings part i) (Some (record { vc = vc_at part i; flit = flit_at part i })) None
