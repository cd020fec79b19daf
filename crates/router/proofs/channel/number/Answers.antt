-- `router::channel::number` meets its contract.
-- Assumes nothing.
use native.Mathlib.Omega.{arith}
use mir.Syntax.{w8}
use mir.Val.{Fits}
use borrow.Author.Rules.{rules}
use Rattle.router.proofs.Numbers.{product_fits}
use Rattle.router.proofs.channel.number.Goals as goal

pub overflow_mul-result : goal.overflow_mul-result
overflow_mul-result c =
    let f : Fits w8 c.args.config.vcs = search rules in
    let l = product_fits c.args.i c.args.config.vcs c.requires.0 f.fits in record { fits = omega arith }

pub overflow_add-result : goal.overflow_add-result
overflow_add-result c =
    let f : Fits w8 c.args.config.vcs = search rules in
    let l = product_fits c.args.i c.args.config.vcs c.requires.0 f.fits in record { fits = omega arith }
