-- "an all-zero state" (01, Numbers given back): no router, as before the configuration block of a file. The clauses of Sound.antt on what
-- is not in use, taken where nothing is.
-- Assumes nothing.
use Rattle.std.specs.Prelude.{Bool, ◌&&◌, eqb, length}
use Rattle.base.specs.declared.config.Config.{Config}
use Rattle.base.specs.Sizes.{no_config}
use Rattle.state.specs.declared.Arbiters.{Arbiters}
use Rattle.state.specs.declared.Router.{Router}
use Rattle.state.specs.Sound.{channels_unused, slots_empty, line_unused, arbiters_unused, shaped}

-- no configuration
unfoldable pub no_sizes : Config → Bool
no_sizes c =
    eqb c.ports 0
    && (eqb c.vcs 0 && (eqb c.depth 0 && (eqb c.downstream 0 && (eqb c.forward 0 && (eqb c.back 0 && eqb c.arbiter 0)))))

-- the arrays of arbiters are as long as the struct has them; of a struct that is always so
unfoldable pub arbiters_shaped : Arbiters → Bool
arbiters_shaped a = eqb (length a.vcs) 8 && (eqb (length a.inputs) 8 && eqb (length a.outputs) 8)

unfoldable pub blank : Router → Bool
blank s =
    no_sizes s.config
    && (eqb s.cycle 0
    && (line_unused 0 0 s.wire
    && (line_unused 0 0 s.home
    && (arbiters_unused no_config s.arbiters
    && (channels_unused no_config s.inputs s.outputs && (slots_empty s.inputs s.store
    && (shaped s && arbiters_shaped s.arbiters)))))))
