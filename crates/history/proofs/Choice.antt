-- What is chosen in a cycle: THE choice of the arbiters, in crates/model's words. What it grants, and whose front leaves, is on a channel
-- that there is, and is what the rules grant and let leave.
-- Assumes nothing.
use Rattle.std.specs.Prelude.{Ok}
use mathlib.Core.Path.{◌≡◌, refl, sym, ◌∙◌}
use mathlib.Core.Bool.{Bool, true, false}
use mathlib.Core.List.{List}
use Rattle.std.specs.Prelude.{Some}
use Rattle.std.proofs.lemmas.Option.{none-some}
use Prim.Native.Nat.{ℕ, ◌<◌}
use lib.Dec.{ltb}
use borrow.Author.Tests.{ltb-true}
use Rattle.base.specs.declared.config.Config.{Config}
use Rattle.base.proofs.Search.{both}
use Rattle.model.specs.Router.{OutVc}
use Rattle.model.specs.Cycle.{Choice}
use Rattle.state.specs.declared.Router.{Router}
use Rattle.state.specs.Channels.{is_there}
use Rattle.state.specs.Views.{channel_number}
use Rattle.trace.specs.Bytes.{AreBytes}
use Rattle.rules.specs.Chosen.{chosen}
use Rattle.rules.specs.Free.{name_of, free_of, event_of}
use Rattle.rules.specs.Step.{taken_in, step_of}
use Rattle.rules.proofs.Choices.{grant_to}
use Rattle.rules.proofs.ChosenGrants.{grant_alike, grant_beyond}

abbrev pub choice_of : Router → List ℕ → Choice
choice_of s part = chosen s.config s.arbiters (free_of s) (event_of s.config part)

-- a channel that there is
pub there_is : (c : Config) (i v : ℕ) → is_there c i v ≡ true → (i < c.ports) × (v < c.vcs)
there_is c i v e = let p = both (ltb i c.ports) (ltb v c.vcs) e in (ltb-true i c.ports p.0, ltb-true v c.vcs p.1)

-- what is granted is granted to a channel that there is, by the rules
pub record GrantedTo (s : Router) (part : List ℕ) (i v : ℕ) (b : OutVc) : Type 0 where
  pub port : i < s.config.ports
  pub vc : v < s.config.vcs
  pub is : name_of (grant_to (taken_in part s) (channel_number s.config i v)) ≡ Some b

pub grant_there : (s : Router) (part : List ℕ) → AreBytes part → (step_of s part).verdict ≡ Ok tt
    → (i v : ℕ) (b : OutVc) → (choice_of s part).grant i v ≡ Some b → GrantedTo s part i v b
unfolding chosen
grant_there s part bytes accepted i v b q = go (is_there s.config i v) refl
  where
    go : (t : Bool) → is_there s.config i v ≡ t → GrantedTo s part i v b
    go true e =
        let l = there_is s.config i v e in
        record { port = l.0; vc = l.1; is = sym (grant_alike s part bytes accepted i v l.0 l.1) ∙ q }
    go false e = absurd (none-some b (sym (grant_beyond s part bytes accepted i v e) ∙ q))
