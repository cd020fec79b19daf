-- Cycles given by value: lists of what is offered, of the credits that come back, of what is bound and of what leaves. What no list
-- names does nothing.
-- Assumes nothing.
use mathlib.Core.Bool.{Bool, cond}
use Rattle.std.specs.Prelude.{Option, None, Some}
use Rattle.std.specs.Prelude.{is_some, option_map}
use mathlib.Core.List.{List, [], ◌∷◌}
use Prim.Native.Nat.{ℕ}
use lib.Dec.{eqb}
use Rattle.model.specs.Sizes.{Config}
use Rattle.model.specs.Flit.{Look}
use Rattle.model.specs.Router.{Router, OutVc, InVc}
use Rattle.model.specs.Cycle.{Event, Choice}
use Rattle.model.specs.History.{History, Offer, same}
use Rattle.model.specs.Step.{step, entry}

pub record Bind : Type 0 where
  pub input : ℕ
  pub vc : ℕ
  pub to : OutVc

pub record Given (Flit : Type 0) : Type 0 where
  pub offers : List (Offer Flit)
  pub credits : List OutVc
  pub binds : List Bind
  pub leaves : List InVc

-- the first of a list that passes a test
abbrev pub find : {A : Type 0} → (A → Bool) → List A → Option A
find p [] = None
find p (x ∷ xs) = cond (p x) (Some x) (find p xs)

module _ {Flit : Type 0} where
  abbrev pub event_of : Given Flit → Event Flit
  event_of g =
      record {
        offer = λ i. option_map (λ (o : Offer Flit). record { vc = o.vc; flit = o.flit })
            (find (λ (o : Offer Flit). eqb o.input i) g.offers);
        credit = λ o. option_map (λ (r : OutVc). r.vc) (find (λ (r : OutVc). eqb r.output o) g.credits);
      }

  abbrev pub choice_of : Given Flit → Choice
  choice_of g =
      record {
        grant = λ i v. option_map (λ (x : Bind). x.to) (find (λ (x : Bind). same x.input x.vc i v) g.binds);
        leaves = λ i v. is_some (find (λ (x : InVc). same x.input x.vc i v) g.leaves);
      }

module _ {Flit : Type 0} (look : Look Flit) (c : Config) where
  -- the router and the history after some cycles, from a router and a history
  abbrev pub router_after : Router Flit → List (Given Flit) → Router Flit
  router_after s [] = s
  router_after s (g ∷ gs) = router_after (step look c s (event_of g) (choice_of g)) gs

  abbrev pub history_after : Router Flit → History Flit → List (Given Flit) → History Flit
  history_after s h [] = h
  history_after s h (g ∷ gs) = history_after (step look c s (event_of g) (choice_of g)) (entry c s (event_of g) (choice_of g) ∷ h) gs
