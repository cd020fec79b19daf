-- What the reply of an accepted cycle reports: the flits that leave in phase 7, each at its output, and nothing else.
-- Assumes nothing.
use Rattle.std.specs.Prelude.{Option, None, Ok}
use mathlib.Core.Path.{◌≡◌, refl, sym, ap, ◌∙◌}
use mathlib.Core.Logic.{◌⊎◌, inl, inr}
use mathlib.Core.Bool.{Bool, true, false}
use mathlib.Core.List.{List}
use Rattle.std.specs.Prelude.{Some}
use Prim.Native.Nat.{ℕ, ◌<◌}
use native.Mathlib.Omega.{arith}
use lib.Dec.{ltb}
use lib.ListN.{get_or, replicate, get_or-replicate, get_or-eq_default, length-replicate}
use borrow.Author.Tests.{ltb-true, ltb-false}
use Rattle.base.specs.declared.config.Config.{Config}
use Rattle.base.specs.declared.reply.Departure.{Departure}
use Rattle.base.specs.declared.reply.Reply.{Reply}
use Rattle.base.specs.Flit.{kind_of, payload_of}
use Rattle.state.specs.declared.Router.{Router}
use Rattle.state.specs.Sound.{Sound}
use Rattle.trace.specs.Bytes.{AreBytes}
use Rattle.rules.specs.declared.Stepped.{Stepped}
use Rattle.rules.specs.Allocation.{allocated}
use Rattle.rules.specs.Departures.{leaving_of}
use Rattle.rules.specs.Intake.{credits_reached, credits_returned, landed, offers_taken}
use Rattle.rules.specs.Step.{taken_in, reply_of, step_of}
use Rattle.rules.proofs.Acts.{Actor, Untouched, touched_or_not}
use Rattle.rules.proofs.Exits.{Exit, exit}
use Rattle.rules.proofs.Facts.{sound_legal}
use Rattle.rules.proofs.Left.{replied, exit_reported, unreported}
use Rattle.rules.proofs.Accepted.{readied, accepted_before, accepted_steps, readied_sound}

-- a reply reports that a flit left by output o
abbrev pub LeavesBy : Reply → ℕ → Departure → Type 0
LeavesBy r o d = (get_or r.outputs o None) ≡ Some d

-- and that one left VC v of input i
pub record LeftFrom (r : Reply) (i v : ℕ) : Type 0 where
  pub output : ℕ
  pub departure : Departure
  pub leaves : LeavesBy r output departure
  pub input : departure.input ≡ i
  pub vc : departure.vc ≡ v

-- what a reply reports of an exit
abbrev pub report_of : Exit → Departure
report_of e = record { out_vc = e.by; input = e.input; vc = e.vc; kind = kind_of e.flit; payload = payload_of e.flit }

nothing_at : {A : Type 0} (n o : ℕ) → get_or (replicate {A = Option A} n None) o None ≡ None
nothing_at {A} n o = go (ltb o n) refl
  where
    go : (b : Bool) → ltb o n ≡ b → get_or (replicate {A = Option A} n None) o None ≡ None
    go true e = get_or-replicate n o None None (ltb-true o n e)
    go false e =
        let l = ltb-false o n e in
        let m = length-replicate {A = Option A} n None in
        get_or-eq_default (replicate n None) None (omega arith)

nothing_not : (x : Option Departure) (d : Departure) → x ≡ None → x ≡ Some d → ⊥
nothing_not x d e f = let z : ◌≡◌ {A = ℕ} 0 1 = cc in omega arith

pub same_flit : (x : Option Departure) (d e : Departure) → x ≡ Some d → x ≡ Some e → d ≡ e
same_flit x d e p q = cc

module _ (s : Router) (part : List ℕ) (bytes : AreBytes part) (accepted : (step_of s part).verdict ≡ Ok tt) where
  abbrev c : Config
  c = s.config

  -- the router before phase 6
  abbrev pub mid : Router
  mid = readied part s

  pub mid_sound : Sound mid
  mid_sound = readied_sound s part bytes accepted

  outputs_are : (step_of s part).reply.outputs ≡ (leaving_of mid).left
  unfolding reply_of
  outputs_are = ap (λ (x : Stepped). x.reply.outputs) (accepted_steps s part bytes accepted)

  -- what is reported at output o leaves there
  pub reported_exits : (o : ℕ) (d : Departure) → LeavesBy (step_of s part).reply o d → (e : Exit) × (exit mid o ≡ Some e) × (report_of e ≡ d)
  unfolding allocated taken_in offers_taken landed credits_returned credits_reached
  reported_exits o d l = go (touched_or_not (exit mid) (replied mid) c.ports o)
    where
      there : (get_or (leaving_of mid).left o None) ≡ Some d
      there = ap (λ (xs : List (Option Departure)). (get_or xs o None)) (sym outputs_are) ∙ l

      go : Actor (exit mid) (replied mid) c.ports o ⊎ Untouched (exit mid) (replied mid) c.ports o
          → (e : Exit) × (exit mid o ≡ Some e) × (report_of e ≡ d)
      go (inl a) =
          let here = a.there in
          let q : exit mid o ≡ Some a.deed = ap (exit mid) (sym here) ∙ a.acts in
          let few = (sound_legal s (accepted_before s part bytes accepted)).ports.1 in
          let below = a.below in (
            a.deed,
            q,
            same_flit (get_or (leaving_of mid).left o None) (report_of a.deed) d
                (exit_reported mid o a.deed (omega arith) (omega arith) q) there,
          )
      go (inr off) =
          absurd (nothing_not (get_or (leaving_of mid).left o None) d
          (unreported mid o off ∙ nothing_at 8 o) there)

  -- and what leaves is reported
  pub exits_reported : (o : ℕ) (e : Exit) → o < c.ports → exit mid o ≡ Some e → LeavesBy (step_of s part).reply o (report_of e)
  unfolding allocated taken_in offers_taken landed credits_returned credits_reached
  exits_reported o e l q =
      let few = (sound_legal s (accepted_before s part bytes accepted)).ports.1 in
      ap (λ (xs : List (Option Departure)). (get_or xs o None)) outputs_are
      ∙ exit_reported mid o e l (omega arith) q
