-- What a run prints is in the writer's ranges: no write of a run is refused with 12, and where a block's room was there, none with 11.
-- Assumes nothing.
use Rattle.base.specs.Refusal.{number_of, place_of}
use Rattle.std.specs.Prelude.{is_err}
use Rattle.std.specs.Prelude.{Ok, Err}
use mathlib.Core.Path.{sym, ◌≡◌, refl}
use mathlib.Core.Bool.{Bool, true, false, cond, true≢false, not, ◌&&◌}
use mathlib.Core.List.{List, [], ◌∷◌}
use Rattle.std.specs.Prelude.{Option, Some, None}
use Rattle.std.proofs.lemmas.Option.{none-some}
use Prim.Native.Nat.{ℕ, zero, suc, ◌+◌, ◌≤◌, ◌<◌, zero-le}
use native.Mathlib.Omega.{arith}
use lib.Dec.{eqb}
use lib.ListN.{length}
use Rattle.base.specs.declared.config.Config.{Config}
use Rattle.base.specs.Numbers.{done, room}
use Rattle.base.specs.Sizes.{illegal_field}
use Rattle.base.proofs.Configurations.{illegal_exact, in_range-law}
use Rattle.state.specs.declared.Router.{Router}
use Rattle.state.specs.Sound.{Sound}
use Rattle.trace.specs.declared.place.Place.{Place}
use Rattle.trace.specs.Bytes.{AreBytes}
use Rattle.trace.specs.Blocks.{kind_of, config_of}
use Rattle.trace.specs.Rules.{place_unsound, block_short, check_wrong, block_wrong, field_wrong}
use Rattle.trace.specs.declared.judging.Answer.{Answer}
use Rattle.trace.specs.declared.judging.Found.TheVariants as found
use Rattle.trace.specs.Judged.{accepted, refused, read_of, next_place, taken, judged_by_field, judged}
use Rattle.listing.specs.Lines.{finish, refusal, values_of, all_in_range, printable, cycle_lines}
use Rattle.listing.specs.Writing.{written}
use Rattle.base.specs.declared.refusal.Refusal.{Refusal}
use Rattle.rules.specs.Numbers.{rules_of}
use Rattle.rules.specs.Step.{step_of}
use Rattle.rules.proofs.Exactness.{refused_exactly}
use Rattle.rules.proofs.FirstRule.{First, this, later}
use Rattle.router.specs.Running.{Writing}
use Rattle.router.specs.Inside.{GoesOn}
use Rattle.state.proofs.Legal.{sound_cycle}
use Rattle.rules.proofs.Facts.{sound_legal}
use Rattle.history.proofs.Printable.{reply_printable}
use Rattle.night.proofs.Added.{written_done}

-- "number 1..10, place 0..7"
pub record Named (number place : ℕ) : Type 0 where
  pub least : 1 ≤ number
  pub most : number ≤ 10
  pub port : place ≤ 7

pub refusal_prints : (number cycle place : ℕ) → Named number place → cycle ≤ 1000000000 → printable (refusal number cycle place ∷ []) ≡ true
unfolding printable values_of all_in_range
refusal_prints number cycle place n c =
    rw (in_range-law number 1 10 n.least n.most, in_range-law cycle 0 1000000000 zero-le c, in_range-law place 0 7 zero-le n.port)

pub finish_prints : (cycles flits : ℕ) → cycles ≤ 1000000000 → flits ≤ 8000000000 → printable (finish cycles flits ∷ []) ≡ true
unfolding printable values_of all_in_range
finish_prints cycles flits c f = rw (in_range-law cycles 0 1000000000 zero-le c, in_range-law flits 0 8000000000 zero-le f)

-- a sound router refuses a cycle with 2, 10, 3, 6, 4 or 5, at one of its ports
pub refusal_named : (s : Router) (part : List ℕ) → Sound s → (r : Refusal) → (step_of s part).verdict ≡ Err r
    → Named r.number r.place
refusal_named s part sound r e = go r.number r.place ((refused_exactly s part r.number r.place).0 e)
  where
    ports : s.config.ports ≤ 8
    ports = (sound_legal s sound).ports.1

    named : (n p m : ℕ) → 1 ≤ n → n ≤ 10 → m ≤ 8 → p < m → Named n p
    named n p m a b c d = record { least = a; most = b; port = omega arith }

    go : (n p : ℕ) → First (rules_of s part) n p → Named n p
    go _ p (this f) = named 2 p 1 (omega arith) (omega arith) (omega arith) f.inside
    go _ p (later _ (this f)) = named 10 p 1 (omega arith) (omega arith) (omega arith) f.inside
    go _ p (later _ (later _ (this f))) = named 3 p 1 (omega arith) (omega arith) (omega arith) f.inside
    go _ p (later _ (later _ (later _ (this f)))) = named 3 p 8 (omega arith) (omega arith) (omega arith) f.inside
    go _ p (later _ (later _ (later _ (later _ (this f))))) = named 6 p s.config.ports (omega arith) (omega arith) ports f.inside
    go _ p (later _ (later _ (later _ (later _ (later _ (this f)))))) = named 4 p s.config.ports (omega arith) (omega arith) ports
        f.inside
    go _ p (later _ (later _ (later _ (later _ (later _ (later _ (this f))))))) = named 5 p s.config.ports (omega arith) (omega arith)
        ports f.inside
    go n p (later _ (later _ (later _ (later _ (later _ (later _ (later _ x70))))))) = elim x70 [ ]

-- the field that goes with 1 is one of seven
field_few : (c : Config) (k : ℕ) → illegal_field c ≡ Some k → k ≤ 7
field_few c zero e = omega arith
field_few c (suc m) e = let l = ((illegal_exact c m).0 e).there in omega (arith, l)

-- where an outcome refuses, its number and field are in range
record NamedIf (o : Answer) : Type 0 where
  named : is_err o.found ≡ true → Named (number_of o.found) (place_of o.found)

module _ (p : Place) (c : ℕ) (l : List ℕ) where
  number : (n : ℕ) → 1 ≤ n → n ≤ 10 → NamedIf (refused n 0 p)
  number n a b = record { named = λ e. record { least = a; most = b; port = omega arith } }

  field_wrong-law : (k : ℕ) → field_wrong p l ≡ Some k → k ≤ 7
  unfolding field_wrong
  field_wrong-law k = go (not p.ended && eqb (kind_of l) 1)
    where
      go : (b : Bool) → cond b (illegal_field (config_of l)) None ≡ Some k → k ≤ 7
      go true e = field_few (config_of l) k e
      go false e = absurd (none-some k e)

  taken_named : NamedIf (taken p l)
  unfolding taken
  taken_named = go p.ended
    where
      go : (b : Bool) → NamedIf (cond b (accepted found.Done p) (accepted (read_of l) (next_place p l)))
      go true = record { named = λ e. absurd (true≢false (sym e)) }
      go false = record { named = λ e. absurd (true≢false (sym e)) }

  judged_named : NamedIf (judged p c l)
  unfolding judged judged_by_field
  judged_named =
      either (place_unsound p c) (number 2 (omega arith) (omega arith))
      (either (block_short p l) (number 9 (omega arith) (omega arith))
      (either (check_wrong p l) (number 7 (omega arith) (omega arith))
      (either (block_wrong p c l) (number 8 (omega arith) (omega arith)) (one (field_wrong p l) refl))))
    where
      either : (b : Bool) {o q : Answer} → NamedIf o → NamedIf q → NamedIf (cond b o q)
      either true x y = x
      either false x y = y

      one : (o : Option ℕ) → field_wrong p l ≡ o → NamedIf (judged_by_field o p l)
      one (Some k) e = record { named = λ f. record { least = omega arith; most = omega arith; port = field_wrong-law k e } }
      one None e = taken_named

  -- a block is refused with 2, 9, 7, 8 or 1, and a field of 7
  pub outcome_named : is_err (judged p c l).found ≡ true → Named (number_of (judged p c l).found) (place_of (judged p c l).found)
  outcome_named = judged_named.named

-- No write of a run is refused. The lines of an accepted cycle:
pub cycle_written : (s : Router) (part : List ℕ) → AreBytes part → (step_of s part).verdict ≡ Ok tt
    → (b : List ℕ) (at : ℕ) → at + room ≤ length b → (written b at (cycle_lines s.cycle (step_of s part).reply)).number ≡ done
cycle_written s part bytes e b at there = written_done b at (cycle_lines s.cycle (step_of s part).reply)
    (reply_printable s part bytes e) there

-- the R line of a refused cycle:
pub refusal_written : (s : Router) (part : List ℕ) → Sound s → (r : Refusal) → (step_of s part).verdict ≡ Err r
    → (b : List ℕ) (at : ℕ) → at + room ≤ length b → (written b at (refusal r.number s.cycle r.place ∷ [])).number ≡ done
refusal_written s part sound r e b at there =
    written_done b at (refusal r.number s.cycle r.place ∷ [])
    (refusal_prints r.number s.cycle r.place (refusal_named s part sound r e) (sound_cycle sound)) there

-- the R line of a refused block:
pub block_refusal_written : (p : Place) (c : ℕ) (l : List ℕ) → c ≤ 1000000000 → is_err (judged p c l).found ≡ true
    → (b : List ℕ) (at : ℕ) → at + room ≤ length b → (written b at (refusal (number_of (judged p c l).found) c (place_of (judged p c l).found) ∷ [])).number
    ≡ done
block_refusal_written p c l early e b at there =
    written_done b at (refusal (number_of (judged p c l).found) c (place_of (judged p c l).found) ∷ [])
    (refusal_prints (number_of (judged p c l).found) c (place_of (judged p c l).found) (outcome_named p c l e) early) there

-- and the E line of a run that goes on:
pub finish_written : (w : Writing) → GoesOn w
    → (b : List ℕ) (at : ℕ) → at + room ≤ length b → (written b at (finish w.run.router.cycle w.run.flits ∷ [])).number ≡ done
finish_written w g b at there =
    let c = sound_cycle g.sound in
    written_done b at (finish w.run.router.cycle w.run.flits ∷ [])
    (finish_prints w.run.router.cycle w.run.flits c (let f = g.few in omega (arith, f, c))) there
