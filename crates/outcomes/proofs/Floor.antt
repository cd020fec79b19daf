-- floor: where the lines were written, no second outcome satisfies the contracts of `pass` and `hand`. Whether they were is the operating
-- system's to say, and so is all that `fill` and `put` answer and which pieces `list` reads; where they were not, the number of calls
-- fixes run and buffer (floor/Once.passes_calls).
-- Assumes nothing.
use mathlib.Core.Path.{◌≡◌, subst}
use mathlib.Core.Bool.{true}
use mathlib.Core.List.{List, [], Mem, not-mem-nil}
use Prim.Native.Nat.{ℕ}
use Rattle.floor.proofs.Once.{is_written, passes_once, handing_once}
use Rattle.floor.proofs.pass as pass
use Rattle.floor.specs.contracts.pass as pass_contract
use Rattle.floor.proofs.hand as hand
use Rattle.floor.specs.contracts.hand as hand_contract
use Rattle.outcomes.specs.Once.{OnceWhere, SameWhere}
use denote.RattleType.{RattleType}
use denote.Param.Laws.{Laws}
use mir.Syntax.{Dict}
use Rattle.std.specs.declared.io.Print.{Ghosts}

-- whatever the stream is that the lines are written to, and whatever lifetimes its type names
module _ (P : RattleType) (L : Laws P) (G : Ghosts P.Denot) (d : Dict) where
  pub pass_same : SameWhere (pass_contract.ended P G d) (λ κs r. is_written r.outcome ≡ true) (pass.Reads.Learnt P L G d)
  pass_same κs a r s u v p q e f =
      let same = passes_once p q e f in (
        λ i. record { run = (same.after i).run; calls = same.calls i; outcome = same.stop i },
        λ i. (tt, (tt, ((same.after i).buffer, (tt, tt)))),
      )

  pub hand_same : SameWhere (hand_contract.ended P G d) (λ κs r. is_written r.outcome ≡ true) (hand.Reads.Learnt P L G d)
  hand_same κs a r s u v p q e f =
      let same = handing_once p q e f in (
        λ i. record { run = (same.after i).run; calls = same.calls i; outcome = same.stop i },
        λ i. (tt, (tt, (tt, ((same.after i).buffer, (tt, tt))))),
      )

-- a stream that names no lifetime, as standard output, is lent for as long as one likes
lent : (P : RattleType) (κ : List ℕ) → P.lives ≡ [] → (l : ℕ) → Mem l P.lives → Mem l κ
lent P κ owned l m = absurd (not-mem-nil (subst (λ (ls : List ℕ). Mem l ls) owned m))

-- and where that type names none, nothing is asked of a caller either
module _ (P : RattleType) (L : Laws P) (G : Ghosts P.Denot) (d : Dict) (owned : P.lives ≡ []) where
  pub pass_once : OnceWhere (pass_contract.ended P G d) (λ κs r. is_written r.outcome ≡ true) (pass.Reads.Asked P L G d)
      (pass.Reads.Learnt P L G d)
  pass_once κs a = (lent P _ owned, pass_same P L G d κs a)

  pub hand_once : OnceWhere (hand_contract.ended P G d) (λ κs r. is_written r.outcome ≡ true) (hand.Reads.Asked P L G d)
      (hand.Reads.Learnt P L G d)
  hand_once κs a = (lent P _ owned, hand_same P L G d κs a)
