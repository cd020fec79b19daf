-- Handing a part over, call by call: what a call comes to, by what it answers.
-- Assumes nothing.
use mathlib.Core.Path.{◌≡◌, refl, sym, subst}
use mathlib.Core.Bool.{Bool, true, false, cond}
use Rattle.std.specs.Prelude.{Some, None, Ok, Err}
use Rattle.std.proofs.lemmas.Option.{none-some}
use mathlib.Core.List.{List}
use Prim.Native.Nat.{ℕ, suc, ◌+◌, ◌≤◌}
use native.Mathlib.Omega.{arith}
use lib.Dec.{eqb}
use lib.ListN.{length, take, drop, length-drop}
use borrow.Author.Tests.{eqb-true, eqb-false, ne_eqb}
use Rattle.router.specs.declared.entry.Ran.{Ran}
use Rattle.router.specs.Running.{CallOutcome}
use Rattle.night.proofs.Answers.{used_most}
use Rattle.floor.specs.declared.passing.Stop.TheVariants.{Refused, NoRoom, NotWritten}
use Rattle.floor.specs.Handing.{Outcome, Handed, called, handed_by, stop_of, Passes, stops, fails, goes, HandsOver, Handing, beyond, hands}

module _ (part : List ℕ) (h : Handed) (o : CallOutcome) (is : o ≡ called part h) where
  -- of what the call answers
  of_call : (P : CallOutcome → Type 0) → P (called part h) → P o
  of_call P p = subst P (sym is) p

  pub call_most : o.ran.used ≤ length part
  call_most = of_call (λ (x : CallOutcome). x.ran.used ≤ length part) (used_most h.run part h.buffer 0)

  pub refused_passes : ¬ (o.ran.number ≡ 0) → Passes part h 1 (Err (Refused o.ran.number)) (handed_by o)
  refused_passes =
      of_call (λ (x : CallOutcome). ¬ (x.ran.number ≡ 0) → Passes part h 1 (Err (Refused x.ran.number)) (handed_by x))
      (λ n. stops part h _ (rw (ne_eqb (called part h).ran.number 0 n)))

  module _ (fine : o.ran.number ≡ 0) where
    pub unwritten_passes : ¬ (o.ran.written ≡ 0) → Passes part h 1 (Err NotWritten) (handed_by o)
    unwritten_passes =
        of_call (λ (x : CallOutcome). x.ran.number ≡ 0 → ¬ (x.ran.written ≡ 0) → Passes part h 1 (Err NotWritten) (handed_by x))
        (λ e n. fails part h e (omega (arith, n))) fine

    pub whole_passes : o.ran.asks ≡ 0 → Passes part h 1 (Ok (tt {0})) (handed_by o)
    whole_passes =
        of_call (λ (x : CallOutcome). x.ran.number ≡ 0 → x.ran.asks ≡ 0 → Passes part h 1 (Ok (tt {0})) (handed_by x))
        (λ e a. stops part h _ (rw (e, a))) fine

    module _ (asks : ¬ (o.ran.asks ≡ 0)) where
      pub full_passes : o.ran.used ≡ 0 → Passes part h 1 (Err (NoRoom o.ran.asks)) (handed_by o)
      full_passes =
          of_call (λ (x : CallOutcome). x.ran.number ≡ 0 → ¬ (x.ran.asks ≡ 0) → x.ran.used ≡ 0
          → Passes part h 1 (Err (NoRoom x.ran.asks)) (handed_by x))
          (λ e a u. stops part h _ (rw (e, ne_eqb (called part h).ran.asks 0 a, u))) fine asks

      pub more_passes : ¬ (o.ran.used ≡ 0) → (k : ℕ) (s : Outcome) (g : Handed) → Passes (drop o.ran.used part) (handed_by o) k s g
          → Passes part h (suc k) s g
      more_passes =
          of_call (λ (x : CallOutcome). x.ran.number ≡ 0 → ¬ (x.ran.asks ≡ 0) → ¬ (x.ran.used ≡ 0) → (k : ℕ) (s : Outcome) (g : Handed)
          → Passes (drop x.ran.used part) (handed_by x) k s g → Passes part h (suc k) s g)
          (λ e a u k s g p. goes part h k s g
          (rw (e, ne_eqb (called part h).ran.asks 0 a, ne_eqb (called part h).ran.used 0 u)) p) fine asks

-- a call that leaves another to make used something, and was not refused
pub none_told : (r : Ran) → stop_of r ≡ None → (r.number ≡ 0) × (¬ (r.asks ≡ 0)) × (¬ (r.used ≡ 0))
none_told r e = go (eqb r.number 0) refl (eqb r.asks 0) refl (eqb r.used 0) refl e
  where
    go : (a : Bool) → eqb r.number 0 ≡ a → (b : Bool) → eqb r.asks 0 ≡ b → (d : Bool) → eqb r.used 0 ≡ d
        → cond a (cond b (Some (Ok (tt {0}))) (cond d (Some (Err (NoRoom r.asks))) None)) (Some (Err (Refused r.number))) ≡ None
        → (r.number ≡ 0) × (¬ (r.asks ≡ 0)) × (¬ (r.used ≡ 0))
    go true a true b d c e = absurd (none-some (Ok (tt {0})) (sym e))
    go true a false b true c e = absurd (none-some (Err (NoRoom r.asks)) (sym e))
    go true a false b false c e = (eqb-true r.number 0 a, eqb-false r.asks 0 b, eqb-false r.used 0 c)
    go false a b x d c e = absurd (none-some (Err (Refused r.number)) (sym e))

-- so that there are no more calls than bytes, and one
pub passes_few : (part : List ℕ) (h : Handed) (k : ℕ) (s : Outcome) (g : Handed) → Passes part h k s g → k ≤ length part + 1
passes_few part h _ s _ (stops _ _ _ _) = omega arith
passes_few part h _ _ _ (fails _ _ _ _) = omega arith
passes_few part h _ s g (goes _ _ k _ _ e more) =
    let u = (none_told (called part h).ran e).2 in
    let m = used_most h.run part h.buffer 0 in
    let l = length-drop (called part h).ran.used part in
    omega (arith, passes_few (drop (called part h).ran.used part) (handed_by (called part h)) k s g more, u, m, l)

-- bytes of a buffer that it has
pub handing_piece : (buf : List ℕ) (bytes : ℕ) (h : Handed) (k : ℕ) (s : Outcome) (g : Handed) → bytes ≤ length buf → Handing buf bytes h k s g
    → HandsOver (length buf) (take bytes buf) h k s g
handing_piece buf bytes h _ _ _ l (beyond f) = absurd (omega (arith, l, f))
handing_piece buf bytes h k s g l (hands _ _ _ _ p) = p
