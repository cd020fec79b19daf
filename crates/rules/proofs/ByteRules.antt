-- A row is wrong exactly when it breaks one of the byte rules; so 3 comes at the first port whose row breaks one.
-- Assumes nothing.
use mathlib.Core.Path.{◌≡◌, refl, sym, ap, ◌∙◌}
use mathlib.Core.Logic.{◌↔◌, ◌⊎◌, inl, inr}
use mathlib.Core.Bool.{Bool, true, false, cond, not, ◌&&◌, ◌||◌, and-false, true≢false}
use mathlib.Core.List.{List}
use Prim.Native.Nat.{ℕ, zero, suc, ◌+◌, ◌-◌, ◌*◌, ◌≤◌, ◌<◌}
use native.Mathlib.Omega.{arith}
use lib.Arith.{lt_of_le-ne}
use lib.Dec.{eqb, leb, ltb}
use lib.ListN.{length}
use borrow.Author.Tests.{not-true, ltb-true, ltb-false, leb-true, leb-false, eqb-true, eqb-false, lt-ltb, le-ltb, lt-leb, ne_eqb}
use Rattle.base.specs.declared.config.Config.{Config}
use Rattle.base.specs.Flit.{starts_kind, head, body, tail, single}
use Rattle.base.specs.Numbers as numbers
use Rattle.base.specs.Search.{every}
use Rattle.base.proofs.Search.{neither, some_number, every_at, not_every}
use Rattle.state.specs.declared.Router.{Router}
use Rattle.trace.specs.Blocks.{cycle_length}
use Rattle.trace.specs.Bytes.{byte, big_endian}
use Rattle.rules.specs.Rows.{row_byte, kind_at, vc_at, destination_at, credit_at, payload_at, brings, row_zero, no_offer, legal_offer}
use Rattle.rules.specs.Rows.{row_legal}
use Rattle.rules.specs.ByteRules.{BreaksRow, beyond_p, no_such_kind, idle_vc, idle_destination, idle_payload, vc_too_large}
use Rattle.rules.specs.ByteRules.{destination_too_large, destination_inside, credit_too_large}
use Rattle.base.specs.Refusal.{refusing}
use Rattle.rules.specs.Numbers.{row_wrong, rule3}
use Rattle.rules.specs.Step.{step_of}
use Rattle.rules.proofs.FirstRule.{FirstAt}
use Rattle.rules.proofs.Exactness.{NoneBefore, row_exactly}

-- one half of an `&&` that fails
one_fails : (a b : Bool) → (a && b) ≡ false → (a ≡ false) ⊎ (b ≡ false)
one_fails true b e = inr e
one_fails false b e = inl refl

not_zero : (n : ℕ) → eqb n 0 ≡ false → 0 < n
not_zero n e = some_number n (eqb-false n 0 e)

is_not_zero : (n : ℕ) → 0 < n → eqb n 0 ≡ false
is_not_zero n h = ne_eqb n 0 (λ e. omega arith)

-- what not all numbers pass, one of them fails
record Fails (n : ℕ) (test : ℕ → Bool) : Type 0 where
  at : ℕ
  below : at < n
  fails : test at ≡ false

some_fails : (n : ℕ) (test : ℕ → Bool) → every n test ≡ false → Fails n test
unfolding every
some_fails zero test e = absurd (true≢false e)
some_fails (suc n) test e = go (one_fails (every n test) (test n) e) (some_fails n test)
  where
    go : (every n test ≡ false) ⊎ (test n ≡ false) → (every n test ≡ false → Fails n test) → Fails (suc n) test
    go (inl f) rest = let r = rest f in record { at = r.at; below = let h = r.below in omega arith; fails = r.fails }
    go (inr f) rest = record { at = n; below = omega arith; fails = f }

-- a number is 0 just where the bytes that spell it are
spelled_zero : (block : List ℕ) (from n : ℕ) → ((j : ℕ) → j < n → byte block (from + j) ≡ 0) → big_endian block from n ≡ 0
unfolding big_endian
spelled_zero block from zero f = refl
spelled_zero block from (suc n) f =
    let high = spelled_zero block from n (λ j h. f j (omega arith)) in let low = f n (omega arith) in omega arith

zero_spelled : (block : List ℕ) (from n : ℕ) → big_endian block from n ≡ 0 → (j : ℕ) → j < n → byte block (from + j) ≡ 0
unfolding big_endian
zero_spelled block from zero e j h = absurd (omega arith)
zero_spelled block from (suc n) e j h = go (eqb j n) refl (zero_spelled block from n (omega arith) j)
  where
    low : byte block (from + n) ≡ 0
    low = omega arith

    go : (b : Bool) → eqb j n ≡ b → (j < n → byte block (from + j) ≡ 0) → byte block (from + j) ≡ 0
    go true q rest = ap (λ (k : ℕ). byte block (from + k)) (eqb-true j n q) ∙ low
    go false q rest = rest (let ne = eqb-false j n q in lt_of_le-ne (omega arith) ne)

-- of a payload that is not 0 a byte is not
payload_byte : (part : List ℕ) (i : ℕ) → eqb (payload_at part i) 0 ≡ false → Fails 4 (λ (j : ℕ). eqb (row_byte part i (4 + j)) 0)
payload_byte part i e = go (every 4 (λ (j : ℕ). eqb (row_byte part i (4 + j)) 0)) refl
  where
    same : (j : ℕ) → byte part (8 * i + 4 + j) ≡ row_byte part i (4 + j)
    same j = ap (byte part) (omega arith)

    go : (b : Bool) → every 4 (λ (j : ℕ). eqb (row_byte part i (4 + j)) 0) ≡ b → Fails 4 (λ (j : ℕ). eqb (row_byte part i (4 + j)) 0)
    go true q =
        absurd (eqb-false (payload_at part i) 0 e (spelled_zero part (8 * i + 4) 4
        (λ j h. same j ∙ eqb-true (row_byte part i (4 + j)) 0 (every_at 4 _ q j h))))
    go false q = some_fails 4 _ q

-- and a payload with such a byte is not 0
byte_payload : (part : List ℕ) (i k : ℕ) → 4 ≤ k → k < 8 → 0 < row_byte part i k → eqb (payload_at part i) 0 ≡ false
byte_payload part i k h g f =
    ne_eqb (payload_at part i) 0 (λ e.
    let here : 8 * i + 4 + (k - 4) ≡ 8 * i + k = omega arith in
    let z = ap (byte part) (sym here) ∙ zero_spelled part (8 * i + 4) 4 e (k - 4) (omega arith) in
    omega arith)

-- the kinds that start a packet are H and S, the others B and T
starts_are : (k : ℕ) → starts_kind k ≡ true → (k ≡ head) ⊎ (k ≡ single)
unfolding starts_kind
starts_are k e = go (eqb k head) refl e
  where
    go : (b : Bool) → eqb k head ≡ b → (b || eqb k single) ≡ true → (k ≡ head) ⊎ (k ≡ single)
    go true q f = inl (eqb-true k head q)
    go false q f = inr (eqb-true k single f)

others_are : (k : ℕ) → starts_kind k ≡ false → 0 < k → k ≤ single → (k ≡ body) ⊎ (k ≡ tail)
unfolding starts_kind
others_are k e h g = go (eqb k body) refl
  where
    no : (k ≡ head → ⊥) × (k ≡ single → ⊥)
    no = let n = neither (eqb k head) (eqb k single) e in (eqb-false k head n.0, eqb-false k single n.1)

    go : (b : Bool) → eqb k body ≡ b → (k ≡ body) ⊎ (k ≡ tail)
    go true q = inl (eqb-true k body q)
    go false q = inr (only k h g no.0 (eqb-false k body q) no.1)
      where
        only : (n : ℕ) → 0 < n → n ≤ 4 → (n ≡ 1 → ⊥) → (n ≡ 2 → ⊥) → (n ≡ 4 → ⊥) → n ≡ 3
        only zero h g a b c = absurd (omega arith)
        only (suc zero) h g a b c = absurd (a refl)
        only (suc (suc zero)) h g a b c = absurd (b refl)
        only (suc (suc (suc zero))) h g a b c = refl
        only (suc (suc (suc (suc zero)))) h g a b c = absurd (c refl)
        only (suc (suc (suc (suc (suc n))))) h g a b c = absurd (omega arith)

module _ (c : Config) (part : List ℕ) (i : ℕ) where
  idle_breaks : i < c.ports → kind_at part i ≡ 0 → no_offer part i ≡ false → BreaksRow c part i
  unfolding no_offer
  idle_breaks h k e = go (one_fails (eqb (vc_at part i) 0 && eqb (destination_at part i) 0) (eqb (payload_at part i) 0) e)
    where
      payload : Fails 4 (λ (j : ℕ). eqb (row_byte part i (4 + j)) 0) → BreaksRow c part i
      payload f =
          let b = f.below in idle_payload (4 + f.at) h k (omega arith) (omega arith) (not_zero (row_byte part i (4 + f.at)) f.fails)

      first : (eqb (vc_at part i) 0 ≡ false) ⊎ (eqb (destination_at part i) 0 ≡ false) → BreaksRow c part i
      first (inl f) = idle_vc h k (not_zero (vc_at part i) f)
      first (inr f) = idle_destination h k (not_zero (destination_at part i) f)

      go : ((eqb (vc_at part i) 0 && eqb (destination_at part i) 0) ≡ false) ⊎ (eqb (payload_at part i) 0 ≡ false) → BreaksRow c part i
      go (inl f) = first (one_fails (eqb (vc_at part i) 0) (eqb (destination_at part i) 0) f)
      go (inr f) = payload (payload_byte part i f)

  offer_breaks : i < c.ports → 0 < kind_at part i → legal_offer c part i ≡ false → BreaksRow c part i
  unfolding legal_offer
  offer_breaks h some e = go (leb (kind_at part i) single) refl e
    where
      destination : kind_at part i ≤ single → (b : Bool) → starts_kind (kind_at part i) ≡ b
          → cond b (ltb (destination_at part i) c.ports) (eqb (destination_at part i) 0) ≡ false → BreaksRow c part i
      destination known true s f = destination_too_large h (starts_are (kind_at part i) s) (ltb-false (destination_at part i) c.ports f)
      destination known false s f = destination_inside h (others_are (kind_at part i) s some known) (not_zero (destination_at part i) f)

      rest : kind_at part i ≤ single → (ltb (vc_at part i) c.vcs ≡ false) ⊎ (cond (starts_kind (kind_at part i))
          (ltb (destination_at part i) c.ports) (eqb (destination_at part i) 0) ≡ false) → BreaksRow c part i
      rest known (inl f) = vc_too_large h some (ltb-false (vc_at part i) c.vcs f)
      rest known (inr f) = destination known (starts_kind (kind_at part i)) refl f

      go : (b : Bool) → leb (kind_at part i) single ≡ b → (b && ltb (vc_at part i) c.vcs
          && cond (starts_kind (kind_at part i)) (ltb (destination_at part i) c.ports) (eqb (destination_at part i) 0)) ≡ false
          → BreaksRow c part i
      go true q f = rest (leb-true (kind_at part i) single q) (one_fails (ltb (vc_at part i) c.vcs) _ f)
      go false q f = no_such_kind h (leb-false (kind_at part i) single q)

  legal_breaks : i < c.ports → row_legal c part i ≡ false → BreaksRow c part i
  unfolding row_legal
  legal_breaks h e = go (one_fails (leb (credit_at part i) c.vcs) (cond (brings part i) (legal_offer c part i) (no_offer part i)) e)
    where
      row : (b : Bool) → eqb (kind_at part i) 0 ≡ b → cond (not b) (legal_offer c part i) (no_offer part i) ≡ false → BreaksRow c part i
      row true q f = idle_breaks h (eqb-true (kind_at part i) 0 q) f
      row false q f = offer_breaks h (not_zero (kind_at part i) q) f

      go : (leb (credit_at part i) c.vcs ≡ false) ⊎ (cond (brings part i) (legal_offer c part i) (no_offer part i) ≡ false)
          → BreaksRow c part i
      go (inl f) = credit_too_large h (leb-false (credit_at part i) c.vcs f)
      go (inr f) = row (eqb (kind_at part i) 0) refl f

  zero_breaks : c.ports ≤ i → row_zero part i ≡ false → BreaksRow c part i
  unfolding row_zero
  zero_breaks h e =
      let f = some_fails 8 (λ (k : ℕ). eqb (row_byte part i k) 0) e in
      beyond_p f.at h f.below (not_zero (row_byte part i f.at) f.fails)

  wrong_breaks : row_wrong c part i ≡ true → BreaksRow c part i
  unfolding row_wrong
  wrong_breaks e = go (ltb i c.ports) refl (not-true _ e)
    where
      go : (b : Bool) → ltb i c.ports ≡ b → cond b (row_legal c part i) (row_zero part i) ≡ false → BreaksRow c part i
      go true q f = legal_breaks (ltb-true i c.ports q) f
      go false q f = zero_breaks (ltb-false i c.ports q) f

  -- the same from the rule to the test
  legal_wrong : i < c.ports → row_legal c part i ≡ false → row_wrong c part i ≡ true
  unfolding row_wrong
  legal_wrong h e = rw (lt-ltb i c.ports h, e)

  idle_wrong : i < c.ports → kind_at part i ≡ 0 → no_offer part i ≡ false → row_wrong c part i ≡ true
  unfolding row_legal
  idle_wrong h k e = legal_wrong h (rw (k, e) (and-false (leb (credit_at part i) c.vcs)))

  offer_wrong : i < c.ports → 0 < kind_at part i → legal_offer c part i ≡ false → row_wrong c part i ≡ true
  unfolding row_legal
  offer_wrong h some e =
      legal_wrong h (rw (is_not_zero (kind_at part i) some, e) (and-false (leb (credit_at part i) c.vcs)))

  destination_wrong : i < c.ports → 0 < kind_at part i
      → cond (starts_kind (kind_at part i)) (ltb (destination_at part i) c.ports) (eqb (destination_at part i) 0) ≡ false
      → row_wrong c part i ≡ true
  unfolding legal_offer
  destination_wrong h some e = offer_wrong h some (rw e (and-false (leb (kind_at part i) single && ltb (vc_at part i) c.vcs)))

  breaks_wrong : BreaksRow c part i → row_wrong c part i ≡ true
  unfolding row_wrong row_zero row_legal no_offer legal_offer starts_kind
  breaks_wrong (beyond_p k h g f) =
      rw (le-ltb i c.ports h, not_every 8 (λ (k : ℕ). eqb (row_byte part i k) 0) k g (is_not_zero (row_byte part i k) f))
  breaks_wrong (no_such_kind h f) = offer_wrong h (omega arith) (rw (lt-leb (kind_at part i) single f))
  breaks_wrong (idle_vc h k f) = idle_wrong h k (rw (is_not_zero (vc_at part i) f))
  breaks_wrong (idle_destination h k f) = idle_wrong h k (rw (is_not_zero (destination_at part i) f, and-false (eqb (vc_at part i) 0)))
  breaks_wrong (idle_payload n h k g l f) = idle_wrong h k (rw (byte_payload part i n g l f)
      (and-false (eqb (vc_at part i) 0 && eqb (destination_at part i) 0)))
  breaks_wrong (vc_too_large h some f) = offer_wrong h some (rw (le-ltb (vc_at part i) c.vcs f, and-false (leb (kind_at part i) single)))
  breaks_wrong (destination_too_large h (inl k) f) = destination_wrong h (omega arith) (rw (k, le-ltb (destination_at part i) c.ports f))
  breaks_wrong (destination_too_large h (inr k) f) = destination_wrong h (omega arith) (rw (k, le-ltb (destination_at part i) c.ports f))
  breaks_wrong (destination_inside h (inl k) f) = destination_wrong h (omega arith) (rw (k, is_not_zero (destination_at part i) f))
  breaks_wrong (destination_inside h (inr k) f) = destination_wrong h (omega arith) (rw (k, is_not_zero (destination_at part i) f))
  breaks_wrong (credit_too_large h f) = legal_wrong h (rw (lt-leb (credit_at part i) c.vcs f))

  -- the test of a row and the rules
  pub row_wrong_exactly : (row_wrong c part i ≡ true) ↔ BreaksRow c part i
  row_wrong_exactly = (wrong_breaks, breaks_wrong)

-- row p breaks a byte rule and no lower one does
pub record FirstBroken (c : Config) (part : List ℕ) (p : ℕ) : Type 0 where
  pub inside : p < 8
  pub here : BreaksRow c part p
  pub lower : (i : ℕ) → i < p → BreaksRow c part i → ⊥

-- 3 of a part that is 64 bytes long, by the byte rules
pub broken_exactly : (s : Router) (part : List ℕ) → length part ≡ cycle_length → (p : ℕ)
    → ((step_of s part).verdict ≡ refusing numbers.row_wrong p) ↔ (NoneBefore s part numbers.row_wrong × FirstBroken s.config part p)
broken_exactly s part long p = (
  λ e. let f = (row_exactly s part long p).0 e in (f.0, there f.1),
  λ f. (row_exactly s part long p).1 (f.0, back f.1),
)
  where
    there : FirstAt (rule3 s.config part) p → FirstBroken s.config part p
    there f =
        record {
          inside = f.inside;
          here = (row_wrong_exactly s.config part p).0 f.here;
          lower = λ i h b. true≢false (sym ((row_wrong_exactly s.config part i).1 b) ∙ f.lower i h);
        }

    right : (i : ℕ) → (BreaksRow s.config part i → ⊥) → (b : Bool) → row_wrong s.config part i ≡ b → b ≡ false
    right i never true e = absurd (never ((row_wrong_exactly s.config part i).0 e))
    right i never false e = refl

    back : FirstBroken s.config part p → FirstAt (rule3 s.config part) p
    back f =
        record {
          inside = f.inside;
          here = (row_wrong_exactly s.config part p).1 f.here;
          lower = λ i h. right i (f.lower i h) (row_wrong s.config part i) refl;
        }
