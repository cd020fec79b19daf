-- Phase 5: who asks at which output, and the sets of those who ask.
-- Assumes nothing.
use Rattle.std.proofs.Common.{◌≡◌, refl, ◌∙◌, sym, ap, Bool, true, false, ◌&&◌, List, [], ◌∷◌, ◌++◌, ℕ, zero, suc, ◌+◌, ◌*◌, ◌%◌, ◌^◌, ◌<◌}
use Rattle.std.proofs.Common.{◌≤◌}
use Rattle.std.proofs.Common.{Some, None, arith, eqb, bit_or, get_or, length, set, replicate, get_or-set_same, get_or-set_other, add-one}
use lib.ListN.{length-append, length-set, get_or-append}
use lib.Seq.{drop-cons, get_or_at, ext_get_or}
use lib.Arith.{lt_of_le-ne}
use borrow.Author.Tests.{eqb-true, eqb-false, eq-eqb, ne_eqb}
use Rattle.base.specs.declared.flit.Flit.{Flit}
use Rattle.base.specs.Bits.{word_of}
use Rattle.base.specs.Flit.{kind_of, destination_of, starts_kind}
use Rattle.state.specs.declared.InputVc.{InputVc}
use Rattle.state.specs.Sound.{front_is_for}
use Rattle.store.specs.Store.{first_slot, front_of}
use Rattle.state.specs.Views.{queue_at, places}
use Rattle.store.proofs.Slots.{front_there}
use Rattle.rules.proofs.Lines.{places_ext}
use Rattle.rules.specs.Allocation.{asks}
use Rattle.router.specs.Picks.{is_at}
use Rattle.router.proofs.Words.{word_without, word_with}

-- a queue with nothing in it has no front flit
pub front_none : (store : List ℕ) (base queued o : ℕ) → queued ≡ 0 → front_is_for o (queue_at store base queued) ≡ false
unfolding queue_at
front_none store base queued o e = rw e

-- "asks at its destination"
pub front_is : (store : List ℕ) (x queued o : ℕ) → x < 32 → length store ≡ 512 → (queued ≡ 0 → ⊥)
    → front_is_for o (queue_at store (first_slot x) queued)
    ≡ (starts_kind (kind_of (front_of store x)) && eqb (destination_of (front_of store x)) o)
unfolding queue_at
front_is store x zero o h e n = absurd (n refl)
front_is store x (suc q) o h e n =
    rw (drop-cons store (first_slot x) 0 (omega arith))
    (ap (λ (f : Flit). starts_kind (kind_of f) && eqb (destination_of f) o) (front_there store x h))

-- a list of places, place by place
module _ {A : Type 0} where
  places_length : (n : ℕ) (f : ℕ → A) → length (places n f) ≡ n
  unfolding places
  places_length zero f = refl
  places_length (suc n) f = length-append (places n f) (f n ∷ []) ∙ ap (λ (k : ℕ). k + 1) (places_length n f) ∙ add-one n

  pub places_at : (n : ℕ) (f : ℕ → A) (i : ℕ) (d : A) → i < n → get_or (places n f) i d ≡ f i
  unfolding places
  places_at zero f i d h = absurd (omega arith)
  places_at (suc n) f i d h = go (eqb i n) refl (places_at n f i d)
    where
      go : (b : Bool) → eqb i n ≡ b → (i < n → get_or (places n f) i d ≡ f i) → get_or (places n f ++ (f n ∷ [])) i d ≡ f i
      go true e below = let q = eqb-true i n e in rw q (get_or_at (places n f) (f n) [] d n (places_length n f))
      go false e below =
          let l : i < n = lt_of_le-ne (omega arith) (eqb-false i n e) in
          get_or-append (places n f) (f n ∷ []) d i (omega (arith, places_length n f)) ∙ below l

  -- one place changed
  places_set : (n : ℕ) (f g : ℕ → A) (o : ℕ) (d : A) → ((i : ℕ) → i < n → (i ≡ o → ⊥) → f i ≡ g i) → o < n
      → set (places n f) o (g o) ≡ places n g
  places_set n f g o d same h =
      ext_get_or d (set (places n f) o (g o)) (places n g) (long ∙ sym (places_length n g)) (λ i l. at i (omega (arith, long)))
    where
      long : length (set (places n f) o (g o)) ≡ n
      long = length-set (places n f) o (g o) ∙ places_length n f

      at : (i : ℕ) → i < n → get_or (set (places n f) o (g o)) i d ≡ get_or (places n g) i d
      at i l = go (eqb i o) refl
        where
          go : (b : Bool) → eqb i o ≡ b → get_or (set (places n f) o (g o)) i d ≡ get_or (places n g) i d
          go true e =
              let q = eqb-true i o e in
              rw q (get_or-set_same (places n f) o (g o) d (omega (arith, places_length n f)) ∙ sym (places_at n g o d h))
          go false e =
              get_or-set_other (places n f) o i (g o) d (eqb-false i o e) ∙ places_at n f i d l ∙ same i l (eqb-false i o e)
              ∙ sym (places_at n g i d l)

-- who of the first n asks at each output, as sets
abbrev pub askers : List InputVc → List ℕ → ℕ → List ℕ
askers inputs store n = places 8 (λ (o : ℕ). word_of (asks inputs store o) n)

-- nobody yet
pub askers_none : (inputs : List InputVc) (store : List ℕ) → replicate 8 0 ≡ askers inputs store 0
unfolding places word_of
askers_none inputs store = refl

module _ (inputs : List InputVc) (store : List ℕ) (x : ℕ) (sets : List ℕ) (so : sets ≡ askers inputs store x) where
  -- one that asks nowhere
  nowhere : ((o : ℕ) → o < 8 → asks inputs store o x ≡ false) → sets ≡ askers inputs store (x + 1)
  nowhere off =
      so ∙ places_ext 8 (λ (o : ℕ). word_of (asks inputs store o) x) (λ (o : ℕ). word_of (asks inputs store o) (x + 1))
      (λ o h. word_without (asks inputs store o) x (word_of (asks inputs store o) x) refl (off o h))

  pub askers_nowhere : ((o : ℕ) → is_at o None ≡ asks inputs store o x) → sets ≡ askers inputs store (x + 1)
  askers_nowhere at = nowhere (λ o h. sym (at o))

  -- one that asks beyond the outputs
  pub askers_beyond : (r : ℕ) → ((o : ℕ) → is_at o (Some r) ≡ asks inputs store o x) → 8 ≤ r → sets ≡ askers inputs store (x + 1)
  askers_beyond r at l = nowhere (λ o h. sym (at o) ∙ ne_eqb r o (omega arith))

  -- one that asks at output r
  pub askers_more : (r : ℕ) → ((o : ℕ) → is_at o (Some r) ≡ asks inputs store o x) → r < 8 → x < 32
      → set sets r (bit_or (get_or sets r 0) (1 * 2 ^ x % 4294967296)) ≡ askers inputs store (x + 1)
  askers_more r at l h =
      let f : ℕ → ℕ = λ o. word_of (asks inputs store o) x in
      let g : ℕ → ℕ = λ o. word_of (asks inputs store o) (x + 1) in
      rw (so, places_at 8 f r 0 l, word_with (asks inputs store r) x (f r) refl h (sym (at r) ∙ eq-eqb r r refl))
      (places_set 8 f g r 0 (λ o k n. word_without (asks inputs store o) x (f o) refl (sym (at o) ∙ ne_eqb r o (λ q. n (sym q)))) l)

-- one more input VC, in each case; the one beyond the outputs is answered
pub ruleset askers_next = (askers_none, askers_nowhere, askers_more)
