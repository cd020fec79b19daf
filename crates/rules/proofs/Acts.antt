-- Ports that act or do not: a list in which the act of each port changes one place, seen from a place.
-- Assumes nothing.
use mathlib.Core.Path.{◌≡◌, refl, sym, ap, ◌∙◌}
use mathlib.Core.Logic.{◌≢◌, ◌⊎◌, inl, inr}
use mathlib.Core.Bool.{Bool, true, false, cond}
use mathlib.Core.List.{List}
use Rattle.std.specs.Prelude.{Option, Some, None}
use Rattle.std.proofs.lemmas.Option.{same_Some, none-some}
use Prim.Native.Nat.{ℕ, zero, suc, ◌<◌}
use native.Mathlib.Nat.{le_refl}
use native.Mathlib.Omega.{arith}
use lib.Arith.{lt_of_le-ne}
use lib.Dec.{eqb}
use lib.ListN.{length, get_or, set}
use borrow.Author.Tests.{eqb-true, eqb-false, eq-eqb}
use Rattle.rules.specs.Ports.{over_ports}
use Rattle.rules.proofs.Folds.{changed, changed_at, over_same, turns, turns_length, turns_elsewhere, turns_at}

-- port i, of the first n, acts by e on place y
pub record Actor {E : Type 0} (act : ℕ → Option E) (place : ℕ → E → ℕ) (n y : ℕ) : Type 0 where
  pub port : ℕ
  pub deed : E
  pub below : port < n
  pub acts : act port ≡ Some deed
  pub there : place port deed ≡ y

-- no port acts on place y
abbrev pub Untouched : {E : Type 0} → (ℕ → Option E) → (ℕ → E → ℕ) → ℕ → ℕ → Type 0
Untouched {E} act place n y = (i : ℕ) (e : E) → i < n → act i ≡ Some e → place i e ≢ y

-- some port acts on a place, or none does
pub touched_or_not : {E : Type 0} (act : ℕ → Option E) (place : ℕ → E → ℕ) (n y : ℕ) → Actor act place n y ⊎ Untouched act place n y
touched_or_not act place zero y = inr (λ i e l. absurd (omega arith))
touched_or_not {E} act place (suc n) y = go (act n) refl (touched_or_not act place n y)
  where
    more : ((e : E) → act n ≡ Some e → place n e ≢ y) → Untouched act place n y → Untouched act place (suc n) y
    more here below i e l q = last (eqb i n) refl
      where
        last : (b : Bool) → eqb i n ≡ b → place i e ≢ y
        last true r f =
            let k = eqb-true i n r in
            here e (ap act (sym k) ∙ q) (ap (λ (j : ℕ). place j e) (sym k) ∙ f)
        last false r f = below i e (lt_of_le-ne (omega arith) (eqb-false i n r)) q f

    go : (o : Option E) → act n ≡ o → Actor act place n y ⊎ Untouched act place n y
        → Actor act place (suc n) y ⊎ Untouched act place (suc n) y
    go o q (inl a) =
        inl (record { port = a.port; deed = a.deed; below = let l = a.below in omega arith; acts = a.acts; there = a.there })
    go None q (inr off) = inr (more (λ e r. absurd (none-some e (sym q ∙ r))) off)
    go (Some e) q (inr off) = here (eqb (place n e) y) refl
      where
        here : (b : Bool) → eqb (place n e) y ≡ b → Actor act place (suc n) y ⊎ Untouched act place (suc n) y
        here true r = inl (record { port = n; deed = e; below = le_refl (suc n); acts = q; there = eqb-true (place n e) y r })
        here false r =
            inr (more (λ d p f. eqb-false (place n e) y r (ap (place n) (same_Some e d (sym q ∙ p)) ∙ f)) off)

-- a list after an act, if there is one
abbrev pub acted : {A E : Type 0} → A → (E → ℕ) → (E → A → A) → Option E → List A → List A
acted d place change None xs = xs
acted d place change (Some e) xs = set xs (place e) (change e (get_or xs (place e) d))

module _ {A E : Type 0} (d : A) (act : ℕ → Option E) (place : ℕ → E → ℕ) (change : ℕ → E → A → A) where
  abbrev pub deeds : List A → ℕ → List A
  deeds xs i = acted d (place i) (change i) (act i) xs

  abbrev placed : ℕ → Option E → Option ℕ
  placed i None = None
  placed i (Some e) = Some (place i e)

  abbrev changing : ℕ → Option E → A → A
  changing i None a = a
  changing i (Some e) a = change i e a

  as_turns : (n : ℕ) (xs : List A) → over_ports n deeds xs ≡ over_ports n
      (turns d (λ (i : ℕ). placed i (act i)) (λ (i : ℕ). changing i (act i))) xs
  as_turns n xs =
      over_same n deeds (turns d (λ (i : ℕ). placed i (act i)) (λ (i : ℕ). changing i (act i))) xs (λ t i l. go t i (act i))
    where
      go : (t : List A) (i : ℕ) (o : Option E)
          → acted d (place i) (change i) o t ≡ changed d (changing i o) (placed i o) t
      go t i None = refl
      go t i (Some e) = refl

  placed_acts : (i y : ℕ) (o : Option E) → placed i o ≡ Some y → (e : E) × (o ≡ Some e) × (place i e ≡ y)
  placed_acts i y None q = absurd (none-some y q)
  placed_acts i y (Some e) q = (e, refl, same_Some (place i e) y q)

  -- the list keeps its length
  pub deeds_length : (n : ℕ) (xs : List A) → length (over_ports n deeds xs) ≡ length xs
  deeds_length n xs = ap length (as_turns n xs) ∙ turns_length d (λ (i : ℕ). placed i (act i)) (λ (i : ℕ). changing i (act i)) n xs

  -- a place that no act is on stays
  pub untouched_stays : (n : ℕ) (xs : List A) (y : ℕ) → Untouched act place n y → get_or (over_ports n deeds xs) y d ≡ get_or xs y d
  untouched_stays n xs y off =
      ap (λ (l : List A). get_or l y d) (as_turns n xs)
      ∙ turns_elsewhere d (λ (i : ℕ). placed i (act i)) (λ (i : ℕ). changing i (act i)) n xs y
      (λ i l q. let r = placed_acts i y (act i) q in off i r.0 l r.1 r.2)

  -- a place that one port alone acts on is changed by its act
  pub touched_changes : (n : ℕ) (xs : List A) (i : ℕ) (e : E) → i < n → act i ≡ Some e → place i e < length xs
      → ((j : ℕ) (f : E) → j < n → act j ≡ Some f → place j f ≡ place i e → j ≡ i)
      → get_or (over_ports n deeds xs) (place i e) d ≡ change i e (get_or xs (place i e) d)
  touched_changes n xs i e l q m alone =
      ap (λ (l : List A). get_or l (place i e) d) (as_turns n xs)
      ∙ turns_at d (λ (j : ℕ). placed j (act j)) (λ (j : ℕ). changing j (act j)) n xs (place i e) i l m
      (λ j h n p. let r = placed_acts j (place i e) (act j) p in n (alone j r.0 h r.1 r.2))
      ∙ ap (λ (o : Option E). changed_at (place i e) (changing i o) (placed i o) (get_or xs (place i e) d)) q
      ∙ ap (λ (b : Bool). cond b (change i e (get_or xs (place i e) d)) (get_or xs (place i e) d)) (eq-eqb (place i e) (place i e) refl)
