-- A turn for each port, seen from one place: what is seen of the whole, what only one port changes, what no port changes, and lists with
-- an element for each channel.
-- Assumes nothing.
use mathlib.Core.Path.{◌≡◌, refl, sym, ap, ◌∙◌}
use mathlib.Core.Logic.{◌≢◌}
use mathlib.Core.Bool.{Bool, true, false, cond}
use mathlib.Core.List.{List}
use Rattle.std.specs.Prelude.{Option, Some, None}
use Rattle.std.proofs.lemmas.Option.{same_Some, none-some}
use Prim.Native.Nat.{ℕ, zero, suc, ◌*◌, ◌≤◌, ◌<◌}
use native.Mathlib.Nat.{lt_of_lt_of_le}
use native.Mathlib.Omega.{arith}
use lib.Arith.{lt_of_le-ne}
use lib.Dec.{eqb, ltb}
use lib.ListN.{length, get_or, set}
use lib.Seq.{get_or-set_same, get_or-set_other, set_out}
use borrow.Author.Tests.{eqb-true, eqb-false, ltb-true, ltb-false}
use Rattle.base.specs.declared.config.Config.{Config}
use Rattle.state.specs.Views.{channel_number}
use Rattle.rules.specs.Ports.{over_ports}
use Rattle.rules.proofs.Channels.{channel_below, channel_apart, channel_same}
use Rattle.rules.proofs.Folds.{changed, changed_at, turns, turns_length, turns_at, turns_elsewhere, over_keeps}

module _ {A B : Type 0} where
  -- what is seen of the whole goes its own way, where in each turn it does
  pub over_seen : (see : A → B) (n : ℕ) (f : A → ℕ → A) (g : B → ℕ → B) (s : A) → ((t : A) (i : ℕ) → i < n → see (f t i) ≡ g (see t) i)
      → see (over_ports n f s) ≡ over_ports n g (see s)
  unfolding over_ports
  over_seen see zero f g s e = refl
  over_seen see (suc n) f g s e =
      e (over_ports n f s) n (omega arith) ∙ ap (λ (b : B). g b n) (over_seen see n f g s (λ t i l. e t i (omega arith)))

  -- what no turn changes stays, where every turn keeps what that leans on
  pub over_stays : (Keeps : A → Type 0) (see : A → B) (n : ℕ) (f : A → ℕ → A) (s : A)
      → ((t : A) (i : ℕ) → i < n → Keeps t → Keeps (f t i)) → Keeps s
      → ((t : A) (i : ℕ) → i < n → Keeps t → see (f t i) ≡ see t) → see (over_ports n f s) ≡ see s
  unfolding over_ports
  over_stays Keeps see zero f s keeps h stays = refl
  over_stays Keeps see (suc n) f s keeps h stays =
      stays (over_ports n f s) n (omega arith) (over_keeps Keeps n f s (λ t i l. keeps t i (omega arith)) h)
      ∙ over_stays Keeps see n f s (λ t i l. keeps t i (omega arith)) h (λ t i l. stays t i (omega arith))

  -- what only port i's turn changes is what that turn makes of what was there
  pub over_once : (Keeps : A → Type 0) (see : A → B) (n : ℕ) (f : A → ℕ → A) (s : A) (i : ℕ) (after : B) → i < n
      → ((t : A) (j : ℕ) → j < n → Keeps t → Keeps (f t j)) → Keeps s
      → ((t : A) (j : ℕ) → j < n → j ≢ i → Keeps t → see (f t j) ≡ see t)
      → ((t : A) → Keeps t → see t ≡ see s → see (f t i) ≡ after)
      → see (over_ports n f s) ≡ after
  unfolding over_ports
  over_once Keeps see zero f s i after l keeps h others own = absurd (omega arith)
  over_once Keeps see (suc n) f s i after l keeps h others own =
      go (eqb n i) refl (λ k. over_once Keeps see n f s i after k (λ t j m. keeps t j (omega arith)) h
      (λ t j m. others t j (omega arith)) own)
    where
      kept : Keeps (over_ports n f s)
      kept = over_keeps Keeps n f s (λ t j m. keeps t j (omega arith)) h

      go : (b : Bool) → eqb n i ≡ b → (i < n → see (over_ports n f s) ≡ after) → see (f (over_ports n f s) n) ≡ after
      go true e rest =
          let q = eqb-true n i e in
          ap (λ (k : ℕ). see (f (over_ports n f s) k)) q
          ∙ own (over_ports n f s) kept (over_stays Keeps see n f s (λ t j m. keeps t j (omega arith)) h
          (λ t j m. others t j (omega arith) (λ r. absurd (omega arith))))
      go false e rest =
          others (over_ports n f s) n (omega arith) (eqb-false n i e) kept
          ∙ rest (lt_of_le-ne (omega arith) (λ r. eqb-false n i e (sym r)))

module _ {A B : Type 0} (d : A) (see : A → B) where
  -- what a change of one element keeps of it is kept of all elements
  changed_keeps : (g : A → A) (o : Option ℕ) (xs : List A) (y : ℕ) → ((a : A) → see (g a) ≡ see a)
      → see (get_or (changed d g o xs) y d) ≡ see (get_or xs y d)
  changed_keeps g None xs y e = refl
  changed_keeps g (Some x) xs y e = go (eqb x y) refl
    where
      there : (b : Bool) → ltb y (length xs) ≡ b → see (get_or (set xs y (g (get_or xs y d))) y d) ≡ see (get_or xs y d)
      there true l = ap see (get_or-set_same xs y (g (get_or xs y d)) d (ltb-true y (length xs) l)) ∙ e (get_or xs y d)
      there false l = ap (λ (zs : List A). see (get_or zs y d)) (set_out xs y (g (get_or xs y d)) (ltb-false y (length xs) l))

      go : (b : Bool) → eqb x y ≡ b → see (get_or (set xs x (g (get_or xs x d))) y d) ≡ see (get_or xs y d)
      go true q = ap (λ (k : ℕ). see (get_or (set xs k (g (get_or xs k d))) y d)) (eqb-true x y q) ∙ there (ltb y (length xs)) refl
      go false q = ap see (get_or-set_other xs x y (g (get_or xs x d)) d (λ r. eqb-false x y q (sym r)))

  turns_keep : (at : ℕ → Option ℕ) (g : ℕ → A → A) (n : ℕ) (xs : List A) (y : ℕ) → ((i : ℕ) (a : A) → see (g i a) ≡ see a)
      → see (get_or (over_ports n (turns d at g) xs) y d) ≡ see (get_or xs y d)
  turns_keep at g n xs y e =
      over_stays (λ (zs : List A). Unit {0}) (λ (zs : List A). see (get_or zs y d)) n (turns d at g) xs (λ t i l k. tt) tt
      (λ t i l k. changed_keeps (g i) (at i) t y (e i))

-- the number of the VC that a port names, if it names one
abbrev pub on_channel : Config → ℕ → Option ℕ → Option ℕ
on_channel c i None = None
on_channel c i (Some v) = Some (channel_number c i v)

-- a list with an element for each channel, of which port i has changed the one of the VC that it names
abbrev pub by_port : {A : Type 0} → Config → A → (ℕ → Option ℕ) → (ℕ → A → A) → List A → ℕ → List A
by_port c d vc g = turns d (λ (i : ℕ). on_channel c i (vc i)) g

pub record Made {A : Type 0} (c : Config) (d : A) (vc : ℕ → Option ℕ) (g : ℕ → A → A) (before later : List A) : Type 0 where
  pub is : later ≡ over_ports c.ports (by_port c d vc g) before

module _ {A : Type 0} {c : Config} {d : A} {vc : ℕ → Option ℕ} {g : ℕ → A → A} {before later : List A}
    (made : Made c d vc g before later) where
  pub made_length : length later ≡ length before
  made_length = ap length made.is ∙ turns_length d (λ (i : ℕ). on_channel c i (vc i)) g c.ports before

  -- what each change keeps of an element is kept of all
  pub made_keeps : {B : Type 0} (see : A → B) → ((i : ℕ) (a : A) → see (g i a) ≡ see a) → (y : ℕ) → see (get_or later y d)
      ≡ see (get_or before y d)
  made_keeps see same y =
      ap (λ (l : List A). see (get_or l y d)) made.is
      ∙ turns_keep d see (λ (i : ℕ). on_channel c i (vc i)) g c.ports before y same

  module _ (there : (i v : ℕ) → i < c.ports → vc i ≡ Some v → v < c.vcs) where
    elsewhere : (y j : ℕ) → j < c.ports → ((u : ℕ) → u < c.vcs → channel_number c j u ≢ y) → on_channel c j (vc j) ≢ Some y
    elsewhere y j l n e = go (vc j) refl e
      where
        go : (o : Option ℕ) → vc j ≡ o → on_channel c j o ≡ Some y → ⊥
        go None q r = none-some y r
        go (Some u) q r = n u (there j u l q) (same_Some (channel_number c j u) y r)

    -- VC v of port i is changed by port i alone, if it names v
    pub made_at : (i v : ℕ) → i < c.ports → v < c.vcs → c.ports * c.vcs ≤ length before
        → get_or later (channel_number c i v) d ≡ changed_at v (g i) (vc i) (get_or before (channel_number c i v) d)
    made_at i v h k room =
        ap (λ (l : List A). get_or l (channel_number c i v) d) made.is
        ∙ turns_at d (λ (i : ℕ). on_channel c i (vc i)) g c.ports before (channel_number c i v) i h
        (lt_of_lt_of_le (channel_below c i v h k) room)
        (λ j l n. elsewhere (channel_number c i v) j l (λ u m e. n (channel_apart c j u i v m k e).0))
        ∙ go (vc i)
      where
        go : (o : Option ℕ) → changed_at (channel_number c i v) (g i) (on_channel c i o) (get_or before (channel_number c i v) d)
            ≡ changed_at v (g i) o (get_or before (channel_number c i v) d)
        go None = refl
        go (Some u) = ap (λ (b : Bool). cond b (g i (get_or before (channel_number c i v) d)) (get_or before (channel_number c i v) d))
            (channel_same c i v u)

    -- what is no channel's stays
    pub made_past : (y : ℕ) → c.ports * c.vcs ≤ y → get_or later y d ≡ get_or before y d
    made_past y h =
        ap (λ (l : List A). get_or l y d) made.is
        ∙ turns_elsewhere d (λ (i : ℕ). on_channel c i (vc i)) g c.ports before y (λ j l.
        elsewhere y j l (λ u m e. let b = channel_below c j u l m in absurd (omega arith)))
