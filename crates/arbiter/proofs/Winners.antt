-- Who wins: a winner asks; without a request nobody wins and nothing moves; a sound arbiter with a request has exactly one winner, and
-- it is the document's.
-- Assumes nothing.
use mathlib.Core.Path.{◌≡◌, refl, sym, ap, ap₂, subst, ◌∙◌}
use mathlib.Core.Logic.{◌⊎◌, inl, inr}
use mathlib.Core.Bool.{Bool, true, false, cond, not, ◌&&◌, ◌||◌, true≢false}
use mathlib.Core.List.{List}
use Rattle.std.specs.Prelude.{Option, Some, None}
use Rattle.std.proofs.lemmas.Option.{none-some}
use Prim.Native.Nat.{ℕ, ◌+◌, ◌-◌, ◌%◌, ◌≤◌, ◌<◌}
use native.Mathlib.Nat.{mod-eq_of_lt, le_refl, add-mod_right}
use native.Mathlib.Omega.{arith}
use lib.Dec.{eqb, ltb}
use borrow.Author.Tests.{eqb-true, eqb-false, eq-eqb, ne_eqb, ltb-true, ltb-false}
use Rattle.base.specs.Search.{first_from, or_else}
use Rattle.base.proofs.Search.{First, both, every_at, all_every, first_found, first_at, first_none, first_missing}
use Rattle.arbiter.specs.RoundRobin.{next_in_turn}
use Rattle.arbiter.specs.Matrix.{beats, beats_every_other, champion}
use Rattle.arbiter.specs.declared.Arbiter.{Arbiter}
use Rattle.arbiter.specs.Arbiter.{usable, choice, after}
use Rattle.arbiter.proofs.ByKind.{usable_is, usable_holds}
use Rattle.arbiter.proofs.Soundness.{Sound}
use Rattle.arbiter.proofs.Top.{Top, NoneOf, top}
use Rattle.arbiter.proofs.TotalOrder.{Order}

-- ---- round robin

-- the next in turn is found at or after the pointer, or else before it with nobody at or after
turn_cases : (n p : ℕ) (ask : ℕ → Bool) (w : ℕ) → next_in_turn n ask p ≡ Some w
    → First ask (n - p) p w ⊎ (First ask p 0 w × (first_from ask (n - p) p ≡ None))
unfolding next_in_turn or_else
turn_cases n p ask w e = go (first_from ask (n - p) p) refl e
  where
    go : (o : Option ℕ) → first_from ask (n - p) p ≡ o → or_else o (first_from ask p 0) ≡ Some w
        → First ask (n - p) p w ⊎ (First ask p 0 w × (first_from ask (n - p) p ≡ None))
    go (Some x) q f = inl (first_found ask (n - p) p w (q ∙ f))
    go None q f = inr (first_found ask p 0 w f, q)

-- how many turns a requester is from the pointer
abbrev pub turns_from : ℕ → ℕ → ℕ → ℕ
turns_from n p j = (j + (n - p)) % n

turns_after : (n p j : ℕ) → p ≤ j → j < n → turns_from n p j ≡ j - p
turns_after n p j h g =
    let e : j + (n - p) ≡ j - p + n = omega arith in
    ap (λ (x : ℕ). x % n) e ∙ add-mod_right (j - p) n ∙ mod-eq_of_lt (omega arith)

turns_before : (n p j : ℕ) → j < p → p < n → turns_from n p j ≡ j + (n - p)
turns_before n p j h g = mod-eq_of_lt (omega arith)

-- two of the n are not equally far from the pointer
turns_differ : (n p j k : ℕ) → p < n → j < n → k < n → turns_from n p j ≡ turns_from n p k → j ≡ k
turns_differ n p j k h g l e = go (ltb j p) refl (ltb k p) refl
  where
    go : (b : Bool) → ltb j p ≡ b → (d : Bool) → ltb k p ≡ d → j ≡ k
    go true q true r =
        let x = turns_before n p j (ltb-true j p q) h in let y = turns_before n p k (ltb-true k p r) h in omega arith
    go true q false r =
        let x = turns_before n p j (ltb-true j p q) h in
        let y = turns_after n p k (ltb-false k p r) l in
        let m = ltb-true j p q in
        let o = ltb-false k p r in
        absurd (omega arith)
    go false q true r =
        let x = turns_after n p j (ltb-false j p q) g in
        let y = turns_before n p k (ltb-true k p r) h in
        let m = ltb-false j p q in
        let o = ltb-true k p r in
        absurd (omega arith)
    go false q false r =
        let x = turns_after n p j (ltb-false j p q) g in
        let y = turns_after n p k (ltb-false k p r) l in
        let m = ltb-false j p q in
        let o = ltb-false k p r in
        omega arith

-- who passes a search is not before what it found
not_before : (test : ℕ → Bool) (k i w j : ℕ) → First test k i w → test j ≡ true → i ≤ j → w ≤ j
not_before test k i w j f t h = go (ltb j w) refl
  where
    go : (b : Bool) → ltb j w ≡ b → w ≤ j
    go true e = absurd (true≢false (sym t ∙ f.before j h (ltb-true j w e)))
    go false e = ltb-false j w e

module _ (n p : ℕ) (ask : ℕ → Bool) (low : p < n) where
  -- "the first requester at or after it, cyclically": no requester is fewer turns from the pointer
  turn_nearest : (w : ℕ) → next_in_turn n ask p ≡ Some w → (j : ℕ) → j < n → ask j ≡ true → turns_from n p w ≤ turns_from n p j
  turn_nearest w e j h t = go (turn_cases n p ask w e) (ltb j p) refl
    where
      go : First ask (n - p) p w ⊎ (First ask p 0 w × (first_from ask (n - p) p ≡ None)) → (b : Bool) → ltb j p ≡ b
          → turns_from n p w ≤ turns_from n p j
      go (inl f) true q =
          let l : w < n = let b = f.below in omega arith in
          let x = turns_after n p w f.from l in
          let y = turns_before n p j (ltb-true j p q) low in
          omega arith
      go (inl f) false q =
          let l : w < n = let b = f.below in omega arith in
          let m = not_before ask (n - p) p w j f t (ltb-false j p q) in
          let x = turns_after n p w f.from l in
          let y = turns_after n p j (ltb-false j p q) h in
          omega arith
      go (inr (f, missing)) true q =
          let b = f.below in
          let m = not_before ask p 0 w j f t (omega arith) in
          let x = turns_before n p w (omega arith) low in
          let y = turns_before n p j (ltb-true j p q) low in
          omega arith
      go (inr (f, missing)) false q =
          absurd (true≢false (sym t ∙ first_missing ask (n - p) p missing j (ltb-false j p q) (omega arith)))

  turn_asks : (w : ℕ) → next_in_turn n ask p ≡ Some w → (w < n) × (ask w ≡ true)
  turn_asks w e = go (turn_cases n p ask w e)
    where
      go : First ask (n - p) p w ⊎ (First ask p 0 w × (first_from ask (n - p) p ≡ None)) → (w < n) × (ask w ≡ true)
      go (inl f) = (let b = f.below in omega arith, f.passes)
      go (inr (f, missing)) = (let b = f.below in omega arith, f.passes)

  turn_somebody : (i : ℕ) → i < n → ask i ≡ true → (w : ℕ) × (next_in_turn n ask p ≡ Some w)
  unfolding next_in_turn or_else
  turn_somebody i h t = go (first_from ask (n - p) p) refl (first_from ask p 0) refl
    where
      go : (o : Option ℕ) → first_from ask (n - p) p ≡ o → (q : Option ℕ) → first_from ask p 0 ≡ q → (w : ℕ) × (or_else o q ≡ Some w)
      go (Some w) e q f = (w, refl)
      go None e (Some w) f = (w, refl)
      go None e None f = absurd (nobody (ltb i p) refl)
        where
          nobody : (b : Bool) → ltb i p ≡ b → ⊥
          nobody true l = true≢false (sym t ∙ first_missing ask p 0 f i (omega arith) (omega (arith, ltb-true i p l)))
          nobody false l = true≢false (sym t ∙ first_missing ask (n - p) p e i (ltb-false i p l) (omega arith))

  turn_nobody : ((i : ℕ) → i < n → ask i ≡ false) → next_in_turn n ask p ≡ None
  unfolding next_in_turn or_else
  turn_nobody off =
      rw (first_none ask (n - p) p (λ j h g. off j (omega arith)), first_none ask p 0 (λ j h g. off j (omega arith)))

-- ---- matrix

-- "beats every other requester", as a fact
abbrev pub BeatsOthers : ℕ → (ℕ → Bool) → List ℕ → ℕ → Type 0
BeatsOthers n ask rows w = (j : ℕ) → j < n → ask j ≡ true → (j ≡ w → ⊥) → beats rows w j ≡ true

module _ (n : ℕ) (ask : ℕ → Bool) (rows : List ℕ) where
  every_other : (w : ℕ) → beats_every_other n ask rows w ≡ true → BeatsOthers n ask rows w
  unfolding beats_every_other
  every_other w e j h t d =
      subst (λ (b : Bool). (b || beats rows w j) ≡ true) (ne_eqb j w d)
      (subst (λ (b : Bool). (not b || eqb j w || beats rows w j) ≡ true) t
      (every_at n (λ (j : ℕ). not (ask j) || eqb j w || beats rows w j) e j h))

  others_every : (w : ℕ) → BeatsOthers n ask rows w → beats_every_other n ask rows w ≡ true
  unfolding beats_every_other
  others_every w all = all_every n (λ (j : ℕ). not (ask j) || eqb j w || beats rows w j) (λ j h. go j h (ask j) refl (eqb j w) refl)
    where
      go : (j : ℕ) → j < n → (a : Bool) → ask j ≡ a → (b : Bool) → eqb j w ≡ b → (not a || b || beats rows w j) ≡ true
      go j h true t true e = refl
      go j h true t false e = all j h t (eqb-false j w e)
      go j h false t b e = refl

  champion_is : (w : ℕ) → champion n ask rows ≡ Some w → (w < n) × (ask w ≡ true) × BeatsOthers n ask rows w
  unfolding champion
  champion_is w e =
      let f = first_found (λ (i : ℕ). ask i && beats_every_other n ask rows i) n 0 w e in
      let p = both (ask w) (beats_every_other n ask rows w) f.passes in
      (omega (arith, f.below), p.0, every_other w p.1)

  champion_nobody : ((i : ℕ) → i < n → ask i ≡ false) → champion n ask rows ≡ None
  unfolding champion
  champion_nobody off =
      first_none (λ (i : ℕ). ask i && beats_every_other n ask rows i) n 0
      (λ j h g. ap (λ (b : Bool). b && beats_every_other n ask rows j) (off j (omega arith)))

  module _ (o : Order n rows) where
    -- in a total order only one beats every other requester
    champion_only : (w x : ℕ) → w < n → x < n → ask w ≡ true → ask x ≡ true → BeatsOthers n ask rows w → BeatsOthers n ask rows x → w ≡ x
    champion_only w x h g t u all also = go (eqb w x) refl
      where
        go : (b : Bool) → eqb w x ≡ b → w ≡ x
        go true e = eqb-true w x e
        go false e =
            let d = eqb-false w x e in
            absurd (true≢false (sym (also w h t d) ∙ o.asymmetric w x h g (all x g u (λ q. d (sym q)))))

    champion_somebody : (i : ℕ) → i < n → ask i ≡ true → (w : ℕ) × (champion n ask rows ≡ Some w)
    unfolding champion
    champion_somebody i h t = go (top n (beats rows) o.total o.transitive ask n (le_refl n))
      where
        go : NoneOf ask n ⊎ ((m : ℕ) × Top (beats rows) ask n m) → (w : ℕ) × (champion n ask rows ≡ Some w)
        go (inl nobody) = absurd (true≢false (sym t ∙ nobody i h))
        go (inr (m, q)) = (
          m,
          first_at (λ (i : ℕ). ask i && beats_every_other n ask rows i) n 0 m
              (record {
                from = omega arith;
                below = let l = q.below in omega arith;
                passes = ap₂ ◌&&◌ q.passes (others_every m q.others);
                before = λ j l g. only j g (ask j && beats_every_other n ask rows j) refl;
              }),
        )
          where
            only : (j : ℕ) → j < m → (b : Bool) → (ask j && beats_every_other n ask rows j) ≡ b → b ≡ false
            only j g true e =
                let p = both (ask j) (beats_every_other n ask rows j) e in
                let l = q.below in
                let same : j ≡ m = champion_only j m (omega arith) q.below p.0 q.passes (every_other j p.1) q.others in
                absurd (omega arith)
            only j g false e = refl

-- ---- either kind

module _ (places code n : ℕ) (ask : ℕ → Bool) (a : Arbiter places) where
  by_kind : (o : Option ℕ) → choice places code n ask a ≡ o → (b : Bool) → usable places code n a.pointer ≡ b → (d : Bool)
      → eqb code 1 ≡ d
      → cond b (cond d (next_in_turn n ask a.pointer) (champion n ask a.rows)) None ≡ o
  unfolding choice
  by_kind o e b f d g =
      ap₂ (λ (b d : Bool). cond b (cond d (next_in_turn n ask a.pointer) (champion n ask a.rows)) None) (sym f) (sym g) ∙ e

  -- the winner is one of the n, and it asks
  pub winner_asks : (w : ℕ) → choice places code n ask a ≡ Some w → (w < n) × (ask w ≡ true)
  winner_asks w e = go (usable places code n a.pointer) refl (eqb code 1) refl
    where
      go : (b : Bool) → usable places code n a.pointer ≡ b → (d : Bool) → eqb code 1 ≡ d → (w < n) × (ask w ≡ true)
      go true f true g = turn_asks n a.pointer ask ((usable_is places code n a.pointer f).1 (eqb-true code 1 g)) w
          (by_kind (Some w) e true f true g)
      go true f false g = let c = champion_is n ask a.rows w (by_kind (Some w) e true f false g) in (c.0, c.1)
      go false f d g = absurd (none-some w (by_kind (Some w) e false f d g))

  -- "No request: no winner, nothing moves."
  pub no_request_no_winner : ((i : ℕ) → i < n → ask i ≡ false) → choice places code n ask a ≡ None
  no_request_no_winner off = go (choice places code n ask a) refl
    where
      go : (o : Option ℕ) → choice places code n ask a ≡ o → o ≡ None
      go None e = refl
      go (Some w) e = let p = winner_asks w e in absurd (true≢false (sym p.1 ∙ off w p.0))

  pub no_request_nothing_moves : ((i : ℕ) → i < n → ask i ≡ false) → after places code n (choice places code n ask a) a ≡ a
  unfolding after
  no_request_nothing_moves off = ap (λ (o : Option ℕ). after places code n o a) (no_request_no_winner off)

  module _ (s : Sound places code n a) where
    is_usable : usable places code n a.pointer ≡ true
    is_usable = usable_holds places code n a.pointer s.given s.pointer_below

    turn_choice : code ≡ 1 → choice places code n ask a ≡ next_in_turn n ask a.pointer
    unfolding choice
    turn_choice one = rw (is_usable, eq-eqb code 1 one)

    matrix_choice : code ≡ 2 → choice places code n ask a ≡ champion n ask a.rows
    unfolding choice
    matrix_choice two = rw (is_usable, ne_eqb code 1 (λ one. omega arith))

    -- a sound arbiter that is asked has a winner
    pub request_has_winner : (i : ℕ) → i < n → ask i ≡ true → (w : ℕ) × (choice places code n ask a ≡ Some w)
    request_has_winner i h t = go s.given.kind
      where
        go : (code ≡ 1) ⊎ (code ≡ 2) → (w : ℕ) × (choice places code n ask a ≡ Some w)
        go (inl one) = let q = turn_somebody n a.pointer ask (s.pointer_below one) i h t in (q.0, turn_choice one ∙ q.1)
        go (inr two) = let q = champion_somebody n ask a.rows (s.order two) i h t in (q.0, matrix_choice two ∙ q.1)

    -- round robin: the winner is "the first requester at or after" the pointer, "cyclically", and the only one
    pub winner_first_in_turn : code ≡ 1 → (w : ℕ) → choice places code n ask a ≡ Some w
        → (j : ℕ) → j < n → ask j ≡ true → turns_from n a.pointer w ≤ turns_from n a.pointer j
    winner_first_in_turn one w e = turn_nearest n a.pointer ask (s.pointer_below one) w (sym (turn_choice one) ∙ e)

    pub first_in_turn_wins : code ≡ 1 → (w : ℕ) → w < n → ask w ≡ true
        → ((j : ℕ) → j < n → ask j ≡ true → turns_from n a.pointer w ≤ turns_from n a.pointer j) → choice places code n ask a ≡ Some w
    first_in_turn_wins one w h t nearest =
        let q = request_has_winner w h t in
        let r = winner_asks q.0 q.1 in
        let x = winner_first_in_turn one q.0 q.1 w h t in
        let y = nearest q.0 r.0 r.1 in
        q.1 ∙ ap Some (turns_differ n a.pointer q.0 w (s.pointer_below one) r.0 h (omega arith))

    -- matrix: the winner "beats every other requester", and is the only one that does
    pub winner_beats_others : code ≡ 2 → (w : ℕ) → choice places code n ask a ≡ Some w → BeatsOthers n ask a.rows w
    winner_beats_others two w e = (champion_is n ask a.rows w (sym (matrix_choice two) ∙ e)).2

    pub beats_others_wins : code ≡ 2 → (w : ℕ) → w < n → ask w ≡ true → BeatsOthers n ask a.rows w → choice places code n ask a ≡ Some w
    beats_others_wins two w h t all =
        let q = request_has_winner w h t in
        let r = winner_asks q.0 q.1 in
        q.1 ∙ ap Some (champion_only n ask a.rows (s.order two) q.0 w r.0 h r.1 t (winner_beats_others two q.0 q.1) all)
