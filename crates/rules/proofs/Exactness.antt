-- Each number comes exactly when its rule holds at that port, at no lower one, and no number earlier in the order holds at any port.
-- Assumes nothing.
use Rattle.std.specs.Prelude.{Ok, Err}
use mathlib.Core.Path.{◌≡◌, refl, sym, ap, subst, ◌∙◌}
use mathlib.Core.Logic.{◌↔◌, ◌⊎◌, inl, inr}
use mathlib.Core.Bool.{true, false, not, true≢false}
use mathlib.Core.List.{List, ◌∷◌}
use Prim.Native.Nat.{ℕ, ◌≤◌}
use lib.ListN.{length}
use borrow.Author.Tests.{eq-eqb, ne_eqb}
use native.Mathlib.Omega.{arith}
use Rattle.base.specs.Numbers as numbers
use Rattle.base.specs.Reply.{empty_reply}
use Rattle.state.specs.declared.Router.{Router}
use Rattle.trace.specs.Blocks.{cycle_length}
use Rattle.base.specs.declared.refusal.Refusal.{Refusal}
use Rattle.base.specs.Refusal.{Verdict}
use Rattle.base.specs.Refusal.{refusing}
use Rattle.rules.specs.Numbers.{Rule, rule2, rule10, rule_part, rule3, rule6, rule4, rule5, rules_of, part_wrong, judged}
use Rattle.base.specs.Refusal.{number_of, place_of}
use Rattle.rules.specs.Intake.{senders_paid}
use Rattle.rules.specs.Step.{step_by, step_of}
use Rattle.rules.proofs.FirstRule.{FirstAt, Nowhere, First, this, later, NoneHolds, done, Why, refuses, accepts, why, first_refuses}
use Rattle.rules.proofs.FirstRule.{none_accepts, before, from, split, join, numbered, alone}

module _ (s : Router) (part : List ℕ) where
  judged_why : Why (rules_of s part) (judged s part)
  unfolding judged
  judged_why = why (rules_of s part)

  -- the verdict of a cycle is what judging it gives
  pub verdict_judged : (step_of s part).verdict ≡ judged s part
  unfolding step_of
  verdict_judged = go (judged s part)
    where
      go : (v : Verdict) → (step_by v part s).verdict ≡ v
      go (Ok _) = refl
      go (Err r) = refl

  back : (n p : ℕ) → First (rules_of s part) n p → judged s part ≡ refusing n p
  unfolding judged
  back n p f = first_refuses (rules_of s part) n p f

  forth : NoneHolds (rules_of s part) → judged s part ≡ Ok tt
  unfolding judged
  forth f = none_accepts (rules_of s part) f

  reason : (v : Verdict) → (step_of s part).verdict ≡ v → Why (rules_of s part) v
  reason v e = subst (Why (rules_of s part)) (sym verdict_judged ∙ e) judged_why

  -- n with port p comes exactly when rule n holds at p, at no lower port, and no number earlier in the order holds at any port
  pub refused_exactly : (n p : ℕ) → ((step_of s part).verdict ≡ refusing n p) ↔ First (rules_of s part) n p
  refused_exactly n p = (λ e. go (reason (refusing n p) e), λ f. verdict_judged ∙ back n p f)
    where
      go : Why (rules_of s part) (refusing n p) → First (rules_of s part) n p
      go (refuses _ _ f) = f

  -- the same in the table's words: the number that the verdict stands for, and its port
  pub numbered_exactly : (n p : ℕ) → 1 ≤ n
      → ((number_of (step_of s part).verdict ≡ n) × (place_of (step_of s part).verdict ≡ p)) ↔ First (rules_of s part) n p
  numbered_exactly n p least = (
    λ e. (refused_exactly n p).0 (go (step_of s part).verdict e.0 e.1),
    λ f. let e = (refused_exactly n p).1 f in (ap number_of e, ap place_of e),
  )
    where
      go : (v : Verdict) → number_of v ≡ n → place_of v ≡ p → v ≡ refusing n p
      go (Ok _) e g = absurd (omega (arith, e, least))
      go (Err r) e g = λ i. Err (record { number = e i; place = g i })

  -- no number earlier in the order than n holds at any port
  abbrev pub NoneBefore : ℕ → Type 0
  NoneBefore n = NoneHolds (before n (rules_of s part))

  -- for a rule whose number no other rule has
  exactly : (r : Rule) (rs : List Rule) → from r.number (rules_of s part) ≡ r ∷ rs → numbered r.number rs ≡ false → (p : ℕ)
      → ((step_of s part).verdict ≡ refusing r.number p) ↔ (NoneBefore r.number × FirstAt r p)
  exactly r rs e g p = (
    λ h. let f = split r.number (rules_of s part) p ((refused_exactly r.number p).0 h) in
        (f.0, alone r rs p g (subst (λ (xs : List Rule). First xs r.number p) e f.1)),
    λ f. (refused_exactly r.number p).1
        (join r.number (rules_of s part) p f.0 (subst (λ (xs : List Rule). First xs r.number p) (sym e) (this f.1))),
  )

  -- 2, "state not sound"
  pub two_exactly : (p : ℕ) → ((step_of s part).verdict ≡ refusing numbers.not_sound p) ↔ FirstAt (rule2 s) p
  two_exactly p = let e = exactly (rule2 s) _ refl refl p in (λ h. (e.0 h).1, λ f. e.1 (done, f))

  -- 10, "the run already has 1,000,000,000 cycles"
  pub ten_exactly : (p : ℕ) → ((step_of s part).verdict ≡ refusing numbers.run_full p) ↔
      (NoneBefore numbers.run_full × FirstAt (rule10 s.cycle) p)
  ten_exactly = exactly (rule10 s.cycle) _ refl refl

  -- 3: the part's length is wrong, or it is right and p is the first port whose row is wrong
  pub three_exactly : (p : ℕ) → ((step_of s part).verdict ≡ refusing numbers.row_wrong p) ↔
      (NoneBefore numbers.row_wrong
      × (FirstAt (rule_part part) p ⊎ (Nowhere (rule_part part) × FirstAt (rule3 s.config part) p)))
  three_exactly p = (
    λ e. let f = split numbers.row_wrong (rules_of s part) p ((refused_exactly numbers.row_wrong p).0 e) in (f.0, go f.1),
    λ f. (refused_exactly numbers.row_wrong p).1 (join numbers.row_wrong (rules_of s part) p f.0 (back f.1)),
  )
    where
      go : First (from numbers.row_wrong (rules_of s part)) numbers.row_wrong p
          → FirstAt (rule_part part) p ⊎ (Nowhere (rule_part part) × FirstAt (rule3 s.config part) p)
      go (this f) = inl f
      go (later a f) = inr (a, alone (rule3 s.config part) _ p refl f)

      back : FirstAt (rule_part part) p ⊎ (Nowhere (rule_part part) × FirstAt (rule3 s.config part) p)
          → First (from numbers.row_wrong (rules_of s part)) numbers.row_wrong p
      back (inl f) = this f
      back (inr f) = later f.0 (this f.1)

  -- "A cycle part that isn't 64 bytes long gives 3 with port 0, before the other tests of 3"
  pub part_exactly : (length part ≡ cycle_length → ⊥) → (p : ℕ) → ((step_of s part).verdict ≡ refusing numbers.row_wrong p) ↔
      (NoneBefore numbers.row_wrong × (p ≡ 0))
  unfolding part_wrong
  part_exactly short p = (λ e. let f = (three_exactly p).0 e in (f.0, go f.1), λ f. (three_exactly p).1 (f.0, inl (back f.1)))
    where
      wrong : part_wrong part ≡ true
      wrong = ap not (ne_eqb (length part) cycle_length short)

      go : FirstAt (rule_part part) p ⊎ (Nowhere (rule_part part) × FirstAt (rule3 s.config part) p) → p ≡ 0
      go (inl f) = let b = f.inside in omega arith
      go (inr f) = absurd (true≢false (sym wrong ∙ f.0 0 (omega arith)))

      back : p ≡ 0 → FirstAt (rule_part part) p
      back e = record { inside = omega arith; here = wrong; lower = λ i h. absurd (omega arith) }

  -- 3 of a part that is 64 bytes long: "row breaks the byte rules above, or VC, destination or credit too large"
  pub row_exactly : length part ≡ cycle_length → (p : ℕ) → ((step_of s part).verdict ≡ refusing numbers.row_wrong p) ↔
      (NoneBefore numbers.row_wrong × FirstAt (rule3 s.config part) p)
  unfolding part_wrong
  row_exactly long p = (
    λ e. let f = (three_exactly p).0 e in (f.0, go f.1),
    λ f. (three_exactly p).1 (f.0, inr (λ i h. right, f.1)),
  )
    where
      right : part_wrong part ≡ false
      right = ap not (eq-eqb (length part) cycle_length long)

      go : FirstAt (rule_part part) p ⊎ (Nowhere (rule_part part) × FirstAt (rule3 s.config part) p) → FirstAt (rule3 s.config part) p
      go (inl f) = absurd (true≢false (sym f.here ∙ right))
      go (inr f) = f.1

  -- 6, "downstream credit where that output VC already has E"
  pub six_exactly : (p : ℕ) → ((step_of s part).verdict ≡ refusing numbers.credit_past_room p) ↔
      (NoneBefore numbers.credit_past_room × FirstAt (rule6 s.config s.outputs part) p)
  six_exactly = exactly (rule6 s.config s.outputs part) _ refl refl

  -- 4, "B or T with no packet open at that sender VC, or H or S with one open"
  pub four_exactly : (p : ℕ) → ((step_of s part).verdict ≡ refusing numbers.out_of_turn p) ↔
      (NoneBefore numbers.out_of_turn × FirstAt (rule4 s.config s.inputs part) p)
  four_exactly = exactly (rule4 s.config s.inputs part) _ refl refl

  -- 5, "no sender credit, after phase 1"
  pub five_exactly : (p : ℕ) → ((step_of s part).verdict ≡ refusing numbers.no_sender_credit p) ↔
      (NoneBefore numbers.no_sender_credit × FirstAt (rule5 s.config (senders_paid s.config s.home s.inputs) part) p)
  five_exactly = exactly (rule5 s.config (senders_paid s.config s.home s.inputs) part) _ refl refl

  -- accepted: no rule holds at any port
  pub accepted_exactly : ((step_of s part).verdict ≡ Ok tt) ↔ NoneHolds (rules_of s part)
  accepted_exactly = (λ e. go (reason (Ok tt) e), λ f. verdict_judged ∙ forth f)
    where
      go : Why (rules_of s part) (Ok tt) → NoneHolds (rules_of s part)
      go (accepts f) = f

  -- "a refused cycle gives the state as before and an empty reply"
  pub refused_leaves : (r : Refusal) → (step_of s part).verdict ≡ Err r → ((step_of s part).router ≡ s)
      × ((step_of s part).reply ≡ empty_reply)
  unfolding step_of
  refused_leaves r e = rw (sym verdict_judged ∙ e) (refl, refl)
