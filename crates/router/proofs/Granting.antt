-- Phase 5: what an output grants.
-- Assumes nothing.
use Rattle.std.proofs.Common.{◌≡◌, refl, ◌∙◌, sym, ap, Bool, true, false, List, ℕ, zero, suc, ◌+◌, ◌*◌, ◌<◌, ◌≤◌, Option, Some, None, arith}
use Rattle.std.proofs.Common.{get_or, length, set, replicate, option_map, length-set, get_or-set_same, get_or-set_other, below_more}
use mathlib.Core.Bool.{true≢false}
use Rattle.std.specs.Option.{is_some}
use Rattle.base.specs.declared.config.Config.{Config}
use Rattle.base.specs.Bits.{bit}
use Rattle.base.proofs.Bits.{bit_zero}
use Rattle.base.proofs.Search.{first_at, first_none}
use Rattle.arbiter.specs.declared.Arbiter.{Arbiter}
use Rattle.arbiter.specs.Arbiter.{choice}
use Rattle.arbiter.proofs.Winners.{no_request_no_winner}
use Rattle.state.specs.declared.InVc.{InVc}
use Rattle.state.specs.declared.OutputVc.{OutputVc}
use Rattle.state.specs.Fresh.{past_arbiter}
use Rattle.state.specs.Sound.{is_vc_free}
use Rattle.state.specs.Views.{output_at}
use Rattle.rules.specs.Allocation.{Grant, lowest_free_vc, granted}
use Rattle.router.specs.declared.allocation.Granted.{Granted}
use Rattle.router.specs.Grants.{grant_in, grant_at}

-- whether VC w of output o is free
abbrev pub free : Config → List OutputVc → ℕ → ℕ → Bool
free c outputs o w = is_vc_free (output_at c outputs o w).holder

unheld : (holder : Option InVc) → is_some holder ≡ false → is_vc_free holder ≡ true
unheld None e = refl
unheld (Some by) e = absurd (true≢false e)

module _ (c : Config) (outputs : List OutputVc) (o : ℕ) where
  -- the first that is free
  pub free_found : (w : ℕ) → ((k : ℕ) → k < w → free c outputs o k ≡ false) → w < c.vcs → is_some (output_at c outputs o w).holder ≡ false
      → Some w ≡ lowest_free_vc c outputs o
  unfolding lowest_free_vc
  free_found w before h e =
      sym (first_at (free c outputs o) c.vcs 0 w (record {
        from = omega arith;
        below = omega arith;
        passes = unheld (output_at c outputs o w).holder e;
        before = λ j l g. before j g;
      }))

  -- none is free
  pub free_none : ((k : ℕ) → k < c.vcs → free c outputs o k ≡ false) → None ≡ lowest_free_vc c outputs o
  unfolding lowest_free_vc
  free_none before = sym (first_none (free c outputs o) c.vcs 0 (λ j l g. before j (omega arith)))

-- what output o is to grant
abbrev pub grant_to : Config → List OutputVc → List (Arbiter 32) → List ℕ → ℕ → Option Grant
grant_to c outputs vcs sets o =
    granted (lowest_free_vc c outputs o) (choice 32 c.arbiter (c.ports * c.vcs) (bit (get_or sets o 0)) (get_or vcs o past_arbiter))

-- the outputs below o have granted, and the others not yet
pub record Granting (c : Config) (outputs : List OutputVc) (vcs : List (Arbiter 32)) (sets : List ℕ) (made : List (Option Granted)) (o : ℕ)
    : Type 0 where
  pub long : length made ≡ 8
  pub so_far : (k : ℕ) → k < o → grant_at made k ≡ grant_to c outputs vcs sets k
  pub none_yet : (k : ℕ) → o ≤ k → get_or made k None ≡ None

granted_none : (free : Option ℕ) → None ≡ granted free None
granted_none None = refl
granted_none (Some w) = refl

-- nobody asks at output o: it grants nothing
grant_unasked : (c : Config) (outputs : List OutputVc) (vcs : List (Arbiter 32)) (sets : List ℕ) (o : ℕ) → get_or sets o 0 ≡ 0
    → None ≡ grant_to c outputs vcs sets o
grant_unasked c outputs vcs sets o e =
    let n = c.ports * c.vcs in
    rw (e, no_request_no_winner 32 c.arbiter n (bit 0) (get_or vcs o past_arbiter) (λ i h. bit_zero i))
    (granted_none (lowest_free_vc c outputs o))

-- at the start
pub granting_none : (c : Config) (outputs : List OutputVc) (vcs : List (Arbiter 32)) (sets : List ℕ)
    → Granting c outputs vcs sets (replicate 8 None) 0
granting_none c outputs vcs sets = record { long = refl; so_far = λ k h. absurd (omega arith); none_yet = λ k h. none_at 8 k }
  where
    none_at : (n k : ℕ) → ◌≡◌ {A = Option Granted} (get_or (replicate n None) k None) None
    none_at zero k = refl
    none_at (suc n) zero = refl
    none_at (suc n) (suc k) = none_at n k

module _ (c : Config) (outputs : List OutputVc) (vcs : List (Arbiter 32)) (sets : List ℕ) (made : List (Option Granted)) (o : ℕ)
    (g : Granting c outputs vcs sets made o) where
  -- nobody asks at output o
  pub granting_skip : get_or sets o 0 ≡ 0 → Granting c outputs vcs sets made (o + 1)
  granting_skip e =
      record {
        long = g.long;
        so_far =
            below_more (λ (k : ℕ). grant_at made k ≡ grant_to c outputs vcs sets k) o g.so_far
            (ap (option_map grant_in) (g.none_yet o (omega arith)) ∙ grant_unasked c outputs vcs sets o e);
        none_yet = λ k h. g.none_yet k (omega arith);
      }

  -- one output more
  pub granting_more : (given : Option Granted) → o < 8 → option_map grant_in given ≡ grant_to c outputs vcs sets o
      → Granting c outputs vcs sets (set made o given) (o + 1)
  granting_more given h e =
      record {
        long = length-set made o given ∙ g.long;
        so_far =
            below_more (λ (k : ℕ). grant_at (set made o given) k ≡ grant_to c outputs vcs sets k) o
            (λ k l. ap (option_map grant_in) (get_or-set_other made o k given None (omega arith)) ∙ g.so_far k l)
            (ap (option_map grant_in) (get_or-set_same made o given None (rw g.long h)) ∙ e);
        none_yet = λ k l. get_or-set_other made o k given None (omega arith) ∙ g.none_yet k (omega arith);
      }
