-- Printed by tools/print from crates/rules/specs/Codes.antt: a definition by cases on a code, taken case by case.
use mathlib.Core.Path.{◌≡◌}
use Prim.Native.Nat.{ℕ}
use borrow.Author.Tests.{eqb-true}
use lib.Dec.{eqb}
use Rattle.words.proofs.Facts.{by_test}
use Rattle.rules.specs.Codes.{idle, clear, ask, wait, confirm, give, await, let_go, leaving, no_purpose, to_load, to_store, to_evict, no_cap, cap_b, cap_n, empty, acquire_b, acquire_t, acquire_u, probe_ack, probe_ack_data, release, release_data, grant_t, grant_data_t, grant_data_b, release_ack}
use Rattle.rules.specs.Cases.{PerPhase, per_phase, PerPurpose, per_purpose, PerCap, per_cap, PerAcquire, per_acquire, PerUp, per_up, PerDown, per_down}

module _ {A : Type 0} (P : A → Type 0) where
  pub by_phase : (c : PerPhase A) (ph : ℕ) → (ph ≡ idle → P c.idle) → (ph ≡ clear → P c.clear) → (ph ≡ ask → P c.ask) → (ph ≡ wait → P c.wait) → (ph ≡ confirm → P c.confirm) → (ph ≡ give → P c.give) → (ph ≡ await → P c.await) → (ph ≡ let_go → P c.let_go) → (ph ≡ leaving → P c.leaving) → P c.outside → P (per_phase c ph)
  by_phase c ph h0 h1 h2 h3 h4 h5 h6 h7 h8 o =
      by_test P (eqb ph idle) _ _ (λ e. h0 (eqb-true ph idle e)) λ _.
      by_test P (eqb ph clear) _ _ (λ e. h1 (eqb-true ph clear e)) λ _.
      by_test P (eqb ph ask) _ _ (λ e. h2 (eqb-true ph ask e)) λ _.
      by_test P (eqb ph wait) _ _ (λ e. h3 (eqb-true ph wait e)) λ _.
      by_test P (eqb ph confirm) _ _ (λ e. h4 (eqb-true ph confirm e)) λ _.
      by_test P (eqb ph give) _ _ (λ e. h5 (eqb-true ph give e)) λ _.
      by_test P (eqb ph await) _ _ (λ e. h6 (eqb-true ph await e)) λ _.
      by_test P (eqb ph let_go) _ _ (λ e. h7 (eqb-true ph let_go e)) λ _.
      by_test P (eqb ph leaving) _ _ (λ e. h8 (eqb-true ph leaving e)) λ _.
      o

  pub by_purpose : (c : PerPurpose A) (pu : ℕ) → (pu ≡ no_purpose → P c.none) → (pu ≡ to_load → P c.load) → (pu ≡ to_store → P c.store) → (pu ≡ to_evict → P c.evict) → P c.outside → P (per_purpose c pu)
  by_purpose c pu h0 h1 h2 h3 o =
      by_test P (eqb pu no_purpose) _ _ (λ e. h0 (eqb-true pu no_purpose e)) λ _.
      by_test P (eqb pu to_load) _ _ (λ e. h1 (eqb-true pu to_load e)) λ _.
      by_test P (eqb pu to_store) _ _ (λ e. h2 (eqb-true pu to_store e)) λ _.
      by_test P (eqb pu to_evict) _ _ (λ e. h3 (eqb-true pu to_evict e)) λ _.
      o

  pub by_cap : (c : PerCap A) (p : ℕ) → (p ≡ no_cap → P c.none) → (p ≡ cap_b → P c.cap_b) → (p ≡ cap_n → P c.cap_n) → P c.outside → P (per_cap c p)
  by_cap c p h0 h1 h2 o =
      by_test P (eqb p no_cap) _ _ (λ e. h0 (eqb-true p no_cap e)) λ _.
      by_test P (eqb p cap_b) _ _ (λ e. h1 (eqb-true p cap_b e)) λ _.
      by_test P (eqb p cap_n) _ _ (λ e. h2 (eqb-true p cap_n e)) λ _.
      o

  pub by_acquire : (c : PerAcquire A) (a : ℕ) → (a ≡ empty → P c.empty) → (a ≡ acquire_b → P c.acquire_b) → (a ≡ acquire_t → P c.acquire_t) → (a ≡ acquire_u → P c.acquire_u) → P c.outside → P (per_acquire c a)
  by_acquire c a h0 h1 h2 h3 o =
      by_test P (eqb a empty) _ _ (λ e. h0 (eqb-true a empty e)) λ _.
      by_test P (eqb a acquire_b) _ _ (λ e. h1 (eqb-true a acquire_b e)) λ _.
      by_test P (eqb a acquire_t) _ _ (λ e. h2 (eqb-true a acquire_t e)) λ _.
      by_test P (eqb a acquire_u) _ _ (λ e. h3 (eqb-true a acquire_u e)) λ _.
      o

  pub by_up : (c : PerUp A) (u : ℕ) → (u ≡ empty → P c.empty) → (u ≡ probe_ack → P c.probe_ack) → (u ≡ probe_ack_data → P c.probe_ack_data) → (u ≡ release → P c.release) → (u ≡ release_data → P c.release_data) → P c.outside → P (per_up c u)
  by_up c u h0 h1 h2 h3 h4 o =
      by_test P (eqb u empty) _ _ (λ e. h0 (eqb-true u empty e)) λ _.
      by_test P (eqb u probe_ack) _ _ (λ e. h1 (eqb-true u probe_ack e)) λ _.
      by_test P (eqb u probe_ack_data) _ _ (λ e. h2 (eqb-true u probe_ack_data e)) λ _.
      by_test P (eqb u release) _ _ (λ e. h3 (eqb-true u release e)) λ _.
      by_test P (eqb u release_data) _ _ (λ e. h4 (eqb-true u release_data e)) λ _.
      o

  pub by_down : (c : PerDown A) (d : ℕ) → (d ≡ empty → P c.empty) → (d ≡ grant_t → P c.grant_t) → (d ≡ grant_data_t → P c.grant_data_t) → (d ≡ grant_data_b → P c.grant_data_b) → (d ≡ release_ack → P c.release_ack) → P c.outside → P (per_down c d)
  by_down c d h0 h1 h2 h3 h4 o =
      by_test P (eqb d empty) _ _ (λ e. h0 (eqb-true d empty e)) λ _.
      by_test P (eqb d grant_t) _ _ (λ e. h1 (eqb-true d grant_t e)) λ _.
      by_test P (eqb d grant_data_t) _ _ (λ e. h2 (eqb-true d grant_data_t e)) λ _.
      by_test P (eqb d grant_data_b) _ _ (λ e. h3 (eqb-true d grant_data_b e)) λ _.
      by_test P (eqb d release_ack) _ _ (λ e. h4 (eqb-true d release_ack e)) λ _.
      o
