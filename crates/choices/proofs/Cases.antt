-- Printed by tools/print from crates/rules/specs/Codes.antt: how an arm of a match on a code meets a definition by cases on that code.
use mathlib.Core.Path.{◌≡◌}
use Prim.Native.Nat.{ℕ, zero, suc}
use borrow.Author.Tests.{ne_eqb}
use Rattle.words.specs.Vocab.{choose}
use Rattle.words.proofs.Meeting.{steps}
use Rattle.rules.specs.Codes.{idle, clear, ask, wait, confirm, give, await, let_go, leaving, phases, no_purpose, to_load, to_store, to_evict, purposes, no_cap, cap_b, cap_n, caps, empty, acquire_b, acquire_t, acquire_u, acquires, probe_ack, probe_ack_data, release, release_data, ups, grant_t, grant_data_t, grant_data_b, release_ack, downs}
use Rattle.rules.specs.Cases.{PerPhase, per_phase, PerPurpose, per_purpose, PerCap, per_cap, PerAcquire, per_acquire, PerUp, per_up, PerDown, per_down}

-- what a match's `_` knows after arms with the keys below n
abbrev pub Off : ℕ → ℕ → Type 0
Off k zero = Unit {0}
Off k (suc n) = Off k n × (k ≡ n → ⊥)

module _ {A : Type 0} where
  pub phase_idle : (c : PerPhase A) (ph : ℕ) (x : A) → ph ≡ idle → x ≡ c.idle → x ≡ per_phase c ph
  unfolding choose
  phase_idle c ph x e h = rw e h

  pub phase_clear : (c : PerPhase A) (ph : ℕ) (x : A) → ph ≡ clear → x ≡ c.clear → x ≡ per_phase c ph
  unfolding choose
  phase_clear c ph x e h = rw e h

  pub phase_ask : (c : PerPhase A) (ph : ℕ) (x : A) → ph ≡ ask → x ≡ c.ask → x ≡ per_phase c ph
  unfolding choose
  phase_ask c ph x e h = rw e h

  pub phase_wait : (c : PerPhase A) (ph : ℕ) (x : A) → ph ≡ wait → x ≡ c.wait → x ≡ per_phase c ph
  unfolding choose
  phase_wait c ph x e h = rw e h

  pub phase_confirm : (c : PerPhase A) (ph : ℕ) (x : A) → ph ≡ confirm → x ≡ c.confirm → x ≡ per_phase c ph
  unfolding choose
  phase_confirm c ph x e h = rw e h

  pub phase_give : (c : PerPhase A) (ph : ℕ) (x : A) → ph ≡ give → x ≡ c.give → x ≡ per_phase c ph
  unfolding choose
  phase_give c ph x e h = rw e h

  pub phase_await : (c : PerPhase A) (ph : ℕ) (x : A) → ph ≡ await → x ≡ c.await → x ≡ per_phase c ph
  unfolding choose
  phase_await c ph x e h = rw e h

  pub phase_let_go : (c : PerPhase A) (ph : ℕ) (x : A) → ph ≡ let_go → x ≡ c.let_go → x ≡ per_phase c ph
  unfolding choose
  phase_let_go c ph x e h = rw e h

  pub phase_leaving : (c : PerPhase A) (ph : ℕ) (x : A) → ph ≡ leaving → x ≡ c.leaving → x ≡ per_phase c ph
  unfolding choose
  phase_leaving c ph x e h = rw e h

  pub phase_outside : (c : PerPhase A) (ph : ℕ) (x : A) → Off ph phases → x ≡ c.outside → x ≡ per_phase c ph
  unfolding choose
  phase_outside c ph x r h = rw (ne_eqb ph idle r.0.0.0.0.0.0.0.0.1, ne_eqb ph clear r.0.0.0.0.0.0.0.1, ne_eqb ph ask r.0.0.0.0.0.0.1, ne_eqb ph wait r.0.0.0.0.0.1, ne_eqb ph confirm r.0.0.0.0.1, ne_eqb ph give r.0.0.0.1, ne_eqb ph await r.0.0.1, ne_eqb ph let_go r.0.1, ne_eqb ph leaving r.1) h

  pub purpose_none : (c : PerPurpose A) (pu : ℕ) (x : A) → pu ≡ no_purpose → x ≡ c.none → x ≡ per_purpose c pu
  unfolding choose
  purpose_none c pu x e h = rw e h

  pub purpose_load : (c : PerPurpose A) (pu : ℕ) (x : A) → pu ≡ to_load → x ≡ c.load → x ≡ per_purpose c pu
  unfolding choose
  purpose_load c pu x e h = rw e h

  pub purpose_store : (c : PerPurpose A) (pu : ℕ) (x : A) → pu ≡ to_store → x ≡ c.store → x ≡ per_purpose c pu
  unfolding choose
  purpose_store c pu x e h = rw e h

  pub purpose_evict : (c : PerPurpose A) (pu : ℕ) (x : A) → pu ≡ to_evict → x ≡ c.evict → x ≡ per_purpose c pu
  unfolding choose
  purpose_evict c pu x e h = rw e h

  pub purpose_outside : (c : PerPurpose A) (pu : ℕ) (x : A) → Off pu purposes → x ≡ c.outside → x ≡ per_purpose c pu
  unfolding choose
  purpose_outside c pu x r h = rw (ne_eqb pu no_purpose r.0.0.0.1, ne_eqb pu to_load r.0.0.1, ne_eqb pu to_store r.0.1, ne_eqb pu to_evict r.1) h

  pub cap_none : (c : PerCap A) (p : ℕ) (x : A) → p ≡ no_cap → x ≡ c.none → x ≡ per_cap c p
  unfolding choose
  cap_none c p x e h = rw e h

  pub cap_cap_b : (c : PerCap A) (p : ℕ) (x : A) → p ≡ cap_b → x ≡ c.cap_b → x ≡ per_cap c p
  unfolding choose
  cap_cap_b c p x e h = rw e h

  pub cap_cap_n : (c : PerCap A) (p : ℕ) (x : A) → p ≡ cap_n → x ≡ c.cap_n → x ≡ per_cap c p
  unfolding choose
  cap_cap_n c p x e h = rw e h

  pub cap_outside : (c : PerCap A) (p : ℕ) (x : A) → Off p caps → x ≡ c.outside → x ≡ per_cap c p
  unfolding choose
  cap_outside c p x r h = rw (ne_eqb p no_cap r.0.0.1, ne_eqb p cap_b r.0.1, ne_eqb p cap_n r.1) h

  pub acquire_empty : (c : PerAcquire A) (a : ℕ) (x : A) → a ≡ empty → x ≡ c.empty → x ≡ per_acquire c a
  unfolding choose
  acquire_empty c a x e h = rw e h

  pub acquire_acquire_b : (c : PerAcquire A) (a : ℕ) (x : A) → a ≡ acquire_b → x ≡ c.acquire_b → x ≡ per_acquire c a
  unfolding choose
  acquire_acquire_b c a x e h = rw e h

  pub acquire_acquire_t : (c : PerAcquire A) (a : ℕ) (x : A) → a ≡ acquire_t → x ≡ c.acquire_t → x ≡ per_acquire c a
  unfolding choose
  acquire_acquire_t c a x e h = rw e h

  pub acquire_acquire_u : (c : PerAcquire A) (a : ℕ) (x : A) → a ≡ acquire_u → x ≡ c.acquire_u → x ≡ per_acquire c a
  unfolding choose
  acquire_acquire_u c a x e h = rw e h

  pub acquire_outside : (c : PerAcquire A) (a : ℕ) (x : A) → Off a acquires → x ≡ c.outside → x ≡ per_acquire c a
  unfolding choose
  acquire_outside c a x r h = rw (ne_eqb a empty r.0.0.0.1, ne_eqb a acquire_b r.0.0.1, ne_eqb a acquire_t r.0.1, ne_eqb a acquire_u r.1) h

  pub up_empty : (c : PerUp A) (u : ℕ) (x : A) → u ≡ empty → x ≡ c.empty → x ≡ per_up c u
  unfolding choose
  up_empty c u x e h = rw e h

  pub up_probe_ack : (c : PerUp A) (u : ℕ) (x : A) → u ≡ probe_ack → x ≡ c.probe_ack → x ≡ per_up c u
  unfolding choose
  up_probe_ack c u x e h = rw e h

  pub up_probe_ack_data : (c : PerUp A) (u : ℕ) (x : A) → u ≡ probe_ack_data → x ≡ c.probe_ack_data → x ≡ per_up c u
  unfolding choose
  up_probe_ack_data c u x e h = rw e h

  pub up_release : (c : PerUp A) (u : ℕ) (x : A) → u ≡ release → x ≡ c.release → x ≡ per_up c u
  unfolding choose
  up_release c u x e h = rw e h

  pub up_release_data : (c : PerUp A) (u : ℕ) (x : A) → u ≡ release_data → x ≡ c.release_data → x ≡ per_up c u
  unfolding choose
  up_release_data c u x e h = rw e h

  pub up_outside : (c : PerUp A) (u : ℕ) (x : A) → Off u ups → x ≡ c.outside → x ≡ per_up c u
  unfolding choose
  up_outside c u x r h = rw (ne_eqb u empty r.0.0.0.0.1, ne_eqb u probe_ack r.0.0.0.1, ne_eqb u probe_ack_data r.0.0.1, ne_eqb u release r.0.1, ne_eqb u release_data r.1) h

  pub down_empty : (c : PerDown A) (d : ℕ) (x : A) → d ≡ empty → x ≡ c.empty → x ≡ per_down c d
  unfolding choose
  down_empty c d x e h = rw e h

  pub down_grant_t : (c : PerDown A) (d : ℕ) (x : A) → d ≡ grant_t → x ≡ c.grant_t → x ≡ per_down c d
  unfolding choose
  down_grant_t c d x e h = rw e h

  pub down_grant_data_t : (c : PerDown A) (d : ℕ) (x : A) → d ≡ grant_data_t → x ≡ c.grant_data_t → x ≡ per_down c d
  unfolding choose
  down_grant_data_t c d x e h = rw e h

  pub down_grant_data_b : (c : PerDown A) (d : ℕ) (x : A) → d ≡ grant_data_b → x ≡ c.grant_data_b → x ≡ per_down c d
  unfolding choose
  down_grant_data_b c d x e h = rw e h

  pub down_release_ack : (c : PerDown A) (d : ℕ) (x : A) → d ≡ release_ack → x ≡ c.release_ack → x ≡ per_down c d
  unfolding choose
  down_release_ack c d x e h = rw e h

  pub down_outside : (c : PerDown A) (d : ℕ) (x : A) → Off d downs → x ≡ c.outside → x ≡ per_down c d
  unfolding choose
  down_outside c d x r h = rw (ne_eqb d empty r.0.0.0.0.1, ne_eqb d grant_t r.0.0.0.1, ne_eqb d grant_data_t r.0.0.1, ne_eqb d grant_data_b r.0.1, ne_eqb d release_ack r.1) h

pub ruleset cases = (phase_idle, phase_clear, phase_ask, phase_wait, phase_confirm, phase_give, phase_await, phase_let_go, phase_leaving, phase_outside, purpose_none, purpose_load, purpose_store, purpose_evict, purpose_outside, cap_none, cap_cap_b, cap_cap_n, cap_outside, acquire_empty, acquire_acquire_b, acquire_acquire_t, acquire_acquire_u, acquire_outside, up_empty, up_probe_ack, up_probe_ack_data, up_release, up_release_data, up_outside, down_empty, down_grant_t, down_grant_data_t, down_grant_data_b, down_release_ack, down_outside, steps)
