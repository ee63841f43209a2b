-- Printed by tools/print from crates/rules/specs/Codes.antt: one case for each code of a list, and `outside` for a code outside it. A new
-- code is a new field here, and antt then names every definition that has no case for it.
use Rattle.std.specs.Prelude.{ℕ, eqb}
use Rattle.words.specs.Vocab.{choose}
use Rattle.rules.specs.Codes.{idle, clear, ask, wait, confirm, give, await, let_go, leaving, no_purpose, to_load, to_store, to_evict, no_cap, cap_b, cap_n, empty, acquire_b, acquire_t, acquire_u, probe_ack, probe_ack_data, release, release_data, grant_t, grant_data_t, grant_data_b, release_ack}

pub record PerPhase (A : Type 0) : Type 0 where
  pub idle : A
  pub clear : A
  pub ask : A
  pub wait : A
  pub confirm : A
  pub give : A
  pub await : A
  pub let_go : A
  pub leaving : A
  pub outside : A

pub record PerPurpose (A : Type 0) : Type 0 where
  pub none : A
  pub load : A
  pub store : A
  pub evict : A
  pub outside : A

-- of an open probe, and of a Probe in slot B, which has the code of its cap
pub record PerCap (A : Type 0) : Type 0 where
  pub none : A
  pub cap_b : A
  pub cap_n : A
  pub outside : A

-- of slot A
pub record PerAcquire (A : Type 0) : Type 0 where
  pub empty : A
  pub acquire_b : A
  pub acquire_t : A
  pub acquire_u : A
  pub outside : A

-- of slot C
pub record PerUp (A : Type 0) : Type 0 where
  pub empty : A
  pub probe_ack : A
  pub probe_ack_data : A
  pub release : A
  pub release_data : A
  pub outside : A

-- of slot D
pub record PerDown (A : Type 0) : Type 0 where
  pub empty : A
  pub grant_t : A
  pub grant_data_t : A
  pub grant_data_b : A
  pub release_ack : A
  pub outside : A

module _ {A : Type 0} where
  abbrev pub per_phase : PerPhase A → ℕ → A
  per_phase c ph =
      choose (eqb ph idle) c.idle
      (choose (eqb ph clear) c.clear
      (choose (eqb ph ask) c.ask
      (choose (eqb ph wait) c.wait
      (choose (eqb ph confirm) c.confirm
      (choose (eqb ph give) c.give
      (choose (eqb ph await) c.await
      (choose (eqb ph let_go) c.let_go
      (choose (eqb ph leaving) c.leaving c.outside))))))))

  abbrev pub per_purpose : PerPurpose A → ℕ → A
  per_purpose c pu =
      choose (eqb pu no_purpose) c.none
      (choose (eqb pu to_load) c.load
      (choose (eqb pu to_store) c.store
      (choose (eqb pu to_evict) c.evict c.outside)))

  abbrev pub per_cap : PerCap A → ℕ → A
  per_cap c p = choose (eqb p no_cap) c.none (choose (eqb p cap_b) c.cap_b (choose (eqb p cap_n) c.cap_n c.outside))

  abbrev pub per_acquire : PerAcquire A → ℕ → A
  per_acquire c a =
      choose (eqb a empty) c.empty
      (choose (eqb a acquire_b) c.acquire_b
      (choose (eqb a acquire_t) c.acquire_t
      (choose (eqb a acquire_u) c.acquire_u c.outside)))

  abbrev pub per_up : PerUp A → ℕ → A
  per_up c u =
      choose (eqb u empty) c.empty
      (choose (eqb u probe_ack) c.probe_ack
      (choose (eqb u probe_ack_data) c.probe_ack_data
      (choose (eqb u release) c.release
      (choose (eqb u release_data) c.release_data c.outside))))

  abbrev pub per_down : PerDown A → ℕ → A
  per_down c d =
      choose (eqb d empty) c.empty
      (choose (eqb d grant_t) c.grant_t
      (choose (eqb d grant_data_t) c.grant_data_t
      (choose (eqb d grant_data_b) c.grant_data_b
      (choose (eqb d release_ack) c.release_ack c.outside))))
