-- Kinds 6 and 7: an Acquire goes up.
use Rattle.std.specs.Prelude.{Bool, false, not, ◌&&◌, ◌||◌, ℕ, eqb}
use Rattle.words.specs.Vocab.{choose}
use Rattle.rules.specs.Codes.{rights_n, rights_b, none, trunk, name_t, idle, ask, wait, no_purpose, to_load, to_store, empty, acquire_b, acquire_t, acquire_u}
use Rattle.rules.specs.Cases.{per_purpose, per_acquire}
use Rattle.rules.specs.Scenes.{◌▷◌, fills_a, empties_a, phase_becomes, purpose_becomes, requester_becomes}
use Rattle.rules.specs.declared.Scene.{Scene}

-- "load: rights N; store: N or B"
unfoldable pub asks_from : ℕ → ℕ → Bool
asks_from pu r = per_purpose record { none = false; load = eqb r rights_n; store = eqb r rights_n || eqb r rights_b; evict = false; outside = false } pu

-- 6 send Acquire | Ask, A empty; load: rights N; store: N or B
unfoldable pub send_acquire_needs : Scene → Bool
send_acquire_needs v = eqb v.node.phase ask && eqb v.link.a empty && asks_from v.node.purpose v.rights

-- "AcquireB for load, AcquireT from N, AcquireU from B"
unfoldable pub acquire_for : ℕ → ℕ → ℕ
acquire_for pu r = per_purpose record { none = empty; load = acquire_b; store = choose (eqb r rights_n) acquire_t acquire_u; evict = empty; outside = empty } pu

-- | AcquireB for load, AcquireT from N, AcquireU from B; Wait
unfoldable pub send_acquire_does : Scene → Scene
send_acquire_does v = v ▷ fills_a (acquire_for v.node.purpose v.rights) ▷ phase_becomes wait

-- "AcquireB/T: child's entry None; AcquireU: not Trunk"
unfoldable pub acquire_fits : ℕ → ℕ → Bool
acquire_fits a e =
    per_acquire record { empty = false; acquire_b = eqb e none; acquire_t = eqb e none; acquire_u = not (eqb e trunk); outside = false } a

-- 7 take Acquire | A full, main and probe idle, sets empty; AcquireB/T: child's entry None; AcquireU: not Trunk
unfoldable pub take_acquire_needs : Scene → Bool
take_acquire_needs v =
    not (eqb v.link.a empty) && eqb v.node.phase idle && not v.node.probe && v.still && acquire_fits v.link.a v.entry

-- "purpose load for B, store for T/U"
unfoldable pub purpose_for : ℕ → ℕ
purpose_for = per_acquire record { empty = no_purpose; acquire_b = to_load; acquire_t = to_store; acquire_u = to_store; outside = no_purpose }

-- | empties A, purpose load for B, store for T/U, requester; to-probe: ..; settle
unfoldable pub take_acquire_does : Scene → ℕ → Scene
take_acquire_does v q = v ▷ empties_a ▷ purpose_becomes (purpose_for v.link.a) ▷ requester_becomes q

-- "load at T: Trunk entries; load otherwise: none; store: all not None but the requester"
unfoldable pub probed_for : ℕ → ℕ → ℕ → ℕ → ℕ → Bool
probed_for pu name q e k =
    per_purpose record { none = false; load = eqb name name_t && eqb e trunk; store = not (eqb e none) && not (eqb k q); evict = false; outside = false } pu
