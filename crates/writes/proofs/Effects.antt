-- What each kind writes, kind by kind: the law of Writes at the rows of the table.
use mathlib.Core.Path.{◌≡◌, refl}
use mathlib.Core.Bool.{Bool, true, false}
use Prim.Native.Nat.{ℕ, ◌<◌}
use Rattle.words.specs.Vocab.{choose}
use Rattle.rules.specs.Codes.{node_limit, rights_n, none, ask, wait, await, confirm, leaving, to_load, to_store, to_evict, no_cap, no_child, empty, grant_ack, release_ack}
use Rattle.rules.specs.Kinds.{kind_load, kind_store, kind_load_miss, kind_store_miss, kind_evict, kind_send_acquire, kind_take_acquire, kind_send_probe, kind_take_probe, kind_send_probe_ack, kind_take_probe_ack, kind_take_grant, kind_send_grant_ack, kind_send_grant, kind_take_grant_ack, kind_send_release, kind_take_release, kind_send_release_ack, kind_take_release_ack}
use Rattle.rules.specs.With.{with_dirty, with_value, with_phase, with_purpose, with_requester, with_probe, with_cap, with_release, with_a, with_b, with_e}
use Rattle.rules.specs.Cells.{rights, entry, to_probe, pending, node, link, value}
use Rattle.rules.specs.Tree.{is_leaf}
use Rattle.rules.specs.Names.{named}
use Rattle.rules.specs.Messages.{granted_rights, entry_for}
use Rattle.rules.specs.Scenes.{scene_of, stored, idled, value_at, dirty_at, data_taken, installed, filled_c, filled_d}
use Rattle.rules.specs.Settle.{settled_phase}
use Rattle.rules.specs.Local.{held, store_does, load_miss_does, store_miss_does, evict_does}
use Rattle.rules.specs.Acquire.{acquire_for, send_acquire_does, purpose_for, probed_for, take_acquire_does}
use Rattle.rules.specs.Probe.{cap_for, send_probe_does, probed_by, take_probe_does, fallen, carried, probe_ack_for, send_probe_ack_does, take_probe_ack_does}
use Rattle.rules.specs.Grant.{take_grant_does, confirmed, send_grant_ack_does, grant_for, grant_value, send_grant_does, take_grant_ack_does}
use Rattle.rules.specs.Release.{release_for, send_release_does, take_release_does, send_release_ack_does, take_release_ack_does}
use Rattle.rules.specs.Table.{numbered, kind_of}
use Rattle.rules.specs.Step.{settled_node, done_by}
use Rattle.rules.specs.declared.State.{State}
use Rattle.rules.specs.declared.Node.{Node}
use Rattle.rules.specs.declared.Scene.{Scene}
use Rattle.rules.specs.declared.Event.{Event}
use Rattle.writes.proofs.Seen.{dirty, purpose, probing, cap, slot_a, slot_b, slot_d, down, kept}
use Rattle.writes.proofs.Writes.{Sized, Writes, with_at, no_members, probed_row, settled_by, effect_writes, with_same}

-- the configuration after the kind n, which acts on the link of j
abbrev pub after : ℕ → State → Event → ℕ → State
after n s e j = done_by (kind_of n) s e j (scene_of s e.node j)

-- the fields of a node that has sent its ProbeAck and keeps the rights r, and of one that has sent its Release
abbrev pub acked : ℕ → Node → Node
acked r m = with_cap (with_probe (with_dirty (with_value m (value_at r m.value)) false) false) no_cap

abbrev pub left : Node → Node
left m = with_phase (with_dirty (with_value m 0) false) leaving

-- what t is after the kind, by the event e at x

-- 1
abbrev pub LoadWrites : State → Event → ℕ → State → Type 0
LoadWrites s e x t = Writes s t x x (rights s x) (node s x) (link s x) (entry s x) (to_probe s x) (pending s x)

-- 2
abbrev pub StoreWrites : State → Event → ℕ → State → Type 0
StoreWrites s e x t = Writes s t x x (rights s x) (stored e.value (node s x)) (link s x) (entry s x) (to_probe s x) (pending s x)

-- 3
abbrev pub LoadMissWrites : State → Event → ℕ → State → Type 0
LoadMissWrites s e x t = Writes s t x x (rights s x) (with_purpose (with_phase (node s x) ask) to_load) (link s x) (entry s x) (to_probe s x) (pending s x)

-- 4
abbrev pub StoreMissWrites : State → Event → ℕ → State → Type 0
StoreMissWrites s e x t = Writes s t x x (rights s x) (with_purpose (with_phase (node s x) ask) to_store) (link s x) (entry s x) (to_probe s x) (pending s x)

-- 5
abbrev pub EvictWrites : State → Event → ℕ → State → Type 0
EvictWrites s e x t = Writes s t x x (rights s x) (settled_by true (λ k. held (entry s x k)) (pending s x) (rights s x) (with_purpose (node s x) to_evict)) (link s x) (entry s x) (λ k. held (entry s x k)) (pending s x)

-- 6
abbrev pub SendAcquireWrites : State → Event → ℕ → State → Type 0
SendAcquireWrites s e x t = Writes s t x x (rights s x) (with_phase (node s x) wait) (with_a (link s x) (acquire_for (purpose s x) (rights s x))) (entry s x) (to_probe s x) (pending s x)

-- 9
abbrev pub TakeProbeWrites : State → Event → ℕ → State → Type 0
TakeProbeWrites s e x t = Writes s t x x (rights s x) (with_cap (with_probe (node s x) true) (slot_b s x)) (with_b (link s x) empty) (entry s x) (λ k. probed_by (slot_b s x) (entry s x k)) (pending s x)

-- 10
abbrev pub SendProbeAckWrites : State → Event → ℕ → State → Type 0
SendProbeAckWrites s e x t = Writes s t x x (fallen (cap s x) (rights s x)) (acked (fallen (cap s x) (rights s x)) (node s x)) (filled_c (probe_ack_for (dirty s x)) (fallen (cap s x) (rights s x)) (carried (dirty s x) (value s x)) (link s x)) (entry s x) (to_probe s x) (pending s x)

-- 12
abbrev pub TakeGrantWrites : State → Event → ℕ → State → Type 0
TakeGrantWrites s e x t = Writes s t x x (granted_rights (slot_d s x)) (with_phase (with_dirty (with_value (node s x) (installed (slot_d s x) (down s x) (value s x))) false) confirm) (filled_d empty 0 (link s x)) (entry s x) (to_probe s x) (pending s x)

-- 13
abbrev pub SendGrantAckWrites : State → Event → ℕ → State → Type 0
SendGrantAckWrites s e x t = Writes s t x x (rights s x) (confirmed (is_leaf s x) (node s x)) (with_e (link s x) grant_ack) (entry s x) (to_probe s x) (pending s x)

-- 16
abbrev pub SendReleaseWrites : State → Event → ℕ → State → Type 0
SendReleaseWrites s e x t = Writes s t x x rights_n (left (node s x)) (filled_c (release_for (dirty s x)) 0 (carried (dirty s x) (value s x)) (link s x)) (entry s x) (to_probe s x) (pending s x)

-- 19
abbrev pub TakeReleaseAckWrites : State → Event → ℕ → State → Type 0
TakeReleaseAckWrites s e x t = Writes s t x x (rights s x) (idled (node s x)) (filled_d empty 0 (link s x)) (entry s x) (to_probe s x) (pending s x)

-- 7, on the link of k
abbrev pub TakeAcquireWrites : State → Event → ℕ → ℕ → State → Type 0
TakeAcquireWrites s e x k t =
    Writes s t x k (rights s x) (settled_by true (λ j. probed_for (purpose_for (slot_a s k)) (named s x) e.other (entry s x j) j) (pending s x) (rights s x) (with_requester (with_purpose (node s x) (purpose_for (slot_a s k))) e.other))
    (with_a (link s k) empty) (entry s x) (λ j. probed_for (purpose_for (slot_a s k)) (named s x) e.other (entry s x j) j) (pending s x)

-- 8, on the link of k
abbrev pub SendProbeWrites : State → Event → ℕ → ℕ → State → Type 0
SendProbeWrites s e x k t =
    Writes s t x k (rights s x) (node s x)
    (with_b (link s k) (cap_for (probing s x) (cap s x) (purpose s x))) (entry s x) (with_at (to_probe s x) k false) (with_at (pending s x) k true)

-- 11, on the link of k
abbrev pub TakeProbeAckWrites : State → Event → ℕ → ℕ → State → Type 0
TakeProbeAckWrites s e x k t =
    Writes s t x k (rights s x) (settled_by false (to_probe s x) (with_at (pending s x) k false) (rights s x) (data_taken (link s k) (node s x)))
    (filled_c empty 0 0 (link s k)) (with_at (entry s x) k (kept s k)) (to_probe s x) (with_at (pending s x) k false)

-- 14, on the link of k
abbrev pub SendGrantWrites : State → Event → ℕ → ℕ → State → Type 0
SendGrantWrites s e x k t =
    Writes s t x k (rights s x) (with_phase (node s x) await)
    (filled_d (grant_for (purpose s x) e.other (entry s x k)) (grant_value (grant_for (purpose s x) e.other (entry s x k)) (value s x)) (link s k)) (with_at (entry s x) k (entry_for (grant_for (purpose s x) e.other (entry s x k)))) (to_probe s x) (pending s x)

-- 15, on the link of k
abbrev pub TakeGrantAckWrites : State → Event → ℕ → ℕ → State → Type 0
TakeGrantAckWrites s e x k t =
    Writes s t x k (rights s x) (idled (node s x))
    (with_e (link s k) empty) (entry s x) (to_probe s x) (pending s x)

-- 17, on the link of k
abbrev pub TakeReleaseWrites : State → Event → ℕ → ℕ → State → Type 0
TakeReleaseWrites s e x k t =
    Writes s t x k (rights s x) (settled_by false (with_at (to_probe s x) k false) (pending s x) (rights s x) (with_release (data_taken (link s k) (node s x)) e.other))
    (filled_c empty 0 0 (link s k)) (with_at (entry s x) k none) (with_at (to_probe s x) k false) (pending s x)

-- 18, on the link of k
abbrev pub SendReleaseAckWrites : State → Event → ℕ → ℕ → State → Type 0
SendReleaseAckWrites s e x k t =
    Writes s t x k (rights s x) (with_release (node s x) no_child)
    (filled_d release_ack 0 (link s k)) (entry s x) (to_probe s x) (pending s x)

module _ (s : State) (z : Sized s) (e : Event) (hx : e.node < node_limit) where
  same_entries : (k i : ℕ) → i < node_limit → with_at (entry s e.node) k (entry s e.node k) i ≡ entry s e.node i
  same_entries k i _ = with_same (entry s e.node) k i

  same_listed : (k i : ℕ) → i < node_limit → with_at (to_probe s e.node) k (to_probe s e.node k) i ≡ to_probe s e.node i
  same_listed k i _ = with_same (to_probe s e.node) k i

  same_pending : (k i : ℕ) → i < node_limit → with_at (pending s e.node) k (pending s e.node k) i ≡ pending s e.node i
  same_pending k i _ = with_same (pending s e.node) k i

  -- the law at this node and on the link of j, for the kind with the number n
  abbrev effect : ℕ → ℕ → Scene
  effect n j = (kind_of n).does (scene_of s e.node j) e

  writes_at : (j : ℕ) → j < node_limit → (n : ℕ) {es : ℕ → ℕ} {ws ps : ℕ → Bool}
      → ((i : ℕ) → i < node_limit → with_at (entry s e.node) j (effect n j).entry i ≡ es i)
      → ((i : ℕ) → i < node_limit → probed_row (kind_of n).row.probes s e.node j (scene_of s e.node j) e.other (effect n j).to_probe i ≡ ws i)
      → ((i : ℕ) → i < node_limit → with_at (pending s e.node) j (effect n j).pending i ≡ ps i)
      → Writes s (after n s e j) e.node j (effect n j).rights (settled_node (kind_of n).row.settles (no_members ws ps) (effect n j).node (effect n j).rights) (effect n j).link es ws ps
  writes_at j hj n f g h = effect_writes s z e.node hx j hj (kind_of n) e (scene_of s e.node j) (effect n j) f g h

  -- 1
  pub load_writes : LoadWrites s e e.node (after kind_load s e e.node)
  unfolding numbered choose settled_phase
  load_writes = writes_at e.node hx kind_load (same_entries e.node) (same_listed e.node) (same_pending e.node)

  -- 2
  pub store_writes : StoreWrites s e e.node (after kind_store s e e.node)
  unfolding numbered choose store_does settled_phase
  store_writes = writes_at e.node hx kind_store (same_entries e.node) (same_listed e.node) (same_pending e.node)

  -- 3
  pub load_miss_writes : LoadMissWrites s e e.node (after kind_load_miss s e e.node)
  unfolding numbered choose load_miss_does settled_phase
  load_miss_writes = writes_at e.node hx kind_load_miss (same_entries e.node) (same_listed e.node) (same_pending e.node)

  -- 4
  pub store_miss_writes : StoreMissWrites s e e.node (after kind_store_miss s e e.node)
  unfolding numbered choose store_miss_does settled_phase
  store_miss_writes = writes_at e.node hx kind_store_miss (same_entries e.node) (same_listed e.node) (same_pending e.node)

  -- 5
  pub evict_writes : EvictWrites s e e.node (after kind_evict s e e.node)
  unfolding numbered choose evict_does settled_phase
  evict_writes = writes_at e.node hx kind_evict (same_entries e.node) (λ i _. refl) (same_pending e.node)

  -- 6
  pub send_acquire_writes : SendAcquireWrites s e e.node (after kind_send_acquire s e e.node)
  unfolding numbered choose send_acquire_does settled_phase
  send_acquire_writes = writes_at e.node hx kind_send_acquire (same_entries e.node) (same_listed e.node) (same_pending e.node)

  -- 9
  pub take_probe_writes : TakeProbeWrites s e e.node (after kind_take_probe s e e.node)
  unfolding numbered choose take_probe_does settled_phase
  take_probe_writes = writes_at e.node hx kind_take_probe (same_entries e.node) (λ i _. refl) (same_pending e.node)

  -- 10
  pub send_probe_ack_writes : SendProbeAckWrites s e e.node (after kind_send_probe_ack s e e.node)
  unfolding numbered choose send_probe_ack_does settled_phase
  send_probe_ack_writes = writes_at e.node hx kind_send_probe_ack (same_entries e.node) (same_listed e.node) (same_pending e.node)

  -- 12
  pub take_grant_writes : TakeGrantWrites s e e.node (after kind_take_grant s e e.node)
  unfolding numbered choose take_grant_does settled_phase
  take_grant_writes = writes_at e.node hx kind_take_grant (same_entries e.node) (same_listed e.node) (same_pending e.node)

  -- 13
  pub send_grant_ack_writes : SendGrantAckWrites s e e.node (after kind_send_grant_ack s e e.node)
  unfolding numbered choose send_grant_ack_does settled_phase
  send_grant_ack_writes = writes_at e.node hx kind_send_grant_ack (same_entries e.node) (same_listed e.node) (same_pending e.node)

  -- 16
  pub send_release_writes : SendReleaseWrites s e e.node (after kind_send_release s e e.node)
  unfolding numbered choose send_release_does settled_phase value_at dirty_at
  send_release_writes = writes_at e.node hx kind_send_release (same_entries e.node) (same_listed e.node) (same_pending e.node)

  -- 19
  pub take_release_ack_writes : TakeReleaseAckWrites s e e.node (after kind_take_release_ack s e e.node)
  unfolding numbered choose take_release_ack_does settled_phase
  take_release_ack_writes = writes_at e.node hx kind_take_release_ack (same_entries e.node) (same_listed e.node) (same_pending e.node)

  -- on the link of a child
  module _ (k : ℕ) (hk : k < node_limit) where
    -- 7
    pub take_acquire_writes : TakeAcquireWrites s e e.node k (after kind_take_acquire s e k)
    unfolding numbered choose take_acquire_does settled_phase
    take_acquire_writes = writes_at k hk kind_take_acquire (same_entries k) (λ i _. refl) (same_pending k)

    -- 8
    pub send_probe_writes : SendProbeWrites s e e.node k (after kind_send_probe s e k)
    unfolding numbered choose send_probe_does settled_phase
    send_probe_writes = writes_at k hk kind_send_probe (same_entries k) (λ i _. refl) (λ i _. refl)

    -- 11
    pub take_probe_ack_writes : TakeProbeAckWrites s e e.node k (after kind_take_probe_ack s e k)
    unfolding numbered choose take_probe_ack_does settled_phase
    take_probe_ack_writes = writes_at k hk kind_take_probe_ack (λ i _. refl) (same_listed k) (λ i _. refl)

    -- 14
    pub send_grant_writes : SendGrantWrites s e e.node k (after kind_send_grant s e k)
    unfolding numbered choose send_grant_does settled_phase
    send_grant_writes = writes_at k hk kind_send_grant (λ i _. refl) (same_listed k) (same_pending k)

    -- 15
    pub take_grant_ack_writes : TakeGrantAckWrites s e e.node k (after kind_take_grant_ack s e k)
    unfolding numbered choose take_grant_ack_does settled_phase
    take_grant_ack_writes = writes_at k hk kind_take_grant_ack (same_entries k) (same_listed k) (same_pending k)

    -- 17
    pub take_release_writes : TakeReleaseWrites s e e.node k (after kind_take_release s e k)
    unfolding numbered choose take_release_does settled_phase
    take_release_writes = writes_at k hk kind_take_release (λ i _. refl) (λ i _. refl) (same_pending k)

    -- 18
    pub send_release_ack_writes : SendReleaseAckWrites s e e.node k (after kind_send_release_ack s e k)
    unfolding numbered choose send_release_ack_does settled_phase
    send_release_ack_writes = writes_at k hk kind_send_release_ack (same_entries k) (same_listed k) (same_pending k)
