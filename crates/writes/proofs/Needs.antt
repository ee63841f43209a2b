-- What each kind's needs say, once they hold.
use mathlib.Core.Path.{◌≡◌}
use mathlib.Core.Bool.{Bool, true, false, not, ◌&&◌, ◌||◌}
use mathlib.Core.Logic.{◌≢◌, ◌⊎◌, inl, inr}
use mathlib.Core.List.{List}
use Prim.Native.Nat.{ℕ, ◌<◌, ◌≤◌}
use lib.ListN.{get_or}
use lib.Dec.{eqb, ltb}
use borrow.Author.Tests.{eqb-true, eqb-false, leb-true, ltb-true, not-true}
use Rattle.words.proofs.Facts.{both, either, all_at, any_off}
use Rattle.rules.specs.Codes.{node_limit, rights_n, rights_b, none, trunk, name_b, name_tt, idle, ask, wait, confirm, give, await, let_go, leaving, no_child, empty, release_ack}
use Rattle.rules.specs.Cells.{cell, parent, rights, entry, to_probe, pending, node}
use Rattle.rules.specs.Tree.{child_by, is_child}
use Rattle.rules.specs.Names.{some_in, none_in, others_none_in, member_in, named, sets_empty, no_entries, some_entry, no_other_entries}
use Rattle.rules.specs.Messages.{is_probe_ack, is_release}
use Rattle.rules.specs.Scenes.{scene_of, all_idle}
use Rattle.rules.specs.Local.{load_needs, store_needs, load_miss_needs, store_miss_needs, evict_needs}
use Rattle.rules.specs.Acquire.{asks_from, send_acquire_needs, acquire_fits, take_acquire_needs}
use Rattle.rules.specs.Probe.{send_probe_needs, serves_probes, take_probe_needs, cap_met, send_probe_ack_needs, data_fits, take_probe_ack_needs}
use Rattle.rules.specs.Grant.{grant_fits, take_grant_needs, send_grant_ack_needs, may_grant, send_grant_needs, take_grant_ack_needs}
use Rattle.rules.specs.Release.{awaits, send_release_needs, take_release_needs, send_release_ack_needs, take_release_ack_needs}
use Rattle.rules.specs.declared.State.{State}
use Rattle.rules.specs.declared.Node.{Node}
use Rattle.writes.proofs.Seen.{phase, purpose, requester, probing, cap, noted, slot_a, slot_b, slot_c, slot_d, slot_e, kept}

is : (a b : ℕ) → eqb a b ≡ true → a ≡ b
is a b = eqb-true a b

isnt : (a b : ℕ) → not (eqb a b) ≡ true → a ≢ b
isnt a b h = eqb-false a b (not-true (eqb a b) h)

-- k is a child of x
pub record Child (s : State) (x k : ℕ) : Type 0 where
  pub inside : k < s.count
  pub below : k ≢ 0
  pub parent : parent s k ≡ x

pub child : (s : State) (x k : ℕ) → is_child s x k ≡ true → Child s x k
unfolding child_by
child s x k h =
    let u = both _ (eqb (parent s k) x) h in
    let w = both (ltb k s.count) _ u.0 in
    record { inside = ltb-true _ _ w.0; below = isnt _ _ w.1; parent = is _ _ u.1 }

-- the rows
pub member_off : (t : List Bool) (x : ℕ) → member_in t x ≡ false → (k : ℕ) → k < node_limit → get_or t (cell x k) false ≡ false
unfolding member_in
member_off t x h k l = any_off (λ j. get_or t (cell x j) false) node_limit k h l

-- both sets of x are empty
pub record NoMembers (s : State) (x : ℕ) : Type 0 where
  pub to_probe : (k : ℕ) → k < node_limit → to_probe s x k ≡ false
  pub pending : (k : ℕ) → k < node_limit → pending s x k ≡ false

pub no_members_lem : (s : State) (x : ℕ) → sets_empty s x ≡ true → NoMembers s x
no_members_lem s x h =
    let u = both _ _ h in
    record { to_probe = member_off s.to_probe x (not-true _ u.0); pending = member_off s.pending x (not-true _ u.1) }

pub all_none : (s : State) (x : ℕ) → no_entries s x ≡ true → (k : ℕ) → k < node_limit → entry s x k ≡ none
unfolding none_in
all_none s x h k l = is _ _ (all_at (λ j. eqb (entry s x j) none) node_limit k h l)

pub no_entry : (s : State) (x e : ℕ) → some_entry s x e ≡ false → (k : ℕ) → k < node_limit → entry s x k ≢ e
unfolding some_in
no_entry s x e h k l = eqb-false _ _ (any_off (λ j. eqb (entry s x j) e) node_limit k h l)

pub others_none : (s : State) (x q : ℕ) → no_other_entries s x q ≡ true → (k : ℕ) → k < node_limit → k ≢ q → entry s x k ≡ none
unfolding others_none_in
others_none s x q h k l n = go (either _ _ (all_at (λ j. eqb j q || eqb (entry s x j) none) node_limit k h l))
  where
    go : (eqb k q ≡ true) ⊎ (eqb (entry s x k) none ≡ true) → entry s x k ≡ none
    go (inl e) = absurd (n (is _ _ e))
    go (inr e) = is _ _ e

-- "all three transactions idle"
pub record Idle (m : Node) : Type 0 where
  pub main : m.phase ≡ idle
  pub probe : m.probe ≡ false
  pub release : m.release ≡ no_child

pub all_idle_lem : (m : Node) → all_idle m ≡ true → Idle m
all_idle_lem m h = let u = both _ _ h in let w = both _ _ u.0 in record { main = is _ _ w.0; probe = not-true _ w.1; release = is _ _ u.1 }

-- 1
pub record LoadNeeds (s : State) (x : ℕ) : Type 0 where
  pub name : (named s x ≡ name_b) ⊎ (named s x ≡ name_tt)
  pub quiet : Idle (node s x)

pub load_needs_lem : (s : State) (x : ℕ) → load_needs (scene_of s x x) ≡ true → LoadNeeds s x
unfolding load_needs
load_needs_lem s x h = let u = both _ _ h in record { name = go (either _ _ u.0); quiet = all_idle_lem (node s x) u.1 }
  where
    go : (eqb (named s x) name_b ≡ true) ⊎ (eqb (named s x) name_tt ≡ true) → (named s x ≡ name_b) ⊎ (named s x ≡ name_tt)
    go (inl e) = inl (is _ _ e)
    go (inr e) = inr (is _ _ e)

-- 2
pub record StoreNeeds (s : State) (x : ℕ) : Type 0 where
  pub name : named s x ≡ name_tt
  pub quiet : Idle (node s x)

pub store_needs_lem : (s : State) (x : ℕ) → store_needs (scene_of s x x) ≡ true → StoreNeeds s x
unfolding store_needs
store_needs_lem s x h = let u = both _ _ h in record { name = is _ _ u.0; quiet = all_idle_lem (node s x) u.1 }

-- 3
pub record LoadMissNeeds (s : State) (x : ℕ) : Type 0 where
  pub rights : rights s x ≡ rights_n
  pub quiet : Idle (node s x)

pub load_miss_needs_lem : (s : State) (x : ℕ) → load_miss_needs (scene_of s x x) ≡ true → LoadMissNeeds s x
unfolding load_miss_needs
load_miss_needs_lem s x h = let u = both _ _ h in record { rights = is _ _ u.0; quiet = all_idle_lem (node s x) u.1 }

-- 4
pub record StoreMissNeeds (s : State) (x : ℕ) : Type 0 where
  pub rights : (rights s x ≡ rights_n) ⊎ (rights s x ≡ rights_b)
  pub quiet : Idle (node s x)

pub store_miss_needs_lem : (s : State) (x : ℕ) → store_miss_needs (scene_of s x x) ≡ true → StoreMissNeeds s x
unfolding store_miss_needs
store_miss_needs_lem s x h = let u = both _ _ h in record { rights = go (either _ _ u.0); quiet = all_idle_lem (node s x) u.1 }
  where
    go : (eqb (rights s x) rights_n ≡ true) ⊎ (eqb (rights s x) rights_b ≡ true) → (rights s x ≡ rights_n) ⊎ (rights s x ≡ rights_b)
    go (inl e) = inl (is _ _ e)
    go (inr e) = inr (is _ _ e)

-- 5
pub record EvictNeeds (s : State) (x : ℕ) : Type 0 where
  pub rights : rights s x ≢ rights_n
  pub quiet : Idle (node s x)
  pub sets : NoMembers s x

pub evict_needs_lem : (s : State) (x : ℕ) → evict_needs (scene_of s x x) ≡ true → EvictNeeds s x
unfolding evict_needs
evict_needs_lem s x h =
    let u = both (not (eqb (rights s x) rights_n) && all_idle (node s x)) (sets_empty s x) h in
    let w = both _ _ u.0 in
    record { rights = isnt _ _ w.0; quiet = all_idle_lem (node s x) w.1; sets = no_members_lem s x u.1 }

-- 6
pub record SendAcquireNeeds (s : State) (x : ℕ) : Type 0 where
  pub main : phase s x ≡ ask
  pub slot : slot_a s x ≡ empty
  pub asks : asks_from (purpose s x) (rights s x) ≡ true

pub send_acquire_needs_lem : (s : State) (x : ℕ) → send_acquire_needs (scene_of s x x) ≡ true → SendAcquireNeeds s x
unfolding send_acquire_needs
send_acquire_needs_lem s x h = let u = both _ _ h in let w = both _ _ u.0 in record { main = is _ _ w.0; slot = is _ _ w.1; asks = u.1 }

-- 7
pub record TakeAcquireNeeds (s : State) (x k : ℕ) : Type 0 where
  pub slot : slot_a s k ≢ empty
  pub main : phase s x ≡ idle
  pub probe : probing s x ≡ false
  pub sets : NoMembers s x
  pub fits : acquire_fits (slot_a s k) (entry s x k) ≡ true

pub take_acquire_needs_lem : (s : State) (x k : ℕ) → take_acquire_needs (scene_of s x k) ≡ true → TakeAcquireNeeds s x k
unfolding take_acquire_needs
take_acquire_needs_lem s x k h =
    let u = both (not (eqb (slot_a s k) empty) && eqb (phase s x) idle && not (probing s x) && sets_empty s x) _ h in
    let w = both (not (eqb (slot_a s k) empty) && eqb (phase s x) idle && not (probing s x)) (sets_empty s x) u.0 in
    let v = both _ _ w.0 in
    let y = both _ _ v.0 in
    record { slot = isnt _ _ y.0; main = is _ _ y.1; probe = not-true _ v.1; sets = no_members_lem s x w.1; fits = u.1 }

-- 8
pub record SendProbeNeeds (s : State) (x k : ℕ) : Type 0 where
  pub to_probe : to_probe s x k ≡ true
  pub slot : slot_b s k ≡ empty

pub send_probe_needs_lem : (s : State) (x k : ℕ) → send_probe_needs (scene_of s x k) ≡ true → SendProbeNeeds s x k
unfolding send_probe_needs
send_probe_needs_lem s x k h = let u = both _ _ h in record { to_probe = u.0; slot = is _ _ u.1 }

-- 9
pub record TakeProbeNeeds (s : State) (x : ℕ) : Type 0 where
  pub slot : slot_b s x ≢ empty
  pub probe : probing s x ≡ false
  pub sets : NoMembers s x
  pub main : serves_probes (phase s x) ≡ true

pub take_probe_needs_lem : (s : State) (x : ℕ) → take_probe_needs (scene_of s x x) ≡ true → TakeProbeNeeds s x
unfolding take_probe_needs
take_probe_needs_lem s x h =
    let u = both (not (eqb (slot_b s x) empty) && not (probing s x) && sets_empty s x) _ h in
    let w = both (not (eqb (slot_b s x) empty) && not (probing s x)) (sets_empty s x) u.0 in
    let v = both _ _ w.0 in
    record { slot = isnt _ _ v.0; probe = not-true _ v.1; sets = no_members_lem s x w.1; main = u.1 }

-- 10
pub record SendProbeAckNeeds (s : State) (x : ℕ) : Type 0 where
  pub probe : probing s x ≡ true
  pub sets : NoMembers s x
  pub release : noted s x ≡ no_child
  pub main : phase s x ≢ leaving
  pub slot : slot_c s x ≡ empty
  pub met : cap_met (cap s x) (no_entries s x) (some_entry s x trunk) ≡ true

pub send_probe_ack_needs_lem : (s : State) (x : ℕ) → send_probe_ack_needs (scene_of s x x) ≡ true → SendProbeAckNeeds s x
unfolding send_probe_ack_needs
send_probe_ack_needs_lem s x h =
    let u = both _ _ h in
    let w = both _ _ u.0 in
    let v = both _ _ w.0 in
    let y = both _ _ v.0 in
    let q = both (probing s x) (sets_empty s x) y.0 in
    record { probe = q.0; sets = no_members_lem s x q.1; release = is _ _ y.1; main = isnt _ _ v.1; slot = is _ _ w.1; met = u.1 }

-- 11
pub record TakeProbeAckNeeds (s : State) (x k : ℕ) : Type 0 where
  pub slot : is_probe_ack (slot_c s k) ≡ true
  pub pending : pending s x k ≡ true
  pub kept : kept s k ≤ entry s x k
  pub data_fits_lem : data_fits (slot_c s k) (entry s x k) ≡ true

pub take_probe_ack_needs_lem : (s : State) (x k : ℕ) → take_probe_ack_needs (scene_of s x k) ≡ true → TakeProbeAckNeeds s x k
unfolding take_probe_ack_needs
take_probe_ack_needs_lem s x k h =
    let u = both _ _ h in
    let w = both _ _ u.0 in
    let v = both (is_probe_ack (slot_c s k)) _ w.0 in
    record { slot = v.0; pending = v.1; kept = leb-true _ _ w.1; data_fits_lem = u.1 }

-- 12
pub record TakeGrantNeeds (s : State) (x : ℕ) : Type 0 where
  pub main : phase s x ≡ wait
  pub probe : probing s x ≡ false
  pub fits : grant_fits (purpose s x) (rights s x) (slot_d s x) ≡ true

pub take_grant_needs_lem : (s : State) (x : ℕ) → take_grant_needs (scene_of s x x) ≡ true → TakeGrantNeeds s x
unfolding take_grant_needs
take_grant_needs_lem s x h = let u = both _ _ h in let w = both _ _ u.0 in record { main = is _ _ w.0; probe = not-true _ w.1; fits = u.1 }

-- 13
pub record SendGrantAckNeeds (s : State) (x : ℕ) : Type 0 where
  pub main : phase s x ≡ confirm
  pub slot : slot_e s x ≡ empty

pub send_grant_ack_needs_lem : (s : State) (x : ℕ) → send_grant_ack_needs (scene_of s x x) ≡ true → SendGrantAckNeeds s x
unfolding send_grant_ack_needs
send_grant_ack_needs_lem s x h = let u = both _ _ h in record { main = is _ _ u.0; slot = is _ _ u.1 }

-- 14
pub record SendGrantNeeds (s : State) (x choice : ℕ) : Type 0 where
  pub main : phase s x ≡ give
  pub child : Child s x (requester s x)
  pub slot : slot_d s (requester s x) ≡ empty
  pub may : may_grant (purpose s x) choice (named s x) (rights s x) (no_other_entries s x (requester s x)) (entry s x (requester s x)) ≡ true

pub send_grant_needs_lem : (s : State) (x choice : ℕ) → is_child s x (requester s x) ≡ true → send_grant_needs (scene_of s x (requester s x)) choice ≡ true → SendGrantNeeds s x choice
unfolding send_grant_needs
send_grant_needs_lem s x choice g h =
    let u = both _ _ h in
    let w = both _ _ u.0 in
    record { main = is _ _ w.0; child = child s x (requester s x) g; slot = is _ _ w.1; may = u.1 }

-- 15
pub record TakeGrantAckNeeds (s : State) (x : ℕ) : Type 0 where
  pub main : phase s x ≡ await
  pub child : Child s x (requester s x)
  pub slot : slot_e s (requester s x) ≢ empty

pub take_grant_ack_needs_lem : (s : State) (x : ℕ) → is_child s x (requester s x) ≡ true → take_grant_ack_needs (scene_of s x (requester s x)) ≡ true → TakeGrantAckNeeds s x
unfolding take_grant_ack_needs
take_grant_ack_needs_lem s x g h = let u = both _ _ h in record { main = is _ _ u.0; child = child s x (requester s x) g; slot = isnt _ _ u.1 }

-- 16
pub record SendReleaseNeeds (s : State) (x : ℕ) : Type 0 where
  pub main : phase s x ≡ let_go
  pub release : noted s x ≡ no_child
  pub slot : slot_c s x ≡ empty
  pub entries : (k : ℕ) → k < node_limit → entry s x k ≡ none
  pub rights : rights s x ≢ rights_n

pub send_release_needs_lem : (s : State) (x : ℕ) → send_release_needs (scene_of s x x) ≡ true → SendReleaseNeeds s x
unfolding send_release_needs
send_release_needs_lem s x h =
    let u = both _ _ h in
    let w = both _ (no_entries s x) u.0 in
    let v = both _ _ w.0 in
    let y = both _ _ v.0 in
    record { main = is _ _ y.0; release = is _ _ y.1; slot = is _ _ v.1; entries = all_none s x w.1; rights = isnt _ _ u.1 }

-- 17
pub record TakeReleaseNeeds (s : State) (x k : ℕ) : Type 0 where
  pub slot : is_release (slot_c s k) ≡ true
  pub release : noted s x ≡ no_child
  pub held : entry s x k ≢ none
  pub main : awaits (phase s x) (requester s x) k ≡ false
  pub data_fits_lem : data_fits (slot_c s k) (entry s x k) ≡ true

pub take_release_needs_lem : (s : State) (x k : ℕ) → take_release_needs (scene_of s x k) k ≡ true → TakeReleaseNeeds s x k
unfolding take_release_needs
take_release_needs_lem s x k h =
    let u = both _ _ h in
    let w = both _ (not (awaits (phase s x) (requester s x) k)) u.0 in
    let v = both _ _ w.0 in
    let y = both (is_release (slot_c s k)) _ v.0 in
    record { slot = y.0; release = is _ _ y.1; held = isnt _ _ v.1; main = not-true _ w.1; data_fits_lem = u.1 }

-- 18
pub record SendReleaseAckNeeds (s : State) (x : ℕ) : Type 0 where
  pub child : Child s x (noted s x)
  pub slot : slot_d s (noted s x) ≡ empty

pub send_release_ack_needs_lem : (s : State) (x : ℕ) → is_child s x (noted s x) ≡ true → send_release_ack_needs (scene_of s x (noted s x)) ≡ true → SendReleaseAckNeeds s x
unfolding send_release_ack_needs
send_release_ack_needs_lem s x g h = record { child = child s x (noted s x) g; slot = is _ _ (both (not (eqb (noted s x) no_child)) _ h).1 }

-- 19
pub record TakeReleaseAckNeeds (s : State) (x : ℕ) : Type 0 where
  pub main : phase s x ≡ leaving
  pub slot : slot_d s x ≡ release_ack

pub take_release_ack_needs_lem : (s : State) (x : ℕ) → take_release_ack_needs (scene_of s x x) ≡ true → TakeReleaseAckNeeds s x
unfolding take_release_ack_needs
take_release_ack_needs_lem s x h = let u = both _ _ h in record { main = is _ _ u.0; slot = is _ _ u.1 }
