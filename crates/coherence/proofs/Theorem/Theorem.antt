-- The theorem: from reset, after any accepted steps in any order, the configuration is coherent.
use mathlib.Core.Path.{◌≡◌, refl, ◌∙◌}
use mathlib.Core.Bool.{true, false, not}
use mathlib.Core.Logic.{◌≢◌, ◌⊎◌, inl, inr}
use mathlib.Core.List.{List}
use Prim.Native.Nat.{ℕ, ◌<◌}
use native.Mathlib.Omega.{arith}
use borrow.Author.Tests.{eqb-false, not-true, not-false}
use lib.Dec.{eqb}
use Rattle.words.specs.Vocab.{choose}
use Rattle.words.proofs.Facts.{by_test}
use Rattle.rules.specs.Codes.{node_limit, accepts, rights_n, tip, name_b, name_tt, to_load, to_store}
use Rattle.rules.specs.Kinds.{kind_load, kind_store}
use Rattle.rules.specs.Cells.{rights, value}
use Rattle.rules.specs.Tree.{tree_ok, is_child, is_leaf}
use Rattle.rules.specs.Names.{named, readable}
use Rattle.rules.specs.Configuration.{configuration_ok}
use Rattle.rules.specs.Scenes.{scene_of}
use Rattle.rules.specs.Table.{Kind, kinds, numbered, kind_of}
use Rattle.rules.specs.Events.{other_fits, place_fits, place_ok}
use Rattle.rules.specs.Local.{load_needs}
use Rattle.rules.specs.Step.{end_of, link_there, next_of, value_of, reset_of, step_of}
use Rattle.rules.specs.declared.State.{State}
use Rattle.rules.specs.declared.Event.{Event}
use Rattle.rules.specs.declared.Answer.{Answer}
use Rattle.writes.proofs.Writes.{Sized}
use Rattle.writes.proofs.Effects.{load_writes, store_writes, load_miss_writes, store_miss_writes, evict_writes, send_acquire_writes, take_acquire_writes, send_probe_writes, take_probe_writes, send_probe_ack_writes, take_probe_ack_writes, take_grant_writes, send_grant_ack_writes, send_grant_writes, take_grant_ack_writes, send_release_writes, take_release_writes, send_release_ack_writes, take_release_ack_writes}
use Rattle.writes.proofs.Needs.{child, load_needs_lem, store_needs_lem, load_miss_needs_lem, store_miss_needs_lem, evict_needs_lem, send_acquire_needs_lem, take_acquire_needs_lem, send_probe_needs_lem, take_probe_needs_lem, send_probe_ack_needs_lem, take_probe_ack_needs_lem, take_grant_needs_lem, send_grant_ack_needs_lem, send_grant_needs_lem, take_grant_ack_needs_lem, send_release_needs_lem, take_release_needs_lem, send_release_ack_needs_lem, take_release_ack_needs_lem}
use Rattle.writes.proofs.Accepted.{link_of, done, known, step_taken, Every, end, ◌also◌, by_kind}
use Rattle.closed.proofs.Closed.{closed}
use Rattle.coherence.specs.Reached.{Reached, start, next, last_of}
use Rattle.coherence.specs.Coherent.{Coherent}
use Rattle.coherence.proofs.Invariant.Clauses.{Inv}
use Rattle.coherence.proofs.Invariant.Here.{good, small, child_small}
use Rattle.coherence.proofs.Meaning.Demands.{inv_coherent}
use Rattle.coherence.proofs.Steps.Load.{load_keeps}
use Rattle.coherence.proofs.Steps.Store.{store_keeps}
use Rattle.coherence.proofs.Steps.Miss.{miss_keeps}
use Rattle.coherence.proofs.Steps.Evict.{evict_keeps}
use Rattle.coherence.proofs.Steps.SendAcquire.{send_acquire_keeps}
use Rattle.coherence.proofs.Steps.TakeAcquire.{take_acquire_keeps}
use Rattle.coherence.proofs.Steps.SendProbe.{send_probe_keeps}
use Rattle.coherence.proofs.Steps.TakeProbe.{take_probe_keeps}
use Rattle.coherence.proofs.Steps.SendProbeAck.{send_probe_ack_keeps}
use Rattle.coherence.proofs.Steps.TakeProbeAck.{take_probe_ack_keeps}
use Rattle.coherence.proofs.Steps.TakeGrant.{take_grant_keeps}
use Rattle.coherence.proofs.Steps.SendGrantAck.{send_grant_ack_keeps}
use Rattle.coherence.proofs.Steps.SendGrant.{send_grant_keeps}
use Rattle.coherence.proofs.Steps.TakeGrantAck.{take_grant_ack_keeps}
use Rattle.coherence.proofs.Steps.SendRelease.{send_release_keeps}
use Rattle.coherence.proofs.Steps.TakeRelease.{take_release_keeps}
use Rattle.coherence.proofs.Steps.SendReleaseAck.{send_release_ack_keeps}
use Rattle.coherence.proofs.Steps.TakeReleaseAck.{take_release_ack_keeps}
use Rattle.coherence.proofs.Theorem.Reset.{start_inv}

-- a place below the root
below_root : (x : ℕ) → not (eqb x 0) ≡ true → 0 < x
below_root x h = let n : x ≢ 0 = eqb-false x 0 (not-true _ h) in omega arith

module _ (s : State) (v : ℕ) (e : Event) (i : Inv s v) (inside : e.node < s.count) where
  -- the kind keeps the invariant, where it is in place, its link is there and its needs hold
  abbrev Keeps : Kind → Type 0
  Keeps k =
      e.kind ≡ k.number → place_fits k.row.place (is_leaf s e.node) e.node ≡ true
      → other_fits k.row.other (is_child s e.node e.other) e.other ≡ true
      → link_there k.row.end (is_child s e.node (link_of k s e)) ≡ true → k.needs (scene_of s e.node (link_of k s e)) e ≡ true
      → configuration_ok (done k s e) ≡ true → Inv (done k s e) (last_of e v)

  z : Sized s
  z = i.sized

  -- x and its children stand in the arrays
  bound : e.node < node_limit
  bound = small i e.node inside

  child_bound : (k : ℕ) → is_child s e.node k ≡ true → k < node_limit
  child_bound k h = child_small i (child s e.node k h)

  -- the last value after a store, and after a kind that stores nothing
  stores : {t : State} → e.kind ≡ kind_store → Inv t e.value → Inv t (last_of e v)
  unfolding choose
  stores h j = rw h j

  other : {t : State} (n : ℕ) → e.kind ≡ n → eqb n kind_store ≡ false → Inv t v → Inv t (last_of e v)
  unfolding choose
  other n h f j = rw (h, f) j

  kinds_keep : Every Keeps kinds
  unfolding place_fits other_fits link_there end_of numbered choose
  kinds_keep =
      (λ q p o j n c. other _ q refl (load_keeps e i inside _ (load_writes s z e bound) c))
      also (λ q p o j n c. stores q (store_keeps i e inside (store_needs_lem s _ n) _ (store_writes s z e bound) c))
      also (λ q p o j n c. other _ q refl (miss_keeps i inside (load_miss_needs_lem s _ n).quiet _ to_load (load_miss_writes s z e bound) c))
      also (λ q p o j n c. other _ q refl (miss_keeps i inside (store_miss_needs_lem s _ n).quiet _ to_store (store_miss_writes s z e bound) c))
      also (λ q p o j n c. other _ q refl (evict_keeps i e inside (evict_needs_lem s _ n) _ (evict_writes s z e bound) c))
      also (λ q p o j n c. other _ q refl (send_acquire_keeps i e inside (send_acquire_needs_lem s _ n) _ (send_acquire_writes s z e bound) c))
      also (λ q p o j n c. other _ q refl (take_acquire_keeps i e inside (child s _ _ o) (take_acquire_needs_lem s _ _ n) _ (take_acquire_writes s z e bound _ (child_bound _ o)) c))
      also (λ q p o j n c. other _ q refl (send_probe_keeps i e inside (child s _ _ o) (send_probe_needs_lem s _ _ n) _ (send_probe_writes s z e bound _ (child_bound _ o)) c))
      also (λ q p o j n c. other _ q refl (take_probe_keeps i e inside (below_root _ p) (take_probe_needs_lem s _ n) _ (take_probe_writes s z e bound) c))
      also (λ q p o j n c. other _ q refl (send_probe_ack_keeps i e inside (below_root _ p) (send_probe_ack_needs_lem s _ n) _ (send_probe_ack_writes s z e bound) c))
      also (λ q p o j n c. other _ q refl (take_probe_ack_keeps i e inside (child s _ _ o) (take_probe_ack_needs_lem s _ _ n) _ (take_probe_ack_writes s z e bound _ (child_bound _ o)) c))
      also (λ q p o j n c. other _ q refl (take_grant_keeps i e inside (below_root _ p) (take_grant_needs_lem s _ n) _ (take_grant_writes s z e bound) c))
      also (λ q p o j n c. other _ q refl (send_grant_ack_keeps i e inside (below_root _ p) (send_grant_ack_needs_lem s _ n) _ (send_grant_ack_writes s z e bound) c))
      also (λ q p o j n c. other _ q refl (send_grant_keeps i e inside (send_grant_needs_lem s _ _ j n) _ (send_grant_writes s z e bound _ (child_bound _ j)) c))
      also (λ q p o j n c. other _ q refl (take_grant_ack_keeps i e inside (take_grant_ack_needs_lem s _ j n) _ (take_grant_ack_writes s z e bound _ (child_bound _ j)) c))
      also (λ q p o j n c. other _ q refl (send_release_keeps i e inside (below_root _ p) (send_release_needs_lem s _ n) _ (send_release_writes s z e bound) c))
      also (λ q p o j n c. other _ q refl (take_release_keeps i e inside (child s _ _ o) (take_release_needs_lem s _ _ n) _ (take_release_writes s z e bound _ (child_bound _ o)) c))
      also (λ q p o j n c. other _ q refl (send_release_ack_keeps i e inside (send_release_ack_needs_lem s _ j n) _ (send_release_ack_writes s z e bound _ (child_bound _ j)) c))
      also (λ q p o j n c. other _ q refl (take_release_ack_keeps i e inside (below_root _ p) (take_release_ack_needs_lem s _ n) _ (take_release_ack_writes s z e bound) c))
      also end

-- every accepted step keeps the invariant
pub step_inv : (s : State) (v : ℕ) (e : Event) → Inv s v → (step_of s e).number ≡ accepts → Inv (step_of s e).state (last_of e v)
unfolding place_ok next_of
step_inv s v e i h =
    let w = step_taken s e h in
    let k = known s e w.taken.event in
    let p = by_kind (Keeps s v e i k.inside) (kinds_keep s v e i k.inside) e.kind k.kind in
    let c : configuration_ok (next_of s e) ≡ true = rw w.next at (closed s e i.sized h) in
    rw w.next (p.1 p.0 w.taken.place k.other w.taken.turn.there w.taken.turn.needs c)

reset_inv : (n : ℕ) (ps : List ℕ) (v : ℕ) → (reset_of n ps v).number ≡ accepts → Inv (reset_of n ps v).state v
unfolding reset_of
reset_inv n ps v =
    by_test (λ (a : Answer). a.number ≡ accepts → Inv a.state v) (not (tree_ok n ps)) _ _ (λ _ h. absurd (omega arith)) (λ t h. start_inv n ps v (not-false _ t))

pub reached_inv : {s : State} {v : ℕ} → Reached s v → Inv s v
reached_inv (start n ps v h) = reset_inv n ps v h
reached_inv (next s v e r h) = step_inv s v e (reached_inv r) h

-- demand 3
pub coherent : {s : State} {v : ℕ} → Reached s v → Coherent s v
coherent r = inv_coherent (reached_inv r)

-- "Every accepted step gives a new configuration"
pub reached_configuration : {s : State} {v : ℕ} → Reached s v → configuration_ok s ≡ true
reached_configuration r = (reached_inv r).valid

pub root_never_n : {s : State} {v : ℕ} → Reached s v → rights s 0 ≢ rights_n
root_never_n {s} r e =
    let i = reached_inv r in
    let t : rights s 0 ≡ tip = (i.nodes 0 (omega (arith, (good i).least))).root refl in
    omega arith

-- the row of a load
load_row : (s : State) (e : Event) (n : ℕ) → n ≡ kind_load → (kind_of n).needs (scene_of s e.node (link_of (kind_of n) s e)) e ≡ true
    → (load_needs (scene_of s e.node e.node) ≡ true) × ((kind_of n).says (scene_of s e.node (link_of (kind_of n) s e)) ≡ value s e.node)
unfolding numbered choose end_of
load_row s e n f = rw f (λ h. (h, refl))

-- a load answers the value of the last accepted store, or the first value
pub load_answers_last : {s : State} {v : ℕ} → Reached s v → (e : Event) → e.kind ≡ kind_load → (step_of s e).number ≡ accepts → (step_of s e).value ≡ v
unfolding value_of
load_answers_last {s} {v} r e f h =
    let w = step_taken s e h in
    let u = load_row s e e.kind f w.taken.turn.needs in
    w.value ∙ (u.1 ∙ (coherent r).fresh e.node (known s e w.taken.event).inside (reads (load_needs_lem s e.node u.0).name))
  where
    reads : (named s e.node ≡ name_b) ⊎ (named s e.node ≡ name_tt) → readable s e.node ≡ true
    reads (inl n) = rw n
    reads (inr n) = rw n
