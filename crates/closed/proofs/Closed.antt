-- "Every accepted step gives a new configuration": on the same tree, from any configuration, reached or not.
use mathlib.Core.Path.{◌≡◌}
use mathlib.Core.Bool.{true, not}
use mathlib.Core.Logic.{◌≢◌}
use Prim.Native.Nat.{ℕ, ◌<◌}
use borrow.Author.Tests.{eqb-false, not-true}
use lib.Dec.{eqb}
use Rattle.words.specs.Vocab.{choose}
use Rattle.rules.specs.Codes.{node_limit, accepts}
use Rattle.rules.specs.Tree.{good_tree, is_child, is_leaf}
use Rattle.rules.specs.Configuration.{configuration_ok}
use Rattle.rules.specs.Scenes.{scene_of}
use Rattle.rules.specs.Table.{Kind, kinds, numbered}
use Rattle.rules.specs.Events.{other_fits, place_fits, place_ok}
use Rattle.rules.specs.Step.{end_of, link_there, next_of, step_of, onward_of}
use Rattle.rules.specs.declared.State.{State}
use Rattle.rules.specs.declared.Event.{Event}
use Rattle.writes.proofs.Writes.{Sized}
use Rattle.writes.proofs.Effects.{load_writes, store_writes, load_miss_writes, store_miss_writes, evict_writes, send_acquire_writes, take_acquire_writes, send_probe_writes, take_probe_writes, send_probe_ack_writes, take_probe_ack_writes, take_grant_writes, send_grant_ack_writes, send_grant_writes, take_grant_ack_writes, send_release_writes, take_release_writes, send_release_ack_writes, take_release_ack_writes}
use Rattle.writes.proofs.Needs.{store_needs_lem, load_miss_needs_lem, store_miss_needs_lem, evict_needs_lem, send_acquire_needs_lem, take_acquire_needs_lem, take_probe_needs_lem, send_probe_ack_needs_lem, take_probe_ack_needs_lem, take_grant_needs_lem, send_grant_ack_needs_lem, send_grant_needs_lem, send_release_needs_lem, take_release_needs_lem}
use Rattle.writes.proofs.Accepted.{link_of, done, tree, known, Taken, step_taken, onward_taken, Every, end, ◌also◌, by_kind}
use Rattle.closed.proofs.Keeps.{Here, Kept, in_array, child_array}
use Rattle.closed.proofs.Local.{load_keeps, store_keeps, load_miss_keeps, store_miss_keeps, evict_keeps}
use Rattle.closed.proofs.Acquire.{send_acquire_keeps, take_acquire_keeps}
use Rattle.closed.proofs.Probe.{send_probe_keeps, take_probe_keeps, send_probe_ack_keeps, take_probe_ack_keeps}
use Rattle.closed.proofs.Grant.{take_grant_keeps, send_grant_ack_keeps, send_grant_keeps, take_grant_ack_keeps}
use Rattle.closed.proofs.Release.{send_release_keeps, take_release_keeps, send_release_ack_keeps, take_release_ack_keeps}

-- the kind gives a configuration, where it is in place, its link is there and its needs hold
abbrev Keeps : Kind → Type 0
Keeps k =
    (s : State) (e : Event) → Here s e.node → Sized s → e.node < node_limit → place_fits k.row.place (is_leaf s e.node) e.node ≡ true
    → other_fits k.row.other (is_child s e.node e.other) e.other ≡ true
    → link_there k.row.end (is_child s e.node (link_of k s e)) ≡ true → k.needs (scene_of s e.node (link_of k s e)) e ≡ true → Kept s (done k s e)

nonzero : (x : ℕ) → not (eqb x 0) ≡ true → x ≢ 0
nonzero x h = eqb-false x 0 (not-true _ h)

kinds_keep : Every Keeps kinds
unfolding place_fits other_fits link_there end_of numbered choose
kinds_keep =
    (λ s e h z b p o j n. load_keeps s e _ h (load_writes s z e b))
    also (λ s e h z b p o j n. store_keeps s e _ h (store_writes s z e b) (store_needs_lem s _ n))
    also (λ s e h z b p o j n. load_miss_keeps s e _ h (load_miss_writes s z e b) (load_miss_needs_lem s _ n) p)
    also (λ s e h z b p o j n. store_miss_keeps s e _ h (store_miss_writes s z e b) (store_miss_needs_lem s _ n) p)
    also (λ s e h z b p o j n. evict_keeps s e _ h (evict_writes s z e b) (evict_needs_lem s _ n))
    also (λ s e h z b p o j n. send_acquire_keeps s e _ h (send_acquire_writes s z e b) (send_acquire_needs_lem s _ n) (nonzero _ p))
    also (λ s e h z b p o j n. take_acquire_keeps s e _ h (take_acquire_writes s z e b _ (child_array h _ o)) (take_acquire_needs_lem s _ _ n) o)
    also (λ s e h z b p o j n. send_probe_keeps s e _ h _ o (send_probe_writes s z e b _ (child_array h _ o)))
    also (λ s e h z b p o j n. take_probe_keeps s e _ h (take_probe_writes s z e b) (take_probe_needs_lem s _ n) (nonzero _ p))
    also (λ s e h z b p o j n. send_probe_ack_keeps s e _ h (send_probe_ack_writes s z e b) (send_probe_ack_needs_lem s _ n) (nonzero _ p))
    also (λ s e h z b p o j n. take_probe_ack_keeps s e _ h _ o (take_probe_ack_writes s z e b _ (child_array h _ o)) (take_probe_ack_needs_lem s _ _ n))
    also (λ s e h z b p o j n. take_grant_keeps s e _ h (take_grant_writes s z e b) (take_grant_needs_lem s _ n) (nonzero _ p))
    also (λ s e h z b p o j n. send_grant_ack_keeps s e _ h (send_grant_ack_writes s z e b) (send_grant_ack_needs_lem s _ n) (nonzero _ p))
    also (λ s e h z b p o j n. send_grant_keeps s e _ h j (send_grant_writes s z e b _ (child_array h _ j)) (send_grant_needs_lem s _ _ j n))
    also (λ s e h z b p o j n. take_grant_ack_keeps s e _ h j (take_grant_ack_writes s z e b _ (child_array h _ j)))
    also (λ s e h z b p o j n. send_release_keeps s e _ h (send_release_writes s z e b) (send_release_needs_lem s _ n) (nonzero _ p))
    also (λ s e h z b p o j n. take_release_keeps s e _ h (take_release_writes s z e b _ (child_array h _ o)) (take_release_needs_lem s _ _ n) o)
    also (λ s e h z b p o j n. send_release_ack_keeps s e _ h (send_release_ack_writes s z e b _ (child_array h _ j)) j)
    also (λ s e h z b p o j n. take_release_ack_keeps s e _ h (take_release_ack_writes s z e b) (nonzero _ p))
    also end

-- an event that has passed numbers 3, 4 and 5, in a configuration on a good tree
pub taken_keeps : {s : State} {e : Event} → Sized s → good_tree s ≡ true → configuration_ok s ≡ true → Taken s e → Kept s (next_of s e)
unfolding place_ok next_of
taken_keeps {s} {e} z g c w =
    let k = known s e w.event in
    let h : Here s e.node = record { sized = z; configuration = c; inside = k.inside; most = (tree s.count s.parents g).most } in
    (by_kind Keeps kinds_keep e.kind k.kind).1 s e h z (in_array h) w.place k.other w.turn.there w.turn.needs

pub step_keeps : (s : State) (e : Event) → Sized s → (step_of s e).number ≡ accepts → Kept s (step_of s e).state
step_keeps s e z h = let w = step_taken s e h in rw w.next (taken_keeps z w.tree w.configuration w.taken)

pub onward_keeps : (s : State) (e : Event) → Sized s → configuration_ok s ≡ true → (onward_of s e).number ≡ accepts → Kept s (onward_of s e).state
onward_keeps s e z c h = let w = onward_taken s e h in rw w.next (taken_keeps z w.tree c w.taken)

-- the tree stays good
pub tree_stays : {s t : State} → Kept s t → good_tree s ≡ true → good_tree t ≡ true
tree_stays k g = rw (k.count, k.parents) g

-- an accepted step gives a configuration
pub closed : (s : State) (e : Event) → Sized s → (step_of s e).number ≡ accepts → configuration_ok (step_of s e).state ≡ true
closed s e z h = (step_keeps s e z h).configuration
