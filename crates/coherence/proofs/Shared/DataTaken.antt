-- What take ProbeAck and take Release share: x takes what is in the slot C of its child k, and settles.
-- It is stated over the entry e and the noted child y that the step leaves, and over the sets that k may have left.
use mathlib.Core.Path.{◌≡◌, refl, sym, ◌∙◌, ap, subst}
use mathlib.Core.Bool.{Bool, true, false, not, ◌||◌}
use mathlib.Core.Logic.{◌≢◌, ◌⊎◌, inl, inr}
use Prim.Native.Nat.{ℕ, ◌<◌, ◌≤◌}
use native.Mathlib.Decide.{ℕ_discrete}
use borrow.Author.Tests.{eqb-true}
use lib.Dec.{eqb}
use Rattle.words.specs.Vocab.{choose}
use Rattle.words.proofs.Facts.{either, neither, implies, decided, clash, choose_false, or_left, or_right}
use Rattle.rules.specs.Codes.{node_limit, tip, none, trunk, leaving, empty, release_ack}
use Rattle.rules.specs.With.{with_dirty, with_value, with_phase, with_release}
use Rattle.rules.specs.Cells.{rights, entry, to_probe, pending, node, link, value}
use Rattle.rules.specs.Messages.{installs, is_grant}
use Rattle.rules.specs.Configuration.{configuration_ok}
use Rattle.rules.specs.Scenes.{data_taken, filled_c}
use Rattle.rules.specs.Settle.{phase_after}
use Rattle.rules.specs.Probe.{data_fits}
use Rattle.rules.specs.declared.State.{State}
use Rattle.rules.specs.declared.Node.{Node}
use Rattle.rules.specs.declared.Link.{Link}
use Rattle.writes.proofs.Seen.{dirty, phase, purpose, requester, probing, noted, slot_b, slot_c, up, slot_d}
use Rattle.writes.proofs.Writes.{Writes, with_at, no_members, settled_by}
use Rattle.writes.proofs.Needs.{Child}
use Rattle.writes.proofs.Views.{own_view, child_view}
use Rattle.coherence.proofs.Invariant.Clauses.{token, agrees, exactly, LinkOk, NodeOk, Inv}
use Rattle.coherence.proofs.Invariant.Frame.{child_step}
use Rattle.coherence.proofs.Invariant.Tokens.{installs_trunk, no_grant_data}
use Rattle.coherence.proofs.Invariant.Here.{child_small, inside_above, child_ok_lem, codes_of, no_data}
use Rattle.coherence.proofs.Shared.Settled.{Steady, steady_old, still_served, same_with_member}
use Rattle.coherence.proofs.Shared.Rows.{with_here, with_there, Less, row_fell}
use Rattle.coherence.proofs.Shared.Stays.{below_values}

-- "data: value set, dirty", field by field: the value becomes what the link carries upward
abbrev pub taken : Link → Node → Node
taken l m = with_dirty (with_value m (choose (installs l.c) l.up m.value)) (installs l.c || m.dirty)

pub taken_is : (l : Link) (m : Node) → data_taken l m ≡ taken l m
unfolding data_taken choose
taken_is l m = go (decided (installs l.c))
  where
    go : (installs l.c ≡ true) ⊎ (installs l.c ≡ false) → data_taken l m ≡ taken l m
    go (inl e) = rw e
    go (inr e) = rw e

-- Data comes from a Trunk entry alone.
module _ {s : State} {v : ℕ} (i : Inv s v) {x k : ℕ} (child : Child s x k) (fits : data_fits (slot_c s k) (entry s x k) ≡ true) where
  -- the value after
  abbrev got : ℕ
  got = choose (installs (slot_c s k)) (up s k) (value s x)

  -- beside data every other entry is None
  alone : installs (slot_c s k) ≡ true → (j : ℕ) → Child s x j → j ≢ k → entry s x j ≡ none
  unfolding data_fits
  alone d j c n =
      let h = implies _ _ fits (installs_trunk (codes_of i child).up d) in
      (i.nodes x (inside_above i child)).row k j (child_small i child) (child_small i c) (λ e. n (sym e)) (eqb-true _ _ h)

  -- so a child with an entry sees the same value above it
  same_above : (j : ℕ) → Child s x j → j ≢ k → entry s x j ≢ none → got ≡ value s x
  same_above j c n h = go (decided (installs (slot_c s k)))
    where
      go : (installs (slot_c s k) ≡ true) ⊎ (installs (slot_c s k) ≡ false) → got ≡ value s x
      go (inl d) = absurd (h (alone d j c n))
      go (inr d) = choose_false _ _ d

  -- LAST: the trunk ended on the link of k, or x held the last value and keeps it
  last_taken : (e : ℕ) → rights s k ≢ tip → rights s x ≡ tip → ((j : ℕ) → j < node_limit → with_at (entry s x) k e j ≢ trunk) → got ≡ v
  last_taken e short top none = go (ℕ_discrete (entry s x k) trunk)
    where
      off : entry s x k ≢ trunk → (j : ℕ) → j < node_limit → Dec (j ≡ k) → entry s x j ≢ trunk
      off n j l (yes h) f = n (ap (entry s x) (sym h) ∙ f)
      off n j l (no h) f = none j l (with_there (entry s x) k e j h ∙ f)

      go : Dec (entry s x k ≡ trunk) → got ≡ v
      go (yes h) = (child_ok_lem i child).last h short
      go (no n) = choose_false _ _ (no_data i child n) ∙ (i.nodes x (inside_above i child)).last top (λ j l. off n j l (ℕ_discrete j k))

-- x after the step, and the links around it.
module _ {s t : State} {v : ℕ} (i : Inv s v) {x k : ℕ} (inside : x < s.count) (child : Child s x k) (e y : ℕ) (ws ps : ℕ → Bool)
    (fits : data_fits (slot_c s k) (entry s x k) ≡ true) (low : e ≢ trunk) (under : e ≤ entry s x k)
    (short : rights s k ≢ tip) (ungranted : is_grant (slot_d s k) ≡ false)
    (listed : Less (to_probe s x) ws k) (waits : Less (pending s x) ps k)
    (quiet : (j : ℕ) → Child s x j → j ≢ k → eqb y j ≡ eqb (noted s x) j)
    (m : Node) (fields : m ≡ with_release (taken (link s k) (node s x)) y)
    (w : Writes s t x k (rights s x) (settled_by false ws ps (rights s x) m) (filled_c empty 0 0 (link s k)) (with_at (entry s x) k e) ws ps) where
  abbrev later : ℕ
  later = phase_after (no_members ws ps) false (phase s x) (purpose s x) (rights s x)

  abbrev after : Node
  after = with_phase (with_release (taken (link s k) (node s x)) y) later

  written : Writes s t x k (rights s x) after (filled_c empty 0 0 (link s k)) (with_at (entry s x) k e) ws ps
  written =
      subst (λ (z : Node). Writes s t x k (rights s x) (settled_by false ws ps (rights s x) z) (filled_c empty 0 0 (link s k)) (with_at (entry s x) k e) ws ps) fields w

  steady : Steady (phase s x) later
  steady = steady_old (no_members ws ps) (phase s x) (purpose s x) (rights s x)

  own : 0 < x → LinkOk v (own_view s x (rights s x) after (link s x)) x
  own pos =
      let o = i.links x pos inside in
      record {
        grants = rw steady.confirm o.grants;
        probes = o.probes;
        releases = rw steady.leaving o.releases;
        agree = o.agree;
        exact = o.exact;
        copy = λ h d. let z = neither (installs (slot_c s k)) (dirty s x) d in choose_false _ _ z.0 ∙ o.copy h z.1;
        granted = o.granted;
        last = o.last;
      }

  -- the link of k, once its own tokens and codes are shown
  acted : token (ps k) (not (eqb (slot_b s k) empty)) (probing s k) false ≡ true
      → token (eqb (phase s k) leaving) false (eqb y k) (eqb (slot_d s k) release_ack) ≡ true
      → agrees (rights s k) e empty 0 (slot_d s k) ≡ true → exactly (rights s k) e empty 0 (slot_d s k) ≡ true
      → LinkOk v (child_view s k after e (ws k) (ps k) (filled_c empty 0 0 (link s k))) k
  unfolding agrees installs
  acted probes releases agree exact =
      let o = child_ok_lem i child in
      record {
        grants = rw (steady.await (requester s x) k) o.grants;
        probes = probes;
        releases = releases;
        agree = agree;
        exact = exact;
        copy = o.copy;
        granted = λ h. clash h (no_grant_data (codes_of i child).down ungranted);
        last = λ f _. absurd (low f);
      }

  others : (j : ℕ) → Child s x j → j ≢ k → LinkOk v (child_view s j after (entry s x j) (ws j) (ps j) (link s j)) j
  others j c n = below_values i c (λ h. (same_above i child fits j c n h, refl)) (steady.await (requester s x) j) (waits.off j n) (quiet j c n)

  here : NodeOk v x (rights s x) after (with_at (entry s x) k e) ws ps
  here =
      let q = i.nodes x inside in
      record {
        root = q.root;
        row = row_fell (entry s x) k e (child_small i child) low under q.row;
        probe = λ h. still_served (no_members ws ps) (phase s x) (purpose s x) (rights s x) (q.probe h);
        sets = λ j l h. rw (same_with_member ws ps j l h (phase s x) (purpose s x) (rights s x)) (q.sets j l (was j (either _ _ h)));
        apart = λ j l h. apart j (q.apart j l (listed.sub j h)) (decided (ps j));
        last = last_taken i child fits e short;
      }
    where
      was : (j : ℕ) → (ws j ≡ true) ⊎ (ps j ≡ true) → (to_probe s x j || pending s x j) ≡ true
      was j (inl a) = or_left (to_probe s x j) (pending s x j) (listed.sub j a)
      was j (inr a) = or_right (to_probe s x j) (pending s x j) (waits.sub j a)

      apart : (j : ℕ) → pending s x j ≡ false → (ps j ≡ true) ⊎ (ps j ≡ false) → ps j ≡ false
      apart j f (inl a) = clash (waits.sub j a) f
      apart j f (inr a) = a

  pub taken_keeps : token (ps k) (not (eqb (slot_b s k) empty)) (probing s k) false ≡ true
      → token (eqb (phase s k) leaving) false (eqb y k) (eqb (slot_d s k) release_ack) ≡ true
      → agrees (rights s k) e empty 0 (slot_d s k) ≡ true → exactly (rights s k) e empty 0 (slot_d s k) ≡ true
      → configuration_ok t ≡ true → Inv t v
  taken_keeps probes releases agree exact valid =
      child_step i inside child written valid here own (rw (with_here (entry s x) k e) (acted probes releases agree exact))
      (λ j c n. rw (with_there (entry s x) k e j n) (others j c n))
