-- The clauses of the invariant. Each speaks of one link or of one node; the tree appears in Meaning alone.
use mathlib.Core.Path.{◌≡◌}
use mathlib.Core.Bool.{Bool, true, false, not, ◌&&◌, ◌||◌}
use mathlib.Core.Logic.{◌≢◌}
use Prim.Native.Nat.{ℕ, ◌<◌}
use lib.Dec.{eqb, leb}
use Rattle.words.specs.Vocab.{choose}
use Rattle.rules.specs.Codes.{node_limit, rights_n, rights_b, tip, none, branch, trunk, clear, confirm, leaving, empty, release_ack}
use Rattle.rules.specs.Cells.{rights, entry, to_probe, pending, node}
use Rattle.rules.specs.Tree.{good_tree}
use Rattle.rules.specs.Messages.{installs, from_trunk, is_probe_ack, is_release, is_grant, carries_down, entry_for}
use Rattle.rules.specs.Configuration.{configuration_ok}
use Rattle.rules.specs.Probe.{serves_probes}
use Rattle.rules.specs.Release.{awaits}
use Rattle.rules.specs.declared.State.{State}
use Rattle.rules.specs.declared.Node.{Node}
use Rattle.writes.proofs.Writes.{Sized}
use Rattle.writes.proofs.Views.{View, view}

infixr 20 ◌⇒◌
abbrev pub ◌⇒◌ : Bool → Bool → Bool
a ⇒ b = not a || b

-- the token is out exactly when it is at one of three places, and it is never at two
abbrev pub token : Bool → Bool → Bool → Bool → Bool
token true true false false = true
token true false true false = true
token true false false true = true
token false false false false = true
token true true true c = false
token true true false true = false
token true false true true = false
token true false false false = false
token false true b c = false
token false false true c = false
token false false false true = false

-- the node owes a GrantAck
abbrev pub owes : Node → Bool
owes m = eqb m.phase confirm

-- GNT: the parent awaits the child exactly while a Grant is on its way, or the child owes its GrantAck, or the GrantAck is on its way
abbrev pub grant_token : View → ℕ → Bool
grant_token w k =
    token (awaits w.above.phase w.above.requester k) (is_grant w.link.d) (owes w.below) (not (eqb w.link.e empty))

-- PRB: the child is pending exactly while the Probe is on its way, or the child's probe is open, or the ProbeAck is on its way
abbrev pub probe_token : View → Bool
probe_token w = token w.pending (not (eqb w.link.b empty)) w.below.probe (is_probe_ack w.link.c)

-- REL: the child is in Leaving exactly while the Release is on its way, or noted, or the ReleaseAck is on its way
abbrev pub release_token : View → ℕ → Bool
release_token w k = token (eqb w.below.phase leaving) (is_release w.link.c) (eqb w.above.release k) (eqb w.link.d release_ack)

-- QUIET: no message in C and no Grant: the rights are not above the entry, and a Trunk entry is exact
abbrev pub quiet_rule : ℕ → ℕ → ℕ → ℕ → Bool
quiet_rule r e c d = (eqb c empty && not (is_grant d)) ⇒ (leb r e && (eqb e trunk ⇒ eqb r tip))

-- ACK: a ProbeAck keeps rights between those of the child and the entry
abbrev pub ack_rule : ℕ → ℕ → ℕ → ℕ → Bool
ack_rule r e c kept = is_probe_ack c ⇒ (leb r kept && leb kept e)

-- LEFT: a Release on its way: the child has nothing, and the entry stands
abbrev pub left_rule : ℕ → ℕ → ℕ → Bool
left_rule r e c = is_release c ⇒ (eqb r rights_n && not (eqb e none))

-- GRANT: a Grant on its way: the child is not Tip, and the entry is what the Grant gives
abbrev pub grant_rule : ℕ → ℕ → ℕ → Bool
grant_rule r e d = is_grant d ⇒ (not (eqb r tip) && eqb e (entry_for d))

-- DATA: data on its way up comes from a Trunk entry
abbrev pub data_rule : ℕ → ℕ → Bool
data_rule e c = from_trunk c ⇒ eqb e trunk

-- rights against the entry, by what is in C and D
unfoldable pub agrees : ℕ → ℕ → ℕ → ℕ → ℕ → Bool
unfolding choose is_probe_ack is_release is_grant from_trunk entry_for
agrees r e c kept d = quiet_rule r e c d && ack_rule r e c kept && left_rule r e c && grant_rule r e d && data_rule e c

-- EXACT, EXACT-ACK: a Branch entry with nothing on its way is exact, and so is what a ProbeAck says
unfoldable pub exactly : ℕ → ℕ → ℕ → ℕ → ℕ → Bool
unfolding choose is_probe_ack is_grant
exactly r e c kept d = ((eqb c empty && not (is_grant d) && eqb e branch) ⇒ eqb r rights_b) && (is_probe_ack c ⇒ leb kept r)

-- what the parent has, or will have once it takes what is in C
abbrev pub upward : View → ℕ
upward w = choose (installs w.link.c) w.link.up w.above.value

-- The clauses on the link of k, with the last stored value v.
pub record LinkOk (v : ℕ) (w : View) (k : ℕ) : Type 0 where
  pub grants : grant_token w k ≡ true
  pub probes : probe_token w ≡ true
  pub releases : release_token w k ≡ true
  pub agree : agrees w.rights w.entry w.link.c w.link.kept w.link.d ≡ true
  pub exact : exactly w.rights w.entry w.link.c w.link.kept w.link.d ≡ true
  -- COPY: a clean copy is what the parent has
  pub copy : w.rights ≢ rights_n → w.below.dirty ≡ false → w.below.value ≡ upward w
  -- COPY-GNT: granted data is what the parent has
  pub granted : carries_down w.link.d ≡ true → w.link.down ≡ w.above.value
  -- LAST-LINK: where the trunk ends on this link, the last value is what the parent has
  pub last : w.entry ≡ trunk → w.rights ≢ tip → upward w ≡ v

-- The clauses on the node x with the rights r, the fields m, the entries es and the sets ws (to-probe) and ps (pending).
pub record NodeOk (v x r : ℕ) (m : Node) (es : ℕ → ℕ) (ws ps : ℕ → Bool) : Type 0 where
  -- ROOT: the root is Tip
  pub root : x ≡ 0 → r ≡ tip
  -- ROW: beside a Trunk entry all are None
  pub row : (a b : ℕ) → a < node_limit → b < node_limit → a ≢ b → es a ≡ trunk → es b ≡ none
  -- PROBE: an open probe is served in Idle, Wait or Leaving
  pub probe : m.probe ≡ true → serves_probes m.phase ≡ true
  -- SETS: a set has members only in Clear or while the probe is open
  pub sets : (k : ℕ) → k < node_limit → (ws k || ps k) ≡ true → (eqb m.phase clear || m.probe) ≡ true
  -- DISJ: no child is in both sets
  pub apart : (k : ℕ) → k < node_limit → ws k ≡ true → ps k ≡ false
  -- LAST: Tip with no Trunk entry holds the last value
  pub last : r ≡ tip → ((k : ℕ) → k < node_limit → es k ≢ trunk) → m.value ≡ v

-- The invariant: the clauses at every link and node of a configuration on a good tree.
pub record Inv (s : State) (v : ℕ) : Type 0 where
  pub sized : Sized s
  pub tree : good_tree s ≡ true
  pub valid : configuration_ok s ≡ true
  pub links : (k : ℕ) → 0 < k → k < s.count → LinkOk v (view s k) k
  pub nodes : (x : ℕ) → x < s.count → NodeOk v x (rights s x) (node s x) (entry s x) (to_probe s x) (pending s x)
