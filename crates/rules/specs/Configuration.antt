-- Number 2: "Not a configuration", by what is spoken of: a node, its link, a pair of a node and a possible child, and where a node
-- stands. Each test says when its subject is right, and has the sentences of document 01's list beside it.
use Rattle.std.specs.Prelude.{Bool, true, false, not, ◌&&◌, ◌||◌, ℕ, eqb, leb, ltb}
use Rattle.std.specs.Bool.{beq}
use Rattle.words.specs.Vocab.{all}
use Rattle.rules.specs.Codes.{node_limit, rights_n, rights_b, tip, none, trunk, idle, no_cap, cap_n, no_child, empty, acquire_u, probe_n, release_data, release_ack, grant_ack}
use Rattle.rules.specs.Cases.{per_phase, per_purpose}
use Rattle.rules.specs.Cells.{parent, rights, entry, to_probe, pending, node, link}
use Rattle.rules.specs.Tree.{is_child, is_leaf}
use Rattle.rules.specs.Messages.{carries_up, carries_down, is_probe_ack}
use Rattle.rules.specs.declared.State.{State}
use Rattle.rules.specs.declared.Node.{Node}
use Rattle.rules.specs.declared.Link.{Link}

-- A node's copy of the line: "a code outside its list", "rights N with dirty set or value not 0, or B with dirty set".
unfoldable pub copy_ok : ℕ → Bool → ℕ → Bool
copy_ok r d v = leb r tip && (not (eqb r rights_n) || (not d && eqb v 0)) && (not (eqb r rights_b) || not d)

-- the phases of a load or a store, and of an evict
unfoldable pub serving : ℕ → Bool
serving = per_phase record { idle = false; clear = true; ask = true; wait = true; confirm = true; give = true; await = true; let_go = false; leaving = false; outside = false }

unfoldable pub evicting : ℕ → Bool
evicting = per_phase record { idle = false; clear = true; ask = false; wait = false; confirm = false; give = false; await = false; let_go = true; leaving = true; outside = false }

-- Its main transaction: "a code outside its list", "Idle with a purpose, or another phase without; evict outside Clear, LetGo, Leaving,
-- or load/store inside LetGo or Leaving".
unfoldable pub work_ok : ℕ → ℕ → Bool
work_ok ph = per_purpose record { none = eqb ph idle; load = serving ph; store = serving ph; evict = evicting ph; outside = false }

-- "Give or Await at a leaf"
unfoldable pub at_leaf : ℕ → Bool
at_leaf = per_phase record { idle = true; clear = true; ask = true; wait = true; confirm = true; give = false; await = false; let_go = true; leaving = true; outside = true }

unfoldable pub leaf_ok : Bool → ℕ → Bool
leaf_ok leaf ph = not leaf || at_leaf ph

-- a load or a store has a requester, at a non-leaf
unfoldable pub has_requester : ℕ → Bool
has_requester = per_purpose record { none = false; load = true; store = true; evict = false; outside = false }

-- "a requester missing for load/store at a non-leaf, or present elsewhere"
unfoldable pub requester_ok : Bool → ℕ → ℕ → Bool
requester_ok leaf pu q = beq (not (eqb q no_child)) (has_requester pu && not leaf)

-- "requester or release child that isn't a child of that node"
unfoldable pub child_ok : ℕ → Bool → Bool
child_ok q child = eqb q no_child || child

-- Its probe transaction: "a code outside its list", "a cap on a closed probe"; an open one has a cap.
unfoldable pub probe_ok : Bool → ℕ → Bool
probe_ok opened c = leb c cap_n && beq opened (not (eqb c no_cap))

-- All that is asked of the rights r and the fields m of a node, with the tests for its requester and for the child that it notes.
unfoldable pub node_ok : Bool → Bool → Bool → ℕ → Node → Bool
node_ok leaf asks leaves r m =
    copy_ok r m.dirty m.value && work_ok m.phase m.purpose && leaf_ok leaf m.phase && requester_ok leaf m.purpose m.requester
    && child_ok m.requester asks && child_ok m.release leaves && probe_ok m.probe m.cap

-- Slot C with its kept rights and its value: "a code outside its list", "a value in a message without data; kept rights on a message
-- other than ProbeAck; a nonzero field in an empty slot".
unfoldable pub up_ok : ℕ → ℕ → ℕ → Bool
up_ok c k v = leb c release_data && leb k rights_b && (is_probe_ack c || eqb k 0) && (carries_up c || eqb v 0)

-- Slot D with its value: the same.
unfoldable pub down_ok : ℕ → ℕ → Bool
down_ok d v = leb d release_ack && (carries_down d || eqb v 0)

-- All that is asked of the five slots of a link.
unfoldable pub link_ok : Link → Bool
link_ok l = leb l.a acquire_u && leb l.b probe_n && up_ok l.c l.kept l.up && down_ok l.d l.down && leb l.e grant_ack

-- "an entry, set member .. that isn't a child of that node", and an entry's code
unfoldable pub member_ok : Bool → ℕ → Bool → Bool → Bool
member_ok child e listed waits = leb e trunk && (child || (eqb e none && not listed && not waits))

-- "an entry not None at rights N; a Trunk entry at rights other than Tip"
unfoldable pub entry_ok : ℕ → ℕ → Bool
entry_ok r e = (eqb e none || not (eqb r rights_n)) && (not (eqb e trunk) || eqb r tip)

-- All that is asked of a node with the rights r and a possible child: its entry, and whether it is in to-probe and in pending.
unfoldable pub pair_ok : ℕ → Bool → ℕ → Bool → Bool → Bool
pair_ok r child e listed waits = member_ok child e listed waits && entry_ok r e

unfoldable pub slots_empty : Link → Bool
slots_empty l = eqb l.a empty && eqb l.b empty && eqb l.c empty && eqb l.d empty && eqb l.e empty

unfoldable pub blank : ℕ → Node → Bool
blank r m =
    eqb r 0 && not m.dirty && eqb m.value 0 && eqb m.phase 0 && eqb m.purpose 0 && eqb m.requester 0 && not m.probe && eqb m.cap 0 && eqb m.release 0

-- Where x stands, with the parent p: "a full slot on the root or beyond the last node; a nonzero parent at the root; a nonzero field
-- beyond the last node".
unfoldable pub stands_ok : ℕ → ℕ → ℕ → ℕ → Node → Link → Bool
stands_ok n x p r m l = ((ltb 0 x && ltb x n) || (eqb p 0 && slots_empty l)) && (ltb x n || blank r m)

-- the tests at x, by subject
abbrev pub own_at : State → ℕ → Bool
own_at s x = node_ok (is_leaf s x) (is_child s x (node s x).requester) (is_child s x (node s x).release) (rights s x) (node s x)

abbrev pub pair_at : State → ℕ → ℕ → Bool
pair_at s x k = pair_ok (rights s x) (is_child s x k) (entry s x k) (to_probe s x k) (pending s x k)

abbrev pub row_at : State → ℕ → Bool
row_at s x = all (pair_at s x) node_limit

abbrev pub stands_at : State → ℕ → Bool
stands_at s x = stands_ok s.count x (parent s x) (rights s x) (node s x) (link s x)

unfoldable pub right_at : State → ℕ → Bool
right_at s x = own_at s x && link_ok (link s x) && stands_at s x && row_at s x

-- no clause of the list is broken
unfoldable pub configuration_ok : State → Bool
configuration_ok s = all (right_at s) node_limit
