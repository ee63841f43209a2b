-- What a row of the event table sees, and the words of what it does, each as document 01 says it. A row is read from left to right:
-- `v ▷ empties_b ▷ opens c` is the scene v with B empty and the probe open.
use Rattle.std.specs.Prelude.{Bool, true, false, not, ◌&&◌, ℕ, eqb}
use Rattle.words.specs.Vocab.{choose}
use Rattle.rules.specs.Codes.{rights_n, trunk, branch, idle, no_purpose, no_cap, no_child, empty}
use Rattle.rules.specs.With.{with_dirty, with_value, with_phase, with_purpose, with_requester, with_probe, with_cap, with_release, with_a, with_b, with_c, with_kept, with_up, with_d, with_down, with_e, with_rights, with_node, with_link, with_entry, with_to_probe, with_pending}
use Rattle.rules.specs.Cells.{rights, entry, to_probe, pending, node, link}
use Rattle.rules.specs.Tree.{is_leaf}
use Rattle.rules.specs.Names.{sets_empty, no_entries, some_entry, no_other_entries, name_of}
use Rattle.rules.specs.Messages.{installs, carries_down}
use Rattle.rules.specs.declared.State.{State}
use Rattle.rules.specs.declared.Node.{Node}
use Rattle.rules.specs.declared.Link.{Link}
use Rattle.rules.specs.declared.Scene.{Scene}

-- node x and the link of j
abbrev pub scene_of : State → ℕ → ℕ → Scene
scene_of s x j =
    record { rights = rights s x; node = node s x; link = link s j; entry = entry s x j; to_probe = to_probe s x j; pending = pending s x j; leaf = is_leaf s x; still = sets_empty s x; bare = no_entries s x; trunk = some_entry s x trunk; branch = some_entry s x branch; alone = no_other_entries s x j }

-- the name of the node
abbrev pub name_in : Scene → ℕ
name_in v = name_of v.rights v.trunk v.branch

-- "all three transactions idle"
abbrev pub all_idle : Node → Bool
all_idle m = eqb m.phase idle && not m.probe && eqb m.release no_child

infixl 10 ◌▷◌
abbrev pub ◌▷◌ : Scene → (Scene → Scene) → Scene
v ▷ f = f v

-- the slots
abbrev pub fills_a : ℕ → Scene → Scene
fills_a a v = with_link v (with_a v.link a)

abbrev pub fills_b : ℕ → Scene → Scene
fills_b b v = with_link v (with_b v.link b)

-- a message in C, its kept rights and its value
abbrev pub filled_c : ℕ → ℕ → ℕ → Link → Link
filled_c c k x l = with_up (with_kept (with_c l c) k) x

abbrev pub fills_c : ℕ → ℕ → ℕ → Scene → Scene
fills_c c k x v = with_link v (filled_c c k x v.link)

-- a message in D and its value
abbrev pub filled_d : ℕ → ℕ → Link → Link
filled_d d x l = with_down (with_d l d) x

abbrev pub fills_d : ℕ → ℕ → Scene → Scene
fills_d d x v = with_link v (filled_d d x v.link)

abbrev pub fills_e : ℕ → Scene → Scene
fills_e e v = with_link v (with_e v.link e)

abbrev pub empties_a : Scene → Scene
empties_a = fills_a empty

abbrev pub empties_b : Scene → Scene
empties_b = fills_b empty

abbrev pub empties_c : Scene → Scene
empties_c = fills_c empty 0 0

abbrev pub empties_d : Scene → Scene
empties_d = fills_d empty 0

abbrev pub empties_e : Scene → Scene
empties_e = fills_e empty

-- the copy of the line
abbrev pub rights_become : ℕ → Scene → Scene
rights_become = λ r v. with_rights v r

-- "Rights N always set value 0 and clean."
unfoldable pub value_at : ℕ → ℕ → ℕ
value_at r x = choose (eqb r rights_n) 0 x

unfoldable pub dirty_at : ℕ → Bool → Bool
dirty_at r d = choose (eqb r rights_n) false d

abbrev pub rights_fall : ℕ → Scene → Scene
rights_fall r v = with_node (with_rights v r) (with_dirty (with_value v.node (value_at r v.node.value)) (dirty_at r v.node.dirty))

abbrev pub becomes_clean : Scene → Scene
becomes_clean v = with_node v (with_dirty v.node false)

-- "value set, dirty"
abbrev pub stored : ℕ → Node → Node
stored x m = with_dirty (with_value m x) true

abbrev pub value_set : ℕ → Scene → Scene
value_set x v = with_node v (stored x v.node)

-- "data: value set, dirty", with what the link l had in C
unfoldable pub data_taken : Link → Node → Node
data_taken l m = choose (installs l.c) (stored l.up m) m

abbrev pub takes_data : Link → Scene → Scene
takes_data l v = with_node v (data_taken l v.node)

-- "data installed", with what the link l had in D
unfoldable pub installed : ℕ → ℕ → ℕ → ℕ
installed d w x = choose (carries_down d) w x

abbrev pub data_installed : Link → Scene → Scene
data_installed l v = with_node v (with_value v.node (installed l.d l.down v.node.value))

-- the entry and the sets, of the child at the other end of the link
abbrev pub entry_becomes : ℕ → Scene → Scene
entry_becomes e v = with_entry v e

abbrev pub leaves_to_probe : Scene → Scene
leaves_to_probe v = with_to_probe v false

abbrev pub enters_pending : Scene → Scene
enters_pending v = with_pending v true

abbrev pub leaves_pending : Scene → Scene
leaves_pending v = with_pending v false

-- the main transaction
abbrev pub phase_becomes : ℕ → Scene → Scene
phase_becomes ph v = with_node v (with_phase v.node ph)

abbrev pub purpose_becomes : ℕ → Scene → Scene
purpose_becomes pu v = with_node v (with_purpose v.node pu)

abbrev pub requester_becomes : ℕ → Scene → Scene
requester_becomes q v = with_node v (with_requester v.node q)

-- "Idle clears purpose and requester."
abbrev pub idled : Node → Node
idled m = with_requester (with_purpose (with_phase m idle) no_purpose) no_child

abbrev pub becomes_idle : Scene → Scene
becomes_idle v = with_node v (idled v.node)

-- the probe transaction and the release transaction
abbrev pub opens : ℕ → Scene → Scene
opens c v = with_node v (with_cap (with_probe v.node true) c)

abbrev pub closes : Scene → Scene
closes v = with_node v (with_cap (with_probe v.node false) no_cap)

abbrev pub notes : ℕ → Scene → Scene
notes k v = with_node v (with_release v.node k)
