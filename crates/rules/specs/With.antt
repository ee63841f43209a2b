-- Printed by tools/print from crates/rules/src/lib.rt. A record with one field replaced: antt has no record update.
use Rattle.std.specs.Prelude.{Bool, ℕ}
use Rattle.rules.specs.declared.Scene.{Scene}
use Rattle.rules.specs.declared.Node.{Node}
use Rattle.rules.specs.declared.Link.{Link}

abbrev pub with_rights : Scene → ℕ → Scene
with_rights r v = record { rights = v; node = r.node; link = r.link; entry = r.entry; to_probe = r.to_probe; pending = r.pending; leaf = r.leaf; still = r.still; bare = r.bare; trunk = r.trunk; branch = r.branch; alone = r.alone }

abbrev pub with_node : Scene → Node → Scene
with_node r v = record { rights = r.rights; node = v; link = r.link; entry = r.entry; to_probe = r.to_probe; pending = r.pending; leaf = r.leaf; still = r.still; bare = r.bare; trunk = r.trunk; branch = r.branch; alone = r.alone }

abbrev pub with_link : Scene → Link → Scene
with_link r v = record { rights = r.rights; node = r.node; link = v; entry = r.entry; to_probe = r.to_probe; pending = r.pending; leaf = r.leaf; still = r.still; bare = r.bare; trunk = r.trunk; branch = r.branch; alone = r.alone }

abbrev pub with_entry : Scene → ℕ → Scene
with_entry r v = record { rights = r.rights; node = r.node; link = r.link; entry = v; to_probe = r.to_probe; pending = r.pending; leaf = r.leaf; still = r.still; bare = r.bare; trunk = r.trunk; branch = r.branch; alone = r.alone }

abbrev pub with_to_probe : Scene → Bool → Scene
with_to_probe r v = record { rights = r.rights; node = r.node; link = r.link; entry = r.entry; to_probe = v; pending = r.pending; leaf = r.leaf; still = r.still; bare = r.bare; trunk = r.trunk; branch = r.branch; alone = r.alone }

abbrev pub with_pending : Scene → Bool → Scene
with_pending r v = record { rights = r.rights; node = r.node; link = r.link; entry = r.entry; to_probe = r.to_probe; pending = v; leaf = r.leaf; still = r.still; bare = r.bare; trunk = r.trunk; branch = r.branch; alone = r.alone }

abbrev pub with_leaf : Scene → Bool → Scene
with_leaf r v = record { rights = r.rights; node = r.node; link = r.link; entry = r.entry; to_probe = r.to_probe; pending = r.pending; leaf = v; still = r.still; bare = r.bare; trunk = r.trunk; branch = r.branch; alone = r.alone }

abbrev pub with_still : Scene → Bool → Scene
with_still r v = record { rights = r.rights; node = r.node; link = r.link; entry = r.entry; to_probe = r.to_probe; pending = r.pending; leaf = r.leaf; still = v; bare = r.bare; trunk = r.trunk; branch = r.branch; alone = r.alone }

abbrev pub with_bare : Scene → Bool → Scene
with_bare r v = record { rights = r.rights; node = r.node; link = r.link; entry = r.entry; to_probe = r.to_probe; pending = r.pending; leaf = r.leaf; still = r.still; bare = v; trunk = r.trunk; branch = r.branch; alone = r.alone }

abbrev pub with_trunk : Scene → Bool → Scene
with_trunk r v = record { rights = r.rights; node = r.node; link = r.link; entry = r.entry; to_probe = r.to_probe; pending = r.pending; leaf = r.leaf; still = r.still; bare = r.bare; trunk = v; branch = r.branch; alone = r.alone }

abbrev pub with_branch : Scene → Bool → Scene
with_branch r v = record { rights = r.rights; node = r.node; link = r.link; entry = r.entry; to_probe = r.to_probe; pending = r.pending; leaf = r.leaf; still = r.still; bare = r.bare; trunk = r.trunk; branch = v; alone = r.alone }

abbrev pub with_alone : Scene → Bool → Scene
with_alone r v = record { rights = r.rights; node = r.node; link = r.link; entry = r.entry; to_probe = r.to_probe; pending = r.pending; leaf = r.leaf; still = r.still; bare = r.bare; trunk = r.trunk; branch = r.branch; alone = v }

abbrev pub with_dirty : Node → Bool → Node
with_dirty r v = record { dirty = v; value = r.value; phase = r.phase; purpose = r.purpose; requester = r.requester; probe = r.probe; cap = r.cap; release = r.release }

abbrev pub with_value : Node → ℕ → Node
with_value r v = record { dirty = r.dirty; value = v; phase = r.phase; purpose = r.purpose; requester = r.requester; probe = r.probe; cap = r.cap; release = r.release }

abbrev pub with_phase : Node → ℕ → Node
with_phase r v = record { dirty = r.dirty; value = r.value; phase = v; purpose = r.purpose; requester = r.requester; probe = r.probe; cap = r.cap; release = r.release }

abbrev pub with_purpose : Node → ℕ → Node
with_purpose r v = record { dirty = r.dirty; value = r.value; phase = r.phase; purpose = v; requester = r.requester; probe = r.probe; cap = r.cap; release = r.release }

abbrev pub with_requester : Node → ℕ → Node
with_requester r v = record { dirty = r.dirty; value = r.value; phase = r.phase; purpose = r.purpose; requester = v; probe = r.probe; cap = r.cap; release = r.release }

abbrev pub with_probe : Node → Bool → Node
with_probe r v = record { dirty = r.dirty; value = r.value; phase = r.phase; purpose = r.purpose; requester = r.requester; probe = v; cap = r.cap; release = r.release }

abbrev pub with_cap : Node → ℕ → Node
with_cap r v = record { dirty = r.dirty; value = r.value; phase = r.phase; purpose = r.purpose; requester = r.requester; probe = r.probe; cap = v; release = r.release }

abbrev pub with_release : Node → ℕ → Node
with_release r v = record { dirty = r.dirty; value = r.value; phase = r.phase; purpose = r.purpose; requester = r.requester; probe = r.probe; cap = r.cap; release = v }

abbrev pub with_a : Link → ℕ → Link
with_a r v = record { a = v; b = r.b; c = r.c; kept = r.kept; up = r.up; d = r.d; down = r.down; e = r.e }

abbrev pub with_b : Link → ℕ → Link
with_b r v = record { a = r.a; b = v; c = r.c; kept = r.kept; up = r.up; d = r.d; down = r.down; e = r.e }

abbrev pub with_c : Link → ℕ → Link
with_c r v = record { a = r.a; b = r.b; c = v; kept = r.kept; up = r.up; d = r.d; down = r.down; e = r.e }

abbrev pub with_kept : Link → ℕ → Link
with_kept r v = record { a = r.a; b = r.b; c = r.c; kept = v; up = r.up; d = r.d; down = r.down; e = r.e }

abbrev pub with_up : Link → ℕ → Link
with_up r v = record { a = r.a; b = r.b; c = r.c; kept = r.kept; up = v; d = r.d; down = r.down; e = r.e }

abbrev pub with_d : Link → ℕ → Link
with_d r v = record { a = r.a; b = r.b; c = r.c; kept = r.kept; up = r.up; d = v; down = r.down; e = r.e }

abbrev pub with_down : Link → ℕ → Link
with_down r v = record { a = r.a; b = r.b; c = r.c; kept = r.kept; up = r.up; d = r.d; down = v; e = r.e }

abbrev pub with_e : Link → ℕ → Link
with_e r v = record { a = r.a; b = r.b; c = r.c; kept = r.kept; up = r.up; d = r.d; down = r.down; e = v }
