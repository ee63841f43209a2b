-- The codes of document 01's lists, in the order in which it gives them: "Zero is the first name of each list; a closed probe,
-- idle release, absent requester and empty slot are zero, so caps and messages count from 1." src/codes.rt says the same in the code.
use Rattle.std.specs.Prelude.{ℕ, ◌*◌}

-- "One cache line in a tree of 2 to 16 nodes."
abbrev pub node_least : ℕ
node_least = 2

abbrev pub node_limit : ℕ
node_limit = 16

-- one row of entries, or of a set, for each node
abbrev pub cells : ℕ
cells = node_limit * node_limit

-- "rights N, B or Tip"
abbrev pub rights_n : ℕ
rights_n = 0

abbrev pub rights_b : ℕ
rights_b = 1

abbrev pub tip : ℕ
tip = 2

-- how many codes the list has; the same for entries
abbrev pub levels : ℕ
levels = 3

-- "None, Branch or Trunk": an entry has the code of the rights that it says, so "entry becomes kept" copies a code
abbrev pub none : ℕ
none = 0

abbrev pub branch : ℕ
branch = 1

abbrev pub trunk : ℕ
trunk = 2

-- the names of a node
abbrev pub name_n : ℕ
name_n = 0

abbrev pub name_b : ℕ
name_b = 1

abbrev pub name_t : ℕ
name_t = 2

abbrev pub name_tb : ℕ
name_tb = 3

abbrev pub name_tt : ℕ
name_tt = 4

-- "phase Idle, Clear, Ask, Wait, Confirm, Give, Await, LetGo or Leaving"
abbrev pub idle : ℕ
idle = 0

abbrev pub clear : ℕ
clear = 1

abbrev pub ask : ℕ
ask = 2

abbrev pub wait : ℕ
wait = 3

abbrev pub confirm : ℕ
confirm = 4

abbrev pub give : ℕ
give = 5

abbrev pub await : ℕ
await = 6

abbrev pub let_go : ℕ
let_go = 7

abbrev pub leaving : ℕ
leaving = 8

abbrev pub phases : ℕ
phases = 9

-- "purpose none, load, store or evict"
abbrev pub no_purpose : ℕ
no_purpose = 0

abbrev pub to_load : ℕ
to_load = 1

abbrev pub to_store : ℕ
to_store = 2

abbrev pub to_evict : ℕ
to_evict = 3

abbrev pub purposes : ℕ
purposes = 4

-- "idle, or open with cap B or N"
abbrev pub no_cap : ℕ
no_cap = 0

abbrev pub cap_b : ℕ
cap_b = 1

abbrev pub cap_n : ℕ
cap_n = 2

-- how many codes a cap has, and the slot B with it
abbrev pub caps : ℕ
caps = 3

-- an absent requester, an idle release
abbrev pub no_child : ℕ
no_child = 0

abbrev pub empty : ℕ
empty = 0

-- "A (AcquireB, AcquireT, AcquireU)"
abbrev pub acquire_b : ℕ
acquire_b = 1

abbrev pub acquire_t : ℕ
acquire_t = 2

abbrev pub acquire_u : ℕ
acquire_u = 3

abbrev pub acquires : ℕ
acquires = 4

-- "B (ProbeB, ProbeN)"
abbrev pub probe_b : ℕ
probe_b = 1

abbrev pub probe_n : ℕ
probe_n = 2

-- "C (ProbeAck with kept rights N or B, with or without data; Release; ReleaseData)"
abbrev pub probe_ack : ℕ
probe_ack = 1

abbrev pub probe_ack_data : ℕ
probe_ack_data = 2

abbrev pub release : ℕ
release = 3

abbrev pub release_data : ℕ
release_data = 4

-- how many codes slot C has, and the rights that a ProbeAck may keep
abbrev pub ups : ℕ
ups = 5

abbrev pub keeps : ℕ
keeps = 2

-- "D (GrantT, GrantDataT, GrantDataB, ReleaseAck)"
abbrev pub grant_t : ℕ
grant_t = 1

abbrev pub grant_data_t : ℕ
grant_data_t = 2

abbrev pub grant_data_b : ℕ
grant_data_b = 3

abbrev pub release_ack : ℕ
release_ack = 4

-- how many codes slot D has
abbrev pub downs : ℕ
downs = 5

-- "E (GrantAck)"
abbrev pub grant_ack : ℕ
grant_ack = 1

-- "0 (shared) or 1 (sole) for 14"
abbrev pub shared : ℕ
shared = 0

abbrev pub sole : ℕ
sole = 1

-- the numbers a caller may get
abbrev pub accepts : ℕ
accepts = 0

abbrev pub bad_tree : ℕ
bad_tree = 1

abbrev pub not_a_configuration : ℕ
not_a_configuration = 2

abbrev pub bad_event : ℕ
bad_event = 3

abbrev pub wrong_place : ℕ
wrong_place = 4

abbrev pub out_of_turn : ℕ
out_of_turn = 5
