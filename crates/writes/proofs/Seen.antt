-- The fields of a node and of a link, by its number: what the proofs speak of.
use mathlib.Core.Bool.{Bool}
use Prim.Native.Nat.{ℕ}
use Rattle.rules.specs.Cells.{node, link}
use Rattle.rules.specs.declared.State.{State}

-- the fields of a node
abbrev pub dirty : State → ℕ → Bool
dirty s x = (node s x).dirty

abbrev pub phase : State → ℕ → ℕ
phase s x = (node s x).phase

abbrev pub purpose : State → ℕ → ℕ
purpose s x = (node s x).purpose

abbrev pub requester : State → ℕ → ℕ
requester s x = (node s x).requester

-- the probe transaction is open
abbrev pub probing : State → ℕ → Bool
probing s x = (node s x).probe

abbrev pub cap : State → ℕ → ℕ
cap s x = (node s x).cap

-- the child noted for a ReleaseAck
abbrev pub noted : State → ℕ → ℕ
noted s x = (node s x).release

-- the slots of the link of k
abbrev pub slot_a : State → ℕ → ℕ
slot_a s k = (link s k).a

abbrev pub slot_b : State → ℕ → ℕ
slot_b s k = (link s k).b

abbrev pub slot_c : State → ℕ → ℕ
slot_c s k = (link s k).c

abbrev pub kept : State → ℕ → ℕ
kept s k = (link s k).kept

abbrev pub up : State → ℕ → ℕ
up s k = (link s k).up

abbrev pub slot_d : State → ℕ → ℕ
slot_d s k = (link s k).d

abbrev pub down : State → ℕ → ℕ
down s k = (link s k).down

abbrev pub slot_e : State → ℕ → ℕ
slot_e s k = (link s k).e
