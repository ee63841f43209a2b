-- What the messages are: which carry a value, which answer a Probe, which release, which grant.
use Rattle.std.specs.Prelude.{Bool, true, false, ℕ}
use Rattle.rules.specs.Codes.{rights_b, tip, branch, trunk}
use Rattle.rules.specs.Cases.{per_up, per_down}

-- slot C: the message has a value
unfoldable pub carries_up : ℕ → Bool
carries_up = per_up record { empty = false; probe_ack = false; probe_ack_data = true; release = false; release_data = true; outside = false }

-- "data: value set, dirty": the parent installs the value
unfoldable pub installs : ℕ → Bool
installs = per_up record { empty = false; probe_ack = false; probe_ack_data = true; release = false; release_data = true; outside = false }

-- "data only from a Trunk entry"
unfoldable pub from_trunk : ℕ → Bool
from_trunk = per_up record { empty = false; probe_ack = false; probe_ack_data = true; release = false; release_data = true; outside = false }

unfoldable pub is_probe_ack : ℕ → Bool
is_probe_ack = per_up record { empty = false; probe_ack = true; probe_ack_data = true; release = false; release_data = false; outside = false }

unfoldable pub is_release : ℕ → Bool
is_release = per_up record { empty = false; probe_ack = false; probe_ack_data = false; release = true; release_data = true; outside = false }

-- slot D: the message is a Grant, and whether it has a value
unfoldable pub is_grant : ℕ → Bool
is_grant = per_down record { empty = false; grant_t = true; grant_data_t = true; grant_data_b = true; release_ack = false; outside = false }

unfoldable pub carries_down : ℕ → Bool
carries_down = per_down record { empty = false; grant_t = false; grant_data_t = true; grant_data_b = true; release_ack = false; outside = false }

-- "B for GrantDataB, else Tip"
unfoldable pub granted_rights : ℕ → ℕ
granted_rights = per_down record { empty = tip; grant_t = tip; grant_data_t = tip; grant_data_b = rights_b; release_ack = tip; outside = tip }

-- "entry Branch", "Trunk", "then Trunk"
unfoldable pub entry_for : ℕ → ℕ
entry_for = per_down record { empty = trunk; grant_t = trunk; grant_data_t = trunk; grant_data_b = branch; release_ack = trunk; outside = trunk }
