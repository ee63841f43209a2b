-- The trail of document 01: from the bytes of the input to the whole output.
use Rattle.std.specs.Prelude.{Bool, not, ◌&&◌, List, ◌++◌, ℕ, zero, suc, ◌+◌, length, take, drop, eqb, leb}
use Rattle.words.specs.Vocab.{choose}
use Rattle.rules.specs.Step.{onward_of}
use Rattle.rules.specs.declared.State.{State}
use Rattle.rules.specs.declared.Event.{Event}
use Rattle.rules.specs.declared.Answer.{Answer}
use Rattle.octets.specs.BigEndian.{byte}
use Rattle.octets.specs.Fields.{event_at, event_size}
use Rattle.octets.specs.Prefixed.{prefix_size, length_at, window, reach}
use Rattle.octets.specs.Versions.{known}
use Rattle.opening.specs.Opening.{first_length, reset_by}
use Rattle.lines.specs.Lines.{line, names_by, end_line, bad_line}

-- "one version byte 1"; where it is missing, `byte` has 0
abbrev pub version_of : List ℕ → ℕ
version_of s = byte s 0

-- "Others: length 11: kind, node, other, value in 8 bytes.": the bytes of such a record with its length
abbrev pub record_size : ℕ
record_size = prefix_size + event_size

abbrev pub record_at : List ℕ → ℕ → List ℕ
record_at s at = take record_size (drop at s)

unfoldable pub record_ok : List ℕ → ℕ → Bool
record_ok s at = leb (at + record_size) (reach s) && eqb (length_at (record_at s at) 0) event_size

-- the event of a record, as a trail of version v reads it: version 1 takes the fields as they stand
unfoldable pub event_of : ℕ → List ℕ → Event
event_of v r = event_at r prefix_size

-- "Per event it prints index from 1, kind, node, number, answer value"
abbrev pub line_of : ℕ → Event → Answer → List ℕ
line_of i e a = line i e.kind e.node a.number a.value

-- where no good record stands at `at`: "the input ends or a record is bad"
unfoldable pub closing_in : List ℕ → ℕ → ℕ → List ℕ → List ℕ → List ℕ
closing_in s at n rs es = choose (leb (length s) at) (end_line (names_by rs es n)) (bad_line at)

abbrev pub closing : List ℕ → ℕ → State → List ℕ
closing s at c = closing_in s at c.count c.rights c.entries

-- "reads one event after another": the text from the record at `at` on, whose event has the index i, in the configuration c;
-- n is as many records as the window could hold, and more
unfoldable pub events_from : ℕ → ℕ → List ℕ → ℕ → ℕ → State → List ℕ
events_from v zero s at i c = closing s at c
events_from v (suc n) s at i c =
    choose (record_ok s at)
    (line_of i (event_of v (record_at s at)) (onward_of c (event_of v (record_at s at)))
    ++ events_from v n s (at + record_size) (i + 1) (onward_of c (event_of v (record_at s at))).state)
    (closing s at c)

-- a bad first record is reset's number 1, that of a bad tree
unfoldable pub started_from : ℕ → List ℕ → Answer → List ℕ
started_from v s a = choose (eqb a.number 0) (events_from v window s (3 + first_length s) 1 a.state) (bad_line 1)

-- the whole output, under the version
unfoldable pub trail_under : ℕ → List ℕ → List ℕ
trail_under v s = choose (not (known v)) (bad_line 0) (started_from v s (reset_by v s))

abbrev pub trail_of : List ℕ → List ℕ
trail_of s = trail_under (version_of s) s

-- how many bytes the lent buffer has: more than the longest text
abbrev pub room : ℕ
room = 262144
