-- The outer loop: what was written and what is left make the whole text, and each event took a line of at most 39. The inner
-- loop: the first k bytes of the record are copied.
use Rattle.octets.specs.Prefixed.{window}
use Rattle.rules.specs.Tree.{good_tree}
use Rattle.std.proofs.Common.{◌≡◌, ◌+◌, ◌-◌, ◌*◌, ◌≤◌, length, take, drop, true}
use Rattle.trails.proofs.Running.{Left, more}
use Rattle.trails.proofs.run.events.Given as goal
use Rattle.trails.specs.Trail.{record_size, events_from}

abbrev pub invariant-loop-k : goal.invariant-loop-k
invariant-loop-k l = record {
  long : length l.bytes ≡ record_size;
  in_reach : l.at + l.k ≤ l.limit;
  copied : take l.k l.bytes ≡ take l.k (drop l.at l.input);
}

abbrev pub invariant-events : goal.invariant-events
invariant-events l = record {
  tree : good_tree l.s ≡ true;
  in_reach : l.at ≤ l.limit;
  counted : 1 ≤ l.index;
  few : 13 * l.index ≤ l.at + 1;
  room_left : l.page.at + 39 ≤ 39 * l.index;
  text : Left l.initial.page (events_from l.version window l.input l.first 1 l.fn.s) l.page
      (events_from l.version (more l.index) l.input l.at l.index l.s);
}

abbrev pub decreases-events : goal.decreases-events
decreases-events l = l.limit - l.at
