use borrow.Author.Rules.{rules}
use native.Mathlib.Omega.{arith}
use Prim.Native.Nat.{◌+◌, ◌≤◌}
use mathlib.Core.Bool.{true, false}
use mathlib.Core.Path.{◌≡◌, subst⁻¹}
use Rattle.octets.specs.Prefixed.{reach}
use Rattle.rules.specs.Tree.{good_tree}
use Rattle.rules.specs.declared.Answer.{Answer}
use Rattle.laws.proofs.Onward.{onward_tree}
use Rattle.parts.proofs.Moving.{onward_good}
use Rattle.trails.specs.Trail.{record_size, record_ok}
use Rattle.trails.proofs.Running.{byte_more, copied, ended, cut, wrong, whole, turned, closes}
use Rattle.trails.proofs.run.events.Goals as goal
use Rattle.trails.proofs.run.events.Goals.{then-at-input, else-at-input+then-loop-k-test+then-at-k, else-at-input+else-loop-k-test+then-length_at}

pub loop-k-preserved : goal.loop-k-preserved
loop-k-preserved c = record {
  long = search (c.loop-k.invariant.long, rules);
  in_reach = omega arith;
  copied = byte_more _ _ _ _ c.loop-k.invariant.long c.loop-k-test.true (omega arith) c.loop-k.invariant.copied;
}

pub events-preserved : goal.events-preserved
events-preserved c =
    let s = c.args.input.now in
    let at = c.events.at in
    let q = copied s c.loop-k.bytes at c.loop-k.k c.loop-k-test.array_long c.loop-k-test.false c.loop-k.auto.k-end c.loop-k.invariant.copied in
    let reached : at + record_size ≤ reach s = omega arith in
    let ok = whole s at q c.length_at.ensures c.if-length_at.false reached in
    let g = onward_good _ _ c.events.invariant.tree c.act-answer.ensures in
    record {
      tree = subst⁻¹ (λ (a : Answer). good_tree a.state ≡ true) g (onward_tree _ _ c.events.invariant.tree);
      in_reach = omega arith;
      counted = omega arith;
      few = omega arith;
      room_left = omega arith;
      text = turned _ s at _ _ c.events.invariant.text (omega arith) q ok c.event-ev.ensures g c.put_next.ensures.text;
    }

-- where the outer loop was left, no good record stands
stopped : (c : goal.After-put_closing) → (c.if-at-input.end ≡ c.events.at) × (record_ok c.args.input.now c.events.at ≡ false)
stopped c =
    let s = c.args.input.now in
    let at = c.events.at in
    elim c.if-at-input.branch [
      | then-at-input w ↦ (w.end-is, ended s at w.if-at-input.true)
      | else-at-input+then-loop-k-test+then-at-k w ↦ (w.end-is, cut s at w.loop-k.k (omega arith) w.loop-k-test.true)
      | else-at-input+else-loop-k-test+then-length_at w ↦
          let r = w.loop-k in
          (w.end-is, wrong s at (copied s r.bytes at r.k w.loop-k-test.array_long w.loop-k-test.false r.auto.k-end r.invariant.copied) w.length_at.ensures w.if-length_at.true)
    ]

pub returns-clause-text : goal.returns-clause-text
returns-clause-text c =
    let g = stopped c in
    closes _ _ _ _ _ _ c.events.invariant.text g.0 g.1 c.put_closing.ensures.text
