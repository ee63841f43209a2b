use borrow.Author.Rules.{rules}
use mathlib.Core.Path.{◌≡◌}
use Prim.Native.Nat.{◌<◌}
use lib.ListN.{length}
use Rattle.trails.specs.Trail.{room}
use Rattle.trails.proofs.Starting.{under, text_at_start, text_size, rest_stays, text_counts}
use Rattle.trails.proofs.trail.Goals as goal

pub returns : goal.returns
returns c =
    let long : length c.args.out.now ≡ room = search rules in
    let page = c.new-page.ensures in
    let w = under _ page.same_bytes page.start c.byte_at.ensures c.written.ensures c.trail_under.ensures.text in
    let fits : c.written.result < room = rw c.written.ensures c.trail_under.ensures.fits in
    record {
      text = text_at_start _ _ long fits w;
      size = text_size _ _ long fits w;
      rest = rest_stays _ _ long fits w;
      prefix = text_counts _ _ long fits w;
    }
