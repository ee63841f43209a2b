-- The trail as a whole: its version, its first record, and its text in the buffer.
use mathlib.Core.Path.{◌≡◌, refl, ◌∙◌, sym, ap}
use mathlib.Core.Logic.{◌≢◌}
use mathlib.Core.Bool.{true, false, not}
use mathlib.Core.List.{List, ◌++◌}
use Prim.Native.Nat.{ℕ, ◌+◌, ◌^◌, ◌<◌, ◌≤◌}
use native.Mathlib.Omega.{arith}
use borrow.Author.Tests.{le-leb, lt-leb, leb-true, ne_eqb}
use lib.ListN.{length, take, drop, take-append-drop}
use lib.Seq.{sets-eq, length-sets, take_at, drop_at}
use lib.Dec.{leb}
use Rattle.words.proofs.Facts.{choose_true, choose_false}
use Rattle.io.specs.Counts.{IsPrefixLen}
use Rattle.rules.specs.Codes.{accepts}
use Rattle.std.specs.Prelude.{Result, Ok, Err}
use Rattle.rules.specs.Refusals.{number_of, reset_said}
use Rattle.rules.specs.declared.Answer.{Answer}
use Rattle.rules.specs.declared.State.{State}
use Rattle.rules.specs.declared.Refusal.{Refusal}
use Rattle.laws.proofs.Results.{has_number}
use Rattle.octets.specs.Prefixed.{window, reach}
use Rattle.octets.specs.Versions.{longest_first, known}
use Rattle.octets.specs.Written.{Wrote, Adds}
use Rattle.octets.specs.declared.page.Page.{Page}
use Rattle.octets.proofs.Pages.{adds_wrote}
use Rattle.opening.specs.Opening.{first_length, reset_by}
use Rattle.opening.proofs.Opened.{opened_first, opened_tree}
use Rattle.lines.specs.Lines.{bad_line}
use Rattle.lines.proofs.Composing.{bad_near}
use Rattle.trails.specs.Trail.{room, events_from, started_from, version_of, trail_under, trail_of}

-- `bad 0` and `bad 1` alone on a page
pub bad_alone : {d d' : Page} (p : ℕ) → d.at ≡ 0 → Adds d (bad_line p) d' → leb p 1 ≡ true → d'.at < room
bad_alone p e w h = let l : p ≤ 1 = leb-true p 1 h in omega (arith, bad_near p w (omega arith))

-- the three ways of a trail: m is the longest first record that the version allows
module _ {m : ℕ} (v : ℕ) (s : List ℕ) (e : m ≡ longest_first v) where
  unversioned : m ≡ 0 → trail_under v s ≡ bad_line 0
  unfolding trail_under
  unversioned h = let t : known v ≡ false = rw (← e) (lt-leb 1 m (omega (arith, h))) in choose_true _ _ (ap not t)

  versioned : {a : Answer} → m ≢ 0 → a ≡ reset_by v s → trail_under v s ≡ started_from v s a
  unfolding trail_under
  versioned h f = let t : known v ≡ true = rw (← e) (le-leb 1 m (omega (arith, h))) in choose_false _ _ (ap not t) ∙ rw f

module _ {d d' : Page} {m : ℕ} (v : ℕ) (s : List ℕ) (e : m ≡ longest_first v) where
  pub no_version : m ≡ 0 → Adds d (bad_line 0) d' → Adds d (trail_under v s) d'
  no_version h w = rw (unversioned v s e h) w

  pub no_first : {q : Result State Refusal} {k : Refusal} → m ≢ 0 → reset_said q ≡ reset_by v s → q ≡ Err k → Adds d (bad_line 1) d' → Adds d (trail_under v s) d'
  unfolding started_from
  no_first {q} {k} h f is w = rw (versioned v s e h (rw is at f), choose_false _ _ (ne_eqb (number_of k) accepts (has_number k))) w

  pub with_first : {n : ℕ} {q : Result State Refusal} {c : State} → m ≢ 0 → reset_said q ≡ reset_by v s → q ≡ Ok c → n ≡ first_length s → Adds d (events_from v window s (3 + n) 1 c) d' → Adds d (trail_under v s) d'
  unfolding started_from
  with_first h f is g w = rw (versioned v s e h (rw is at f) ∙ choose_true _ _ refl) (rw g at w)

-- where a good first record ends
module _ (v : ℕ) (s : List ℕ) {n : ℕ} {q : Result State Refusal} {c : State} (e : reset_said q ≡ reset_by v s) (is : q ≡ Ok c) (f : n ≡ first_length s) where
  pub first_low : 12 ≤ 3 + n
  first_low = omega (arith, (opened_first v s e is).low)

  pub first_whole : 3 + n ≤ reach s
  first_whole = omega (arith, (opened_first v s e is).whole)

  pub first_fits : 3 + n < 2 ^ 64
  first_fits = omega (arith, first_whole)

pub ruleset ways = (no_version, no_first, with_first, bad_alone, opened_tree, first_low, first_whole, first_fits)

-- a page of the whole buffer, written from its start
pub under : {d d' : Page} {o : List ℕ} {v r : ℕ} (s : List ℕ) → d.out.now ≡ o → d.at ≡ 0 → v ≡ version_of s → r ≡ d'.at → Adds d (trail_under v s) d' → Wrote o 0 (trail_of s) d'.out.now r
under s e f g h w = rw (e, f, g, ← h) at (adds_wrote w)

-- a text at the start of the buffer, and what stands after it
module _ (o t : List ℕ) {o' : List ℕ} {r : ℕ} (n : length o ≡ room) (h : r < room) (w : Wrote o 0 t o' r) where
  size : length t ≡ r
  size = omega (arith, w.next)

  whole : o' ≡ t ++ drop (0 + length t) o
  whole = w.buffer ∙ sets-eq t o 0 (omega (arith, size))

  pub text_at_start : take r o' ≡ t
  text_at_start = rw whole (take_at t (drop (0 + length t) o) r size)

  pub rest_stays : drop r o' ≡ drop r o
  rest_stays = let e : 0 + length t ≡ r = omega (arith, size) in rw whole (drop_at t (drop (0 + length t) o) r size ∙ rw e)

  pub text_size : r ≡ length t
  text_size = sym size

  pub text_counts : IsPrefixLen r o'
  text_counts = (rw (w.buffer, length-sets o 0 t) (omega arith), rw text_at_start text_size)

-- what `trail` promises leaves one length and one buffer
pub one_text : (t old o o' : List ℕ) (r r' : ℕ) → take r o ≡ t → r ≡ length t → drop r o ≡ drop r old → take r' o' ≡ t → r' ≡ length t → drop r' o' ≡ drop r' old → (r ≡ r') × (o ≡ o')
one_text t old o o' r r' a n b c m d =
    let e : r ≡ r' = n ∙ sym m in
    let f : drop r o ≡ drop r' o' = b ∙ rw e (sym d) in
    (e, sym (take-append-drop r o) ∙ rw (a, f, ← c) (take-append-drop r' o'))
