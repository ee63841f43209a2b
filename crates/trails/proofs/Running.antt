-- The loop over the events: what is left to write makes the whole text of what was written.
use mathlib.Core.Path.{◌≡◌, refl, ◌∙◌, sym, ap, subst, subst⁻¹}
use mathlib.Core.Bool.{Bool, true, false, ◌&&◌}
use mathlib.Core.List.{List, ◌++◌}
use Prim.Native.Nat.{ℕ, zero, suc, ◌+◌, ◌-◌, ◌<◌, ◌≤◌}
use native.Mathlib.Numerals.{add-one}
use native.Mathlib.Omega.{arith}
use borrow.Author.Tests.{le-leb, lt-leb, leb-true, eq-eqb, ne_eqb}
use lib.ListN.{length, take, drop, get_or, set, length-drop}
use lib.Seq.{take_all, take-suc, take-suc-set, get_or-drop}
use lib.Dec.{leb, eqb}
use Rattle.words.proofs.Facts.{choose_true, choose_false}
use Rattle.rules.specs.Codes.{node_limit}
use Rattle.rules.specs.Tree.{good_tree}
use Rattle.rules.specs.Step.{onward_of}
use Rattle.rules.specs.declared.State.{State}
use Rattle.rules.specs.declared.Event.{Event}
use Rattle.rules.specs.declared.Answer.{Answer}
use Rattle.octets.specs.Fields.{event_size}
use Rattle.octets.specs.Prefixed.{window, reach, length_at}
use Rattle.octets.specs.Written.{Adds}
use Rattle.octets.specs.declared.page.Page.{Page}
use Rattle.octets.proofs.Pages.{adds_then}
use Rattle.lines.proofs.Composing.{bad_near, end_near}
use Rattle.parts.proofs.Moving.{within_limit}
use Rattle.lines.specs.Lines.{line, names_by, end_line}
use Rattle.trails.specs.Trail.{record_size, record_at, record_ok, event_of, closing, events_from, line_of}

-- the rest, put on the page s, makes t of what stood there at first
pub record Left (s₀ : Page) (t : List ℕ) (s : Page) (rest : List ℕ) : Type 0 where
  pub then : {e : Page} → Adds s rest e → Adds s₀ t e

left_less : {s₀ s e : Page} {t : List ℕ} (u rest : List ℕ) → Left s₀ t s (u ++ rest) → Adds s u e → Left s₀ t e rest
left_less u rest l w = record { then = λ v. l.then (adds_then u rest w v) }

-- where no good record stands
and_no : (a b : Bool) → b ≡ false → (a && b) ≡ false
and_no true b e = e
and_no false b e = refl

pub cut : (s : List ℕ) (at k : ℕ) → reach s ≤ at + k → k < record_size → record_ok s at ≡ false
unfolding record_ok
cut s at k h l = rw (lt-leb (at + record_size) (reach s) (omega arith))

pub ended : (s : List ℕ) (at : ℕ) → length s ≤ at → record_ok s at ≡ false
ended s at h = cut s at 0 (omega arith) (omega arith)

pub wrong : (s : List ℕ) (at : ℕ) {r : List ℕ} {v : ℕ} → r ≡ record_at s at → v ≡ length_at r 0 → (v ≡ event_size → ⊥) → record_ok s at ≡ false
unfolding record_ok
wrong s at {r} {v} e f n =
    let g : length_at (record_at s at) 0 ≡ v = rw (← e) (sym f) in
    and_no (leb (at + record_size) (reach s)) (eqb (length_at (record_at s at) 0) event_size) (rw g (ne_eqb v event_size n))

-- where one stands
pub whole : (s : List ℕ) (at : ℕ) {r : List ℕ} {v : ℕ} → r ≡ record_at s at → v ≡ length_at r 0 → v ≡ event_size → at + record_size ≤ reach s → record_ok s at ≡ true
unfolding record_ok
whole s at {r} {v} e f g h =
    let q : length_at (record_at s at) 0 ≡ event_size = rw (← e) (sym f ∙ g) in
    rw (le-leb (at + record_size) (reach s) h) (eq-eqb (length_at (record_at s at) 0) event_size q)

-- the record that is copied out of the input, and a byte more of it
pub copied : (s r : List ℕ) (at k : ℕ) → length r ≡ record_size → record_size ≤ k → k ≤ record_size → take k r ≡ take k (drop at s) → r ≡ record_at s at
copied s r at k h l m e =
    let n : k ≡ record_size = omega arith in
    sym (take_all record_size r (omega arith)) ∙ rw n at e

pub byte_more : (r s : List ℕ) (at k : ℕ) → length r ≡ record_size → k < record_size → at + k < length s → take k r ≡ take k (drop at s) → take (k + 1) (set r k (get_or s (at + k) 0)) ≡ take (k + 1) (drop at s)
byte_more r s at k h l g e =
    let m : k < length r = omega arith in
    let n : k < length (drop at s) = rw length-drop (omega arith) in
    rw (add-one, take-suc-set r k, take-suc (drop at s) k 0, get_or-drop at s, e)

-- what the definition says at a good record, and elsewhere
stops : (v n : ℕ) (s : List ℕ) (at i : ℕ) (c : State) → record_ok s at ≡ false → events_from v n s at i c ≡ closing s at c
unfolding events_from
stops v zero s at i c h = refl
stops v (suc n) s at i c h = choose_false _ _ h

goes : (v n m : ℕ) (s : List ℕ) (at i : ℕ) (c : State) → n ≡ suc m → record_ok s at ≡ true → events_from v n s at i c ≡ line_of i (event_of v (record_at s at)) (onward_of c (event_of v (record_at s at))) ++ events_from v m s (at + record_size) (i + 1) (onward_of c (event_of v (record_at s at))).state
unfolding events_from
goes v n m s at i c e h = rw e (choose_true _ _ h)

-- how many records more the definition looks for, once the next has the index i
abbrev pub more : ℕ → ℕ
more i = window + 1 - i

-- a turn of the loop
pub turned : {s₀ d d' : Page} {t : List ℕ} (v : ℕ) (s : List ℕ) (at i : ℕ) (c : State) {r : List ℕ} {e : Event} {a : Answer}
    → Left s₀ t d (events_from v (more i) s at i c) → i ≤ window → r ≡ record_at s at → record_ok s at ≡ true
    → e ≡ event_of v r → a ≡ onward_of c e → Adds d (line i e.kind e.node a.number a.value) d'
    → Left s₀ t d' (events_from v (more (i + 1)) s (at + record_size) (i + 1) a.state)
turned {s₀} {d} {d'} {t} v s at i c {r} {e} {a} l h q ok f g w =
    let x : Event = event_of v (record_at s at) in
    let b : Answer = onward_of c x in
    let z : e ≡ x = f ∙ ap (event_of v) q in
    let k : a ≡ b = g ∙ ap (onward_of c) z in
    let u : Adds d (line i x.kind x.node b.number b.value) d' =
    subst (λ (z : Answer). Adds d (line i x.kind x.node z.number z.value) d') k
    (subst (λ (y : Event). Adds d (line i y.kind y.node a.number a.value) d') z w) in
    subst⁻¹ (λ (z : Answer). Left s₀ t d' (events_from v (more (i + 1)) s (at + record_size) (i + 1) z.state)) k
    (left_less (line_of i x (onward_of c x)) _ (rw (goes v (more i) (more (i + 1)) s at i c (omega arith) ok) at l) u)

-- the last line: z is the offset with which the loop was left
pub closes : {s₀ d d' : Page} {t : List ℕ} {z : ℕ} (v n : ℕ) (s : List ℕ) (at i : ℕ) (c : State) → Left s₀ t d (events_from v n s at i c) → z ≡ at → record_ok s at ≡ false → Adds d (closing s z c) d' → Adds s₀ t d'
closes v n s at i c l e h w = l.then (rw (stops v n s at i c h, ← e) w)

-- a good tree has few names
pub end_close : {d d' : Page} (c : State) → good_tree c ≡ true → Adds d (end_line (names_by c.rights c.entries c.count)) d' → d'.at ≤ d.at + 800
end_close c h w = end_near c.rights c.entries c.count w (let l = leb-true c.count node_limit (within_limit c h) in omega arith)

pub ruleset closings = (end_close, bad_near)
