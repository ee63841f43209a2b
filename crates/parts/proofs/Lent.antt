-- The step as an owner sees it who lends the arrays of a configuration apart, and hands the node and the link over by value. Each
-- definition is, by its own words, the one of crate rules at a configuration with these parts.
use mathlib.Core.Path.{◌≡◌, ap, sym, ◌∙◌}
use mathlib.Core.Bool.{Bool, true, false, not, ◌&&◌}
use mathlib.Core.Logic.{◌⊎◌, inl, inr}
use mathlib.Core.List.{List, [], ◌∷◌}
use Prim.Native.Nat.{ℕ, ◌<◌}
use native.Mathlib.Omega.{arith}
use borrow.Author.Tests.{ltb-true}
use lib.ListN.{length, get_or, set}
use lib.Seq.{set-get_or, get_or-set_same}
use lib.Dec.{eqb, leb, ltb}
use Rattle.words.specs.Vocab.{choose}
use Rattle.words.proofs.Facts.{decided, choose_true, choose_false, by_test}
use Rattle.rules.specs.Codes.{node_limit, trunk, branch, accepts, bad_tree, bad_event, wrong_place, out_of_turn}
use Rattle.rules.specs.Cells.{blank_node, blank_link, cell, node, link}
use Rattle.rules.specs.Tree.{child_in, leaf_in}
use Rattle.rules.specs.Names.{some_in, none_in, others_none_in, sets_empty_in}
use Rattle.rules.specs.Table.{is_kind, kind_of}
use Rattle.rules.specs.Events.{other_fits, value_fits}
use Rattle.rules.specs.Refusals.{number_said, value_said, answer_said}
use Rattle.rules.specs.Step.{refused, end_of, link_there, probed_in, settled_node, refusal, first_of}
use Rattle.rules.specs.declared.State.{State}
use Rattle.rules.specs.declared.Node.{Node}
use Rattle.rules.specs.declared.Link.{Link}
use Rattle.rules.specs.declared.Scene.{Scene}
use Rattle.rules.specs.declared.Event.{Event}
use Rattle.rules.specs.declared.Answer.{Answer}
use Rattle.rules.specs.declared.Refusal.{Refusal}
use Rattle.rules.specs.declared.kinds.Row.{Row}
use Rattle.std.specs.Prelude.{Result}
use Rattle.needs.specs.Judged.{place_in, number_in}
use Rattle.parts.specs.Parts.{index_of, end_in, moved_of}
use Rattle.parts.proofs.Moving.{number, answer, moved_at}

-- the first number that applies, on the count and the parents
abbrev pub event_by : ℕ → List ℕ → Row → Event → Bool
event_by n ps r e = is_kind e.kind && ltb e.node n && other_fits r.other (child_in n ps e.node e.other) e.other && value_fits r.value e.value

abbrev pub turn_by : ℕ → List ℕ → Row → Scene → ℕ → ℕ → Event → Bool
turn_by n ps r v x j e = link_there r.end (child_in n ps x j) && (kind_of e.kind).needs v e

unfoldable pub number_by : ℕ → List ℕ → Row → Scene → ℕ → ℕ → Event → ℕ
number_by n ps r v x j e =
    first_of
    (refusal bad_tree (not (leb n node_limit)) ∷ refusal bad_event (not (event_by n ps r e)) ∷ refusal wrong_place (not (place_in r v e))
    ∷ refusal out_of_turn (not (turn_by n ps r v x j e)) ∷ [])

-- the scene of x and the link of j
abbrev pub scene_in : ℕ → List ℕ → List ℕ → List ℕ → List Bool → List Bool → Node → Link → ℕ → ℕ → Scene
scene_in n ps rs es ws us m l x j =
    record { rights = get_or rs x 0; node = m; link = l; entry = get_or es (cell x j) 0; to_probe = get_or ws (cell x j) false; pending = get_or us (cell x j) false; leaf = leaf_in n ps x; still = sets_empty_in ws us x; bare = none_in es x; trunk = some_in es x trunk; branch = some_in es x branch; alone = others_none_in es x j }

-- what stands in the parts after the event, and what it answers
pub record Parts : Type 0 where
  pub number : ℕ
  pub value : ℕ
  pub rights : List ℕ
  pub entries : List ℕ
  pub to_probe : List Bool
  pub pending : List Bool
  pub node : Node
  pub link : Link

-- a refusal leaves the parts as they came
abbrev pub stays_as : ℕ → List ℕ → List ℕ → List Bool → List Bool → Node → Link → Parts
stays_as k rs es ws us m l = record { number = k; value = 0; rights = rs; entries = es; to_probe = ws; pending = us; node = m; link = l }

-- an accepted event: the effect w at the scene v, with the row r of its kind, written at x and j
abbrev pub becomes : List ℕ → List ℕ → List Bool → List Bool → Row → ℕ → ℕ → Event → Scene → Scene → Parts
becomes rs es ws us r x j e v w =
    record { number = accepts; value = (kind_of e.kind).says v; rights = set rs x w.rights; entries = set es (cell x j) w.entry; to_probe = probed_in r.probes v e.other es x (set ws (cell x j) w.to_probe); pending = set us (cell x j) w.pending; node = settled_node r.settles (sets_empty_in (probed_in r.probes v e.other es x (set ws (cell x j) w.to_probe)) (set us (cell x j) w.pending) x) w.node w.rights; link = w.link }

-- the event at the scene v of node x and the link of j
unfoldable pub parts_by : ℕ → List ℕ → List ℕ → List ℕ → List Bool → List Bool → Node → Link → Row → ℕ → ℕ → Event → Scene → Parts
parts_by n ps rs es ws us m l r x j e v =
    choose (eqb (number_by n ps r v x j e) accepts) (becomes rs es ws us r x j e v ((kind_of e.kind).does v e))
    (stays_as (number_by n ps r v x j e) rs es ws us m l)

abbrev pub parts_at : ℕ → List ℕ → List ℕ → List ℕ → List Bool → List Bool → Node → Link → Row → ℕ → ℕ → Event → Parts
parts_at n ps rs es ws us m l r x j e = parts_by n ps rs es ws us m l r x j e (scene_in n ps rs es ws us m l x j)

-- the event, at the node and on the link that it names
unfoldable pub parts_in : ℕ → List ℕ → List ℕ → List ℕ → List Bool → List Bool → Node → Link → Event → Parts
parts_in n ps rs es ws us m l e = parts_at n ps rs es ws us m l (kind_of e.kind).row (index_of e.node) (end_in e m) e

-- what is handed back beside the lent arrays
pub record Acted : Type 0 where
  pub number : ℕ
  pub value : ℕ
  pub node : Node
  pub link : Link

-- the lent arrays and what was handed back are those of the parts p
pub record Landed (p : Parts) (rs es : List ℕ) (ws us : List Bool) (r : Acted) : Type 0 where
  pub number : r.number ≡ p.number
  pub value : r.value ≡ p.value
  pub rights : rs ≡ p.rights
  pub entries : es ≡ p.entries
  pub to_probe : ws ≡ p.to_probe
  pub pending : us ≡ p.pending
  pub node : r.node ≡ p.node
  pub link : r.link ≡ p.link

-- the parts of a configuration, put back at x and j
abbrev whole : State → ℕ → ℕ → Parts → Answer
whole s x j p =
    record { number = p.number; value = p.value; state = record { count = s.count; parents = s.parents; rights = p.rights; entries = p.entries; to_probe = p.to_probe; pending = p.pending; nodes = set s.nodes x p.node; links = set s.links j p.link } }

-- the parts of s, at x and j
abbrev parts_of : State → ℕ → ℕ → Event → Parts
parts_of s x j e =
    parts_at s.count s.parents s.rights s.entries s.to_probe s.pending (node s x) (link s j) (kind_of e.kind).row x j e

module _ (s : State) (e : Event) where
  -- a refusal puts back what was there
  put_back : (x j k : ℕ) → whole s x j (stays_as k s.rights s.entries s.to_probe s.pending (node s x) (link s j)) ≡ refused k s
  put_back x j k = simp set-get_or

  at_place : (x j : ℕ) → whole s x j (parts_of s x j e) ≡ answer s e (number s e x j) x j
  unfolding parts_by number_by number_in
  at_place x j = go (decided (eqb (number s e x j) accepts))
    where
      go : (eqb (number s e x j) accepts ≡ true) ⊎ (eqb (number s e x j) accepts ≡ false) → whole s x j (parts_of s x j e) ≡ answer s e (number s e x j) x j
      go (inl h) = ap (whole s x j) (choose_true _ _ h) ∙ sym (choose_true _ _ h)
      go (inr h) = ap (whole s x j) (choose_false _ _ h) ∙ put_back x j (number s e x j) ∙ sym (choose_false _ _ h)

  here : (x j : ℕ) → x ≡ index_of e.node → j ≡ end_in e (node s x)
      → whole s x j (parts_in s.count s.parents s.rights s.entries s.to_probe s.pending (node s x) (link s j) e) ≡ moved_of s e
  unfolding parts_in
  here x j p q = rw (q, p) (at_place (index_of e.node) (end_in e (node s (index_of e.node))) ∙ moved_at s e)

-- what an owner cites: its parts after the event are its configuration's step
pub moves : (s : State) (e : Event) {x j : ℕ} {rs es : List ℕ} {ws us : List Bool} {a : Acted}
    → x ≡ index_of e.node → j ≡ end_in e (node s x)
    → Landed (parts_in s.count s.parents s.rights s.entries s.to_probe s.pending (node s x) (link s j) e) rs es ws us a
    → ◌≡◌ {A = Answer}
    (record { number = a.number; value = a.value; state = record { count = s.count; parents = s.parents; rights = rs; entries = es; to_probe = ws; pending = us; nodes = set s.nodes x a.node; links = set s.links j a.link } })
    (moved_of s e)
moves s e {x} {j} p q d = rw (d.number, d.value, d.rights, d.entries, d.to_probe, d.pending, d.node, d.link) (here s e x j p q)

-- an index is within the arrays
index_low : (k : ℕ) → index_of k < node_limit
unfolding index_of
index_low k = by_test (λ i. i < node_limit) (ltb k node_limit) k 0 (λ h. ltb-true k node_limit h) (λ h. omega arith)

-- what `act` promises, part by part: t is what it leaves of s, whose nodes and links are as many as its type says
pub lands : (s t : State) (e : Event) (q : Result ℕ Refusal) {x j : ℕ} → length s.nodes ≡ node_limit → length s.links ≡ node_limit
    → x ≡ index_of e.node → j ≡ end_in e (node s x) → answer_said q t ≡ moved_of s e
    → Landed (parts_in s.count s.parents s.rights s.entries s.to_probe s.pending (node s x) (link s j) e) t.rights t.entries t.to_probe t.pending
    (record { number = number_said q; value = value_said q; node = node t x; link = link t j })
unfolding end_in
lands s t e q {x} {j} m l f g h =
    let k = h ∙ sym (here s e x j f g) in
    record {
      number = ap (λ (a : Answer). a.number) k;
      value = ap (λ (a : Answer). a.value) k;
      rights = ap (λ (a : Answer). a.state.rights) k;
      entries = ap (λ (a : Answer). a.state.entries) k;
      to_probe = ap (λ (a : Answer). a.state.to_probe) k;
      pending = ap (λ (a : Answer). a.state.pending) k;
      node = ap (λ (a : Answer). node a.state x) k ∙ get_or-set_same s.nodes x _ blank_node (omega (arith, m, f, index_low e.node));
      link = ap (λ (a : Answer). link a.state j) k ∙ get_or-set_same s.links j _ blank_link (omega (arith, l, g, index_low (end_of (kind_of e.kind).row.end (node s x) e.node e.other)));
    }
