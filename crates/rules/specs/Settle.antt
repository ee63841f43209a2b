-- Settle, and which entries are probed for.
use Rattle.std.specs.Prelude.{Bool, true, false, ◌&&◌, ◌||◌, ℕ, eqb}
use Rattle.words.specs.Vocab.{choose}
use Rattle.rules.specs.Codes.{rights_n, tip, clear, ask, give, let_go}
use Rattle.rules.specs.Cases.{per_purpose}
use Rattle.rules.specs.declared.Node.{Node}
use Rattle.rules.specs.declared.kinds.Settles.{Settles}
use Rattle.rules.specs.declared.kinds.Settles.TheVariants.{Never, Again, Anew}

-- "load: Give unless rights are N, then Ask; store: Give at Tip, else Ask; evict: LetGo". Of no purpose document 01 says nothing.
unfoldable pub next_phase : ℕ → ℕ → ℕ
next_phase pu r = per_purpose record { none = clear; load = choose (eqb r rights_n) ask give; store = choose (eqb r tip) give ask; evict = let_go; outside = clear } pu

-- "if both sets are empty, and the purpose is new or main was in Clear, the phase becomes: ..
-- A new purpose with members in to-probe is Clear."
unfoldable pub phase_after : Bool → Bool → ℕ → ℕ → ℕ → ℕ
phase_after bothEmpty new ph pu r = choose (bothEmpty && (new || eqb ph clear)) (next_phase pu r) (choose new clear ph)

-- the phase of the fields m, with the rights r, once the kind has settled as its row says
unfoldable pub settled_phase : Settles → Bool → Node → ℕ → ℕ
settled_phase Never bothEmpty m r = m.phase
settled_phase Again bothEmpty m r = phase_after bothEmpty false m.phase m.purpose r
settled_phase Anew bothEmpty m r = phase_after bothEmpty true m.phase m.purpose r
