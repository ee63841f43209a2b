-- The event table: a kind is one row. It sees the scene of one node and one link, and changes nothing else.
use Rattle.std.specs.Prelude.{Bool, false, ◌||◌, List, [], ◌∷◌, ℕ, eqb}
use Rattle.words.specs.Vocab.{choose}
use Rattle.rules.specs.Kinds.{kind_load, kind_store, kind_load_miss, kind_store_miss, kind_evict, kind_send_acquire, kind_take_acquire, kind_send_probe, kind_take_probe, kind_send_probe_ack, kind_take_probe_ack, kind_take_grant, kind_send_grant_ack, kind_send_grant, kind_take_grant_ack, kind_send_release, kind_take_release, kind_send_release_ack, kind_take_release_ack}
use Rattle.rules.specs.Local.{load_needs, store_needs, store_does, load_miss_needs, load_miss_does, store_miss_needs, store_miss_does, evict_needs, evict_does}
use Rattle.rules.specs.Acquire.{send_acquire_needs, send_acquire_does, take_acquire_needs, take_acquire_does}
use Rattle.rules.specs.Probe.{send_probe_needs, send_probe_does, take_probe_needs, take_probe_does, send_probe_ack_needs, send_probe_ack_does, take_probe_ack_needs, take_probe_ack_does}
use Rattle.rules.specs.Grant.{take_grant_needs, take_grant_does, send_grant_ack_needs, send_grant_ack_does, send_grant_needs, send_grant_does, take_grant_ack_needs, take_grant_ack_does}
use Rattle.rules.specs.Release.{send_release_needs, send_release_does, take_release_needs, take_release_does, send_release_ack_needs, send_release_ack_does, take_release_ack_needs, take_release_ack_does}
use Rattle.rules.specs.declared.Event.{Event}
use Rattle.rules.specs.declared.Scene.{Scene}
use Rattle.rules.specs.declared.kinds.Row.{Row}
use Rattle.rules.specs.declared.kinds.Place.{Place}
use Rattle.rules.specs.declared.kinds.Place.TheVariants.{Anywhere, AtLeaf, BelowRoot, AboveLeaf}
use Rattle.rules.specs.declared.kinds.Other.{Other}
use Rattle.rules.specs.declared.kinds.Other.TheVariants.{NoOther, AChild, AChoice}
use Rattle.rules.specs.declared.kinds.Value.{Value}
use Rattle.rules.specs.declared.kinds.Value.TheVariants.{NoValue, AnyValue}
use Rattle.rules.specs.declared.kinds.End.{End}
use Rattle.rules.specs.declared.kinds.End.TheVariants.{Own, Named, Requester, Noted}
use Rattle.rules.specs.declared.kinds.Probes.{Probes}
use Rattle.rules.specs.declared.kinds.Probes.TheVariants.{Stay, Held, Asked, Capped}
use Rattle.rules.specs.declared.kinds.Settles.{Settles}
use Rattle.rules.specs.declared.kinds.Settles.TheVariants.{Never, Again, Anew}

-- A kind: its number, what its row says of place, other, value, link, to-probe and settle, when its needs hold, what it does at the
-- scene, and the value that it answers.
pub record Kind : Type 0 where
  pub number : ℕ
  pub row : Row
  pub needs : Scene → Event → Bool
  pub does : Scene → Event → Scene
  pub says : Scene → ℕ

abbrev pub row : Place → Other → Value → End → Probes → Settles → Row
row p o v j t s = record { place = p; other = o; value = v; end = j; probes = t; settles = s }

-- a kind that answers 0
abbrev pub kind : ℕ → Row → (Scene → Event → Bool) → (Scene → Event → Scene) → Kind
kind n r needs does = record { number = n; row = r; needs = needs; does = does; says = λ v. 0 }

-- the kinds in the order of the table; their numbers may have gaps
abbrev pub kinds : List Kind
kinds =
    record { number = kind_load; row = row AtLeaf NoOther NoValue Own Stay Never; needs = λ v e. load_needs v; does = λ v e. v; says = λ v. v.node.value }
    ∷ kind kind_store (row AtLeaf NoOther AnyValue Own Stay Never) (λ v e. store_needs v) (λ v e. store_does v e.value)
    ∷ kind kind_load_miss (row AtLeaf NoOther NoValue Own Stay Never) (λ v e. load_miss_needs v) (λ v e. load_miss_does v)
    ∷ kind kind_store_miss (row AtLeaf NoOther NoValue Own Stay Never) (λ v e. store_miss_needs v) (λ v e. store_miss_does v)
    ∷ kind kind_evict (row BelowRoot NoOther NoValue Own Held Anew) (λ v e. evict_needs v) (λ v e. evict_does v)
    ∷ kind kind_send_acquire (row BelowRoot NoOther NoValue Own Stay Never) (λ v e. send_acquire_needs v) (λ v e. send_acquire_does v)
    ∷ kind kind_take_acquire (row Anywhere AChild NoValue Named Asked Anew) (λ v e. take_acquire_needs v) (λ v e. take_acquire_does v e.other)
    ∷ kind kind_send_probe (row Anywhere AChild NoValue Named Stay Never) (λ v e. send_probe_needs v) (λ v e. send_probe_does v)
    ∷ kind kind_take_probe (row BelowRoot NoOther NoValue Own Capped Never) (λ v e. take_probe_needs v) (λ v e. take_probe_does v)
    ∷ kind kind_send_probe_ack (row BelowRoot NoOther NoValue Own Stay Never) (λ v e. send_probe_ack_needs v) (λ v e. send_probe_ack_does v)
    ∷ kind kind_take_probe_ack (row Anywhere AChild NoValue Named Stay Again) (λ v e. take_probe_ack_needs v) (λ v e. take_probe_ack_does v)
    ∷ kind kind_take_grant (row BelowRoot NoOther NoValue Own Stay Never) (λ v e. take_grant_needs v) (λ v e. take_grant_does v)
    ∷ kind kind_send_grant_ack (row BelowRoot NoOther NoValue Own Stay Never) (λ v e. send_grant_ack_needs v) (λ v e. send_grant_ack_does v)
    ∷ kind kind_send_grant (row AboveLeaf AChoice NoValue Requester Stay Never) (λ v e. send_grant_needs v e.other) (λ v e. send_grant_does v e.other)
    ∷ kind kind_take_grant_ack (row AboveLeaf NoOther NoValue Requester Stay Never) (λ v e. take_grant_ack_needs v) (λ v e. take_grant_ack_does v)
    ∷ kind kind_send_release (row BelowRoot NoOther NoValue Own Stay Never) (λ v e. send_release_needs v) (λ v e. send_release_does v)
    ∷ kind kind_take_release (row Anywhere AChild NoValue Named Stay Again) (λ v e. take_release_needs v e.other) (λ v e. take_release_does v e.other)
    ∷ kind kind_send_release_ack (row AboveLeaf NoOther NoValue Noted Stay Never) (λ v e. send_release_ack_needs v) (λ v e. send_release_ack_does v)
    ∷ kind kind_take_release_ack (row BelowRoot NoOther NoValue Own Stay Never) (λ v e. take_release_ack_needs v) (λ v e. take_release_ack_does v)
    ∷ []

-- "kind not 1..19": a number that no row has
unfoldable pub listed : List Kind → ℕ → Bool
listed [] n = false
listed (k ∷ ks) n = eqb n k.number || listed ks n

-- no kind
abbrev pub no_kind : Kind
no_kind = kind 0 (row Anywhere NoOther NoValue Own Stay Never) (λ v e. false) (λ v e. v)

-- the row with this number
unfoldable pub numbered : List Kind → ℕ → Kind
numbered [] n = no_kind
numbered (k ∷ ks) n = choose (eqb n k.number) k (numbered ks n)

abbrev pub is_kind : ℕ → Bool
is_kind n = listed kinds n

abbrev pub kind_of : ℕ → Kind
kind_of n = numbered kinds n
