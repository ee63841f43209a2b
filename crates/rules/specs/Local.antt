-- Kinds 1 to 5: what starts at a node.
use Rattle.std.specs.Prelude.{Bool, not, ◌&&◌, ◌||◌, ℕ, eqb}
use Rattle.rules.specs.Codes.{rights_n, rights_b, name_b, name_tt, ask, to_load, to_store, to_evict, none}
use Rattle.rules.specs.Scenes.{name_in, all_idle, ◌▷◌, value_set, phase_becomes, purpose_becomes}
use Rattle.rules.specs.declared.Scene.{Scene}

-- 1 load | leaf B or TT, all three transactions idle | answers the value
unfoldable pub load_needs : Scene → Bool
load_needs v = (eqb (name_in v) name_b || eqb (name_in v) name_tt) && all_idle v.node

-- 2 store | leaf TT, all idle
unfoldable pub store_needs : Scene → Bool
store_needs v = eqb (name_in v) name_tt && all_idle v.node

-- | sets value, dirty
unfoldable pub store_does : Scene → ℕ → Scene
store_does v x = v ▷ value_set x

-- 3 load miss | leaf N, all idle
unfoldable pub load_miss_needs : Scene → Bool
load_miss_needs v = eqb v.rights rights_n && all_idle v.node

-- | Ask, load
unfoldable pub load_miss_does : Scene → Scene
load_miss_does v = v ▷ phase_becomes ask ▷ purpose_becomes to_load

-- 4 store miss | leaf N or B, all idle
unfoldable pub store_miss_needs : Scene → Bool
store_miss_needs v = (eqb v.rights rights_n || eqb v.rights rights_b) && all_idle v.node

-- | Ask, store
unfoldable pub store_miss_does : Scene → Scene
store_miss_does v = v ▷ phase_becomes ask ▷ purpose_becomes to_store

-- 5 evict | not N, all idle, both sets empty
unfoldable pub evict_needs : Scene → Bool
evict_needs v = not (eqb v.rights rights_n) && all_idle v.node && v.still

-- | evict; to-probe: all entries not None; settle
unfoldable pub evict_does : Scene → Scene
evict_does v = v ▷ purpose_becomes to_evict

-- "all entries not None"
unfoldable pub held : ℕ → Bool
held e = not (eqb e none)
