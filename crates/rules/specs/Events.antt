-- Numbers 3 and 4: the event and the place, as the row of its kind says.
use Rattle.std.specs.Prelude.{Bool, true, not, ◌&&◌, ℕ, eqb, leb, ltb}
use Rattle.rules.specs.Codes.{sole}
use Rattle.rules.specs.Tree.{is_child, is_leaf}
use Rattle.rules.specs.Table.{is_kind, kind_of}
use Rattle.rules.specs.declared.State.{State}
use Rattle.rules.specs.declared.Event.{Event}
use Rattle.rules.specs.declared.kinds.Place.{Place}
use Rattle.rules.specs.declared.kinds.Place.TheVariants.{Anywhere, AtLeaf, BelowRoot, AboveLeaf}
use Rattle.rules.specs.declared.kinds.Other.{Other}
use Rattle.rules.specs.declared.kinds.Other.TheVariants.{NoOther, AChild, AChoice}
use Rattle.rules.specs.declared.kinds.Value.{Value}
use Rattle.rules.specs.declared.kinds.Value.TheVariants.{NoValue, AnyValue}

-- ""Other" is a child for 7, 8, 11, 17; 0 (shared) or 1 (sole) for 14; else 0"; child says whether it is a child of the node
unfoldable pub other_fits : Other → Bool → ℕ → Bool
other_fits NoOther child o = eqb o 0
other_fits AChild child o = child
other_fits AChoice child o = leb o sole

-- "Value is 0 except for 2."
unfoldable pub value_fits : Value → ℕ → Bool
value_fits NoValue x = eqb x 0
value_fits AnyValue x = true

-- "kinds 1 to 4 at a non-leaf; 5, 6, 9, 10, 12, 13, 16, 19 at the root; 14, 15, 18 at a leaf"
unfoldable pub place_fits : Place → Bool → ℕ → Bool
place_fits Anywhere leaf x = true
place_fits AtLeaf leaf x = leaf
place_fits BelowRoot leaf x = not (eqb x 0)
place_fits AboveLeaf leaf x = not leaf

-- number 3: "kind not 1..19; node not in the tree; other not as named; value not 0 where it must be"
unfoldable pub event_ok : State → Event → Bool
event_ok s e =
    is_kind e.kind && ltb e.node s.count && other_fits (kind_of e.kind).row.other (is_child s e.node e.other) e.other
    && value_fits (kind_of e.kind).row.value e.value

-- number 4
unfoldable pub place_ok : State → Event → Bool
place_ok s e = place_fits (kind_of e.kind).row.place (is_leaf s e.node) e.node
