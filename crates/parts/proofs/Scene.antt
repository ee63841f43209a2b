-- A scene from what was found of the row.
use mathlib.Core.Path.{◌≡◌}
use mathlib.Core.Bool.{Bool}
use Prim.Native.Nat.{ℕ}
use Rattle.rules.specs.declared.Node.{Node}
use Rattle.rules.specs.declared.Link.{Link}
use Rattle.rules.specs.declared.Scene.{Scene}

pub seen : (r : ℕ) (m : Node) (l : Link) (e : ℕ) (w u : Bool) {a b c d f g a' b' c' d' f' g' : Bool}
    → a ≡ a' → b ≡ b' → c ≡ c' → d ≡ d' → f ≡ f' → g ≡ g'
    → ◌≡◌ {A = Scene}
    (record { rights = r; node = m; link = l; entry = e; to_probe = w; pending = u; leaf = a; still = b; bare = c; trunk = d; branch = f; alone = g })
    (record { rights = r; node = m; link = l; entry = e; to_probe = w; pending = u; leaf = a'; still = b'; bare = c'; trunk = d'; branch = f'; alone = g' })
seen r m l e w u p q h i j k = rw (p, q, h, i, j, k)
