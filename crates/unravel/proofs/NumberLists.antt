-- One of some lists of numbers is read or replaced.
use Rattle.std.proofs.Common.{◌≡◌, ◌≢◌, ◌<◌, ℕ, zero, suc, List, [], ◌∷◌, ◌++◌, map, length, set, get_or, get_or-set_other, Vec, Global, sym, ap, ◌∙◌, arith}
use Rattle.std.proofs.lemmas.List.{map-set, get_or-map}
use Rattle.unravel.specs.Listed.{listed}

pub listed_at : (lists : List (Vec ℕ Global)) (k : ℕ) (v : Vec ℕ Global) → k < length lists → v ≡ get_or lists k v → listed lists k ≡ v.items
listed_at lists k v lt is = get_or-map (λ (x : Vec ℕ Global). x.items) lists k v [] lt ∙ ap (λ (x : Vec ℕ Global). x.items) (sym is)

pub there : (lists : List (Vec ℕ Global)) (g : ℕ) (b v : Vec ℕ Global) (xs : List ℕ) → g < length lists → v.items ≡ (get_or lists g b).items ++ xs → listed (set lists g v) g ≡ listed lists g ++ xs
there [] g b v xs lt e = absurd (omega (arith, lt))
there (x ∷ lists) zero b v xs lt e = e
there (x ∷ lists) (suc g) b v xs lt e = there lists g b v xs (omega (arith, lt)) e

pub elsewhere : (lists : List (Vec ℕ Global)) (g k : ℕ) (v : Vec ℕ Global) → k ≢ g → listed (set lists g v) k ≡ listed lists k
elsewhere lists g k v d = ap (λ z. get_or z k []) (map-set (λ (x : Vec ℕ Global). x.items) lists g v) ∙ get_or-set_other (map (λ (x : Vec ℕ Global). x.items) lists) g k v.items [] d
