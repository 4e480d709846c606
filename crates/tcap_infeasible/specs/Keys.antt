-- Terms whose variables are places of a row, and whose symbols past the first n are n and more by a place of another.
use Rattle.std.specs.Prelude.{ℕ, ◌≡◌, ◌+◌, ◌-◌, ◌<◌, ◌≤◌, ◌^◌, ◌⊎◌, List, length, Some, slice_get}
use Rattle.rewriting.specs.Prelude.{Term, var, app, Terms, nil, cons, System, AreDistinct}

-- g is f for one of the first n symbols, else n and a place of what f is past them
abbrev pub IsKey : ℕ → List ℕ → ℕ → ℕ → Type 0
IsKey n row f g = ((f < n) × (g ≡ f)) ⊎ ((n ≤ f) × ((m : ℕ) × (g ≡ n + m) × (slice_get row m ≡ Some (f - n))))

-- u is t with places of a row for its foreign symbols, and of one for its variables
abbrev mutual
  pub IsKeyed : ℕ → List ℕ → List ℕ → Term → Term → Type 0
  IsKeyed n foreign row (var x) u = (m : ℕ) × (u ≡ var m) × (slice_get row m ≡ Some x)
  IsKeyed n foreign row (app f ts) u = (g : ℕ) × (us : Terms) × (u ≡ app g us) × IsKey n foreign f g × AreKeyed n foreign row ts us

  pub AreKeyed : ℕ → List ℕ → List ℕ → Terms → Terms → Type 0
  AreKeyed n foreign row nil us = us ≡ nil
  AreKeyed n foreign row (cons t ts) us = (v : Term) × (vs : Terms) × (us ≡ cons v vs) × IsKeyed n foreign row t v × AreKeyed n foreign row ts vs

-- u is t with places of short rows, for the symbols of a system; constants from the base on are none of its symbols
pub record HavePlacesFor (sys : System) (base : ℕ) (t u : Term) : Type 0 where
  pub foreign : List ℕ
  pub row : List ℕ
  pub foreign_distinct : AreDistinct foreign
  pub distinct : AreDistinct row
  pub few_foreign : length foreign ≤ 2 ^ 30
  pub few : length row ≤ 2 ^ 30
  pub base_is : base ≡ length sys.arities + length foreign
  pub keyed : IsKeyed (length sys.arities) foreign row t u
