-- Caps: terms with holes that everything which a term reaches is an instance of (after Giesl, Thiemann and
-- Schneider-Kamp 2005, and Sternagel and Sternagel 2016).
use Rattle.std.specs.Prelude.{ℕ, suc, ◌≡◌, ◌+◌, ◌⊎◌, max, List, length}
use Rattle.rewriting.specs.Prelude.{Term, var, app, Terms, nil, cons, Substitution, System}
use Rattle.unifier_run.specs.Run.{Binding, unifier, too_large}
use Rattle.unifier_run.specs.Irreducible.{DoRulesClash, IsFirstRule}

-- a term with holes, which stand for any terms, and with variables that stay
mutual
  pub data Cap : Type 0 where
    hole : Cap
    kept : ℕ → Cap
    node : ℕ → Caps → Cap

  pub data Caps : Type 0 where
    no_caps : Caps
    caps : Cap → Caps → Caps

-- the number of holes
abbrev mutual
  pub holes : Cap → ℕ
  holes hole = 1
  holes (kept x) = 0
  holes (node f cs) = holes_in cs

  pub holes_in : Caps → ℕ
  holes_in no_caps = 0
  holes_in (caps c cs) = holes c + holes_in cs

-- the term with the variables n, n + 1, .. in the holes, in preorder, and with s of each variable that stays
abbrev mutual
  pub filled : Substitution → ℕ → Cap → Term
  filled s n hole = var n
  filled s n (kept x) = s x
  filled s n (node f cs) = app f (all_filled s n cs)

  pub all_filled : Substitution → ℕ → Caps → Terms
  all_filled s n no_caps = nil
  all_filled s n (caps c cs) = cons (filled s n c) (all_filled s (n + holes c) cs)

-- the first number that is greater than all symbols of the cap
abbrev mutual
  pub past_symbols : Cap → ℕ
  past_symbols hole = 0
  past_symbols (kept x) = 0
  past_symbols (node f cs) = max (suc f) (past_symbols_of cs)

  pub past_symbols_of : Caps → ℕ
  past_symbols_of no_caps = 0
  past_symbols_of (caps c cs) = max (past_symbols c) (past_symbols_of cs)

-- the first number that is greater than all symbols of the system and of the cap
abbrev pub past : System → Cap → ℕ
past sys c = max (length sys.arities) (past_symbols c)

-- each variable as a constant of its own, by the symbols from a number on
abbrev pub constants : ℕ → Substitution
constants base x = app (base + x) nil

-- the cap as a term whose variables are its holes: variables that stay are such constants
abbrev pub frozen_from : ℕ → Cap → Term
frozen_from base c = filled (constants base) 0 c

-- the same with constants that are symbols neither of the system nor of the cap
abbrev pub frozen : System → Cap → Term
frozen sys c = frozen_from (past sys c) c

-- what becomes of a symbol over capped arguments: it stays where each rule's run ends in a clash, and it is a hole where
-- the first run that does not gives a unifier
abbrev pub IsTop : System → Cap → Cap → Type 0
IsTop sys c d = (DoRulesClash sys (frozen sys c) × (d ≡ c)) ⊎ (((b : List Binding) × IsFirstRule sys (frozen sys c) (unifier b)) × (d ≡ hole))

-- the cap of a term, with `leaf` in the place of its variables, and the caps of some terms
abbrev mutual
  pub IsCapOf : System → (ℕ → Cap) → Term → Cap → Type 0
  IsCapOf sys leaf (var x) c = c ≡ leaf x
  IsCapOf sys leaf (app f ts) c = (cs : Caps) × AreCapsOf sys leaf ts cs × IsTop sys (node f cs) c

  pub AreCapsOf : System → (ℕ → Cap) → Terms → Caps → Type 0
  AreCapsOf sys leaf nil cs = cs ≡ no_caps
  AreCapsOf sys leaf (cons t ts) cs = (d : Cap) × (ds : Caps) × (cs ≡ caps d ds) × IsCapOf sys leaf t d × AreCapsOf sys leaf ts ds

-- there is no cap: at some symbol over capped arguments the first run that does not end in a clash passes the size
abbrev mutual
  pub IsCapLarge : System → (ℕ → Cap) → Term → Type 0
  IsCapLarge sys leaf (var x) = ⊥
  IsCapLarge sys leaf (app f ts) = AreCapsLarge sys leaf ts ⊎ ((cs : Caps) × AreCapsOf sys leaf ts cs × IsFirstRule sys (frozen sys (node f cs)) too_large)

  pub AreCapsLarge : System → (ℕ → Cap) → Terms → Type 0
  AreCapsLarge sys leaf nil = ⊥
  AreCapsLarge sys leaf (cons t ts) = IsCapLarge sys leaf t ⊎ AreCapsLarge sys leaf ts

-- every variable of the term may become anything
abbrev pub any : ℕ → Cap
any x = hole
