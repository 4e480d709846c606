-- Terms without variables.
use Rattle.std.proofs.Common.{ℕ, ◌≡◌, ◌∙◌, sym, Bool, true, false, refl, eq-eqb}
use Rattle.std.proofs.lemmas.Bool.{false≢true, true≢false, or_left, or_right}
use Rattle.rewriting.specs.Prelude.{Term, Terms, var, app, nil, cons, occurs, occurs_in, IsGround}
use Rattle.rewriting.proofs.Instances.{or_cases}
use Rattle.ctrs_classes.specs.Walks.{is_open, are_open}

mutual
  open_at : (x : ℕ) (t : Term) → occurs x t ≡ true → is_open t ≡ true
  open_at x (var y) e = refl
  open_at x (app f ts) e = open_among x ts e

  open_among : (x : ℕ) (ts : Terms) → occurs_in x ts ≡ true → are_open ts ≡ true
  open_among x nil e = absurd (false≢true e)
  open_among x (cons t ts) e = or_cases (occurs x t) (occurs_in x ts) e (λ h. or_left _ _ (open_at x t h)) (λ h. or_right _ _ (open_among x ts h))

mutual
  occurs_where : (t : Term) → is_open t ≡ true → (x : ℕ) × (occurs x t ≡ true)
  occurs_where (var x) e = (x, eq-eqb x x refl)
  occurs_where (app f ts) e = occurs_among ts e

  occurs_among : (ts : Terms) → are_open ts ≡ true → (x : ℕ) × (occurs_in x ts ≡ true)
  occurs_among nil e = absurd (false≢true e)
  occurs_among (cons t ts) e =
      or_cases (is_open t) (are_open ts) e (λ h. let o = occurs_where t h in (o.0, or_left _ _ o.1)) (λ h. let o = occurs_among ts h in (o.0, or_right _ _ o.1))

pub closed_ground : (t : Term) → is_open t ≡ false → IsGround t
closed_ground t e x o = true≢false (sym (open_at x t o) ∙ e)

pub ground_closed : (t : Term) → IsGround t → is_open t ≡ false
ground_closed t g = go (is_open t) refl
  where
    go : (b : Bool) → is_open t ≡ b → is_open t ≡ false
    go true e = absurd (let o = occurs_where t e in g o.0 o.1)
    go false e = e
