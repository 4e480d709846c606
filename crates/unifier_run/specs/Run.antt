-- The run of unification: equations are solved one after the other, with limits on the size of terms
-- (after Baader and Nipkow, Term Rewriting and All That, sections 4.5 and 4.6).
use Rattle.std.specs.Prelude.{ℕ, ◌≡◌, ◌≢◌, ◌⊎◌, true, false, nat_eq, if◌then◌else◌, List, [], ◌∷◌, ◌++◌, map}
use Rattle.rewriting.specs.Prelude.{Term, var, app, Terms, nil, cons, count, Fits, Substitution, apply, occurs, replacing, append}

-- a variable with the term that it is bound to
pub record Binding : Type 0 where
  pub variable : ℕ
  pub term : Term

-- as a substitution, bindings leave all other variables
abbrev pub value : List Binding → Substitution
value [] x = var x
value (e ∷ b) x = if nat_eq x e.variable then e.term else value b x

abbrev pub under : ℕ → Term → Binding → Binding
under x v e = record { variable = e.variable; term = apply (replacing x v) e.term }

-- a new binding is applied to all earlier bound terms
abbrev pub extended : List Binding → ℕ → Term → List Binding
extended b x v = map (under x v) b ++ (record { variable = x; term = v }) ∷ []

-- both sides of an equation fit
abbrev pub DoFit : Term → Term → Type 0
DoFit l r = Fits l × Fits r

-- every bound term fits
abbrev pub DoAllFit : List Binding → Type 0
DoAllFit [] = Unit {0}
DoAllFit (e ∷ b) = Fits e.term × DoAllFit b

-- the equation l = r binds x to v: the left side where it is a variable, else the right side where it is one
abbrev pub Binds : Term → Term → ℕ → Term → Type 0
Binds (var y) r x v = (x ≡ y) × (v ≡ r)
Binds (app f ts) (var y) x v = (x ≡ y) × (v ≡ app f ts)
Binds (app f ts) (app g us) x v = ⊥

-- the root symbols differ, or the numbers of arguments
abbrev pub DoRootsDiffer : Term → Term → Type 0
DoRootsDiffer (var y) r = ⊥
DoRootsDiffer (app f ts) (var y) = ⊥
DoRootsDiffer (app f ts) (app g us) = (f ≢ g) ⊎ (count ts ≢ count us)

-- both sides have one root symbol, with as many arguments: xs on the left, ys on the right
abbrev pub HaveArguments : Term → Term → Terms → Terms → Type 0
HaveArguments (var y) r xs ys = ⊥
HaveArguments (app f ts) (var y) xs ys = ⊥
HaveArguments (app f ts) (app g us) xs ys = (f ≡ g) × (count ts ≡ count us) × (xs ≡ ts) × (ys ≡ us)

-- what a run ends in: a unifier, a clash, or a term beyond the limits of size
pub data Outcome : Type 0 where
  unifier : List Binding → Outcome
  clash : Outcome
  too_large : Outcome

-- what is made of one equation: the run ends, or it goes on with bindings, and with equations in the place of this one
pub data Turn : Type 0 where
  ends : Outcome → Turn
  goes_on : List Binding → Terms → Terms → Turn

-- an equation is taken, whose sides under the bindings are l and r
pub data Takes (b : List Binding) (l r : Term) : Turn → Type 0 where
  side_too_large : (DoFit l r → ⊥) → Takes b l r (ends too_large)
  equal_sides : DoFit l r → l ≡ r → Takes b l r (goes_on b nil nil)
  occurs_inside : DoFit l r → l ≢ r → (x : ℕ) (v : Term) → Binds l r x v → occurs x v ≡ true → Takes b l r (ends clash)
  binding : DoFit l r → l ≢ r → (x : ℕ) (v : Term) → Binds l r x v → occurs x v ≡ false → (c : List Binding) → c ≡ extended b x v → DoAllFit c → Takes b l r (goes_on c nil nil)
  binding_too_large : DoFit l r → l ≢ r → (x : ℕ) (v : Term) → Binds l r x v → occurs x v ≡ false → (DoAllFit (extended b x v) → ⊥) → Takes b l r (ends too_large)
  roots_differ : DoFit l r → DoRootsDiffer l r → Takes b l r (ends clash)
  arguments : DoFit l r → l ≢ r → (xs ys : Terms) → HaveArguments l r xs ys → Takes b l r (goes_on b xs ys)

-- the run on the equations between the terms of two lists, from some bindings on
pub data Runs : List Binding → Terms → Terms → Outcome → Type 0 where
  no_equation : {b : List Binding} → Runs b nil nil (unifier b)
  last_equation : {b : List Binding} {t u : Term} {ts us : Terms} {o : Outcome} → Takes b (apply (value b) t) (apply (value b) u) (ends o) → Runs b (cons t ts) (cons u us) o
  next_equation : {b c : List Binding} {t u : Term} {ts us xs ys : Terms} {o : Outcome}
      → Takes b (apply (value b) t) (apply (value b) u) (goes_on c xs ys) → Runs c (append xs ts) (append ys us) o → Runs b (cons t ts) (cons u us) o

-- the outcome of the whole run, which starts with no binding
abbrev pub IsOutcome : Terms → Terms → Outcome → Type 0
IsOutcome ts us o = Runs [] ts us o
