-- Runs on caps whose variables that stay are other constants.
use Rattle.std.proofs.Common.{ℕ, ◌≡◌, ◌+◌, ◌-◌, ◌*◌, ◌<◌, ◌≤◌, List, length, refl, sym, ap, ap₂, ◌∙◌, subst, subst₂, arith}
use Rattle.std.proofs.lemmas.Option.{slice_get_within}
use Rattle.rewriting.specs.Prelude.{Term, Terms, var, app, nil, cons, count, apply, apply_all, even, odd, Signature, IsOver, AreOver, System}
use Rattle.unifier_run.specs.Run.{Binding, Outcome, unifier, clash, too_large, IsOutcome}
use Rattle.unifier_run.specs.Overlaps.{IsOutcomeOf}
use Rattle.unifier_run.specs.Irreducible.{IsFirstRule}
use Rattle.unifier_run.proofs.Renamed.{renamed, all_renamed, renamed_outcome, runs_to}
use Rattle.unifier_run.proofs.Total.{outcome_of}
use Rattle.unifier_run.proofs.Unique.{runs_same}
use Rattle.caps.specs.Caps.{Cap, Caps, hole, kept, node, no_caps, caps, holes, filled, all_filled, past_symbols, past_symbols_of, past, constants, frozen_from, frozen}
use Rattle.renumbering.proofs.Parted.{parted, parted_below, parted_past, parted_one}

-- outcomes of one kind
abbrev pub AreAlike : Outcome → Outcome → Type 0
AreAlike (unifier b) p = (c : List Binding) × (p ≡ unifier c)
AreAlike clash p = p ≡ clash
AreAlike too_large p = p ≡ too_large

pub alike_same : (o : Outcome) → AreAlike o o
alike_same (unifier b) = (b, refl)
alike_same clash = refl
alike_same too_large = refl

pub alike_renamed : (rho sigma : ℕ → ℕ) (o : Outcome) → AreAlike o (renamed_outcome rho sigma o)
alike_renamed rho sigma (unifier b) = (_, refl)
alike_renamed rho sigma clash = refl
alike_renamed rho sigma too_large = refl

pub alike_swapped : (o p : Outcome) → AreAlike o p → AreAlike p o
alike_swapped (unifier b) p (c, e) = subst (λ z. AreAlike z (unifier b)) (sym e) (b, refl)
alike_swapped clash p e = subst (λ z. AreAlike z clash) (sym e) refl
alike_swapped too_large p e = subst (λ z. AreAlike z too_large) (sym e) refl

pub alike_through : (o p q : Outcome) → AreAlike o p → AreAlike p q → AreAlike o q
alike_through (unifier b) p q (c, e) k = subst (λ z. AreAlike z q) e k
alike_through clash p q e k = subst (λ z. AreAlike z q) e k
alike_through too_large p q e k = subst (λ z. AreAlike z q) e k

-- the run for two terms has an outcome of the kind
abbrev pub EndLike : Term → Term → Outcome → Type 0
EndLike x y o = (p : Outcome) × AreAlike o p × IsOutcome (cons x nil) (cons y nil) p

-- the same for a left side, renamed apart
abbrev pub HasLike : Term → Term → Outcome → Type 0
HasLike l t o = EndLike (apply even l) (apply odd t) o

pub clash_like : (l t : Term) → HasLike l t clash → IsOutcomeOf l t clash
clash_like l t (p, e, run) = subst (IsOutcomeOf l t) e run

-- and for the first rule that does not clash
abbrev pub HasFirstLike : System → Term → Outcome → Type 0
HasFirstLike sys t o = (p : Outcome) × AreAlike o p × IsFirstRule sys t p

pub first_unifier : (sys : System) (t : Term) (b : List Binding) → HasFirstLike sys t (unifier b) → (c : List Binding) × IsFirstRule sys t (unifier c)
first_unifier sys t b (p, (c, e), first) = (c, subst (IsFirstRule sys t) e first)

pub first_large : (sys : System) (t : Term) → HasFirstLike sys t too_large → IsFirstRule sys t too_large
first_large sys t (p, e, first) = subst (IsFirstRule sys t) e first

-- a renaming that is one to one, forth and back
module _ (rho sigma : ℕ → ℕ) (one : (x y : ℕ) → rho x ≡ rho y → x ≡ y) (symbols_one : (f g : ℕ) → sigma f ≡ sigma g → f ≡ g) (x y v w : Term) (first : renamed rho sigma x ≡ v)
    (second : renamed rho sigma y ≡ w) where
  pub forth : (o : Outcome) → IsOutcome (cons x nil) (cons y nil) o → IsOutcome (cons v nil) (cons w nil) (renamed_outcome rho sigma o)
  forth o run = subst₂ (λ p q. IsOutcome (cons p nil) (cons q nil) (renamed_outcome rho sigma o)) first second (runs_to rho sigma one symbols_one run)

  pub forth_like : (o : Outcome) → EndLike x y o → EndLike v w o
  forth_like o (p, alike, run) = (renamed_outcome rho sigma p, alike_through o p (renamed_outcome rho sigma p) alike (alike_renamed rho sigma p), forth p run)

  pub back_like : (o : Outcome) → EndLike v w o → EndLike x y o
  back_like o (p, alike, run) =
      let there = outcome_of x y in
      let same : renamed_outcome rho sigma there.0 ≡ p = runs_same (forth there.0 there.1) run in
      let kind : AreAlike there.0 p = subst (AreAlike there.0) same (alike_renamed rho sigma there.0) in
      (there.0, alike_through o p there.0 alike (alike_swapped there.0 p kind), there.1)

-- symbols of a signature that stay, and new names for variables
module _ (sigma : ℕ → ℕ) where
  mutual
    pub symbols_stay : (arities : Signature) → ((f : ℕ) → f < length arities → sigma f ≡ f) → (t : Term) → IsOver arities t → renamed (λ x. x) sigma (apply even t) ≡ apply even t
    symbols_stay arities stay (var x) o = refl
    symbols_stay arities stay (app f ts) (at, all) = ap₂ app (stay f (slice_get_within arities f (count ts) at)) (all_symbols_stay arities stay ts all)

    all_symbols_stay : (arities : Signature) → ((f : ℕ) → f < length arities → sigma f ≡ f) → (ts : Terms) → AreOver arities ts → all_renamed (λ x. x) sigma (apply_all even ts) ≡ apply_all even ts
    all_symbols_stay arities stay nil o = refl
    all_symbols_stay arities stay (cons t ts) (o, all) = ap₂ cons (symbols_stay arities stay t o) (all_symbols_stay arities stay ts all)

  mutual
    pub names_after : (g : ℕ → ℕ) (t : Term) → renamed (λ x. x) sigma (apply (λ k. var (g k)) t) ≡ apply (λ k. var (g k)) (renamed (λ x. x) sigma t)
    names_after g (var x) = refl
    names_after g (app f ts) = ap (app (sigma f)) (all_names_after g ts)

    all_names_after : (g : ℕ → ℕ) (ts : Terms) → all_renamed (λ x. x) sigma (apply_all (λ k. var (g k)) ts) ≡ apply_all (λ k. var (g k)) (all_renamed (λ x. x) sigma ts)
    all_names_after g nil = refl
    all_names_after g (cons t ts) = ap₂ cons (names_after g t) (all_names_after g ts)

-- symbols from b on move up by d
abbrev pub raised : ℕ → ℕ → ℕ → ℕ
raised b d = parted b (λ f. f) (λ m. b + d + m)

pub raised_below : (b d f : ℕ) → f < b → raised b d f ≡ f
raised_below b d = parted_below b (λ f. f) (λ m. b + d + m)

pub raised_one : (b d x y : ℕ) → raised b d x ≡ raised b d y → x ≡ y
raised_one b d = parted_one b (λ f. f) (λ m. b + d + m) (λ x y h k e. e) (λ x y e. omega (arith, e)) (λ x y h e. omega (arith, h, e))

mutual
  pub raised_filled : (b d n : ℕ) (c : Cap) → past_symbols c ≤ b → renamed (λ x. x) (raised b d) (filled (constants b) n c) ≡ filled (constants (b + d)) n c
  raised_filled b d n hole h = refl
  raised_filled b d n (kept x) h = ap (λ z. app z nil) (parted_past b (λ f. f) (λ m. b + d + m) x)
  raised_filled b d n (node f cs) h = ap₂ app (raised_below b d f (omega (arith, h))) (all_raised_filled b d n cs (omega (arith, h)))

  pub all_raised_filled : (b d n : ℕ) (cs : Caps) → past_symbols_of cs ≤ b → all_renamed (λ x. x) (raised b d) (all_filled (constants b) n cs) ≡ all_filled (constants (b + d)) n cs
  all_raised_filled b d n no_caps h = refl
  all_raised_filled b d n (caps c cs) h = ap₂ cons (raised_filled b d n c (omega (arith, h))) (all_raised_filled b d (n + holes c) cs (omega (arith, h)))

-- with names for its holes
pub raised_frozen : (g : ℕ → ℕ) (b base : ℕ) (c : Cap) → past_symbols c ≤ b → b ≤ base
    → renamed (λ x. x) (raised b (base - b)) (apply (λ k. var (g k)) (frozen_from b c)) ≡ apply (λ k. var (g k)) (frozen_from base c)
raised_frozen g b base c h far =
    let e : b + (base - b) ≡ base = omega (arith, far) in
    names_after (raised b (base - b)) g (frozen_from b c) ∙ ap (apply (λ k. var (g k))) (raised_filled b (base - b) 0 c h ∙ ap (λ z. filled (constants z) 0 c) e)

-- the kind of the outcome is that for any constants past the symbols of the system and the cap
module _ (sys : System) (l : Term) (over : IsOver sys.arities l) (c : Cap) (base : ℕ) (far : past sys c ≤ base) where
  left_stays : renamed (λ x. x) (raised (past sys c) (base - past sys c)) (apply even l) ≡ apply even l
  left_stays = symbols_stay (raised (past sys c) (base - past sys c)) sys.arities (λ f h. raised_below (past sys c) (base - past sys c) f (omega (arith, h))) l over

  cap_raised : renamed (λ x. x) (raised (past sys c) (base - past sys c)) (apply odd (frozen sys c)) ≡ apply odd (frozen_from base c)
  cap_raised = raised_frozen (λ k. 2 * k + 1) (past sys c) base c (omega arith) far

  pub lowered : (o : Outcome) → HasLike l (frozen_from base c) o → HasLike l (frozen sys c) o
  lowered o h = back_like (λ x. x) (raised (past sys c) (base - past sys c)) (λ x y e. e) (raised_one (past sys c) (base - past sys c)) (apply even l) (apply odd (frozen sys c))
      (apply even l) (apply odd (frozen_from base c)) left_stays cap_raised o h

  pub lifted : (o : Outcome) → HasLike l (frozen sys c) o → HasLike l (frozen_from base c) o
  lifted o h = forth_like (λ x. x) (raised (past sys c) (base - past sys c)) (λ x y e. e) (raised_one (past sys c) (base - past sys c)) (apply even l) (apply odd (frozen sys c))
      (apply even l) (apply odd (frozen_from base c)) left_stays cap_raised o h
