-- Walks that make the standard steps one after the other.
use Rattle.std.proofs.Common.{ℕ, ◌≡◌, ◌+◌, ◌<◌, ◌≤◌, List, [], ◌∷◌, ◌++◌, refl, sym, ap, subst, arith}
use Rattle.rewriting.specs.Rules.{System}
use Rattle.first_found.specs.Items.{NoneGives, IsFirst, IsStopped, one}
use Rattle.first_found.proofs.Items.{not_both, first_once, stopped_within}
use Rattle.certificates.specs.Certificates.{Simplification}
use Rattle.simplified_spaces.specs.Tries.{GivesStep, tries, all_tries}
use Rattle.simplified_spaces.specs.Standard.{AreStandard}
use Rattle.simplified_spaces.specs.Walks.{LeadsOn}
use Rattle.simplified_spaces.proofs.Tries.{gives_once, counted, steps_within}

-- one step more
pub one_more : (sys here next : System) (ss : List Simplification) (s : Simplification) (w n paid : ℕ) → LeadsOn sys ss here w n → IsFirst one (GivesStep here) (tries here) (s, next) paid
    → LeadsOn sys (ss ++ s ∷ []) next (w + all_tries here) (n + paid)
one_more sys here next [] s w n paid (e, f, g) first =
    (next, paid, 0, 0, subst (λ z. IsFirst one (GivesStep z) (tries z) (s, next) paid) e first, (refl, refl, refl), let same = ap all_tries e in omega (arith, f, same), omega (arith, g))
one_more sys here next (t ∷ ss) s w n paid (mid, p, v, m, f, h, a, b) first =
    (mid, p, v + all_tries here, m + paid, f, one_more mid here next ss s v m paid h first, omega (arith, a), omega (arith, b))

-- what is paid is no more than the tries
pub paid_within : (sys here : System) (ss : List Simplification) (w n : ℕ) → LeadsOn sys ss here w n → n ≤ w
paid_within sys here [] w n (e, f, g) = omega (arith, f, g)
paid_within sys here (s ∷ ss) w n (mid, p, v, m, f, h, a, b) =
    let one_step = steps_within sys mid s p f in let rest = paid_within mid here ss v m h in omega (arith, one_step, rest, a, b)

-- where nothing is left to make, the steps are the standard ones
pub standard_at_end : (sys here : System) (ss : List Simplification) (w n : ℕ) → LeadsOn sys ss here w n → NoneGives (GivesStep here) (tries here) → AreStandard sys ss here (w + all_tries here)
standard_at_end sys here [] w n (e, f, g) none = (subst (λ z. NoneGives (GivesStep z) (tries z)) e none, e, let same = ap all_tries e in omega (arith, f, same))
standard_at_end sys here (s ∷ ss) w n (mid, p, v, m, f, h, a, b) none = (mid, p, v + all_tries here, f, standard_at_end mid here ss v m h none, omega (arith, a))

-- the standard steps go on from where the walk is
pub rest_of_standard : (sys here : System) (ss ts : List Simplification) (last : System) (w n u : ℕ) → LeadsOn sys ss here w n → AreStandard sys ts last u
    → (us : List Simplification) × (v : ℕ) × AreStandard here us last v × (u ≡ w + v)
rest_of_standard sys here [] ts last w n u (e, f, g) h = (ts, u, subst (λ z. AreStandard z ts last u) (sym e) h, omega (arith, f))
rest_of_standard sys here (s ∷ ss) [] last w n u (mid, p, v, m, f, h, a, b) k = absurd (not_both (GivesStep sys) one (tries sys) (s, mid) p k.0 f)
rest_of_standard sys here (s ∷ ss) (t ∷ ts) last w n u (mid, p, v, m, f, h, a, b) (other, q, rest, g, k, c) =
    let first = (first_once (GivesStep sys) one (tries sys) (s, mid) (t, other) p q f g).1 in
    let same = gives_once sys first.0 s t mid other first.1 first.2 in
    let on = rest_of_standard mid here ss ts last v m rest h (subst (λ z. AreStandard z ts last rest) (sym same.1) k) in
    (on.0, on.1, on.2, let e = on.3 in omega (arith, a, c, e))

all_at_least : (sys : System) (ss : List Simplification) (last : System) (w : ℕ) → AreStandard sys ss last w → all_tries sys ≤ w
all_at_least sys [] last w h = let e = h.2 in omega (arith, e)
all_at_least sys (s ∷ ss) last w (p, paid, rest, f, h, e) = omega (arith, e)

-- a walk that stopped has paid less than the tries of the standard steps
pub stopped_short : (sys here : System) (ss : List Simplification) (w n m : ℕ) → LeadsOn sys ss here w n → IsStopped one (GivesStep here) (tries here) m
    → (ts : List Simplification) (last : System) (u : ℕ) → AreStandard sys ts last u → n + m < u
stopped_short sys here ss w n m h s ts last u k =
    let on = rest_of_standard sys here ss ts last w n u h k in
    let within = paid_within sys here ss w n h in
    let short = stopped_within (GivesStep here) one (tries here) m s in
    let tried = counted here in
    let least = all_at_least here on.0 last on.1 on.2 in
    let sum = on.3 in omega (arith, within, short, tried, least, sum)

-- a walk that pays for no more than the tries of the system where it is, pays no more than for the standard steps
pub within_standard : (sys here : System) (ss : List Simplification) (w n m : ℕ) → LeadsOn sys ss here w n → m ≤ all_tries here
    → (ts : List Simplification) (last : System) (u : ℕ) → AreStandard sys ts last u → n + m ≤ u
within_standard sys here ss w n m h most ts last u k =
    let on = rest_of_standard sys here ss ts last w n u h k in
    let within = paid_within sys here ss w n h in
    let least = all_at_least here on.0 last on.1 on.2 in
    let sum = on.3 in omega (arith, within, most, least, sum)
