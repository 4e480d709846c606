-- Triples that are passed over, since their runs clash.
use Rattle.std.proofs.Common.{◌<◌, length, arith, ◌≡◌, ◌⊎◌, inl, inr, List, [], ◌∷◌, ◌++◌, refl, sym, ap, ◌∙◌, subst, append_assoc}
use Rattle.rewriting.specs.Prelude.{IsAmong, System}
use Rattle.rewriting.proofs.Lists.{among_either}
use Rattle.unifier_run.specs.Overlaps.{Triple}
use Rattle.unifier_run.proofs.Triples.{AreThose}
use Rattle.unifier_run.specs.Triples.{DoesClash}
use Rattle.critical_pairs.specs.Offers.{DoesPass}

pub pass_none : (sys : System) (ts : List Triple) → DoesPass sys ts ts
pass_none sys ts = record { passed = []; split = refl; clash = λ t m. absurd m }

pub pass_same : (sys : System) (ts us : List Triple) → ts ≡ us → DoesPass sys ts us
pass_same sys ts us e = subst (DoesPass sys ts) e (pass_none sys ts)

pub pass_more : (sys : System) (ts us vs : List Triple) → DoesPass sys ts us → DoesPass sys us vs → DoesPass sys ts vs
pass_more sys ts us vs h k =
    record {
      passed = h.passed ++ k.passed;
      split = h.split ∙ (ap (λ z. h.passed ++ z) k.split ∙ sym (append_assoc h.passed k.passed vs));
      clash = λ t m. either t (among_either t h.passed k.passed m);
    }
  where
    either : (t : Triple) → IsAmong t h.passed ⊎ IsAmong t k.passed → DoesClash sys t
    either t (inl m) = h.clash t m
    either t (inr m) = k.clash t m

-- with others behind them
pub pass_before : (sys : System) (ts us vs : List Triple) → DoesPass sys ts us → DoesPass sys (ts ++ vs) (us ++ vs)
pass_before sys ts us vs h = record { passed = h.passed; split = ap (λ z. z ++ vs) h.split ∙ append_assoc h.passed us vs; clash = h.clash }

-- all of them
pub pass_all : (sys : System) (ts us : List Triple) → ((t : Triple) → IsAmong t ts → DoesClash sys t) → DoesPass sys (ts ++ us) us
pass_all sys ts us h = record { passed = ts; split = refl; clash = h }

-- one more
pub pass_one : (sys : System) (ts us : List Triple) (t : Triple) → DoesPass sys ts (t ∷ us) → DoesClash sys t → DoesPass sys ts us
pass_one sys ts us t h c = pass_more sys ts (t ∷ us) us h (pass_all sys (t ∷ []) us (λ u m. one u m))
  where
    one : (u : Triple) → IsAmong u (t ∷ []) → DoesClash sys u
    one u (inl e) = subst (DoesClash sys) (sym e) c
    one u (inr m) = absurd m

-- among them there is no overlap
pub none_there : (sys : System) (ts : List Triple) → ((t : Triple) → IsAmong t ts → DoesClash sys t) → AreThose sys ts []
none_there sys [] h = refl
none_there sys (t ∷ ts) h = inl (h t (inl refl), none_there sys ts (λ u m. h u (inr m)))

-- fewer are left
pub fewer_left : (sys : System) (ts us : List Triple) (t : Triple) → DoesPass sys ts (t ∷ us) → length us < length ts
fewer_left sys ts us t h = let e = ap length h.split in let l = at_least h.passed in omega (arith, e, l)
  where
    at_least : (vs : List Triple) → length us < length (vs ++ t ∷ us)
    at_least [] = omega arith
    at_least (v ∷ vs) = let l = at_least vs in omega (arith, l)
