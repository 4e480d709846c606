-- Steps made one after the other.
use Rattle.std.proofs.Common.{◌≡◌, ℕ, suc, ◌+◌, ◌<◌, ◌≤◌, inl, inr, refl, sym, ap, ◌∙◌, subst, List, ◌∷◌, map, drop, length, get_or, arith}
use Rattle.std.proofs.lemmas.List.{length-map, get_or-map, drop_all}
use Rattle.general_lemmas.proofs.Places.{drop_read}
use Rattle.rewriting.specs.Rules.{System}
use Rattle.simplifications.specs.Laws.{parts}
use Rattle.simplifications.proofs.Systems.{shrink}
use Rattle.certificates.specs.Prelude.{Simplification, SimplificationReason}
use Rattle.simplifications.specs.Simplifying.{Simplifies, IsRefused, AllSimplify, FailsFrom, FailsAt}

-- what the rest of the steps does from here, all of them do from the start
pub record Onward (sys : System) (ss : List Simplification) (i : ℕ) (here : System) : Type 0 where
  pub good : (last : System) → AllSimplify here (drop i ss) last → AllSimplify sys ss last
  pub bad : (n : ℕ) (why : SimplificationReason) → FailsFrom (i + 1) here (drop i ss) n why → FailsFrom 1 sys ss n why
  -- each step leaves fewer rules and conditions
  pub falls : i + parts here ≤ parts sys

module _ (sys here : System) (ss : List Simplification) (i : ℕ) (s : Simplification) (lt : i < length ss) (at : s ≡ get_or ss i s) (o : Onward sys ss i here) where
  split : drop i ss ≡ s ∷ drop (i + 1) ss
  split = drop_read ss i s lt at

  pub next_step : (next : System) → Simplifies here s next → Onward sys ss (i + 1) next
  next_step next h =
      record {
        good = λ last g. o.good last (subst (λ z. AllSimplify here z last) (sym split) (next, h, g));
        bad = λ n why g. o.bad n why (subst (λ z. FailsFrom (i + 1) here z n why) (sym split)
            (inr (next, h, subst (λ k. FailsFrom k next (drop (i + 1) ss) n why) (let e : i + 1 + 1 ≡ suc (i + 1) = omega arith in e) g)));
        falls = let less = shrink here next s h in let so_far = o.falls in omega (arith, less, so_far);
      }

  pub refused_step : (why : SimplificationReason) → IsRefused here s why → FailsAt sys ss (i + 1) why
  refused_step why h = o.bad (i + 1) why (subst (λ z. FailsFrom (i + 1) here z (i + 1) why) (sym split) (inl (h, refl)))

pub at_end : (sys here : System) (ss : List Simplification) (i : ℕ) → length ss ≤ i → Onward sys ss i here → AllSimplify sys ss here
at_end sys here ss i h o = o.good here (subst (λ z. AllSimplify here z here) (sym (drop_all i ss h)) refl)

-- the views of a list
pub more_length : {X Y : Type 0} (f : X → Y) (xs : List X) (i : ℕ) → i < length xs → i < length (map f xs)
more_length f xs i h = let e = length-map xs f in omega (arith, h, e)

pub less_length : {X Y : Type 0} (f : X → Y) (xs : List X) (i : ℕ) → length xs ≤ i → length (map f xs) ≤ i
less_length f xs i h = let e = length-map xs f in omega (arith, h, e)

pub step_at : {X Y : Type 0} (f : X → Y) (xs : List X) (i : ℕ) (x : X) → i < length xs → x ≡ get_or xs i x → f x ≡ get_or (map f xs) i (f x)
step_at f xs i x h e = ap f e ∙ sym (get_or-map f xs i x (f x) h)
