-- The first symbols of an unraveled system are first symbols of a precedence.
use Rattle.std.proofs.Common.{ℕ, zero, suc, ◌≡◌, List, [], ◌∷◌, map, take, Some, slice_get, sym, ap, ◌∙◌, subst}
use Rattle.std.proofs.lemmas.List.{take-map}
use Rattle.rewriting.specs.Prelude.{System, heads}
use Rattle.rewriting.proofs.Members.{at_place, one_of_places}
use Rattle.path_orders.specs.Dead.{IsPrefix}
use Rattle.path_orders.proofs.Heads.{heads_distinct}
use Rattle.term_core.specs.HeadView.{head_view}
use Rattle.term_core.specs.declared.systems.Head as code
use Rattle.unravel.specs.Answers.{IsUnraveled}
use Rattle.unravel.specs.declared.Unraveled.{Unraveled}
use Rattle.lpo.specs.Answers.{HasPrefix}

taken_at : {X : Type 0} (n : ℕ) (xs : List X) (k : ℕ) (x : X) → slice_get (take n xs) k ≡ Some x → slice_get xs k ≡ Some x
taken_at zero xs k x e = absurd (cc)
taken_at (suc n) [] k x e = absurd (cc)
taken_at (suc n) (y ∷ xs) zero x e = e
taken_at (suc n) (y ∷ xs) (suc k) x e = taken_at n xs k x e

module _ (sys : System) (n : ℕ) where
  first_symbols : IsPrefix sys (take n (heads sys))
  first_symbols k less =
      let at = at_place (take n (heads sys)) k less in
      record {
        symbol = k;
        stands = (at.0, taken_at n (heads sys) k at.0 at.1, at.1);
        is_new = λ j lt s. one_of_places (heads sys) (heads_distinct sys) j k at.0 lt
            (taken_at n (heads sys) j at.0 (let one = s.1 in let two = s.2 in let three = taken_at n (heads sys) k at.0 at.1 in cc)) (taken_at n (heads sys) k at.0 at.1);
      }

pub first_heads : (sys : System) (u : Unraveled) (hs : List code.Head) (n : ℕ) → IsUnraveled sys u → hs ≡ u.heads.items → HasPrefix u (map head_view (take n hs))
first_heads sys u hs n is same =
    record {
      system = sys;
      unraveled = is;
      prefix = subst (IsPrefix sys) (sym (sym (take-map head_view n hs) ∙ ap (take n) (ap (map head_view) same ∙ is.heads))) (first_symbols sys n);
    }
