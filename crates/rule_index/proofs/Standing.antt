-- Where the parts of a term stand.
use Rattle.std.proofs.Common.{◌≡◌, ◌⊎◌, inl, inr, ℕ, suc, ◌≤◌, List, [], ◌∷◌, map, Option, None, Some, option_to_list, refl, sym, ap, ◌∙◌, subst, arith}
use Rattle.rewriting.specs.Prelude.{Term, Terms, var, app, nil, cons, IsAmong, IsSorted, Position, IsBefore, subterm, positions, positions_from}
use Rattle.rewriting.proofs.Lists.{among_either, among_of_map, before_each, sorted_append, sorted_map}
use Rattle.rewriting.proofs.Listed.{listed}
use Rattle.rule_index.specs.Parts.{Part, part, part_at, parts}
use Rattle.rewriting.proofs.Members.{flat_among, of_flat, sorted_flat}

-- a part is where its position says
at_position : (t : Term) (p : Position) (q : Part) (o : Option Term) → subterm t p ≡ o → IsAmong q (map (part p) (option_to_list o)) → (q.position ≡ p) × (subterm t q.position ≡ Some q.term)
at_position t p q None e h = absurd h
at_position t p q (Some u) e (inl s) = (ap (λ x. x.position) s, ap (λ x. subterm t x.position) s ∙ e ∙ ap (λ x. Some x.term) (sym s))
at_position t p q (Some u) e (inr h) = absurd h

pub part_stands : (t : Term) (q : Part) → IsAmong q (parts t) → subterm t q.position ≡ Some q.term
part_stands t q h = let p = of_flat (part_at t) q (positions t) h in (at_position t p.0 q (subterm t p.0) refl p.2).1

pub is_part : (t : Term) (p : Position) (u : Term) → subterm t p ≡ Some u → IsAmong (part p u) (parts t)
is_part t p u e = flat_among (part_at t) p (part p u) (positions t) (listed t p u e) (subst (λ o. IsAmong (part p u) (map (part p) (option_to_list o))) (sym e) (inl refl))

-- parts are in order of their positions
abbrev IsFrom : ℕ → Position → Type 0
IsFrom k p = (m : ℕ) × (q : Position) × (p ≡ m ∷ q) × (k ≤ m)

from_next : (k : ℕ) (p : Position) → IsFrom (suc k) p → IsFrom k p
from_next k p (m, q, e, low) = (m, q, e, omega (arith, low))

from_first : (k : ℕ) (p : Position) (qs ps : List Position) → (IsAmong p ps → IsFrom (suc k) p) → IsAmong p (map (λ q. k ∷ q) qs) ⊎ IsAmong p ps → IsFrom k p
from_first k p qs ps rest (inl l) = let q = among_of_map (λ q. k ∷ q) p qs l in (k, q.0, q.2, omega arith)
from_first k p qs ps rest (inr l) = from_next k p (rest l)

least_from : (k : ℕ) (ts : Terms) (p : Position) → IsAmong p (positions_from k ts) → IsFrom k p
least_from k nil p h = absurd h
least_from k (cons t ts) p h = from_first k p (positions t) (positions_from (suc k) ts) (λ l. least_from (suc k) ts p l) (among_either p (map (λ q. k ∷ q) (positions t)) (positions_from (suc k) ts) h)

first_earlier : (k : ℕ) (t : Term) (ts : Terms) (p q : Position) → IsAmong p (map (λ q. k ∷ q) (positions t)) → IsAmong q (positions_from (suc k) ts) → IsBefore p q
first_earlier k t ts p q l m =
    let a = among_of_map (λ q. k ∷ q) p (positions t) l in
    let b = least_from (suc k) ts q m in
    let low = b.3 in
    subst (λ x. IsBefore x q) (sym a.2) (subst (IsBefore (k ∷ a.0)) (sym b.2) (inl (omega (arith, low))))

root_first : (ts : Terms) (p : Position) → IsAmong p (positions_from 1 ts) → IsBefore [] p
root_first ts p l = let r = least_from 1 ts p l in subst (IsBefore []) (sym r.2) tt

mutual
  positions_sorted : (t : Term) → IsSorted IsBefore (positions t)
  positions_sorted (var x) = (tt, tt)
  positions_sorted (app f ts) = (before_each IsBefore [] (positions_from 1 ts) (λ p l. root_first ts p l), from_sorted 1 ts)

  from_sorted : (k : ℕ) (ts : Terms) → IsSorted IsBefore (positions_from k ts)
  from_sorted k nil = tt
  from_sorted k (cons t ts) =
      sorted_append IsBefore (map (λ q. k ∷ q) (positions t)) (positions_from (suc k) ts) (sorted_map IsBefore IsBefore (λ q. k ∷ q) (positions t) (λ p q h. inr (refl, h))
      (positions_sorted t)) (from_sorted (suc k) ts) (first_earlier k t ts)

abbrev pub ComesBefore : Part → Part → Type 0
ComesBefore a b = IsBefore a.position b.position

pub parts_sorted : (t : Term) → IsSorted ComesBefore (parts t)
parts_sorted t = sorted_flat (part_at t) IsBefore ComesBefore across (positions t) (λ p l. alone p (subterm t p)) (positions_sorted t)
  where
    alone : (p : Position) (o : Option Term) → IsSorted ComesBefore (map (part p) (option_to_list o))
    alone p None = tt
    alone p (Some u) = (tt, tt)

    across : (p q : Position) → IsBefore p q → (a b : Part) → IsAmong a (part_at t p) → IsAmong b (part_at t q) → ComesBefore a b
    across p q h a b k l =
        subst (λ x. IsBefore x b.position) (sym (at_position t p a (subterm t p) refl k).0) (subst (IsBefore p) (sym (at_position t q b (subterm t q) refl l).0) h)
