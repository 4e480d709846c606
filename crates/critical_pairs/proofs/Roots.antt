-- The places of a term, and the triples at them.
use Rattle.std.proofs.Common.{ℕ, suc, ◌≡◌, ◌-◌, inl, inr, List, [], ◌∷◌, ◌++◌, flat_map, Some, refl, sym, ap, ap₂, ◌∙◌, subst, append_assoc, arith}
use Rattle.std.proofs.lemmas.List.Concat.{flat_map-append}
use Rattle.rewriting.specs.Prelude.{IsAmong, Term, Terms, var, app, nil, cons, Position, subterm, Rule, System, rule_at}
use Rattle.rule_index.specs.Parts.{parts}
use Rattle.rule_index.specs.Levels.{parts_in, parts_among}
use Rattle.rewriting.proofs.Members.{of_flat}
use Rattle.rule_index.proofs.Levels.{all_parts}
use Rattle.rule_index.proofs.Standing.{part_stands}
use Rattle.unifier_run.specs.Triples.{triples_at, counted, triples_below, triples_beside}
use Rattle.critical_pairs.specs.Places.{RootAt, root_at, part_places, places_of, triples_of, IsRootAt}

-- the triples at the places are those below
of_append : (j n : ℕ) (ps qs : List RootAt) → triples_of j n (ps ++ qs) ≡ triples_of j n ps ++ triples_of j n qs
of_append j n [] qs = refl
of_append j n ((p, f) ∷ ps) qs =
    ap (λ z. triples_at j p 0 (counted (j - 1) n p) ++ z) (of_append j n ps qs) ∙ sym (append_assoc (triples_at j p 0 (counted (j - 1) n p)) (triples_of j n ps) (triples_of j n qs))

mutual
  in_triples : (j n : ℕ) (p : Position) (t : Term) → triples_of (suc j) n (flat_map part_places (parts_in p t)) ≡ triples_below j n p t
  in_triples j n p (var x) = refl
  in_triples j n p (app f ts) = (let one : suc j - 1 ≡ j = omega arith in ap₂ (λ x y. triples_at (suc j) p 0 (counted x n p) ++ y) one (among_triples j n p 1 ts))

  among_triples : (j n : ℕ) (p : Position) (k : ℕ) (ts : Terms) → triples_of (suc j) n (flat_map part_places (parts_among p k ts)) ≡ triples_beside j n p k ts
  among_triples j n p k nil = refl
  among_triples j n p k (cons t ts) =
      ap (triples_of (suc j) n) (flat_map-append part_places (parts_in (p ++ k ∷ []) t) (parts_among p (suc k) ts))
      ∙ of_append (suc j) n (flat_map part_places (parts_in (p ++ k ∷ []) t)) (flat_map part_places (parts_among p (suc k) ts))
      ∙ ap₂ (λ x y. x ++ y) (in_triples j n (p ++ k ∷ []) t) (among_triples j n p (suc k) ts)

pub places_triples : (j n : ℕ) (t : Term) → triples_of (suc j) n (places_of t) ≡ triples_below j n [] t
places_triples j n t = ap (λ qs. triples_of (suc j) n (flat_map part_places qs)) (sym (all_parts t)) ∙ in_triples j n [] t

-- each of them is a place of the rule
root_here : (sys : System) (j : ℕ) (r : Rule) (p : Position) (t : Term) (q : RootAt) → rule_at sys j ≡ Some r → subterm r.left p ≡ Some t → IsAmong q (root_at p t) → IsRootAt sys j q
root_here sys j r p (var x) q e h m = absurd m
root_here sys j r p (app f ts) q e h (inl s) = subst (IsRootAt sys j) (sym s) (record { rule = r; is_rule = e; arguments = ts; here = h })
root_here sys j r p (app f ts) q e h (inr m) = absurd m

pub is_root : (sys : System) (j : ℕ) (r : Rule) (q : RootAt) → rule_at sys j ≡ Some r → IsAmong q (places_of r.left) → IsRootAt sys j q
is_root sys j r q e m =
    let s = of_flat part_places q (parts r.left) m in
    root_here sys j r s.0.position s.0.term q e (part_stands r.left s.0 s.1) s.2
