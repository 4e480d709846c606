-- An instance has a least match, so whether a term is an instance is decided.
use Rattle.std.proofs.Common.{◌≡◌, ◌⊎◌, inl, inr, ℕ, true, Option, Some, None, nat_cmp, refl, sym, ap, ◌∙◌, subst, eqb-true}
use Rattle.std.specs.FinMap.{get, insert, empty, get-empty}
use Rattle.rewriting.specs.Matching.{Extends, Solves, SolvesAll, IsLeastMatch, HasNoMatch}
use Rattle.rewriting.specs.Substitutions.{Matches}
use Rattle.rewriting.proofs.Common.{Term, var, app, Terms, nil, cons, Substitution, Bindings, apply, apply_all, values_of, occurs}
use Rattle.rewriting.proofs.LeastMatches.{bound_least, least_needs, Solves-extends}
use Rattle.rewriting.proofs.Matching.{solved_instance}
use Rattle.rewriting.proofs.MatchedOnto.{matched}

-- values that a substitution has too
abbrev Agrees : Bindings → Substitution → Type 0
Agrees b s = (x : ℕ) (t : Term) → get b x ≡ Some t → t ≡ s x

-- more such values, under which the pattern becomes the instance
record Grown (b : Bindings) (s : Substitution) (Holds : Bindings → Type 0) : Type 0 where
  values : Bindings
  extends : Extends b values
  agrees : Agrees values s
  holds : Holds values

grown_at : (b : Bindings) (s : Substitution) (x : ℕ) → Agrees b s → (o : Option Term) → get b x ≡ o → Grown b s (λ d. Solves d (var x) (s x))
grown_at b s x h (Some t) e = record { values = b; extends = λ y u k. k; agrees = h; holds = e ∙ ap Some (h x t e) }
grown_at b s x h None e = record {
  values = insert b x (s x);
  extends = least.extends;
  agrees = agrees;
  holds = least.solves;
}
  where
    least : IsLeastMatch b (insert b x (s x)) (var x) (s x)
    least = bound_least b x (s x) e

    agrees : Agrees (insert b x (s x)) s
    agrees y t g = go (least_needs b (insert b x (s x)) (var x) (s x) least y t g)
      where
        go : (get b y ≡ Some t) ⊎ (occurs y (var x) ≡ true) → t ≡ s y
        go (inl there) = h y t there
        go (inr o) =
            let same : y ≡ x = eqb-true y x o in
            let here : get (insert b x (s x)) x ≡ Some (s x) = least.solves in
            let value : Some t ≡ Some (s x) = sym g ∙ ap (get (insert b x (s x))) same ∙ here in
            (let is : t ≡ s x = cc in is ∙ ap s (sym same))

mutual
  grown : (b : Bindings) (s : Substitution) (p : Term) → Agrees b s → Grown b s (λ d. Solves d p (apply s p))
  grown b s (var x) h = grown_at b s x h (get b x) refl
  grown b s (app f ps) h = let g = grown_all b s ps h in record { values = g.values; extends = g.extends; agrees = g.agrees; holds = (refl, g.holds) }

  grown_all : (b : Bindings) (s : Substitution) (ps : Terms) → Agrees b s → Grown b s (λ d. SolvesAll d ps (apply_all s ps))
  grown_all b s nil h = record { values = b; extends = λ y u k. k; agrees = h; holds = tt }
  grown_all b s (cons p ps) h =
      let first = grown b s p h in
      let rest = grown_all first.values s ps first.agrees in
      record {
        values = rest.values;
        extends = λ y u k. rest.extends y u (first.extends y u k);
        agrees = rest.agrees;
        holds = (Solves-extends first.values rest.values p (apply s p) rest.extends first.holds, rest.holds);
      }

nothing_agrees : (s : Substitution) → Agrees empty s
nothing_agrees s x t e = absurd (let bad : None ≡ Some t = sym (get-empty nat_cmp x) ∙ e in cc)

-- an instance has a least match
pub instance_matched : (p t : Term) → Matches p t → (m : Bindings) × IsLeastMatch empty m p t
instance_matched p t (s, e) = go (matched empty p t)
  where
    go : ((m : Bindings) × IsLeastMatch empty m p t) ⊎ HasNoMatch empty p t → (m : Bindings) × IsLeastMatch empty m p t
    go (inl h) = h
    go (inr none) = let g = grown empty s p (nothing_agrees s) in absurd (none g.values g.extends (subst (Solves g.values p) e g.holds))

-- whether a term is an instance is decided
pub instance_decided : (p t : Term) → Dec (Matches p t)
instance_decided p t = go (matched empty p t)
  where
    go : ((m : Bindings) × IsLeastMatch empty m p t) ⊎ HasNoMatch empty p t → Dec (Matches p t)
    go (inl (m, h)) = yes (values_of m, solved_instance m p t h.solves)
    go (inr none) = no (λ h. let m = instance_matched p t h in none m.0 m.1.extends m.1.solves)
