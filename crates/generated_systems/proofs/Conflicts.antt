-- The first valid evidence for an overlap of a generated system is the third that is tried.
use Rattle.std.proofs.Common.{ℕ, zero, suc, ◌≢◌, ◌+◌, ◌*◌, ◌<◌, inl, inr, [], ◌∷◌, map, None, refl, sym, ap, ◌∙◌, subst, arith}
use Rattle.rewriting.specs.Prelude.{var, app, nil, cons, Substitution, apply, apply_all, even, odd, Rule, left_sides, right_sides}
use Rattle.unifier_run.specs.Run.{unifier, clash, IsOutcome}
use Rattle.unifier_run.specs.Overlaps.{IsOutcomeOf}
use Rattle.unifier_run.specs.Irreducible.{DoRulesClash, IsFirstRule}
use Rattle.unifier_run.proofs.General.{no_unifier}
use Rattle.unifier_run.proofs.Heads.{heads_clash}
use Rattle.caps.specs.Caps.{hole, node, Caps, no_caps, caps, any, all_filled, IsCapOf, AreCapsOf}
use Rattle.caps.specs.Evidence.{IsCapOutcome}
use Rattle.caps.proofs.Unique.{caps_same}
use Rattle.certificates.specs.Evidence.{by_caps, PairEvidence, trivial_pair, infeasible_pair}
use Rattle.valid_certificates.specs.Kinds.{ortho}
use Rattle.valid_certificates.specs.PairEvidence.{IsPairJudged, IsConflictJudged}
use Rattle.search_spaces.specs.Refuting.{try_caps, growths}
use Rattle.search_spaces.specs.PairItems.{try_evidence, try_refuting, GivesEvidence}
use Rattle.generated_systems.specs.Generated.{p_symbol, true as yes_term, false as no_term, p_of, next_of, generated}
use Rattle.generated_systems.specs.Certificate.{y, overlap_for, conflict}
use Rattle.generated_systems.specs.Laws.{OverlapsHaveConflicts}
use Rattle.generated_systems.proofs.Rules.{IsRuleFor, rule_low, zero_rule, numbered, zero_at, same_p, p_or_f, no_p, no_f}
use Rattle.generated_systems.proofs.Runs.{fits_constant, fits_over_variable, other_root, zero_for_hole, zero_or_hole}

-- a constant that is neither pk nor fk for any k stays under caps
constant_clashes : (n f : ℕ) → 0 < f → f < 5 → DoRulesClash (generated n) (app f nil)
constant_clashes n f low high i r e =
    let is = numbered n i r e in
    other_root is.k i r f nil is.is_rule (λ s. no_p is.k f low high (sym s)) (λ s. no_f is.k f high (sym s)) (fits_constant f)

constant_cap : (n f : ℕ) → 0 < f → f < 5 → IsCapOf (generated n) any (app f nil) (node f no_caps)
constant_cap n f low high = (no_caps, refl, inl (constant_clashes n f low high, refl))

conflicts : (n k : ℕ) → IsConflictJudged (generated n) (overlap_for k) 1 1 None
conflicts n k = (
  record { left = p_of k y; right = yes_term },
  record { left = p_of k y; right = no_term },
  record { inner = refl; outer = refl },
  refl,
  record {
    first = node 2 no_caps;
    second = node 4 no_caps;
    is_first = constant_cap n 2 (omega arith) (omega arith);
    is_second = constant_cap n 4 (omega arith) (omega arith);
    outcome = heads_clash 2 4 nil nil (λ e. omega (arith, e)) (fits_constant 2) (fits_constant 4);
  },
)

-- the sides differ
sides_differ : (k : ℕ) → var 1 ≢ apply odd (next_of k)
sides_differ zero e = cc
sides_differ (suc k) e = cc

no_trivial : (n k : ℕ) → IsPairJudged ortho (generated n) (overlap_for k) trivial_pair None → ⊥
no_trivial n k (inl (allowed, (root, same))) = sides_differ k same
no_trivial n k (inr (barred, e)) = cc

-- the first rule of pk unifies with pk(x), where x is a hole
earlier_clash : (k l i : ℕ) (r : Rule) → IsRuleFor l i r → i < 4 * k + 1 → IsOutcomeOf r.left (p_of k (var 0)) clash
earlier_clash k l i r is less = other_root l i r (p_symbol k) (cons (var 0) nil) is other (λ e. p_or_f k l (sym e)) (fits_over_variable (p_symbol k) 1)
  where
    other : p_symbol l ≢ p_symbol k
    other e = let same = same_p l k e in let low = rule_low l i r is in omega (arith, same, low, less)

first_rule : (n k : ℕ) → k < n → IsFirstRule (generated n) (p_of k (var 0)) (unifier zero_for_hole)
first_rule n k l =
    record {
      number = 4 * k + 1;
      rule = zero_rule k;
      is_rule = zero_at n k l;
      outcome = zero_or_hole k;
      before = λ i r e less. (let is = numbered n i r e in earlier_clash k is.k i r is.is_rule less);
    }

abbrev two_holes : Caps
two_holes = caps hole (caps hole no_caps)

are_caps : (n k : ℕ) → k < n → AreCapsOf (generated n) any (left_sides (overlap_for k).pair.conditions) two_holes
are_caps n k l = (hole, caps hole no_caps, refl, p_cap, (hole, no_caps, refl, p_cap, refl))
  where
    p_cap : IsCapOf (generated n) any (p_of k y) hole
    p_cap = (caps hole no_caps, (hole, no_caps, refl, refl, refl), inr ((zero_for_hole, first_rule n k l), refl))

-- true and false in the holes
abbrev answers : Substitution
answers zero = yes_term
answers (suc v) = no_term

caps_unify : (n k : ℕ) → k < n → IsCapOutcome (generated n) (overlap_for k).pair.conditions clash → ⊥
caps_unify n k l o =
    no_unifier (apply_all even (all_filled var 0 two_holes)) (apply_all odd (right_sides (overlap_for k).pair.conditions))
    (subst (λ cs. IsOutcome (apply_all even (all_filled var 0 cs)) (apply_all odd (right_sides (overlap_for k).pair.conditions)) clash)
    (caps_same (generated n) any (left_sides (overlap_for k).pair.conditions) o.lefts two_holes o.are (are_caps n k l)) o.outcome) answers refl

no_caps_evidence : (n k : ℕ) (e : PairEvidence) → k < n → GivesEvidence ortho (generated n) (overlap_for k) (try_refuting try_caps) e → ⊥
no_caps_evidence n k e l ((d, is, same), judged) = go (subst (λ q. IsPairJudged ortho (generated n) (overlap_for k) q None) (same ∙ ap infeasible_pair is) judged)
  where
    go : IsPairJudged ortho (generated n) (overlap_for k) (infeasible_pair by_caps) None → ⊥
    go (inl (allowed, h)) = caps_unify n k l h
    go (inr (barred, h)) = cc

pub have_conflicts : OverlapsHaveConflicts
have_conflicts n k l =
    record {
      before = try_evidence trivial_pair ∷ try_refuting try_caps ∷ [];
      item = try_evidence conflict;
      behind = map try_refuting (growths 2);
      split = refl;
      none = ((λ e h. no_trivial n k (subst (λ q. IsPairJudged ortho (generated n) (overlap_for k) q None) h.0 h.1)), ((λ e h. no_caps_evidence n k e l h), tt));
      gives = (refl, inl (tt, conflicts n k));
      up_to = refl;
    }
