-- Which prefixes are dead, and what that says of the interpretations that begin with them.
use Rattle.std.proofs.Common.{◌≡◌, ℕ, zero, suc, ◌<◌, ◌≤◌, ◌⊎◌, inl, inr, refl, sym, ap, ◌∙◌, subst, List, [], ◌∷◌, ◌++◌, length, slice_get, Some, arith}
use Rattle.std.proofs.lemmas.Bool.{cases_lt}
use Rattle.std.proofs.lemmas.List.{length-append}
use Rattle.std.proofs.lemmas.Option.{slice_get_within}
use Rattle.rewriting.specs.Prelude.{Term, var, app, Terms, nil, cons, IsOver, AreOver, Rule, System, rule_at, IsWellFormed, unraveled, heads}
use Rattle.rewriting.proofs.Unraveled.{unraveled_well_formed}
use Rattle.certificates.specs.Certificates.{LinearEntry}
use Rattle.interpretations.specs.Size.{DoesUnravelingFit}
use Rattle.interpretations.specs.Judgement.{good}
use Rattle.interpretations.specs.Judged.{IsInterpretationJudged}
use Rattle.interpretations.specs.Linear.{Interpretation, Falls}
use Rattle.interpretations.proofs.Bound.{length-heads}
use Rattle.interpretations.proofs.Decided.{DoesNotFall, overflows, variable_counts_more, constant_is_kept, falls}
use Rattle.measure_grid.specs.Dead.{HasEntries, HaveEntries, IsDead}
use Rattle.measure_grid.proofs.Dead.{falls_more}
use Rattle.grid_search.specs.Prefix.{IsPrefix, IsAliveBefore}
use Rattle.grid_search.specs.Needed.{needed_at}
use Rattle.grid_search.proofs.Needed.{has_needed, needed_of}
use Rattle.grid_search.proofs.Completed.{whole_shape}

-- a list with an element ends in one
ends : {X : Type 0} (x : X) (xs : List X) → (before : List X) × (last : X) × (x ∷ xs ≡ before ++ last ∷ [])
ends x [] = ([], x, refl)
ends x (y ∷ xs) = let rest = ends y xs in (x ∷ rest.0, rest.1, ap (λ z. x ∷ z) rest.2)

module _ (sys : System) where
  -- the value does not fall at a rule that needs at most these entries
  pub dead_at : (es : Interpretation) (j : ℕ) (r : Rule) → slice_get (unraveled sys).rules j ≡ Some r → needed_at r ≤ length es → (Falls es r → ⊥) → IsDead sys es
  dead_at es j r at needs rises =
      record { number = suc j; rule = r; is_rule = at; left = has_needed es r.left (omega (arith, needs)); right = has_needed es r.right (omega (arith, needs)); rises = rises }

  dead_needs : (es : Interpretation) (d : IsDead sys es) → needed_at d.rule ≤ length es
  dead_needs es d = let a = needed_of es d.rule.left d.left in let b = needed_of es d.rule.right d.right in omega (arith, a, b)

  place_of : (n : ℕ) (r : Rule) → rule_at (unraveled sys) n ≡ Some r → (j : ℕ) × (slice_get (unraveled sys).rules j ≡ Some r)
  place_of zero r at = absurd (cc)
  place_of (suc j) r at = (j, at)

  -- where the value falls at each rule that needs at most these entries, they are not dead
  pub not_dead : (es : Interpretation) → ((j : ℕ) (r : Rule) → slice_get (unraveled sys).rules j ≡ Some r → needed_at r ≤ length es → Falls es r) → IsDead sys es → ⊥
  not_dead es fall d = let at = place_of d.number d.rule d.is_rule in d.rises (fall at.0 d.rule at.1 (dead_needs es d))

  -- a rule that needs fewer makes the entries dead without their last one
  dead_before : (before : Interpretation) (last : LinearEntry) (d : IsDead sys (before ++ last ∷ [])) → needed_at d.rule ≤ length before → IsDead sys before
  dead_before before last d needs =
      let left = has_needed before d.rule.left (omega (arith, needs)) in
      let right = has_needed before d.rule.right (omega (arith, needs)) in
      record { number = d.number; rule = d.rule; is_rule = d.is_rule; left = left; right = right; rises = λ f. d.rises (falls_more before (last ∷ []) d.rule left right f) }

  dead_earlier : (before : Interpretation) (last : LinearEntry) (es : Interpretation) → es ≡ before ++ last ∷ [] → (d : IsDead sys es) → needed_at d.rule < length es → IsDead sys before
  dead_earlier before last es e d lt =
      let long = length-append before (last ∷ []) in
      let same = ap length e in
      subst (λ z. (q : IsDead sys z) → needed_at q.rule < length es → IsDead sys before) (sym e) (λ q less. dead_before before last q (omega (arith, less, long, same))) d lt

  -- so where no shorter prefix is dead, the rules alone count that need them all
  pub not_dead_yet : (es : Interpretation) → IsAliveBefore sys es → ((j : ℕ) (r : Rule) → slice_get (unraveled sys).rules j ≡ Some r → needed_at r ≡ length es → Falls es r) → IsDead sys es → ⊥
  not_dead_yet es alive fall d = by_case (cases_lt (needed_at d.rule) (length es))
    where
      shorter : (xs : Interpretation) → es ≡ xs → needed_at d.rule < length es → ⊥
      shorter [] e lt = let none = ap length e in omega (arith, none, lt)
      shorter (x ∷ xs) e lt = let split = ends x xs in alive split.0 split.1 (e ∙ split.2) (dead_earlier split.0 split.1 es (e ∙ split.2) d lt)

      by_case : (needed_at d.rule < length es) ⊎ (length es ≤ needed_at d.rule) → ⊥
      by_case (inl lt) = shorter es refl lt
      by_case (inr ge) =
          let most = dead_needs es d in
          let at = place_of d.number d.rule d.is_rule in
          d.rises (fall at.0 d.rule at.1 (omega (arith, ge, most)))

-- the value falls at a rule that needs at most these entries
abbrev pub DoesFallWithin : Interpretation → Rule → Type 0
DoesFallWithin es r = needed_at r ≤ length es → Falls es r

mutual
  over_has : (arities : List ℕ) (es : Interpretation) → length es ≡ length arities → (t : Term) → IsOver arities t → HasEntries es t
  over_has arities es e (var x) h = tt
  over_has arities es e (app f ts) (at, h) = (let within = slice_get_within arities f _ at in omega (arith, within, e), over_all_have arities es e ts h)

  over_all_have : (arities : List ℕ) (es : Interpretation) → length es ≡ length arities → (ts : Terms) → AreOver arities ts → HaveEntries es ts
  over_all_have arities es e nil h = tt
  over_all_have arities es e (cons t ts) (h, hs) = (over_has arities es e t h, over_all_have arities es e ts hs)

does_not_fall : (es : Interpretation) (r : Rule) → DoesNotFall es r → Falls es r → ⊥
does_not_fall es r (overflows h) f = f.bounded h
does_not_fall es r (variable_counts_more x h) f = let kept = f.coefficients x in let more = h.1 in omega (arith, kept, more)
does_not_fall es r (constant_is_kept h) f = let less = f.constants in let kept = h.2 in omega (arith, less, kept)

-- a prefix with an entry for each symbol is a good interpretation where it is not dead
pub whole_prefix_good : (sys : System) (es : Interpretation) → IsWellFormed sys → DoesUnravelingFit sys → IsPrefix sys es → length es ≡ length (heads sys) → (IsDead sys es → ⊥)
    → IsInterpretationJudged sys es good
whole_prefix_good sys es well fits p whole alive = (fits, record { shape = whole_shape sys es p whole; numbers = p.numbers; rules = λ i r at. fall i r at (falls es r) })
  where
    fall : (i : ℕ) (r : Rule) → rule_at (unraveled sys) i ≡ Some r → Falls es r ⊎ DoesNotFall es r → Falls es r
    fall i r at (inl f) = f
    fall i r at (inr d) =
        let over = (unraveled_well_formed sys well i r at).over in
        let count : length es ≡ length (unraveled sys).arities = whole ∙ length-heads sys in
        absurd
        (alive
        (record {
          number = i;
          rule = r;
          is_rule = at;
          left = over_has (unraveled sys).arities es count r.left over.0;
          right = over_has (unraveled sys).arities es count r.right over.1.0;
          rises = does_not_fall es r d;
        }))
