-- The rules tried on a term: those with its root in order; all others clash at once.
use Rattle.std.proofs.Common.{ℕ, ◌≡◌, ◌+◌, ◌-◌, ◌*◌, ◌<◌, ◌≤◌, ◌⊎◌, inl, inr, Bool, true, false, List, map, length, get_or, Some, refl, sym, ap, ◌∙◌, subst, subst₂}
use Rattle.std.proofs.Common.{arith, eq-eqb, eqb-true}
use Rattle.std.proofs.lemmas.Bool.{false≢true, cases_lt}
use Rattle.rewriting.specs.Prelude.{Term, var, app, nil, cons, IsVariable, Fits, apply, apply_all, even, odd, Rule, System, rule_at, IsSystem}
use Rattle.rewriting.proofs.NumbersWhere.{Stands}
use Rattle.rewriting.proofs.Systems.{numbered_rule}
use Rattle.unifier_run.specs.Run.{Outcome, clash, IsOutcome}
use Rattle.unifier_run.specs.Overlaps.{IsOutcomeOf}
use Rattle.unifier_run.specs.Irreducible.{DoRulesClash, IsFirstRule}
use Rattle.unifier_run.proofs.Heads.{heads_clash}
use Rattle.unifier_run.proofs.Renamed.{fits_with_names}
use Rattle.rule_index.specs.Roots.{has_root, rules_with_root}
use Rattle.rule_index.proofs.Walks.{ascending, is_listed, listed_rule}
use Rattle.term_core.specs.Prelude.{view, rule_view}
use Rattle.term_core.specs.declared.systems.Rule as Program
use Rattle.prepared_system.specs.Renamed.{rule_under, inner_rules}
use Rattle.prepared_system.proofs.Renamed.{renamed_rule, number_within}

-- a left side with another root
other_clash : (f : ℕ) (l part : Term) → (IsVariable l → ⊥) → has_root f l ≡ false → has_root f part ≡ true → Fits l → Fits part → IsOutcome (cons (apply even l) nil) (cons part nil) clash
other_clash f (var x) part v a b p q = absurd (v tt)
other_clash f (app g ts) (var x) v a b p q = absurd (false≢true b)
other_clash f (app g ts) (app h us) v a b p q =
    heads_clash g h (apply_all even ts) us (λ e. false≢true (sym a ∙ eq-eqb f g (eqb-true f h b ∙ sym e))) (fits_with_names (λ k. 2 * k) (app g ts) p) q

-- the rules whose numbers stand before a place clash
abbrev pub Tried : System → List ℕ → Term → ℕ → Type 0
Tried sys ns part n = (s : Term) → part ≡ apply odd s → (j : ℕ) (r : Rule) → j < n → rule_at sys (get_or ns j 0) ≡ Some r → IsOutcomeOf r.left s clash

pub tried_none : (sys : System) (ns : List ℕ) (part : Term) → Tried sys ns part 0
tried_none sys ns part s e j r l h = absurd (omega (arith, l))

module _ (sys : System) (f : ℕ) (ns : List ℕ) (inners : List Program.Rule) (part : Term) (n : ℕ) (sound : IsSystem sys) (are : map rule_view inners ≡ inner_rules sys)
    (is : ns ≡ rules_with_root sys f) where
  rule_there : n < length ns → (r : Rule) × (rule_at sys (get_or ns n 0) ≡ Some r)
  rule_there l =
      let h = listed_rule sys f n (subst (λ z. n < length z) is l) in
      (h.0, subst (λ z. rule_at sys (get_or z n 0) ≡ Some h.0) (sym is) h.1)

  pub number_low : n < length ns → 1 ≤ get_or ns n 0
  number_low l = let h = rule_there l in (number_within sys (rule_under even) inners (get_or ns n 0) h.0 are h.1).0

  pub number_high : n < length ns → get_or ns n 0 - 1 < length inners
  number_high l = let h = rule_there l in (number_within sys (rule_under even) inners (get_or ns n 0) h.0 are h.1).1

  -- the run on the left side that is tried next
  run_there : (inner : Program.Rule) (o : Outcome) → inner ≡ get_or inners (get_or ns n 0 - 1) inner → IsOutcome (cons (view inner.left) nil) (cons part nil) o → (s : Term)
      → part ≡ apply odd s → (r : Rule) → rule_at sys (get_or ns n 0) ≡ Some r → IsOutcomeOf r.left s o
  run_there inner o at run s e r h = subst₂ (λ x y. IsOutcome (cons x nil) (cons y nil) o) (ap (λ z. z.left) (renamed_rule sys (rule_under even) inners (get_or ns n 0) inner r are h at)) e run

  pub tried_next : (inner : Program.Rule) → inner ≡ get_or inners (get_or ns n 0 - 1) inner → Tried sys ns part n
      → IsOutcome (cons (view inner.left) nil) (cons part nil) clash → Tried sys ns part (n + 1)
  tried_next inner at tried run s e j r l h = go (cases_lt j n)
    where
      go : (j < n) ⊎ (n ≤ j) → IsOutcomeOf r.left s clash
      go (inl a) = tried s e j r a h
      go (inr a) = (let same : j ≡ n = omega (arith, a, l) in run_there inner clash at run s e r (subst (λ z. rule_at sys (get_or ns z 0) ≡ Some r) same h))

  -- a rule whose number is not listed, or stands before the place
  clash_by : (s : Term) → part ≡ apply odd s → has_root f part ≡ true → Fits part → Tried sys ns part n → (i : ℕ) (r : Rule) → rule_at sys i ≡ Some r
      → ((j : ℕ) → j < length ns → get_or ns j 0 ≡ i → j < n) → IsOutcomeOf r.left s clash
  clash_by s e root fit tried i r h early = go (has_root f r.left) refl
    where
      stands : Stands i (rules_with_root sys f) → IsOutcomeOf r.left s clash
      stands (j, l, k) =
          let there : get_or ns j 0 ≡ i = ap (λ z. get_or z j 0) is ∙ k in
          tried s e j r (early j (subst (λ z. j < length z) (sym is) l) there) (subst (λ z. rule_at sys z ≡ Some r) (sym there) h)

      go : (b : Bool) → has_root f r.left ≡ b → IsOutcomeOf r.left s clash
      go true b = stands (is_listed sys f i r h b)
      go false b =
          let q = numbered_rule sys i r sound h in
          subst (λ z. IsOutcome (cons (apply even r.left) nil) (cons z nil) clash) e (other_clash f r.left part q.is_over.left b root q.fits.0 fit)

  pub tried_all : has_root f part ≡ true → Fits part → length ns ≤ n → Tried sys ns part n → (s : Term) → part ≡ apply odd s → DoRulesClash sys s
  tried_all root fit past tried s e i r h = clash_by s e root fit tried i r h (λ j l k. omega (arith, l, past))

  pub first_tried : has_root f part ≡ true → Fits part → (inner : Program.Rule) (o : Outcome) → n < length ns → inner ≡ get_or inners (get_or ns n 0 - 1) inner
      → Tried sys ns part n → IsOutcome (cons (view inner.left) nil) (cons part nil) o
      → (s : Term) → part ≡ apply odd s → IsFirstRule sys s o
  first_tried root fit inner o l at tried run s e =
      let h = rule_there l in
      record {
        number = get_or ns n 0;
        rule = h.0;
        is_rule = h.1;
        outcome = run_there inner o at run s e h.0 h.1;
        before = λ i r q less. clash_by s e root fit tried i r q (λ j k same. before_place i j k same less);
      }
    where
      before_place : (i j : ℕ) → j < length ns → get_or ns j 0 ≡ i → i < get_or ns n 0 → j < n
      before_place i j k same less = go (cases_lt j n)
        where
          up : n < j → get_or ns n 0 < get_or ns j 0
          up m = subst (λ z. get_or z n 0 < get_or z j 0) (sym is) (ascending sys f n j m (subst (λ z. j < length z) is k))

          go : (j < n) ⊎ (n ≤ j) → j < n
          go (inl a) = a
          go (inr a) = by (cases_lt n j)
            where
              by : (n < j) ⊎ (j ≤ n) → j < n
              by (inl m) = (let more = up m in absurd (omega (arith, more, same, less)))
              by (inr m) = (let one : j ≡ n = omega (arith, a, m) in let both : get_or ns n 0 ≡ i = subst (λ z. get_or ns z 0 ≡ i) one same in absurd (omega (arith, both, less)))
