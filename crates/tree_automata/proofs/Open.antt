-- The first right side that is not kept.
use Rattle.std.proofs.Common.{◌≡◌, ℕ, zero, suc, ◌+◌, ◌<◌, ◌≤◌, ⊎_elim, List, [], length, map, get_or, take, Some, slice_get, refl, ap, sym, subst, subst₂, ◌∙◌, arith}
use Rattle.std.specs.List.{All, filter}
use Rattle.std.proofs.lemmas.Bool.{cases_lt}
use Rattle.std.proofs.lemmas.Option.{slice_get_within}
use Rattle.std.proofs.lemmas.List.Elements.{All-head}
use Rattle.rewriting.specs.Terms as math
use Rattle.rewriting.specs.Prelude.{Rule, System, rule_at, variable_occurrences, IsAmong, IsSystem}
use Rattle.rewriting.proofs.Systems.{is_rule_at}
use Rattle.certificates.specs.Evidence.{Transition, Automaton}
use Rattle.automata.specs.Runs.{ReachBy}
use Rattle.automata.specs.Closed.{IsChoice, state_of, Includes, IsKept, IsRuleKept, HasOver, IsClosed, IsFirstOpen, IsWide, IsFirstWide}
use Rattle.automaton_runs.specs.Counted.{Indexed, Finds, under}
use Rattle.automaton_runs.specs.Counting.{chosen, target_key}
use Rattle.tree_automata.specs.Open.{HaveSides, IsRuleClosed, AreClosed, IsOpenAt, HaveTwins}
use Rattle.std.proofs.lemmas.List.{length-map}
use Rattle.general_lemmas.proofs.Places.{slice_get-map_read}
use Rattle.term_core.specs.Prelude.{view, rule_view}
use Rattle.term_core.specs.declared.systems.Rule as data_rule
use Rattle.rewriting.proofs.Lists.{among_map, among_of_map}
use Rattle.tree_automata.proofs.Lists.{in_front, place_in_front}
use Rattle.automaton_runs.proofs.Looked.{looked_to}

-- a state that a term reaches is one of the automaton
pub reached_state : (a : Indexed) (t : math.Term) (cs : List ℕ) (q : ℕ) → IsChoice a.automaton.states t cs → ReachBy (Finds a) t cs q → q < a.automaton.states
reached_state a (math.var x) cs q choice r = All-head (λ p. p < a.automaton.states) q [] (subst (All (λ p. p < a.automaton.states)) r choice.states)
reached_state a (math.app f ts) cs q choice (qs, has, r) = has.target

-- a rule with the sides of one whose right side is kept
pub closed_alike : (a : Indexed) (rule : Rule) (rules : List data_rule.Rule) → AreClosed a (map rule_view rules) → HaveSides (map rule_view rules) rule → IsRuleClosed a rule
closed_alike a rule rules closed (r, i, left, right) cs q = subst₂ (λ (l m : math.Term). IsChoice a.automaton.states l cs → ReachBy (Finds a) l cs q
    → IsKept (Finds a) (state_of (variable_occurrences l) cs) m q) left right (closed r i cs q)

-- one rule more, whose sides are others
pub other_sides : (rules : List data_rule.Rule) (i : ℕ) (other : data_rule.Rule) (rule : Rule) → i < length rules → other ≡ get_or rules i other → (HaveSides (map rule_view (take i rules)) rule → ⊥)
    → (view other.left ≡ rule.left → view other.right ≡ rule.right → ⊥) → HaveSides (map rule_view (take (i + 1) rules)) rule → ⊥
other_sides rules i other rule inside is before here (r, h, left, right) =
    let b = among_of_map rule_view r (take (i + 1) rules) h in
    ⊎_elim (λ k. before (r, subst (λ (s : Rule). IsAmong s (map rule_view (take i rules))) (sym b.2) (among_map rule_view b.0 (take i rules) k), left, right))
    (λ e.
    let same : rule_view other ≡ r = sym (b.2 ∙ ap rule_view e) in
    here (ap (λ (s : Rule). s.left) same ∙ left) (ap (λ (s : Rule). s.right) same ∙ right))
    (in_front rules i other b.0 inside is b.1)

module _ (P : Rule → Type 0) where
  pub each_more : (rs : List Rule) (i : ℕ) (r : Rule) → slice_get rs i ≡ Some r → P r → ((k : ℕ) (q : Rule) → k < i → slice_get rs k ≡ Some q → P q)
      → (k : ℕ) (q : Rule) → k < i + 1 → slice_get rs k ≡ Some q → P q
  each_more rs i r e here front k q l f =
      ⊎_elim (λ (h : k < i). front k q h f)
      (λ (h : i ≤ k). let same : k ≡ i = omega arith in let at : slice_get rs i ≡ Some q = subst (λ (j : ℕ). slice_get rs j ≡ Some q) same f in let one : r ≡ q = cc in subst P one here) (cases_lt k i)

  pub each_in_front : (sys : System) (rules : List data_rule.Rule) (i n : ℕ) → map rule_view rules ≡ sys.rules → n ≡ i
      → ((k : ℕ) (q : Rule) → k < i → slice_get sys.rules k ≡ Some q → P q) → (r : Rule) → IsAmong r (map rule_view (take n rules)) → P r
  each_in_front sys rules i n same c front r h =
      let k = place_in_front rule_view rules n r h in
      let low = k.1 in
      front k.0 r (omega arith) (subst (λ (l : List Rule). slice_get l k.0 ≡ Some r) same k.2)

  pub each_all : (sys : System) (i : ℕ) → length sys.rules ≤ i → ((k : ℕ) (q : Rule) → k < i → slice_get sys.rules k ≡ Some q → P q) → (n : ℕ) (q : Rule) → rule_at sys n ≡ Some q → P q
  each_all sys i l front zero q e = absurd (cc)
  each_all sys i l front (suc k) q e = let low = slice_get_within sys.rules k q e in front k q (omega arith) e

  pub each_before : (sys : System) (i n : ℕ) → n ≡ i + 1 → ((k : ℕ) (q : Rule) → k < i → slice_get sys.rules k ≡ Some q → P q) → (j : ℕ) (q : Rule) → j < n → rule_at sys j ≡ Some q → P q
  each_before sys i n c front zero q l e = absurd (cc)
  each_before sys i n c front (suc k) q l e = front k q (omega arith) e

pub numbered : (sys : System) (i n : ℕ) (r : Rule) → n ≡ i + 1 → slice_get sys.rules i ≡ Some r → rule_at sys n ≡ Some r
numbered sys i n r c e = let next : suc i ≡ n = omega arith in subst (λ (k : ℕ). rule_at sys k ≡ Some r) next e

pub all_closed : (sys : System) (a : Automaton) (i : ℕ) → length sys.rules ≤ i → ((k : ℕ) (q : Rule) → k < i → slice_get sys.rules k ≡ Some q → IsRuleClosed (under sys a) q) → IsClosed sys a
all_closed sys a i l front n r cs q at choice reach = each_all (IsRuleClosed (under sys a)) sys i l front n r at cs q choice reach

pub first_open_of : (sys : System) (a : Automaton) (i n : ℕ) (r : Rule) (cs : List ℕ) (q : ℕ) → n ≡ i + 1 → slice_get sys.rules i ≡ Some r → IsOpenAt (under sys a) r cs q
    → ((k : ℕ) (p : Rule) → k < i → slice_get sys.rules k ≡ Some p → IsRuleClosed (under sys a) p) → IsFirstOpen sys a n cs q
first_open_of sys a i n r cs q c e at_first front =
    record {
      rule = r;
      is_rule = numbered sys i n r c e;
      choice = at_first.choice;
      reached = at_first.reached;
      fails = at_first.fails;
      earlier = λ j p ds s at choice reach before.
          ⊎_elim (λ l. each_before (IsRuleClosed (under sys a)) sys i n c front j p l at ds s choice reach)
          (λ h.
          let there : rule_at sys n ≡ Some p = subst (λ (k : ℕ). rule_at sys k ≡ Some p) h.0 at in
          let here = numbered sys i n r c e in
          let same : r ≡ p = cc in
          let early : (t : Rule) → r ≡ t → IsChoice a.states t.left ds → ReachBy (HasOver sys a) t.left ds s → IsRuleKept (HasOver sys a) t ds s =
          λ t f. subst (λ (u : Rule). IsChoice a.states u.left ds → ReachBy (HasOver sys a) u.left ds s → IsRuleKept (HasOver sys a) u ds s) f (λ x y. at_first.earlier ds s x y h.1) in
          early p same choice reach)
          before;
    }

pub first_wide_of : (sys : System) (a : Automaton) (i n : ℕ) (r : Rule) → n ≡ i + 1 → slice_get sys.rules i ≡ Some r → IsWide a r.left
    → ((k : ℕ) (p : Rule) → k < i → slice_get sys.rules k ≡ Some p → IsWide a p.left → ⊥) → IsFirstWide sys a n
first_wide_of sys a i n r c e wide front =
    record { rule = r; is_rule = numbered sys i n r c e; wide = wide; earlier = λ j p l at w. each_before (λ q. IsWide a q.left → ⊥) sys i n c front j p l at w }

-- twins
pub twins_include : (a : Indexed) (q p : ℕ) (ts : List Transition)
    → ((t : Transition) → IsAmong t (filter (chosen a.symbols target_key a.automaton.states p) a.automaton.transitions) → IsAmong t ts) → HaveTwins a ts q → Includes (Finds a) q p
twins_include a q p ts whole twins s qs has = twins (record { symbol = s; arguments = qs; target = p }) (whole _ (looked_to a target_key p s qs p has refl))

-- the rules of a program's system
module _ (sys : System) (rules : List data_rule.Rule) (i : ℕ) (rule : data_rule.Rule) (same : map rule_view rules ≡ sys.rules) where
  pub rule_stands : i < length rules → rule ≡ get_or rules i rule → slice_get sys.rules i ≡ Some (rule_view rule)
  rule_stands inside is = subst (λ (l : List Rule). slice_get l i ≡ Some (rule_view rule)) same (slice_get-map_read rule_view rules i rule inside is)

pub rules_past : (sys : System) (rules : List data_rule.Rule) (i : ℕ) → map rule_view rules ≡ sys.rules → length rules ≤ i → length sys.rules ≤ i
rules_past sys rules i same h = let long = ap length same in omega (arith, length-map rules rule_view)

pub left_fits : (sys : System) (i : ℕ) (r : Rule) → IsSystem sys → slice_get sys.rules i ≡ Some r → math.Fits r.left
left_fits sys i r h e = (is_rule_at sys.arities sys.rules i r h.rules e).fits.0
