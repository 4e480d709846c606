-- An automaton has a judgement: runs are decided by search among the transitions, choices are finitely many, and of the rules,
-- choices and states at which a right side is not kept there is a first.
use Rattle.std.proofs.Common.{ℕ, ◌≡◌, ◌<◌, ◌^◌, ◌⊎◌, inl, inr, List, [], ◌∷◌, Option, None, Some, All, Contains, length, replicate, slice_get, refl, sym, subst}
use Rattle.std.proofs.lemmas.Option.{slice_get_within}
use Rattle.std.proofs.lemmas.List.Elements.{All-nil, All-cons, All-head, All-tail}
use native.Mathlib.Decide.{ℕ_discrete, dec_lt, map_dec}
use Rattle.general_lemmas.proofs.Decisions.{dec_and, same_numbers, no_or_yes}
use Rattle.rewriting.specs.Prelude.{Term, var, app, Terms, nil, cons, Rule, Condition, System, rule_at, variable_occurrences}
use Rattle.rewriting.proofs.Search.{FirstBelow, search_below, FirstRule, search_rules, decided}
use Rattle.certificates.specs.Prelude.{Transition, Automaton, hypothesis_at, EvidenceReason, auto_number, auto_any, auto_misses, auto_wide, auto_not_closed, auto_wide_right, auto_reaches}
use Rattle.automata.specs.Runs.{Symbols, HasArity, IsHead, Has, Reach, ReachAll, at, ReachBy, ReachAllBy, IsAccepting}
use Rattle.automata.specs.Closed.{IsChoice, state_of, Includes, IsKept, IsRuleKept, HasOver, IsClosed, IsEarlierChoice, IsFirstOpen, IsWide, AreNarrow, IsFirstWide, AcceptsAll, Excludes}
use Rattle.automata.specs.Evidence.{IsAccepted, IsClosureJudged, IsExclusionJudged, IsConditionJudged, not_any, misses, closure_fails, right_side, JudgedByAutomaton}
use Rattle.automata.proofs.Asked.{end_below}
use Rattle.automata.proofs.Finite.{same_option, Member, some_member, some_parts, AllLists, FirstList, search_lists}

-- states
all_below : (n : ℕ) (qs : List ℕ) → Dec (All (λ q. q < n) qs)
all_below n [] = yes (All-nil (λ q. q < n))
all_below n (q ∷ qs) = map_dec (λ (h, all). All-cons (λ q. q < n) q qs h all) (λ all. (All-head (λ q. q < n) q qs all, All-tail (λ q. q < n) q qs all)) (dec_and (dec_lt q n) (all_below n qs))

-- heads
has_arity : (symbols : Symbols) (f n : ℕ) → Dec (HasArity symbols f n)
has_arity None f n = yes tt
has_arity (Some arities) f n = same_option (slice_get arities f) (Some n)

is_head : (symbols : Symbols) (symbol : Option ℕ) (qs : List ℕ) → Dec (IsHead symbols symbol qs)
is_head symbols None qs = same_numbers qs []
is_head symbols (Some f) qs = has_arity symbols f (length qs)

module _ (symbols : Symbols) (a : Automaton) where
  -- transitions
  abbrev Same : Option ℕ → List ℕ → ℕ → Transition → Type 0
  Same symbol qs q d = (d.symbol ≡ symbol) × ((d.arguments ≡ qs) × (d.target ≡ q))

  is_listed : (symbol : Option ℕ) (qs : List ℕ) (q : ℕ) → Dec (Contains a.transitions (record { symbol = symbol; arguments = qs; target = q }))
  is_listed symbol qs q = map_dec to from (some_member (Same symbol qs q) (λ d. dec_and (same_option d.symbol symbol) (dec_and (same_numbers d.arguments qs) (ℕ_discrete d.target q))) a.transitions)
    where
      to : Member (Same symbol qs q) a.transitions → Contains a.transitions (record { symbol = symbol; arguments = qs; target = q })
      to (d, c, (e, (f, g))) =
          subst (λ p. Contains a.transitions (record { symbol = symbol; arguments = qs; target = p })) g
          (subst (λ ps. Contains a.transitions (record { symbol = symbol; arguments = ps; target = d.target })) f
          (subst (λ o. Contains a.transitions (record { symbol = o; arguments = d.arguments; target = d.target })) e c))

      from : Contains a.transitions (record { symbol = symbol; arguments = qs; target = q }) → Member (Same symbol qs q) a.transitions
      from c = (record { symbol = symbol; arguments = qs; target = q }, c, (refl, (refl, refl)))

  pub has : (symbol : Option ℕ) (qs : List ℕ) (q : ℕ) → Dec (Has symbols a symbol qs q)
  has symbol qs q =
      map_dec (λ ((l, h), (all, t)). record { listed = l; head = h; arguments = all; target = t }) (λ m. ((m.listed, m.head), (m.arguments, m.target)))
      (dec_and (dec_and (is_listed symbol qs q) (is_head symbols symbol qs)) (dec_and (all_below a.states qs) (dec_lt q a.states)))

  -- a transition under the symbol to q whose arguments have a property
  some_move : (f q : ℕ) (P : List ℕ → Type 0) → ((qs : List ℕ) → Dec (P qs)) → Dec ((qs : List ℕ) × Has symbols a (Some f) qs q × P qs)
  some_move f q P test = map_dec (λ (d, c, (m, p)). (d.arguments, m, p)) from
      (some_member (λ d. Has symbols a (Some f) d.arguments q × P d.arguments) (λ d. dec_and (has (Some f) d.arguments q) (test d.arguments)) a.transitions)
    where
      from : (qs : List ℕ) × Has symbols a (Some f) qs q × P qs → Member (λ d. Has symbols a (Some f) d.arguments q × P d.arguments) a.transitions
      from (qs, m, p) = (record { symbol = Some f; arguments = qs; target = q }, m.listed, (m, p))

  -- runs
  mutual
    reach : (e : ℕ → ℕ) (t : Term) (q : ℕ) → Dec (Reach (Has symbols a) (at e) t q)
    reach e (var x) q = ℕ_discrete q (e x)
    reach e (app f ts) q = some_move f q (λ qs. ReachAll (Has symbols a) (at e) ts qs) (λ qs. reach_all e ts qs)

    reach_all : (e : ℕ → ℕ) (ts : Terms) (qs : List ℕ) → Dec (ReachAll (Has symbols a) (at e) ts qs)
    reach_all e nil qs = same_numbers qs []
    reach_all e (cons t ts) [] = no (λ h. h)
    reach_all e (cons t ts) (q ∷ qs) = dec_and (reach e t q) (reach_all e ts qs)

  mutual
    reach_by : (t : Term) (cs : List ℕ) (q : ℕ) → Dec (ReachBy (Has symbols a) t cs q)
    reach_by (var x) cs q = same_numbers cs (q ∷ [])
    reach_by (app f ts) cs q = some_move f q (λ qs. ReachAllBy (Has symbols a) ts cs qs) (λ qs. reach_all_by ts cs qs)

    reach_all_by : (ts : Terms) (cs qs : List ℕ) → Dec (ReachAllBy (Has symbols a) ts cs qs)
    reach_all_by nil cs qs = dec_and (same_numbers cs []) (same_numbers qs [])
    reach_all_by (cons t ts) cs [] = no (λ h. h)
    reach_all_by (cons t ts) cs (q ∷ qs) =
        map_dec (λ (before, after, e, (h, hs)). (before, after, e, h, hs)) (λ (before, after, e, h, hs). (before, after, e, (h, hs)))
        (some_parts cs (λ before after. ReachBy (Has symbols a) t before q × ReachAllBy (Has symbols a) ts after qs) (λ before after. dec_and (reach_by t before q) (reach_all_by ts after qs)))

  -- accepted terms
  is_accepting : (q : ℕ) → Dec (IsAccepting a q)
  is_accepting q = dec_and (map_dec (λ (p, c, e). subst (Contains a.accepting) e c) (λ c. (q, c, refl)) (some_member (λ p. p ≡ q) (λ p. ℕ_discrete p q) a.accepting)) (dec_lt q a.states)

  accepted : (t : Term) → Dec (IsAccepted symbols a t)
  accepted t =
      map_dec (λ (q, c, (accepts, run)). (q, accepts, run)) (λ (q, accepts, run). (q, accepts.0, (accepts, run)))
      (some_member (λ q. IsAccepting a q × ((q < a.states) × Reach (Has symbols a) (at (λ x. 0)) t q)) (λ q. dec_and (is_accepting q) (dec_and (dec_lt q a.states) (reach (λ x. 0) t q))) a.accepting)

  -- excluded terms
  module _ (t : Term) where
    abbrev Arrives : List ℕ → ℕ → Type 0
    Arrives cs q = IsAccepting a q × ReachBy (Has symbols a) t cs q

    arrives : (cs : List ℕ) → ((q : ℕ) → q < a.states → Arrives cs q → ⊥) ⊎ FirstBelow (λ q. Arrives cs q → ⊥) (Arrives cs) a.states
    arrives cs = search_below (λ q. Arrives cs q → ⊥) (Arrives cs) (λ q. no_or_yes (dec_and (is_accepting q) (reach_by t cs q))) a.states

    excludes : Dec (Excludes symbols a t)
    excludes = go (search_lists (λ cs. (q : ℕ) → q < a.states → Arrives cs q → ⊥) (λ cs. FirstBelow (λ q. Arrives cs q → ⊥) (Arrives cs) a.states) arrives a.states (length (variable_occurrences t)))
      where
        go : AllLists (λ cs. (q : ℕ) → q < a.states → Arrives cs q → ⊥) a.states (length (variable_occurrences t))
            ⊎ FirstList (λ cs. (q : ℕ) → q < a.states → Arrives cs q → ⊥) (λ cs. FirstBelow (λ q. Arrives cs q → ⊥) (Arrives cs) a.states) a.states
            (length (variable_occurrences t)) → Dec (Excludes symbols a t)
        go (inl none) = yes (λ cs q choice accepts run. none cs choice.each choice.states q accepts.1 (accepts, run))
        go (inr f) = no (λ none. none f.list f.has.number (record { each = f.long; states = f.below }) f.has.has.0 f.has.has.1)

    exclusion_total : (o : Option EvidenceReason) × IsExclusionJudged symbols a t o
    exclusion_total = go (dec_lt 1000000 (a.states ^ length (variable_occurrences t))) excludes
      where
        go : Dec (IsWide a t) → Dec (Excludes symbols a t) → (o : Option EvidenceReason) × IsExclusionJudged symbols a t o
        go (yes wide) d = (Some auto_wide_right, wide)
        go (no narrow) (yes none) = (None, (narrow, none))
        go (no narrow) (no some) = (Some auto_reaches, (narrow, some))

module _ (sys : System) (a : Automaton) where
  -- state 0
  abbrev Kept : ℕ → Type 0
  Kept f = (n : ℕ) → slice_get sys.arities f ≡ Some n → HasOver sys a (Some f) (replicate n 0) 0

  symbol_kept : (f : ℕ) (o : Option ℕ) → slice_get sys.arities f ≡ o → Dec ((n : ℕ) → slice_get sys.arities f ≡ Some n → HasOver sys a (Some f) (replicate n 0) 0)
  symbol_kept f None is = yes (λ n e. absurd (cc))
  symbol_kept f (Some m) is = map_dec (λ h n e. let same : m ≡ n = cc in subst (λ k. HasOver sys a (Some f) (replicate k 0) 0) same h) (λ h. h m is)
      (has (Some sys.arities) a (Some f) (replicate m 0) 0)

  accepts_all : Dec (AcceptsAll sys (HasOver sys a))
  accepts_all = go (search_below Kept (λ f. Kept f → ⊥) (λ f. decided (symbol_kept f (slice_get sys.arities f) refl)) (length sys.arities)) (has (Some sys.arities) a None [] 0)
    where
      go : ((f : ℕ) → f < length sys.arities → Kept f) ⊎ FirstBelow Kept (λ f. Kept f → ⊥) (length sys.arities) → Dec (HasOver sys a None [] 0) → Dec (AcceptsAll sys (HasOver sys a))
      go (inl all) (yes v) = yes (record { symbols = λ f n e. all f (slice_get_within sys.arities f n e) n e; variables = v })
      go (inl all) (no k) = no (λ h. k h.variables)
      go (inr f) d = no (λ h. f.has (λ n e. h.symbols f.number n e))

  -- widths
  widths : AreNarrow sys a ⊎ ((i : ℕ) × IsFirstWide sys a i)
  widths = go (search_rules (λ i r. IsWide a r.left → ⊥) (λ i r. IsWide a r.left) sys (λ i r e. no_or_yes (dec_lt 1000000 (a.states ^ length (variable_occurrences r.left)))))
    where
      go : ((i : ℕ) (r : Rule) → rule_at sys i ≡ Some r → IsWide a r.left → ⊥) ⊎ FirstRule (λ i r. IsWide a r.left → ⊥) (λ i r. IsWide a r.left) sys → AreNarrow sys a ⊎ ((i : ℕ) × IsFirstWide sys a i)
      go (inl all) = inl all
      go (inr f) = inr (f.number, record { rule = f.found; is_rule = f.is_rule; wide = f.has; earlier = λ j r less e. f.before j r less e })

  -- right sides
  abbrev Lacks : ℕ → ℕ → Transition → Type 0
  Lacks q p d = HasOver sys a d.symbol d.arguments p × (HasOver sys a d.symbol d.arguments q → ⊥)

  included : (q p : ℕ) → Dec (Includes (HasOver sys a) q p)
  included q p = go (some_member (Lacks q p) (λ d. dec_and (has (Some sys.arities) a d.symbol d.arguments p) (opposite (has (Some sys.arities) a d.symbol d.arguments q))) a.transitions)
    where
      opposite : {A : Type 0} → Dec A → Dec (A → ⊥)
      opposite (yes x) = no (λ k. k x)
      opposite (no k) = yes k

      kept : (Member (Lacks q p) a.transitions → ⊥) → (symbol : Option ℕ) (qs : List ℕ) → HasOver sys a symbol qs p → Dec (HasOver sys a symbol qs q) → HasOver sys a symbol qs q
      kept none symbol qs m (yes h) = h
      kept none symbol qs m (no k) = absurd (none (record { symbol = symbol; arguments = qs; target = p }, m.listed, (m, k)))

      go : Dec (Member (Lacks q p) a.transitions) → Dec (Includes (HasOver sys a) q p)
      go (yes (d, c, (m, k))) = no (λ twins. k (twins d.symbol d.arguments m))
      go (no none) = yes (λ symbol qs m. kept none symbol qs m (has (Some sys.arities) a symbol qs q))

  module _ (r : Rule) where
    is_kept : (cs : List ℕ) (q : ℕ) (t : Term) → r.right ≡ t → Dec (IsRuleKept (HasOver sys a) r cs q)
    is_kept cs q (var x) e = subst (λ t. Dec (IsKept (HasOver sys a) (state_of (variable_occurrences r.left) cs) t q)) (sym e) (included q (state_of (variable_occurrences r.left) cs x))
    is_kept cs q (app f ts) e = subst (λ t. Dec (IsKept (HasOver sys a) (state_of (variable_occurrences r.left) cs) t q)) (sym e)
        (reach (Some sys.arities) a (state_of (variable_occurrences r.left) cs) (app f ts) q)

    abbrev Holds : List ℕ → ℕ → Type 0
    Holds cs q = ReachBy (HasOver sys a) r.left cs q → IsRuleKept (HasOver sys a) r cs q

    abbrev Fails : List ℕ → ℕ → Type 0
    Fails cs q = ReachBy (HasOver sys a) r.left cs q × (IsRuleKept (HasOver sys a) r cs q → ⊥)

    holds_or_fails : (cs : List ℕ) (q : ℕ) → Holds cs q ⊎ Fails cs q
    holds_or_fails cs q = go (reach_by (Some sys.arities) a r.left cs q) (is_kept cs q r.right refl)
      where
        go : Dec (ReachBy (HasOver sys a) r.left cs q) → Dec (IsRuleKept (HasOver sys a) r cs q) → Holds cs q ⊎ Fails cs q
        go (no k) d = inl (λ h. absurd (k h))
        go (yes h) (yes kept) = inl (λ x. kept)
        go (yes h) (no k) = inr (h, k)

    abbrev HoldsAll : List ℕ → Type 0
    HoldsAll cs = (q : ℕ) → q < a.states → Holds cs q

    abbrev FailsFirst : List ℕ → Type 0
    FailsFirst cs = FirstBelow (Holds cs) (Fails cs) a.states

    abbrev FirstFailure : Type 0
    FirstFailure = FirstList HoldsAll FailsFirst a.states (length (variable_occurrences r.left))

    choices : AllLists HoldsAll a.states (length (variable_occurrences r.left)) ⊎ FirstFailure
    choices = search_lists HoldsAll FailsFirst (λ cs. search_below (Holds cs) (Fails cs) (λ q. holds_or_fails cs q) a.states) a.states (length (variable_occurrences r.left))

  abbrev RuleHolds : ℕ → Rule → Type 0
  RuleHolds i r = AllLists (HoldsAll r) a.states (length (variable_occurrences r.left))

  abbrev RuleFails : ℕ → Rule → Type 0
  RuleFails i r = FirstFailure r

  kept_by : (i : ℕ) (r : Rule) (cs : List ℕ) (q : ℕ) → RuleHolds i r → IsChoice a.states r.left cs → ReachBy (HasOver sys a) r.left cs q → IsRuleKept (HasOver sys a) r cs q
  kept_by i r cs q all choice run = all cs choice.each choice.states q (end_below a.states (HasOver sys a) (λ symbol qs p m. m.target) r.left cs q choice.states run) run

  first_open : (f : FirstRule RuleHolds RuleFails sys) → IsFirstOpen sys a f.number f.has.list f.has.has.number
  first_open f = record {
    rule = f.found;
    is_rule = f.is_rule;
    choice = record { each = f.has.long; states = f.has.below };
    reached = f.has.has.has.0;
    fails = f.has.has.has.1;
    earlier = earlier;
  }
    where
      cs : List ℕ
      cs = f.has.list

      q : ℕ
      q = f.has.has.number

      same_rule : (j : ℕ) (r : Rule) → rule_at sys j ≡ Some r → j ≡ f.number → f.found ≡ r
      same_rule j r is e = (let there : rule_at sys j ≡ Some f.found = subst (λ k. rule_at sys k ≡ Some f.found) (sym e) f.is_rule in cc)

      within : (ds : List ℕ) (p : ℕ) (r : Rule) → IsChoice a.states r.left ds → ReachBy (HasOver sys a) r.left ds p → f.found ≡ r
          → (IsChoice a.states f.found.left ds → Holds f.found ds p) → IsRuleKept (HasOver sys a) r ds p
      within ds p r choice run same keep =
          subst (λ s. IsChoice a.states s.left ds → ReachBy (HasOver sys a) s.left ds p → IsRuleKept (HasOver sys a) s ds p) same (λ c h. keep c h) choice run

      earlier : (j : ℕ) (r : Rule) (ds : List ℕ) (p : ℕ) → rule_at sys j ≡ Some r → IsChoice a.states r.left ds → ReachBy (HasOver sys a) r.left ds p
          → IsEarlierChoice (j, (ds, p)) (f.number, (cs, q)) → IsRuleKept (HasOver sys a) r ds p
      earlier j r ds p is choice run (inl less) = kept_by j r ds p (f.before j r less is) choice run
      earlier j r ds p is choice run (inr (same, inl before)) =
          within ds p r choice run (same_rule j r is same)
          (λ c. f.has.before ds c.each c.states before p (end_below a.states (HasOver sys a) (λ symbol qs p m. m.target) r.left ds p choice.states run))
      earlier j r ds p is choice run (inr (same, inr (e, less))) =
          within ds p r choice run (same_rule j r is same) (λ c. subst (λ l. Holds f.found l p) (sym e) (f.has.has.before p less))

  abbrev OpenSomewhere : Type 0
  OpenSomewhere = (i : ℕ) × (cs : List ℕ) × (q : ℕ) × IsFirstOpen sys a i cs q

  closes_or_open : IsClosed sys a ⊎ OpenSomewhere
  closes_or_open = go (search_rules RuleHolds RuleFails sys (λ i r e. choices r))
    where
      go : ((i : ℕ) (r : Rule) → rule_at sys i ≡ Some r → RuleHolds i r) ⊎ FirstRule RuleHolds RuleFails sys → IsClosed sys a ⊎ OpenSomewhere
      go (inl all) = inl (λ i r cs q is choice run. kept_by i r cs q (all i r is) choice run)
      go (inr f) = inr (f.number, f.has.list, f.has.has.number, first_open f)

  -- the closure test passes, or has a reason
  closure_total : IsClosureJudged sys a None ⊎ ((why : EvidenceReason) × IsClosureJudged sys a (Some why))
  closure_total = go widths closes_or_open
    where
      go : AreNarrow sys a ⊎ ((i : ℕ) × IsFirstWide sys a i) → IsClosed sys a ⊎ OpenSomewhere
          → IsClosureJudged sys a None ⊎ ((why : EvidenceReason) × IsClosureJudged sys a (Some why))
      go (inr (i, wide)) d = inr (auto_wide i, wide)
      go (inl narrow) (inl closed) = inl (narrow, closed)
      go (inl narrow) (inr (i, cs, q, first)) = inr (auto_not_closed i cs q, (narrow, first))

  condition_total : (c : Condition) → (o : Option EvidenceReason) × IsConditionJudged sys c a o
  condition_total c = go accepts_all (accepted (Some sys.arities) a c.left) closure_total (exclusion_total (Some sys.arities) a c.right)
    where
      go : Dec (AcceptsAll sys (HasOver sys a)) → Dec (IsAccepted (Some sys.arities) a c.left) → IsClosureJudged sys a None ⊎ ((why : EvidenceReason) × IsClosureJudged sys a (Some why))
          → (o : Option EvidenceReason) × IsExclusionJudged (Some sys.arities) a c.right o → (o : Option EvidenceReason) × IsConditionJudged sys c a o
      go (no k) d closed right = (Some auto_any, not_any k)
      go (yes any) (no k) closed right = (Some auto_misses, misses any k)
      go (yes any) (yes hit) (inr (why, h)) right = (Some why, closure_fails why any hit h)
      go (yes any) (yes hit) (inl closed) (o, h) = (o, right_side o any hit closed h)

pub automaton_total : (sys : System) (cs : List Condition) (k : ℕ) (a : Automaton) → (o : Option EvidenceReason) × JudgedByAutomaton sys cs k a o
automaton_total sys cs k a = go (hypothesis_at cs k) refl
  where
    go : (h : Option Condition) → hypothesis_at cs k ≡ h → (o : Option EvidenceReason) × JudgedByAutomaton sys cs k a o
    go None is = (Some auto_number, inl (is, refl))
    go (Some c) is = let judged = condition_total sys a c in (judged.0, inr (c, is, judged.1))
