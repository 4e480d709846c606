-- What grows from a term does not depend on the names of its variables.
use Rattle.std.proofs.Common.{ℕ, suc, ◌≡◌, ◌+◌, ◌<◌, ◌^◌, List, [], ◌∷◌, ◌++◌, Some, length, refl, sym, ap, ap₂, ◌∙◌, subst}
use Rattle.std.specs.Prelude.{Contains}
use Rattle.rewriting.specs.Prelude.{Term, Terms, var, app, nil, cons, apply, apply_all, Rule, System, variable_occurrences}
use Rattle.unifier_run.proofs.Renamed.{names}
use Rattle.certificates.specs.Evidence.{Transition, Automaton}
use Rattle.automata.specs.Closed.{IsChoice, state_of}
use Rattle.automata.specs.Growth.{inner, inner_in, top, tops, inside, inside_all, grown, proper_before, first_state, state_count, IsGrown, IsAsked}
use Rattle.search_spaces.specs.Grown.{GrowsTo}

-- all that growth asks of a term: how many subterms it has that are no variables, their transitions, and its own state
record IsAlike (s t : Term) : Type 0 where
  count : inner s ≡ inner t
  transitions : inside (λ x. 0) 1 s ≡ inside (λ x. 0) 1 t
  state : top (λ x. 0) 1 s ≡ top (λ x. 0) 1 t

alike_back : (s t : Term) → IsAlike s t → IsAlike t s
alike_back s t h = record { count = sym h.count; transitions = sym h.transitions; state = sym h.state }

module _ (sys : System) where
  module _ (s t : Term) (h : IsAlike s t) where
    first-alike : (i : ℕ) → first_state sys t i ≡ first_state sys s i
    first-alike i = ap (λ k. suc (k + proper_before i sys.rules)) (sym h.count)

    count-alike : state_count sys t ≡ state_count sys s
    count-alike = first-alike (length sys.rules)

    choice_alike : (r : Rule) (cs : List ℕ) → IsChoice (state_count sys t) r.left cs → IsChoice (state_count sys s) r.left cs
    choice_alike r cs choice = subst (λ k. IsChoice k r.left cs) count-alike choice

    grown_alike : (ds : List Transition) → IsGrown sys s ds → IsGrown sys t ds
    grown_alike ds g =
        record {
          symbols = g.symbols;
          variables = g.variables;
          start = λ d m. g.start d (subst (λ z. Contains z d) (sym h.transitions) m);
          right = λ i r cs q d is choice reach m. g.right i r cs q d is (choice_alike r cs choice) reach
              (subst (λ k. Contains (grown (state_of (variable_occurrences r.left) cs) k r.right q) d) (first-alike i) m);
          twins = λ i r cs q x symbol qs is variable choice reach m. g.twins i r cs q x symbol qs is variable (choice_alike r cs choice) reach m;
        }

  asked_alike : (s t : Term) → IsAlike s t → (d : Transition) → IsAsked sys s d → IsAsked sys t d
  asked_alike s t h d asked ds g = asked ds (grown_alike t s (alike_back s t h) ds g)

  grows_alike : (s t : Term) → IsAlike s t → (a : Automaton) → GrowsTo sys s a → GrowsTo sys t a
  grows_alike s t h a g =
      let least = g.growth.transitions in
      record {
        growth = record {
          states = g.growth.states ∙ sym (count-alike s t h);
          accepting = g.growth.accepting ∙ ap (λ q. q ∷ []) h.state;
          transitions = record {
            grown_set = grown_alike s t h a.transitions least.grown_set;
            least = λ d m. asked_alike s t h d (least.least d m);
            sorted = least.sorted;
          };
        };
        few_states = λ many. g.few_states (subst (λ k. 64 < k) (count-alike s t h) many);
        narrow = λ i r is wide. g.narrow i r is (subst (λ k. 100000 < k ^ length (variable_occurrences r.left)) (count-alike s t h) wide);
        few_transitions = g.few_transitions;
      }

module _ (rho : ℕ → ℕ) where
  abbrev renamed : Term → Term
  renamed t = apply (names rho) t

  abbrev all_renamed : Terms → Terms
  all_renamed ts = apply_all (names rho) ts

  mutual
    inner-renamed : (t : Term) → inner (renamed t) ≡ inner t
    inner-renamed (var x) = refl
    inner-renamed (app f ts) = ap suc (inner_in-renamed ts)

    inner_in-renamed : (ts : Terms) → inner_in (all_renamed ts) ≡ inner_in ts
    inner_in-renamed nil = refl
    inner_in-renamed (cons t ts) = ap₂ (λ j k. j + k) (inner-renamed t) (inner_in-renamed ts)

  top-renamed : (n : ℕ) (t : Term) → top (λ x. 0) n (renamed t) ≡ top (λ x. 0) n t
  top-renamed n (var x) = refl
  top-renamed n (app f ts) = refl

  tops-renamed : (n : ℕ) (ts : Terms) → tops (λ x. 0) n (all_renamed ts) ≡ tops (λ x. 0) n ts
  tops-renamed n nil = refl
  tops-renamed n (cons t ts) =
      ap₂ (λ (q : ℕ) (qs : List ℕ). q ∷ qs) (top-renamed n t) (ap (λ k. tops (λ x. 0) (n + k) (all_renamed ts)) (inner-renamed t) ∙ tops-renamed (n + inner t) ts)

  mutual
    inside-renamed : (n : ℕ) (t : Term) → inside (λ x. 0) n (renamed t) ≡ inside (λ x. 0) n t
    inside-renamed n (var x) = refl
    inside-renamed n (app f ts) =
        let first : List ℕ → Transition = λ qs. record { symbol = Some f; arguments = qs; target = n } in
        ap₂ (λ (qs : List ℕ) (ds : List Transition). first qs ∷ ds) (tops-renamed (suc n) ts) (all_inside-renamed (suc n) ts)

    all_inside-renamed : (n : ℕ) (ts : Terms) → inside_all (λ x. 0) n (all_renamed ts) ≡ inside_all (λ x. 0) n ts
    all_inside-renamed n nil = refl
    all_inside-renamed n (cons t ts) =
        ap₂ (λ (cs ds : List Transition). cs ++ ds) (inside-renamed n t)
        (ap (λ k. inside_all (λ x. 0) (n + k) (all_renamed ts)) (inner-renamed t) ∙ all_inside-renamed (n + inner t) ts)

  renamed_alike : (t : Term) → IsAlike (renamed t) t
  renamed_alike t = record { count = inner-renamed t; transitions = inside-renamed 1 t; state = top-renamed 1 t }

  pub grows_to : (sys : System) (t : Term) (a : Automaton) → GrowsTo sys t a → GrowsTo sys (renamed t) a
  grows_to sys t a g = grows_alike sys t (renamed t) (alike_back (renamed t) t (renamed_alike t)) a g

  pub grows_from : (sys : System) (t : Term) (a : Automaton) → GrowsTo sys (renamed t) a → GrowsTo sys t a
  grows_from sys t a g = grows_alike sys (renamed t) t (renamed_alike t) a g
