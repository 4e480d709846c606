-- How many choices there are; transitions and their twins.
use Rattle.std.proofs.Common.{◌≡◌, ℕ, ◌+◌, ◌<◌, ◌≤◌, ◌^◌, ⊎_elim, List, length, get_or, take, false, IsTrue, Bor, ap, sym, subst, ◌∙◌}
use Rattle.std.specs.List.{filter}
use Rattle.std.proofs.lemmas.Bool.{false≢true}
use Rattle.std.proofs.lemmas.List.{take_all}
use Rattle.rewriting.specs.Prelude.{Term, variable_occurrences, IsAmong}
use Rattle.certificates.specs.Evidence.{Transition, Automaton}
use Rattle.automata.specs.Closed.{Includes, IsWide}
use Rattle.cert_model.specs.EvidenceView.{transition_view}
use Rattle.cert_model.specs.declared.evidence.Transition as cert
use Rattle.automaton_runs.specs.Counted.{Indexed, Finds}
use Rattle.automaton_runs.specs.Counting.{chosen, target_key}
use Rattle.automaton_runs.specs.Indexed.{pointed}
use Rattle.rewriting.proofs.Lists.{among_map, among_of_map, among_at}
use Rattle.tree_automata.specs.Open.{HaveTwins}
use Rattle.tree_automata.proofs.Lists.{in_front}
use Rattle.automaton_runs.proofs.Looked.{looked_from}
use Rattle.tree_automata.proofs.Open.{twins_include}

-- as many choices as there are variable occurrences ask for
pub wide_by : (a : Automaton) (t : Term) (n : ℕ) (names : List ℕ) → n ≡ length names → names ≡ variable_occurrences t → 1000000 < a.states ^ n → IsWide a t
wide_by a t n names e l h = subst (λ (k : ℕ). 1000000 < a.states ^ k) (e ∙ ap length l) h

pub narrow_by : (a : Automaton) (t : Term) (n : ℕ) (names : List ℕ) → n ≡ length names → names ≡ variable_occurrences t → (1000000 < a.states ^ n → IsTrue false) → IsWide a t → ⊥
narrow_by a t n names e l h w = false≢true (h (subst (λ (k : ℕ). 1000000 < a.states ^ k) (sym (e ∙ ap length l)) w))

module _ (a : Indexed) (q p : ℕ) (refs : List (Bor cert.Transition)) (is : pointed refs ≡ filter (chosen a.symbols target_key a.automaton.states p) a.automaton.transitions) (i : ℕ) where
  pub twin_missing : (x : Bor cert.Transition) → i < length refs → x ≡ get_or refs i x → (Finds a x.now.symbol x.now.args.items q → ⊥) → Includes (Finds a) q p → ⊥
  twin_missing x inside here never twins =
      let t = transition_view x.now in
      let there : IsAmong t (pointed refs) = among_map (λ (r : Bor cert.Transition). transition_view r.now) x refs (among_at refs i x x inside here) in
      let f = looked_from a target_key p t (subst (λ (l : List Transition). IsAmong t l) is there) in
      let target : x.now.target ≡ p = cc in
      never (twins x.now.symbol x.now.args.items (subst (λ (s : ℕ). Finds a x.now.symbol x.now.args.items s) target f.0))

  pub twins_more : (x : Bor cert.Transition) → i < length refs → x ≡ get_or refs i x → HaveTwins a (pointed (take i refs)) q → Finds a x.now.symbol x.now.args.items q
      → HaveTwins a (pointed (take (i + 1) refs)) q
  twins_more x inside here front twin t h =
      let view : Bor cert.Transition → Transition = λ r. transition_view r.now in
      let b = among_of_map view t (take (i + 1) refs) h in
      ⊎_elim (λ k. front t (subst (λ (u : Transition). IsAmong u (pointed (take i refs))) (sym b.2) (among_map view b.0 (take i refs) k)))
      (λ e.
      let same : t ≡ transition_view x.now = b.2 ∙ ap view e in
      subst (λ (u : Transition). Finds a u.symbol u.arguments q) (sym same) twin)
      (in_front refs i x b.0 inside here b.1)

  pub twins_all : length refs ≤ i → HaveTwins a (pointed (take i refs)) q → Includes (Finds a) q p
  twins_all past front =
      twins_include a q p (pointed (take i refs))
      (λ t h. subst (λ (l : List (Bor cert.Transition)). IsAmong t (pointed l)) (sym (take_all i refs past)) (subst (λ (l : List Transition). IsAmong t l) (sym is) h)) front
