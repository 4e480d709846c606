-- Accepted states, marks, and the states 0.
use Rattle.std.proofs.Common.{◌≡◌, ◌↔◌, ℕ, zero, suc, ◌+◌, ◌<◌, ◌≤◌, ◌⊎◌, inl, inr, ⊎_elim, Bool, true, List, [], ◌∷◌, length, get_or, slice_get, take, replicate, Option, Some}
use Rattle.std.proofs.Common.{IsTrue, Bor, refl, ap, sym, subst, ◌∙◌, arith}
use Rattle.std.proofs.Math.ListN.{set}
use Rattle.std.specs.List.{filter}
use Rattle.std.proofs.lemmas.Bool.{cases_lt}
use Rattle.std.proofs.lemmas.Option.{get_or_from_slice_get, slice_get_within}
use Rattle.std.proofs.lemmas.List.{take_all, get_or_default}
use Rattle.rewriting.specs.Prelude.{Term, IsAmong}
use Rattle.certificates.specs.Evidence.{Transition, Automaton}
use Rattle.automata.specs.Runs.{Moves, Reach, at, RunsFrom0}
use Rattle.automata.specs.Evidence.{IsAccepted}
use Rattle.cert_model.specs.EvidenceView.{transition_view}
use Rattle.cert_model.specs.declared.evidence.Transition as cert
use Rattle.number_sets.specs.Relation.{Relates}
use Rattle.number_sets.specs.declared.rows.NumberRelation.{NumberRelation}
use Rattle.automaton_runs.specs.Counted.{Indexed, Finds}
use Rattle.automaton_runs.specs.Counting.{chosen, symbol_key}
use Rattle.automaton_runs.specs.Indexed.{pointed}
use Rattle.automaton_runs.specs.Choices.{Batch}
use Rattle.automaton_runs.specs.Reached.{AreWhere, Reaches}
use Rattle.rewriting.proofs.Lists.{among_map, among_of_map, among_at}
use Rattle.rewriting.proofs.Members.{among_contained, contained_among}
use Rattle.automaton_runs.proofs.Counted.{symbol_from, symbol_to}
use Rattle.tree_automata.specs.Accepts.{IsOneAccepting, IsMarked}
use Rattle.tree_automata.proofs.Lists.{in_front}

-- one of the listed states is related to some number
module _ (a : Automaton) (r : NumberRelation) (listed : List ℕ) (same : listed ≡ a.accepting) (i : ℕ) where
  pub accepting_here : i < length listed → get_or listed i 0 < a.states → ((k : ℕ) × Relates r (get_or listed i 0) k) → IsOneAccepting a r
  accepting_here inside low (k, there) = (
    get_or listed i 0,
    k,
    there,
    (contained_among _ a.accepting (subst (IsAmong (get_or listed i 0)) same (among_at listed i 0 (get_or listed i 0) inside refl)), low),
  )

  pub none_more : i < length listed → ((q k : ℕ) → IsAmong q (take i listed) → q < a.states → Relates r q k → ⊥) → (get_or listed i 0 < a.states → ((k : ℕ) × Relates r (get_or listed i 0) k) → ⊥)
      → (q k : ℕ) → IsAmong q (take (i + 1) listed) → q < a.states → Relates r q k → ⊥
  none_more inside front never q k h low there =
      ⊎_elim (λ f. front q k f low there) (λ e. never (subst (λ (p : ℕ). p < a.states) e low) (k, subst (λ (p : ℕ). Relates r p k) e there))
      (in_front listed i (get_or listed i 0) q inside (get_or_default listed i 0 (get_or listed i 0) inside) h)

  pub none_at_all : length listed ≤ i → ((q k : ℕ) → IsAmong q (take i listed) → q < a.states → Relates r q k → ⊥) → IsOneAccepting a r → ⊥
  none_at_all past front (q, k, there, acc) = front q k (subst (IsAmong q) (sym (take_all i listed past)) (subst (IsAmong q) (sym same) (among_contained q a.accepting acc.0))) acc.1 there

-- states 0
module _ (a : Indexed) (f n : ℕ) (refs : List (Bor cert.Transition)) (is : pointed refs ≡ filter (chosen a.symbols symbol_key a.automaton.states f) a.automaton.transitions) (i : ℕ) where
  pub zero_here : (x : Bor cert.Transition) → i < length refs → x ≡ get_or refs i x → x.now.args.items ≡ replicate n 0 → x.now.target ≡ 0 → Finds a (Some f) (replicate n 0) 0
  zero_here x inside here zeros target =
      let t = transition_view x.now in
      let there : IsAmong t (pointed refs) = among_map (λ (r : Bor cert.Transition). transition_view r.now) x refs (among_at refs i x x inside here) in
      let has = symbol_from a f t (subst (λ (l : List Transition). IsAmong t l) is there) in
      subst (λ (q : ℕ). Finds a (Some f) (replicate n 0) q) target (subst (λ (qs : List ℕ). Finds a (Some f) qs x.now.target) zeros has)

  pub zero_more : (x : Bor cert.Transition) → i < length refs → x ≡ get_or refs i x → ((t : Transition) → IsAmong t (pointed (take i refs)) → t.arguments ≡ replicate n 0 → t.target ≡ 0 → ⊥)
      → (x.now.args.items ≡ replicate n 0 → x.now.target ≡ 0 → ⊥) → (t : Transition) → IsAmong t (pointed (take (i + 1) refs)) → t.arguments ≡ replicate n 0 → t.target ≡ 0 → ⊥
  zero_more x inside here front never t h zeros target =
      let view : Bor cert.Transition → Transition = λ r. transition_view r.now in
      let b = among_of_map view t (take (i + 1) refs) h in
      ⊎_elim (λ k. front t (subst (λ (u : Transition). IsAmong u (pointed (take i refs))) (sym b.2) (among_map view b.0 (take i refs) k)) zeros target)
      (λ e.
      let same : t ≡ transition_view x.now = b.2 ∙ ap view e in
      never (ap (λ (u : Transition). u.arguments) (sym same) ∙ zeros) (ap (λ (u : Transition). u.target) (sym same) ∙ target))
      (in_front refs i x b.0 inside here b.1)

  pub zero_nowhere : length refs ≤ i → ((t : Transition) → IsAmong t (pointed (take i refs)) → t.arguments ≡ replicate n 0 → t.target ≡ 0 → ⊥) → Finds a (Some f) (replicate n 0) 0 → ⊥
  zero_nowhere past front has =
      let t : Transition = record { symbol = Some f; arguments = replicate n 0; target = 0 } in
      let there = subst (λ (l : List Transition). IsAmong t l) (sym is) (symbol_to a f (replicate n 0) 0 has) in
      front t (subst (λ (l : List (Bor cert.Transition)). IsAmong t (pointed l)) (sym (take_all i refs past)) there) refl refl

-- the symbols below a number, one more at a time
pub zeros_more : (arities items : List ℕ) (M : Moves) (i : ℕ) → items ≡ arities → M (Some i) (replicate (get_or items i 0) 0) 0
    → ((g n : ℕ) → g < i → slice_get arities g ≡ Some n → M (Some g) (replicate n 0) 0)
    → (g n : ℕ) → g < i + 1 → slice_get arities g ≡ Some n → M (Some g) (replicate n 0) 0
zeros_more arities items M i same here front g n l e =
    ⊎_elim (λ (h : g < i). front g n h e)
    (λ (h : i ≤ g).
    let one : g ≡ i = omega arith in
    let at_i : slice_get items i ≡ Some n = subst (λ (k : ℕ). slice_get items k ≡ Some n) one (subst (λ (xs : List ℕ). slice_get xs g ≡ Some n) (sym same) e) in
    let value : get_or items i 0 ≡ n = get_or_from_slice_get items i n 0 at_i in
    subst (λ (k : ℕ). M (Some k) (replicate n 0) 0) (sym one) (subst (λ (m : ℕ). M (Some i) (replicate m 0) 0) value here))
    (cases_lt g i)

pub zeros_all : (arities items : List ℕ) (M : Moves) (i : ℕ) → items ≡ arities → length items ≤ i → ((g n : ℕ) → g < i → slice_get arities g ≡ Some n → M (Some g) (replicate n 0) 0)
    → (f n : ℕ) → slice_get arities f ≡ Some n → M (Some f) (replicate n 0) 0
zeros_all arities items M i same past front f n e =
    let low = slice_get_within arities f n e in
    let long = ap length same in
    front f n (omega arith) e

-- marks
set_here : (marks : List Bool) (q : ℕ) (b : Bool) → q < length marks → slice_get (set marks q b) q ≡ Some b
set_here [] q b h = absurd (omega arith)
set_here (m ∷ marks) zero b h = refl
set_here (m ∷ marks) (suc q) b h = set_here marks q b (omega arith)

set_other : (marks : List Bool) (q p : ℕ) (b : Bool) → p < q → slice_get (set marks q b) p ≡ slice_get marks p
set_other [] q p b h = refl
set_other (m ∷ marks) zero p b h = absurd (omega arith)
set_other (m ∷ marks) (suc q) zero b h = refl
set_other (m ∷ marks) (suc q) (suc p) b h = set_other marks q p b (omega arith)

-- the first n states are marked where E holds
abbrev pub AreMarkedBelow : (ℕ → Type 0) → List Bool → ℕ → Type 0
AreMarkedBelow E marks n = (q : ℕ) → q < n → IsMarked marks q ↔ E q

pub mark_more : (E : ℕ → Type 0) (old new : List Bool) (n : ℕ) (b : Bool) → n < length old → AreMarkedBelow E old n → new ≡ set old n b → (IsTrue b ↔ E n) → AreMarkedBelow E new (n + 1)
mark_more E old new n b inside front is here q low = by (cases_lt q n)
  where
    by : (q < n) ⊎ (n ≤ q) → IsMarked new q ↔ E q
    by (inl h) = subst (λ (o : Option Bool). (o ≡ Some true) ↔ E q) (sym (set_other old n q b h) ∙ ap (λ (l : List Bool). slice_get l q) (sym is)) (front q h)
    by (inr h) =
        let same : n ≡ q = omega arith in
        let at : slice_get new n ≡ Some b = ap (λ (l : List Bool). slice_get l n) is ∙ set_here old n b inside in
        let known : IsMarked new n ↔ E n = (λ m. here.0 (let is_true : b ≡ true = cc in is_true), λ e. let is_true : b ≡ true = here.1 e in at ∙ ap (λ (x : Bool). Some x) is_true) in
        subst (λ (p : ℕ). IsMarked new p ↔ E p) same known

-- runs with all variables at the state 0
abbrev pub AreFrom0 : Indexed → Term → NumberRelation → Type 0
AreFrom0 a t r = (q k : ℕ) → Relates r q k ↔ ((k ≡ 0) × Reach (Finds a) (at (λ x. 0)) t q)

-- the one choice for no occurrences
pub from_0 : (a : Indexed) (t : Term) (b : Batch) (r : NumberRelation) → length b.tails ≡ 1 → AreWhere b (Reaches a [] t) r → AreFrom0 a t r
from_0 a t b r one where_ q k = (
  λ h. let there = (where_ q k).0 h in let low = there.0 in (omega arith, there.1),
  λ h. let zero_is = h.0 in (where_ q k).1 (omega arith, h.1),
)

pub accepted_is : (a : Automaton) (i : Indexed) (t : Term) (r : NumberRelation) (b : Bool) → i.automaton ≡ a → AreFrom0 i t r → (IsTrue b ↔ IsOneAccepting a r) → IsTrue b ↔ IsAccepted i.symbols a t
accepted_is a i t r b same all one =
    let own : AreFrom0 (record { symbols = i.symbols; automaton = a }) t r = subst (λ (x : Automaton). AreFrom0 (record { symbols = i.symbols; automaton = x }) t r) same all in (
      λ h. let (q, k, there, acc) = one.0 h in (q, acc, (acc.1, ((own q k).0 there).1)),
      λ (q, acc, run). one.1 (q, 0, (own q 0).1 (refl, run.1), acc),
    )

pub marks_are : (a : Automaton) (i : Indexed) (t : Term) (r : NumberRelation) (marks : List Bool) → i.automaton ≡ a → AreFrom0 i t r
    → ((q : ℕ) → q < length marks → IsMarked marks q ↔ ((k : ℕ) × Relates r q k)) → length marks ≡ a.states
    → (q : ℕ) → q < a.states → IsMarked marks q ↔ RunsFrom0 i.symbols a t q
marks_are a i t r marks same all marked long q low =
    let own : AreFrom0 (record { symbols = i.symbols; automaton = a }) t r = subst (λ (x : Automaton). AreFrom0 (record { symbols = i.symbols; automaton = x }) t r) same all in
    let m = marked q (let inside : q < length marks = omega arith in inside) in (
      λ h. let there = m.0 h in (low, ((own q there.0).0 there.1).1),
      λ run. m.1 (0, (own q 0).1 (refl, run.1)),
    )
