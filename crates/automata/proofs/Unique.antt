-- An automaton has one judgement: its reasons exclude each other, and there is one first reason of a kind.
use Rattle.std.proofs.Common.{ℕ, ◌≡◌, inl, inr, List, Option, None, Some, refl, sym, ◌∙◌, subst}
use Rattle.rewriting.specs.Prelude.{Term, IsBefore, Condition, System}
use Rattle.rewriting.proofs.Before.{Ordered, comes_first, is_same, comes_last, order_positions}
use Rattle.rewriting.proofs.Conditions.{Order, is_smaller, is_equal, is_greater, order}
use Rattle.certificates.specs.Prelude.{Automaton, hypothesis_at, EvidenceReason, auto_wide, auto_not_closed, auto_wide_right, auto_reaches}
use Rattle.automata.specs.Runs.{Symbols}
use Rattle.automata.specs.Closed.{IsClosed, IsEarlierChoice, IsFirstOpen, IsWide, AreNarrow, IsFirstWide, Excludes}
use Rattle.automata.specs.Evidence.{IsClosureJudged, IsExclusionJudged, IsConditionJudged, not_any, misses, closure_fails, right_side, JudgedByAutomaton}

-- two rules, each with a choice and a state, in order
data CaseOrder (i j : ℕ) (cs ds : List ℕ) (p q : ℕ) : Type 0 where
  is_earlier : IsEarlierChoice (i, (cs, p)) (j, (ds, q)) → CaseOrder i j cs ds p q
  is_same_case : i ≡ j → cs ≡ ds → p ≡ q → CaseOrder i j cs ds p q
  is_later : IsEarlierChoice (j, (ds, q)) (i, (cs, p)) → CaseOrder i j cs ds p q

by_rules : (i j : ℕ) (cs ds : List ℕ) (p q : ℕ) → Order i j → Ordered IsBefore cs ds → Order p q → CaseOrder i j cs ds p q
by_rules i j cs ds p q (is_smaller h) r s = is_earlier (inl h)
by_rules i j cs ds p q (is_greater h) r s = is_later (inl h)
by_rules i j cs ds p q (is_equal e) (comes_first h) s = is_earlier (inr (e, inl h))
by_rules i j cs ds p q (is_equal e) (comes_last h) s = is_later (inr (sym e, inl h))
by_rules i j cs ds p q (is_equal e) (is_same f) (is_smaller h) = is_earlier (inr (e, inr (f, h)))
by_rules i j cs ds p q (is_equal e) (is_same f) (is_greater h) = is_later (inr (sym e, inr (sym f, h)))
by_rules i j cs ds p q (is_equal e) (is_same f) (is_equal h) = is_same_case e f h

-- the first right side that is not kept, and the first wide left side
open_same : (sys : System) (a : Automaton) (i j : ℕ) (cs ds : List ℕ) (p q : ℕ) → IsFirstOpen sys a i cs p → IsFirstOpen sys a j ds q → Some (auto_not_closed i cs p) ≡ Some (auto_not_closed j ds q)
open_same sys a i j cs ds p q h k = go (by_rules i j cs ds p q (order i j) (order_positions cs ds) (order p q))
  where
    go : CaseOrder i j cs ds p q → Some (auto_not_closed i cs p) ≡ Some (auto_not_closed j ds q)
    go (is_earlier e) = absurd (h.fails (k.earlier i h.rule cs p h.is_rule h.choice h.reached e))
    go (is_later e) = absurd (k.fails (h.earlier j k.rule ds q k.is_rule k.choice k.reached e))
    go (is_same_case e f g) = cc

wide_same : (sys : System) (a : Automaton) (i j : ℕ) → IsFirstWide sys a i → IsFirstWide sys a j → Some (auto_wide i) ≡ Some (auto_wide j)
wide_same sys a i j h k = go (order i j)
  where
    go : Order i j → Some (auto_wide i) ≡ Some (auto_wide j)
    go (is_smaller e) = absurd (k.earlier i h.rule e h.is_rule h.wide)
    go (is_greater e) = absurd (h.earlier j k.rule e k.is_rule k.wide)
    go (is_equal e) = cc

not_closed_and_open : (sys : System) (a : Automaton) (i : ℕ) (cs : List ℕ) (q : ℕ) → IsClosed sys a → IsFirstOpen sys a i cs q → ⊥
not_closed_and_open sys a i cs q closed h = h.fails (closed i h.rule cs q h.is_rule h.choice h.reached)

not_narrow_and_wide : (sys : System) (a : Automaton) (i : ℕ) → AreNarrow sys a → IsFirstWide sys a i → ⊥
not_narrow_and_wide sys a i narrow h = narrow i h.rule h.is_rule h.wide

-- the closure test's judgement with what it comes from
data ClosureJudgement (sys : System) (a : Automaton) (o : Option EvidenceReason) : Type 0 where
  closes : AreNarrow sys a → IsClosed sys a → o ≡ None → ClosureJudgement sys a o
  wide_at : (i : ℕ) → IsFirstWide sys a i → o ≡ Some (auto_wide i) → ClosureJudgement sys a o
  open_at : (i : ℕ) (cs : List ℕ) (q : ℕ) → AreNarrow sys a → IsFirstOpen sys a i cs q → o ≡ Some (auto_not_closed i cs q) → ClosureJudgement sys a o

closure_judgement : (sys : System) (a : Automaton) (o : Option EvidenceReason) → IsClosureJudged sys a o → ClosureJudgement sys a o
closure_judgement sys a None h = closes h.0 h.1 refl
closure_judgement sys a (Some (auto_wide i)) h = wide_at i h refl
closure_judgement sys a (Some (auto_not_closed i cs q)) h = open_at i cs q h.0 h.1 refl
closure_judgement sys a (Some _) h = absurd h

closure_same : (sys : System) (a : Automaton) (o p : Option EvidenceReason) → ClosureJudgement sys a o → ClosureJudgement sys a p → o ≡ p
closure_same sys a o p (closes n h e) (closes m k f) = e ∙ sym f
closure_same sys a o p (closes n h e) (wide_at i k f) = absurd (not_narrow_and_wide sys a i n k)
closure_same sys a o p (closes n h e) (open_at i cs q m k f) = absurd (not_closed_and_open sys a i cs q h k)
closure_same sys a o p (wide_at i h e) (closes m k f) = absurd (not_narrow_and_wide sys a i m h)
closure_same sys a o p (wide_at i h e) (wide_at j k f) = e ∙ (wide_same sys a i j h k ∙ sym f)
closure_same sys a o p (wide_at i h e) (open_at j ds q m k f) = absurd (not_narrow_and_wide sys a i m h)
closure_same sys a o p (open_at i cs q n h e) (closes m k f) = absurd (not_closed_and_open sys a i cs q k h)
closure_same sys a o p (open_at i cs q n h e) (wide_at j k f) = absurd (not_narrow_and_wide sys a j n k)
closure_same sys a o p (open_at i cs q n h e) (open_at j ds r m k f) = e ∙ (open_same sys a i j cs ds q r h k ∙ sym f)

closures_same : (sys : System) (a : Automaton) (o p : Option EvidenceReason) → IsClosureJudged sys a o → IsClosureJudged sys a p → o ≡ p
closures_same sys a o p h k = closure_same sys a o p (closure_judgement sys a o h) (closure_judgement sys a p k)

-- and the right side's
data ExclusionJudgement (symbols : Symbols) (a : Automaton) (t : Term) (o : Option EvidenceReason) : Type 0 where
  excludes : (IsWide a t → ⊥) → Excludes symbols a t → o ≡ None → ExclusionJudgement symbols a t o
  right_wide : IsWide a t → o ≡ Some auto_wide_right → ExclusionJudgement symbols a t o
  right_reaches : (IsWide a t → ⊥) → (Excludes symbols a t → ⊥) → o ≡ Some auto_reaches → ExclusionJudgement symbols a t o

exclusion_judgement : (symbols : Symbols) (a : Automaton) (t : Term) (o : Option EvidenceReason) → IsExclusionJudged symbols a t o → ExclusionJudgement symbols a t o
exclusion_judgement symbols a t None h = excludes h.0 h.1 refl
exclusion_judgement symbols a t (Some auto_wide_right) h = right_wide h refl
exclusion_judgement symbols a t (Some auto_reaches) h = right_reaches h.0 h.1 refl
exclusion_judgement symbols a t (Some _) h = absurd h

exclusion_same : (symbols : Symbols) (a : Automaton) (t : Term) (o p : Option EvidenceReason) → ExclusionJudgement symbols a t o → ExclusionJudgement symbols a t p → o ≡ p
exclusion_same symbols a t o p (excludes n h e) (excludes m k f) = e ∙ sym f
exclusion_same symbols a t o p (excludes n h e) (right_wide k f) = absurd (n k)
exclusion_same symbols a t o p (excludes n h e) (right_reaches m k f) = absurd (k h)
exclusion_same symbols a t o p (right_wide h e) (excludes m k f) = absurd (m h)
exclusion_same symbols a t o p (right_wide h e) (right_wide k f) = e ∙ sym f
exclusion_same symbols a t o p (right_wide h e) (right_reaches m k f) = absurd (m h)
exclusion_same symbols a t o p (right_reaches n h e) (excludes m k f) = absurd (h k)
exclusion_same symbols a t o p (right_reaches n h e) (right_wide k f) = absurd (n k)
exclusion_same symbols a t o p (right_reaches n h e) (right_reaches m k f) = e ∙ sym f

-- a condition's
not_both : (sys : System) (a : Automaton) (why : EvidenceReason) → IsClosureJudged sys a (Some why) → IsClosureJudged sys a None → ⊥
not_both sys a why h k = (let e = closures_same sys a (Some why) None h k in cc)

condition_same : (sys : System) (c : Condition) (a : Automaton) (o p : Option EvidenceReason) → IsConditionJudged sys c a o → IsConditionJudged sys c a p → o ≡ p
condition_same sys c a o p (not_any h) (not_any k) = refl
condition_same sys c a o p (not_any h) (misses any k) = absurd (h any)
condition_same sys c a o p (not_any h) (closure_fails why any accepts k) = absurd (h any)
condition_same sys c a o p (not_any h) (right_side r any accepts closed k) = absurd (h any)
condition_same sys c a o p (misses any h) (not_any k) = absurd (k any)
condition_same sys c a o p (misses any h) (misses any' k) = refl
condition_same sys c a o p (misses any h) (closure_fails why any' accepts k) = absurd (h accepts)
condition_same sys c a o p (misses any h) (right_side r any' accepts closed k) = absurd (h accepts)
condition_same sys c a o p (closure_fails why any accepts h) (not_any k) = absurd (k any)
condition_same sys c a o p (closure_fails why any accepts h) (misses any' k) = absurd (k accepts)
condition_same sys c a o p (closure_fails why any accepts h) (closure_fails other any' accepts' k) = closures_same sys a (Some why) (Some other) h k
condition_same sys c a o p (closure_fails why any accepts h) (right_side r any' accepts' closed k) = absurd (not_both sys a why h closed)
condition_same sys c a o p (right_side r any accepts closed h) (not_any k) = absurd (k any)
condition_same sys c a o p (right_side r any accepts closed h) (misses any' k) = absurd (k accepts)
condition_same sys c a o p (right_side r any accepts closed h) (closure_fails why any' accepts' k) = absurd (not_both sys a why k closed)
condition_same sys c a o p (right_side r any accepts closed h) (right_side s any' accepts' closed' k) =
    exclusion_same (Some sys.arities) a c.right r s (exclusion_judgement (Some sys.arities) a c.right r h) (exclusion_judgement (Some sys.arities) a c.right s k)

none_or_some : (cs : List Condition) (k : ℕ) (c : Condition) → hypothesis_at cs k ≡ None → hypothesis_at cs k ≡ Some c → ⊥
none_or_some cs k c e f = cc

pub judgement_same : (sys : System) (cs : List Condition) (k : ℕ) (a : Automaton) (o p : Option EvidenceReason) → JudgedByAutomaton sys cs k a o → JudgedByAutomaton sys cs k a p → o ≡ p
judgement_same sys cs k a o p (inl (e, h)) (inl (f, g)) = h ∙ sym g
judgement_same sys cs k a o p (inl (e, h)) (inr (c, f, g)) = absurd (none_or_some cs k c e f)
judgement_same sys cs k a o p (inr (c, e, h)) (inl (f, g)) = absurd (none_or_some cs k c f e)
judgement_same sys cs k a o p (inr (c, e, h)) (inr (d, f, g)) =
    let same : c ≡ d = cc in
    condition_same sys d a o p (subst (λ z. IsConditionJudged sys z a o) same h) g
