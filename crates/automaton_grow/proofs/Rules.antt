-- Rules one by one: their sizes, the states before them, and the choices for their left sides.
use Rattle.std.proofs.Common.{◌≡◌, ℕ, zero, suc, ◌+◌, ◌<◌, ◌≤◌, ◌^◌, ◌⊎◌, inl, inr, sym, ap, ◌∙◌, subst, List, [], ◌∷◌, map, drop, length, get_or, Some, add-one, arith}
use Rattle.std.specs.Prelude.{slice_get}
use Rattle.std.proofs.Common.{add_assoc}
use Rattle.std.proofs.lemmas.Option.{slice_get_within}
use Rattle.std.proofs.lemmas.List.{length-map}
use Rattle.general_lemmas.proofs.Numbers.{lt_or_last}
use Rattle.general_lemmas.proofs.Places.{map-drop_read, slice_get-map_read}
use Rattle.rewriting.specs.Prelude.{Term, var, app, size, Fits, Signature, AreRules, IsSystem, condition_count, DoSidesFit, variable_occurrences}
use Rattle.rewriting.specs.Rules as math
use Rattle.automata.specs.Growth.{inner, proper, first_state, state_count}
use Rattle.term_core.specs.RuleView.{rule_view}
use Rattle.term_core.specs.declared.systems.Rule.{Rule}
use Rattle.automaton_grow.specs.Limits.{all_proper, IsWideFor, AreNarrowBelow, IsFirstWideFor}
use Rattle.automaton_grow.proofs.Sizes.{inner_in_size}
use Rattle.automaton_grow.proofs.States.{proper_at, proper_none, room_at}

pub same_count : (rs : List Rule) (sys : math.System) → map rule_view rs ≡ sys.rules → length rs ≡ length sys.rules
same_count rs sys e = sym (length-map rs rule_view) ∙ ap length e

-- both sides fit
do_fit : (arities : Signature) (rs : List math.Rule) → AreRules arities rs → DoSidesFit rs
do_fit arities [] h = tt
do_fit arities (r ∷ rs) (h, hs) = (h.fits.0, h.fits.1.0, do_fit arities rs hs)

pub system_fits : (sys : math.System) (rules : List math.Rule) → rules ≡ sys.rules → IsSystem sys → DoSidesFit rules
system_fits sys rules e h = subst DoSidesFit (sym e) (do_fit sys.arities sys.rules h.rules)

pub fits_at : (rs : List math.Rule) (i : ℕ) (r : math.Rule) → DoSidesFit rs → slice_get rs i ≡ Some r → Fits r.left × Fits r.right
fits_at [] i r h e = absurd (cc)
fits_at (a ∷ rs) zero r (h, k, rest) e = let same : a ≡ r = cc in subst (λ z. Fits z.left × Fits z.right) same (h, k)
fits_at (a ∷ rs) (suc i) r (h, k, rest) e = fits_at rs i r rest e

pub proper_size : (t : Term) → proper t ≤ size t
proper_size (var x) = omega arith
proper_size (app f ts) = let h = inner_in_size ts in omega arith

-- counting
module _ (rs : List Rule) (i : ℕ) (r : Rule) (h : i < length rs) (at : r ≡ get_or rs i r) where
  pub fit_here : DoSidesFit (map rule_view (drop i rs)) → Fits (rule_view r).left × Fits (rule_view r).right × DoSidesFit (map rule_view (drop (i + 1) rs))
  fit_here fit = subst DoSidesFit (map-drop_read rule_view rs i r h at) fit

  pub count_here : all_proper (map rule_view (drop i rs)) ≡ proper (rule_view r).right + all_proper (map rule_view (drop (i + 1) rs))
  count_here = ap all_proper (map-drop_read rule_view rs i r h at)

  pub count_step : (n p all : ℕ) → p ≡ proper (rule_view r).right → n + all_proper (map rule_view (drop i rs)) ≡ all → n + p + all_proper (map rule_view (drop (i + 1) rs)) ≡ all
  count_step n p all e inv =
      add_assoc n p (all_proper (map rule_view (drop (i + 1) rs))) ∙ ap (λ z. n + z) (ap (λ z. z + all_proper (map rule_view (drop (i + 1) rs))) e ∙ sym count_here) ∙ inv

pub first_next : (sys : math.System) (s : Term) (i : ℕ) (r : math.Rule) (first p : ℕ) → slice_get sys.rules i ≡ Some r → first ≡ first_state sys s i → p ≡ proper r.right
    → first + p ≡ first_state sys s (i + 1)
first_next sys s i r first p at e q = rw add-one (let h = proper_at sys.rules i r at in omega arith)

pub first_low : (sys : math.System) (s : Term) (i : ℕ) (r : math.Rule) (n first : ℕ) → slice_get sys.rules i ≡ Some r → first ≡ first_state sys s i → n ≡ state_count sys s → first ≤ n
first_low sys s i r n first at e same = let h = room_at sys s i r at in omega arith

-- widths
pub narrow_next : (n : ℕ) (rs : List Rule) (i : ℕ) (r : Rule) → i < length rs → r ≡ get_or rs i r → AreNarrowBelow n (map rule_view rs) i → (IsWideFor n (rule_view r).left → ⊥)
    → AreNarrowBelow n (map rule_view rs) (i + 1)
narrow_next n rs i r h at below here k q less is_rule wide = go (lt_or_last k i less)
  where
    go : (k < i) ⊎ (k ≡ i) → ⊥
    go (inl l) = below k q l is_rule wide
    go (inr e) =
        let one : slice_get (map rule_view rs) i ≡ Some q = subst (λ z. slice_get (map rule_view rs) z ≡ Some q) e is_rule in
        let two : slice_get (map rule_view rs) i ≡ Some (rule_view r) = slice_get-map_read rule_view rs i r h at in
        let same : q ≡ rule_view r = cc in
        here (subst (λ z. IsWideFor n z.left) same wide)

pub first_wide : (n : ℕ) (rs : List Rule) (i number : ℕ) (r : Rule) → i < length rs → r ≡ get_or rs i r → number ≡ i + 1 → AreNarrowBelow n (map rule_view rs) i
    → IsWideFor n (rule_view r).left → IsFirstWideFor n (map rule_view rs) number
first_wide n rs i number r h at e below wide = record { place = i; rule = rule_view r; numbered = e ∙ add-one i; is_rule = slice_get-map_read rule_view rs i r h at; wide = wide; earlier = below }

pub narrow_power : (n k : ℕ) → (100000 < n ^ k → ⊥) → n ^ k ≤ 100000
narrow_power n k h = go (n ^ k) h
  where
    go : (x : ℕ) → (100000 < x → ⊥) → x ≤ 100000
    go x never = omega arith

pub narrow_at : (n : ℕ) (rs : List math.Rule) (i : ℕ) (r : math.Rule) → AreNarrowBelow n rs (length rs) → slice_get rs i ≡ Some r → n ^ length (variable_occurrences r.left) ≤ 100000
narrow_at n rs i r narrow at = narrow_power n (length (variable_occurrences r.left)) (narrow i r (slice_get_within rs i r at) at)

-- numbers that fit
pub symbols_few : (sys : math.System) → IsSystem sys → length sys.arities < 2 ^ 31
symbols_few sys h = go (length sys.arities) (condition_count sys.rules) h.few_symbols
  where
    go : (a b : ℕ) → a + b < 2 ^ 31 → a < 2 ^ 31
    go a b l = omega arith

pub first_zero : (sys : math.System) (s : Term) (n : ℕ) → n ≡ inner s → 1 + n ≡ first_state sys s 0
first_zero sys s n e = let z = proper_none sys.rules in omega arith

-- a rule among those that a system hands out
module _ (sys : math.System) (rs : List Rule) (same : map rule_view rs ≡ sys.rules) (i : ℕ) (r : Rule) (h : i < length rs) (at : r ≡ get_or rs i r) where
  pub rule_of : slice_get sys.rules i ≡ Some (rule_view r)
  rule_of = subst (λ z. slice_get z i ≡ Some (rule_view r)) same (slice_get-map_read rule_view rs i r h at)

  pub sides_fit : IsSystem sys → Fits (rule_view r).left × Fits (rule_view r).right
  sides_fit sound = fits_at (map rule_view rs) i (rule_view r) (system_fits sys (map rule_view rs) same sound) (slice_get-map_read rule_view rs i r h at)

  pub rule_low : i < length sys.rules
  rule_low = subst (λ z. i < z) (same_count rs sys same) h
