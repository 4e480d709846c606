-- Rules that were found to be sound, one after another.
use Rattle.std.proofs.Common.{◌≡◌, ℕ, zero, suc, ◌+◌, ◌<◌, ◌≤◌, List, [], ◌∷◌, length, take, get_or, sym, ap, subst, arith, add-one, zero-add, map, Result, Ok, Err, IsErrAnd}
use Rattle.rewriting.specs.Prelude.{Signature, AreRules}
use Rattle.term_core.specs.RuleView.{rule_view, AreCounted}
use Rattle.term_core.specs.SystemView.{IsSound, AreSound, FirstAt}
use Rattle.term_core.specs.declared.systems.Rule.{Rule}

module _ (arities : Signature) where
  step : (rs : List Rule) (i : ℕ) (r : Rule) → i < length rs → r ≡ get_or rs i r → IsSound arities r → AreSound arities (take i rs) → AreSound arities (take (suc i) rs)
  step [] i r h e good before = absurd (omega arith)
  step (s ∷ rs) zero r h e good before = (subst (IsSound arities) e good, tt)
  step (s ∷ rs) (suc i) r h e good before = (before.0, step rs i r (omega arith) e good before.1)

  first : (rs : List Rule) (i : ℕ) (r : Rule) → i < length rs → r ≡ get_or rs i r → AreSound arities (take i rs) → FirstAt arities rs (suc i) r
  first [] i r h e before = absurd (omega arith)
  first (s ∷ rs) zero r h e before = record { before = []; after = rs; split = ap (λ q. q ∷ rs) (sym e); numbered = sym (zero-add 1); sound_before = tt }
  first (s ∷ rs) (suc i) r h e before =
      let f = first rs i r (omega arith) e before.1 in
      record { before = s ∷ f.before; after = f.after; split = ap (λ q. s ∷ q) f.split; numbered = omega (arith, f.numbered); sound_before = (before.0, f.sound_before) }

  pub all_sound : (rs : List Rule) (i : ℕ) → length rs ≤ i → AreSound arities (take i rs) → AreSound arities rs
  all_sound [] i h all = tt
  all_sound (r ∷ rs) zero h all = absurd (omega arith)
  all_sound (r ∷ rs) (suc i) h all = (all.0, all_sound rs i (omega arith) all.1)

  pub sound_more : (rs : List Rule) (i : ℕ) (r : Rule) → i < length rs → r ≡ get_or rs i r → IsSound arities r → AreSound arities (take i rs) → AreSound arities (take (i + 1) rs)
  sound_more rs i r h e good before = rw add-one (step rs i r h e good before)

  pub first_at : (rs : List Rule) (i : ℕ) (r : Rule) → i < length rs → r ≡ get_or rs i r → AreSound arities (take i rs) → FirstAt arities rs (i + 1) r
  first_at rs i r h e before = rw add-one (first rs i r h e before)

  pub sound_rules : (rs : List Rule) → AreSound arities rs → AreRules arities (map rule_view rs)
  sound_rules [] h = tt
  sound_rules (r ∷ rs) (h, hs) = (h.rule, sound_rules rs hs)

  pub sound_counted : (rs : List Rule) → AreSound arities rs → AreCounted rs
  sound_counted [] h = tt
  sound_counted (r ∷ rs) (h, hs) = (h.counted, sound_counted rs hs)

-- the same error handed on
pub handed_on : {T E : Type 0} → (r : Result T E) (e : E) → IsErrAnd r (λ d. d ≡ e) → r ≡ Err e
handed_on (Ok v) e h = absurd h
handed_on (Err d) e h = ap Err h
