-- The rules of a system by their numbers are sound.
use Rattle.std.proofs.Common.{◌≡◌, ℕ, zero, suc, ◌<◌, List, [], ◌∷◌, map, length, get_or, Option, Some, None, is_some, IfSome, Bor, sym, subst, arith}
use Rattle.std.proofs.Math.Dec.{ltb}
use Rattle.std.proofs.lemmas.Bool.{ltb-true}
use Rattle.rewriting.specs.Prelude.{System, AreRules, IsSystem, Signature}
use Rattle.term_core.specs.declared.systems.Rule as program
use Rattle.term_core.specs.Prelude.{rule_view, AreCounted}
use Rattle.term_core.specs.SystemView.{IsSound}
use Rattle.redex_conditions.specs.Judged.{IsOfSystem}

sound_at : (arities : Signature) (rs : List program.Rule) (i : ℕ) (d : program.Rule) → AreRules arities (map rule_view rs) → AreCounted rs → i < length rs → IsSound arities (get_or rs i d)
sound_at arities [] i d good counted l = absurd (omega (arith, l))
sound_at arities (q ∷ rs) zero d good counted l = record { rule = good.0; counted = counted.0 }
sound_at arities (q ∷ rs) (suc i) d good counted l = sound_at arities rs i d good.1 counted.1 (omega (arith, l))

-- what `get` on the rules gives
pub sound_got : (sys : System) (rs : List program.Rule) (i : ℕ) (o : Option (Bor program.Rule)) → IsSystem sys → map rule_view rs ≡ sys.rules → AreCounted rs
    → is_some o ≡ ltb i (length rs) → IfSome o (λ x. x.now ≡ get_or rs i x.now) → IfSome o (λ x. IsOfSystem x.now)
sound_got sys rs i None good same counted out e = tt
sound_got sys rs i (Some x) good same counted in_range e = (
  sys.arities,
  subst (IsSound sys.arities) (sym e)
      (sound_at sys.arities rs i x.now (subst (AreRules sys.arities) (sym same) good.rules) counted (ltb-true i (length rs) (sym in_range))),
)
