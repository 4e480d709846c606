-- Rules of a system by their numbers, and whether they match.
use Rattle.std.proofs.Common.{◌≡◌, ℕ, zero, suc, ◌-◌, ◌<◌, List, [], ◌∷◌, length, get_or, map, Some, IsSome, refl, sym, ap, ◌∙◌, arith, Bool, true, false, if◌then◌else◌}
use Rattle.std.specs.FinMap.{empty}
use Rattle.rewriting.specs.Matching.{IsLeastMatch, HasNoMatch}
use Rattle.rewriting.proofs.Common.{Term, Bindings, values_of, Rule, System, rule_at, Signature}
use Rattle.rewriting.proofs.Matching.{solved_instance}
use Rattle.term_core.specs.Prelude.{rule_view}
use Rattle.term_core.specs.SystemView.{IsSound, AreSound}
use Rattle.term_core.specs.declared.systems.Rule as program
use Rattle.rewriting.proofs.Matched.{instance_matched}
use Rattle.rule_index.proofs.Numbers.{number_low}
use Rattle.redex_conditions.specs.Redexes.{hits, is_hit}
use Rattle.redex_conditions.proofs.Deciding.{match_decided, match_found}

sound_at : (arities : Signature) (rs : List program.Rule) (i : ℕ) (d : program.Rule) → AreSound arities rs → i < length rs → IsSound arities (get_or rs i d)
sound_at arities [] i d h l = absurd (omega (arith, l))
sound_at arities (q ∷ rs) zero d h l = h.0
sound_at arities (q ∷ rs) (suc i) d h l = sound_at arities rs i d h.1 (omega (arith, l))

pub sound_is : (sys : System) (rs : List program.Rule) → map rule_view rs ≡ sys.rules → AreSound sys.arities rs → (n : ℕ) → IsSome (rule_at sys n) → (d : program.Rule)
    → IsSound sys.arities (get_or rs (n - 1) d)
sound_is sys rs same sound n h d = sound_at sys.arities rs (n - 1) d sound (number_low sys rs same n h).1

-- a rule that matches is hit
module _ (sys : System) (t : Term) (n : ℕ) (r : Rule) (is : rule_at sys n ≡ Some r) where
  pub hit_yes : (m : Bindings) → IsLeastMatch empty m r.left t → hits sys t (n ∷ []) ≡ n ∷ []
  hit_yes m h =
      let yes : is_hit (rule_at sys n) t ≡ true = ap (λ o. is_hit o t) is ∙ match_decided r.left t (values_of m, solved_instance m r.left t h.solves) in
      ap (λ (b : Bool). if b then n ∷ [] else []) yes

  pub hit_no : HasNoMatch empty r.left t → hits sys t (n ∷ []) ≡ []
  hit_no none = go (is_hit (rule_at sys n) t) refl
    where
      go : (b : Bool) → is_hit (rule_at sys n) t ≡ b → (if b then n ∷ [] else []) ≡ []
      go false e = refl
      go true e =
          let least = instance_matched r.left t (match_found r.left t (sym (ap (λ o. is_hit o t) is) ∙ e)) in
          absurd (none least.0 least.1.extends least.1.solves)
