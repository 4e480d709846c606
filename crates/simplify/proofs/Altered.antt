-- Rules with one of them left out, or another in its place.
use Rattle.std.proofs.Common.{◌≡◌, ℕ, suc, ◌<◌, sym, ap, ◌∙◌, subst, List, [], ◌∷◌, ◌++◌, length, map, take, drop, arith}
use Rattle.std.proofs.lemmas.List.{take-map, drop-map, map-append, length-map, set_split}
use Rattle.std.specs.List.{remove}
use Rattle.std.proofs.Math.ListN.{set}
use Rattle.rewriting.specs.Rules as math
use Rattle.rewriting.specs.Systems.{rule_variables}
use Rattle.term_core.specs.RuleView.{rule_view, AreCounted}
use Rattle.term_core.specs.declared.systems.Rule.{Rule}
use Rattle.simplifications.specs.Simplifying.{with_in_place}
use Rattle.simplify.proofs.Slices.{counted_append, counts_front, counts_rest}

module _ (rs : List Rule) (n : ℕ) where
  removed_view : map rule_view (remove rs n) ≡ take n (map rule_view rs) ++ drop (suc n) (map rule_view rs)
  removed_view =
      map-append rule_view (take n rs) (drop (suc n) rs) ∙ ap (λ z. z ++ map rule_view (drop (suc n) rs)) (sym (take-map rule_view n rs))
      ∙ ap (λ z. take n (map rule_view rs) ++ z) (sym (drop-map rule_view (suc n) rs))

  put_view : (r : Rule) → n < length rs → map rule_view (set rs n r) ≡ take n (map rule_view rs) ++ (rule_view r ∷ drop (suc n) (map rule_view rs))
  put_view r h =
      ap (map rule_view) (set_split rs n r h) ∙ map-append rule_view (take n rs) (r ∷ drop (suc n) rs)
      ∙ ap (λ z. z ++ map rule_view (r ∷ drop (suc n) rs)) (sym (take-map rule_view n rs))
      ∙ ap (λ z. take n (map rule_view rs) ++ (rule_view r ∷ z)) (sym (drop-map rule_view (suc n) rs))

  pub counted_removed : (new : List Rule) → new ≡ remove rs n → AreCounted rs → AreCounted new
  counted_removed new e h = subst AreCounted (sym e) (counted_append (take n rs) (drop (suc n) rs) (counts_front rs n h) (counts_rest rs (suc n) h))

  pub counted_put : (new : List Rule) (r : Rule) → n < length rs → new ≡ set rs n r → r.vars ≡ length (rule_variables (rule_view r)) → AreCounted rs → AreCounted new
  counted_put new r lt e c h =
      subst AreCounted (sym (e ∙ set_split rs n r lt)) (counted_append (take n rs) (r ∷ drop (suc n) rs) (counts_front rs n h) (c, counts_rest rs (suc n) h))

module _ (sys : math.System) (ar : List ℕ) (rs : List Rule) (own n : ℕ) (a : ar ≡ sys.arities) (are : map rule_view rs ≡ sys.rules) (o : own ≡ sys.own) where
  parts_are : (qs rules : List math.Rule) → rules ≡ take n (map rule_view rs) ++ (qs ++ drop (suc n) (map rule_view rs)) → record { arities = ar; rules = rules; own = own } ≡ with_in_place sys n qs
  parts_are qs rules e =
      ap (λ z. record { arities = z; rules = rules; own = own }) a
      ∙ ap (λ z. record { arities = sys.arities; rules = rules; own = z }) o
      ∙ ap (λ z. record { arities = sys.arities; rules = z; own = sys.own }) (e ∙ ap (λ z. take n z ++ (qs ++ drop (suc n) z)) are)

  pub gone : (new : List Rule) → new ≡ remove rs n → record { arities = ar; rules = map rule_view new; own = own } ≡ with_in_place sys n []
  gone new e = parts_are [] (map rule_view new) (ap (map rule_view) e ∙ removed_view rs n)

  pub put : (new : List Rule) (r : Rule) → n < length rs → new ≡ set rs n r → record { arities = ar; rules = map rule_view new; own = own } ≡ with_in_place sys n (rule_view r ∷ [])
  put new r h e = parts_are (rule_view r ∷ []) (map rule_view new) (ap (map rule_view) e ∙ put_view rs n r h)

  pub within : n < length sys.rules → n < length rs
  within h = let l = length-map rs rule_view in let m = ap length are in omega (arith, h, l, m)
