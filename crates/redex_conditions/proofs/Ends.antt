-- A term with its variables numbered, the rules of a system, and the redexes of two terms.
use Rattle.std.proofs.Common.{◌≡◌, ◌⊎◌, inl, inr, ℕ, ◌≤◌, List, [], ◌∷◌, ◌++◌, map, length, get_or, sym, ap, ◌∙◌, subst, arith}
use Rattle.rewriting.specs.Prelude.{IsSystem, AreRules, size, IsAmong}
use Rattle.rewriting.proofs.Common.{Term, System, apply, with_variables}
use Rattle.renumbering.specs.Rows.{naming}
use Rattle.term_core.specs.Prelude.{rule_view, AreCounted}
use Rattle.term_core.specs.SystemView.{AreSound}
use Rattle.term_core.specs.declared.systems.Rule as program
use Rattle.valid_certificates.specs.Peaks.{RedexPlace, IsRedex, IsEarlierRedex, AreRedexes}
use Rattle.redex_conditions.specs.Redexes.{AreRedexesOf}
use Rattle.rewriting.proofs.Lengths.{variables_length}
use Rattle.rewriting.proofs.Lists.{among_left, among_right, among_either, sorted_append}
use Rattle.unifier_run.proofs.Renamed.{size-names}

-- a row is no longer than its term
pub few_names : (t : Term) (before row : List ℕ) (n : ℕ) → before ≡ [] → row ≡ with_variables before t → size t ≤ 10000 → n ≡ length row → n ≤ 10000
few_names t before row n none is fits e =
    let bound = variables_length before t in
    let zero_long : length before ≡ 0 = ap length none in
    let long = e ∙ ap length is in
    omega (arith, bound, zero_long, long, fits)

pub numbered_size : (t n : Term) (row : List ℕ) → t ≡ apply (naming row) n → size t ≤ 10000 → size n ≤ 10000
numbered_size t n row is fits = let same = ap size is ∙ size-names (λ m. get_or row m 0) n in omega (arith, same, fits)

are_sound : (arities : _) (rs : List program.Rule) → AreRules arities (map rule_view rs) → AreCounted rs → AreSound arities rs
are_sound arities [] h k = tt
are_sound arities (r ∷ rs) (h, hs) (k, ks) = (record { rule = h; counted = k }, are_sound arities rs hs ks)

pub rules_sound : (sys : System) (rs : List program.Rule) → IsSystem sys → map rule_view rs ≡ sys.rules → AreCounted rs → AreSound sys.arities rs
rules_sound sys rs good same counted = are_sound sys.arities rs (subst (AreRules sys.arities) (sym same) good.rules) counted

module _ (sys : System) (u v : Term) where
  -- both lists of redexes make the list of both ends
  pub both : (rs ss : List RedexPlace) → AreRedexesOf sys 1 u rs → AreRedexesOf sys 2 v ss → AreRedexes sys u v (rs ++ ss)
  both rs ss a b = record { each = each; whole = whole; sorted = sorted_append IsEarlierRedex rs ss a.sorted b.sorted earlier }
    where
      each : (r : RedexPlace) → IsAmong r (rs ++ ss) → IsRedex sys u v r
      each r l = go (among_either r rs ss l)
        where
          go : IsAmong r rs ⊎ IsAmong r ss → IsRedex sys u v r
          go (inl k) = inl (a.each r k)
          go (inr k) = inr (b.each r k)

      whole : (r : RedexPlace) → IsRedex sys u v r → IsAmong r (rs ++ ss)
      whole r (inl (w, m)) =
          among_left r rs ss
          (subst (λ (k : ℕ). IsAmong (record { which = k; position = r.position; rule = r.rule }) rs) (sym w) (a.whole r.position r.rule m))
      whole r (inr (w, m)) =
          among_right r rs ss
          (subst (λ (k : ℕ). IsAmong (record { which = k; position = r.position; rule = r.rule }) ss) (sym w) (b.whole r.position r.rule m))

      earlier : (x y : RedexPlace) → IsAmong x rs → IsAmong y ss → IsEarlierRedex x y
      earlier x y l k = let one = (a.each x l).0 in let two = (b.each y k).0 in inl (omega (arith, one, two))
