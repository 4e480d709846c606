-- The list of redexes of a term is whole and sorted.
use Rattle.std.proofs.Common.{◌≡◌, inl, inr, ℕ, [], Some, refl, sym, ◌∙◌, subst}
use Rattle.rewriting.specs.Prelude.{IsWellFormed, Position, subterm, IsAmong}
use Rattle.rewriting.proofs.Common.{Term, System}
use Rattle.rule_index.specs.Roots.{rules_at}
use Rattle.rule_index.specs.Parts.{Part, part, parts}
use Rattle.rewriting.proofs.Members.{flat_among, of_flat, sorted_flat}
use Rattle.rule_index.proofs.Standing.{ComesBefore, part_stands, is_part, parts_sorted}
use Rattle.valid_certificates.specs.Peaks.{RedexPlace, MatchesAt, IsEarlierRedex}
use Rattle.redex_conditions.specs.Redexes.{place, part_redexes, redexes, AreRedexesOf}
use Rattle.redex_conditions.proofs.Hits.{hit_each, part_whole, part_sorted}

module _ (sys : System) (w : ℕ) (t : Term) where
  abbrev IsAt : RedexPlace → Type 0
  IsAt r = (r.which ≡ w) × MatchesAt sys t r.position r.rule

  -- a match at the root of a part is one in the term
  lifted : (p : Position) (u : Term) (i : ℕ) → subterm t p ≡ Some u → MatchesAt sys u [] i → MatchesAt sys t p i
  lifted p u i e m = record { rule = m.rule; part = m.part; is_rule = m.is_rule; stands = e ∙ m.stands; matches = m.matches }

  of_part : (q : Part) (r : RedexPlace) → IsAmong r (part_redexes sys w q) → (i : ℕ) × (r ≡ place w q.position i) × MatchesAt sys q.term [] i
  of_part q r l = let h = hit_each sys w q.position q.term (rules_at sys q.term) r l in (h.0, h.1, h.3)

  each : (r : RedexPlace) → IsAmong r (redexes sys w t) → IsAt r
  each r l =
      let q = of_flat (part_redexes sys w) r (parts t) l in
      let h = of_part q.0 r q.2 in
      subst IsAt (sym h.1) (refl, lifted q.0.position q.0.term h.0 (part_stands t q.0 q.1) h.2)

  whole : IsWellFormed sys → (p : Position) (i : ℕ) → MatchesAt sys t p i → IsAmong (place w p i) (redexes sys w t)
  whole good p i m =
      flat_among (part_redexes sys w) (part p m.part) (place w p i) (parts t) (is_part t p m.part m.stands)
      (part_whole sys good w p m.part i (record { rule = m.rule; part = m.part; is_rule = m.is_rule; stands = refl; matches = m.matches }))

  earlier : (a b : Part) → ComesBefore a b → (r s : RedexPlace) → IsAmong r (part_redexes sys w a) → IsAmong s (part_redexes sys w b) → IsEarlierRedex r s
  earlier a b h r s k l =
      let x = of_part a r k in
      let y = of_part b s l in
      subst (λ z. IsEarlierRedex z s) (sym x.1) (subst (IsEarlierRedex (place w a.position x.0)) (sym y.1) (inr (refl, inl h)))

  pub redexes_are : IsWellFormed sys → AreRedexesOf sys w t (redexes sys w t)
  redexes_are good =
      record {
        each = each;
        whole = whole good;
        sorted = sorted_flat (part_redexes sys w) ComesBefore IsEarlierRedex earlier (parts t) (λ q l. part_sorted sys good w q.position q.term) (parts_sorted t);
      }
