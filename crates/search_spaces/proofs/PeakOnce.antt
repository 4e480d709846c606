-- An item of the peak space has one certificate at most.
use Rattle.std.proofs.Common.{ℕ, ◌≡◌, refl, sym, ap, ◌∙◌, subst}
use Rattle.rewriting.specs.Prelude.{Term, System, rule_at}
use Rattle.certificates.specs.Prelude.{InfeasibilityEvidence, Redex, Apartness, by_normal_forms, by_rigid_caps, Certificate, peak_certificate}
use Rattle.cops_names.specs.NameTable.{NameTable}
use Rattle.valid_certificates.specs.Peaks.{RedexPlace, chosen}
use Rattle.valid_certificates.proofs.OneAnswer.{conditions_once}
use Rattle.valid_certificates.proofs.OneList.{redexes_once}
use Rattle.first_found.specs.Items.{one}
use Rattle.first_found.specs.Rows.{AreFirsts}
use Rattle.first_found.proofs.Items.{first_once}
use Rattle.first_found.proofs.Rows.{firsts_once, none_of_rows}
use Rattle.search_spaces.specs.Refuting.{Refuting, Tries, refutings}
use Rattle.search_spaces.specs.PeakItems.{PeakItem, make_listing, try_ends, conditions_of, RefutesRedex, IsFirstRefuted, TriesApart, HoldsPeak}
use Rattle.search_spaces.proofs.Entries.{tries_once}

module _ (sys : System) (u v : Term) where
  refutes_once : (r : RedexPlace) (item : Refuting) (d e : InfeasibilityEvidence) → RefutesRedex sys u v r item d → RefutesRedex sys u v r item e → d ≡ e
  refutes_once r item d e (cs, h, t, j) (bs, k, s, i) =
      tries_once sys cs item d e t (subst (λ z. Tries sys z item e) (conditions_once sys (chosen u v r.which) r bs cs k h) s)

  abbrev entry_of : RedexPlace → InfeasibilityEvidence → Redex
  entry_of r e = record { which = r.which; position = r.position; rule = r.rule; evidence = e }

  refuted_once : (r : RedexPlace) (x y : Redex) (n m : ℕ) → IsFirstRefuted sys u v r x n → IsFirstRefuted sys u v r y m → (n ≡ m) × (x ≡ y)
  refuted_once r x y n m (d, f, p) (e, g, q) =
      let same = first_once (RefutesRedex sys u v r) one (refutings (conditions_of (rule_at sys r.rule))) d e n m f g in
      (same.0, p ∙ ap (entry_of r) (refutes_once r same.1.0 d e same.1.1 same.1.2) ∙ sym q)

  pub apart_once : (a b : Apartness) → TriesApart sys u v a → TriesApart sys u v b → a ≡ b
  apart_once (by_normal_forms es) (by_normal_forms fs) (rs, h, (n, x)) (qs, k, (m, y)) =
      ap by_normal_forms (firsts_once (IsFirstRefuted sys u v) refuted_once rs es fs n m x (subst (λ z. AreFirsts (IsFirstRefuted sys u v) z fs m) (redexes_once sys u v qs rs k h) y)).1
  apart_once (by_normal_forms es) by_rigid_caps (rs, h, (n, x)) (qs, k, s) =
      absurd (none_of_rows (IsFirstRefuted sys u v) refuted_once qs es n s (subst (λ z. AreFirsts (IsFirstRefuted sys u v) z es n) (redexes_once sys u v rs qs h k) x))
  apart_once by_rigid_caps (by_normal_forms fs) (rs, h, s) (qs, k, (m, y)) =
      absurd (none_of_rows (IsFirstRefuted sys u v) refuted_once rs fs m s (subst (λ z. AreFirsts (IsFirstRefuted sys u v) z fs m) (redexes_once sys u v qs rs k h) y))
  apart_once by_rigid_caps by_rigid_caps h k = refl

pub peak_once : (names : NameTable) (sys : System) (item : PeakItem) (c d : Certificate) → HoldsPeak names sys item c → HoldsPeak names sys item d → c ≡ d
peak_once names sys (make_listing n) c d h k = absurd h
peak_once names sys (try_ends t x y) c d ((a, h, p), s) ((b, k, q), r) =
    p ∙ ap (λ (z : Apartness). peak_certificate (record { start = t; first = x.by; second = y.by; apart = z })) (apart_once sys x.term y.term a b h k) ∙ sym q
