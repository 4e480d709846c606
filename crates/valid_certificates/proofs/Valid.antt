-- What a valid peak shows.
use Rattle.std.proofs.Common.{◌≡◌, inl, inr, List, [], ◌∷◌, Some, None, refl, sym, subst, subst₂}
use Rattle.rewriting.specs.Prelude.{IsAmong, IsConfluent, AreApart, IsWellFormed, Reaches}
use Rattle.rewriting.proofs.Common.{Term, System, IsOver}
use Rattle.rewriting.proofs.Laws.{keeps_over}
use Rattle.join_systems.specs.FileRelation.{IsFileTerm, IsFileConfluent}
use Rattle.join_systems.proofs.Files.{files_are_apart}
use Rattle.caps.proofs.Rigid.{rigid_apart}
use Rattle.certificates.specs.Prelude.{Apartness, Peak, Redex, by_normal_forms, by_rigid_caps, InfeasibilityEvidence, tcap_large}
use Rattle.certificates.proofs.Unique.{derives_unique}
use Rattle.judged_evidence.proofs.Judged.{judged_infeasible}
use Rattle.valid_certificates.specs.Peaks.{RedexPlace, AreRedexes, chosen, IsRedexJudged, AreRefuted, AreShownApart, LeadsTo, HasFileSymbols, IsValidPeak}
use Rattle.valid_certificates.specs.Laws.{IsUnjoinable, ValidPeaksReachApart, UnjoinableTermsRefuteConfluence}
use Rattle.valid_certificates.proofs.Ends.{end_reached}
use Rattle.valid_certificates.proofs.Normal.{IsNeverMet, HasNoRedex, normal_apart}

-- each listed redex has valid evidence
judged_at : (sys : System) (u v : Term) (rs : List RedexPlace) (es : List Redex) → AreRefuted sys u v rs es → (r : RedexPlace) → IsAmong r rs
    → (e : InfeasibilityEvidence) × IsRedexJudged sys (chosen u v r.which) r e None
judged_at sys u v [] es h r l = absurd l
judged_at sys u v (q ∷ rs) [] h r l = absurd h
judged_at sys u v (q ∷ rs) (e ∷ es) h r (inl is) = subst (λ x. (i : InfeasibilityEvidence) × IsRedexJudged sys (chosen u v x.which) x i None) (sym is) (e.evidence, h.1)
judged_at sys u v (q ∷ rs) (e ∷ es) h r (inr l) = judged_at sys u v rs es h.2 r l

-- a rule does not apply where its evidence is valid
never_met : (sys : System) (t : Term) (r : RedexPlace) (e : InfeasibilityEvidence) → IsRedexJudged sys t r e None → IsNeverMet sys t r.position r.rule
never_met sys t r e (cs, at, inl (fit, h)) =
    record { place = r; stands = refl; number = refl; conditions = cs; are = at; never = judged_infeasible sys cs e h }
never_met sys t r e (cs, at, inr (_, h)) = absurd (let none : None ≡ Some tcap_large = h in cc)

module _ (sys : System) (u v : Term) (rs : List RedexPlace) (es : List Redex) (all : AreRedexes sys u v rs) (refuted : AreRefuted sys u v rs es) where
  first_normal : HasNoRedex sys u
  first_normal p i m =
      let r : RedexPlace = record { which = 1; position = p; rule = i } in
      let j = judged_at sys u v rs es refuted r (all.whole r (inl (refl, m))) in
      never_met sys u r j.0 j.1

  second_normal : HasNoRedex sys v
  second_normal p i m =
      let r : RedexPlace = record { which = 2; position = p; rule = i } in
      let j = judged_at sys u v rs es refuted r (all.whole r (inr (refl, m))) in
      never_met sys v r j.0 j.1

shown_apart : (sys : System) (u v : Term) (a : Apartness) → IsWellFormed sys → AreShownApart sys u v a → AreApart sys u v
shown_apart sys u v (by_normal_forms es) good (differ, (rs, all, refuted)) =
    normal_apart sys u v differ (first_normal sys u v rs es all refuted) (second_normal sys u v rs es all refuted)
shown_apart sys u v by_rigid_caps good h = rigid_apart sys u v good h

-- the ends are determined, and so they are those that are shown to be apart
ends_unjoinable : (sys : System) (peak : Peak) → IsWellFormed sys → IsOver sys.arities peak.start → (valid : IsValidPeak sys peak) → (u v : Term) → LeadsTo sys peak u v
    → IsUnjoinable sys peak.start u v
ends_unjoinable sys peak good over valid u v ends =
    let one : Reaches sys peak.start u = end_reached sys peak.start peak.first u good over ends.first in
    let other : Reaches sys peak.start v = end_reached sys peak.start peak.second v good over ends.second in
    let same_u : valid.u ≡ u = derives_unique sys [] peak.start peak.first valid.u u valid.ends.first ends.first in
    let same_v : valid.v ≡ v = derives_unique sys [] peak.start peak.second valid.v v valid.ends.second ends.second in
    let apart : AreApart sys u v = subst₂ (AreApart sys) same_u same_v (shown_apart sys valid.u valid.v peak.apart good valid.apart.apart) in
    let start_is : IsFileTerm sys peak.start = (over, valid.start) in
    let u_is : IsFileTerm sys u = (keeps_over sys peak.start u good over one, subst (HasFileSymbols sys) same_u valid.apart.first) in
    let v_is : IsFileTerm sys v = (keeps_over sys peak.start v good over other, subst (HasFileSymbols sys) same_v valid.apart.second) in
    record {
      terms = (start_is, u_is, v_is);
      one = one;
      other = other;
      apart = apart;
      file_one = files_are_apart.reaches sys peak.start u start_is u_is one;
      file_other = files_are_apart.reaches sys peak.start v start_is v_is other;
      file_apart = files_are_apart.apart sys u v apart;
    }

pub valid_peaks : ValidPeaksReachApart
valid_peaks sys peak good over valid =
    record { leads = (valid.u, valid.v, valid.ends); apart = ends_unjoinable sys peak good over valid }

not_file_confluent : (sys : System) (t u v : Term) → IsUnjoinable sys t u v → IsFileConfluent sys → ⊥
not_file_confluent sys t u v h confluent =
    let w = confluent t u v h.terms.0 h.terms.1 h.terms.2 h.file_one h.file_other in
    h.file_apart w.0 w.2 w.3

not_confluent : (sys : System) (t u v : Term) → IsUnjoinable sys t u v → IsConfluent sys → ⊥
not_confluent sys t u v h confluent =
    let w = confluent t u v h.terms.0.0 h.terms.1.0 h.terms.2.0 h.one h.other in
    h.apart w.0 w.2 w.3

pub refute_confluence : UnjoinableTermsRefuteConfluence
refute_confluence sys t u v h = (not_file_confluent sys t u v h, not_confluent sys t u v h)
