-- Whether two listed terms are shown to be apart.
use Rattle.std.proofs.Common.{ℕ, ◌≡◌, ◌+◌, List, [], ◌∷◌, ◌++◌, map, is_some, Vec, Global, Option, None, Some, Ok, refl, sym, ap, ◌∙◌, subst, subst₂}
use Rattle.std.specs.Prelude.{false}
use Rattle.std.proofs.lemmas.Bool.{false≢true}
use Rattle.std.proofs.lemmas.List.{map-append}
use Rattle.rewriting.specs.Prelude.{IsAmong, Term, System, IsWellFormed}
use Rattle.rewriting.proofs.Lists.{among_left, among_right, among_middle}
use Rattle.unifier_run.specs.Run.{clash}
use Rattle.caps.specs.Evidence.{IsRigidOutcome}
use Rattle.certificates.specs.Certificates as math
use Rattle.certificates.specs.Prelude.{Apartness, by_normal_forms, by_rigid_caps, Certificate, Derives}
use Rattle.certificates.proofs.Unique.{derives_unique}
use Rattle.cops_names.specs.NameTable.{NameTable}
use Rattle.valid_certificates.specs.Certificates.{IsValid}
use Rattle.valid_certificates.specs.Peaks.{RedexPlace, IsRedexJudged, AreRedexes, AreRefuted, AreShownApart, HasFileSymbols, AreValidEnds, chosen, entry_place}
use Rattle.cert_model.specs.CertificateView.{redex_view}
use Rattle.cert_model.specs.declared.model.Redex.{Redex}
use Rattle.first_found.specs.Rows.{AreFirsts, HasNone}
use Rattle.redex_conditions.specs.Redexes.{redexes, place, AreRedexesOf}
use Rattle.redex_conditions.proofs.Ends.{both}
use Rattle.redex_conditions.proofs.Places.{redexes_are}
use Rattle.reach_lists.specs.Solutions.{Reached}
use Rattle.search_spaces.specs.PeakItems.{IsFirstRefuted, TriesApart, try_ends, GivesPeak}
use Rattle.search_spaces.specs.Texts.{HasText}
use Rattle.search_spaces.proofs.PeakOnce.{apart_once}
use Rattle.noncon_search.specs.Refuted.{RefutedAnswers}
use Rattle.noncon_search.specs.Ends.{IsOpen}
use Rattle.noncon_search.specs.Answers.{peak_of}
use Rattle.noncon_search.proofs.Moving.{some_none, chosen_same, refuted_as, firsts_as, firsts_append}

-- a term with a redex that has no evidence
pub open_of : (sys : System) (w : ℕ) (t : Term) (o : Option (Vec Redex Global)) → RefutedAnswers sys w t (Ok o) → is_some o ≡ false → IsOpen sys t
open_of sys w t (Some es) h e = absurd (false≢true (sym e))
open_of sys w t None (rs, are, s) e =
    record {
      place = s.row;
      matches = (are.each s.row (subst (IsAmong s.row) (sym s.split) (among_middle s.row s.before s.behind))).1;
      none = s.none;
    }

module _ (sys : System) (u v : Term) where
  -- the redex has none either as one of two terms
  still_none : (k : ℕ) (t : Term) → chosen u v k ≡ t → (o : IsOpen sys t) → HasNone (IsFirstRefuted sys u v) (place k o.place.position o.place.rule)
  still_none k t is o x n (e, f, same) =
      o.none (record { which = o.place.which; position = o.place.position; rule = o.place.rule; evidence = e }) n
      (e, refuted_as sys u v t t (place k o.place.position o.place.rule) o.place.which (is ∙ sym (chosen_same t o.place.which)) e n f, refl)

  module _ (good : IsWellFormed sys) where
    abbrev all : List RedexPlace
    all = redexes sys 1 u ++ redexes sys 2 v

    are_all : AreRedexes sys u v all
    are_all = both sys u v (redexes sys 1 u) (redexes sys 2 v) (redexes_are sys 1 u good) (redexes_are sys 2 v good)

    open_at : (k : ℕ) (t : Term) → chosen u v k ≡ t → (o : IsOpen sys t) → IsAmong (place k o.place.position o.place.rule) all → TriesApart sys u v by_rigid_caps
    open_at k t is o there = (all, are_all, some_none (IsFirstRefuted sys u v) all (place k o.place.position o.place.rule) there (still_none k t is o))

    pub open_first : IsOpen sys u → TriesApart sys u v by_rigid_caps
    open_first o = open_at 1 u refl o (among_left _ (redexes sys 1 u) (redexes sys 2 v) ((redexes_are sys 1 u good).whole o.place.position o.place.rule o.matches))

    pub open_second : IsOpen sys v → TriesApart sys u v by_rigid_caps
    open_second o = open_at 2 v refl o (among_right _ (redexes sys 1 u) (redexes sys 2 v) ((redexes_are sys 2 v good).whole o.place.position o.place.rule o.matches))

  -- entries for both terms
  pub both_refuted : (es fs : List Redex) (a : (rs : List RedexPlace) × AreRedexesOf sys 1 u rs × ((n : ℕ) × AreFirsts (IsFirstRefuted sys u u) rs (map redex_view es) n))
      (b : (rs : List RedexPlace) × AreRedexesOf sys 2 v rs × ((n : ℕ) × AreFirsts (IsFirstRefuted sys v v) rs (map redex_view fs) n))
      (joined : List Redex) → joined ≡ es ++ fs → TriesApart sys u v (by_normal_forms (map redex_view joined))
  both_refuted es fs (rs, h, (n, x)) (ss, k, (m, y)) joined is = (
    rs ++ ss,
    both sys u v rs ss h k,
    (
      n + m,
      subst (λ z. AreFirsts (IsFirstRefuted sys u v) (rs ++ ss) z (n + m)) (sym (ap (map redex_view) is ∙ map-append redex_view es fs))
          (firsts_append (IsFirstRefuted sys u v) rs ss (map redex_view es) (map redex_view fs) n m
          (firsts_as sys u u u v rs (map redex_view es) n (λ r l. subst (λ w. chosen u u w ≡ chosen u v w) (sym (h.each r l).0) refl) x)
          (firsts_as sys v v u v ss (map redex_view fs) m (λ r l. subst (λ w. chosen v v w ≡ chosen u v w) (sym (k.each r l).0) refl) y)),
    ),
  )

  all_refuted : (rs : List RedexPlace) (es : List math.Redex) (n : ℕ) → AreFirsts (IsFirstRefuted sys u v) rs es n → AreRefuted sys u v rs es
  all_refuted [] [] n h = tt
  all_refuted [] (e ∷ es) n h = absurd h
  all_refuted (r ∷ rs) [] n h = absurd h
  all_refuted (r ∷ rs) (x ∷ es) n (m, k, (e, f, is), rest, up) =
      (ap entry_place is, subst (λ z. IsRedexJudged sys (chosen u v r.which) r z.evidence None) (sym is) f.gives.3, all_refuted rs es k rest)

  pub shown_by_entries : (u ≡ v → ⊥) → (es : List math.Redex) → TriesApart sys u v (by_normal_forms es) → AreShownApart sys u v (by_normal_forms es)
  shown_by_entries differ es (rs, are, (n, x)) = (differ, (rs, are, all_refuted rs es n x))

  -- where caps do not clash, and only caps are tried
  module _ (tries : TriesApart sys u v by_rigid_caps) where
    pub not_by_caps : (IsRigidOutcome sys u v clash → ⊥) → (a : Apartness) → TriesApart sys u v a → AreShownApart sys u v a → ⊥
    not_by_caps never a t s = never (subst (AreShownApart sys u v) (apart_once sys u v a by_rigid_caps t tries) s)

-- the certificate of two listed terms
module _ (names : NameTable) (sys : System) (t : Term) (x y : Reached) (first : Derives sys [] t x.by x.term) (second : Derives sys [] t y.by y.term) where
  valid_ends : (a : Apartness) → IsValid sys (peak_of t x y a) → AreValidEnds sys x.term y.term a
  valid_ends a h =
      subst₂ (λ u v. AreValidEnds sys u v a) (derives_unique sys [] t x.by h.u x.term h.ends.first first) (derives_unique sys [] t y.by h.v y.term h.ends.second second) h.apart

  valid_apart : (a : Apartness) → IsValid sys (peak_of t x y a) → AreShownApart sys x.term y.term a
  valid_apart a h = (valid_ends a h).apart

  -- where one of the three terms has another symbol than the file's
  pub foreign_gives : (HasFileSymbols sys t × HasFileSymbols sys x.term × HasFileSymbols sys y.term → ⊥) → (c : Certificate) → GivesPeak names sys (try_ends t x y) c → ⊥
  foreign_gives no_file c (((a, tries, is), text), valid) =
      let h : IsValid sys (peak_of t x y a) = subst (IsValid sys) is valid in
      let ends = valid_ends a h in
      no_file (h.start, ends.first, ends.second)

  module _ (a : Apartness) (tries : TriesApart sys x.term y.term a) where
    pub gives : HasFileSymbols sys t × HasFileSymbols sys x.term × HasFileSymbols sys y.term → AreShownApart sys x.term y.term a
        → (c : Certificate) → c ≡ peak_of t x y a → HasText names c → GivesPeak names sys (try_ends t x y) c
    gives file shown c is text = (
      ((a, tries, is), text),
      subst (IsValid sys) (sym is)
          (record { start = file.0; u = x.term; v = y.term; ends = record { first = first; second = second }; apart = record { first = file.1; second = file.2; apart = shown } }),
    )

    pub without_text : (c : Certificate) → c ≡ peak_of t x y a → (HasText names c → ⊥) → (d : Certificate) → GivesPeak names sys (try_ends t x y) d → ⊥
    without_text c is long d (((b, other, same), text), valid) =
        long (subst (HasText names) (same ∙ ap (peak_of t x y) (apart_once sys x.term y.term b a other tries) ∙ sym is) text)

  pub not_shown : ((a : Apartness) → TriesApart sys x.term y.term a → AreShownApart sys x.term y.term a → ⊥) → (c : Certificate) → GivesPeak names sys (try_ends t x y) c → ⊥
  not_shown never c (((a, tries, is), text), valid) = never a tries (valid_apart a (subst (IsValid sys) is valid))
