-- The entries for all redexes of a term, part by part.
use Rattle.std.proofs.Common.{ℕ, ◌≡◌, inl, inr, Bool, true, false, List, [], ◌∷◌, flat_map, map, length, None, Some, Result, Ok, Err, refl, sym, subst}
use Rattle.std.specs.Prelude.{Vec}
use Rattle.std.specs.Global.{Global}
use Rattle.rewriting.specs.Prelude.{IsAmong, AreDistinct, System, IsSystem, apply, Term}
use Rattle.rewriting.proofs.Laws.{well_formed}
use Rattle.certificates.specs.Certificates.{Redex}
use Rattle.term_core.specs.declared.terms.NoMemory.{NoMemory}
use Rattle.cert_model.specs.CertificateView.{redex_view}
use Rattle.cert_model.specs.declared.model.Redex as program
use Rattle.renumbering.specs.Rows.{naming}
use Rattle.rule_index.specs.Parts.{Part, parts}
use Rattle.rule_index.specs.Roots.{rules_at}
use Rattle.valid_certificates.specs.Peaks.{RedexPlace}
use Rattle.redex_conditions.specs.Redexes.{part_redexes, redexes}
use Rattle.redex_conditions.proofs.Numbers.{AreBelow, same_redexes}
use Rattle.redex_conditions.proofs.Parts.{AreAhead, ahead_first, ahead_rest, matches_in}
use Rattle.redex_conditions.proofs.Places.{redexes_are}
use Rattle.first_found.specs.Rows.{AreFirsts, HasNone}
use Rattle.search_spaces.specs.PeakItems.{IsFirstRefuted}
use Rattle.noncon_search.specs.Refuted.{RefutedAnswers}
use Rattle.noncon_search.specs.Entries.{IsRefutedOn, IsUnrefutedOn, EntriesAnswer, RulesAnswer}
use Rattle.noncon_search.proofs.Adding.{no_places, rest_added, first_fails}
use Rattle.noncon_search.proofs.Moving.{some_none}
use Rattle.noncon_search.proofs.AtRedexes.{refuted_there, unrefuted_there}

-- an answer that says more
module _ (First Other : RedexPlace → Redex → ℕ → Type 0) where
  firsts_to : (rs : List RedexPlace) (es : List Redex) (n : ℕ) → ((r : RedexPlace) → IsAmong r rs → (e : Redex) (m : ℕ) → First r e m → Other r e m) → AreFirsts First rs es n → AreFirsts Other rs es n
  firsts_to [] [] n to h = h
  firsts_to [] (e ∷ es) n to h = absurd h
  firsts_to (r ∷ rs) [] n to h = absurd h
  firsts_to (r ∷ rs) (e ∷ es) n to (m, k, f, fs, is) = (m, k, to r (inl refl) e m f, firsts_to rs es k (λ x l. to x (inr l)) fs, is)

-- what is answered for places of a term
abbrev TermAnswer : System → Term → List RedexPlace → List Redex → List Redex → Result Bool NoMemory → Type 0
TermAnswer sys t = EntriesAnswer (IsFirstRefuted sys t t) (HasNone (IsFirstRefuted sys t t))

-- what is answered for the parts of the numbered term that are left, is for all
abbrev ArePartsLeft : System → Term → Term → ℕ → List Part → List Redex → Type 0
ArePartsLeft sys t n w qs now =
    (after : List Redex) (a : Result Bool NoMemory) → TermAnswer sys t (flat_map (part_redexes sys w) qs) now after a → TermAnswer sys t (redexes sys w n) [] after a

module _ (sys : System) (row : List ℕ) (own : ℕ) (long : own ≡ length row) (distinct : AreDistinct row) (t n : Term) (is : t ≡ apply (naming row) n) (below : AreBelow (length row) n) (w : ℕ) where
  abbrev Answer : List RedexPlace → List Redex → List Redex → Result Bool NoMemory → Type 0
  Answer = TermAnswer sys t

  module _ (q : Part) (at : IsAmong q (parts n)) where
    refuted_in : (r : RedexPlace) → IsAmong r (part_redexes sys w q) → (entry : Redex) (m : ℕ) → IsRefutedOn sys (length row) q.term r entry m → IsFirstRefuted sys t t r entry m
    refuted_in r l entry m (h, e, f, same) =
        refuted_there row distinct t n is below sys r h.rule h.match (matches_in n sys w q at r l h.rule h.match h.is_rule h.matches) e m f entry same

    unrefuted_in : (r : RedexPlace) → IsAmong r (part_redexes sys w q) → IsUnrefutedOn sys (length row) q.term r → HasNone (IsFirstRefuted sys t t) r
    unrefuted_in r l (h, none) = unrefuted_there row distinct t n is below sys r h.rule h.match (matches_in n sys w q at r l h.rule h.match h.is_rule h.matches) none

    part_there : (before after : List Redex) (a : Result Bool NoMemory) → RulesAnswer sys (length row) w q (rules_at sys q.term) before after a
        → Answer (part_redexes sys w q) before after a
    part_there before after (Ok true) (es, put, (m, h)) = (es, put, (m, firsts_to (IsRefutedOn sys (length row) q.term) (IsFirstRefuted sys t t) (part_redexes sys w q) es m refuted_in h))
    part_there before after (Ok false) (r, l, none) = (r, l, unrefuted_in r l none)
    part_there before after (Err e) h = tt

    part_added : (before after : List Redex) (a : Result Bool NoMemory) → RulesAnswer sys own w q (rules_at sys q.term) before after a
        → Answer (part_redexes sys w q) before after a
    part_added before after a h =
        part_there before after a (subst (λ k. RulesAnswer sys k w q (rules_at sys q.term) before after a) long h)

  module _ (qs rest : List Part) (q : Part) (split : qs ≡ q ∷ rest) (ahead : AreAhead n qs) where
    abbrev OnPart : List Redex → List Redex → Result Bool NoMemory → Type 0
    OnPart = RulesAnswer sys own w q (rules_at sys q.term)

    next_part_added : (before here after : List Redex) (a : Result Bool NoMemory) → OnPart before here (Ok true) → Answer (flat_map (part_redexes sys w) rest) here after a
        → Answer (flat_map (part_redexes sys w) qs) before after a
    next_part_added before here after a h k =
        subst (λ ps. Answer (flat_map (part_redexes sys w) ps) before after a) (sym split)
        (rest_added (IsFirstRefuted sys t t) (HasNone (IsFirstRefuted sys t t)) (part_redexes sys w q) (flat_map (part_redexes sys w) rest) before here after a
        (part_added q (ahead_first n qs rest q split ahead) before here (Ok true) h) k)

    next_part_fails : (before here after : List Redex) → OnPart before here (Ok false) → Answer (flat_map (part_redexes sys w) qs) before after (Ok false)
    next_part_fails before here after h =
        subst (λ ps. Answer (flat_map (part_redexes sys w) ps) before after (Ok false)) (sym split)
        (first_fails (IsFirstRefuted sys t t) (HasNone (IsFirstRefuted sys t t)) (part_redexes sys w q) (flat_map (part_redexes sys w) rest) before here after
        (part_added q (ahead_first n qs rest q split ahead) before here (Ok false) h))

  no_part_added : (qs : List Part) (es : List Redex) → qs ≡ [] → Answer (flat_map (part_redexes sys w) qs) es es (Ok true)
  no_part_added qs es none = subst (λ ps. Answer (flat_map (part_redexes sys w) ps) es es (Ok true)) (sym none) (no_places (IsFirstRefuted sys t t) (HasNone (IsFirstRefuted sys t t)) es)

  module _ (good : IsSystem sys) where
    abbrev all : List RedexPlace
    all = redexes sys w n

    whole_refuted : (es : Vec program.Redex Global) → Answer all [] (map redex_view es.items) (Ok true) → RefutedAnswers sys w t (Ok (Some es))
    whole_refuted es (fs, put, (m, h)) = (
      all,
      same_redexes row distinct t n is below sys w all (redexes_are sys w n (well_formed sys good)),
      (m, subst (λ z. AreFirsts (IsFirstRefuted sys t t) all z m) (sym put) h),
    )

    some_unrefuted : (after : List Redex) → Answer all [] after (Ok false) → RefutedAnswers sys w t (Ok None)
    some_unrefuted after (r, at, none) = (
      all,
      same_redexes row distinct t n is below sys w all (redexes_are sys w n (well_formed sys good)),
      some_none (IsFirstRefuted sys t t) all r at none,
    )

-- a walk over the parts of the numbered term: these are left, and there are entries for the redexes of the others
pub record IsUnderWay (sys : System) (t : Term) (own w : ℕ) (qs : List Part) (now : List Redex) : Type 0 where
  numbered : Term
  row : List ℕ
  long : own ≡ length row
  distinct : AreDistinct row
  names : t ≡ apply (naming row) numbered
  below : AreBelow (length row) numbered
  ahead : AreAhead numbered qs
  left : ArePartsLeft sys t numbered w qs now

module _ (sys : System) (t : Term) (own w : ℕ) where
  pub begins : (n : Term) (row : List ℕ) → own ≡ length row → AreDistinct row → t ≡ apply (naming row) n → AreBelow (length row) n → (qs : List Part) → qs ≡ parts n → (now : List Redex) → now ≡ []
      → IsUnderWay sys t own w qs now
  begins n row long distinct names below qs all now none =
      record {
        numbered = n;
        row = row;
        long = long;
        distinct = distinct;
        names = names;
        below = below;
        ahead = λ q l. subst (IsAmong q) all l;
        left = λ after a h. subst (λ ps. TermAnswer sys t (flat_map (part_redexes sys w) ps) [] after a) all (subst (λ es. TermAnswer sys t (flat_map (part_redexes sys w) qs) es after a) none h);
      }

  module _ (qs : List Part) (now : List Redex) (h : IsUnderWay sys t own w qs now) where
    module _ (rest : List Part) (q : Part) (split : qs ≡ q ∷ rest) (after : List Redex) where
      pub goes_on : RulesAnswer sys own w q (rules_at sys q.term) now after (Ok true) → IsUnderWay sys t own w rest after
      goes_on k =
          record {
            numbered = h.numbered;
            row = h.row;
            long = h.long;
            distinct = h.distinct;
            names = h.names;
            below = h.below;
            ahead = ahead_rest h.numbered qs rest q split h.ahead;
            left = λ last a l. h.left last a (next_part_added sys h.row own h.long h.distinct t h.numbered h.names h.below w qs rest q split h.ahead now after last a k l);
          }

      pub breaks_off : IsSystem sys → RulesAnswer sys own w q (rules_at sys q.term) now after (Ok false) → RefutedAnswers sys w t (Ok None)
      breaks_off good k =
          some_unrefuted sys h.row own h.long h.distinct t h.numbered h.names h.below w good after
          (h.left after (Ok false) (next_part_fails sys h.row own h.long h.distinct t h.numbered h.names h.below w qs rest q split h.ahead now after after k))

  pub comes_to_end : (qs : List Part) (es : Vec program.Redex Global) → IsUnderWay sys t own w qs (map redex_view es.items) → IsSystem sys → qs ≡ [] → RefutedAnswers sys w t (Ok (Some es))
  comes_to_end qs es h good none =
      whole_refuted sys h.row own h.long h.distinct t h.numbered h.names h.below w good es
      (h.left (map redex_view es.items) (Ok true) (no_part_added sys h.row own h.long h.distinct t h.numbered h.names h.below w qs (map redex_view es.items) none))
