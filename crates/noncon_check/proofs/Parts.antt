-- Entries for redexes, rule by rule at a part, and part by part in a term.
use Rattle.std.proofs.Common.{ℕ, ◌≡◌, ◌<◌, ◌≤◌, ◌+◌, refl, sym, subst, List, [], ◌∷◌, ◌++◌, flat_map, length, get_or, drop, Option, Result, Ok, Err}
use Rattle.std.proofs.lemmas.List.{drop_all}
use Rattle.rewriting.specs.Terms as math
use Rattle.rewriting.specs.Prelude.{IsAmong, System}
use Rattle.rule_index.specs.Parts.{Part, parts}
use Rattle.certificates.specs.Prelude.{Redex, InfeasibilityEvidence, EvidenceReason}
use Rattle.validity.specs.declared.CheckError.{CheckError}
use Rattle.valid_certificates.specs.Peaks.{RedexPlace}
use Rattle.redex_conditions.specs.Judged.{IsJudgedOn, IsJudgedAt}
use Rattle.redex_conditions.specs.Redexes.{places, part_redexes}
use Rattle.noncon_check.specs.Walks.{Judgement, Pass, PlacesAnswer}
use Rattle.noncon_check.proofs.Walks.{rest_answers, first_answers, answers_to}
use Rattle.redex_conditions.proofs.Parts.{places_split, AreAhead, ahead_first, matches_in}

module _ (J : Judgement) (es : List Redex) (sys : System) (w : ℕ) (q : Part) (ns : List ℕ) (i n : ℕ) (low : i < length ns) (here : n ≡ get_or ns i 0) where
  abbrev those : List ℕ → List RedexPlace
  those ms = places sys w q ms

  split : those (drop i ns) ≡ those (n ∷ []) ++ those (drop (i + 1) ns)
  split = places_split sys w q ns i n low here

  pub next_rule : (at mid : ℕ) (a : Result ℕ CheckError) → Pass J es at (those (n ∷ [])) mid → PlacesAnswer J es mid (those (drop (i + 1) ns)) a → PlacesAnswer J es at (those (drop i ns)) a
  next_rule at mid a h k = subst (λ rs. PlacesAnswer J es at rs a) (sym split) (rest_answers J es at (those (n ∷ [])) mid (those (drop (i + 1) ns)) a h k)

  pub rule_fails : (at : ℕ) (e : CheckError) → PlacesAnswer J es at (those (n ∷ [])) (Err e) → PlacesAnswer J es at (those (drop i ns)) (Err e)
  rule_fails at e h = subst (λ rs. PlacesAnswer J es at rs (Err e)) (sym split) (first_answers J es at (those (n ∷ [])) (those (drop (i + 1) ns)) e h)

pub rules_end : (J : Judgement) (es : List Redex) (sys : System) (w : ℕ) (q : Part) (ns : List ℕ) (i at : ℕ) → length ns ≤ i → PlacesAnswer J es at (places sys w q (drop i ns)) (Ok at)
rules_end J es sys w q ns i at high = subst (λ ms. PlacesAnswer J es at (places sys w q ms) (Ok at)) (sym (drop_all i ns high)) refl

module _ (sys : System) (w own : ℕ) (es : List Redex) (t : math.Term) where
  abbrev J : Judgement
  J = IsJudgedAt sys own t

  -- evidence judged for a redex of a part
  judged_in : (q : Part) → IsAmong q (parts t) → (r : RedexPlace) → IsAmong r (part_redexes sys w q) → (e : InfeasibilityEvidence) (o : Option EvidenceReason)
      → IsJudgedOn sys own q.term r e o → J r e o
  judged_in q l r m e o h = record { rule = h.rule; match = h.match; matches = matches_in t sys w q l r m h.rule h.match h.is_rule h.matches; judged = h.judged }

  part_judged : (q : Part) → IsAmong q (parts t) → (at : ℕ) (a : Result ℕ CheckError) → PlacesAnswer (IsJudgedOn sys own q.term) es at (part_redexes sys w q) a
      → PlacesAnswer J es at (part_redexes sys w q) a
  part_judged q l at a h = answers_to (IsJudgedOn sys own q.term) J es at (part_redexes sys w q) a (judged_in q l) h

  module _ (qs rest : List Part) (q : Part) (split : qs ≡ q ∷ rest) (ahead : AreAhead t qs) where
    first : IsAmong q (parts t)
    first = ahead_first t qs rest q split ahead

    pub next_part : (at next : ℕ) (a : Result ℕ CheckError) → PlacesAnswer (IsJudgedOn sys own q.term) es at (part_redexes sys w q) (Ok next)
        → PlacesAnswer J es next (flat_map (part_redexes sys w) rest) a
        → PlacesAnswer J es at (flat_map (part_redexes sys w) qs) a
    next_part at next a h k =
        subst (λ ps. PlacesAnswer J es at (flat_map (part_redexes sys w) ps) a) (sym split)
        (rest_answers J es at (part_redexes sys w q) next (flat_map (part_redexes sys w) rest) a (part_judged q first at (Ok next) h) k)

    pub part_fails : (at : ℕ) (e : CheckError) → PlacesAnswer (IsJudgedOn sys own q.term) es at (part_redexes sys w q) (Err e) → PlacesAnswer J es at (flat_map (part_redexes sys w) qs) (Err e)
    part_fails at e h =
        subst (λ ps. PlacesAnswer J es at (flat_map (part_redexes sys w) ps) (Err e)) (sym split)
        (first_answers J es at (part_redexes sys w q) (flat_map (part_redexes sys w) rest) e (part_judged q first at (Err e) h))
