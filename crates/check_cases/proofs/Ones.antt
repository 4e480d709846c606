-- Prefixes whose numbers are all 1.
use Rattle.std.proofs.Common.{ℕ, suc, ◌≡◌, ◌+◌, ◌<◌, ◌≤◌, List, [], ◌∷◌, ◌++◌, map, replicate, length, get_or, slice_get, option_map, Some, All, sym, ap, ◌∙◌, subst, arith}
use Rattle.std.proofs.lemmas.List.{length-map, map_push, length-replicate}
use Rattle.std.proofs.lemmas.List.Elements.{All-get_or, All-replicate}
use Rattle.std.proofs.lemmas.Option.{slice_get-map, slice_get-get_or, slice_get_within, get_or_from_slice_get}
use Rattle.rewriting.specs.Prelude.{System, IsSystem, heads, unraveled}
use Rattle.rewriting.specs.Unraveling as math
use Rattle.rewriting.proofs.Laws.{well_formed}
use Rattle.certificates.specs.Certificates as certificates
use Rattle.interpretations.specs.Linear.{Interpretation, AreNumbersGood}
use Rattle.interpretations.proofs.Bound.{length-heads}
use Rattle.term_core.specs.HeadView.{head_view}
use Rattle.term_core.specs.declared.systems.Head.{Head}
use Rattle.cert_model.specs.CertificateView.{linear_entry_view}
use Rattle.cert_model.specs.declared.model.LinearEntry.{LinearEntry}
use Rattle.unravel.specs.Answers.{IsUnraveled}
use Rattle.unravel.specs.declared.Unraveled.{Unraveled}
use Rattle.grid_search.specs.Prefix.{HasPrefix}
use Rattle.grid_search.proofs.Extending.{prefix_start, next_prefix}

abbrev IsWithin : ℕ → Type 0
IsWithin c = (1 ≤ c) × (c ≤ 1000000)

-- numbers from 1 to 1,000,000 are good, whichever arguments are active
module _ (sys : System) (f : ℕ) (cs : List ℕ) (all : All IsWithin cs) where
  within_at : (k c : ℕ) → slice_get cs k ≡ Some c → IsWithin c
  within_at k c at = subst IsWithin (get_or_from_slice_get cs k c c at) (All-get_or IsWithin cs k c (slice_get_within cs k c at) all)

  numbers_good : AreNumbersGood sys f cs
  numbers_good = record { small = λ k c at. (within_at k c at).1; active = λ k c at active. (within_at (suc k) c at).0; constant = λ c at some. (within_at 0 c at).0 }

pub no_entry : (sys : System) (u : Unraveled) → IsSystem sys → IsUnraveled sys u → HasPrefix u []
no_entry sys u sound is = record { system = sys; well = well_formed sys sound; unraveled = is; prefix = prefix_start sys }

abbrev views : List LinearEntry → Interpretation
views es = map linear_entry_view es

module _ (u : Unraveled) (es : List LinearEntry) (h : HasPrefix u (views es)) (hs : List Head) (are : hs ≡ u.heads.items) (ns : List ℕ) (arities : ns ≡ u.system.arities) where
  heads_are : map head_view hs ≡ heads h.system
  heads_are = ap (map head_view) are ∙ h.unraveled.heads

  arities_are : ns ≡ (unraveled h.system).arities
  arities_are = arities ∙ ap (λ z. z.arities) h.unraveled.system

  pub as_many : length ns ≡ length hs
  as_many =
      let same = ap (λ (z : List ℕ). length z) arities_are in
      let long = length-heads h.system in
      let symbols = ap (λ (z : List math.Head). length z) heads_are in
      let seen = length-map hs head_view in
      omega (arith, same, long, symbols, seen)

  -- one entry more
  module _ (k : ℕ) (here : length es ≡ k) (within : k < length hs) (d : Head) (m : ℕ) where
    abbrev ones : certificates.LinearEntry
    ones = record { head = head_view (get_or hs k d); coefficients = replicate (get_or ns k m + 1) 1 }

    place : k ≡ length (views es)
    place = sym here ∙ sym (length-map es linear_entry_view)

    head_there : slice_get (heads h.system) k ≡ Some ones.head
    head_there = ap (λ (z : List math.Head). slice_get z k) (sym heads_are) ∙ slice_get-map head_view hs k ∙ ap (option_map head_view) (slice_get-get_or hs k d within)

    counted : option_map suc (slice_get (unraveled h.system).arities k) ≡ Some (length ones.coefficients)
    counted =
        let many = as_many in
        let long = length-replicate {A = ℕ} (get_or ns k m + 1) 1 in
        let one : suc (get_or ns k m) ≡ length ones.coefficients = omega (arith, long) in
        ap (option_map suc) (ap (λ (z : List ℕ). slice_get z k) (sym arities_are) ∙ slice_get-get_or ns k m (omega (arith, many, within))) ∙ ap Some one

    good : AreNumbersGood h.system (length (views es)) ones.coefficients
    good = numbers_good h.system (length (views es)) ones.coefficients (All-replicate IsWithin (get_or ns k m + 1) 1 (omega arith, omega arith))

    longer : HasPrefix u (views es ++ ones ∷ [])
    longer =
        record {
          system = h.system;
          well = h.well;
          unraveled = h.unraveled;
          prefix =
              next_prefix h.system (views es) ones h.prefix (subst (λ i. slice_get (heads h.system) i ≡ Some ones.head) place head_there)
              (subst (λ i. option_map suc (slice_get (unraveled h.system).arities i) ≡ Some (length ones.coefficients)) place counted) good;
        }

    pub one_more : (e : LinearEntry) → linear_entry_view e ≡ ones → (after : List LinearEntry) → after ≡ es ++ e ∷ [] → HasPrefix u (views after)
    one_more e is after last = subst (HasPrefix u) (ap (λ (z : certificates.LinearEntry). views es ++ z ∷ []) (sym is) ∙ sym (map_push linear_entry_view es e) ∙ ap views (sym last)) longer
