-- What is tried, in order, to show that a system is not confluent.
use Rattle.std.specs.Prelude.{ℕ, ◌≡◌, List, [], ◌∷◌, map, flat_map, length, Option, None, Some}
use Rattle.rewriting.specs.Prelude.{Term, Condition, Rule, System, rule_at}
use Rattle.certificates.specs.Prelude.{InfeasibilityEvidence, Redex, Apartness, by_normal_forms, by_rigid_caps, Certificate, peak_certificate}
use Rattle.cops_names.specs.NameTable.{NameTable}
use Rattle.valid_certificates.specs.Peaks.{RedexPlace, AreRedexes, AreConditionsAt, IsRedexJudged, chosen}
use Rattle.valid_certificates.specs.Certificates.{IsValid}
use Rattle.first_found.specs.Items.{IsFirst, one}
use Rattle.first_found.specs.Rows.{AreFirsts, SomeHasNone}
use Rattle.search_spaces.specs.Texts.{HasText}
use Rattle.search_spaces.specs.Refuting.{Refuting, Tries, refutings}
use Rattle.reach_lists.specs.Solutions.{Reached}
use Rattle.search_spaces.specs.Listings.{listing, listing_cost, pairs_of}

-- a listing that is made, at its cost, and gives nothing; or two listed terms of a start
pub data PeakItem : Type 0 where
  make_listing : ℕ → PeakItem
  try_ends : Term → Reached → Reached → PeakItem

abbrev pub peak_item_cost : PeakItem → ℕ
peak_item_cost (make_listing n) = n
peak_item_cost (try_ends t x y) = 1

-- the listing of a start, and then the pairs in it
abbrev pub peak_items_of : System → Term → List PeakItem
peak_items_of sys t = make_listing (listing_cost sys [] t) ∷ map (λ p. try_ends t p.0 p.1) (pairs_of (listing sys [] t))

abbrev pub peak_items : System → List Term → List PeakItem
peak_items sys starts = flat_map (peak_items_of sys) starts

-- how many conditions a rule has
abbrev pub conditions_of : Option Rule → ℕ
conditions_of None = 0
conditions_of (Some r) = length r.conditions

-- the evidence that is tried for a redex of two terms is valid
abbrev pub RefutesRedex : System → Term → Term → RedexPlace → Refuting → InfeasibilityEvidence → Type 0
RefutesRedex sys u v r item e =
    (cs : List Condition) × AreConditionsAt sys (chosen u v r.which) r cs × Tries sys cs item e × IsRedexJudged sys (chosen u v r.which) r e None

-- the entry has the first valid evidence for the redex
abbrev pub IsFirstRefuted : System → Term → Term → RedexPlace → Redex → ℕ → Type 0
IsFirstRefuted sys u v r entry n =
    (e : InfeasibilityEvidence) × IsFirst one (RefutesRedex sys u v r) (refutings (conditions_of (rule_at sys r.rule))) e n
    × (entry ≡ record { which = r.which; position = r.position; rule = r.rule; evidence = e })

-- that two ends are apart is tried by evidence for each of their redexes, the first that is valid; where a redex has none, by caps
abbrev pub TriesApart : System → Term → Term → Apartness → Type 0
TriesApart sys u v (by_normal_forms entries) = (rs : List RedexPlace) × AreRedexes sys u v rs × ((n : ℕ) × AreFirsts (IsFirstRefuted sys u v) rs entries n)
TriesApart sys u v by_rigid_caps = (rs : List RedexPlace) × AreRedexes sys u v rs × SomeHasNone (IsFirstRefuted sys u v) rs

-- the certificate that two listed terms make
abbrev pub IsPeakOf : System → Term → Reached → Reached → Certificate → Type 0
IsPeakOf sys t x y c = (apart : Apartness) × TriesApart sys x.term y.term apart × (c ≡ peak_certificate (record { start = t; first = x.by; second = y.by; apart = apart }))

-- the item's certificate, if it can be written
abbrev pub HoldsPeak : NameTable → System → PeakItem → Certificate → Type 0
HoldsPeak names sys (make_listing n) c = ⊥
HoldsPeak names sys (try_ends t x y) c = IsPeakOf sys t x y c × HasText names c

-- the same where it is valid
abbrev pub GivesPeak : NameTable → System → PeakItem → Certificate → Type 0
GivesPeak names sys item c = HoldsPeak names sys item c × IsValid sys c
