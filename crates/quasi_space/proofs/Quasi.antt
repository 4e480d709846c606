-- What the space finds is valid; what a search of it may answer, however measures are tried.
use Rattle.std.proofs.Common.{ℕ, ◌≡◌, ◌+◌, ◌<◌, ◌≤◌, inl, inr, List, refl, sym, ap, ap₂, ◌∙◌, subst, arith}
use Rattle.rewriting.specs.Rules.{System}
use Rattle.unifier_run.specs.Overlaps.{Overlap}
use Rattle.certificates.specs.Certificates.{PairEntry, MeasureCertificate, Certificate, quasi_certificate}
use Rattle.cops_names.specs.NameTable.{NameTable}
use Rattle.valid_certificates.specs.Certificates.{IsValid}
use Rattle.valid_certificates.proofs.OneOverlaps.{overlaps_once}
use Rattle.first_found.specs.Rows.{AreFirsts, EndsAtRow, StopsInRow}
use Rattle.first_found.specs.Spaces.{IsSearched, IsDearer, CostsOnce, HasCost, FindsOnce, found, nothing, spent}
use Rattle.first_found.proofs.Spaces.{has_price}
use Rattle.search_spaces.specs.Texts.{HasText}
use Rattle.search_spaces.specs.Laws.{IsSearchable}
use Rattle.quasi_space.specs.Endings.{MayEndLast}
use Rattle.quasi_space.specs.Measures.{MeasureTrials}
use Rattle.quasi_space.specs.Quasi.{IsQuasiOpen, IsQuasiEntry, StopsAtQuasi, items_cost, all_items_cost, IsQuasiFound, IsQuasiCost, quasi_space_by}
use Rattle.quasi_space.proofs.Entries.{entries_settle, entries_once, entries_within, row_within, row_has_none, row_stopped_within}
use Rattle.quasi_space.proofs.Measures.{AreTrials}

quasi_open_once : (sys : System) (os qs : List Overlap) → IsQuasiOpen sys os → IsQuasiOpen sys qs → os ≡ qs
quasi_open_once sys os qs h k = overlaps_once sys os qs h.overlaps k.overlaps

module _ (names : NameTable) (sys : System) (by : MeasureTrials) (trials : AreTrials sys by) where
  found_valid : (c : Certificate) (n : ℕ) → IsQuasiFound by names sys c n → IsValid sys c
  found_valid c n f =
      subst (IsValid sys) (sym f.certificate)
      (record {
        deterministic = f.is_open.deterministic;
        irreducible = f.is_open.irreducible;
        measure = trials.found_good f.measure f.units f.first;
        pairs = (f.overlaps, f.is_open.overlaps, entries_settle sys f.overlaps f.entries f.paid f.firsts);
      })

  quasi_searched : IsSearched (IsValid sys) (quasi_space_by by names sys)
  quasi_searched = record { held = λ c n f. ((n, f), found_valid c n f); barren = λ b c h valid. b c h.0 h.1 }

  quasi_cost_once : CostsOnce (quasi_space_by by names sys)
  quasi_cost_once a b (inl (os, h, (u, x, e))) (inl (qs, k, (v, y, f))) =
      e ∙ ap₂ (λ i j. i + j) (ap (all_items_cost sys) (quasi_open_once sys os qs h k)) (trials.all_once u v x y) ∙ sym f
  quasi_cost_once a b (inl (os, h, x)) (inr (none, f)) = absurd (none os h)
  quasi_cost_once a b (inr (none, e)) (inl (qs, k, y)) = absurd (none qs k)
  quasi_cost_once a b (inr (none, e)) (inr (nor, f)) = e ∙ sym f

  quasi_has_cost : HasCost (quasi_space_by by names sys)
  quasi_has_cost none = none 0 (inr ((λ os h. trials.not_none (λ u x. none (all_items_cost sys os + u) (inl (os, h, (u, x, refl))))), refl))

  quasi_finds_once : FindsOnce (quasi_space_by by names sys)
  quasi_finds_once c d n m f g =
      let same = quasi_open_once sys g.overlaps f.overlaps g.is_open f.is_open in
      let entries = entries_once sys f.overlaps f.entries g.entries f.paid g.paid f.firsts (subst (λ z. AreFirsts (IsQuasiEntry sys) z g.entries g.paid) same g.firsts) in
      let measures = trials.found_once f.measure g.measure f.units g.units f.first g.first in (
        f.up_to ∙ ap₂ (λ i j. i + j) (ap (all_items_cost sys) (sym same)) measures.0 ∙ sym g.up_to,
        f.certificate ∙ ap₂ quasi_certificate measures.1 entries.1 ∙ sym g.certificate,
      )

  quasi_finds_within : (c : Certificate) (n m : ℕ) → IsQuasiFound by names sys c n → IsQuasiCost by sys m → n ≤ m
  quasi_finds_within c n m f (inl (os, h, (u, x, e))) =
      let same = ap (all_items_cost sys) (quasi_open_once sys f.overlaps os f.is_open h) in
      let less = trials.within f.measure f.units u f.first x in
      let up = f.up_to in omega (arith, same, less, up, e)
  quasi_finds_within c n m f (inr (none, e)) = absurd (none f.overlaps f.is_open)

  pub quasi_searchable : IsSearchable sys (quasi_space_by by names sys)
  quasi_searchable =
      record {
        searched = quasi_searched;
        finds_once = quasi_finds_once;
        finds_within = quasi_finds_within;
        costs_once = quasi_cost_once;
        has_cost = quasi_has_cost;
        has_price = has_price (quasi_space_by by names sys) quasi_cost_once quasi_has_cost quasi_finds_once;
      }

  -- where the space is not open, nothing is paid
  pub ends_closed : ((os : List Overlap) → IsQuasiOpen sys os → ⊥) → (left : ℕ) → MayEndLast (quasi_space_by by names sys) left 0 nothing
  ends_closed none left = ((λ c n f. none f.overlaps f.is_open), λ n x. omega arith)

  module _ (os : List Overlap) (is_open : IsQuasiOpen sys os) where
    firsts_of : (c : Certificate) (n : ℕ) (f : IsQuasiFound by names sys c n) → AreFirsts (IsQuasiEntry sys) os f.entries f.paid
    firsts_of c n f = subst (λ z. AreFirsts (IsQuasiEntry sys) z f.entries f.paid) (quasi_open_once sys f.overlaps os f.is_open is_open) f.firsts

    -- the cost of the space is that of the items, and of all measures
    cost_of_whole : (n : ℕ) → IsQuasiCost by sys n → (u : ℕ) × by.All u × (n ≡ all_items_cost sys os + u)
    cost_of_whole n (inl (qs, k, (u, x, e))) = (u, x, e ∙ ap (λ z. all_items_cost sys z + u) (quasi_open_once sys qs os k is_open))
    cost_of_whole n (inr (none, e)) = absurd (none os is_open)

    -- and the price of what is found that of the items, and of the measures up to the good one
    price_of : (c : Certificate) (n : ℕ) (f : IsQuasiFound by names sys c n) → n ≡ all_items_cost sys os + f.units
    price_of c n f = f.up_to ∙ ap (λ z. all_items_cost sys z + f.units) (quasi_open_once sys f.overlaps os f.is_open is_open)

    -- an overlap has no evidence
    pub ends_at_row : (left n : ℕ) → EndsAtRow (IsQuasiEntry sys) (items_cost sys) os n → MayEndLast (quasi_space_by by names sys) left n nothing
    ends_at_row left n h = (
      (λ c m f. row_has_none sys os n h f.entries f.paid (firsts_of c m f)),
      λ m x. (let most = row_within sys os n h in let e = (cost_of_whole m x).2 in omega (arith, most, e)),
    )

    -- the budget ends among the items of an overlap
    pub ends_in_row : (n : ℕ) → StopsInRow (IsQuasiEntry sys) (StopsAtQuasi sys) os n → MayEndLast (quasi_space_by by names sys) n n spent
    ends_in_row n s = (refl, dearer)
      where
        dearer : IsDearer (quasi_space_by by names sys) n
        dearer m (inl (c, f)) = let less = row_stopped_within sys os n s in let e = price_of c m f in omega (arith, less, e)
        dearer m (inr (b, x)) = let less = row_stopped_within sys os n s in let e = (cost_of_whole m x).2 in omega (arith, less, e)

    -- every overlap has evidence, and n was paid for the items
    module _ (es : List PairEntry) (n : ℕ) (h : AreFirsts (IsQuasiEntry sys) os es n) where
      pub ends_found : (left u : ℕ) (m : MeasureCertificate) → by.First m u → HasText names (quasi_certificate m es)
          → MayEndLast (quasi_space_by by names sys) left (n + u) (found (quasi_certificate m es))
      ends_found left u m f t = (
        all_items_cost sys os + u,
        record { overlaps = os; is_open = is_open; entries = es; paid = n; firsts = h; measure = m; units = u; first = f; certificate = refl; text = t; up_to = refl },
        let most = entries_within sys os es n h in omega (arith, most),
      )

      -- the text of the certificate with the first good measure is too long
      pub ends_too_long : (left u : ℕ) (m : MeasureCertificate) → by.First m u → (HasText names (quasi_certificate m es) → ⊥)
          → MayEndLast (quasi_space_by by names sys) left (n + u) nothing
      ends_too_long left u m f long = (bare, most_of)
        where
          bare : (c : Certificate) (k : ℕ) → IsQuasiFound by names sys c k → ⊥
          bare c k g =
              let measures = trials.found_once g.measure m g.units u g.first f in
              let entries = entries_once sys os g.entries es g.paid n (firsts_of c k g) h in
              long (subst (HasText names) (g.certificate ∙ ap₂ quasi_certificate measures.1 entries.1) g.text)

          most_of : (k : ℕ) → IsQuasiCost by sys k → n + u ≤ k
          most_of k x =
              let whole = cost_of_whole k x in
              let e = whole.2 in
              let paid = entries_within sys os es n h in
              let less = trials.within m u whole.0 f whole.1 in omega (arith, e, paid, less)

      -- no measure is good, and at most the units of the whole were paid for them
      pub ends_no_measure : (left v : ℕ) → ((u : ℕ) → by.All u → v ≤ u) → ((m : MeasureCertificate) (u : ℕ) → by.First m u → ⊥)
          → MayEndLast (quasi_space_by by names sys) left (n + v) nothing
      ends_no_measure left v most bare = (
        (λ c k g. bare g.measure g.units g.first),
        λ k x. (let whole = cost_of_whole k x in let e = whole.2 in let paid = entries_within sys os es n h in let less = most whole.0 whole.1 in omega (arith, e, paid, less)),
      )

      -- the budget ends among the measures: v was paid for them, and more would have to be
      pub ends_in_measures : (v : ℕ) → ((m : MeasureCertificate) (u : ℕ) → by.First m u → v < u) → ((u : ℕ) → by.All u → v < u)
          → MayEndLast (quasi_space_by by names sys) (n + v) (n + v) spent
      ends_in_measures v before_first before_all = (refl, dearer)
        where
          dearer : IsDearer (quasi_space_by by names sys) (n + v)
          dearer m (inl (c, f)) =
              let less = before_first f.measure f.units f.first in
              let paid = entries_within sys os es n h in
              let e = price_of c m f in omega (arith, less, paid, e)
          dearer m (inr (b, x)) =
              let whole = cost_of_whole m x in
              let less = before_all whole.0 whole.1 in
              let paid = entries_within sys os es n h in
              let e = whole.2 in omega (arith, less, paid, e)
