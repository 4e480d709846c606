-- Behind the entries of a measure, where an overlap or the last line begins, the text goes on as behind nothing.
use Rattle.cert_grammar.specs.Prelude.{Step}
use Rattle.cert_reading.proofs.Prelude.{◌≡◌, inl, inr, ℕ, List, [], ◌∷◌, codes, max, arith, Option, Some, None, refl, sym, ap, ◌∙◌, subst, NameTable, name_of, CertificateCause, Naming}
use Rattle.cert_reading.proofs.Prelude.{Mark, Item, Lead, keyword, leads, pair_or_end, pairs_from, space, between, any_number, Version, is_few, entries, first_there, longest, Left}
use Rattle.cert_reading.proofs.Prelude.{accepts, refuses, goes_on, step, Shared, behind_marks, PassShares, after_step, shared_step, with_begun, BeginsEntry, left_at, Walks, Run}
use Rattle.cert_reading.proofs.Prelude.{RefusesAt, SymbolAt, Place, StopsWhere, IsStoppedWhere}

zero_most : (x : ℕ) → max 0 (max 0 x) ≡ x
zero_most x = omega arith

-- the leads of a symbol's line are not there
abbrev pub AreSame : Version → List Lead → List ℕ → Type 0
AreSame v ls b = (first_there ls b ≡ first_there (pair_or_end v 1) b) × (longest ls b ≡ longest (pair_or_end v 1) b)

abbrev pub IsSame : Version → Item → List ℕ → Type 0
IsSame v i b = AreSame v (leads i) b

abbrev symbol_leads : Version → ℕ → List Item → List Item → List Lead
symbol_leads v n fun aux = keyword (codes "fun") (is_few entries n ∷ []) fun ∷ keyword (codes "aux") (is_few entries n ∷ []) aux ∷ pair_or_end v 1

leads_same : (v : Version) (n : ℕ) (fun aux : List Item) (b : List ℕ) → BeginsEntry b → AreSame v (symbol_leads v n fun aux) b
leads_same v n fun aux [] h = absurd h
leads_same v n fun aux (x ∷ b) (inl e) = subst (λ (y : ℕ). AreSame v (symbol_leads v n fun aux) (y ∷ b)) (sym e) (refl, zero_most (longest (pair_or_end v 1) (112 ∷ b)))
leads_same v n fun aux (x ∷ b) (inr e) = subst (λ (y : ℕ). AreSame v (symbol_leads v n fun aux) (y ∷ b)) (sym e) (refl, zero_most (longest (pair_or_end v 1) (101 ∷ b)))

pub symbol_same : (v : Version) (n : ℕ) (i low behind : Item) → SymbolAt v n i low behind → (b : List ℕ) → BeginsEntry b → IsSame v i b
symbol_same v n i low behind s b h = subst (λ (ls : List Lead). AreSame v ls b) (sym s.are_leads)
    (leads_same v n (between space ∷ s.name ∷ low ∷ []) (between space ∷ any_number space ∷ s.condition ∷ low ∷ []) b h)

module _ (names : NameTable) (end : ℕ) (v : Version) (symbol : Item) (b : List ℕ) (same : IsSame v symbol b) where
  step_same : (items : List Item) → step names (left_at end (symbol ∷ items) b) ≡ step names (left_at end (pairs_from v 1 ∷ items) b)
  step_same items = by (first_there (pair_or_end v 1) b) refl
    where
      by : (x : Option Lead) → first_there (pair_or_end v 1) b ≡ x → step names (left_at end (symbol ∷ items) b) ≡ step names (left_at end (pairs_from v 1 ∷ items) b)
      by None e = rw (same.0, e, same.1) refl
      by (Some a) e = rw (same.0, e) refl

  after_same : (items : List Item) (z : Shared) (o : Option Lead) (x : Step) → after_step (left_at end (symbol ∷ items) b) z o x ≡ after_step (left_at end (pairs_from v 1 ∷ items) b) z o x
  after_same items z o accepts = refl
  after_same items z o (refuses e at) = refl
  after_same items z None (goes_on k) = refl
  after_same items z (Some a) (goes_on k) = refl

  shared_same : (items : List Item) (z : Shared) → shared_step names (left_at end (symbol ∷ items) b) z ≡ shared_step names (left_at end (pairs_from v 1 ∷ items) b) z
  shared_same items z =
      ap (λ (o : Option Lead). after_step (left_at end (symbol ∷ items) b) z o (step names (left_at end (symbol ∷ items) b))) same.0
      ∙ ap (after_step (left_at end (symbol ∷ items) b) z (first_there (pair_or_end v 1) b)) (step_same items) ∙ after_same items z (first_there (pair_or_end v 1) b)
      (step names (left_at end (pairs_from v 1 ∷ items) b))

  walk_same : (ms : List Mark) (items : List Item) (k : Left) → (ms ≡ [] → ⊥) → Walks names ms (left_at end (pairs_from v 1 ∷ items) b) k → Walks names ms (left_at end (symbol ∷ items) b) k
  walk_same [] items k some w = absurd (some refl)
  walk_same (m ∷ ms) items k some w =
      let s = w.1 in
      let first : first_there (leads symbol) b ≡ Some s.lead = (let e : s.item ≡ pairs_from v 1 = (let is = s.items in cc) in same.0 ∙ (rw e at s.first)) in
      (w.0, record { item = symbol; others = items; items = refl; lead = s.lead; first = first; mark = s.mark; goes = step_same items ∙ s.goes }, w.2)

  stop_same : (P : Place) (ms : List Mark) (items : List Item) (i : Item) (more : List Item) (rest : List ℕ) (sa : Shared) (e : CertificateCause × ℕ) → P (symbol ∷ items) b
      → Walks names ms (left_at end (pairs_from v 1 ∷ items) b) (left_at end (i ∷ more) rest)
      → ((k : List ℕ) → PassShares (with_begun k sa) ms × RefusesAt names (left_at end (i ∷ more) rest) (behind_marks ms (with_begun k sa)) e) → P (i ∷ more) rest
      → StopsWhere P names end (symbol ∷ items) b sa e
  stop_same P [] items i more rest sa e p w r q = record {
    marks = [];
    item = symbol;
    more = items;
    rest = b;
    walks = refl;
    stops = λ k. (tt, shared_same items (with_begun k sa) ∙ ap (λ (l : Left). shared_step names l (with_begun k sa)) w ∙ (r k).1);
    place = p;
  }
  stop_same P (m ∷ ms) items i more rest sa e p w r q = record { marks = m ∷ ms; item = i; more = more; rest = rest; walks = walk_same (m ∷ ms) items _ (λ x. cc) w; stops = r; place = q }

  pub symbol_stopped : (P : Place) (items : List Item) (sa : Shared) (t : Option (CertificateCause × ℕ)) → P (symbol ∷ items) b → IsStoppedWhere P names end (pairs_from v 1 ∷ items) b sa t
      → IsStoppedWhere P names end (symbol ∷ items) b sa t
  symbol_stopped P items sa None p x = tt
  symbol_stopped P items sa (Some e) p x = λ le. let there = x le in stop_same P there.marks items there.item there.more there.rest sa e p there.walks there.stops there.place

  pub symbol_run : (f : Naming → List Mark) (to : List Item) (r : List ℕ) (sa sb : Shared) → (f (name_of names) ≡ [] → ⊥) → Run names end (pairs_from v 1 ∷ []) f to b r sa sb
      → Run names end (symbol ∷ []) f to b r sa sb
  symbol_run f to r sa sb some x = record { walks = λ le items. walk_same (f (name_of names)) items _ some (x.walks le items); found = x.found; shares = x.shares }
