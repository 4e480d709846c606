-- The words of an opening, which are refused where they stand.
use Rattle.cert_reading.proofs.Prelude.{◌≡◌, inl, inr, ◌<◌, ◌==◌, ℕ, zero, suc, Bool, true, false, List, [], ◌∷◌, ◌++◌, Option, Some, None, codes, IfSome, refl, sym, subst}
use Rattle.cert_reading.proofs.Prelude.{arith, eqb-true, NameTable, Version, first_version, second_version, Item, Lead, pair_or_end, heading}
use Rattle.cert_reading.proofs.Prelude.{shared_line, body, between, line, any_number, pairs_from, entries_from, heads_from, measured_name, measured_condition, head_name, coefficients_behind}
use Rattle.cert_reading.proofs.Prelude.{is_there, first_there, behind_automata, BeginsEntry, CertError, Reading, told, Choice, IsStuckAt}
use Rattle.cert_reading.proofs.Prelude.{ReadsWhere, IsBehind, AreBehind, BeginsList, BeforeEntries, WithinOpening, item_by, SymbolAt, Kind, Ortho}
use Rattle.cert_reading.proofs.Prelude.{Quasi, Peak, Reads, Naming, Mark, length}
use Rattle.cert_reading.proofs.Prelude.{Chosen, already, length, ◌≤◌}
use Rattle.cert_reading.proofs.Stopping.{word_where, low_unopened, pair_later}

-- ---- places within an opening

pub same_item : (i j : Item) → i ∷ [] ≡ j ∷ [] → i ≡ j
same_item i j e = cc

-- an item that is neither the end of a line nor a list
abbrev pub IsOther : Item → Type 0
IsOther (between b) = ⊥
IsOther (pairs_from v n) = ⊥
IsOther (entries_from v n) = ⊥
IsOther (heads_from n) = ⊥
IsOther i = Unit {0}

no_list : (v : Version) (i : Item) → IsOther i → BeginsList v i → ⊥
no_list first_version i o (inl h) = subst IsOther h.1 o
no_list first_version i o (inr h) = subst IsOther h.1 o
no_list second_version i o (inl h) = subst IsOther h.1 o
no_list second_version i o (inr (inl h)) = subst IsOther h.1 o
no_list second_version i o (inr (inr h)) = subst IsOther h.1 o

alone_early : (v : Version) (i : Item) → (i ≡ between line → ⊥) → (IsBehind v 1 i → ⊥) → AreBehind v 1 (i ∷ []) → ⊥
alone_early v i end pairs (inl h) = pairs h
alone_early v i end pairs (inr s) = end (same_item i (between line) s)

pub other_place : (i : Item) (q : List ℕ) → IsOther i → BeforeEntries (i ∷ []) q
other_place i q o = λ v. record { early = alone_early v i (λ e. subst IsOther e o) (λ h. subst IsOther h.1 o); closed = λ j e h b. no_list v j (subst IsOther (same_item i j e) o) h }

pub other_word : {names : NameTable} {end : ℕ} {i : Item} {to : List Item} {f : Naming → List Mark} {s t : Reading} → IsOther i
    → (s.refused ≡ None → IfSome t.refused (λ e. IsStuckAt names end i s.left.now s.shares (told e))) → Reads names end (i ∷ []) f to s t → ReadsWhere BeforeEntries names end (i ∷ []) f to s t
other_word {i = i} o h x = word_where (λ some. other_place i _ o) h x

pub other_below : (low : Item) → IsOther low → (i : Item) (m : List Item) (q : List ℕ) → BeforeEntries (i ∷ (m ++ low ∷ [])) q
other_below low o i m q = λ v. low_unopened v low (λ h. subst IsOther h.1 o) i m q

pub automata_other : (n : ℕ) (given : Option Bool) → IsOther (behind_automata n given)
automata_other zero given = tt
automata_other (suc n) given = tt

-- a list, where no overlap and no last line may begin
list_item : (v : Version) (i : Item) (q : List ℕ) → (i ≡ between line → ⊥) → (IsBehind v 1 i → ⊥) → (BeginsEntry q → ⊥) → WithinOpening v (i ∷ []) q
list_item v i q end pairs other = record { early = alone_early v i end pairs; closed = λ j e h b. other b }

pub pairs_item : (v : Version) (q : List ℕ) → (BeginsEntry q → ⊥) → WithinOpening v (pairs_from v 1 ∷ []) q
pairs_item v q other = list_item v (pairs_from v 1) q (λ e. cc) (pair_later v 1 1 (omega arith)) other

pub kind_item : (v w : Version) (k : Kind) → IsBehind w 1 (item_by v k) → ⊥
kind_item v w Ortho h = let e = h.1 in let less = h.2 in by h.0 e less
  where
    by : (m : ℕ) → pairs_from v 1 ≡ pairs_from w m → 1 < m → ⊥
    by m q l = let same : 1 ≡ m = cc in omega (arith, l, same)
kind_item v w Quasi h = let e = h.1 in cc
kind_item v w Peak h = let e = h.1 in cc

-- ---- the symbols of a measure

pub entry_at : (v : Version) (n : ℕ) → SymbolAt v n (entries_from v n) (entries_from v (suc n)) (coefficients_behind 0)
entry_at v n = record {
  name = measured_name;
  condition = measured_condition;
  are_leads = refl;
  name_leads = refl;
  condition_leads = refl;
  place = λ q other. list_item v (entries_from v n) q (λ e. cc) (λ h. let e = h.1 in cc) other;
  later = λ h. let e = h.1 in cc;
}

pub head_at : (n : ℕ) → SymbolAt second_version n (heads_from n) (heads_from (suc n)) (between line)
head_at n = record {
  name = head_name;
  condition = any_number line;
  are_leads = refl;
  name_leads = refl;
  condition_leads = refl;
  place = λ q other. list_item second_version (heads_from n) q (λ e. cc) (λ h. let e = h.1 in cc) other;
  later = λ h. let e = h.1 in cc;
}

-- ---- the words

-- what is chosen past the last text
pub past : (names : NameTable) (end : ℕ) (i : Item) (cs : List Choice) (r : ℕ) (s t : Reading) (to : List Item) (marks : Naming → List Mark) → length cs ≤ r
    → Chosen names end i cs r s t → Reads names end (i ∷ []) marks to s t
past names end i [] r s t to marks h x = already x.0 x.1 x.2
past names end i (c ∷ cs) zero s t to marks h x = absurd (omega (arith, h))
past names end i (c ∷ cs) (suc r) s t to marks h x = past names end i cs r s t to marks (omega (arith, h)) x

abbrev pub first_lines : List Choice
first_lines = record { bytes = codes "YES\n"; items = heading (Some true) ∷ [] } ∷ record { bytes = codes "NO\n"; items = heading (Some false) ∷ [] }
    ∷ record { bytes = codes "concon 1\n"; items = body first_version None ∷ [] } ∷ record { bytes = codes "concon 2\n"; items = shared_line None ∷ [] } ∷ []

abbrev pub versions : Option Bool → List Choice
versions given = record { bytes = codes "concon 1\n"; items = body first_version given ∷ [] } ∷ record { bytes = codes "concon 2\n"; items = shared_line given ∷ [] } ∷ []

abbrev pub linear_line : Version → Choice
linear_line v = record { bytes = codes "linear\n"; items = entries_from v 1 ∷ [] }

abbrev pub order_line : Choice
order_line = record { bytes = codes "lpo\n"; items = heads_from 1 ∷ [] }

pub none_refused : (s : Reading) (P : CertError → Type 0) → s.refused ≡ None → IfSome s.refused P
none_refused s P e = subst (λ (o : Option CertError). IfSome o P) (sym e) tt

-- ---- where no overlap and no last line may begin

pub none_begins : (v : Version) (n : ℕ) (bytes : List ℕ) → (BeginsEntry bytes → ⊥) → first_there (pair_or_end v n) bytes ≡ None
none_begins v n [] other = refl
none_begins v n (b ∷ bytes) other = by (112 == b) refl (101 == b) refl
  where
    by : (p : Bool) → (112 == b) ≡ p → (e : Bool) → (101 == b) ≡ e → first_there (pair_or_end v n) (b ∷ bytes) ≡ None
    by true p e q = absurd (other (inl (sym (eqb-true 112 b p))))
    by false p true q = absurd (other (inr (sym (eqb-true 101 b q))))
    by false p false q = rw (p, q) refl

pub none_of_entries : (v : Version) (n : ℕ) (bytes : List ℕ) (fun aux : Lead) → is_there fun bytes ≡ false → is_there aux bytes ≡ false → (BeginsEntry bytes → ⊥)
    → first_there (fun ∷ aux ∷ pair_or_end v n) bytes ≡ None
none_of_entries v n bytes fun aux f a other = rw f (rw a (none_begins v n bytes other))
