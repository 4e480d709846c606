-- Parts one behind another, with the places where they are refused.
use Rattle.cert_reading.proofs.Prelude.{inl, inr, codes, ◌≡◌, ◌≤◌, ℕ, suc, List, [], ◌∷◌, ◌++◌, None, IfSome, refl, subst, arith, NameTable, name_of}
use Rattle.cert_reading.proofs.Prelude.{Naming, Mark, Item, between, line, pairs_from, Version, Reading, told, IsStuckAt, Run}
use Rattle.cert_reading.proofs.Prelude.{IsStuckBehind, Reads, reads_as, stuck_where, sealed_stops, other_stop, Above}
use Rattle.cert_reading.proofs.Prelude.{framed_where, read_run, Place, ReadsWhere, Anywhere, lowest, IsBehind, AreBehind, WithinOpening}
use Rattle.cert_reading.proofs.Prelude.{WithinEntry, is_some, Bool, true, some_now, framed, then_reads, already}
pub use Rattle.cert_words.proofs.Walking.{stop_behind, other_stop, stopped_where, then_reads as then_where, as_reads as as_where, as_marks as as_marks_where}
pub use Rattle.cert_words.proofs.Walking.{then_nothing as then_nothing_where, open_before as open_before_where}

-- where the code has found that the text is refused
pub refused_reads : {P : Place} {names : NameTable} {end : ℕ} {from to other : List Item} {f g : Naming → List Mark} {s t : Reading} {b : Bool} → b ≡ is_some t.refused → b ≡ true
    → ReadsWhere P names end from f to s t → ReadsWhere P names end from g other s t
refused_reads e q x = let r = some_now e q in already r.0 r.1 x

-- what is read at the front of items, and what is read behind it
pub at_front : {names : NameTable} {end : ℕ} {i : Item} {more to : List Item} {f : Naming → List Mark} {s t : Reading} → Reads names end (i ∷ []) f to s t
    → Reads names end (i ∷ more) f (to ++ more) s t
at_front {more = more} x = framed more x

pub read_on : {names : NameTable} {end : ℕ} {i : Item} {more to after : List Item} {f g : Naming → List Mark} {s t u : Reading} → Reads names end (i ∷ []) f to s t
    → Reads names end (to ++ more) g after t u → Reads names end (i ∷ more) (λ v. f v ++ g v) after s u
read_on x y = then_reads (at_front x) y

module _ {P : Place} {names : NameTable} {end : ℕ} {s t : Reading} where
  -- a word
  word_at : {i : Item} {to : List Item} {f : Naming → List Mark} → (s.refused ≡ None → (t.refused ≡ None → ⊥) → P (i ∷ []) s.left.now)
      → (s.refused ≡ None → IfSome t.refused (λ e. IsStuckAt names end i s.left.now s.shares (told e))) → Reads names end (i ∷ []) f to s t → ReadsWhere P names end (i ∷ []) f to s t
  word_at {i} p h x = reads_as (λ q none r. r)
      (λ q e is r. stuck_where P names end i s.left.now s.shares (told e) (p q (λ none. let no = is in cc)) (rw is at (h q))) x

  pub word_where : {i : Item} {to : List Item} {f : Naming → List Mark} → ((t.refused ≡ None → ⊥) → P (i ∷ []) s.left.now)
      → (s.refused ≡ None → IfSome t.refused (λ e. IsStuckAt names end i s.left.now s.shares (told e))) → Reads names end (i ∷ []) f to s t → ReadsWhere P names end (i ∷ []) f to s t
  word_where p h x = word_at (λ none some. p some) h x

  -- a word behind what is not refused
  pub word_behind : {i : Item} {to : List Item} {f : Naming → List Mark} → (s.refused ≡ None → P (i ∷ []) s.left.now)
      → (s.refused ≡ None → IfSome t.refused (λ e. IsStuckAt names end i s.left.now s.shares (told e))) → Reads names end (i ∷ []) f to s t → ReadsWhere P names end (i ∷ []) f to s t
  word_behind p h x = word_at (λ none some. p none) h x

  -- a word that is judged behind others
  pub sealed_where : {i : Item} {from to : List Item} {f g : Naming → List Mark} {a : Reading} → P (i ∷ []) s.left.now
      → s.refused ≡ None → IfSome t.refused (λ e. IsStuckBehind names end i (f (name_of names)) a.left.now s.left.now a.shares (told e)) → Reads names end from f (i ∷ []) a s
      → Reads names end from g to a t → ReadsWhere P names end from g to a t
  sealed_where {i} {from} {f = f} {a = a} p none h x y = reads_as (λ q none r. r)
      (λ q e is r. sealed_stops P names end from i f a.left.now s.left.now a.shares s.shares (told e) p (read_run none x) (rw is at h)) y

  -- a part with an item below it
  pub low_where : {from to : List Item} {f : Naming → List Mark} (low : Item) → ((i : Item) (m : List Item) (q : List ℕ) → P (i ∷ (m ++ low ∷ [])) q) → Reads names end from f to s t
      → ReadsWhere P names end (from ++ low ∷ []) f (to ++ low ∷ []) s t
  low_where low p x = framed_where (low ∷ []) (λ i m q h. p i m q) x

  -- at a place of which less is said
  pub elsewhere : {Q : Place} {from to : List Item} {f : Naming → List Mark} → ((items : List Item) (q : List ℕ) → P items q → Q items q) → ReadsWhere P names end from f to s t
      → ReadsWhere Q names end from f to s t
  elsewhere {Q} {from} g x = reads_as (λ q none r. r)
      (λ q e is r items. other_stop (Above P items) (Above Q items) (λ is b k. (k.0, k.1, k.2, g (k.0 ∷ k.1) b k.3)) names end (from ++ items) s.left.now s.shares (told e) (r items)) x

  pub anywhere : {from to : List Item} {f : Naming → List Mark} → ReadsWhere P names end from f to s t → ReadsWhere Anywhere names end from f to s t
  anywhere x = elsewhere (λ items q h. tt) x

  -- what is known of a reading that began with nothing refused
  pub ran : {from to : List Item} {f : Naming → List Mark} → s.refused ≡ None → t.refused ≡ None → ReadsWhere P names end from f to s t
      → Run names end from f to s.left.now t.left.now s.shares t.shares
  ran p q x = read_run q x

-- ---- the places

lowest_is : (i : Item) (m : List Item) (low : Item) → lowest i (m ++ low ∷ []) ≡ low
lowest_is i [] low = refl
lowest_is i (j ∷ m) low = lowest_is j m low

behind_some : (i j : Item) (m : List Item) (low : Item) → i ∷ (m ++ low ∷ []) ≡ j ∷ [] → ⊥
behind_some i j [] low e = cc
behind_some i j (k ∷ m) low e = cc

low_early : (v : Version) (n : ℕ) (low : Item) → (IsBehind v n low → ⊥) → (i : Item) (m : List Item) → AreBehind v n (i ∷ (m ++ low ∷ [])) → ⊥
low_early v n low e i m (inl h) = e (subst (IsBehind v n) (lowest_is i m low) h)
low_early v n low e i m (inr s) = behind_some i (between line) m low s

pub low_unopened : (v : Version) (low : Item) → (IsBehind v 1 low → ⊥) → (i : Item) (m : List Item) (q : List ℕ) → WithinOpening v (i ∷ (m ++ low ∷ [])) q
low_unopened v low e i m q = record { early = λ h. low_early v 1 low e i m h; closed = λ j s h b. behind_some i j m low s }

pub low_entry : (v : Version) (n : ℕ) (b : List ℕ) (low : Item) → (IsBehind v (suc n) low → ⊥) → (i : Item) (m : List Item) (q : List ℕ) → WithinEntry v n b (i ∷ (m ++ low ∷ [])) q
low_entry v n b low e i m q = record { early = λ h. absurd (low_early v (suc n) low e i m h); going = λ s. behind_some i (pairs_from v (suc n)) m low s }

same_number : (v : Version) (n m : ℕ) → pairs_from v n ≡ pairs_from v m → n ≡ m
same_number v n m e = cc

pub pair_later : (v : Version) (n m : ℕ) → n ≤ m → IsBehind v m (pairs_from v n) → ⊥
pair_later v n m le h = let same : n ≡ h.0 = same_number v n h.0 h.1 in let less = h.2 in omega (arith, le, same, less)

-- behind the word of the last line
pub line_entry : (v : Version) (n : ℕ) (b q : List ℕ) → b ≡ codes "end" ++ q → WithinEntry v n b (between line ∷ []) q
line_entry v n b q text = record { early = λ h. text; going = λ e. cc }

first_early : (v : Version) (n : ℕ) → AreBehind v (suc n) (pairs_from v n ∷ []) → ⊥
first_early v n (inl h) = pair_later v n (suc n) (omega arith) h
first_early v n (inr s) = cc

pub first_entry : (v : Version) (n : ℕ) (b q : List ℕ) → WithinEntry v n b (pairs_from v n ∷ []) q
first_entry v n b q = record { early = λ h. absurd (first_early v n h); going = λ e. let same : n ≡ suc n = cc in absurd (omega (arith, same)) }
