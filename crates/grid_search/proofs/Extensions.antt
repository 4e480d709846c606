-- What extends a prefix, and the columns that its entries are from.
use Rattle.std.proofs.Common.{ℕ, zero, suc, ◌≡◌, List, [], ◌∷◌, ◌++◌, map, zip, slice_get, Some, refl, sym, ap, ap₂}
use Rattle.rewriting.specs.Prelude.{IsAmong, Signature, Head}
use Rattle.rewriting.proofs.Lists.{among_of_map}
use Rattle.certificates.specs.Certificates.{LinearEntry}
use Rattle.interpretations.specs.Linear.{Interpretation}
use Rattle.measure_grid.specs.Grid.{choices, ranges, entries_of}
use Rattle.measure_grid.specs.Pruned.{Prefix, extended}
use Rattle.measure_grid.proofs.Grid.{node}

-- what a list of images is split into
record IsSplit {X Y : Type 0} (f : X → Y) (xs : List X) (y : Y) (behind : List Y) : Type 0 where
  left : List X
  middle : X
  right : List X
  split : xs ≡ left ++ middle ∷ right
  here : y ≡ f middle
  there : behind ≡ map f right

split_further : {X Y : Type 0} (f : X → Y) (x : X) (xs : List X) (y : Y) (behind : List Y) → IsSplit f xs y behind → IsSplit f (x ∷ xs) y behind
split_further f x xs y behind h =
    record { left = x ∷ h.left; middle = h.middle; right = h.right; split = ap (λ zs. x ∷ zs) h.split; here = h.here; there = h.there }

split_images : {X Y : Type 0} (f : X → Y) (xs : List X) (before : List Y) (y : Y) (behind : List Y) → map f xs ≡ before ++ y ∷ behind → IsSplit f xs y behind
split_images f [] [] y behind e = absurd (cc)
split_images f [] (z ∷ before) y behind e = absurd (cc)
split_images f (x ∷ xs) [] y behind e = record { left = []; middle = x; right = xs; split = refl; here = cc; there = cc }
split_images f (x ∷ xs) (z ∷ before) y behind e = split_further f x xs y behind (split_images f xs before y behind (cc))

-- by an entry of the next column
pub record IsExtension (es : Interpretation) (lists : List (List LinearEntry)) (p : Prefix) (others : List Prefix) : Type 0 where
  pub column : List LinearEntry
  pub further : List (List LinearEntry)
  pub left : List LinearEntry
  pub entry : LinearEntry
  pub right : List LinearEntry
  pub is_next : lists ≡ column ∷ further
  pub split : column ≡ left ++ entry ∷ right
  pub here : p ≡ node (es ++ entry ∷ []) further
  pub there : others ≡ map (λ e. node (es ++ e ∷ []) further) right

pub extension : (es : Interpretation) (lists : List (List LinearEntry)) (before : List Prefix) (p : Prefix) (behind : List Prefix) → extended es lists ≡ before ++ p ∷ behind
    → IsExtension es lists p behind
extension es [] [] p behind e = absurd (cc)
extension es [] (q ∷ before) p behind e = absurd (cc)
extension es (column ∷ further) before p behind e =
    let at = split_images (λ e. node (es ++ e ∷ []) further) column before p behind e in
    record { column = column; further = further; left = at.left; entry = at.middle; right = at.right; is_next = refl; split = at.split; here = at.here; there = at.there }

-- the column of a symbol, and what it has
pub column_at : (hs : List Head) (ns : Signature) (k : ℕ) (head : Head) (n : ℕ) → slice_get hs k ≡ Some head → slice_get ns k ≡ Some n
    → slice_get (map entries_of (zip hs ns)) k ≡ Some (entries_of (head, n))
column_at [] ns k head n e f = absurd (cc)
column_at (h ∷ hs) [] k head n e f = absurd (cc)
column_at (h ∷ hs) (m ∷ ns) zero head n e f =
    let same_head : h ≡ head = cc in
    let same_count : m ≡ n = cc in
    ap₂ (λ (x : Head) (y : ℕ). Some (entries_of (x, y))) same_head same_count
column_at (h ∷ hs) (m ∷ ns) (suc k) head n e f = column_at hs ns k head n e f

pub column_is : (ps : List (Head × ℕ)) (k : ℕ) (column : List LinearEntry) → slice_get (map entries_of ps) k ≡ Some column → (head : Head) × (n : ℕ) × (column ≡ entries_of (head, n))
column_is [] k column e = absurd (cc)
column_is ((head, n) ∷ ps) zero column e = (head, n, cc)
column_is ((head, n) ∷ ps) (suc k) column e = column_is ps k column e

pub head_of : (head : Head) (n : ℕ) (e : LinearEntry) → IsAmong e (entries_of (head, n)) → head ≡ e.head
head_of head n e h =
    let at = among_of_map {Y = LinearEntry} (λ (numbers : List ℕ). record { head = head; coefficients = numbers }) e (choices (ranges head n)) h in
    sym (ap (λ (z : LinearEntry). z.head) at.2)
