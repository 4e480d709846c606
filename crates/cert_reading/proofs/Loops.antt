-- Loops that read one part after another.
use Rattle.cert_reading.proofs.Prelude.{◌≡◌, ◌+◌, ℕ, suc, List, [], ◌∷◌, ◌++◌, length, map, refl, sym, ap, ◌∙◌, arith, Naming, Mark, ◌<◌, None, NameTable, Item, Reading, Place, ReadsWhere, Reads}
use Rattle.cert_reading.proofs.Prelude.{then_reads, as_marks, ◌≤◌, ◌-◌, length-map, then_nothing, length_push, as_reads, append_assoc, append-nil, Option, Some, CertError}
use Rattle.cert_reading.proofs.Stopping.{then_where, as_where}

pub length_grown : {A : Type 0} (done : List A) {after : List A} (a : A) → after ≡ done ++ a ∷ [] → length after ≡ length done + 1
length_grown done a e = ap length e ∙ length_push done a

pub counted_more : {A B : Type 0} (f : A → B) (done : List A) {after : List A} (a : A) {k : ℕ} → after ≡ done ++ a ∷ [] → length (map f done) ≡ k → length (map f after) ≡ k + 1
counted_more f done {after} a e h = let n = length_grown done a e in omega (arith, h, n, length-map after f, length-map done f)

-- ---- the marks of a list, with one item more

pub push : {B : Type 0} (marks : ℕ → List B → List Mark) (one : ℕ → B → List Mark) → ((n : ℕ) → marks n [] ≡ []) → ((n : ℕ) (b : B) (bs : List B) → marks n (b ∷ bs) ≡ one n b ++ marks (suc n) bs)
    → (n m : ℕ) (done : List B) (b : B) → m ≡ n + length done → marks n done ++ one m b ≡ marks n (done ++ b ∷ [])
push marks one none more n m [] b e = let q : m ≡ n = omega (arith, e) in rw (q, none n, more n b [], none (suc n)) (sym (append-nil (one n b)))
push marks one none more n m (x ∷ done) b e =
    rw (more n x done, append_assoc, more n x (done ++ b ∷ [])) (ap (λ (ms : List Mark). one n x ++ ms) (push marks one none more (suc n) m done b (omega (arith, e))))

pub pushed : {B : Type 0} (marks : List B → List Mark) (one : B → List Mark) → marks [] ≡ [] → ((b : B) (bs : List B) → marks (b ∷ bs) ≡ one b ++ marks bs) → (done : List B) (b : B)
    → marks done ++ one b ≡ marks (done ++ b ∷ [])
pushed marks one none more done b = push (λ n. marks) (λ n. one) (λ n. none) (λ n. more) 0 (length done) done b (omega arith)

-- ---- of so many parts that are left, one is next, or none

pub left_next : {A : Type 0} (left : ℕ → A) (n k : ℕ) → k < n → left (n - k) ≡ left (suc (n - (k + 1)))
left_next left n k h = let e : n - k ≡ suc (n - (k + 1)) = omega (arith, h) in ap left e

pub left_end : {A : Type 0} (left : ℕ → A) (n k : ℕ) → n ≤ k → left (n - k) ≡ left 0
left_end left n k h = let e : n - k ≡ 0 = omega (arith, h) in ap left e

module _ {names : NameTable} {end : ℕ} {from : List Item} {f : Naming → List Mark} {s t : Reading} (left : ℕ → List Item) (n k : ℕ) where
  pub one_more : {g h : Naming → List Mark} {u v : Reading} → k < n → (v.refused ≡ None → (x : Naming) → f x ++ g x ≡ h x) → Reads names end from f (left (n - k)) s t
      → Reads names end (left (suc (n - (k + 1)))) g (left (n - (k + 1))) t u → Reads names end (left (n - (k + 1))) (λ x. []) (left (n - (k + 1))) u v
      → Reads names end from h (left (n - (k + 1))) s v
  one_more less same before part put = as_marks same (then_reads (as_reads (λ none. (left_next left n k less, λ x. refl)) before) (then_nothing part put))

  pub none_left : n ≤ k → Reads names end from f (left (n - k)) s t → Reads names end from f (left 0) s t
  none_left more x = as_reads (λ none. (left_end left n k more, λ x. refl)) x

-- ---- a part that is numbered

grown_so : {B : Type 0} (item : ℕ → Item) (marks : Naming → List B → List Mark) (done : List B) {after : List B} (b : B) (g : Naming → List Mark) → after ≡ done ++ b ∷ []
    → ((x : Naming) → marks x done ++ g x ≡ marks x (done ++ b ∷ []))
    → (◌≡◌ {A = List Item} (item (suc (length done)) ∷ []) (item (length after) ∷ [])) × ((x : Naming) → marks x done ++ g x ≡ marks x after)
grown_so item marks done {after} b g e same = (
  let long = length_grown done b e in let more : suc (length done) ≡ length after = omega (arith, long) in ap (λ (j : ℕ). item j ∷ []) more,
  λ x. same x ∙ ap (marks x) (sym e),
)

module _ {names : NameTable} {end : ℕ} {from : List Item} {s t u : Reading} {B : Type 0} (item : ℕ → Item) (marks : Naming → List B → List Mark) (done : List B) {after : List B} (b : B)
    {g : Naming → List Mark} (grown : u.refused ≡ None → after ≡ done ++ b ∷ []) (same : u.refused ≡ None → (x : Naming) → marks x done ++ g x ≡ marks x (done ++ b ∷ [])) where
  pub next_reads : Reads names end from (λ x. marks x done) (item (length done) ∷ []) s t → Reads names end (item (length done) ∷ []) g (item (suc (length done)) ∷ []) t u
      → Reads names end from (λ x. marks x after) (item (length after) ∷ []) s u
  next_reads before part = as_reads (λ none. grown_so item marks done b g (grown none) (same none)) (then_reads before part)

  pub next_where : {P : Place} → ReadsWhere P names end from (λ x. marks x done) (item (length done) ∷ []) s t
      → ReadsWhere P names end (item (length done) ∷ []) g (item (suc (length done)) ∷ []) t u → ReadsWhere P names end from (λ x. marks x after) (item (length after) ∷ []) s u
  next_where before part = as_where (λ none. grown_so item marks done b g (grown none) (same none)) (then_where before part)

-- how many more there can be, if nothing is refused
abbrev pub room : ℕ → ℕ → Option CertError → ℕ
room most k None = suc (most - k)
room most k (Some e) = 0

pub room_less : (most k j : ℕ) (s t : Option CertError) → s ≡ None → (t ≡ None → (j ≡ k + 1) × (k < most)) → room most j t < room most k s
room_less most k j s None e h = let x = h refl in rw e (omega (arith, x.0, x.1))
room_less most k j s (Some d) e h = rw e (omega arith)
