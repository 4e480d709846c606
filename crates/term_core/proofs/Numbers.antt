-- Variables that are numbered one after another.
use Rattle.std.proofs.Common.{◌≡◌, ℕ, zero, suc, ◌+◌, ◌<◌, ◌≤◌, ◌^◌, Bool, true, false, nat_eq, eq-eqb, if◌then◌else◌, ◌||◌, List, [], ◌∷◌, ◌++◌, length, refl, sym, ap, ◌∙◌, subst}
use Rattle.std.proofs.Common.{arith, append_assoc, Option, None, Some, IfNone}
use Rattle.std.proofs.lemmas.Bool.{ne_eqb}
use Rattle.std.proofs.lemmas.List.{append-nil}
use Rattle.std.specs.List.{list_any}
use Rattle.rewriting.specs.Prelude.{Term, Terms, var, app, nil, cons, with_new, with_variables, with_variables_of, CountsFrom}
use Rattle.term_core.specs.Numbering.{numbers_from, AreFirst}

pub length-numbers_from : (k n : ℕ) → length (numbers_from k n) ≡ n
length-numbers_from k zero = refl
length-numbers_from k (suc n) = ap suc (length-numbers_from (suc k) n)

has_step : (x k : ℕ) (rest : Bool) (b : Bool) → nat_eq x k ≡ b → ((x ≡ k → ⊥) → rest ≡ true) → (b || rest) ≡ true
has_step x k rest true e h = refl
has_step x k rest false e h = h (λ same. (let yes : nat_eq x k ≡ true = eq-eqb x k same in cc))

has : (x k n : ℕ) → k ≤ x → x < k + n → list_any (nat_eq x) (numbers_from k n) ≡ true
has x k zero h l = absurd (omega arith)
has x k (suc n) h l =
    has_step x k (list_any (nat_eq x) (numbers_from (suc k) n)) (nat_eq x k) refl (λ apart. has x (suc k) n (other apart) (omega arith))
  where
    other : (x ≡ k → ⊥) → suc k ≤ x
    other apart = grind (arith, apart)

lacks : (x k n : ℕ) → k + n ≤ x → list_any (nat_eq x) (numbers_from k n) ≡ false
lacks x k zero h = refl
lacks x k (suc n) h =
    let apart : nat_eq x k ≡ false = ne_eqb x k (λ e. omega (arith, e)) in
    rw apart (lacks x (suc k) n (omega arith))

ends : (k n x : ℕ) → x ≡ k + n → numbers_from k n ++ x ∷ [] ≡ numbers_from k (suc n)
ends k zero x e = (let same : x ≡ k = omega arith in ap (λ y. y ∷ []) same)
ends k (suc n) x e = ap (λ q. k ∷ q) (ends (suc k) n x (omega arith))

-- a variable that is known changes nothing, the next number is put last
with_known : (n x : ℕ) → x < n → with_new (numbers_from 0 n) x ≡ numbers_from 0 n
with_known n x h = rw (has x 0 n (omega arith) (omega arith)) refl

with_next : (n x : ℕ) → n ≤ x → with_new (numbers_from 0 n) x ≡ numbers_from 0 n ++ x ∷ []
with_next n x h = rw (lacks x 0 n (omega arith)) refl

with_new-next : (n x : ℕ) → x ≡ n → with_new (numbers_from 0 n) x ≡ numbers_from 0 (n + 1)
with_new-next n x e = (let more : suc n ≡ n + 1 = omega arith in with_next n x (omega arith) ∙ ends 0 n x (omega arith) ∙ ap (numbers_from 0) more)

-- a list that begins others that are numbers in order is numbers in order
begins : (k m : ℕ) (xs zs : List ℕ) → numbers_from k m ≡ xs ++ zs → (xs ≡ numbers_from k (length xs)) × (length xs ≤ m)
begins k m [] zs e = (refl, omega arith)
begins k zero (x ∷ xs) zs e = cc
begins k (suc m) (x ∷ xs) zs e =
    let first : x ≡ k = cc in
    let rest : numbers_from (suc k) m ≡ xs ++ zs = cc in
    let h = begins (suc k) m xs zs rest in
    let same : xs ≡ numbers_from (suc k) (length xs) = h.0 in
    (cc, omega (arith, h.1))

last_of : (k n m x : ℕ) → numbers_from k n ++ x ∷ [] ≡ numbers_from k m → (x ≡ k + n) × (m ≡ n + 1)
last_of k zero zero x e = cc
last_of k zero (suc zero) x e = (let same : x ≡ k = cc in (omega arith, refl))
last_of k zero (suc (suc m)) x e = cc
last_of k (suc n) zero x e = cc
last_of k (suc n) (suc m) x e =
    let rest : numbers_from (suc k) n ++ x ∷ [] ≡ numbers_from (suc k) m = cc in
    let h = last_of (suc k) n m x rest in
    (omega (arith, h.0), omega (arith, h.1))

pub known_first : (n x : ℕ) → x < n → n < 2 ^ 31 → AreFirst (with_new (numbers_from 0 n) x) n
known_first n x h l = record { are = with_known n x h; few = l }

pub next_first : (n x : ℕ) → n ≤ x → x ≤ n → n + 1 < 2 ^ 31 → AreFirst (with_new (numbers_from 0 n) x) (n + 1)
next_first n x h k l = record { are = with_new-next n x (omega arith); few = l }

-- behind n known numbers a new one is the next
next_only : (n x m : ℕ) → n ≤ x → AreFirst (with_new (numbers_from 0 n) x) m → (x ≡ n) × (m ≡ n + 1)
next_only n x m h f =
    let l = last_of 0 n m x (sym (with_next n x h) ∙ f.are) in
    (omega (arith, l.0), l.1)

-- the list stands at the beginning of what becomes of it
abbrev Behind : List ℕ → List ℕ → Type 0
Behind xs ys = (zs : List ℕ) × (ys ≡ xs ++ zs)

behind : (xs ys zs : List ℕ) → Behind xs ys → Behind ys zs → Behind xs zs
behind xs ys zs (us, e) (vs, d) = (us ++ vs, d ∙ ap (λ q. q ++ vs) e ∙ append_assoc xs us vs)

new_behind : (xs : List ℕ) (x : ℕ) → Behind xs (with_new xs x)
new_behind xs x = go (list_any (nat_eq x) xs)
  where
    go : (b : Bool) → Behind xs (if b then xs else (xs ++ x ∷ []))
    go true = ([], sym (append-nil xs))
    go false = (x ∷ [], refl)

mutual
  variables_behind : (xs : List ℕ) (t : Term) → Behind xs (with_variables xs t)
  variables_behind xs (var x) = new_behind xs x
  variables_behind xs (app f ts) = variables_of_behind xs ts

  variables_of_behind : (xs : List ℕ) (ts : Terms) → Behind xs (with_variables_of xs ts)
  variables_of_behind xs nil = ([], sym (append-nil xs))
  variables_of_behind xs (cons t ts) = behind _ _ _ (variables_behind xs t) (variables_of_behind (with_variables xs t) ts)

-- where all terms lead to numbers in order, the first of them does
pub first_leads : (xs : List ℕ) (ts : Terms) (m : ℕ) → AreFirst (with_variables_of xs ts) m → AreFirst xs (length xs)
first_leads xs ts m f =
    let b = variables_of_behind xs ts in
    let h = begins 0 m xs b.0 (sym f.are ∙ b.1) in
    record { are = h.0; few = omega (arith, h.1, f.few) }

-- numbers in order, as a list and by counting
counts : (k : ℕ) (xs : List ℕ) → CountsFrom k xs → xs ≡ numbers_from k (length xs)
counts k [] h = refl
counts k (x ∷ xs) (e, h) = (let rest = counts (suc k) xs h in cc)

counted : (k n : ℕ) → CountsFrom k (numbers_from k n)
counted k zero = tt
counted k (suc n) = (refl, counted (suc k) n)

pub counts_first : (xs : List ℕ) → CountsFrom 0 xs → length xs < 2 ^ 31 → AreFirst xs (length xs)
counts_first xs h l = record { are = counts 0 xs h; few = l }

pub first_counts : (xs : List ℕ) (m : ℕ) → AreFirst xs m → CountsFrom 0 xs
first_counts xs m f = subst (CountsFrom 0) (sym f.are) (counted 0 m)

pub first_length : (xs : List ℕ) (m : ℕ) → AreFirst xs m → length xs ≡ m
first_length xs m f = ap length f.are ∙ length-numbers_from 0 m

-- a number behind the next is not in order, and neither is one too many
pub not_next : (n x : ℕ) → n < x → (m : ℕ) → AreFirst (with_new (numbers_from 0 n) x) m → ⊥
not_next n x h m f = (let l = next_only n x m (omega arith) f in omega (arith, l.0))

pub too_many : (n x : ℕ) → n ≤ x → n + 1 ≡ 2 ^ 31 → (m : ℕ) → AreFirst (with_new (numbers_from 0 n) x) m → ⊥
too_many n x h e m f = (let l = next_only n x m h f in omega (arith, l.1, f.few))

-- where one term does not lead to numbers in order, it and those behind it do not
pub stuck_at : (xs ys : List ℕ) (t : Term) (ts : Terms) → with_variables_of xs (cons t ts) ≡ ys → ((m : ℕ) → AreFirst (with_variables xs t) m → ⊥) → (m : ℕ) → AreFirst ys m → ⊥
stuck_at xs ys t ts e stuck m f = stuck _ (first_leads (with_variables xs t) ts m (subst (λ q. AreFirst q m) (sym e) f))

pub none_holds : {X P : Type 0} → (r : Option X) → P → IfNone r P
none_holds None p = p
none_holds (Some x) p = tt
