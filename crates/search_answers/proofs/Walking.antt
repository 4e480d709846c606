-- Items one after the other.
use Rattle.std.proofs.Common.{ℕ, ◌≡◌, ◌+◌, ◌<◌, List, [], ◌∷◌, ◌++◌, append_assoc, append-nil, Result, Ok, Err, IsErr, refl, sym, ap, ◌∙◌, subst, arith}
use Rattle.std.proofs.lemmas.Bool.{false≢true}
use Rattle.cc_count.specs.Counts.{Counts, Spends}
use Rattle.cc_count.proofs.Spending.{spends_none, spends_both, spends_same}
use Rattle.cc_count.specs.declared.Sought.{Sought}
use Rattle.cc_count.specs.declared.Sought.TheVariants.{Found, Nothing, Spent}
use Rattle.first_found.specs.Items.{GivesNothing, NoneGives, cost_of, IsFirst, IsStopped}
use Rattle.first_found.specs.Spaces.{Ending, found, nothing, spent}
use Rattle.first_found.proofs.Items.{cost_append, none_append, first_left, first_right, stopped_left, stopped_right}
use Rattle.validity.specs.declared.Search.{Search}
use Rattle.validity.specs.declared.Search.TheVariants as search
use Rattle.search_answers.specs.Answers.{ending_of}
use Rattle.search_answers.specs.Walks.{sought_ending, EndsSo, Walks}

-- some of the items are done: they gave nothing, and were paid; the rest is left
pub record Walking {A B : Type 0} (cost : A → ℕ) (Gives : A → B → Type 0) (items : List A) (start here : Counts) (rest : List A) : Type 0 where
  pub done : List A
  pub split : items ≡ done ++ rest
  pub none : NoneGives Gives done
  pub paid : Spends start (cost_of cost done) here

pub begins : {A B : Type 0} {cost : A → ℕ} {Gives : A → B → Type 0} {items rest : List A} {a : Counts} → rest ≡ items → Walking cost Gives items a a rest
begins {a = a} e = record { done = []; split = sym e; none = tt; paid = spends_none a }

module _ {A B : Type 0} {cost : A → ℕ} {Gives : A → B → Type 0} {items : List A} {a b : Counts} {rest : List A} (w : Walking cost Gives items a b rest) where
  module _ (c : Counts) (xs ys : List A) (split : rest ≡ xs ++ ys) where
    whole : items ≡ w.done ++ (xs ++ ys)
    whole = w.split ∙ ap (λ (zs : List A). w.done ++ zs) split

    both_paid : (n : ℕ) → Spends b n c → Spends a (cost_of cost w.done + n) c
    both_paid n s = spends_both a b c (cost_of cost w.done) n w.paid s

    behind : EndsSo cost Gives xs b c nothing → Walking cost Gives items a c ys
    behind (s, none) =
        record {
          done = w.done ++ xs;
          split = whole ∙ sym (append_assoc w.done xs ys);
          none = none_append Gives w.done xs w.none none;
          paid = spends_same a c (cost_of cost w.done + cost_of cost xs) (cost_of cost (w.done ++ xs)) (sym (cost_append cost w.done xs)) (both_paid (cost_of cost xs) s);
        }

    -- the next items gave nothing
    pub goes_on : (e : Ending B) → e ≡ nothing → EndsSo cost Gives xs b c e → Walking cost Gives items a c ys
    goes_on e is h = behind (subst (EndsSo cost Gives xs b c) is h)

    -- the walk ended in them
    pub ends : (e : Ending B) → (e ≡ nothing → ⊥) → EndsSo cost Gives xs b c e → EndsSo cost Gives items a c e
    ends (found x) other (n, s, f) = (
      cost_of cost w.done + n,
      both_paid n s,
      subst (λ z. IsFirst cost Gives z x (cost_of cost w.done + n)) (sym whole) (first_right Gives cost w.done (xs ++ ys) x n w.none (first_left Gives cost xs ys x n f)),
    )
    ends nothing other h = absurd (other refl)
    ends spent other (n, s, end, stopped) = (
      cost_of cost w.done + n,
      both_paid n s,
      end,
      subst (λ z. IsStopped cost Gives z (cost_of cost w.done + n)) (sym whole) (stopped_right Gives cost w.done (xs ++ ys) n w.none (stopped_left Gives cost xs ys n stopped)),
    )

  pub fails : {R E : Type 0} (view : R → Ending B) (c : Counts) (r : Result R E) → IsErr r → (n : ℕ) × Spends b n c → Walks view cost Gives items a c r
  fails view c (Ok x) is h = absurd (false≢true is)
  fails view c (Err e) is (n, s) = (cost_of cost w.done + n, spends_both a b c (cost_of cost w.done) n w.paid s)

  -- nothing is left
  pub finishes : rest ≡ [] → EndsSo cost Gives items a b nothing
  finishes e =
      let same : items ≡ w.done = w.split ∙ ap (λ (zs : List A). w.done ++ zs) e ∙ append-nil w.done in
      (subst (λ z. Spends a (cost_of cost z) b) (sym same) w.paid, subst (NoneGives Gives) (sym same) w.none)

-- all that is left is walked through
module _ {A B : Type 0} {cost : A → ℕ} {Gives : A → B → Type 0} {items : List A} {a b : Counts} {rest : List A} (w : Walking cost Gives items a b rest) where
  pub last_ends : (c : Counts) (e : Ending B) → EndsSo cost Gives rest b c e → EndsSo cost Gives items a c e
  last_ends c (found x) h = ends w c rest [] (sym (append-nil rest)) (found x) (λ e. cc) h
  last_ends c nothing h = finishes (behind w c rest [] (sym (append-nil rest)) h) refl
  last_ends c spent h = ends w c rest [] (sym (append-nil rest)) spent (λ e. cc) h

  pub last_part : {R E : Type 0} (view : R → Ending B) (c : Counts) (r : Result R E) → Walks view cost Gives rest b c r → Walks view cost Gives items a c r
  last_part view c (Ok answer) h = last_ends c (view answer) h
  last_part view c (Err e) h = fails w view c (Err e) refl h

-- two parts, one behind the other
module _ {A B : Type 0} (cost : A → ℕ) (Gives : A → B → Type 0) (xs ys : List A) (a b : Counts) where
  pub two_parts : {R E : Type 0} (view : R → Ending B) (c : Counts) (e : Ending B) → e ≡ nothing → EndsSo cost Gives xs a b e → (r : Result R E) → Walks view cost Gives ys b c r
      → Walks view cost Gives (xs ++ ys) a c r
  two_parts view c e is h r k = last_part (goes_on (begins {rest = xs ++ ys} refl) b xs ys refl e is h) view c r k

  pub first_part : (e : Ending B) → (e ≡ nothing → ⊥) → EndsSo cost Gives xs a b e → EndsSo cost Gives (xs ++ ys) a b e
  first_part e other h = ends (begins {rest = xs ++ ys} refl) b xs ys refl e other h

-- one item
module _ {A B : Type 0} (cost : A → ℕ) (Gives : A → B → Type 0) (item : A) (a b : Counts) where
  -- an item that costs more than is left, whatever stands behind
  pub item_is_dear : (behind : List A) → a.left < cost item → Spends a a.left b → EndsSo cost Gives (item ∷ behind) a b spent
  item_is_dear behind dear s =
      let left = s.left in
      (a.left, s, omega (arith, left), record { before = []; item = item; behind = behind; split = refl; none = tt; short = omega (arith, dear) })

  pub item_stops : 0 < cost item → a.left ≡ 0 → b ≡ a → EndsSo cost Gives (item ∷ []) a b spent
  item_stops some end same =
      item_is_dear [] (omega (arith, some, end)) (subst (λ z. Spends a a.left z) (sym same) (subst (λ z. Spends a z a) (sym end) (spends_none a)))

  module _ (paid : Spends a (cost item) b) where
    pub item_gives : (x : B) → Gives item x → EndsSo cost Gives (item ∷ []) a b (found x)
    item_gives x g = (cost item, paid, record { before = []; item = item; behind = []; split = refl; none = tt; gives = g; up_to = omega arith })

    pub item_bare : GivesNothing Gives item → EndsSo cost Gives (item ∷ []) a b nothing
    item_bare h = (spends_same a b (cost item) (cost item + 0) (omega arith) paid, (h, tt))

-- an answer that is something, or the end of the budget
pub not_nothing : {T B : Type 0} (view : T → B) (s : Sought T) → (s ≡ Nothing → ⊥) → sought_ending view s ≡ nothing → ⊥
not_nothing view (Found x) other e = cc
not_nothing view Nothing other e = other refl
not_nothing view Spent other e = cc

pub not_nothing_found : (a : Search) → (a ≡ search.Nothing → ⊥) → ending_of a ≡ nothing → ⊥
not_nothing_found (search.Found c) other e = cc
not_nothing_found search.Nothing other e = other refl
not_nothing_found search.Spent other e = cc
