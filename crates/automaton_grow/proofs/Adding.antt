-- Sets of transitions with what was added to them.
use Rattle.std.proofs.Common.{◌≡◌, ℕ, zero, suc, ◌+◌, ◌<◌, ◌⊎◌, inl, inr, refl, sym, ◌∙◌, subst, List, [], ◌∷◌, ◌++◌, take, drop, length, Ok, Err, Result, arith}
use Rattle.std.specs.Prelude.{Contains, slice_get, Some}
use Rattle.std.specs.List.{insert}
use Rattle.std.proofs.lemmas.List.{take-append-drop}
use Rattle.std.proofs.lemmas.List.Edits.{length-insert}
use Rattle.std.proofs.lemmas.List.Elements.{Contains-append_left, Contains-append_right, Contains-append_cases}
use Rattle.rewriting.specs.Lists.{IsSorted}
use Rattle.certificates.specs.Evidence.{Transition}
use Rattle.automata.specs.Growth.{IsTransitionBefore}
use Rattle.automata.proofs.Asked.{contains_head, contains_tail}
use Rattle.automaton_grow.specs.Growing.{IsPartOf, IsAdded, AddAnswers}
use Rattle.automaton_grow.specs.Placing.{IsPlace}
use Rattle.automaton_grow.specs.declared.GrowError.{GrowError}
use Rattle.automaton_grow.specs.declared.GrowError.TheVariants.{TooWide, TooManyStates, TooManyTransitions, NoMemory}
use Rattle.automaton_grow.proofs.Order.{inserted_sorted}

-- membership
pub contains_cases : {X : Type 0} (y : X) (xs : List X) (x : X) → Contains (y ∷ xs) x → (x ≡ y) ⊎ Contains xs x
contains_cases y xs x (zero, l, e) = inl (sym e)
contains_cases y xs x (suc k, l, e) = inr (k, omega arith, e)

pub contains_none : {X : Type 0} (x : X) → Contains [] x → ⊥
contains_none x (k, l, e) = omega arith

pub contains_at : {X : Type 0} (xs : List X) (k : ℕ) (x : X) → slice_get xs k ≡ Some x → Contains xs x
contains_at [] k x e = absurd (cc)
contains_at (y ∷ xs) zero x e = let same : x ≡ y = cc in subst (Contains (y ∷ xs)) (sym same) (contains_head y xs)
contains_at (y ∷ xs) (suc k) x e = contains_tail y xs x (contains_at xs k x e)

-- one more at a place
inserted_kept : (k : ℕ) (ds : List Transition) (d x : Transition) → Contains ds x → Contains (insert ds k d) x
inserted_kept k ds d x h = go (Contains-append_cases (take k ds) (drop k ds) x (subst (λ z. Contains z x) (sym (take-append-drop k ds)) h))
  where
    go : Contains (take k ds) x ⊎ Contains (drop k ds) x → Contains (take k ds ++ d ∷ drop k ds) x
    go (inl a) = Contains-append_left (take k ds) (d ∷ drop k ds) x a
    go (inr a) = Contains-append_right (take k ds) (d ∷ drop k ds) x (contains_tail d (drop k ds) x a)

inserted_only : (k : ℕ) (ds : List Transition) (d x : Transition) → Contains (insert ds k d) x → Contains ds x ⊎ (x ≡ d)
inserted_only k ds d x h = go (Contains-append_cases (take k ds) (d ∷ drop k ds) x h)
  where
    whole : Contains (take k ds ++ drop k ds) x → Contains ds x
    whole a = subst (λ z. Contains z x) (take-append-drop k ds) a

    behind : (x ≡ d) ⊎ Contains (drop k ds) x → Contains ds x ⊎ (x ≡ d)
    behind (inl e) = inr e
    behind (inr a) = inl (whole (Contains-append_right (take k ds) (drop k ds) x a))

    go : Contains (take k ds) x ⊎ Contains (d ∷ drop k ds) x → Contains ds x ⊎ (x ≡ d)
    go (inl a) = inl (whole (Contains-append_left (take k ds) (drop k ds) x a))
    go (inr a) = behind (contains_cases d (drop k ds) x a)

inserted : (k : ℕ) (ds : List Transition) (d : Transition) → IsSorted IsTransitionBefore ds → IsPlace ds d k → IsAdded (λ x. x ≡ d) ds (insert ds k d)
inserted k ds d sorted place =
    let longer : length (insert ds k d) ≡ length ds + 1 = length-insert ds k d place.within in
    record {
      part = record { only = inserted_only k ds d; sorted = inserted_sorted d k ds sorted place.before place.behind };
      kept = inserted_kept k ds d;
      every = λ x e. subst (Contains (insert ds k d)) (sym e) (Contains-append_right (take k ds) (d ∷ drop k ds) d (contains_head d (drop k ds)));
      more = omega arith;
      same = λ e. absurd (omega arith);
    }

pub put_there : (k : ℕ) (before after : List Transition) (d : Transition) → IsSorted IsTransitionBefore before → IsPlace before d k → after ≡ insert before k d → IsAdded (λ x. x ≡ d) before after
put_there k before after d sorted place e = subst (IsAdded (λ x. x ≡ d) before) (sym e) (inserted k before d sorted place)

-- a transition that stands there already
pub standing : (k : ℕ) (ds : List Transition) (d : Transition) → IsSorted IsTransitionBefore ds → slice_get ds k ≡ Some d → IsAdded (λ x. x ≡ d) ds ds
standing k ds d sorted at = record {
  part = record { only = λ x h. inl h; sorted = sorted };
  kept = λ x h. h;
  every = λ x e. subst (Contains ds) (sym e) (contains_at ds k d at);
  more = omega arith;
  same = λ e. refl;
}

-- what is wanted is there
pub added_before : (P : Transition → Type 0) (ds : List Transition) → IsSorted IsTransitionBefore ds → ((d : Transition) → P d → Contains ds d) → IsAdded P ds ds
added_before P ds sorted there = record {
  part = record { only = λ x h. inl h; sorted = sorted };
  kept = λ x h. h;
  every = there;
  more = omega arith;
  same = λ e. refl;
}

-- nothing is wanted
pub added_nothing : (P : Transition → Type 0) (ds : List Transition) → IsSorted IsTransitionBefore ds → ((d : Transition) → P d → ⊥) → IsAdded P ds ds
added_nothing P ds sorted none = added_before P ds sorted (λ d p. absurd (none d p))

-- one part after another, whatever the wanted are called
pub part_after : (P Q R : Transition → Type 0) (a b c : List Transition) → ((d : Transition) → P d → R d) → ((d : Transition) → Q d → R d) → IsPartOf P a b → IsPartOf Q b c → IsPartOf R a c
part_after P Q R a b c p q first second = record { only = λ d h. go d (second.only d h); sorted = second.sorted }
  where
    inner : (d : Transition) → Contains a d ⊎ P d → Contains a d ⊎ R d
    inner d (inl h) = inl h
    inner d (inr h) = inr (p d h)

    go : (d : Transition) → Contains b d ⊎ Q d → Contains a d ⊎ R d
    go d (inl h) = inner d (first.only d h)
    go d (inr h) = inr (q d h)

pub added_after : (P Q R : Transition → Type 0) (a b c : List Transition) → ((d : Transition) → P d → R d) → ((d : Transition) → Q d → R d) → ((d : Transition) → R d → P d ⊎ Q d)
    → IsAdded P a b → IsAdded Q b c → IsAdded R a c
added_after P Q R a b c p q r first second = record {
  part = part_after P Q R a b c p q first.part second.part;
  kept = λ d h. second.kept d (first.kept d h);
  every = λ d h. go d (r d h);
  more = let one = first.more in let two = second.more in omega arith;
  same = λ e.
      let one = first.more in
      let two = second.more in
      let left : length b ≡ length a = omega arith in
      let right : length c ≡ length b = omega arith in
      second.same right ∙ first.same left;
}
  where
    go : (d : Transition) → P d ⊎ Q d → Contains c d
    go d (inl h) = second.kept d (first.every d h)
    go d (inr h) = second.every d h

-- the same facts under another name of the wanted
pub answers_renamed : (P Q : Transition → Type 0) (a b : List Transition) (r : Result (Unit {0}) GrowError) → ((d : Transition) → P d → Q d) → ((d : Transition) → Q d → P d)
    → AddAnswers P a b r → AddAnswers Q a b r
answers_renamed P Q a b (Ok u) p q (h, few) =
    (record { part = record { only = λ d k. go d (h.part.only d k); sorted = h.part.sorted }; kept = h.kept; every = λ d k. h.every d (q d k); more = h.more; same = h.same }, few)
  where
    go : (d : Transition) → Contains a d ⊎ P d → Contains a d ⊎ Q d
    go d (inl k) = inl k
    go d (inr k) = inr (p d k)
answers_renamed P Q a b (Err (TooWide rule)) p q h = h
answers_renamed P Q a b (Err TooManyStates) p q h = h
answers_renamed P Q a b (Err TooManyTransitions) p q (h, many) = (record { only = λ d k. go d (h.only d k); sorted = h.sorted }, many)
  where
    go : (d : Transition) → Contains a d ⊎ P d → Contains a d ⊎ Q d
    go d (inl k) = inl k
    go d (inr k) = inr (p d k)
answers_renamed P Q a b (Err NoMemory) p q h = h

-- a further call that fails, after what was added
pub answers_after_error : (P Q R : Transition → Type 0) (a b c e : List Transition) (why : GrowError) → ((d : Transition) → P d → R d) → ((d : Transition) → Q d → R d)
    → IsAdded P a b → AddAnswers Q b c (Err why) → c ≡ e
    → AddAnswers R a e (Err why)
answers_after_error P Q R a b c e (TooWide rule) p q first h same = h
answers_after_error P Q R a b c e TooManyStates p q first h same = h
answers_after_error P Q R a b c e TooManyTransitions p q first (h, many) same =
    subst (λ z. IsPartOf R a z × (5000 < length z)) same (part_after P Q R a b c p q first.part h, many)
answers_after_error P Q R a b c e NoMemory p q first h same = tt
