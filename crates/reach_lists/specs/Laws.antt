-- Laws of the lists.
use Rattle.std.specs.Prelude.{◌≡◌, ◌⊎◌, ◌≤◌, ◌<◌, ◌^◌, ℕ, suc, true, false, List, [], ◌∷◌, ◌++◌, length, flat_map, drop}
use Rattle.reach_lists.specs.declared.TheConstants.{MOST_LISTED, MOST_LISTED_NODES}
use Rattle.rewriting.specs.Prelude.{Term, size, Condition, System}
use Rattle.certificates.specs.Prelude.{no_steps, Derives, IsShort}
use Rattle.reach_lists.specs.Solutions.{Reached}
use Rattle.reach_lists.specs.Queue.{queued_terms, queue}
use Rattle.reach_lists.specs.Lists.{is_listed, with_terms, successors, condition_list, reach_list, expanded, reach_cost}

-- every item has the property
abbrev pub EachOf : {A : Type 0} → (A → Type 0) → List A → Type 0
EachOf P [] = Unit {0}
EachOf P (x ∷ xs) = P x × EachOf P xs

-- no term is there twice
abbrev pub IsWithoutRepetition : List Reached → Type 0
IsWithoutRepetition [] = Unit {0}
IsWithoutRepetition (r ∷ rs) = (is_listed r.term rs ≡ false) × IsWithoutRepetition rs

-- the first term is the start, by no steps
abbrev pub StartsAre : Type 0
StartsAre =
    (sys : System) (hyps : List Condition) (d c : ℕ) (t : Term)
    → (rest : List Reached) × (reach_list sys hyps d c t ≡ record { term = t; by = no_steps } ∷ rest)

-- from the start each listed term's derivation has no bad step and ends at that term
abbrev pub ListedTermsAreDerived : Type 0
ListedTermsAreDerived =
    (sys : System) (hyps : List Condition) (d c : ℕ) (t : Term) → EachOf (λ r. Derives sys hyps t r.by r.term) (reach_list sys hyps d c t)

-- numbers of 32 bits tell the steps of these derivations, where the number of steps asked for is one
abbrev pub ListedDerivationsAreShort : Type 0
ListedDerivationsAreShort =
    (sys : System) (hyps : List Condition) (d c : ℕ) (t : Term) → d < 2 ^ 32 → EachOf (λ r. IsShort r.by) (reach_list sys hyps d c t)

abbrev pub NoTermIsListedTwice : Type 0
NoTermIsListedTwice = (sys : System) (hyps : List Condition) (d c : ℕ) (t : Term) → IsWithoutRepetition (reach_list sys hyps d c t)

abbrev pub ListsAreShort : Type 0
ListsAreShort = (sys : System) (hyps : List Condition) (d c : ℕ) (t : Term) → length (reach_list sys hyps d c t) ≤ MOST_LISTED

-- a list costs at least one for each of its terms
abbrev pub ListsCostTheirTerms : Type 0
ListsCostTheirTerms = (sys : System) (hyps : List Condition) (d c : ℕ) (t : Term) → length (reach_list sys hyps d c t) ≤ reach_cost sys hyps d c t

-- one step more makes the list longer at its end
abbrev pub ListsGrow : Type 0
ListsGrow =
    (sys : System) (hyps : List Condition) (d c : ℕ) (t : Term)
    → (more : List Reached) × (reach_list sys hyps (suc d) c t ≡ reach_list sys hyps d c t ++ more)

-- the successors of the terms that the last round added are enough: those of all others are listed, too large or left out
abbrev pub RoundsExpandNewTerms : Type 0
RoundsExpandNewTerms =
    (sys : System) (hyps : List Condition) (d c : ℕ) (t : Term)
    → reach_list sys hyps (suc d) c t
    ≡ with_terms (reach_list sys hyps d c t)
    (flat_map (successors sys hyps (condition_list sys hyps c))
    (drop (length (expanded (successors sys hyps (condition_list sys hyps c)) d t)) (reach_list sys hyps d c t)))

-- a successor of a term of distance below d is listed, or is too large, or the list is full
abbrev pub IsSettled : List Reached → Reached → Type 0
IsSettled l r = (is_listed r.term l ≡ true) ⊎ ((MOST_LISTED_NODES < size r.term) ⊎ (MOST_LISTED ≤ length l))

abbrev pub SuccessorsAreSettled : Type 0
SuccessorsAreSettled =
    (sys : System) (hyps : List Condition) (d c : ℕ) (t : Term)
    → EachOf (λ u. EachOf (IsSettled (reach_list sys hyps d c t)) (successors sys hyps (condition_list sys hyps c) u))
    (expanded (successors sys hyps (condition_list sys hyps c)) d t)

-- the list is that of a queue whose terms are handled one after the other: in one order, with one cut, and the same terms left out
abbrev pub ListsAreThoseOfQueues : Type 0
ListsAreThoseOfQueues =
    (sys : System) (hyps : List Condition) (d c : ℕ) (t : Term)
    → queued_terms (queue (successors sys hyps (condition_list sys hyps c)) d t) ≡ reach_list sys hyps d c t
