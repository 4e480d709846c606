-- Conditions and rules of slices.
use Rattle.std.proofs.Common.{◌≡◌, ℕ, zero, suc, ◌+◌, ◌-◌, ◌≤◌, refl, sym, ap, ◌∙◌, List, [], ◌∷◌, ◌++◌, length, map, take, drop, ap₂, add-one}
use Rattle.std.proofs.lemmas.List.{take-map, drop-map, map-append, take_rest, take_all}
use Rattle.rewriting.specs.Rules as math
use Rattle.rewriting.specs.Systems.{rule_variables}
use Rattle.term_core.specs.RuleView.{condition_view, rule_view, AreCounted}
use Rattle.term_core.specs.declared.systems.Cond.{Cond}
use Rattle.term_core.specs.declared.systems.Rule.{Rule}
use Rattle.simplify.specs.Rules.{counts}

pub conditions_all : (conds : List Cond) (i : ℕ) → length conds ≤ i → map condition_view (take i conds) ≡ map condition_view conds
conditions_all conds i h = ap (map condition_view) (take_all i conds h)

pub conditions_push : (old new : List Cond) (c : Cond) → new ≡ old ++ c ∷ [] → map condition_view new ≡ map condition_view old ++ condition_view c ∷ []
conditions_push old new c e = ap (map condition_view) e ∙ map-append condition_view old (c ∷ [])

-- the front and the rest of a slice
pub front_view : {X Y : Type 0} (f : X → Y) (xs : List X) (i : ℕ) → map f (take i xs) ≡ take i (map f xs)
front_view f xs i = sym (take-map f i xs)

pub rest_view : {X Y : Type 0} (f : X → Y) (xs : List X) (i : ℕ) → map f (take (length xs - (i + 1)) (drop (i + 1) xs)) ≡ drop (suc i) (map f xs)
rest_view f xs i = ap (map f) (take_rest xs (i + 1)) ∙ sym (drop-map f (i + 1) xs) ∙ ap (λ k. drop k (map f xs)) (add-one i)

-- rules that tell the numbers of their variables
abbrev pub variable_counts : List math.Rule → List ℕ
variable_counts qs = map (λ q. length (rule_variables q)) qs

pub counts_of : (rs : List Rule) → AreCounted rs → counts rs ≡ variable_counts (map rule_view rs)
counts_of [] h = refl
counts_of (r ∷ rs) (h, hs) = ap₂ (λ x xs. x ∷ xs) h (counts_of rs hs)

pub counted_of : (rs : List Rule) → counts rs ≡ variable_counts (map rule_view rs) → AreCounted rs
counted_of [] e = tt
counted_of (r ∷ rs) e = (cc, counted_of rs (cc))

pub counts_front : (rs : List Rule) (n : ℕ) → AreCounted rs → AreCounted (take n rs)
counts_front [] zero h = tt
counts_front [] (suc n) h = tt
counts_front (r ∷ rs) zero h = tt
counts_front (r ∷ rs) (suc n) (h, hs) = (h, counts_front rs n hs)

pub counts_rest : (rs : List Rule) (n : ℕ) → AreCounted rs → AreCounted (drop n rs)
counts_rest [] zero h = tt
counts_rest [] (suc n) h = tt
counts_rest (r ∷ rs) zero h = h
counts_rest (r ∷ rs) (suc n) (h, hs) = counts_rest rs n hs

pub counted_append : (ps qs : List Rule) → AreCounted ps → AreCounted qs → AreCounted (ps ++ qs)
counted_append [] qs h k = k
counted_append (p ∷ ps) qs (h, hs) k = (h, counted_append ps qs hs k)

-- copies tell the same numbers
pub counted_copies : (old new copied : List Rule) → AreCounted old → AreCounted copied → map rule_view new ≡ map rule_view old ++ map rule_view copied
    → counts new ≡ counts old ++ counts copied → AreCounted new
counted_copies old new copied h k e f =
    let both = counted_append old copied h k in
    counted_of new (f ∙ sym (map-append (λ (r : Rule). r.vars) old copied) ∙ counts_of (old ++ copied) both ∙ ap variable_counts (map-append rule_view old copied ∙ sym e))
