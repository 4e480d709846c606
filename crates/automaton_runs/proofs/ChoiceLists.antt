-- Lists of the choices of a state of each pool: what is on them, and in which order.
use Rattle.std.proofs.Common.{◌≡◌, ℕ, zero, suc, ◌+◌, ◌-◌, ◌*◌, ◌<◌, ◌≤◌, inl, inr, ⊎_elim, List, [], ◌∷◌, ◌++◌, map, length, get_or, take, drop, AllPairs, Some, slice_get, Vec}
use Rattle.std.proofs.Common.{Global, refl, ap, ap₂, sym, subst, ◌∙◌, length-append, suc-mul, arith}
use Rattle.std.proofs.lemmas.List.{length-map, get_or-map, drop_more}
use Rattle.std.proofs.lemmas.Option.{get_or_from_slice_get, slice_get_within}
use Rattle.rewriting.specs.Prelude.{IsBefore, IsAmong}
use Rattle.rewriting.proofs.Lists.{among_left, among_right, among_either, among_map, among_of_map}
use Rattle.automaton_runs.specs.Choices.{as_lists, before_each, choices_of, AreOf}
use Rattle.automaton_runs.specs.Possible.{AreAscending}
use Rattle.automaton_runs.proofs.Ordered.{IsOrdered, ordered_append, ordered_from_pairs}

in_each : (q : ℕ) (qs : List ℕ) (lists : List (List ℕ)) (cs : List ℕ) → IsAmong q qs → IsAmong cs lists → IsAmong (q ∷ cs) (before_each qs lists)
in_each q [] lists cs h i = absurd h
in_each q (p ∷ qs) lists cs (inl e) i =
    subst (λ (x : ℕ). IsAmong (x ∷ cs) (before_each (p ∷ qs) lists)) (sym e) (among_left (p ∷ cs) (map (λ ds. p ∷ ds) lists) (before_each qs lists) (among_map (λ ds. p ∷ ds) cs lists i))
in_each q (p ∷ qs) lists cs (inr h) i = among_right (q ∷ cs) (map (λ ds. p ∷ ds) lists) (before_each qs lists) (in_each q qs lists cs h i)

-- the list has a state before one of some lists
record HasHead (qs : List ℕ) (lists : List (List ℕ)) (ds : List ℕ) : Type 0 where
  head : ℕ
  tail : List ℕ
  is : ds ≡ head ∷ tail
  head_in : IsAmong head qs
  tail_in : IsAmong tail lists

head_later : (q : ℕ) (qs : List ℕ) (lists : List (List ℕ)) (ds : List ℕ) → HasHead qs lists ds → HasHead (q ∷ qs) lists ds
head_later q qs lists ds r = record { head = r.head; tail = r.tail; is = r.is; head_in = inr r.head_in; tail_in = r.tail_in }

head_here : (q : ℕ) (qs : List ℕ) (lists : List (List ℕ)) (ds : List ℕ) → IsAmong ds (map (λ cs. q ∷ cs) lists) → HasHead (q ∷ qs) lists ds
head_here q qs lists ds i = let m = among_of_map (λ cs. q ∷ cs) ds lists i in record { head = q; tail = m.0; is = m.2; head_in = inl refl; tail_in = m.1 }

of_each : (qs : List ℕ) (lists : List (List ℕ)) (ds : List ℕ) → IsAmong ds (before_each qs lists) → HasHead qs lists ds
of_each [] lists ds h = absurd h
of_each (q ∷ qs) lists ds h = ⊎_elim (λ i. head_here q qs lists ds i) (λ i. head_later q qs lists ds (of_each qs lists ds i)) (among_either ds (map (λ cs. q ∷ cs) lists) (before_each qs lists) h)

-- the choices on the list are those of the pools
pub in_choices : (pools : List (List ℕ)) (cs : List ℕ) → AreOf pools cs → IsAmong cs (choices_of pools)
in_choices [] [] z = inl refl
in_choices [] (c ∷ cs) z = absurd z
in_choices (qs ∷ pools) [] z = absurd z
in_choices (qs ∷ pools) (c ∷ cs) z = in_each c qs (choices_of pools) cs z.0 (in_choices pools cs z.1)

pub of_choices : (pools : List (List ℕ)) (cs : List ℕ) → IsAmong cs (choices_of pools) → AreOf pools cs
of_choices [] cs (inl e) = subst (AreOf []) (sym e) tt
of_choices [] cs (inr h) = absurd h
of_choices (qs ∷ pools) cs h = let r = of_each qs (choices_of pools) cs h in subst (AreOf (qs ∷ pools)) (sym r.is) (r.head_in, of_choices pools r.tail r.tail_in)

pub length_each : (qs : List ℕ) (lists : List (List ℕ)) → length (before_each qs lists) ≡ length qs * length lists
length_each [] lists = omega arith
length_each (q ∷ qs) lists =
    let rest = length_each qs lists in
    let more = suc-mul (length qs) (length lists) in
    omega (arith, length-append (map (λ cs. q ∷ cs) lists) (before_each qs lists), length-map lists (λ cs. q ∷ cs))

-- one more pool, before the others
pub choices_before : (vs : List (Vec ℕ Global)) (place : ℕ) (v : Vec ℕ Global) → 0 < place → place ≤ length vs → v ≡ get_or vs (place - 1) v
    → before_each v.items (choices_of (drop place (as_lists vs))) ≡ choices_of (drop (place - 1) (as_lists vs))
choices_before vs place v some within is =
    let inside : place - 1 < length vs = omega arith in
    let next : place - 1 + 1 ≡ place = omega arith in
    let long = length-map vs (λ u. u.items) in
    let here : get_or (as_lists vs) (place - 1) [] ≡ v.items = get_or-map (λ (u : Vec ℕ Global). u.items) vs (place - 1) v [] inside ∙ ap (λ (u : Vec ℕ Global). u.items) (sym is) in
    let split : drop (place - 1) (as_lists vs) ≡ v.items ∷ drop place (as_lists vs) =
    drop_more (as_lists vs) (place - 1) [] (omega arith) ∙ ap₂ (λ (x : List ℕ) (n : ℕ). x ∷ drop n (as_lists vs)) here next in
    ap choices_of (sym split)

-- in order
ordered_map : (q : ℕ) (lists : List (List ℕ)) → IsOrdered IsBefore lists → IsOrdered IsBefore (map (λ cs. q ∷ cs) lists)
ordered_map q [] o = tt
ordered_map q (cs ∷ lists) o = (λ y i. let m = among_of_map (λ ds. q ∷ ds) y lists i in subst (IsBefore (q ∷ cs)) (sym m.2) (inr (refl, o.0 m.0 m.1)), ordered_map q lists o.1)

ordered_each : (qs : List ℕ) (lists : List (List ℕ)) → IsOrdered (λ x y. x < y) qs → IsOrdered IsBefore lists → IsOrdered IsBefore (before_each qs lists)
ordered_each [] lists up o = tt
ordered_each (q ∷ qs) lists up o = ordered_append IsBefore (map (λ cs. q ∷ cs) lists) (before_each qs lists) (ordered_map q lists o) (ordered_each qs lists up.1 o) apart
  where
    apart : (x y : List ℕ) → IsAmong x (map (λ cs. q ∷ cs) lists) → IsAmong y (before_each qs lists) → IsBefore x y
    apart x y i j =
        let m = among_of_map (λ cs. q ∷ cs) x lists i in
        let r = of_each qs lists y j in
        subst (λ (l : List ℕ). IsBefore l y) (sym m.2) (subst (IsBefore (q ∷ m.0)) (sym r.is) (inl (up.0 r.head r.head_in)))

pub ordered_choices : (pools : List (List ℕ)) → AreAscending pools → IsOrdered IsBefore (choices_of pools)
ordered_choices [] up = (λ y h. absurd h, tt)
ordered_choices (qs ∷ pools) up = ordered_each qs (choices_of pools) (ordered_from_pairs (λ x y. x < y) qs (up qs (inl refl))) (ordered_choices pools (λ ps i. up ps (inr i)))

-- choices in two parts
pub of_parts : (n : ℕ) (pools : List (List ℕ)) (cs : List ℕ) → AreOf pools cs → AreOf (take n pools) (take n cs) × AreOf (drop n pools) (drop n cs)
of_parts zero pools cs z = (tt, z)
of_parts (suc n) [] [] z = (tt, tt)
of_parts (suc n) [] (c ∷ cs) z = absurd z
of_parts (suc n) (qs ∷ pools) [] z = absurd z
of_parts (suc n) (qs ∷ pools) (c ∷ cs) z = let r = of_parts n pools cs z.1 in ((z.0, r.0), r.1)

pub of_both : (pools others : List (List ℕ)) (cs ds : List ℕ) → AreOf pools cs → AreOf others ds → AreOf (pools ++ others) (cs ++ ds)
of_both [] others [] ds z w = w
of_both [] others (c ∷ cs) ds z w = absurd z
of_both (qs ∷ pools) others [] ds z w = absurd z
of_both (qs ∷ pools) others (c ∷ cs) ds z w = (z.0, of_both pools others cs ds z.1 w)

pub of_long : (pools : List (List ℕ)) (cs : List ℕ) → AreOf pools cs → length cs ≡ length pools
of_long [] [] z = refl
of_long [] (c ∷ cs) z = absurd z
of_long (qs ∷ pools) [] z = absurd z
of_long (qs ∷ pools) (c ∷ cs) z = ap suc (of_long pools cs z.1)

-- the order of lists with one front, and with fronts of one length
pub before_behind : (front r s : List ℕ) → IsBefore r s → IsBefore (front ++ r) (front ++ s)
before_behind [] r s h = h
before_behind (x ∷ front) r s h = inr (refl, before_behind front r s h)

pub before_fronts : (f g r s : List ℕ) → length f ≡ length g → IsBefore f g → IsBefore (f ++ r) (g ++ s)
before_fronts [] [] r s long h = absurd h
before_fronts [] (y ∷ g) r s long h = absurd (omega arith)
before_fronts (x ∷ f) [] r s long h = absurd h
before_fronts (x ∷ f) (y ∷ g) r s long (inl l) = inl l
before_fronts (x ∷ f) (y ∷ g) r s long (inr (e, h)) = inr (e, before_fronts f g r s (omega arith) h)

pub pair_at : {X : Type 0} (R : X → X → Type 0) (xs : List X) (i j : ℕ) (x y : X) → AllPairs R xs → i < j → slice_get xs i ≡ Some x → slice_get xs j ≡ Some y → R x y
pair_at {X = X} R xs i j x y h l e f =
    subst (λ (z : X). R z y) (get_or_from_slice_get xs i x x e) (subst (λ (z : X). R (get_or xs i x) z) (get_or_from_slice_get xs j y x f) (h i j x l (slice_get_within xs j y f)))
