-- From a term one automaton grows at most, and none where too many transitions are asked for.
use Rattle.std.proofs.Common.{ℕ, suc, ◌≡◌, ◌<◌, ◌≤◌, ◌⊎◌, inl, inr, List, [], ◌∷◌, length, Option, None, Some, refl, sym, ◌∙◌, subst, arith}
use Rattle.rewriting.specs.Prelude.{IsAmong, IsBeforeAll, IsSorted, IsBefore, System, Term}
use Rattle.rewriting.proofs.Before.{before_not_same, before_not_both}
use Rattle.rewriting.proofs.Lists.{before_one, sorted_once}
use Rattle.rewriting.proofs.Members.{among_contained, contained_among}
use Rattle.certificates.specs.Evidence.{Transition, Automaton}
use Rattle.automata.specs.Growth.{IsHeadBefore, IsTransitionBefore, AreLeast, AreTransitionsMany}
use Rattle.search_spaces.specs.Grown.{GrowsTo}

-- of two transitions at most one is before the other
heads_once : (a b : Option ℕ) → IsHeadBefore a b → IsHeadBefore b a → ⊥
heads_once (Some f) (Some g) h k = omega (arith, h, k)
heads_once (Some f) None h k = k
heads_once None b h k = h

head_not_same : (a b : Option ℕ) → IsHeadBefore a b → a ≡ b → ⊥
head_not_same a b h e = let k = subst (IsHeadBefore a) (sym e) h in heads_once a a k k

abbrev TailBefore : Transition → Transition → Type 0
TailBefore c d = IsBefore c.arguments d.arguments ⊎ ((c.arguments ≡ d.arguments) × (c.target < d.target))

tails_once : (c d : Transition) → TailBefore c d → TailBefore d c → ⊥
tails_once c d (inl h) (inl k) = before_not_both c.arguments d.arguments h k
tails_once c d (inl h) (inr (e, k)) = before_not_same c.arguments (subst (IsBefore c.arguments) e h)
tails_once c d (inr (e, h)) (inl k) = before_not_same d.arguments (subst (IsBefore d.arguments) e k)
tails_once c d (inr (e, h)) (inr (f, k)) = omega (arith, h, k)

transitions_once : (c d : Transition) → IsTransitionBefore c d → IsTransitionBefore d c → ⊥
transitions_once c d (inl h) (inl k) = heads_once c.symbol d.symbol h k
transitions_once c d (inl h) (inr (e, k)) = head_not_same c.symbol d.symbol h (sym e)
transitions_once c d (inr (e, h)) (inl k) = head_not_same d.symbol c.symbol k (sym e)
transitions_once c d (inr (e, h)) (inr (f, k)) = tails_once c d h k

module _ (sys : System) (s : Term) where
  -- what is asked for is in each set that has grown
  least_within : (cs ds : List Transition) → AreLeast sys s cs → AreLeast sys s ds → (d : Transition) → IsAmong d cs → IsAmong d ds
  least_within cs ds h k d m = among_contained d ds (h.least d (contained_among d cs m) ds k.grown_set)

  same_automaton : (a b : Automaton) → a.states ≡ b.states → a.accepting ≡ b.accepting → a.transitions ≡ b.transitions → a ≡ b
  same_automaton a b e f g = grind arith

  pub grown_once : (a b : Automaton) → GrowsTo sys s a → GrowsTo sys s b → a ≡ b
  grown_once a b h k =
      let x = h.growth in
      let y = k.growth in
      same_automaton a b (x.states ∙ sym y.states) (x.accepting ∙ sym y.accepting)
      (sorted_once IsTransitionBefore transitions_once a.transitions b.transitions x.transitions.sorted y.transitions.sorted
      (least_within a.transitions b.transitions x.transitions y.transitions)
      (least_within b.transitions a.transitions y.transitions x.transitions))

-- a list in order, each member of which is in another one, is no longer
abbrev IsPart : List Transition → List Transition → Type 0
IsPart ds es = (d : Transition) → IsAmong d ds → IsAmong d es

without_head : (c d : Transition) (cs ds : List Transition) → c ≡ d → IsBeforeAll IsTransitionBefore c cs → IsPart (c ∷ cs) (d ∷ ds) → IsPart cs ds
without_head c d cs ds same low part e m = go (part e (inr m))
  where
    go : (e ≡ d) ⊎ IsAmong e ds → IsAmong e ds
    go (inl is) = absurd (let h = subst (IsTransitionBefore c) (is ∙ sym same) (before_one IsTransitionBefore c e cs low m) in transitions_once c c h h)
    go (inr k) = k

past_head : (c d : Transition) (cs ds : List Transition) → IsBeforeAll IsTransitionBefore c cs → IsBeforeAll IsTransitionBefore d ds → IsAmong c ds → IsPart (c ∷ cs) (d ∷ ds) → IsPart (c ∷ cs) ds
past_head c d cs ds low high at part e (inl is) = subst (λ z. IsAmong z ds) (sym is) at
past_head c d cs ds low high at part e (inr m) = go (part e (inr m))
  where
    go : (e ≡ d) ⊎ IsAmong e ds → IsAmong e ds
    go (inl is) =
        absurd (transitions_once c d (subst (IsTransitionBefore c) is (before_one IsTransitionBefore c e cs low m)) (before_one IsTransitionBefore d c ds high at))
    go (inr k) = k

part_short : (cs ds : List Transition) → IsSorted IsTransitionBefore cs → IsSorted IsTransitionBefore ds → IsPart cs ds → length cs ≤ length ds
part_short [] ds p q part = omega arith
part_short (c ∷ cs) [] p q part = absurd (part c (inl refl))
part_short (c ∷ cs) (d ∷ ds) p q part =
    go (part c (inl refl)) (λ e. part_short cs ds p.1 q.1 (without_head c d cs ds e p.0 part)) (λ m. part_short (c ∷ cs) ds p q.1 (past_head c d cs ds p.0 q.0 m part))
  where
    go : (c ≡ d) ⊎ IsAmong c ds → (c ≡ d → length cs ≤ length ds) → (IsAmong c ds → suc (length cs) ≤ length ds) → suc (length cs) ≤ suc (length ds)
    go (inl e) same later = let less = same e in omega (arith, less)
    go (inr m) same later = let less = later m in omega (arith, less)

-- where more than 5,000 different transitions are asked for, nothing grows within the limit
pub not_many : (sys : System) (s : Term) (a : Automaton) → GrowsTo sys s a → AreTransitionsMany sys s → ⊥
not_many sys s a g m =
    let most =
    part_short m.some a.transitions m.different g.growth.transitions.sorted
    (λ d k. among_contained d a.transitions (m.asked d (contained_among d m.some k) a.transitions g.growth.transitions.grown_set)) in
    let few = g.few_transitions in
    let many = m.many in omega (arith, most, few, many)
