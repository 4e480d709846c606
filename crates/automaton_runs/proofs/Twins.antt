-- Transitions put into a set, and looked up there.
use Rattle.std.proofs.Common.{◌≡◌, ◌↔◌, ◌⊎◌, ℕ, inl, inr, ⊎_elim, Bool, true, List, [], ◌∷◌, ◌++◌, map, Option, None, Some, Ordering, nat_cmp, refl, ap, sym, subst, ◌∙◌}
use Rattle.std.specs.List.{list_any, filter}
use Rattle.std.specs.Ordering.{is_eq, ordering_then, match_ordering}
use Rattle.std.specs.Option.{option_cmp}
use Rattle.std.specs.Cmp.{nat_cmp_total}
use Rattle.std.specs.Cmp.Lexicographic.{slice_cmp}
use Rattle.std.specs.BTreeMap.{is_at}
use Rattle.std.specs.BTreeSet.{insert_key}
use Rattle.std.specs.declared.cmp.Ordering.TheVariants.{Less, Equal, Greater}
use Rattle.std.proofs.lemmas.Bool.{false≢true, or_cases, or_right, or_left}
use Rattle.std.proofs.lemmas.Cmp.{tied_itself, nat_list_cmp_total}
use Rattle.number_sets.proofs.Members.{in_filter, filter_in}
use Rattle.certificates.specs.Evidence.{Transition}
use Rattle.cert_model.specs.EvidenceView.{transition_view}
use Rattle.cert_model.specs.declared.evidence.Transition as cert
use Rattle.automaton_runs.specs.Counted.{Indexed, Finds}
use Rattle.automata.specs.Runs.{Symbols}
use Rattle.rewriting.specs.Lists.{IsAmong}
use Rattle.automaton_runs.specs.Counting.{counts}
use Rattle.automaton_runs.specs.Twins.{known_view}
use Rattle.automaton_runs.specs.declared.index.Known.{Known}
use Rattle.rewriting.proofs.Lists.{among_left, among_right, among_either}
use Rattle.rewriting.proofs.Members.{among_contained}
use Rattle.automaton_runs.proofs.Comparisons.{same_of, equal_of, is_eq_of}
use Rattle.automaton_runs.proofs.Counted.{has_from, counts_has}

-- the order of transitions in the set
abbrev pub compare_known : Known → Known → Ordering
compare_known x y = ordering_then (option_cmp nat_cmp x.symbol y.symbol) (ordering_then (slice_cmp nat_cmp x.args.now y.args.now) (nat_cmp x.target y.target))

option_same : (a b : Option ℕ) → option_cmp nat_cmp a b ≡ Equal → a ≡ b
option_same None None e = refl
option_same None (Some y) e = absurd (cc)
option_same (Some x) None e = absurd (cc)
option_same (Some x) (Some y) e = ap Some (equal_of x y e)

option_tied : (a : Option ℕ) → option_cmp nat_cmp a a ≡ Equal
option_tied None = refl
option_tied (Some x) = tied_itself nat_cmp_total x

made : Option ℕ → List ℕ → ℕ → Transition
made s qs q = record { symbol = s; arguments = qs; target = q }

known_equal : (x y : Known) → compare_known x y ≡ Equal → known_view x ≡ known_view y
unfolding made
known_equal x y e = first (option_cmp nat_cmp x.symbol y.symbol) refl e
  where
    second : (o : Ordering) → slice_cmp nat_cmp x.args.now y.args.now ≡ o → x.symbol ≡ y.symbol → ordering_then o (nat_cmp x.target y.target) ≡ Equal → known_view x ≡ known_view y
    second Less s p t = absurd (cc)
    second Equal s p t =
        ap (λ (f : Option ℕ). made f x.args.now x.target) p ∙ ap (λ (qs : List ℕ). made y.symbol qs x.target) (same_of _ _ s) ∙ ap (λ (q : ℕ). made y.symbol y.args.now q) (equal_of _ _ t)
    second Greater s p t = absurd (cc)

    first : (o : Ordering) → option_cmp nat_cmp x.symbol y.symbol ≡ o
        → ordering_then o (ordering_then (slice_cmp nat_cmp x.args.now y.args.now) (nat_cmp x.target y.target)) ≡ Equal → known_view x ≡ known_view y
    first Less s t = absurd (cc)
    first Equal s t = second (slice_cmp nat_cmp x.args.now y.args.now) refl (option_same _ _ s) t
    first Greater s t = absurd (cc)

known_tied : (x y : Known) → known_view x ≡ known_view y → compare_known x y ≡ Equal
known_tied x y e =
    let one : option_cmp nat_cmp x.symbol y.symbol ≡ Equal = subst (λ (s : Option ℕ). option_cmp nat_cmp x.symbol s ≡ Equal) (ap (λ (t : Transition). t.symbol) e) (option_tied x.symbol) in
    let two : slice_cmp nat_cmp x.args.now y.args.now ≡ Equal =
    subst (λ (s : List ℕ). slice_cmp nat_cmp x.args.now s ≡ Equal) (ap (λ (t : Transition). t.arguments) e) (tied_itself nat_list_cmp_total x.args.now) in
    let three : nat_cmp x.target y.target ≡ Equal = subst (λ (s : ℕ). nat_cmp x.target s ≡ Equal) (ap (λ (t : Transition). t.target) e) (tied_itself nat_cmp_total x.target) in
    ap (λ (o : Ordering). ordering_then o (ordering_then (slice_cmp nat_cmp x.args.now y.args.now) (nat_cmp x.target y.target))) one
    ∙ ap (λ (o : Ordering). ordering_then o (nat_cmp x.target y.target)) two
    ∙ three

inserted : (k x : Known) (xs rest : List Known) (u : Transition) → IsAmong u (map known_view rest) ↔ (IsAmong u (map known_view xs) ⊎ (u ≡ known_view k)) → (o : Ordering) → compare_known k x ≡ o
    → IsAmong u (map known_view (match_ordering o (k ∷ x ∷ xs) (x ∷ xs) (x ∷ rest))) ↔ (IsAmong u (map known_view (x ∷ xs)) ⊎ (u ≡ known_view k))
inserted k x xs rest u ih Less e = (λ h. ⊎_elim (λ f. inr f) (λ g. inl g) h, λ h. ⊎_elim (λ g. inr g) (λ f. inl f) h)
inserted k x xs rest u ih Equal e = (λ h. inl h, λ h. ⊎_elim (λ g. g) (λ f. inl (f ∙ known_equal k x e)) h)
inserted k x xs rest u ih Greater e = (
  λ h. ⊎_elim (λ f. inl (inl f)) (λ g. ⊎_elim (λ a. inl (inr a)) (λ b. inr b) (ih.0 g)) h,
  λ h. ⊎_elim (λ g. ⊎_elim (λ f. inl f) (λ a. inr (ih.1 (inl a))) g) (λ f. inr (ih.1 (inr f))) h,
)

pub in_inserted : (ks : List Known) (k : Known) (u : Transition) → IsAmong u (map known_view (insert_key compare_known ks k)) ↔ (IsAmong u (map known_view ks) ⊎ (u ≡ known_view k))
in_inserted [] k u = (λ h. ⊎_elim (λ f. inr f) (λ g. absurd g) h, λ h. ⊎_elim (λ g. absurd g) (λ f. inl f) h)
in_inserted (x ∷ xs) k u = inserted k x xs (insert_key compare_known xs k) u (in_inserted xs k u) (compare_known k x) refl

found : (ks : List Known) (k : Known) → list_any (is_at (compare_known k)) ks ≡ true → IsAmong (known_view k) (map known_view ks)
found [] k e = absurd (false≢true e)
found (x ∷ xs) k e = ⊎_elim (λ h. inl (known_equal k x (is_eq_of _ h))) (λ h. inr (found xs k h)) (or_cases (is_at (compare_known k) x) (list_any (is_at (compare_known k)) xs) e)

stands : (ks : List Known) (k : Known) → IsAmong (known_view k) (map known_view ks) → list_any (is_at (compare_known k)) ks ≡ true
stands [] k h = absurd h
stands (x ∷ xs) k (inl e) = or_left (is_at (compare_known k) x) _ (ap is_eq (known_tied k x e))
stands (x ∷ xs) k (inr h) = or_right (is_at (compare_known k) x) _ (stands xs k h)

-- a look-up answers whether the automaton has the transition
pub looked_up : (a : Indexed) (ks : List Known) (k : Known) → ((t : Transition) → IsAmong t (map known_view ks) ↔ IsAmong t (filter (counts a.symbols a.automaton.states) a.automaton.transitions))
    → (list_any (is_at (compare_known k)) ks ≡ true) ↔ Finds a k.symbol k.args.now k.target
looked_up a ks k same = (
  λ e. let i = in_filter (counts a.symbols a.automaton.states) (known_view k) a.automaton.transitions ((same (known_view k)).0 (found ks k e)) in has_from a (known_view k) i.0 i.1,
  λ h. stands ks k ((same (known_view k)).1 (filter_in (counts a.symbols a.automaton.states) (known_view k) a.automaton.transitions
      (among_contained (known_view k) a.automaton.transitions h.listed) (counts_has a k.symbol k.args.now k.target h))),
)

filter_parts : (p : Transition → Bool) (ts : List Transition) (t u : Transition) → IsAmong u (filter p (ts ++ t ∷ [])) ↔ (IsAmong u (filter p ts) ⊎ ((u ≡ t) × (p t ≡ true)))
filter_parts p ts t u = (into, back)
  where
    into : IsAmong u (filter p (ts ++ t ∷ [])) → IsAmong u (filter p ts) ⊎ ((u ≡ t) × (p t ≡ true))
    into h =
        let i = in_filter p u (ts ++ t ∷ []) h in
        ⊎_elim (λ g. inl (filter_in p u ts g i.1)) (λ g. let same : u ≡ t = ⊎_elim (λ e. e) (λ k. absurd k) g in inr (same, ap p (sym same) ∙ i.1)) (among_either u ts (t ∷ []) i.0)

    back : IsAmong u (filter p ts) ⊎ ((u ≡ t) × (p t ≡ true)) → IsAmong u (filter p (ts ++ t ∷ []))
    back (inl g) = let i = in_filter p u ts g in filter_in p u (ts ++ t ∷ []) (among_left u ts (t ∷ []) i.0) i.1
    back (inr (e, h)) = filter_in p u (ts ++ t ∷ []) (among_right u ts (t ∷ []) (inl e)) (ap p e ∙ h)

-- the loop's step
pub known_more : (symbols : Symbols) (n : ℕ) (ts : List Transition) (t : Transition) (old new : List Transition) → ((u : Transition) → IsAmong u old ↔ IsAmong u (filter (counts symbols n) ts))
    → ((u : Transition) → IsAmong u new ↔ (IsAmong u old ⊎ ((u ≡ t) × (counts symbols n t ≡ true)))) → (u : Transition) → IsAmong u new ↔ IsAmong u (filter (counts symbols n) (ts ++ t ∷ []))
known_more symbols n ts t old new same step u =
    let parts = filter_parts (counts symbols n) ts t u in (
      λ h. parts.1 (⊎_elim (λ g. inl ((same u).0 g)) (λ p. inr p) ((step u).0 h)),
      λ h. (step u).1 (⊎_elim (λ g. inl ((same u).1 g)) (λ p. inr p) (parts.0 h)),
    )

-- a transition that counts is put into the set
pub put_counted : (symbols : Symbols) (n : ℕ) (t : cert.Transition) (k : Known) (old new : List Known) → known_view k ≡ transition_view t → new ≡ insert_key compare_known old k
    → counts symbols n (transition_view t) ≡ true
    → (u : Transition) → IsAmong u (map known_view new) ↔ (IsAmong u (map known_view old) ⊎ ((u ≡ transition_view t) × (counts symbols n (transition_view t) ≡ true)))
put_counted symbols n t k old new same is e u =
    let step = in_inserted old k u in (
      λ h. ⊎_elim (λ g. inl g) (λ f. inr (f ∙ same, e)) (step.0 (subst (λ (ks : List Known). IsAmong u (map known_view ks)) is h)),
      λ h. subst (λ (ks : List Known). IsAmong u (map known_view ks)) (sym is) (step.1 (⊎_elim (λ g. inl g) (λ p. inr (p.0 ∙ sym same)) h)),
    )

pub fields : (k : Known) (t : cert.Transition) → k.symbol ≡ t.symbol → k.args.now ≡ t.args.items → k.target ≡ t.target → known_view k ≡ transition_view t
unfolding made
fields k t p s q =
    ap (λ (f : Option ℕ). made f k.args.now k.target) p ∙ ap (λ (qs : List ℕ). made t.symbol qs k.target) s ∙ ap (λ (r : ℕ). made t.symbol t.args.items r) q
