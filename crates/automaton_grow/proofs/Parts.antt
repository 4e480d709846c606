-- What is wanted, part by part.
use Rattle.std.proofs.Common.{◌≡◌, ℕ, ◌+◌, ◌<◌, ◌≤◌, ◌⊎◌, inl, inr, refl, sym, ap, ap₂, ◌∙◌, subst, List, [], ◌∷◌, ◌++◌, map, take, drop, length, get_or, replicate, Some}
use Rattle.std.proofs.Common.{None, Ok, Err, Result, Bool, true, false, arith}
use Rattle.std.specs.Prelude.{slice_get, Contains, nat_eq, if◌then◌else◌}
use Rattle.std.proofs.Common.{eqb-true, eq-eqb}
use Rattle.std.proofs.lemmas.List.Elements.{Contains-append_left, Contains-append_right, Contains-append_cases}
use Rattle.std.proofs.lemmas.Option.{slice_get_within}
use Rattle.std.proofs.lemmas.List.{append-nil, map-append, take-append-drop}
use Rattle.general_lemmas.proofs.Numbers.{lt_or_last}
use Rattle.general_lemmas.proofs.Places.{map-take_read, slice_get-map_read}
use Rattle.rewriting.specs.Terms as terms
use Rattle.rewriting.specs.Prelude.{var, app, Signature, variable_occurrences, IsSorted}
use Rattle.rewriting.specs.Rules as math
use Rattle.certificates.specs.Evidence as evidence
use Rattle.certificates.specs.Evidence.{Automaton}
use Rattle.cert_model.specs.declared.evidence.Transition.{Transition}
use Rattle.cert_model.specs.EvidenceView.{transition_view}
use Rattle.automata.specs.Runs.{Has}
use Rattle.automata.proofs.Asked.{by-mono, contains_head}
use Rattle.automaton_runs.specs.Counted.{under_all}
use Rattle.automata.specs.Closed.{state_of}
use Rattle.automata.specs.Growth.{grown, inside, moves, first_state, state_count, AreLeast, IsTransitionBefore}
use Rattle.automaton_runs.specs.Arrivals.{arrival_view, AreArrivals}
use Rattle.automaton_runs.specs.declared.runs.Arrival.{Arrival}
use Rattle.automaton_grow.specs.Growing.{twins, twins_of, IsAskedAt, IsAskedByRule, IsAskedBelow, IsBasic, for_symbol, for_variables, for_term, IsAdded, AddAnswers, AreAllStates, IsPartial}
use Rattle.automaton_grow.specs.Rounds.{IsForSymbol, IsBasicOf, IsAskedByRows, PartialAnswers, RoundAnswers}
use Rattle.automaton_grow.specs.declared.GrowError.{GrowError}
use Rattle.automaton_grow.specs.declared.GrowError.TheVariants.{TooWide, TooManyStates, TooManyTransitions, NoMemory}
use Rattle.automaton_grow.proofs.Adding.{contains_none, contains_cases, contains_at, added_after, added_nothing, answers_renamed, answers_after_error}
use Rattle.automaton_grow.proofs.Asking.{moves_had, first_many, next_many, next_partial, least_when_closed}
use Rattle.automaton_grow.proofs.States.{twin_in, twin_from}

-- members of a list, and of one with one more
module _ {A B : Type 0} (f : A → B) where
  pub taken : (xs : List A) (i : ℕ) (y : B) → Contains (map f (take i xs)) y → Contains (map f xs) y
  taken xs i y h =
      subst (λ z. Contains z y) (sym (map-append f (take i xs) (drop i xs)) ∙ ap (map f) (take-append-drop i xs))
      (Contains-append_left (map f (take i xs)) (map f (drop i xs)) y h)

  pub stands : (xs : List A) (i : ℕ) (x : A) → i < length xs → x ≡ get_or xs i x → Contains (map f xs) (f x)
  stands xs i x h e = contains_at (map f xs) i (f x) (slice_get-map_read f xs i x h e)

module _ {A : Type 0} (xs : List A) (x : A) where
  there_last : Contains (xs ++ x ∷ []) x
  there_last = Contains-append_right xs (x ∷ []) x (contains_head x [])

  there_or_last : (y : A) → Contains (xs ++ x ∷ []) y → Contains xs y ⊎ (y ≡ x)
  there_or_last y h = go (Contains-append_cases xs (x ∷ []) y h)
    where
      last : (y ≡ x) ⊎ Contains [] y → y ≡ x
      last (inl e) = e
      last (inr k) = absurd (contains_none y k)

      go : Contains xs y ⊎ Contains (x ∷ []) y → Contains xs y ⊎ (y ≡ x)
      go (inl k) = inl k
      go (inr k) = inr (last (contains_cases x [] y k))

-- the wanted so far, with more
pub answers_next : (P Q R : evidence.Transition → Type 0) (a b c : List evidence.Transition) → ((d : evidence.Transition) → P d → R d) → ((d : evidence.Transition) → Q d → R d)
    → ((d : evidence.Transition) → R d → P d ⊎ Q d)
    → IsAdded P a b × (length b ≤ 5000) → IsAdded Q b c × (length c ≤ 5000) → IsAdded R a c × (length c ≤ 5000)
answers_next P Q R a b c p q r (h, few) (k, most) = (added_after P Q R a b c p q r h k, most)

pub answers_error : (P Q R : evidence.Transition → Type 0) (a b c : List evidence.Transition) (why : GrowError) → ((d : evidence.Transition) → P d → R d)
    → ((d : evidence.Transition) → Q d → R d) → IsAdded P a b × (length b ≤ 5000)
    → AddAnswers Q b c (Err why) → AddAnswers R a c (Err why)
answers_error P Q R a b c why p q h k = answers_after_error P Q R a b c c why p q h.0 k refl

answers_first : (P : evidence.Transition → Type 0) (a : List evidence.Transition) → IsSorted IsTransitionBefore a → length a ≤ 5000 → ((d : evidence.Transition) → P d → ⊥)
    → IsAdded P a a × (length a ≤ 5000)
answers_first P a sorted few none = (added_nothing P a sorted none, few)

-- one more wanted, behind a list of them
listed_next : (ds es : List evidence.Transition) (x : evidence.Transition) (a b c : List evidence.Transition) → es ≡ ds ++ x ∷ [] → IsAdded (Contains ds) a b × (length b ≤ 5000)
    → IsAdded (λ d. d ≡ x) b c × (length c ≤ 5000) → IsAdded (Contains es) a c × (length c ≤ 5000)
listed_next ds es x a b c e = answers_next (Contains ds) (λ d. d ≡ x) (Contains es) a b c
    (λ d k. subst (λ z. Contains z d) (sym e) (Contains-append_left ds (x ∷ []) d k))
    (λ d k. subst (λ z. Contains z d) (sym e) (subst (Contains (ds ++ x ∷ [])) (sym k) (there_last ds x)))
    (λ d k. there_or_last ds x d (subst (λ z. Contains z d) e k))

-- the members of a list, one by one
module _ {A : Type 0} (f : A → evidence.Transition) (xs : List A) where
  abbrev pub Upto : ℕ → evidence.Transition → Type 0
  Upto i = Contains (map f (take i xs))

  pub upto_next : (i : ℕ) (x : A) (a b c : List evidence.Transition) → i < length xs → x ≡ get_or xs i x → IsAdded (Upto i) a b × (length b ≤ 5000)
      → IsAdded (λ d. d ≡ f x) b c × (length c ≤ 5000) → IsAdded (Upto (i + 1)) a c × (length c ≤ 5000)
  upto_next i x a b c h e = listed_next (map f (take i xs)) (map f (take (i + 1) xs)) (f x) a b c (map-take_read f xs i x h e)

  pub upto_error : (i : ℕ) (x : A) (a b c : List evidence.Transition) (why : GrowError) → i < length xs → x ≡ get_or xs i x → IsAdded (Upto i) a b × (length b ≤ 5000)
      → AddAnswers (λ d. d ≡ f x) b c (Err why) → AddAnswers (Contains (map f xs)) a c (Err why)
  upto_error i x a b c why h e = answers_error (Upto i) (λ d. d ≡ f x) (Contains (map f xs)) a b c why (λ d k. taken f xs i d k) (λ d k. subst (Contains (map f xs)) (sym k) (stands f xs i x h e))

-- twins, one by one
twins_append : (p q : ℕ) (ds es : List evidence.Transition) → twins p q (ds ++ es) ≡ twins p q ds ++ twins p q es
twins_append p q [] es = refl
twins_append p q (d ∷ ds) es = go (nat_eq d.target p) (twins_append p q ds es)
  where
    go : (b : Bool) → twins p q (ds ++ es) ≡ twins p q ds ++ twins p q es
        → (if b then (record d { target = q }) ∷ twins p q (ds ++ es) else twins p q (ds ++ es)) ≡ (if b then (record d { target = q }) ∷ twins p q ds else twins p q ds) ++ twins p q es
    go true e = ap (λ z. (record d { target = q }) ∷ z) e
    go false e = e

module _ (p q : ℕ) (ds : List Transition) (i : ℕ) (d : Transition) (h : i < length ds) (at : d ≡ get_or ds i d) where
  abbrev So : ℕ → evidence.Transition → Type 0
  So k = Contains (twins p q (map transition_view (take k ds)))

  next_twins : twins p q (map transition_view (take (i + 1) ds)) ≡ twins p q (map transition_view (take i ds)) ++ twins p q (transition_view d ∷ [])
  next_twins = ap (twins p q) (map-take_read transition_view ds i d h at) ∙ twins_append p q (map transition_view (take i ds)) (transition_view d ∷ [])

  one_twin : d.target ≡ p → twins p q (transition_view d ∷ []) ≡ record (transition_view d) { target = q } ∷ []
  one_twin e = rw (eq-eqb d.target p e) refl

  no_twin : (d.target ≡ p → ⊥) → twins p q (transition_view d ∷ []) ≡ []
  no_twin n = go (nat_eq d.target p) refl
    where
      go : (b : Bool) → nat_eq d.target p ≡ b → (if b then (record (transition_view d) { target = q }) ∷ [] else []) ≡ []
      go true e = absurd (n (eqb-true d.target p e))
      go false e = refl

  pub twins_next : (a b c : List evidence.Transition) → d.target ≡ p → IsAdded (So i) a b × (length b ≤ 5000)
      → IsAdded (λ x. x ≡ record (transition_view d) { target = q }) b c × (length c ≤ 5000) → IsAdded (So (i + 1)) a c × (length c ≤ 5000)
  twins_next a b c e =
      let before = twins p q (map transition_view (take i ds)) in
      listed_next before (twins p q (map transition_view (take (i + 1) ds))) (record (transition_view d) { target = q }) a b c (next_twins ∙ ap (λ z. before ++ z) (one_twin e))

  pub twins_same : (a b : List evidence.Transition) → (d.target ≡ p → ⊥) → IsAdded (So i) a b × (length b ≤ 5000) → IsAdded (So (i + 1)) a b × (length b ≤ 5000)
  twins_same a b n k = subst (λ z. IsAdded (Contains z) a b × (length b ≤ 5000))
      (sym (next_twins ∙ ap (λ z. twins p q (map transition_view (take i ds)) ++ z) (no_twin n) ∙ append-nil (twins p q (map transition_view (take i ds))))) k

  pub twins_error : (a b c : List evidence.Transition) (why : GrowError) → d.target ≡ p → IsAdded (So i) a b × (length b ≤ 5000)
      → AddAnswers (λ x. x ≡ record (transition_view d) { target = q }) b c (Err why)
      → AddAnswers (Contains (twins p q (map transition_view ds))) a c (Err why)
  twins_error a b c why e = answers_error (So i) (λ x. x ≡ record (transition_view d) { target = q }) (Contains (twins p q (map transition_view ds))) a b c why
      (λ x k. twins_within (map transition_view (take i ds)) (map transition_view ds) (λ z m. taken transition_view ds i z m) x k)
      (λ x k. subst (Contains (twins p q (map transition_view ds))) (sym k) (twin_in p q (map transition_view ds) (transition_view d) (stands transition_view ds i d h at) e))
    where
      twins_within : (xs ys : List evidence.Transition) → ((z : evidence.Transition) → Contains xs z → Contains ys z) → (x : evidence.Transition)
          → Contains (twins p q xs) x → Contains (twins p q ys) x
      twins_within xs ys more x k =
          let t = twin_from p q xs x k in subst (Contains (twins p q ys)) (sym t.same) (twin_in p q ys t.source (more t.source t.stands) t.leads)

-- symbols, one by one
module _ (arities : Signature) (i n : ℕ) (h : i < length arities) (at : slice_get arities i ≡ Some n) where
  wider : (k m : ℕ) (d : evidence.Transition) → k ≤ m → IsForSymbol arities k d → IsForSymbol arities m d
  wider k m d l s = record { symbol = s.symbol; arity = s.arity; below = let b = s.below in omega arith; has = s.has; same = s.same }

  this : (m : ℕ) (d : evidence.Transition) → i < m → d ≡ record { symbol = Some i; arguments = replicate n 0; target = 0 } → IsForSymbol arities m d
  this m d l e = record { symbol = i; arity = n; below = l; has = at; same = e }

  either : (d : evidence.Transition) → IsForSymbol arities (i + 1) d → IsForSymbol arities i d ⊎ (d ≡ record { symbol = Some i; arguments = replicate n 0; target = 0 })
  either d s = go (lt_or_last s.symbol i s.below)
    where
      go : (s.symbol < i) ⊎ (s.symbol ≡ i) → IsForSymbol arities i d ⊎ (d ≡ record { symbol = Some i; arguments = replicate n 0; target = 0 })
      go (inl l) = inl (record { symbol = s.symbol; arity = s.arity; below = l; has = s.has; same = s.same })
      go (inr e) =
          let has : slice_get arities i ≡ Some s.arity = subst (λ z. slice_get arities z ≡ Some s.arity) e s.has in
          let same : s.arity ≡ n = cc in
          inr (s.same ∙ ap₂ (λ (f k : ℕ). let x : evidence.Transition = record { symbol = Some f; arguments = replicate k 0; target = 0 } in x) e same)

  pub symbols_next : (a b c : List evidence.Transition) → IsAdded (IsForSymbol arities i) a b × (length b ≤ 5000)
      → IsAdded (λ d. d ≡ record { symbol = Some i; arguments = replicate n 0; target = 0 }) b c × (length c ≤ 5000)
      → IsAdded (IsForSymbol arities (i + 1)) a c × (length c ≤ 5000)
  symbols_next a b c = answers_next (IsForSymbol arities i) (λ d. d ≡ record { symbol = Some i; arguments = replicate n 0; target = 0 }) (IsForSymbol arities (i + 1)) a b c
      (λ d k. wider i (i + 1) d (omega arith) k) (λ d k. this (i + 1) d (omega arith) k) either

  pub symbols_error : (some a b c : List evidence.Transition) (why : GrowError) → IsAdded (IsForSymbol arities i) a b × (length b ≤ 5000)
      → AddAnswers (λ d. d ≡ record { symbol = Some i; arguments = replicate n 0; target = 0 }) b c (Err why)
      → AddAnswers (IsBasicOf arities some) a c (Err why)
  symbols_error some a b c why = answers_error (IsForSymbol arities i) (λ d. d ≡ record { symbol = Some i; arguments = replicate n 0; target = 0 }) (IsBasicOf arities some) a b c why
      (λ d k. inl (wider i (length arities) d (omega arith) k)) (λ d k. inl (this (length arities) d h k))

-- what state 0 and the term ask for
pub basic_from : (sys : math.System) (s : terms.Term) (ds : List evidence.Transition) (d : evidence.Transition) → ds ≡ inside (λ x. 0) 1 s → IsBasicOf sys.arities ds d → IsBasic sys s d
basic_from sys s ds d e (inl f) = for_symbol f.symbol f.arity f.has f.same
basic_from sys s ds d e (inr (inl h)) = for_variables h
basic_from sys s ds d e (inr (inr h)) = for_term (subst (λ z. Contains z d) e h)

pub basic_to : (sys : math.System) (s : terms.Term) (ds : List evidence.Transition) (d : evidence.Transition) → ds ≡ inside (λ x. 0) 1 s → IsBasic sys s d → IsBasicOf sys.arities ds d
basic_to sys s ds d e (for_symbol f n has same) = inl (record { symbol = f; arity = n; below = slice_get_within sys.arities f n has; has = has; same = same })
basic_to sys s ds d e (for_variables h) = inr (inl h)
basic_to sys s ds d e (for_term h) = inr (inr (subst (λ z. Contains z d) (sym e) h))

-- the two kinds of right sides
module _ (r : math.Rule) (n : ℕ) (ds : List evidence.Transition) (cs : List ℕ) (q : ℕ) where
  pub asked_var : (x : ℕ) (a b : List evidence.Transition) (o : Result (Unit {0}) GrowError) → r.right ≡ var x
      → AddAnswers (Contains (twins (state_of (variable_occurrences r.left) cs x) q ds)) a b o → AddAnswers (IsAskedAt n r ds cs q) a b o
  asked_var x a b o is = answers_renamed (Contains (twins (state_of (variable_occurrences r.left) cs x) q ds)) (IsAskedAt n r ds cs q) a b o
      (λ d h. inr (subst (λ t. Contains (twins_of (state_of (variable_occurrences r.left) cs) t q ds) d) (sym is) h)) (λ d h. go d h)
    where
      go : (d : evidence.Transition) → IsAskedAt n r ds cs q d → Contains (twins (state_of (variable_occurrences r.left) cs x) q ds) d
      go d (inl h) = absurd (contains_none d (subst (λ t. Contains (grown (state_of (variable_occurrences r.left) cs) n t q) d) is h))
      go d (inr h) = subst (λ t. Contains (twins_of (state_of (variable_occurrences r.left) cs) t q ds) d) is h

  pub asked_app : (f : ℕ) (ts : terms.Terms) (some a b : List evidence.Transition) (o : Result (Unit {0}) GrowError) → r.right ≡ app f ts
      → some ≡ grown (state_of (variable_occurrences r.left) cs) n r.right q → AddAnswers (Contains some) a b o → AddAnswers (IsAskedAt n r ds cs q) a b o
  asked_app f ts some a b o is e = answers_renamed (Contains some) (IsAskedAt n r ds cs q) a b o (λ d h. inl (subst (λ z. Contains z d) e h)) (λ d h. go d h)
    where
      go : (d : evidence.Transition) → IsAskedAt n r ds cs q d → Contains some d
      go d (inl h) = subst (λ z. Contains z d) (sym e) h
      go d (inr h) = absurd (contains_none d (subst (λ t. Contains (twins_of (state_of (variable_occurrences r.left) cs) t q ds) d) is h))

-- arrivals, one by one
module _ (n : ℕ) (r : math.Rule) (ds : List evidence.Transition) (rows : List Arrival) where
  more_rows : (xs ys : List (List ℕ × ℕ)) (d : evidence.Transition) → ((x : List ℕ × ℕ) → Contains xs x → Contains ys x) → IsAskedByRows n r ds xs d → IsAskedByRows n r ds ys d
  more_rows xs ys d more a = record { choice = a.choice; state = a.state; row = more (a.choice, a.state) a.row; asked = a.asked }

  module _ (i : ℕ) (row : Arrival) (h : i < length rows) (at : row ≡ get_or rows i row) where
    split_rows : (d : evidence.Transition) → IsAskedByRows n r ds (map arrival_view (take i rows) ++ arrival_view row ∷ []) d
        → IsAskedByRows n r ds (map arrival_view (take i rows)) d ⊎ IsAskedAt n r ds row.choice.items row.state d
    split_rows d a = go (there_or_last (map arrival_view (take i rows)) (arrival_view row) (a.choice, a.state) a.row)
      where
        go : Contains {X = List ℕ × ℕ} (map arrival_view (take i rows)) (a.choice, a.state) ⊎ (let x : List ℕ × ℕ = (a.choice, a.state) in x ≡ arrival_view row)
            → IsAskedByRows n r ds (map arrival_view (take i rows)) d ⊎ IsAskedAt n r ds row.choice.items row.state d
        go (inl k) = inl (record { choice = a.choice; state = a.state; row = k; asked = a.asked })
        go (inr e) = inr (subst (λ (z : List ℕ × ℕ). IsAskedAt n r ds z.0 z.1 d) e a.asked)

    pub rows_next : (a b c : List evidence.Transition) → IsAdded (IsAskedByRows n r ds (map arrival_view (take i rows))) a b × (length b ≤ 5000)
        → IsAdded (IsAskedAt n r ds row.choice.items row.state) b c × (length c ≤ 5000)
        → IsAdded (IsAskedByRows n r ds (map arrival_view (take (i + 1) rows))) a c × (length c ≤ 5000)
    rows_next a b c k m = subst (λ z. IsAdded (IsAskedByRows n r ds z) a c × (length c ≤ 5000)) (sym (map-take_read arrival_view rows i row h at))
        (answers_next (IsAskedByRows n r ds (map arrival_view (take i rows))) (IsAskedAt n r ds row.choice.items row.state)
        (IsAskedByRows n r ds (map arrival_view (take i rows) ++ arrival_view row ∷ [])) a b c
        (λ d x. more_rows (map arrival_view (take i rows)) (map arrival_view (take i rows) ++ arrival_view row ∷ []) d
        (λ y z. Contains-append_left (map arrival_view (take i rows)) (arrival_view row ∷ []) y z) x)
        (λ d x. record {
          choice = row.choice.items;
          state = row.state;
          row = there_last (map arrival_view (take i rows)) (arrival_view row);
          asked = x;
        })
        split_rows k m)

    pub rows_error : (a b c : List evidence.Transition) (why : GrowError) → IsAdded (IsAskedByRows n r ds (map arrival_view (take i rows))) a b × (length b ≤ 5000)
        → AddAnswers (IsAskedAt n r ds row.choice.items row.state) b c (Err why)
        → AddAnswers (IsAskedByRows n r ds (map arrival_view rows)) a c (Err why)
    rows_error a b c why = answers_error (IsAskedByRows n r ds (map arrival_view (take i rows))) (IsAskedAt n r ds row.choice.items row.state) (IsAskedByRows n r ds (map arrival_view rows)) a b c why
        (λ d x. more_rows (map arrival_view (take i rows)) (map arrival_view rows) d (λ y z. taken arrival_view rows i y z) x)
        (λ d x. record { choice = row.choice.items; state = row.state; row = stands arrival_view rows i row h at; asked = x })

-- the rows are what the left side reaches
pub rows_rule : (a : Automaton) (n : ℕ) (r : math.Rule) (rows : List (List ℕ × ℕ)) (before after : List evidence.Transition) (o : Result (Unit {0}) GrowError) → AreAllStates a
    → AreArrivals (under_all a) r.left rows
    → AddAnswers (IsAskedByRows n r a.transitions rows) before after o → AddAnswers (IsAskedByRule a.states n r a.transitions) before after o
rows_rule a n r rows before after o good arrive = answers_renamed (IsAskedByRows n r a.transitions rows) (IsAskedByRule a.states n r a.transitions) before after o to from
  where
    to : (d : evidence.Transition) → IsAskedByRows n r a.transitions rows d → IsAskedByRule a.states n r a.transitions d
    to d k =
        let h = arrive.each k.choice k.state k.row in
        record { choice = k.choice; state = k.state; is_choice = h.0; reached = by-mono (Has None a) (moves a.transitions) (λ f qs q m. m.listed) r.left k.choice k.state h.1; asked = k.asked }

    from : (d : evidence.Transition) → IsAskedByRule a.states n r a.transitions d → IsAskedByRows n r a.transitions rows d
    from d k =
        record {
          choice = k.choice;
          state = k.state;
          row = arrive.complete k.choice k.state k.is_choice (by-mono (moves a.transitions) (Has None a) (λ f qs q m. moves_had a.states a.accepting a.transitions good f qs q m)
              r.left k.choice k.state k.reached);
          asked = k.asked;
        }

-- rules, one by one
module _ (sys : math.System) (s : terms.Term) (ds : List evidence.Transition) (i : ℕ) (r : math.Rule) (at : slice_get sys.rules i ≡ Some r) where
  further : (k m : ℕ) (d : evidence.Transition) → k ≤ m → IsAskedBelow sys s k ds d → IsAskedBelow sys s m ds d
  further k m d l a = record { number = a.number; rule = a.rule; below = let b = a.below in omega arith; is_rule = a.is_rule; by_rule = a.by_rule }

  this_rule : (m : ℕ) (d : evidence.Transition) → i < m → IsAskedByRule (state_count sys s) (first_state sys s i) r ds d → IsAskedBelow sys s m ds d
  this_rule m d l a = record { number = i; rule = r; below = l; is_rule = at; by_rule = a }

  split_rules : (d : evidence.Transition) → IsAskedBelow sys s (i + 1) ds d → IsAskedBelow sys s i ds d ⊎ IsAskedByRule (state_count sys s) (first_state sys s i) r ds d
  split_rules d a = go (lt_or_last a.number i a.below)
    where
      go : (a.number < i) ⊎ (a.number ≡ i) → IsAskedBelow sys s i ds d ⊎ IsAskedByRule (state_count sys s) (first_state sys s i) r ds d
      go (inl l) = inl (record { number = a.number; rule = a.rule; below = l; is_rule = a.is_rule; by_rule = a.by_rule })
      go (inr e) =
          let here : slice_get sys.rules i ≡ Some a.rule = subst (λ z. slice_get sys.rules z ≡ Some a.rule) e a.is_rule in
          let same : a.rule ≡ r = cc in
          inr (subst (λ q. IsAskedByRule (state_count sys s) (first_state sys s i) q ds d) same (subst (λ z. IsAskedByRule (state_count sys s) (first_state sys s z) a.rule ds d) e a.by_rule))

  module _ (n first : ℕ) (states : n ≡ state_count sys s) (firsts : first ≡ first_state sys s i) where
    renamed : (b c : List evidence.Transition) (o : Result (Unit {0}) GrowError) → AddAnswers (IsAskedByRule n first r ds) b c o
        → AddAnswers (IsAskedByRule (state_count sys s) (first_state sys s i) r ds) b c o
    renamed b c o h = subst (λ z. AddAnswers (IsAskedByRule z (first_state sys s i) r ds) b c o) states (subst (λ z. AddAnswers (IsAskedByRule n z r ds) b c o) firsts h)

    pub rules_next : (a b c : List evidence.Transition) → IsAdded (IsAskedBelow sys s i ds) a b × (length b ≤ 5000) → IsAdded (IsAskedByRule n first r ds) b c × (length c ≤ 5000)
        → IsAdded (IsAskedBelow sys s (i + 1) ds) a c × (length c ≤ 5000)
    rules_next a b c k m = answers_next (IsAskedBelow sys s i ds) (IsAskedByRule (state_count sys s) (first_state sys s i) r ds) (IsAskedBelow sys s (i + 1) ds) a b c
        (λ d x. further i (i + 1) d (omega arith) x) (λ d x. this_rule (i + 1) d (omega arith) x) split_rules k (renamed b c (Ok tt) m)

    pub rules_error : (a b c : List evidence.Transition) (why : GrowError) → i < length sys.rules → IsAdded (IsAskedBelow sys s i ds) a b × (length b ≤ 5000)
        → AddAnswers (IsAskedByRule n first r ds) b c (Err why)
        → AddAnswers (IsAskedBelow sys s (length sys.rules) ds) a c (Err why)
    rules_error a b c why low k m = answers_error (IsAskedBelow sys s i ds) (IsAskedByRule (state_count sys s) (first_state sys s i) r ds) (IsAskedBelow sys s (length sys.rules) ds) a b c why
        (λ d x. further i (length sys.rules) d (omega arith) x) (λ d x. this_rule (length sys.rules) d low x) k (renamed b c (Err why) m)

pub rules_end : (sys : math.System) (s : terms.Term) (ds : List evidence.Transition) (i : ℕ) (a b : List evidence.Transition) → i ≡ length sys.rules
    → IsAdded (IsAskedBelow sys s i ds) a b × (length b ≤ 5000) → IsAdded (IsAskedBelow sys s (length sys.rules) ds) a b × (length b ≤ 5000)
rules_end sys s ds i a b e k = subst (λ z. IsAdded (IsAskedBelow sys s z ds) a b × (length b ≤ 5000)) e k

pub rules_begin : (sys : math.System) (s : terms.Term) (ds a : List evidence.Transition) → IsSorted IsTransitionBefore a → length a ≤ 5000 → IsAdded (IsAskedBelow sys s 0 ds) a a × (length a ≤ 5000)
rules_begin sys s ds a sorted few = answers_first (IsAskedBelow sys s 0 ds) a sorted few (λ d x. let b = x.below in omega arith)

-- the second part may fail
pub answers_then : (P Q R : evidence.Transition → Type 0) (a b c : List evidence.Transition) (o : Result (Unit {0}) GrowError) → ((d : evidence.Transition) → P d → R d)
    → ((d : evidence.Transition) → Q d → R d) → ((d : evidence.Transition) → R d → P d ⊎ Q d)
    → IsAdded P a b × (length b ≤ 5000) → AddAnswers Q b c o → AddAnswers R a c o
answers_then P Q R a b c (Ok u) p q r h k = answers_next P Q R a b c p q r h k
answers_then P Q R a b c (Err why) p q r h k = answers_error P Q R a b c why p q h k

module _ (arities : Signature) (some a b c : List evidence.Transition) (i : ℕ) (all : i ≡ length arities) (so_far : IsAdded (IsForSymbol arities i) a b × (length b ≤ 5000)) where
  symbols : IsAdded (IsForSymbol arities (length arities)) a b × (length b ≤ 5000)
  symbols = subst (λ k. IsAdded (IsForSymbol arities k) a b × (length b ≤ 5000)) all so_far

  abbrev IsEarly : evidence.Transition → Type 0
  IsEarly d = IsForSymbol arities (length arities) d ⊎ (d ≡ record { symbol = None; arguments = []; target = 0 })

  pub basic_error : (why : GrowError) → AddAnswers (λ d. d ≡ record { symbol = None; arguments = []; target = 0 }) b c (Err why) → AddAnswers (IsBasicOf arities some) a c (Err why)
  basic_error why = answers_error (IsForSymbol arities (length arities)) (λ d. d ≡ record { symbol = None; arguments = []; target = 0 }) (IsBasicOf arities some) a b c why
      (λ d h. inl h) (λ d h. inr (inl h)) symbols

  pub basic_whole : (e : List evidence.Transition) (o : Result (Unit {0}) GrowError)
      → IsAdded (λ d. d ≡ record { symbol = None; arguments = []; target = 0 }) b c × (length c ≤ 5000) → AddAnswers (Contains some) c e o
      → AddAnswers (IsBasicOf arities some) a e o
  basic_whole e o bar = answers_then IsEarly (Contains some) (IsBasicOf arities some) a c e o widen (λ d h. inr (inr h)) split
      (answers_next (IsForSymbol arities (length arities)) (λ d. d ≡ record { symbol = None; arguments = []; target = 0 }) IsEarly a b c (λ d h. inl h) (λ d h. inr h) (λ d h. h) symbols bar)
    where
      widen : (d : evidence.Transition) → IsEarly d → IsBasicOf arities some d
      widen d (inl h) = inl h
      widen d (inr h) = inr (inl h)

      split : (d : evidence.Transition) → IsBasicOf arities some d → IsEarly d ⊎ Contains some d
      split d (inl h) = inl (inl h)
      split d (inr (inl h)) = inl (inr h)
      split d (inr (inr h)) = inr h

-- the first set, and what a round answers
pub start_inside : (s : terms.Term) (out : List evidence.Transition) → out ≡ grown (state_of [] []) 2 s 1 → out ≡ inside (λ x. 0) 1 s
start_inside (var x) out e = e
start_inside (app f ts) out e = e

pub started : (sys : math.System) (s : terms.Term) (arities : Signature) (some old new : List evidence.Transition) (o : Result (Unit {0}) GrowError) → arities ≡ sys.arities
    → some ≡ inside (λ x. 0) 1 s → old ≡ [] → AddAnswers (IsBasicOf arities some) old new o
    → AddAnswers (IsBasic sys s) [] new o
started sys s arities some old new o e f g h =
    answers_renamed (IsBasicOf sys.arities some) (IsBasic sys s) [] new o (λ d k. basic_from sys s some d f k) (λ d k. basic_to sys s some d f k)
    (subst (λ z. AddAnswers (IsBasicOf sys.arities some) z new o) g (subst (λ z. AddAnswers (IsBasicOf z some) old new o) e h))

pub start_error : (sys : math.System) (s : terms.Term) (ds : List evidence.Transition) (why : GrowError) → AddAnswers (IsBasic sys s) [] ds (Err why) → PartialAnswers sys s (Err why)
start_error sys s ds (TooWide rule) h = h
start_error sys s ds TooManyStates h = h
start_error sys s ds TooManyTransitions (h, many) = first_many sys s ds h many
start_error sys s ds NoMemory h = tt

pub round_error : (sys : math.System) (s : terms.Term) (ds es : List evidence.Transition) (why : GrowError) → IsPartial sys s ds
    → AddAnswers (IsAskedBelow sys s (length sys.rules) ds) ds es (Err why) → RoundAnswers sys s ds (Err why)
round_error sys s ds es (TooWide rule) old h = h
round_error sys s ds es TooManyStates old h = h
round_error sys s ds es TooManyTransitions old (h, many) = next_many sys s (length sys.rules) ds es old h many
round_error sys s ds es NoMemory old h = tt

pub round_whole : (sys : math.System) (s : terms.Term) (ds es : List evidence.Transition) → IsPartial sys s ds
    → IsAdded (IsAskedBelow sys s (length sys.rules) ds) ds es × (length es ≤ 5000) → IsAdded (IsAskedBelow sys s (length sys.rules) ds) ds es × IsPartial sys s es
round_whole sys s ds es old (h, few) = (h, next_partial sys s (length sys.rules) ds es old h few)

pub round_same : (sys : math.System) (s : terms.Term) (ds es : List evidence.Transition) → IsPartial sys s ds → IsAdded (IsAskedBelow sys s (length sys.rules) ds) ds es
    → length es ≡ length ds → AreLeast sys s ds
round_same sys s ds es old h e = least_when_closed sys s ds old (λ d a. subst (λ z. Contains z d) (h.same e) (h.every d a))
