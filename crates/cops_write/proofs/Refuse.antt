-- A written tree is not refused where the tree that it is alike is not.
use Rattle.std.proofs.Common.{◌≡◌, ℕ, suc, Bool, true, false, List, [], ◌∷◌, ◌++◌, length, Option, None, Some, refl, sym, ap, ap₂, ◌∙◌, subst}
use Rattle.std.specs.Prelude.{◌==◌, ◌&&◌, if◌then◌else◌, not, nat_le}
use Rattle.std.specs.Option.{option_or}
use Rattle.std.proofs.lemmas.Bool.{or_left, or_right}
use Rattle.file_text.specs.Syntax.{Phrase, Phrases, word, call, none, more, count, ConditionTree, Guard, RuleTree}
use Rattle.cops_names.specs.NameTable.{number_of}
use Rattle.cops_names.specs.NameLists.{is_among, with_name}
use Rattle.cops_read.specs.Meaning.{with_symbol, sides, phrases_of_rule}
use Rattle.cops_read.specs.Uses.{Spot, spots, spots_of_all, Side, side_of, Use, Event, use_of, bar_at, uses_from, term_events, condition_events, guard_events, rule_events, rules_events}
use Rattle.cops_read.specs.Refusals.{MeaningCause, limit_cause, variable_cause, symbol_cause, known_symbol_cause, arity_in, arity_differs, variable_with_arguments, left_variable}
use Rattle.cops_read.specs.Refusals.{too_many_variables, symbols_used, variables_used, cause_at, event_cause, first_refusal}
use Rattle.cops_read.proofs.Firsts.{no_cause, no_later, nothing_first}
use Rattle.cops_write.proofs.Trees.{Alike, AreAlike, ConditionsAlike, GuardsAlike, RulesAlike}
use Rattle.cops_write.proofs.Agree.{Names, Agree, AgreeAll, RulesAgree}
use Rattle.cops_write.proofs.SameText.{has_guard, some_guard}
use Rattle.cops_write.proofs.Mean.{same_count}

module _ (block other : Names) (oriented : Bool) where
  -- the same identifier under the same name, in brackets only where the first is
  pub record SpotsAlike (s t : Spot) : Type 0 where
    pub depth : s.depth ≡ t.depth
    pub argument : s.argument ≡ t.argument
    pub arguments : s.node.arguments ≡ t.node.arguments
    pub text : s.node.name.text ≡ t.node.name.text
    pub brackets : t.node.brackets ≡ true → s.node.brackets ≡ true
    pub told : is_among block s.node.name.text ≡ is_among other t.node.name.text

  abbrev AllSpotsAlike : List Spot → List Spot → Type 0
  AllSpotsAlike [] [] = Unit {0}
  AllSpotsAlike [] (t ∷ ts) = ⊥
  AllSpotsAlike (s ∷ ss) [] = ⊥
  AllSpotsAlike (s ∷ ss) (t ∷ ts) = SpotsAlike s t × AllSpotsAlike ss ts

  spots_then : (xs ys us vs : List Spot) → AllSpotsAlike xs ys → AllSpotsAlike us vs → AllSpotsAlike (xs ++ us) (ys ++ vs)
  spots_then [] [] us vs h k = k
  spots_then [] (y ∷ ys) us vs h k = absurd h
  spots_then (x ∷ xs) [] us vs h k = absurd h
  spots_then (x ∷ xs) (y ∷ ys) us vs h k = (h.0, spots_then xs ys us vs h.1 k)

  no_spots : (depth argument : ℕ) (ts : Phrases) → ts ≡ none → AllSpotsAlike (spots_of_all depth argument ts) []
  no_spots depth argument none e = tt
  no_spots depth argument (more t ts) e = absurd cc

  mutual
    spots_alike : (depth argument : ℕ) (p q : Phrase) → Alike p q → Agree block other p → AllSpotsAlike (spots depth argument p) (spots depth argument q)
    spots_alike depth argument (word f) (word g) l a =
        (record { depth = refl; argument = refl; arguments = refl; text = l; brackets = λ e. e; told = a ∙ ap (is_among other) l }, tt)
    spots_alike depth argument (word f) (call g us) l a = absurd l
    spots_alike depth argument (call f ts) (word g) l a =
        (record { depth = refl; argument = refl; arguments = ap count l.1; text = l.0; brackets = λ e. refl; told = a.0 ∙ ap (is_among other) l.0 }, no_spots (suc depth) 1 ts l.1)
    spots_alike depth argument (call f ts) (call g us) l a = (
      record { depth = refl; argument = refl; arguments = same_count ts us l.1; text = l.0; brackets = λ e. refl; told = a.0 ∙ ap (is_among other) l.0 },
      all_spots_alike (suc depth) 1 ts us l.1 a.1,
    )

    all_spots_alike : (depth argument : ℕ) (ts us : Phrases) → AreAlike ts us → AgreeAll block other ts → AllSpotsAlike (spots_of_all depth argument ts) (spots_of_all depth argument us)
    all_spots_alike depth argument none none l a = tt
    all_spots_alike depth argument none (more u us) l a = absurd l
    all_spots_alike depth argument (more t ts) none l a = absurd l
    all_spots_alike depth argument (more t ts) (more u us) l a =
        spots_then (spots depth argument t) (spots depth argument u) (spots_of_all depth (suc argument) ts) (spots_of_all depth (suc argument) us) (spots_alike depth argument t u l.0 a.0)
        (all_spots_alike depth (suc argument) ts us l.1 a.1)

  pub record UsesAlike (u v : Use) : Type 0 where
    pub side : u.side ≡ v.side
    pub number : u.number ≡ v.number
    pub spot : SpotsAlike u.spot v.spot

  -- a bar stands only in a tree with a condition type
  abbrev pub EventsAlike : List Event → List Event → Type 0
  EventsAlike [] [] = Unit {0}
  EventsAlike [] (f ∷ fs) = ⊥
  EventsAlike (e ∷ es) [] = ⊥
  EventsAlike (use_of u ∷ es) (use_of v ∷ fs) = UsesAlike u v × EventsAlike es fs
  EventsAlike (use_of u ∷ es) (bar_at at ∷ fs) = ⊥
  EventsAlike (bar_at at ∷ es) (use_of v ∷ fs) = ⊥
  EventsAlike (bar_at at ∷ es) (bar_at place ∷ fs) = (oriented ≡ true) × EventsAlike es fs

  events_then : (xs ys us vs : List Event) → EventsAlike xs ys → EventsAlike us vs → EventsAlike (xs ++ us) (ys ++ vs)
  events_then [] [] us vs h k = k
  events_then [] (y ∷ ys) us vs h k = absurd h
  events_then (x ∷ xs) [] us vs h k = absurd h
  events_then (use_of x ∷ xs) (use_of y ∷ ys) us vs h k = (h.0, events_then xs ys us vs h.1 k)
  events_then (use_of x ∷ xs) (bar_at y ∷ ys) us vs h k = absurd h
  events_then (bar_at x ∷ xs) (use_of y ∷ ys) us vs h k = absurd h
  events_then (bar_at x ∷ xs) (bar_at y ∷ ys) us vs h k = (h.0, events_then xs ys us vs h.1 k)

  uses_alike : (side : Side) (number : ℕ) (ss ts : List Spot) → AllSpotsAlike ss ts → EventsAlike (uses_from side number ss) (uses_from side number ts)
  uses_alike side number [] [] h = tt
  uses_alike side number [] (t ∷ ts) h = absurd h
  uses_alike side number (s ∷ ss) [] h = absurd h
  uses_alike side number (s ∷ ss) (t ∷ ts) h = (record { side = refl; number = refl; spot = h.0 }, uses_alike side (suc number) ss ts h.1)

  term_alike : (side : Side) (p q : Phrase) → Alike p q → Agree block other p → EventsAlike (term_events side p) (term_events side q)
  term_alike side p q l a = uses_alike side 1 (spots 1 0 p) (spots 1 0 q) (spots_alike 1 0 p q l a)

  conditions_alike : (rule number : ℕ) (cs ds : List ConditionTree) → ConditionsAlike cs ds → AgreeAll block other (sides cs)
      → EventsAlike (condition_events rule number cs) (condition_events rule number ds)
  conditions_alike rule number [] [] l a = tt
  conditions_alike rule number [] (d ∷ ds) l a = absurd l
  conditions_alike rule number (c ∷ cs) [] l a = absurd l
  conditions_alike rule number (c ∷ cs) (d ∷ ds) l a =
      let side = side_of rule number false in
      events_then (term_events side c.left) (term_events side d.left) (term_events side c.right ++ condition_events rule (suc number) cs)
      (term_events side d.right ++ condition_events rule (suc number) ds)
      (term_alike side c.left d.left l.0 a.0)
      (events_then (term_events side c.right) (term_events side d.right) (condition_events rule (suc number) cs) (condition_events rule (suc number) ds)
      (term_alike side c.right d.right l.1 a.1.0) (conditions_alike rule (suc number) cs ds l.2 a.1.1))

  guard_alike : (rule : ℕ) (g h : Option Guard) (l r : Phrase) → GuardsAlike g h → (has_guard g ≡ true → oriented ≡ true)
      → AgreeAll block other (phrases_of_rule (record { left = l; right = r; guard = g })) → EventsAlike (guard_events rule g) (guard_events rule h)
  guard_alike rule None None l r k o a = tt
  guard_alike rule None (Some h) l r k o a = absurd k
  guard_alike rule (Some g) None l r k o a = absurd k
  guard_alike rule (Some g) (Some h) l r k o a = (o refl, conditions_alike rule 1 (g.first ∷ g.others) (h.first ∷ h.others) k a.1.1)

  pub events_alike : (number : ℕ) (ts us : List RuleTree) → RulesAlike ts us → RulesAgree block other ts → (some_guard ts ≡ true → oriented ≡ true)
      → EventsAlike (rules_events number ts) (rules_events number us)
  events_alike number [] [] l a o = tt
  events_alike number [] (u ∷ us) l a o = absurd l
  events_alike number (t ∷ ts) [] l a o = absurd l
  events_alike number (t ∷ ts) (u ∷ us) l a o =
      events_then (rule_events number t) (rule_events number u) (rules_events (suc number) ts) (rules_events (suc number) us)
      (events_then (term_events (side_of number 0 true) t.left) (term_events (side_of number 0 true) u.left)
      (term_events (side_of number 0 false) t.right ++ guard_events number t.guard) (term_events (side_of number 0 false) u.right ++ guard_events number u.guard)
      (term_alike (side_of number 0 true) t.left u.left l.0 a.0.0)
      (events_then (term_events (side_of number 0 false) t.right) (term_events (side_of number 0 false) u.right) (guard_events number t.guard) (guard_events number u.guard)
      (term_alike (side_of number 0 false) t.right u.right l.1 a.0.1.0)
      (guard_alike number t.guard u.guard t.left t.right l.2 (λ e. o (or_left (has_guard t.guard) (some_guard ts) e)) a.0)))
      (events_alike (suc number) ts us l.3 a.1 (λ e. o (or_right (has_guard t.guard) (some_guard ts) e)))

  -- ---- what was used

  symbols_same : (now : List (List ℕ × ℕ)) (es fs : List Event) → EventsAlike es fs → symbols_used block now es ≡ symbols_used other now fs
  symbols_same now [] [] h = refl
  symbols_same now [] (f ∷ fs) h = absurd h
  symbols_same now (e ∷ es) [] h = absurd h
  symbols_same now (use_of u ∷ es) (use_of v ∷ fs) h =
      let s = h.0.spot in
      let next : (if is_among block u.spot.node.name.text then now else with_symbol now u.spot.node.name.text u.spot.node.arguments)
      ≡ (if is_among other v.spot.node.name.text then now else with_symbol now v.spot.node.name.text v.spot.node.arguments) =
      ap₂ (λ (b : Bool) (w : List (List ℕ × ℕ)). if b then now else w) s.told (ap₂ (with_symbol now) s.text s.arguments) in
      ap (λ (w : List (List ℕ × ℕ)). symbols_used block w es) next
      ∙ symbols_same (if is_among other v.spot.node.name.text then now else with_symbol now v.spot.node.name.text v.spot.node.arguments) es fs h.1
  symbols_same now (use_of u ∷ es) (bar_at at ∷ fs) h = absurd h
  symbols_same now (bar_at at ∷ es) (use_of v ∷ fs) h = absurd h
  symbols_same now (bar_at at ∷ es) (bar_at place ∷ fs) h = symbols_same now es fs h.1

  variables_same : (rule : ℕ) (now : Names) (es fs : List Event) → EventsAlike es fs → variables_used block rule now es ≡ variables_used other rule now fs
  variables_same rule now [] [] h = refl
  variables_same rule now [] (f ∷ fs) h = absurd h
  variables_same rule now (e ∷ es) [] h = absurd h
  variables_same rule now (use_of u ∷ es) (use_of v ∷ fs) h =
      let s = h.0.spot in
      let test : ((u.side.rule == rule) && is_among block u.spot.node.name.text) ≡ ((v.side.rule == rule) && is_among other v.spot.node.name.text) =
      ap₂ (λ (w : Side) (b : Bool). (w.rule == rule) && b) h.0.side s.told in
      let next : (if (u.side.rule == rule) && is_among block u.spot.node.name.text then with_name now u.spot.node.name.text else now)
      ≡ (if (v.side.rule == rule) && is_among other v.spot.node.name.text then with_name now v.spot.node.name.text else now) =
      ap₂ (λ (b : Bool) (n : List ℕ). if b then with_name now n else now) test s.text in
      ap (λ (w : Names). variables_used block rule w es) next
      ∙ variables_same rule (if (v.side.rule == rule) && is_among other v.spot.node.name.text then with_name now v.spot.node.name.text else now) es fs h.1
  variables_same rule now (use_of u ∷ es) (bar_at at ∷ fs) h = absurd h
  variables_same rule now (bar_at at ∷ es) (use_of v ∷ fs) h = absurd h
  variables_same rule now (bar_at at ∷ es) (bar_at place ∷ fs) h = variables_same rule now es fs h.1

  -- ---- the causes

  fewer_brackets : (b c d e : Bool) → (c ≡ true → b ≡ true) → (if b then Some variable_with_arguments else if d then Some left_variable else if e then Some too_many_variables else None) ≡ None
      → (if c then Some variable_with_arguments else if d then Some left_variable else if e then Some too_many_variables else None) ≡ None
  fewer_brackets true c d e i h = absurd cc
  fewer_brackets false true d e i h = absurd (let both : false ≡ true = i refl in cc)
  fewer_brackets false false d e i h = h

  variable_fine : (names : Names) (u v : Use) → UsesAlike u v → variable_cause names u ≡ None → variable_cause names v ≡ None
  variable_fine names u v l h =
      let s = l.spot in
      let is_left : (u.side.is_left && (u.spot.depth == 1)) ≡ (v.side.is_left && (v.spot.depth == 1)) = ap₂ (λ (w : Side) (d : ℕ). w.is_left && (d == 1)) l.side s.depth in
      let is_new : (not (is_among names u.spot.node.name.text) && nat_le 100 (length names)) ≡ (not (is_among names v.spot.node.name.text) && nat_le 100 (length names)) =
      ap (λ (n : List ℕ). not (is_among names n) && nat_le 100 (length names)) s.text in
      fewer_brackets u.spot.node.brackets v.spot.node.brackets (v.side.is_left && (v.spot.depth == 1)) (not (is_among names v.spot.node.name.text) && nat_le 100 (length names)) s.brackets
      (subst (λ (d : Bool). (if u.spot.node.brackets then Some variable_with_arguments else if d then Some left_variable
      else if not (is_among names v.spot.node.name.text) && nat_le 100 (length names) then Some too_many_variables else None) ≡ None) is_left
      (subst (λ (e : Bool). (if u.spot.node.brackets then Some variable_with_arguments else if u.side.is_left && (u.spot.depth == 1) then Some left_variable
      else if e then Some too_many_variables else None) ≡ None) is_new h))

  same_limits : (u v : Use) → UsesAlike u v → limit_cause u ≡ limit_cause v
  same_limits u v l =
      let node = u.spot.node in
      let limit_of : Side → ℕ → ℕ → ℕ → Option MeaningCause = λ side argument depth number.
      limit_cause (record { side = side; spot = record { node = node; depth = depth; argument = argument }; number = number }) in
      ap₂ (λ (side : Side) (number : ℕ). limit_of side u.spot.argument u.spot.depth number) l.side l.number
      ∙ ap₂ (λ (argument depth : ℕ). limit_of v.side argument depth v.number) l.spot.argument l.spot.depth

  same_known : (table : List (List ℕ × ℕ)) (u v : Use) (o : Option ℕ) → u.spot.node.arguments ≡ v.spot.node.arguments → known_symbol_cause table u o ≡ known_symbol_cause table v o
  same_known table u v None e = refl
  same_known table u v (Some n) e = ap (λ (k : ℕ). if n == k then None else Some arity_differs) e

  same_symbol_cause : (table : List (List ℕ × ℕ)) (u v : Use) → UsesAlike u v → symbol_cause table u ≡ symbol_cause table v
  same_symbol_cause table u v l =
      same_known table u v (arity_in table (number_of table u.spot.node.name.text)) l.spot.arguments
      ∙ ap (λ (name : List ℕ). known_symbol_cause table v (arity_in table (number_of table name))) l.spot.text

  cause_fine : (limit more_limit x y z w : Option MeaningCause) (b c : Bool) → limit ≡ more_limit → b ≡ c → (x ≡ None → y ≡ None) → z ≡ w
      → option_or limit (if b then x else z) ≡ None → option_or more_limit (if c then y else w) ≡ None
  cause_fine (Some k) n x y z w b c e f i j h = absurd cc
  cause_fine None (Some k) x y z w b c e f i j h = absurd cc
  cause_fine None None x y z w true true e f i j h = i h
  cause_fine None None x y z w true false e f i j h = absurd cc
  cause_fine None None x y z w false true e f i j h = absurd cc
  cause_fine None None x y z w false false e f i j h = sym j ∙ h

  use_fine : (front gone : List Event) (u v : Use) → EventsAlike front gone → UsesAlike u v → cause_at block (symbols_used block [] front) (variables_used block u.side.rule [] front) u ≡ None
      → cause_at other (symbols_used other [] gone) (variables_used other v.side.rule [] gone) v ≡ None
  use_fine front gone u v k l h =
      let table : symbols_used block [] front ≡ symbols_used other [] gone = symbols_same [] front gone k in
      let names : variables_used block u.side.rule [] front ≡ variables_used other v.side.rule [] gone =
      ap (λ (w : Side). variables_used block w.rule [] front) l.side ∙ variables_same v.side.rule [] front gone k in
      let here : cause_at block (symbols_used other [] gone) (variables_used other v.side.rule [] gone) u ≡ None = subst (λ (w : Names). cause_at block (symbols_used other [] gone) w u ≡ None) names
      (subst (λ (w : List (List ℕ × ℕ)). cause_at block w (variables_used block u.side.rule [] front) u ≡ None) table h) in
      let now = symbols_used other [] gone in
      let vars = variables_used other v.side.rule [] gone in
      cause_fine (limit_cause u) (limit_cause v) (variable_cause vars u) (variable_cause vars v) (symbol_cause now u) (symbol_cause now v) (is_among block u.spot.node.name.text)
      (is_among other v.spot.node.name.text)
      (same_limits u v l) l.spot.told (variable_fine vars u v l) (same_symbol_cause now u v l) here

  pub not_refused : (before : Bool) (front gone es fs : List Event) → EventsAlike front gone → EventsAlike es fs → first_refusal block before front es ≡ None
      → first_refusal other oriented gone fs ≡ None
  not_refused before front gone [] [] k l h = refl
  not_refused before front gone [] (f ∷ fs) k l h = absurd l
  not_refused before front gone (e ∷ es) [] k l h = absurd l
  not_refused before front gone (use_of u ∷ es) (bar_at at ∷ fs) k l h = absurd l
  not_refused before front gone (bar_at at ∷ es) (use_of v ∷ fs) k l h = absurd l
  not_refused before front gone (use_of u ∷ es) (use_of v ∷ fs) k l h =
      let cause = cause_at block (symbols_used block [] front) (variables_used block u.side.rule [] front) u in
      let others = first_refusal block before (front ++ use_of u ∷ []) es in
      nothing_first (cause_at other (symbols_used other [] gone) (variables_used other v.side.rule [] gone) v) v.spot.node.name.at (first_refusal other oriented (gone ++ use_of v ∷ []) fs)
      (use_fine front gone u v k l.0 (no_cause cause u.spot.node.name.at others h))
      (not_refused before (front ++ use_of u ∷ []) (gone ++ use_of v ∷ []) es fs (events_then front gone (use_of u ∷ []) (use_of v ∷ []) k (l.0, tt)) l.1
      (no_later cause u.spot.node.name.at others h))
  not_refused before front gone (bar_at at ∷ es) (bar_at place ∷ fs) k l h =
      nothing_first (event_cause other oriented gone (bar_at place)) place (first_refusal other oriented (gone ++ bar_at place ∷ []) fs) (rw l.0 refl)
      (not_refused before (front ++ bar_at at ∷ []) (gone ++ bar_at place ∷ []) es fs (events_then front gone (bar_at at ∷ []) (bar_at place ∷ []) k (l.0, tt)) l.1
      (no_later (event_cause block before front (bar_at at)) at (first_refusal block before (front ++ bar_at at ∷ []) es) h))
