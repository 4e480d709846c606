-- Rules that are spelled are read.
use Rattle.std.proofs.Common.{◌≡◌, ℕ, List, [], ◌∷◌, ◌++◌, Option, Some, None, refl, sym, ap, subst, ◌∙◌, append_assoc}
use Rattle.std.proofs.lemmas.List.{append-nil}
use Rattle.std.specs.Option.{option_map}
use Rattle.file_text.specs.Syntax.{Name, Phrase, word, call, ConditionTree, Guard, RuleTree}
use Rattle.file_text.specs.Grammar.{Word, id, left_paren, right_paren, comma, bar, arrow, equal, spelled, spelled_arguments, spelled_condition, spelled_others, spelled_guard}
use Rattle.file_text.specs.Grammar.{spelled_rule, spelled_rules}
use Rattle.file_text.proofs.Machine.{Last, want, first, bare, done, Part, left, right, condition_left, condition_right, Reading, reading, no_rule, guard_with, ended, step_term, with_ended, whole}
use Rattle.file_text.proofs.TermRuns.{term_run, Ends, behind_step, term_run_then, term_step_then, side_runs}

-- the words lead from a reading to the end of this rule
pub record RuleEnds (s : Reading) (ws : List Word) (rs : List RuleTree) (r : RuleTree) : Type 0 where
  pub part : Part
  pub last : Last
  pub term : Phrase
  pub runs : term_run s ws ≡ Some (reading rs part [] last)
  pub is_last : Ends last term
  pub rule : ended part term ≡ Some r

ends_then : (s t : Reading) (a ws : List Word) (rs : List RuleTree) (r : RuleTree) → term_run s a ≡ Some t → RuleEnds t ws rs r → RuleEnds s (a ++ ws) rs r
ends_then s t a ws rs r e h = record { part = h.part; last = h.last; term = h.term; runs = term_run_then a ws s t e ∙ h.runs; is_last = h.is_last; rule = h.rule }

ends_step : (s t : Reading) (w : Word) (ws : List Word) (rs : List RuleTree) (r : RuleTree) → step_term s.rules s.part s.opens s.last w ≡ Some t → RuleEnds t ws rs r → RuleEnds s (w ∷ ws) rs r
ends_step s t w ws rs r e h = record { part = h.part; last = h.last; term = h.term; runs = term_step_then s t w ws e ∙ h.runs; is_last = h.is_last; rule = h.rule }

abbrev pub rule_of : Phrase → Phrase → Option Guard → RuleTree
rule_of l r g = record { left = l; right = r; guard = g }

-- the guard with these conditions, then this one, then these
abbrev guard_of : ℕ → List ConditionTree → ConditionTree → List ConditionTree → Guard
guard_of at [] c cs = record { at = at; first = c; others = cs }
guard_of at (d ∷ ds) c cs = record { at = at; first = d; others = ds ++ c ∷ cs }

guard_of-last : (at : ℕ) (before : List ConditionTree) (c : ConditionTree) → guard_with at before c ≡ guard_of at before c []
guard_of-last at [] c = refl
guard_of-last at (d ∷ ds) c = refl

guard_of-next : (at : ℕ) (before : List ConditionTree) (c d : ConditionTree) (cs : List ConditionTree) → guard_of at (before ++ c ∷ []) d cs ≡ guard_of at before c (d ∷ cs)
guard_of-next at [] c d cs = refl
guard_of-next at (b ∷ bs) c d cs = ap (λ (ds : List ConditionTree). record { at = at; first = b; others = ds }) (append_assoc bs (c ∷ []) (d ∷ cs))

abbrev Others : List RuleTree → Phrase → Phrase → ℕ → List ConditionTree → ConditionTree → List ConditionTree → Type 0
Others rs l r at before c cs = (last : Last) → Ends last c.right → RuleEnds (reading rs (condition_right l r at before c.left) [] last) (spelled_others cs) rs
    (rule_of l r (Some (guard_of at before c cs)))

condition_run : (c : ConditionTree) (cs : List ConditionTree) (rs : List RuleTree) (l r : Phrase) (at : ℕ) (before : List ConditionTree) → Others rs l r at before c cs
    → RuleEnds (reading rs (condition_left l r at before) [] want) (spelled_condition c ++ spelled_others cs) rs (rule_of l r (Some (guard_of at before c cs)))
condition_run c cs rs l r at before others =
    let one = side_runs c.left rs (condition_left l r at before) in
    let two = side_runs c.right rs (condition_right l r at before c.left) in
    subst (λ (ws : List Word). RuleEnds (reading rs (condition_left l r at before) [] want) ws rs (rule_of l r (Some (guard_of at before c cs))))
    (sym (append_assoc (spelled c.left) (equal ∷ spelled c.right) (spelled_others cs)))
    (ends_then _ (reading rs (condition_left l r at before) [] one.0) (spelled c.left) (equal ∷ (spelled c.right ++ spelled_others cs)) rs _ one.1
    (ends_step _ (reading rs (condition_right l r at before c.left) [] want) equal (spelled c.right ++ spelled_others cs) rs _
    (behind_step rs (condition_left l r at before) [] one.0 c.left equal one.2 tt)
    (ends_then _ (reading rs (condition_right l r at before c.left) [] two.0) (spelled c.right) (spelled_others cs) rs _ two.1 (others two.0 two.2))))

others_run : (cs : List ConditionTree) (rs : List RuleTree) (l r : Phrase) (at : ℕ) (before : List ConditionTree) (c : ConditionTree) → Others rs l r at before c cs
others_run [] rs l r at before c last e =
    record {
      part = condition_right l r at before c.left;
      last = last;
      term = c.right;
      runs = refl;
      is_last = e;
      rule = ap (λ (g : Guard). Some (rule_of l r (Some g))) (guard_of-last at before c);
    }
others_run (d ∷ cs) rs l r at before c last e =
    ends_step (reading rs (condition_right l r at before c.left) [] last) (reading rs (condition_left l r at (before ++ c ∷ [])) [] want) comma (spelled_condition d ++ spelled_others cs) rs _
    (behind_step rs (condition_right l r at before c.left) [] last c.right comma e tt)
    (subst (λ (g : Guard). RuleEnds (reading rs (condition_left l r at (before ++ c ∷ [])) [] want) (spelled_condition d ++ spelled_others cs) rs (rule_of l r (Some g)))
    (guard_of-next at before c d cs)
    (condition_run d cs rs l r at (before ++ c ∷ []) (λ end ends. others_run cs rs l r at (before ++ c ∷ []) d end ends)))

guard_run : (g : Option Guard) (rs : List RuleTree) (l r : Phrase) (last : Last) → Ends last r → RuleEnds (reading rs (right l) [] last) (spelled_guard g) rs (rule_of l r g)
guard_run None rs l r last e = record { part = right l; last = last; term = r; runs = refl; is_last = e; rule = refl }
guard_run (Some g) rs l r last e =
    ends_step (reading rs (right l) [] last) (reading rs (condition_left l r g.at []) [] want) (bar g.at) (spelled_condition g.first ++ spelled_others g.others) rs _
    (behind_step rs (right l) [] last r (bar g.at) e tt)
    (condition_run g.first g.others rs l r g.at [] (λ end ends. others_run g.others rs l r g.at [] g.first end ends))

rule_runs : (r : RuleTree) (rs : List RuleTree) → RuleEnds (reading rs left [] want) (spelled_rule r) rs r
rule_runs r rs =
    let one = side_runs r.left rs left in
    let two = side_runs r.right rs (right r.left) in
    ends_then _ (reading rs left [] one.0) (spelled r.left) (arrow ∷ (spelled r.right ++ spelled_guard r.guard)) rs r one.1
    (ends_step _ (reading rs (right r.left) [] want) arrow (spelled r.right ++ spelled_guard r.guard) rs r (behind_step rs left [] one.0 r.left arrow one.2 tt)
    (ends_then _ (reading rs (right r.left) [] two.0) (spelled r.right) (spelled_guard r.guard) rs r two.1 (guard_run r.guard rs r.left r.right two.0 two.2)))

-- behind a whole rule the next one is read as one that begins
next_word : (rs : List RuleTree) (p : Part) (l : Last) (t : Phrase) (r : RuleTree) (f : Name) (ws : List Word) → Ends l t → ended p t ≡ Some r
    → term_run (reading rs p [] l) (id f ∷ ws) ≡ term_run (reading (rs ++ r ∷ []) left [] want) (id f ∷ ws)
next_word rs p l t r f ws e is =
    term_step_then (reading rs p [] l) (reading (rs ++ r ∷ []) left [] (bare f)) (id f) ws
    (behind_step rs p [] l t (id f) e tt ∙ ap (option_map (λ (r : RuleTree). reading (rs ++ r ∷ []) left [] (bare f))) is)

next_runs : (u : Phrase) (z : List Word) (rs : List RuleTree) (p : Part) (l : Last) (t : Phrase) (r : RuleTree) → Ends l t → ended p t ≡ Some r
    → term_run (reading rs p [] l) (spelled u ++ z) ≡ term_run (reading (rs ++ r ∷ []) left [] want) (spelled u ++ z)
next_runs (word f) z rs p l t r e is = next_word rs p l t r f z e is
next_runs (call f ts) z rs p l t r e is = next_word rs p l t r f (left_paren ∷ ((spelled_arguments ts ++ right_paren ∷ []) ++ z)) e is

whole_ends : (rs : List RuleTree) (p : Part) (l : Last) (t : Phrase) → Ends l t → whole rs p [] l ≡ with_ended rs p t
whole_ends rs p want t h = absurd h
whole_ends rs p (first g) t h = absurd h
whole_ends rs p (bare f) t h = ap (with_ended rs p) h
whole_ends rs p (done u) t h = ap (with_ended rs p) h

-- the words lead from a reading to one at which these rules are whole
abbrev pub Accepts : Reading → List Word → List RuleTree → Type 0
Accepts s ws rs = (e : Reading) × (term_run s ws ≡ Some e) × (whole e.rules e.part e.opens e.last ≡ Some rs)

rules_run : (r : RuleTree) (qs rs : List RuleTree) → Accepts (reading rs left [] want) (spelled_rules (r ∷ qs)) (rs ++ r ∷ qs)
rules_run r [] rs =
    let one = rule_runs r rs in (
      reading rs one.part [] one.last,
      ap (term_run (reading rs left [] want)) (append-nil (spelled_rule r)) ∙ one.runs,
      whole_ends rs one.part one.last one.term one.is_last ∙ ap (option_map (λ (r : RuleTree). rs ++ r ∷ [])) one.rule,
    )
rules_run r (q ∷ qs) rs =
    let one = rule_runs r rs in
    let rest = rules_run q qs (rs ++ r ∷ []) in
    let z = (arrow ∷ (spelled q.right ++ spelled_guard q.guard)) ++ spelled_rules qs in
    let grouped : spelled_rules (q ∷ qs) ≡ spelled q.left ++ z = append_assoc (spelled q.left) (arrow ∷ (spelled q.right ++ spelled_guard q.guard)) (spelled_rules qs) in (
      rest.0,
      term_run_then (spelled_rule r) (spelled_rules (q ∷ qs)) (reading rs left [] want) (reading rs one.part [] one.last) one.runs
          ∙ ap (term_run (reading rs one.part [] one.last)) grouped ∙ next_runs q.left z rs one.part one.last one.term r one.is_last one.rule
          ∙ ap (term_run (reading (rs ++ r ∷ []) left [] want)) (sym grouped) ∙ rest.1,
      rest.2 ∙ ap (λ (x : List RuleTree). Some x) (append_assoc rs (r ∷ []) (q ∷ qs)),
    )

-- rules that the words spell are read
pub rules_accepted : (rs : List RuleTree) → Accepts no_rule (spelled_rules rs) rs
rules_accepted [] = (no_rule, refl, refl)
rules_accepted (r ∷ rs) = rules_run r rs []
