-- Parts of a term of the program, and the answers for it.
use Rattle.std.proofs.Common.{ℕ, zero, suc, ◌≡◌, ◌+◌, ◌<◌, ◌≤◌, ◌⊎◌, inl, inr, List, [], ◌∷◌, length, get_or, Some, Vec, Global, Result, Ok, Err, refl, sym, ap, ◌∙◌, subst, arith, add-one}
use Rattle.general_lemmas.proofs.Numbers.{le_or_next}
use Rattle.rewriting.specs.Terms as math
use Rattle.rewriting.specs.Prelude.{Terms, var, app, nil, cons, size_all, depth_all, Fits, argument, apply, apply_all, odd, System, IsAbsolutelyIrreducible}
use Rattle.unifier_run.specs.Run.{Binding, value, unifier, too_large}
use Rattle.unifier_run.specs.Irreducible.{DoAllClash, IsFirstOutcome, DoRulesClash, IsFirstRule}
use Rattle.unifier_run.proofs.General.{most_general, no_unifier}
use Rattle.term_core.specs.View.{view, views}
use Rattle.term_core.specs.declared.terms.Term.{Term, Var, Fun}
use Rattle.term_core.specs.declared.terms.NoMemory.{NoMemory}
use Rattle.term_core.proofs.Views.{view-Fun, view-Var}
use Rattle.irreducible.specs.declared.Irreducible.{Irreducible}
use Rattle.irreducible.specs.declared.Irreducible.TheVariants.{Yes, No, TooLarge}
use Rattle.irreducible.specs.Answers.{IrreducibleAnswers}
use Rattle.irreducible.specs.Judging.{RootAnswers, JudgeAnswers}
use Rattle.irreducible.proofs.Judge.{DoArgumentsClash, variable_clash, whole_clash, first_root, first_part}

-- the arguments of an instance by odd variables
pub record Shape (f : ℕ) (ts : List Term) (s : math.Term) : Type 0 where
  pub arguments : Terms
  pub whole : s ≡ app f arguments
  pub renamed : apply_all odd arguments ≡ views ts

pub shape : (t : Term) (f : ℕ) (v : Vec Term Global) (s : math.Term) → t ≡ Fun f v → view t ≡ apply odd s → Shape f v.items s
shape t f v s is e = go s (sym (ap view is ∙ view-Fun f v) ∙ e)
  where
    go : (s : math.Term) → app f (views v.items) ≡ apply odd s → Shape f v.items s
    go (var x) q = absurd (cc)
    go (app g us) q = (let symbol : g ≡ f = cc in let same : apply_all odd us ≡ views v.items = cc in record { arguments = us; whole = ap (λ z. app z us) symbol; renamed = same })

pub argument_renamed : (us : Terms) (ts : List Term) (k : ℕ) (t : Term) (s : math.Term) → apply_all odd us ≡ views ts → t ≡ get_or ts k t → argument us (suc k) ≡ Some s → view t ≡ apply odd s
argument_renamed nil ts k t s e h q = absurd (cc)
argument_renamed (cons u us) [] k t s e h q = absurd (cc)
argument_renamed (cons u us) (x ∷ ts) zero t s e h q = (let same : u ≡ s = cc in let first : apply odd u ≡ view x = cc in ap view h ∙ (sym first ∙ ap (apply odd) same))
argument_renamed (cons u us) (x ∷ ts) (suc k) t s e h q = (let rest : apply_all odd us ≡ views ts = cc in argument_renamed us ts k t s rest h q)

pub argument_exists : (us : Terms) (ts : List Term) (k : ℕ) → apply_all odd us ≡ views ts → k < length ts → (s : math.Term) × (argument us (suc k) ≡ Some s)
argument_exists us [] k e h = absurd (omega arith)
argument_exists nil (x ∷ ts) k e h = absurd (cc)
argument_exists (cons u us) (x ∷ ts) zero e h = (u, refl)
argument_exists (cons u us) (x ∷ ts) (suc k) e h = (let rest : apply_all odd us ≡ views ts = cc in argument_exists us ts k rest (omega arith))

pub argument_fits : (t : Term) (f : ℕ) (v : Vec Term Global) (k : ℕ) (u : Term) → t ≡ Fun f v → k < length v.items → u ≡ get_or v.items k u → Fits (view t) → Fits (view u)
argument_fits t f v k u is h at fit =
    let whole = subst Fits (ap view is ∙ view-Fun f v) fit in
    go v.items k h at (omega (arith, whole.nodes)) (omega (arith, whole.levels))
  where
    go : (ts : List Term) (k : ℕ) → k < length ts → u ≡ get_or ts k u → size_all (views ts) ≤ 10000 → depth_all (views ts) ≤ 400 → Fits (view u)
    go [] k h e a b = absurd (omega arith)
    go (x ∷ ts) zero h e a b = subst (λ z. Fits (view z)) (sym e) (record { nodes = omega (arith, a); levels = omega (arith, b) })
    go (x ∷ ts) (suc k) h e a b = go ts k (omega arith) e (omega (arith, a)) (omega (arith, b))

argument_number : (us : Terms) (ts : List Term) (k : ℕ) (s : math.Term) → apply_all odd us ≡ views ts → argument us k ≡ Some s → k ≤ length ts
argument_number nil ts k s e h = absurd (cc)
argument_number (cons u us) [] k s e h = absurd (cc)
argument_number (cons u us) (x ∷ ts) zero s e h = absurd (cc)
argument_number (cons u us) (x ∷ ts) (suc zero) s e h = omega arith
argument_number (cons u us) (x ∷ ts) (suc (suc k)) s e h = (let rest : apply_all odd us ≡ views ts = cc in let r = argument_number us ts (suc k) s rest h in omega (arith, r))

-- the arguments judged so far
abbrev pub Judged : System → List Term → ℕ → Type 0
Judged sys ts n = (us : Terms) → apply_all odd us ≡ views ts → DoArgumentsClash sys us n

no_argument : (us : Terms) (s : math.Term) → argument us 0 ≡ Some s → ⊥
no_argument nil s e = cc
no_argument (cons u us) s e = cc

pub judged_none : (sys : System) (ts : List Term) → Judged sys ts 0
judged_none sys ts us e zero s h l = absurd (no_argument us s h)
judged_none sys ts us e (suc k) s h l = absurd (omega (arith, l))

pub judged_next : (sys : System) (ts : List Term) (n : ℕ) (t : Term) → t ≡ get_or ts n t → Judged sys ts n → ((s : math.Term) → view t ≡ apply odd s → DoAllClash sys s) → Judged sys ts (n + 1)
judged_next sys ts n t at h here us e k s q l = go (le_or_next k n (subst (λ z. k ≤ z) (add-one n) l))
  where
    go : (k ≤ n) ⊎ (k ≡ suc n) → DoAllClash sys s
    go (inl a) = h us e k s q a
    go (inr r) = here s (argument_renamed us ts n t s e at (subst (λ z. argument us z ≡ Some s) r q))

pub judge_whole : (sys : System) (t : Term) (f : ℕ) (v : Vec Term Global) (n : ℕ) → t ≡ Fun f v → length v.items ≤ n → ((s : math.Term) → view t ≡ apply odd s → DoRulesClash sys s)
    → Judged sys v.items n → (s : math.Term) → view t ≡ apply odd s → DoAllClash sys s
judge_whole sys t f v n is h root parts s e =
    let p = shape t f v s is e in
    subst (DoAllClash sys) (sym p.whole)
    (whole_clash sys f p.arguments (subst (DoRulesClash sys) p.whole (root s e))
    (λ k u q. parts p.arguments p.renamed k u q (let l = argument_number p.arguments v.items k u p.renamed q in omega (arith, l, h))))

pub judge_variable : (sys : System) (t : Term) (x : ℕ) → t ≡ Var x → (s : math.Term) → view t ≡ apply odd s → DoAllClash sys s
judge_variable sys t x is (var y) e = variable_clash sys y
judge_variable sys t x is (app g us) e = (let h : var x ≡ app g (apply_all odd us) = sym (ap view is ∙ view-Var x) ∙ e in absurd (cc))

pub judge_root_other : (sys : System) (t : Term) (f : ℕ) (v : Vec Term Global) (o : Irreducible) → t ≡ Fun f v → (o ≡ Yes → ⊥)
    → ((s : math.Term) → view t ≡ apply odd s → RootAnswers sys s (Ok o)) → (s : math.Term) → view t ≡ apply odd s → JudgeAnswers sys s (Ok o)
judge_root_other sys t f v Yes is n h s e = absurd (n refl)
judge_root_other sys t f v No is n h s e =
    let p = shape t f v s is e in
    let r = h s e in
    (r.0, subst (λ z. IsFirstOutcome sys z (unifier r.0)) (sym p.whole) (first_root sys f p.arguments (unifier r.0) (subst (λ z. IsFirstRule sys z (unifier r.0)) p.whole r.1)))
judge_root_other sys t f v TooLarge is n h s e =
    let p = shape t f v s is e in
    subst (λ z. IsFirstOutcome sys z too_large) (sym p.whole) (first_root sys f p.arguments too_large (subst (λ z. IsFirstRule sys z too_large) p.whole (h s e)))

pub judge_part_other : (sys : System) (t : Term) (f : ℕ) (v : Vec Term Global) (n : ℕ) (u : Term) (o : Irreducible) → t ≡ Fun f v → n < length v.items → u ≡ get_or v.items n u
    → (o ≡ Yes → ⊥) → ((s : math.Term) → view t ≡ apply odd s → DoRulesClash sys s)
    → Judged sys v.items n → ((s : math.Term) → view u ≡ apply odd s → JudgeAnswers sys s (Ok o)) → (s : math.Term) → view t ≡ apply odd s → JudgeAnswers sys s (Ok o)
judge_part_other sys t f v n u Yes is l at other root parts h s e = absurd (other refl)
judge_part_other sys t f v n u No is l at other root parts h s e =
    let p = shape t f v s is e in
    let q = argument_exists p.arguments v.items n p.renamed l in
    let r = h q.0 (argument_renamed p.arguments v.items n u q.0 p.renamed at q.1) in (
      r.0,
      subst (λ z. IsFirstOutcome sys z (unifier r.0)) (sym p.whole) (first_part sys f p.arguments n q.0 (unifier r.0) (subst (DoRulesClash sys) p.whole (root s e))
          (parts p.arguments p.renamed) q.1 r.1),
    )
judge_part_other sys t f v n u TooLarge is l at other root parts h s e =
    let p = shape t f v s is e in
    let q = argument_exists p.arguments v.items n p.renamed l in
    let r = h q.0 (argument_renamed p.arguments v.items n u q.0 p.renamed at q.1) in
    subst (λ z. IsFirstOutcome sys z too_large) (sym p.whole) (first_part sys f p.arguments n q.0 too_large (subst (DoRulesClash sys) p.whole (root s e)) (parts p.arguments p.renamed) q.1 r)

-- from the runs to irreducible terms
none_unifies : (sys : System) (t : math.Term) → DoAllClash sys t → IsAbsolutelyIrreducible sys t
none_unifies sys t h p u i r at v is (s, e) = no_unifier _ _ (h p i u r (record { is_part = at; no_variable = v; is_rule = is })) s (ap (λ z. cons z nil) e)

head_of : (a b : math.Term) → cons a nil ≡ cons b nil → a ≡ b
head_of a b e = cc

one_unifies : (sys : System) (t : math.Term) (b : List Binding) → IsFirstOutcome sys t (unifier b) → IsAbsolutelyIrreducible sys t → ⊥
one_unifies sys t b h k = k h.position h.part h.number h.rule h.trial.is_part h.trial.no_variable h.trial.is_rule (value b, head_of _ _ (most_general _ _ b h.outcome).unifies)

pub judged_whole : (sys : System) (t : math.Term) (r : Result Irreducible NoMemory) → JudgeAnswers sys t r → IrreducibleAnswers sys t r
judged_whole sys t (Ok Yes) h = (h, none_unifies sys t h)
judged_whole sys t (Ok No) h = (h, one_unifies sys t h.0 h.1)
judged_whole sys t (Ok TooLarge) h = h
judged_whole sys t (Err e) h = tt
