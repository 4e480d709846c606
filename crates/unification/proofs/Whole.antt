-- The run from the start on.
use Rattle.std.proofs.Common.{ℕ, ◌≡◌, List, [], sym, ap, ◌∙◌, subst, subst₂, Result, Ok, Err}
use Rattle.rewriting.specs.Prelude.{Terms, nil, Substitution, apply, Bindings, values_of, IsMostGeneralOfAll, append}
use Rattle.rewriting.proofs.Instances.{apply_all-agree}
use Rattle.unifier_run.specs.Run.{Binding, value, Outcome, unifier, clash, too_large, IsOutcome, Runs, no_equation}
use Rattle.unifier_run.specs.Laws.{as_map}
use Rattle.unifier_run.proofs.Lists.{append-nil}
use Rattle.unifier_run.proofs.General.{most_general, no_unifier}
use Rattle.unifier_run.proofs.Maps.{values_of-as_map}
use Rattle.term_core.specs.declared.terms.NoMemory.{NoMemory}
use Rattle.unification.specs.declared.Unified.{Unified}
use Rattle.unification.specs.declared.Unified.TheVariants.{Mgu, Clash as NoUnifier, TooLarge as PassesSize}
use Rattle.unification.specs.declared.solving.Progress.{Progress}
use Rattle.unification.specs.declared.solving.Progress.TheVariants.{Solved, Clash, TooLarge}
use Rattle.unification.specs.Answers.{HasNoUnifier, UnifyAnswers}
use Rattle.unification.specs.Solving.{AreSolved, DoesEnd, SolveAnswers, OutcomeAnswers}

alone : (b : List Binding) (ts us : Terms) (o : Outcome) → Runs b (append ts nil) (append us nil) o → Runs b ts us o
alone b ts us o r = subst₂ (λ x y. Runs b x y o) (append-nil ts) (append-nil us) r

same_values : (m n : Substitution) (ts us : Terms) → ((x : ℕ) → n x ≡ m x) → IsMostGeneralOfAll m ts us → IsMostGeneralOfAll n ts us
same_values m n ts us same h =
    record {
      unifies = apply_all-agree n m ts (λ x o. same x) ∙ (h.unifies ∙ sym (apply_all-agree n m us (λ x o. same x)));
      factors = λ s e x. h.factors s e x ∙ ap (apply s) (sym (same x));
    }

pub solved_whole : (b c : List Binding) (ts us : Terms) (s : Bindings) → b ≡ [] → s ≡ as_map c → AreSolved b c ts us
    → ((m : List Binding) × IsOutcome ts us (unifier m) × (s ≡ as_map m)) × IsMostGeneralOfAll (values_of s) ts us
solved_whole b c ts us s e is h =
    let run : IsOutcome ts us (unifier c) = subst (λ z. Runs z ts us (unifier c)) e (alone b ts us (unifier c) (h.runs nil nil (unifier c) no_equation)) in
    ((c, run, is), same_values (value c) (values_of s) ts us (λ x. ap (λ z. values_of z x) is ∙ values_of-as_map c x) (most_general ts us c run))

pub ends_whole : (b : List Binding) (ts us : Terms) (o : Outcome) → b ≡ [] → DoesEnd b ts us o → IsOutcome ts us o
ends_whole b ts us o e h = subst (λ z. Runs z ts us o) e (alone b ts us o (h nil nil))

pub clash_whole : (b : List Binding) (ts us : Terms) → b ≡ [] → DoesEnd b ts us clash → IsOutcome ts us clash × HasNoUnifier ts us
clash_whole b ts us e h = let run = ends_whole b ts us clash e h in (run, no_unifier ts us run)

-- what is answered for a whole run
pub answered : (b c : List Binding) (ts us : Terms) (p : Progress) (r : Result Unified NoMemory) → b ≡ [] → SolveAnswers b c ts us (Ok p) → OutcomeAnswers c p r → UnifyAnswers ts us r
answered b c ts us Solved (Ok (Mgu s)) e h k = solved_whole b c ts us s e k h
answered b c ts us Solved (Ok NoUnifier) e h k = absurd k
answered b c ts us Solved (Ok PassesSize) e h k = absurd k
answered b c ts us Clash (Ok (Mgu s)) e h k = absurd k
answered b c ts us Clash (Ok NoUnifier) e h k = clash_whole b ts us e h
answered b c ts us Clash (Ok PassesSize) e h k = absurd k
answered b c ts us TooLarge (Ok (Mgu s)) e h k = absurd k
answered b c ts us TooLarge (Ok NoUnifier) e h k = absurd k
answered b c ts us TooLarge (Ok PassesSize) e h k = ends_whole b ts us too_large e h
answered b c ts us Solved (Err x) e h k = tt
answered b c ts us Clash (Err x) e h k = tt
answered b c ts us TooLarge (Err x) e h k = tt
