-- A term that is spelled is read.
use Rattle.std.proofs.Common.{◌≡◌, List, [], ◌∷◌, ◌++◌, Option, Some, None, refl, sym, ap, ◌∙◌, append_assoc}
use Rattle.std.specs.Option.{option_and_then}
use Rattle.file_text.specs.Syntax.{Name, Phrase, Phrases, word, call, none, more, with_last, RuleTree}
use Rattle.file_text.specs.Grammar.{Word, id, left_paren, right_paren, comma, bar, arrow, equal, spelled, spelled_arguments, spelled_further}
use Rattle.file_text.proofs.Machine.{Last, want, first, bare, done, Opens, Part, Reading, reading, behind, step_term}

-- the reading behind these words, where no bracket ends the block
abbrev pub term_run : Reading → List Word → Option Reading
term_run s [] = Some s
term_run s (w ∷ ws) = option_and_then (λ t. term_run t ws) (step_term s.rules s.part s.opens s.last w)

-- the term that ends with what was read last
abbrev pub Ends : Last → Phrase → Type 0
Ends want t = ⊥
Ends (first g) t = ⊥
Ends (bare f) t = word f ≡ t
Ends (done u) t = u ≡ t

-- a word that does not open a bracket
abbrev pub IsBehind : Word → Type 0
IsBehind left_paren = ⊥
IsBehind _ = Unit {0}

pub behind_step : (rs : List RuleTree) (p : Part) (os : Opens) (l : Last) (t : Phrase) (w : Word) → Ends l t → IsBehind w → step_term rs p os l w ≡ behind rs p os t w
behind_step rs p os want t w h b = absurd h
behind_step rs p os (first g) t w h b = absurd h
behind_step rs p os (bare f) t left_paren h b = absurd b
behind_step rs p os (bare f) t (id g) h b = ap (λ (u : Phrase). behind rs p os u (id g)) h
behind_step rs p os (bare f) t right_paren h b = ap (λ (u : Phrase). behind rs p os u right_paren) h
behind_step rs p os (bare f) t comma h b = ap (λ (u : Phrase). behind rs p os u comma) h
behind_step rs p os (bare f) t (bar at) h b = ap (λ (u : Phrase). behind rs p os u (bar at)) h
behind_step rs p os (bare f) t arrow h b = ap (λ (u : Phrase). behind rs p os u arrow) h
behind_step rs p os (bare f) t equal h b = ap (λ (u : Phrase). behind rs p os u equal) h
behind_step rs p os (done u) t w h b = ap (λ (v : Phrase). behind rs p os v w) h

-- what a run goes through it goes through by halves
pub goes_on : {S : Type 0} (whole front behind : S → Option S) (o : Option S) → ((t : S) → whole t ≡ option_and_then behind (front t))
    → option_and_then whole o ≡ option_and_then behind (option_and_then front o)
goes_on whole front behind None each = refl
goes_on whole front behind (Some t) each = each t

pub term_run-append : (a b : List Word) (s : Reading) → term_run s (a ++ b) ≡ option_and_then (λ t. term_run t b) (term_run s a)
term_run-append [] b s = refl
term_run-append (w ∷ a) b s = goes_on (λ t. term_run t (a ++ b)) (λ t. term_run t a) (λ t. term_run t b) (step_term s.rules s.part s.opens s.last w) (λ t. term_run-append a b t)

pub term_run_then : (a b : List Word) (s t : Reading) → term_run s a ≡ Some t → term_run s (a ++ b) ≡ term_run t b
term_run_then a b s t e = term_run-append a b s ∙ ap (option_and_then (λ (t : Reading). term_run t b)) e

-- a step, and the words behind it
pub term_step_then : (s t : Reading) (w : Word) (ws : List Word) → step_term s.rules s.part s.opens s.last w ≡ Some t → term_run s (w ∷ ws) ≡ term_run t ws
term_step_then s t w ws e = ap (option_and_then (λ (t : Reading). term_run t ws)) e

abbrev joined : Phrases → Phrases → Phrases
joined none us = us
joined (more t ts) us = more t (joined ts us)

joined-none : (ts : Phrases) → joined ts none ≡ ts
joined-none none = refl
joined-none (more t ts) = ap (more t) (joined-none ts)

joined-last : (ts : Phrases) (u : Phrase) (us : Phrases) → joined (with_last ts u) us ≡ joined ts (more u us)
joined-last none u us = refl
joined-last (more t ts) u us = ap (more t) (joined-last ts u us)

-- behind a bracket the first argument is read as one behind a comma
first_runs : (t : Phrase) (z : List Word) (rs : List RuleTree) (p : Part) (os : Opens) (g : Name)
    → term_run (reading rs p os (first g)) (spelled t ++ z) ≡ term_run (reading rs p ((g, none) ∷ os) want) (spelled t ++ z)
first_runs (word f) z rs p os g = refl
first_runs (call f ts) z rs p os g = refl

mutual
  pub term_runs : (t : Phrase) (rs : List RuleTree) (p : Part) (os : Opens) → (l : Last) × (term_run (reading rs p os want) (spelled t) ≡ Some (reading rs p os l)) × Ends l t
  term_runs (word f) rs p os = (bare f, refl, refl)
  term_runs (call f ts) rs p os = (done (call f ts), arguments_run ts rs p f os, refl)

  arguments_run : (ts : Phrases) (rs : List RuleTree) (p : Part) (f : Name) (os : Opens)
      → term_run (reading rs p os (first f)) (spelled_arguments ts ++ right_paren ∷ []) ≡ Some (reading rs p os (done (call f ts)))
  arguments_run none rs p f os = refl
  arguments_run (more t ts) rs p f os =
      let one = term_runs t rs p ((f, none) ∷ os) in
      ap (term_run (reading rs p os (first f))) (append_assoc (spelled t) (spelled_further ts) (right_paren ∷ []))
      ∙ first_runs t (spelled_further ts ++ right_paren ∷ []) rs p os f
      ∙ term_run_then (spelled t) (spelled_further ts ++ right_paren ∷ []) (reading rs p ((f, none) ∷ os) want) (reading rs p ((f, none) ∷ os) one.0) one.1
      ∙ further_run ts rs p f none os one.0 t one.2

  further_run : (ts : Phrases) (rs : List RuleTree) (p : Part) (f : Name) (before : Phrases) (os : Opens) (l : Last) (t : Phrase) → Ends l t
      → term_run (reading rs p ((f, before) ∷ os) l) (spelled_further ts ++ right_paren ∷ []) ≡ Some (reading rs p os (done (call f (joined (with_last before t) ts))))
  further_run none rs p f before os l t e =
      term_step_then (reading rs p ((f, before) ∷ os) l) (reading rs p os (done (call f (with_last before t)))) right_paren [] (behind_step rs p ((f, before) ∷ os) l t right_paren e tt)
      ∙ ap (λ (us : Phrases). Some (reading rs p os (done (call f us)))) (sym (joined-none (with_last before t)))
  further_run (more u us) rs p f before os l t e =
      let one = term_runs u rs p ((f, with_last before t) ∷ os) in
      term_step_then (reading rs p ((f, before) ∷ os) l) (reading rs p ((f, with_last before t) ∷ os) want) comma ((spelled u ++ spelled_further us) ++ right_paren ∷ [])
      (behind_step rs p ((f, before) ∷ os) l t comma e tt)
      ∙ ap (term_run (reading rs p ((f, with_last before t) ∷ os) want)) (append_assoc (spelled u) (spelled_further us) (right_paren ∷ []))
      ∙ term_run_then (spelled u) (spelled_further us ++ right_paren ∷ []) (reading rs p ((f, with_last before t) ∷ os) want) (reading rs p ((f, with_last before t) ∷ os) one.0) one.1
      ∙ further_run us rs p f (with_last before t) os one.0 u one.2
      ∙ ap (λ (vs : Phrases). Some (reading rs p os (done (call f vs)))) (joined-last (with_last before t) u us)

-- a side of a rule or of a condition
pub side_runs : (t : Phrase) (rs : List RuleTree) (p : Part) → (l : Last) × (term_run (reading rs p [] want) (spelled t) ≡ Some (reading rs p [] l)) × Ends l t
side_runs t rs p = term_runs t rs p []
