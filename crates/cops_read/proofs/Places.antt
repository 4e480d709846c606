-- The place of a refusal that a file's meaning has is within the text.
use Rattle.std.proofs.Common.{◌≡◌, ℕ, suc, ◌≤◌, Bool, true, false, List, [], ◌∷◌, ◌++◌, length, Option, Some, None, ap, subst}
use Rattle.file_text.specs.Syntax.{Phrase, Phrases, word, call, none, more, ConditionTree, Guard, RuleTree, has_type}
use Rattle.file_text.proofs.TreeWords.{OfPhrase, OfPhrases, OfConditions, OfGuard, OfRules}
use Rattle.file_text.proofs.Within.{NameWithin, PlaceWithin, tree_within}
use Rattle.cops_read.specs.Uses.{Spot, spots, spots_of_all, Side, side_of, Event, place, uses_from, term_events, condition_events, guard_events, rule_events, rules_events, events}
use Rattle.cops_read.specs.Meaning.{variables_of}
use Rattle.cops_read.specs.Refusals.{MeaningCause, event_cause, first_or, first_refusal}
use Rattle.cops_read.specs.File.{MeansNothing}

module _ (bytes : List ℕ) where
  abbrev SpotsWithin : List Spot → Type 0
  SpotsWithin [] = Unit {0}
  SpotsWithin (s ∷ ss) = (s.node.name.at ≤ length bytes) × SpotsWithin ss

  abbrev pub EventsWithin : List Event → Type 0
  EventsWithin [] = Unit {0}
  EventsWithin (e ∷ es) = (place e ≤ length bytes) × EventsWithin es

  both_spots : (ss ts : List Spot) → SpotsWithin ss → SpotsWithin ts → SpotsWithin (ss ++ ts)
  both_spots [] ts h g = g
  both_spots (s ∷ ss) ts h g = (h.0, both_spots ss ts h.1 g)

  both_events : (es fs : List Event) → EventsWithin es → EventsWithin fs → EventsWithin (es ++ fs)
  both_events [] fs h g = g
  both_events (e ∷ es) fs h g = (h.0, both_events es fs h.1 g)

  mutual
    spots_within : (depth argument : ℕ) (p : Phrase) → OfPhrase (NameWithin bytes) (PlaceWithin bytes) p → SpotsWithin (spots depth argument p)
    spots_within depth argument (word f) h = (h, tt)
    spots_within depth argument (call f ts) h = (h.0, all_spots_within (suc depth) 1 ts h.1)

    all_spots_within : (depth argument : ℕ) (ts : Phrases) → OfPhrases (NameWithin bytes) (PlaceWithin bytes) ts → SpotsWithin (spots_of_all depth argument ts)
    all_spots_within depth argument none h = tt
    all_spots_within depth argument (more t ts) h =
        both_spots (spots depth argument t) (spots_of_all depth (suc argument) ts) (spots_within depth argument t h.0) (all_spots_within depth (suc argument) ts h.1)

  uses_within : (side : Side) (number : ℕ) (ss : List Spot) → SpotsWithin ss → EventsWithin (uses_from side number ss)
  uses_within side number [] h = tt
  uses_within side number (s ∷ ss) h = (h.0, uses_within side (suc number) ss h.1)

  term_within : (side : Side) (p : Phrase) → OfPhrase (NameWithin bytes) (PlaceWithin bytes) p → EventsWithin (term_events side p)
  term_within side p h = uses_within side 1 (spots 1 0 p) (spots_within 1 0 p h)

  pub conditions_within : (rule number : ℕ) (cs : List ConditionTree) → OfConditions (NameWithin bytes) (PlaceWithin bytes) cs → EventsWithin (condition_events rule number cs)
  conditions_within rule number [] h = tt
  conditions_within rule number (c ∷ cs) h =
      both_events (term_events (side_of rule number false) c.left) _ (term_within (side_of rule number false) c.left h.0)
      (both_events (term_events (side_of rule number false) c.right) _ (term_within (side_of rule number false) c.right h.1) (conditions_within rule (suc number) cs h.2))

  guard_within : (rule : ℕ) (g : Option Guard) → OfGuard (NameWithin bytes) (PlaceWithin bytes) g → EventsWithin (guard_events rule g)
  guard_within rule None h = tt
  guard_within rule (Some g) h = (h.0, conditions_within rule 1 (g.first ∷ g.others) h.1)

  rules_within : (number : ℕ) (rs : List RuleTree) → OfRules (NameWithin bytes) (PlaceWithin bytes) rs → EventsWithin (rules_events number rs)
  rules_within number [] h = tt
  rules_within number (r ∷ rs) h =
      both_events (rule_events number r) (rules_events (suc number) rs)
      (both_events (term_events (side_of number 0 true) r.left) _ (term_within (side_of number 0 true) r.left h.0)
      (both_events (term_events (side_of number 0 false) r.right) _ (term_within (side_of number 0 false) r.right h.1) (guard_within number r.guard h.2)))
      (rules_within (suc number) rs h.3)

  pub here_or_later : {C : Type 0} (here : Option C) (first : ℕ) (later : Option (C × ℕ)) (cause : C) (at : ℕ)
      → first ≤ length bytes → (later ≡ Some (cause, at) → at ≤ length bytes) → first_or here first later ≡ Some (cause, at) → at ≤ length bytes
  here_or_later None first later cause at h further e = further e
  here_or_later {C = C} (Some c) first later cause at h further e =
      let pair : ◌≡◌ {A = C × ℕ} (c, first) (cause, at) = cc in
      subst (λ (n : ℕ). n ≤ length bytes) (ap (λ (r : C × ℕ). r.1) pair) h

  -- the first refusal is at an event
  refusal_within : (block : List (List ℕ)) (typed : Bool) (front es : List Event) (cause : MeaningCause) (at : ℕ) → EventsWithin es → first_refusal block typed front es ≡ Some (cause, at)
      → at ≤ length bytes
  refusal_within block typed front [] cause at h e = absurd cc
  refusal_within block typed front (x ∷ es) cause at h e =
      here_or_later (event_cause block typed front x) (place x) (first_refusal block typed (front ++ x ∷ []) es) cause at h.0 (refusal_within block typed (front ++ x ∷ []) es cause at h.1) e

  pub means_nothing_within : (cause : MeaningCause) (at : ℕ) → MeansNothing bytes cause at → at ≤ length bytes
  means_nothing_within cause at h =
      refusal_within (variables_of h.tree) (has_type h.tree) [] (events h.tree) cause at (rules_within 1 h.tree.rules (tree_within bytes h.tree h.spelled)) h.refused
