-- The variables' block that is written names the same variables.
use Rattle.std.proofs.Common.{◌≡◌, ◌⊎◌, inl, inr, ℕ, Bool, true, false, List, [], ◌∷◌, ◌++◌, map, Option, None, Some, refl, sym, ◌∙◌, subst}
use Rattle.std.specs.Prelude.{if◌then◌else◌, ◌||◌}
use Rattle.std.specs.Str.{bytes_eq}
use Rattle.std.proofs.lemmas.Bool.{false_from_ne_true, or_right, or_left, or_cases}
use Rattle.std.proofs.lemmas.Slice.Eq.{bytes_eq-Decides}
use Rattle.file_text.specs.Syntax.{Phrase, Phrases, word, call, none, more, ConditionTree, Guard, RuleTree, conditions_of}
use Rattle.file_text.proofs.Names.{IsName}
use Rattle.rewriting.specs.Prelude.{Term, var, app, Terms, nil, cons, Rule, terms_of_rule}
use Rattle.cops_names.specs.NameLists.{is_among, with_name, with_names}
use Rattle.cops_read.specs.Meaning.{sides, phrases_of_rule, with_variables, with_all_variables, rule_variables, IsTermOf, AreTermsOf, AreRulesOf}
use Rattle.cops_read.proofs.Sound.{terms_are}
use Rattle.cops_write.proofs.Trees.{HasNames, HaveNames, ConditionsHaveNames, GuardHasNames, RulesHaveNames}
use Rattle.cops_write.proofs.SameText.{joined}

abbrev pub Names : Type 0
Names = List (List ℕ)

-- ---- members of lists of names

same_name : (m n : List ℕ) → bytes_eq m n ≡ true → m ≡ n
same_name m n h = (bytes_eq-Decides m n).0 h

pub itself : (n : List ℕ) → bytes_eq n n ≡ true
itself n = (bytes_eq-Decides n n).1 refl

pub in_left : (xs ys : Names) (n : List ℕ) → is_among xs n ≡ true → is_among (xs ++ ys) n ≡ true
in_left [] ys n h = absurd cc
in_left (x ∷ xs) ys n h = by (bytes_eq n x) h (in_left xs ys n)
  where
    by : (b : Bool) → (b || is_among xs n) ≡ true → (is_among xs n ≡ true → is_among (xs ++ ys) n ≡ true) → (b || is_among (xs ++ ys) n) ≡ true
    by true h again = refl
    by false h again = again h

pub in_right : (xs ys : Names) (n : List ℕ) → is_among ys n ≡ true → is_among (xs ++ ys) n ≡ true
in_right [] ys n h = h
in_right (x ∷ xs) ys n h = or_right (bytes_eq n x) (is_among (xs ++ ys) n) (in_right xs ys n h)

pub in_either : (xs ys : Names) (n : List ℕ) → is_among (xs ++ ys) n ≡ true → (is_among xs n ≡ true) ⊎ (is_among ys n ≡ true)
in_either [] ys n h = inr h
in_either (x ∷ xs) ys n h = by (bytes_eq n x) h (in_either xs ys n)
  where
    by : (b : Bool) → (b || is_among (xs ++ ys) n) ≡ true → (is_among (xs ++ ys) n ≡ true → (is_among xs n ≡ true) ⊎ (is_among ys n ≡ true)) → ((b || is_among xs n) ≡ true) ⊎ (is_among ys n ≡ true)
    by true h again = inl refl
    by false h again = again h

last_is : (n x : List ℕ) → is_among (x ∷ []) n ≡ true → n ≡ x
last_is n x h = by (bytes_eq n x) refl h
  where
    by : (b : Bool) → bytes_eq n x ≡ b → (b || false) ≡ true → n ≡ x
    by true e h = same_name n x e
    by false e h = absurd cc

pub kept : (xs : Names) (x n : List ℕ) → is_among xs n ≡ true → is_among (with_name xs x) n ≡ true
kept xs x n h = by (is_among xs x)
  where
    by : (b : Bool) → is_among (if b then xs else (xs ++ x ∷ [])) n ≡ true
    by true = h
    by false = in_left xs (x ∷ []) n h

pub added : (xs : Names) (x : List ℕ) → is_among (with_name xs x) x ≡ true
added xs x = by (is_among xs x) refl
  where
    by : (b : Bool) → is_among xs x ≡ b → is_among (if b then xs else (xs ++ x ∷ [])) x ≡ true
    by true e = e
    by false e = in_right xs (x ∷ []) x (or_left (bytes_eq x x) false (itself x))

pub known : (xs : Names) (x n : List ℕ) → is_among (with_name xs x) n ≡ true → (is_among xs n ≡ true) ⊎ (n ≡ x)
known xs x n h = by (is_among xs x) h
  where
    of_last : (is_among xs n ≡ true) ⊎ (is_among (x ∷ []) n ≡ true) → (is_among xs n ≡ true) ⊎ (n ≡ x)
    of_last (inl a) = inl a
    of_last (inr b) = inr (last_is n x b)

    by : (b : Bool) → is_among (if b then xs else (xs ++ x ∷ [])) n ≡ true → (is_among xs n ≡ true) ⊎ (n ≡ x)
    by true h = inl h
    by false h = of_last (in_either xs (x ∷ []) n h)

pub kept_all : (xs ys : Names) (n : List ℕ) → is_among xs n ≡ true → is_among (with_names xs ys) n ≡ true
kept_all xs [] n h = h
kept_all xs (y ∷ ys) n h = kept_all (with_name xs y) ys n (kept xs y n h)

pub added_all : (xs ys : Names) (n : List ℕ) → is_among ys n ≡ true → is_among (with_names xs ys) n ≡ true
added_all xs [] n h = absurd cc
added_all xs (y ∷ ys) n h = by (or_cases (bytes_eq n y) (is_among ys n) h) (added_all (with_name xs y) ys n)
  where
    by : (bytes_eq n y ≡ true) ⊎ (is_among ys n ≡ true) → (is_among ys n ≡ true → is_among (with_names (with_name xs y) ys) n ≡ true) → is_among (with_names (with_name xs y) ys) n ≡ true
    by (inl e) again = kept_all (with_name xs y) ys n (subst (λ (m : List ℕ). is_among (with_name xs y) m ≡ true) (sym (same_name n y e)) (added xs y))
    by (inr h) again = again h

pub known_all : (xs ys : Names) (n : List ℕ) → is_among (with_names xs ys) n ≡ true → (is_among xs n ≡ true) ⊎ (is_among ys n ≡ true)
known_all xs [] n h = inl h
known_all xs (y ∷ ys) n h = by (known_all (with_name xs y) ys n h)
  where
    of_new : (is_among xs n ≡ true) ⊎ (n ≡ y) → (is_among xs n ≡ true) ⊎ (is_among (y ∷ ys) n ≡ true)
    of_new (inl a) = inl a
    of_new (inr e) = inr (subst (λ (m : List ℕ). is_among (y ∷ ys) m ≡ true) (sym e) (or_left (bytes_eq y y) (is_among ys y) (itself y)))

    by : (is_among (with_name xs y) n ≡ true) ⊎ (is_among ys n ≡ true) → (is_among xs n ≡ true) ⊎ (is_among (y ∷ ys) n ≡ true)
    by (inl a) = of_new (known xs y n a)
    by (inr b) = inr (or_right (bytes_eq n y) (is_among ys n) b)

-- ---- the variables of phrases

-- a name that is the text's, and in the block
abbrev pub IsOfBlock : Names → List ℕ → Type 0
IsOfBlock block n = (is_among block n ≡ true) × IsName n

earlier : {A B C : Type 0} → A ⊎ C → (A → B ⊎ C) → B ⊎ C
earlier (inl a) again = again a
earlier (inr c) again = inr c

module _ (block : Names) where
  word_kept : (names : Names) (x n : List ℕ) (b : Bool) → is_among names n ≡ true → is_among (if b then with_name names x else names) n ≡ true
  word_kept names x n true h = kept names x n h
  word_kept names x n false h = h

  mutual
    phrase_kept : (names : Names) (p : Phrase) (n : List ℕ) → is_among names n ≡ true → is_among (with_variables block names p) n ≡ true
    phrase_kept names (word f) n h = word_kept names f.text n (is_among block f.text) h
    phrase_kept names (call f ts) n h = phrases_kept names ts n h

    pub phrases_kept : (names : Names) (ts : Phrases) (n : List ℕ) → is_among names n ≡ true → is_among (with_all_variables block names ts) n ≡ true
    phrases_kept names none n h = h
    phrases_kept names (more t ts) n h = phrases_kept (with_variables block names t) ts n (phrase_kept names t n h)

  word_known : (names : Names) (x n : List ℕ) (b : Bool) → is_among block x ≡ b → IsName x → is_among (if b then with_name names x else names) n ≡ true → (is_among names n ≡ true) ⊎ IsOfBlock block n
  word_known names x n true e is h = by (known names x n h)
    where
      by : (is_among names n ≡ true) ⊎ (n ≡ x) → (is_among names n ≡ true) ⊎ IsOfBlock block n
      by (inl a) = inl a
      by (inr same) = inr (subst (IsOfBlock block) (sym same) (e, is))
  word_known names x n false e is h = inl h

  mutual
    phrase_known : (names : Names) (p : Phrase) (n : List ℕ) → HasNames p → is_among (with_variables block names p) n ≡ true → (is_among names n ≡ true) ⊎ IsOfBlock block n
    phrase_known names (word f) n is h = word_known names f.text n (is_among block f.text) refl is h
    phrase_known names (call f ts) n is h = phrases_known names ts n is.1 h

    pub phrases_known : (names : Names) (ts : Phrases) (n : List ℕ) → HaveNames ts → is_among (with_all_variables block names ts) n ≡ true → (is_among names n ≡ true) ⊎ IsOfBlock block n
    phrases_known names none n is h = inl h
    phrases_known names (more t ts) n is h = earlier (phrases_known (with_variables block names t) ts n is.1 h) (phrase_known names t n is.0)

  sides_have : (cs : List ConditionTree) → ConditionsHaveNames cs → HaveNames (sides cs)
  sides_have [] h = tt
  sides_have (c ∷ cs) h = (h.0, (h.1, sides_have cs h.2))

  guard_has : (g : Option Guard) → GuardHasNames g → (l r : Phrase) → HaveNames (sides (conditions_of (record { left = l; right = r; guard = g })))
  guard_has None h l r = tt
  guard_has (Some g) h l r = sides_have (g.first ∷ g.others) h.1

  nothing_known : {C : Type 0} (n : List ℕ) → (is_among [] n ≡ true) ⊎ C → C
  nothing_known n (inl a) = absurd cc
  nothing_known n (inr c) = c

  -- the names of the rules' variables are the block's
  pub all_known : (ts : List RuleTree) (n : List ℕ) → RulesHaveNames ts → is_among (joined (map (rule_variables block) ts)) n ≡ true → IsOfBlock block n
  all_known [] n is h = absurd cc
  all_known (t ∷ ts) n is h = by (in_either (rule_variables block t) (joined (map (rule_variables block) ts)) n h) (all_known ts n is.3)
    where
      by : (is_among (rule_variables block t) n ≡ true) ⊎ (is_among (joined (map (rule_variables block) ts)) n ≡ true)
          → (is_among (joined (map (rule_variables block) ts)) n ≡ true → IsOfBlock block n) → IsOfBlock block n
      by (inl a) again = nothing_known n (phrases_known [] (phrases_of_rule t) n (is.0, (is.1, guard_has t.guard is.2 t.left t.right)) a)
      by (inr b) again = again b

-- ---- the two blocks agree on the identifiers

module _ (block other : Names) where
  abbrev mutual
    pub Agree : Phrase → Type 0
    Agree (word f) = is_among block f.text ≡ is_among other f.text
    Agree (call f ts) = (is_among block f.text ≡ is_among other f.text) × AgreeAll ts

    pub AgreeAll : Phrases → Type 0
    AgreeAll none = Unit {0}
    AgreeAll (more t ts) = Agree t × AgreeAll ts

  abbrev pub RulesAgree : List RuleTree → Type 0
  RulesAgree [] = Unit {0}
  RulesAgree (t ∷ ts) = AgreeAll (phrases_of_rule t) × RulesAgree ts

  module _ (table : List (List ℕ × ℕ)) (within : (n : List ℕ) → is_among other n ≡ true → is_among block n ≡ true) where
    neither : (n : List ℕ) → is_among block n ≡ false → is_among block n ≡ is_among other n
    neither n h = h ∙ sym (false_from_ne_true (is_among other n) (λ (e : is_among other n ≡ true). let both : true ≡ false = sym (within n e) ∙ h in cc))

    word_covered : (names : Names) (x : List ℕ) → is_among block x ≡ true → ((n : List ℕ) → is_among (if is_among block x then with_name names x else names) n ≡ true
        → is_among other n ≡ true) → is_among other x ≡ true
    word_covered names x h cover = cover x (rw h (added names x))

    mutual
      agree : (names vars : Names) (p : Phrase) (t : Term) → IsTermOf block table vars p t → ((n : List ℕ) → is_among (with_variables block names p) n ≡ true → is_among other n ≡ true) → Agree p
      agree names vars (word f) (var x) h cover = h.0 ∙ sym (word_covered names f.text h.0 cover)
      agree names vars (word f) (app g us) h cover = neither f.text h.0.0
      agree names vars (call f ts) (var x) h cover = absurd h
      agree names vars (call f ts) (app g us) h cover = (neither f.text h.0.0, agree_all names vars ts us h.1 cover)

      agree_all : (names vars : Names) (ps : Phrases) (ts : Terms) → AreTermsOf block table vars ps ts
          → ((n : List ℕ) → is_among (with_all_variables block names ps) n ≡ true → is_among other n ≡ true) → AgreeAll ps
      agree_all names vars none nil h cover = tt
      agree_all names vars none (cons t ts) h cover = absurd h
      agree_all names vars (more p ps) nil h cover = absurd h
      agree_all names vars (more p ps) (cons t ts) h cover =
          (agree names vars p t h.0 (λ n e. cover n (phrases_kept block (with_variables block names p) ps n e)), agree_all (with_variables block names p) vars ps ts h.1 cover)

    pub rules_agree : (ts : List RuleTree) (rs : List Rule) → AreRulesOf block table ts rs
        → ((n : List ℕ) → is_among (joined (map (rule_variables block) ts)) n ≡ true → is_among other n ≡ true) → RulesAgree ts
    rules_agree [] [] h cover = tt
    rules_agree [] (r ∷ rs) h cover = absurd h
    rules_agree (t ∷ ts) [] h cover = absurd h
    rules_agree (t ∷ ts) (r ∷ rs) h cover = (
      agree_all [] (rule_variables block t) (phrases_of_rule t) (terms_of_rule r) (terms_are block table t r h.0)
          (λ n e. cover n (in_left (rule_variables block t) (joined (map (rule_variables block) ts)) n e)),
      rules_agree ts rs h.1 (λ n e. cover n (in_right (rule_variables block t) (joined (map (rule_variables block) ts)) n e)),
    )
