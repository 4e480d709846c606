-- The list of variables is the list of variable occurrences, each variable where it first stands.
use Rattle.std.proofs.Common.{◌≡◌, ℕ, ◌⊎◌, inl, inr, Bool, true, false, refl, sym, ap, ◌∙◌, subst, List, [], ◌∷◌, ◌++◌, append_assoc, append-nil, eqb-true, eq-eqb, nat_eq, if◌then◌else◌}
use Rattle.std.specs.List.{list_any}
use Rattle.rewriting.specs.Lists.{IsAmong, without, firsts}
use Rattle.rewriting.specs.Laws.{VariablesAreListed}
use Rattle.rewriting.proofs.Common.{Term, var, app, Terms, nil, cons, variable_occurrences, variable_occurrences_of, with_new, with_variables, with_variables_of}
use Rattle.rewriting.proofs.Variables.{among_of_any, any_of_among, variables_have, variables_have_all, variables_only, variables_only_all, variables_distinct, variables_distinct_all}

decided : (x y : ℕ) → (x ≡ y) ⊎ (nat_eq x y ≡ false)
decided x y = go (nat_eq x y) refl
  where
    go : (b : Bool) → nat_eq x y ≡ b → (x ≡ y) ⊎ (nat_eq x y ≡ false)
    go true e = inl (eqb-true x y e)
    go false e = inr e

without_same : (x y : ℕ) (ys : List ℕ) → x ≡ y → without x (y ∷ ys) ≡ without x ys
without_same x y ys e = let h = eq-eqb x y e in rw h refl

without_other : (x y : ℕ) (ys : List ℕ) → nat_eq x y ≡ false → without x (y ∷ ys) ≡ y ∷ without x ys
without_other x y ys h = rw h refl

without_swap : (x y : ℕ) (zs : List ℕ) → without x (without y zs) ≡ without y (without x zs)
without_swap x y [] = refl
without_swap x y (z ∷ zs) = go (without_swap x y zs) (decided x z) (decided y z)
  where
    go : without x (without y zs) ≡ without y (without x zs) → (x ≡ z) ⊎ (nat_eq x z ≡ false) → (y ≡ z) ⊎ (nat_eq y z ≡ false) → without x (without y (z ∷ zs)) ≡ without y (without x (z ∷ zs))
    go h (inl a) (inl b) = subst (λ q. without x (without q (z ∷ zs)) ≡ without q (without x (z ∷ zs))) (a ∙ sym b) refl
    go h (inl a) (inr g) = ap (without x) (without_other y z zs g) ∙ without_same x z (without y zs) a ∙ h ∙ sym (ap (without y) (without_same x z zs a))
    go h (inr f) (inl b) = ap (without x) (without_same y z zs b) ∙ h ∙ sym (ap (without y) (without_other x z zs f) ∙ without_same y z (without x zs) b)
    go h (inr f) (inr g) =
        ap (without x) (without_other y z zs g) ∙ without_other x z (without y zs) f ∙ ap (λ qs. z ∷ qs) h
        ∙ sym (ap (without y) (without_other x z zs f) ∙ without_other y z (without x zs) g)

without_twice : (x : ℕ) (zs : List ℕ) → without x (without x zs) ≡ without x zs
without_twice x [] = refl
without_twice x (z ∷ zs) = go (without_twice x zs) (decided x z)
  where
    go : without x (without x zs) ≡ without x zs → (x ≡ z) ⊎ (nat_eq x z ≡ false) → without x (without x (z ∷ zs)) ≡ without x (z ∷ zs)
    go h (inl a) = ap (without x) (without_same x z zs a) ∙ h ∙ sym (without_same x z zs a)
    go h (inr f) = ap (without x) (without_other x z zs f) ∙ without_other x z (without x zs) f ∙ ap (λ qs. z ∷ qs) h ∙ sym (without_other x z zs f)

-- the second list without what the first has
abbrev minus : List ℕ → List ℕ → List ℕ
minus [] zs = zs
minus (x ∷ xs) zs = without x (minus xs zs)

minus_nothing : (xs : List ℕ) → minus xs [] ≡ []
minus_nothing [] = refl
minus_nothing (x ∷ xs) = ap (without x) (minus_nothing xs)

minus_last : (xs : List ℕ) (y : ℕ) (zs : List ℕ) → minus (xs ++ y ∷ []) zs ≡ minus xs (without y zs)
minus_last [] y zs = refl
minus_last (x ∷ xs) y zs = ap (without x) (minus_last xs y zs)

minus_swap : (y : ℕ) (xs zs : List ℕ) → without y (minus xs zs) ≡ minus xs (without y zs)
minus_swap y [] zs = refl
minus_swap y (x ∷ xs) zs = without_swap y x (minus xs zs) ∙ ap (without x) (minus_swap y xs zs)

minus_new : (y : ℕ) (xs zs : List ℕ) → (IsAmong y xs → ⊥) → minus xs (y ∷ zs) ≡ y ∷ minus xs zs
minus_new y [] zs h = refl
minus_new y (x ∷ xs) zs h = ap (without x) (minus_new y xs zs (λ a. h (inr a))) ∙ without_other x y (minus xs zs) (go (decided x y))
  where
    go : (x ≡ y) ⊎ (nat_eq x y ≡ false) → nat_eq x y ≡ false
    go (inl e) = absurd (h (inl (sym e)))
    go (inr e) = e

minus_known : (y : ℕ) (xs zs : List ℕ) → IsAmong y xs → minus xs (y ∷ without y zs) ≡ minus xs zs
minus_known y [] zs a = absurd a
minus_known y (x ∷ xs) zs (inl e) =
    let once : without x (y ∷ without y zs) ≡ without x zs = without_same x y (without y zs) (sym e) ∙ subst (λ q. without x (without q zs) ≡ without x zs) (sym e) (without_twice x zs) in
    minus_swap x xs (y ∷ without y zs) ∙ ap (minus xs) once ∙ sym (minus_swap x xs zs)
minus_known y (x ∷ xs) zs (inr a) = ap (without x) (minus_known y xs zs a)

-- the list, and behind it the numbers that it lacks
abbrev with_all : List ℕ → List ℕ → List ℕ
with_all xs [] = xs
with_all xs (y ∷ ys) = with_all (with_new xs y) ys

with_both : (xs ys zs : List ℕ) → with_all xs (ys ++ zs) ≡ with_all (with_all xs ys) zs
with_both xs [] zs = refl
with_both xs (y ∷ ys) zs = with_both (with_new xs y) ys zs

mutual
  with_occurrences : (xs : List ℕ) (t : Term) → with_variables xs t ≡ with_all xs (variable_occurrences t)
  with_occurrences xs (var x) = refl
  with_occurrences xs (app f ts) = with_occurrences_of xs ts

  with_occurrences_of : (xs : List ℕ) (ts : Terms) → with_variables_of xs ts ≡ with_all xs (variable_occurrences_of ts)
  with_occurrences_of xs nil = refl
  with_occurrences_of xs (cons t ts) =
      with_occurrences_of (with_variables xs t) ts ∙ ap (λ (ys : List ℕ). with_all ys (variable_occurrences_of ts)) (with_occurrences xs t)
      ∙ sym (with_both xs (variable_occurrences t) (variable_occurrences_of ts))

with_firsts : (xs ys : List ℕ) → with_all xs ys ≡ xs ++ minus xs (firsts ys)
with_firsts xs [] = sym (ap (λ (zs : List ℕ). xs ++ zs) (minus_nothing xs) ∙ append-nil xs)
with_firsts xs (y ∷ ys) = go (list_any (nat_eq y) xs) refl (λ zs. with_firsts zs ys)
  where
    go : (b : Bool) → list_any (nat_eq y) xs ≡ b → ((zs : List ℕ) → with_all zs ys ≡ zs ++ minus zs (firsts ys)) → with_all (if b then xs else (xs ++ y ∷ [])) ys ≡ xs ++ minus xs (firsts (y ∷ ys))
    go true e rest = rest xs ∙ sym (ap (λ (zs : List ℕ). xs ++ zs) (minus_known y xs (firsts ys) (among_of_any y xs e)))
    go false e rest =
        rest (xs ++ y ∷ []) ∙ append_assoc xs (y ∷ []) (minus (xs ++ y ∷ []) (firsts ys)) ∙ ap (λ (zs : List ℕ). xs ++ y ∷ zs) (minus_last xs y (firsts ys))
        ∙ sym (ap (λ (zs : List ℕ). xs ++ zs) (minus_new y xs (without y (firsts ys)) (λ a. (let bad : true ≡ false = sym (any_of_among y xs a) ∙ e in cc))))

only : (x : ℕ) (P : Type 0) → IsAmong x [] ⊎ P → P
only x P (inl a) = absurd a
only x P (inr p) = p

pub variables_are_listed : VariablesAreListed
variables_are_listed =
    record {
      distinct = λ t. variables_distinct [] t tt;
      those_that_occur = λ t x. ((λ a. only x _ (variables_only x [] t a)), (λ o. variables_have x [] t o));
      by_first_occurrence = λ t. with_occurrences [] t ∙ with_firsts [] (variable_occurrences t);
      all_distinct = λ ts. variables_distinct_all [] ts tt;
      all_that_occur = λ ts x. ((λ a. only x _ (variables_only_all x [] ts a)), (λ o. variables_have_all x [] ts o));
      all_by_first_occurrence = λ ts. with_occurrences_of [] ts ∙ with_firsts [] (variable_occurrences_of ts);
    }
