-- The lines for values, one after the other, and those for derivations.
use Rattle.std.proofs.Common.{◌≡◌, ℕ, zero, suc, ◌+◌, ◌<◌, ◌≤◌, ◌++◌, List, [], ◌∷◌, length, take, get_or, map, refl, sym, ap, ap₂, ◌∙◌, subst, arith}
use Rattle.std.specs.List.{flat_map}
use Rattle.std.proofs.lemmas.List.{append-nil, append_assoc}
use Rattle.rewriting.specs.Terms.{Term}
use Rattle.certificates.specs.Derivations.{Derivation}
use Rattle.cops_names.specs.NameTable.{NameTable}
use Rattle.cert_grammar.specs.Steps.{derivation_text}
use Rattle.concon_run.specs.Query.{value_line, value_lines, derivation_lines}

pub no_values : (names : NameTable) (vs : List (List ℕ)) → value_lines names vs [] ≡ []
no_values names [] = refl
no_values names (v ∷ vs) = refl

-- things that have texts and values, in two lists
module _ {A B : Type 0} (view : A → Term) (text : B → List ℕ) (names : NameTable) where
  abbrev lines : List B → List A → List ℕ
  lines ys xs = value_lines names (map text ys) (map view xs)

  -- of one value more
  one_more : (d : B) (e : A) (ys : List B) (xs : List A) (k : ℕ) → k < length ys → k < length xs
      → lines ys (take (suc k) xs) ≡ lines ys (take k xs) ++ value_line names (text (get_or ys k d)) (view (get_or xs k e))
  one_more d e [] xs k l m = absurd (omega arith)
  one_more d e (w ∷ ys) [] k l m = absurd (omega arith)
  one_more d e (w ∷ ys) (u ∷ xs) zero l m =
      ap (λ (l : List ℕ). value_line names (text w) (view u) ++ l) (no_values names (map text ys)) ∙ append-nil (value_line names (text w) (view u))
  one_more d e (w ∷ ys) (u ∷ xs) (suc k) l m =
      ap (λ (l : List ℕ). value_line names (text w) (view u) ++ l) (one_more d e ys xs k (omega arith) (omega arith))
      ∙ sym (append_assoc (value_line names (text w) (view u)) (lines ys (take k xs)) (value_line names (text (get_or ys k d)) (view (get_or xs k e))))

  -- of one more that has no variable
  none_more : (ys : List B) (xs : List A) (k : ℕ) → length ys ≤ k → lines ys (take (suc k) xs) ≡ lines ys (take k xs)
  none_more [] xs k l = refl
  none_more (w ∷ ys) [] zero l = refl
  none_more (w ∷ ys) [] (suc k) l = refl
  none_more (w ∷ ys) (u ∷ xs) zero l = absurd (omega arith)
  none_more (w ∷ ys) (u ∷ xs) (suc k) l = ap (λ (l : List ℕ). value_line names (text w) (view u) ++ l) (none_more ys xs k (omega arith))

  one_behind : (k : ℕ) → suc k ≡ k + 1
  one_behind k = omega arith

  module _ (ys : List B) (xs : List A) (number k : ℕ) (start old new : List ℕ) (same : number ≡ k) (so_far : old ≡ start ++ lines ys (take k xs)) where
    pub grown : (y : B) (x : A) (shown : List ℕ) → number < length ys → k < length xs → y ≡ get_or ys number y → x ≡ get_or xs k x → shown ≡ text y
        → new ≡ old ++ value_line names shown (view x) → new ≡ start ++ lines ys (take (k + 1) xs)
    grown y x shown l m is_y is_x is_shown h =
        h ∙ ap₂ (λ (o s : List ℕ). o ++ value_line names s (view x)) so_far is_shown ∙ append_assoc start (lines ys (take k xs)) (value_line names (text y) (view x))
        ∙ ap₂ (λ (v : B) (t : A). start ++ (lines ys (take k xs) ++ value_line names (text v) (view t))) (subst (λ n. y ≡ get_or ys n y) same is_y) is_x
        ∙ ap (λ (l : List ℕ). start ++ l) (sym (one_more y x ys xs k (subst (λ n. n < length ys) same l) m)) ∙ ap (λ n. start ++ lines ys (take n xs)) (one_behind k)

    pub stayed : length ys ≤ number → new ≡ old → new ≡ start ++ lines ys (take (k + 1) xs)
    stayed l h =
        h ∙ so_far ∙ ap (λ (l : List ℕ). start ++ l) (sym (none_more ys xs k (subst (λ n. length ys ≤ n) same l))) ∙ ap (λ n. start ++ lines ys (take n xs)) (one_behind k)

pub derivations-flat : {A : Type 0} (view : A → Derivation) (ds : List A) → flat_map (λ d. derivation_text (view d)) ds ≡ derivation_lines (map view ds)
derivations-flat view [] = refl
derivations-flat view (d ∷ ds) = ap (λ (l : List ℕ). derivation_text (view d) ++ l) (derivations-flat view ds)
