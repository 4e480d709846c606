-- Trees whose nodes hold a list that grows by an item at each step: which lists stand at the leaves.
use Rattle.std.proofs.Common.{ℕ, ◌≡◌, List, [], ◌∷◌, ◌++◌, map, flat_map, refl, sym, ap, ap₂, ◌∙◌, append_assoc}
use Rattle.std.proofs.lemmas.List.{map-append}
use Rattle.first_found.specs.Trees.{leaves}
use Rattle.first_found.proofs.Trees.{EachNode}

module _ {P E : Type 0} (next : P → List P) (whole : List E → P) where
  -- the list with more items, at a leaf
  abbrev pub leaf : List E → List E → P
  leaf es more = whole (es ++ more)

  shifted : (es : List E) (e : E) (cs : List (List E)) → map (leaf (es ++ e ∷ [])) cs ≡ map (leaf es) (map (λ c. e ∷ c) cs)
  shifted es e [] = refl
  shifted es e (c ∷ cs) = ap₂ (λ (p : P) (ps : List P). p ∷ ps) (ap whole (append_assoc es (e ∷ []) c)) (shifted es e cs)

  -- each child has an item more, and below it stand the lists that go on behind that
  module _ {X : Type 0} (d : ℕ) (es : List E) (Of : X → Type 0) (child : X → P) (item : X → E) (behind : X → List (List E))
      (below : (x : X) → Of x → leaves next d (child x) ≡ map (leaf (es ++ item x ∷ [])) (behind x)) where
    abbrev all_behind : List X → List (List E)
    all_behind xs = flat_map (λ x. map (λ c. item x ∷ c) (behind x)) xs

    pub leaves_grown : (xs : List X) → EachNode Of xs → flat_map (leaves next d) (map child xs) ≡ map (leaf es) (all_behind xs)
    leaves_grown [] h = refl
    leaves_grown (x ∷ xs) (h, hs) =
        ap₂ (λ (ps qs : List P). ps ++ qs) (below x h ∙ shifted es (item x) (behind x)) (leaves_grown xs hs)
        ∙ sym (map-append (leaf es) (map (λ c. item x ∷ c) (behind x)) (all_behind xs))
