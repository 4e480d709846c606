-- The first of items that are made of others.
use Rattle.std.proofs.Common.{ℕ, ◌≡◌, ◌+◌, inl, inr, List, [], ◌∷◌, map, refl, ap, ◌∙◌, subst, arith}
use Rattle.std.proofs.lemmas.List.{map-append}
use Rattle.first_found.specs.Items.{NoneGives, cost_of, IsFirst}
use Rattle.first_found.proofs.Items.{nil_first, IsFirstFrom, first_cases, first_here, first_right}

-- they give what the others give, in another form
module _ {X I B C : Type 0} (wrap : X → I) (out : B → C) (cost : I → ℕ) (price : X → ℕ) (Gives : I → C → Type 0) (Plain : X → B → Type 0) where
  module _ (same : (x : X) → cost (wrap x) ≡ price x) where
    pub cost_made : (xs : List X) → cost_of cost (map wrap xs) ≡ cost_of price xs
    cost_made [] = refl
    cost_made (x ∷ xs) = let e = cost_made xs in let h = same x in omega (arith, e, h)

  module _ (from : (x : X) (b : B) → Plain x b → Gives (wrap x) (out b)) where
    pub none_of_made : (xs : List X) → NoneGives Gives (map wrap xs) → NoneGives Plain xs
    none_of_made [] h = tt
    none_of_made (x ∷ xs) (h, hs) = ((λ b g. h (out b) (from x b g)), none_of_made xs hs)

  module _ (to : (x : X) (c : C) → Gives (wrap x) c → (b : B) × Plain x b × (c ≡ out b)) where
    pub none_made : (xs : List X) → NoneGives Plain xs → NoneGives Gives (map wrap xs)
    none_made [] h = tt
    none_made (x ∷ xs) (h, hs) = ((λ c g. (let r = to x c g in h r.0 r.1)), none_made xs hs)

  module _ (same : (x : X) → cost (wrap x) ≡ price x) (from : (x : X) (b : B) → Plain x b → Gives (wrap x) (out b)) (to : (x : X) (c : C) → Gives (wrap x) c → (b : B) × Plain x b × (c ≡ out b)) where
    pub first_made : (xs : List X) (b : B) (n : ℕ) → IsFirst price Plain xs b n → IsFirst cost Gives (map wrap xs) (out b) n
    first_made xs b n f =
        record {
          before = map wrap f.before;
          item = wrap f.item;
          behind = map wrap f.behind;
          split = ap (map wrap) f.split ∙ map-append wrap f.before (f.item ∷ f.behind);
          none = none_made to f.before f.none;
          gives = from f.item b f.gives;
          up_to = let e = f.up_to in let c = cost_made same f.before in let h = same f.item in omega (arith, e, c, h);
        }

    abbrev Unmade : List X → C → ℕ → Type 0
    Unmade xs c n = (b : B) × IsFirst price Plain xs b n × (c ≡ out b)

    unmade_head : (x : X) (xs : List X) (c : C) (n : ℕ) → ((m : ℕ) → IsFirst cost Gives (map wrap xs) c m → Unmade xs c m)
        → IsFirstFrom Gives cost (wrap x) (map wrap xs) c n → Unmade (x ∷ xs) c n
    unmade_head x xs c n later (inl (g, e)) =
        let r = to x c g in
        let h = same x in
        let up : 0 + price x ≡ n = omega (arith, e, h) in
        (r.0, subst (IsFirst price Plain (x ∷ xs) r.0) up (first_here Plain price [] x xs r.0 tt r.1), r.2)
    unmade_head x xs c n later (inr (bare, (m, f, e))) =
        let r = later m f in
        let h = same x in
        let up : (price x + 0) + m ≡ n = omega (arith, e, h) in
        (r.0, subst (IsFirst price Plain (x ∷ xs) r.0) up (first_right Plain price (x ∷ []) xs r.0 m ((λ b g. bare (out b) (from x b g)), tt) r.1), r.2)

    pub first_unmade : (xs : List X) (c : C) (n : ℕ) → IsFirst cost Gives (map wrap xs) c n → (b : B) × IsFirst price Plain xs b n × (c ≡ out b)
    first_unmade [] c n f = absurd (nil_first Gives cost c n f)
    first_unmade (x ∷ xs) c n f = unmade_head x xs c n (λ m g. first_unmade xs c m g) (first_cases Gives cost (wrap x) (map wrap xs) c n f)
