-- Words up to a closing bracket, and the parts that are passed over.
use Rattle.std.proofs.Common.{◌≡◌, ℕ, zero, suc, ◌+◌, arith, List, [], ◌∷◌, ◌++◌, codes, refl, sym, ap, ◌∙◌, subst, append_assoc, append-nil}
use Rattle.ari_text.specs.declared.words.Word.{Word}
use Rattle.ari_text.specs.declared.words.Word.TheVariants.{Open, Close, Id, Odd, Quoted}
use Rattle.ari_text.specs.Signs.{Sign, opening, closing, name, odd, sign_of}
use Rattle.ari_text.specs.Grammar.{AreMatched, IsBehindMetas}
use Rattle.ari_text.specs.Reads.{IsBodyRead}

-- words so far, behind which so many brackets are open
pub record IsInside (old new : List Sign) (open_brackets : ℕ) : Type 0 where
  pub inside : List Sign
  pub words : old ≡ inside ++ new
  pub goes_on : (ws : List Sign) → AreMatched open_brackets ws → AreMatched 0 (inside ++ ws)

inside_more : (old new : List Sign) (n m : ℕ) (w : Sign) (i : IsInside old (w ∷ new) n) → ((ws : List Sign) → AreMatched m ws → AreMatched n (w ∷ ws)) → IsInside old new m
inside_more old new n m w i f = record {
  inside = i.inside ++ w ∷ [];
  words = i.words ∙ sym (append_assoc i.inside (w ∷ []) new);
  goes_on = λ ws h. subst (AreMatched 0) (sym (append_assoc i.inside (w ∷ []) ws)) (i.goes_on (w ∷ ws) (f ws h));
}

pub inside_opening : (old mid new : List Sign) (n m : ℕ) → IsInside old mid n → mid ≡ opening ∷ new → m ≡ n + 1 → IsInside old new m
inside_opening old mid new n m i e q =
    let q' : suc n ≡ m = omega (arith, q) in
    subst (λ (k : ℕ). IsInside old new k) q' (inside_more old new n (suc n) opening (subst (λ (vs : List Sign). IsInside old vs n) e i) (λ ws h. h))

pub inside_closing : (old mid new : List Sign) (n m : ℕ) → IsInside old mid n → mid ≡ closing ∷ new → n ≡ m + 1 → IsInside old new m
inside_closing old mid new n m i e q =
    let q' : n ≡ suc m = omega (arith, q) in
    inside_more old new (suc m) m closing (subst (λ (k : ℕ). IsInside old (closing ∷ new) k) q' (subst (λ (vs : List Sign). IsInside old vs n) e i)) (λ ws h. h)

inside_name : (old mid new : List Sign) (n : ℕ) (f : List ℕ) → IsInside old mid n → mid ≡ name f ∷ new → IsInside old new n
inside_name old mid new zero f i e = inside_more old new zero zero (name f) (subst (λ (m : List Sign). IsInside old m zero) e i) (λ ws h. h)
inside_name old mid new (suc n) f i e = inside_more old new (suc n) (suc n) (name f) (subst (λ (m : List Sign). IsInside old m (suc n)) e i) (λ ws h. h)

inside_odd : (old mid new : List Sign) (n : ℕ) → IsInside old mid n → mid ≡ odd ∷ new → IsInside old new n
inside_odd old mid new zero i e = inside_more old new zero zero odd (subst (λ (m : List Sign). IsInside old m zero) e i) (λ ws h. h)
inside_odd old mid new (suc n) i e = inside_more old new (suc n) (suc n) odd (subst (λ (m : List Sign). IsInside old m (suc n)) e i) (λ ws h. h)

pub inside_other : (old mid new : List Sign) (n : ℕ) (w : Word) → IsInside old mid n → mid ≡ sign_of w ∷ new → ((at : ℕ) → w ≡ Open at → ⊥) → ((at : ℕ) → w ≡ Close at → ⊥) → IsInside old new n
inside_other old mid new n (Open at) i e o k = absurd (o at refl)
inside_other old mid new n (Close at) i e o k = absurd (k at refl)
inside_other old mid new n (Id f) i e o k = inside_name old mid new n f.text.now i e
inside_other old mid new n (Odd at) i e o k = inside_odd old mid new n i e
inside_other old mid new n (Quoted at) i e o k = inside_odd old mid new n i e

pub body_read : (old mid new : List Sign) (n : ℕ) → IsInside old mid n → mid ≡ closing ∷ new → n ≡ 0 → IsBodyRead old new
body_read old mid new n j e z = let i = subst (λ (k : ℕ). IsInside old mid k) z j in record {
  inside = i.inside;
  matched = subst (AreMatched 0) (append-nil i.inside) (i.goes_on [] refl);
  words = i.words ∙ ap (λ (m : List Sign). i.inside ++ m) e;
}

-- ---- parts that are passed over

pub record ArePassed (old new : List Sign) : Type 0 where
  pub goes_on : (k : List Sign) → IsBehindMetas new k → IsBehindMetas old k

pub passed_more : (old mid opened named new : List Sign) (f : List ℕ) → ArePassed old mid → mid ≡ opening ∷ opened → opened ≡ name f ∷ named → f ≡ codes "meta-info"
    → IsBodyRead named new → ArePassed old new
passed_more old mid opened named new f p e g t b = record {
  goes_on = λ k h. p.goes_on k record {
    metas = b.inside ∷ h.metas;
    matched = (b.matched, h.matched);
    words = e ∙ ap (λ (ws : List Sign). opening ∷ ws) (g ∙ ap (λ (s : List ℕ). name s ∷ named) t ∙ ap (λ (ws : List Sign). name (codes "meta-info") ∷ ws)
        (b.words ∙ ap (λ (ws : List Sign). b.inside ++ closing ∷ ws) h.words));
  };
}
