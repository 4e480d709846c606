-- Buckets that numbers are put into.
use Rattle.std.proofs.Common.{◌≡◌, ℕ, ◌<◌, Bool, true, false, if◌then◌else◌, nat_eq, eqb-true, List, [], ◌∷◌, ◌++◌, map, length, get_or, set, refl, sym, ap, subst, ◌∙◌, Vec, Global}
use Rattle.std.proofs.lemmas.Bool.{eqb-false}
use Rattle.std.proofs.lemmas.List.{get_or-set_same, get_or-set_other, map-set, get_or-map, length-map}
use Rattle.rule_index.specs.Roots.{has_root}
use Rattle.rule_index.specs.Index.{listed, IsRootBelow}
use Rattle.rewriting.specs.Terms as math
use Rattle.term_core.specs.View.{view, views}
use Rattle.term_core.specs.declared.terms.Term.{Term, Fun}
use Rattle.term_core.proofs.Views.{view-Fun}

-- the lists in the buckets
abbrev pub lists : List (Vec ℕ Global) → List (List ℕ)
lists vs = map (λ v. v.items) vs

put : (ls : List (List ℕ)) (g f n : ℕ) → g < length ls → listed (set ls g (listed ls g ++ n ∷ [])) f ≡ (if nat_eq f g then (listed ls f ++ n ∷ []) else listed ls f)
put ls g f n h = go (nat_eq f g) refl
  where
    go : (b : Bool) → nat_eq f g ≡ b → listed (set ls g (listed ls g ++ n ∷ [])) f ≡ (if b then (listed ls f ++ n ∷ []) else listed ls f)
    go true e =
        let same : f ≡ g = eqb-true f g e in
        subst (λ (x : ℕ). listed (set ls g (listed ls g ++ n ∷ [])) x ≡ listed ls x ++ n ∷ []) (sym same) (get_or-set_same ls g (listed ls g ++ n ∷ []) [] h)
    go false e = get_or-set_other ls g f (listed ls g ++ n ∷ []) [] (eqb-false f g e)

-- the number of a rule is put last in one bucket
pub number_added : (left : Term) (g : ℕ) (w : Vec Term Global) (vs : List (Vec ℕ Global)) (b v : Vec ℕ Global) (n : ℕ) → left ≡ Fun g w → IsRootBelow (length vs) (view left)
    → v.items ≡ (get_or vs g b).items ++ n ∷ []
    → (f : ℕ) → listed (lists (set vs g v)) f ≡ (if has_root f (view left) then (listed (lists vs) f ++ n ∷ []) else listed (lists vs) f)
number_added left g w vs b v n is below new f =
    let shown : view left ≡ math.app g (views w.items) = ap view is ∙ view-Fun g w in
    let inside : g < length vs = subst (IsRootBelow (length vs)) shown below in
    let there : listed (lists vs) g ≡ (get_or vs g b).items = get_or-map (λ (x : Vec ℕ Global). x.items) vs g b [] inside in
    let within : g < length (lists vs) = simp length-map inside in
    map-set-at vs g v
    ∙ ap (λ (l : List ℕ). listed (set (lists vs) g l) f) (new ∙ ap (λ (l : List ℕ). l ++ n ∷ []) (sym there))
    ∙ put (lists vs) g f n within
    ∙ ap (λ (t : math.Term). if has_root f t then (listed (lists vs) f ++ n ∷ []) else listed (lists vs) f) (sym shown)
  where
    map-set-at : (us : List (Vec ℕ Global)) (i : ℕ) (u : Vec ℕ Global) → listed (lists (set us i u)) f ≡ listed (set (lists us) i u.items) f
    map-set-at us i u = ap (λ (l : List (List ℕ)). listed l f) (map-set (λ (x : Vec ℕ Global). x.items) us i u)
