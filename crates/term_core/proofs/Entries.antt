-- Entries put into a map one after another.
use Rattle.std.proofs.Common.{◌≡◌, ℕ, Bool, true, false, cond, List, [], ◌∷◌, map, Option, Some, None, nat_cmp, Less, Equal, refl, sym, ap, ◌∙◌}
use Rattle.std.specs.Ordering.{eq_by_cmp}
use Rattle.std.specs.Cmp.{nat_cmp_total, Equal-is}
use Rattle.std.specs.List.{AllByRecursion}
use Rattle.std.specs.List.Sorted.{IsStrictlySortedBy}
use Rattle.std.specs.FinMap.{find, get, insert, empty, get-insert, get-empty, get-from_entries, same_map, nat_cmp-IsAntisymmetric}
use Rattle.rewriting.specs.Terms as math
use Rattle.rewriting.specs.Substitutions.{Bindings}
use Rattle.term_core.specs.View.{view}
use Rattle.term_core.specs.SubstView.{bindings_of}
use Rattle.term_core.specs.declared.terms.Term.{Term}

-- the map with the entries put into it in turn
abbrev pub with_entries : Bindings → List (ℕ × Term) → Bindings
with_entries m [] = m
with_entries m (e ∷ es) = with_entries (insert m e.0 (view e.1)) es

abbrev seen : List (ℕ × Term) → List (ℕ × math.Term)
seen es = map (λ e. (e.0, view e.1)) es

abbrev first_of : {X : Type 0} → Option X → Option X → Option X
first_of None o = o
first_of (Some x) o = Some x

abbrev keys_of : List (ℕ × Term) → List ℕ
keys_of es = map (λ e. e.0) es

apart : (k y : ℕ) → nat_cmp k y ≡ Less → (b : Bool) → eq_by_cmp nat_cmp k y ≡ b → b ≡ false
apart k y h true e = (let same : nat_cmp k y ≡ Equal = (Equal-is (nat_cmp k y)).0 e in cc)
apart k y h false e = refl

below_all : (k : ℕ) (es : List (ℕ × Term)) → AllByRecursion (λ y. nat_cmp k y ≡ Less) (keys_of es) → find nat_cmp k (seen es) ≡ None
below_all k [] h = refl
below_all k (e ∷ es) (l, ls) = ap (λ b. cond b (Some (view e.1)) (find nat_cmp k (seen es))) (apart k e.0 l _ refl) ∙ below_all k es ls

taken : (k q : ℕ) (v : math.Term) (es : List (ℕ × Term)) (o : Option math.Term) (b : Bool) → eq_by_cmp nat_cmp q k ≡ b → find nat_cmp k (seen es) ≡ None
    → first_of (find nat_cmp q (seen es)) (cond b (Some v) o) ≡ first_of (cond b (Some v) (find nat_cmp q (seen es))) o
taken k q v es o false e none = refl
taken k q v es o true e none =
    let same : q ≡ k = nat_cmp-IsAntisymmetric q k ((Equal-is (nat_cmp q k)).0 e) in
    let gone : find nat_cmp q (seen es) ≡ None = ap (λ x. find nat_cmp x (seen es)) same ∙ none in
    ap (λ r. first_of r (Some v)) gone

get-with_entries : (es : List (ℕ × Term)) (m : Bindings) (q : ℕ) → IsStrictlySortedBy nat_cmp (keys_of es) → get (with_entries m es) q ≡ first_of (find nat_cmp q (seen es)) (get m q)
unfolding IsStrictlySortedBy
get-with_entries [] m q h = refl
get-with_entries (e ∷ es) m q (l, ls) =
    get-with_entries es (insert m e.0 (view e.1)) q ls ∙ ap (first_of (find nat_cmp q (seen es))) (get-insert nat_cmp_total m e.0 (view e.1) q)
    ∙ taken e.0 q (view e.1) es (get m q) _ refl (below_all e.0 es l)

kept : (o : Option math.Term) → first_of o None ≡ o
kept None = refl
kept (Some x) = refl

pub with_entries-empty : (es : List (ℕ × Term)) → IsStrictlySortedBy nat_cmp (keys_of es) → with_entries empty es ≡ bindings_of es
with_entries-empty es h =
    same_map nat_cmp_total nat_cmp-IsAntisymmetric _ _
    (λ q. get-with_entries es empty q h ∙ ap (first_of (find nat_cmp q (seen es))) (get-empty nat_cmp q) ∙ kept (find nat_cmp q (seen es)) ∙ sym (get-from_entries nat_cmp_total (seen es) q))
