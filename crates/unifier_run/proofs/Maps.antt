-- Bindings as a finite map.
use Rattle.std.proofs.Common.{ℕ, ◌≡◌, Bool, true, false, cond, nat_eq, if◌then◌else◌, List, [], ◌∷◌, map, Option, Some, unwrap_or, nat_cmp, refl, ap, ◌∙◌, eqb-true, eq-eqb}
use Rattle.std.specs.Ordering.{eq_by_cmp}
use Rattle.std.specs.Cmp.{nat_cmp_total}
use Rattle.std.specs.FinMap.{find, get-from_entries}
use Rattle.rewriting.specs.Prelude.{Term, var, values_of}
use Rattle.rewriting.proofs.Finite.{key_is, same_key}
use Rattle.unifier_run.specs.Run.{Binding, value}
use Rattle.unifier_run.specs.Laws.{as_map}

same_test : (x y : ℕ) (b c : Bool) → eq_by_cmp nat_cmp x y ≡ b → nat_eq x y ≡ c → b ≡ c
same_test x y true true e h = refl
same_test x y false false e h = refl
same_test x y true false e h = (let k = eq-eqb x y (key_is x y true e refl) in cc)
same_test x y false true e h = (let k = same_key x y (eqb-true x y h) in cc)

choose : (x : ℕ) (b c : Bool) (t r : Term) (o : Option Term) → b ≡ c → unwrap_or o (var x) ≡ r → unwrap_or (cond b (Some t) o) (var x) ≡ if c then t else r
choose x true true t r o e h = refl
choose x false false t r o e h = h
choose x true false t r o e h = cc
choose x false true t r o e h = cc

found : (b : List Binding) (x : ℕ) → unwrap_or (find nat_cmp x (map (λ e. (e.variable, e.term)) b)) (var x) ≡ value b x
found [] x = refl
found (e ∷ b) x = choose x _ _ e.term (value b x) (find nat_cmp x (map (λ e. (e.variable, e.term)) b)) (same_test x e.variable _ _ refl refl) (found b x)

pub values_of-as_map : (b : List Binding) (x : ℕ) → values_of (as_map b) x ≡ value b x
values_of-as_map b x = ap (λ o. unwrap_or o (var x)) (get-from_entries nat_cmp_total (map (λ e. (e.variable, e.term)) b) x) ∙ found b x
