-- A good interpretation falls at each descent, and so it bounds descents.
use Rattle.std.proofs.Common.{◌≡◌, ℕ, zero, suc, ◌+◌, ◌*◌, ◌<◌, ◌≤◌, inl, inr, refl, sym, ap, ◌∙◌, subst, arith, List, [], ◌∷◌, length, slice_get, Option, Some, None, option_map}
use Rattle.std.proofs.Common.{unwrap_or, IfSome, ◌^◌}
use Rattle.std.proofs.Math.Nat.{mul-le-mul_right, mul-lt-mul_of_pos_left}
use Rattle.std.proofs.lemmas.List.{length-append}
use Rattle.std.proofs.lemmas.Option.{slice_get_within, slice_get-get_or}
use Rattle.rewriting.specs.Prelude.{IsWellFormed, IsSystem, unraveled, heads, file_heads, auxiliary_heads, condition_heads, keeper_arities, all_keeper_arities, IsActive, IsActiveArgument}
use Rattle.rewriting.specs.Prelude.{IsActivePosition, Descends, AreDescentsBounded}
use Rattle.rewriting.proofs.Common.{Chain, stop, link, Term, var, app, Terms, nil, cons, count, Position, argument, with_argument, argument_of, with_argument_of, subterm, replace}
use Rattle.rewriting.proofs.Common.{Substitution, apply, values_of, Signature, IsOver, Rule, System, rule_at, Condition, variables, with_variables}
use Rattle.rewriting.proofs.Positions.{below}
use Rattle.rewriting.proofs.Unraveled.{argument_of_over, descends_over}
use Rattle.certificates.specs.Certificates.{LinearEntry}
use Rattle.interpretations.specs.Linear.{Interpretation, numbers_of, number_of, constant, constant_from, HasShape, IsGood, AreAllNumbersGood}
use Rattle.interpretations.specs.Law.{GoodInterpretationsBoundDescents}
use Rattle.interpretations.proofs.Values.{constant-apply, value-falls}

-- there are as many heads as symbols
length-file_heads : (f : ℕ) (ns : Signature) → length (file_heads f ns) ≡ length ns
length-file_heads f [] = refl
length-file_heads f (n ∷ ns) = ap suc (length-file_heads (suc f) ns)

length-condition_heads : (i k : ℕ) (xs : List ℕ) (cs : List Condition) → length (condition_heads i k cs) ≡ length (keeper_arities xs cs)
length-condition_heads i k xs [] = refl
length-condition_heads i k xs (c ∷ cs) = ap suc (length-condition_heads i (suc k) (with_variables xs c.right) cs)

length-auxiliary_heads : (i : ℕ) (qs : List Rule) → length (auxiliary_heads i qs) ≡ length (all_keeper_arities qs)
length-auxiliary_heads i [] = refl
length-auxiliary_heads i (q ∷ qs) =
    let a = length-condition_heads i 1 (variables q.left) q.conditions in
    let b = length-auxiliary_heads (suc i) qs in
    let c = length-append (condition_heads i 1 q.conditions) (auxiliary_heads (suc i) qs) in
    let d = length-append (keeper_arities (variables q.left) q.conditions) (all_keeper_arities qs) in
    omega (arith, a, b, c, d)

pub length-heads : (sys : System) → length (heads sys) ≡ length (unraveled sys).arities
length-heads sys =
    let a = length-file_heads 0 sys.arities in
    let b = length-auxiliary_heads 1 sys.rules in
    let c = length-append (file_heads 0 sys.arities) (auxiliary_heads 1 sys.rules) in
    let d = length-append sys.arities (all_keeper_arities sys.rules) in
    omega (arith, a, b, c, d)

-- an argument of a term has a number from 1 to their count
pub argument_within : (ts : Terms) (k : ℕ) (t : Term) → argument ts k ≡ Some t → (1 ≤ k) × (k ≤ count ts)
argument_within nil k t e = absurd (cc)
argument_within (cons s ts) zero t e = absurd (cc)
argument_within (cons s ts) (suc zero) t e = (omega arith, omega arith)
argument_within (cons s ts) (suc (suc k)) t e = let h = argument_within ts (suc k) t e in (omega arith, omega (arith, h.1))

number_at : (es : Interpretation) (f k : ℕ) (e : LinearEntry) (c : ℕ) → slice_get es f ≡ Some e → slice_get e.coefficients k ≡ Some c → number_of es f k ≡ c
number_at es f k e c h q = ap (λ o. unwrap_or (slice_get (unwrap_or (option_map (λ e. e.coefficients) o) []) k) 0) h ∙ ap (λ o. unwrap_or o 0) q

-- the entry of a symbol with an arity, and how many numbers it has
record Found (sys : System) (es : Interpretation) (f n : ℕ) : Type 0 where
  entry : LinearEntry
  is_entry : slice_get es f ≡ Some entry
  as_many : length entry.coefficients ≡ suc n

found : (sys : System) (es : Interpretation) → HasShape sys es → (f n : ℕ) → slice_get (unraveled sys).arities f ≡ Some n → Found sys es f n
found sys es shape f n at =
    let within = slice_get_within (unraveled sys).arities f n at in
    let heads_count = length-heads sys in
    let entries_count = shape.as_many in
    let e = shape.entries f (omega (arith, within, heads_count, entries_count)) in
    let counted : Some (suc n) ≡ Some (length e.entry.coefficients) = sym (ap (option_map suc) at) ∙ e.numbers in
    record { entry = e.entry; is_entry = e.is_entry; as_many = cc }

-- the number of an active argument is at least 1
pub active_number_by : (sys : System) (es : Interpretation) → HasShape sys es → AreAllNumbersGood sys es → (f k n : ℕ) → slice_get (unraveled sys).arities f ≡ Some n
    → IsActive sys f (suc k) → suc k ≤ n → 1 ≤ number_of es f (suc k)
active_number_by sys es shape numbers f k n at active le =
    let e = found sys es shape f n at in
    let many = e.as_many in
    let here = slice_get-get_or e.entry.coefficients (suc k) 0 (omega (arith, many, le)) in
    let one = (numbers f e.entry e.is_entry).active k _ here active in
    let same = number_at es f (suc k) e.entry _ e.is_entry here in
    omega (arith, one, same)

active_number : (sys : System) (es : Interpretation) → IsGood sys es → (f k n : ℕ) → slice_get (unraveled sys).arities f ≡ Some n → IsActive sys f (suc k) → suc k ≤ n → 1 ≤ number_of es f (suc k)
active_number sys es g = active_number_by sys es g.shape g.numbers

-- a symbol has one number more than arguments, all of them at most 1,000,000
pub counted_numbers : (sys : System) (es : Interpretation) → HasShape sys es → (f n : ℕ) → slice_get (unraveled sys).arities f ≡ Some n → (f < length es) × (length (numbers_of es f) ≡ suc n)
counted_numbers sys es shape f n at =
    let e = found sys es shape f n at in
    (slice_get_within es f e.entry e.is_entry, ap (λ o. length (unwrap_or (option_map (λ e. e.coefficients) o) [])) e.is_entry ∙ e.as_many)

pub small_number : (sys : System) (es : Interpretation) → AreAllNumbersGood sys es → (f k : ℕ) → number_of es f k ≤ 1000000
small_number sys es numbers f k = by_entry (slice_get es f) refl
  where
    at : (o : Option LinearEntry) → slice_get es f ≡ o → number_of es f k ≡ unwrap_or (slice_get (unwrap_or (option_map (λ e. e.coefficients) o) []) k) 0
    at o e = ap (λ o. unwrap_or (slice_get (unwrap_or (option_map (λ e. e.coefficients) o) []) k) 0) e

    by_number : (e : LinearEntry) → slice_get es f ≡ Some e → (o : Option ℕ) → slice_get e.coefficients k ≡ o → unwrap_or (slice_get e.coefficients k) 0 ≤ 1000000
    by_number e is None at = let z : unwrap_or (slice_get e.coefficients k) 0 ≡ 0 = ap (λ o. unwrap_or o 0) at in omega (arith, z)
    by_number e is (Some c) at = let z : unwrap_or (slice_get e.coefficients k) 0 ≡ c = ap (λ o. unwrap_or o 0) at in let m = (numbers f e is).small k c at in omega (arith, z, m)

    by_entry : (o : Option LinearEntry) → slice_get es f ≡ o → number_of es f k ≤ 1000000
    by_entry None e = let z : number_of es f k ≡ 0 = at None e in omega (arith, z)
    by_entry (Some entry) e = let z = at (Some entry) e in let m = by_number entry e (slice_get entry.coefficients k) refl in omega (arith, z, m)

-- the constant where there are arguments
first_number : (sys : System) (es : Interpretation) → IsGood sys es → (f n : ℕ) → slice_get (unraveled sys).arities f ≡ Some n → 1 ≤ n → 1 ≤ number_of es f 0
first_number sys es g f n at le =
    let e = found sys es g.shape f n at in
    let many = e.as_many in
    let here = slice_get-get_or e.entry.coefficients 0 0 (omega (arith, many)) in
    let one = (g.numbers f e.entry e.is_entry).constant _ here (omega (arith, many, le)) in
    let same = number_at es f 0 e.entry _ e.is_entry here in
    omega (arith, one, same)

-- a decrease at an argument whose number is at least 1 is one of the sum
sum_falls : (es : Interpretation) (f i : ℕ) (ts : Terms) (k : ℕ) (t u : Term) → argument ts (suc k) ≡ Some t → constant es u < constant es t → 1 ≤ number_of es f (i + k)
    → constant_from es f i (with_argument ts (suc k) u) < constant_from es f i ts
sum_falls es f i nil k t u e lt le = absurd (cc)
sum_falls es f i (cons s ts) zero t u e lt le =
    let same : s ≡ t = cc in
    let less : constant es u < constant es s = subst (λ z. constant es u < constant es z) (sym same) lt in
    let here : 1 ≤ number_of es f i = (let z : i + 0 ≡ i = omega arith in subst (λ j. 1 ≤ number_of es f j) z le) in
    let product = mul-lt-mul_of_pos_left less (let p : 0 < number_of es f i = omega (arith, here) in p) in
    omega (arith, product)
sum_falls es f i (cons s ts) (suc k) t u e lt le =
    let there : 1 ≤ number_of es f (suc i + k) = (let z : i + suc k ≡ suc i + k = omega arith in subst (λ j. 1 ≤ number_of es f j) z le) in
    let rest = sum_falls es f (suc i) ts k t u e lt there in
    omega (arith, rest)

-- an argument whose number is at least 1 is at most the sum
pub in_sum : (es : Interpretation) (f i : ℕ) (ts : Terms) (k : ℕ) (t : Term) → argument ts (suc k) ≡ Some t → 1 ≤ number_of es f (i + k) → constant es t ≤ constant_from es f i ts
in_sum es f i nil k t e le = absurd (cc)
in_sum es f i (cons s ts) zero t e le =
    let same : s ≡ t = cc in
    let here : 1 ≤ number_of es f i = (let z : i + 0 ≡ i = omega arith in subst (λ j. 1 ≤ number_of es f j) z le) in
    let product = mul-le-mul_right (constant es s) here in
    subst (λ z. constant es z ≤ number_of es f i * constant es s + constant_from es f (suc i) ts) same (omega (arith, product))
in_sum es f i (cons s ts) (suc k) t e le =
    let there : 1 ≤ number_of es f (suc i + k) = (let z : i + suc k ≡ suc i + k = omega arith in subst (λ j. 1 ≤ number_of es f j) z le) in
    let rest = in_sum es f (suc i) ts k t e there in
    omega (arith, rest)

-- an active argument's value is less than the term's
move_falls : (sys : System) (es : Interpretation) → IsGood sys es → (u v : Term) (k : ℕ) → IsOver (unraveled sys).arities u → IsActiveArgument sys u k → argument_of u k ≡ Some v
    → constant es v < constant es u
move_falls sys es g (var x) v k over active e = absurd (cc)
move_falls sys es g (app f ts) v zero over active e = let w = argument_within ts zero v e in absurd (omega (arith, w.0))
move_falls sys es g (app f ts) v (suc k) over active e =
    let w = argument_within ts (suc k) v e in
    let number : 1 ≤ number_of es f (1 + k) = (let z : suc k ≡ 1 + k = omega arith in subst (λ j. 1 ≤ number_of es f j) z (active_number sys es g f k (count ts) over.0 active w.1)) in
    let least = in_sum es f 1 ts k v e number in
    let first = first_number sys es g f (count ts) over.0 (omega (arith, w.1)) in
    omega (arith, least, first)

-- a decrease at an active argument is one of the term
argument_falls : (sys : System) (es : Interpretation) → IsGood sys es → (t : Term) (k : ℕ) (s u : Term) → IsOver (unraveled sys).arities t → IsActiveArgument sys t k
    → argument_of t k ≡ Some s → constant es u < constant es s
    → constant es (with_argument_of t k u) < constant es t
argument_falls sys es g (var x) k s u over active e lt = absurd (cc)
argument_falls sys es g (app f ts) zero s u over active e lt = let w = argument_within ts zero s e in absurd (omega (arith, w.0))
argument_falls sys es g (app f ts) (suc k) s u over active e lt =
    let w = argument_within ts (suc k) s e in
    let number : 1 ≤ number_of es f (1 + k) = (let z : suc k ≡ 1 + k = omega arith in subst (λ j. 1 ≤ number_of es f j) z (active_number sys es g f k (count ts) over.0 active w.1)) in
    let less = sum_falls es f 1 ts k s u e lt number in
    omega (arith, less)

-- and so at an active position
replaced_falls : (sys : System) (es : Interpretation) → IsGood sys es → (t : Term) (p : Position) (l r v : Term) → IsOver (unraveled sys).arities t → IsActivePosition sys t p
    → subterm t p ≡ Some l → constant es r < constant es l → replace t p r ≡ Some v
    → constant es v < constant es t
replaced_falls sys es g t [] l r v over active found lt result =
    let a : l ≡ t = cc in
    let b : r ≡ v = cc in
    subst (λ z. constant es z < constant es t) b (subst (λ z. constant es r < constant es z) a lt)
replaced_falls sys es g t (k ∷ p) l r v over active found lt result =
    let b = below t k p r v result in
    let there : subterm b.part p ≡ Some l = (let o : subterm t (k ∷ p) ≡ subterm b.part p = rw b.here refl in sym o ∙ found) in
    let inner : IsActivePosition sys b.part p = subst (λ o. IfSome o (λ u. IsActivePosition sys u p)) b.here active.1 in
    let less = replaced_falls sys es g b.part p l r b.result (argument_of_over (unraveled sys).arities t k b.part b.here over) inner there lt b.inside in
    subst (λ z. constant es z < constant es t) (sym b.whole) (argument_falls sys es g t k b.part b.result over active.0 b.here less)

rule_falls : (sys : System) (es : Interpretation) → IsGood sys es → (i : ℕ) (q : Rule) → rule_at (unraveled sys) i ≡ Some q → (s : Substitution)
    → constant es (apply s q.right) < constant es (apply s q.left)
rule_falls sys es g i q at s =
    let less = value-falls es q (g.rules i q at) (λ x. constant es (s x)) in
    let left = constant-apply es s q.left in
    let right = constant-apply es s q.right in
    omega (arith, less, left, right)

falls : (sys : System) (es : Interpretation) → IsGood sys es → (u v : Term) → IsOver (unraveled sys).arities u → Descends sys u v → constant es v < constant es u
falls sys es g u v over (inl s) =
    replaced_falls sys es g u s.position (apply (values_of s.by) s.rule.left) (apply (values_of s.by) s.rule.right) v over s.active s.redex
    (rule_falls sys es g s.number s.rule s.is_rule (values_of s.by)) s.result
falls sys es g u v over (inr m) = move_falls sys es g u v m.number over m.active m.is_argument

chain_bounded : (sys : System) (es : Interpretation) → IsWellFormed sys → IsGood sys es → {k : ℕ} {t u : Term} → IsOver (unraveled sys).arities t → Chain (Descends sys) k t u → k ≤ constant es t
chain_bounded sys es well g over stop = omega arith
chain_bounded sys es well g {t = t} over (link {b = b} h c) =
    let rest = chain_bounded sys es well g (descends_over sys well t b h over) c in
    let one = falls sys es g t b over h in
    omega (arith, rest, one)

pub bound : GoodInterpretationsBoundDescents
bound sys es well g t over = λ k u c. chain_bounded sys es well g over c

pub good_bounds : (sys : System) (es : Interpretation) → IsWellFormed sys → IsGood sys es → AreDescentsBounded sys
good_bounds sys es well g t over = (constant es t, bound sys es well g t over)

pub few_heads : (sys system : System) → system ≡ unraveled sys → IsSystem system → length (heads sys) < 2 ^ 31
few_heads sys system same sound =
    let few = sound.few_symbols in
    let many = length-heads sys in
    let arities = ap (λ (z : System). length z.arities) same in
    omega (arith, few, many, arities)
