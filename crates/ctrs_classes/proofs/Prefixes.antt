-- Conditions one after another.
use Rattle.std.proofs.Common.{ℕ, zero, suc, ◌≡◌, ◌⊎◌, inl, inr, ◌<◌, ◌≤◌, ◌+◌, Bool, true, false, not, ◌||◌, ◌&&◌, List, [], ◌∷◌, length, get_or, take, drop, map, None, Some}
use Rattle.std.proofs.Common.{option_map, refl, sym, ap, ap₂, ◌∙◌, subst, arith}
use Rattle.std.proofs.lemmas.Bool.{false≢true, true≢false, or_left, or_right, and_from, and_parts, true_from_ne_false}
use Rattle.general_lemmas.proofs.Numbers.{not_true}
use Rattle.std.proofs.lemmas.Bool.Decides.{leb_tells}
use Rattle.std.proofs.lemmas.Option.{slice_get-get_or, slice_get-map, slice_get_past}
use Rattle.std.proofs.Math.Dec.{leb}
use Rattle.std.specs.Prelude.{slice_get}
use Rattle.std.proofs.lemmas.List.{length-map, drop-map}
use Rattle.rewriting.specs.Prelude.{nil, cons, occurs, occurs_in, IsWithin, variable_occurrences, Condition, right_sides, sides, rule_at, IsRule, AreRules, IsAt, known}
use Rattle.rewriting.specs.Prelude.{IsExtendedOrientedRule, IsAmong}
use Rattle.rewriting.specs.Rules as rules
use Rattle.rewriting.proofs.Instances.{or_cases}
use Rattle.term_core.specs.declared.systems.Cond.{Cond}
use Rattle.term_core.specs.declared.systems.Rule.{Rule}
use Rattle.term_core.specs.Prelude.{view, condition_view, rule_view}
use Rattle.certificates.specs.Blames.{IsFirstVariable}
use Rattle.certificates.proofs.Blames.{first_occurs}
use Rattle.ctrs_classes.specs.Walks.{any_where, first_where, same}
use Rattle.ctrs_classes.specs.Faults.{IsKnownPrefix}
use Rattle.rewriting.proofs.Variables.{occurring, among_occurs}
use Rattle.rewriting.proofs.Prefixes.{in_range}
use Rattle.ctrs_classes.proofs.Firsts.{outside_found, all_inside, everywhere, stood, known_before}

-- of type 3, or not
pub type3_found : (rule : Rule) (asked known : List Cond) (x : ℕ) → asked ≡ rule.conds.items → known ≡ rule.conds.items
    → Some x ≡ first_where (λ y. same false (stood rule asked known y)) (variable_occurrences (view rule.right))
    → IsFirstVariable (λ y. occurs_in y (cons (view rule.left) (sides (map condition_view rule.conds.items))) ≡ false) (view rule.right) x
type3_found rule asked known x a k e =
    outside_found (stood rule asked known) (λ y. occurs_in y (cons (view rule.left) (sides (map condition_view rule.conds.items)))) (view rule.right) x
    (λ y. rw (a, k) (everywhere (view rule.left) (map condition_view rule.conds.items) y)) (sym e)

pub type3_within : (rule : Rule) (asked known : List Cond) → asked ≡ rule.conds.items → known ≡ rule.conds.items
    → None ≡ first_where (λ y. same false (stood rule asked known y)) (variable_occurrences (view rule.right))
    → IsWithin (view rule.right) (cons (view rule.left) (sides (map condition_view rule.conds.items)))
type3_within rule asked known a k e =
    all_inside (stood rule asked known) (λ y. occurs_in y (cons (view rule.left) (sides (map condition_view rule.conds.items)))) (view rule.right)
    (λ y. rw (a, k) (everywhere (view rule.left) (map condition_view rule.conds.items) y)) (sym e)

pub cond_at : (rule : Rule) (items : List Cond) (i : ℕ) (c : Cond) → items ≡ rule.conds.items → i < length items → c ≡ get_or items i c
    → IsAt (map condition_view rule.conds.items) i (condition_view c)
cond_at rule items i c value low is =
    let there : slice_get items i ≡ Some c = slice_get-get_or items i c low ∙ ap Some (sym is) in
    subst (λ us. slice_get (map condition_view us) i ≡ Some (condition_view c)) value (slice_get-map condition_view items i ∙ ap (option_map condition_view) there)

-- a property of the conditions before a place goes on, and holds of all at the end
module _ (P : ℕ → Condition → Type 0) (cs : List Condition) where
  pub good_next : (i : ℕ) (d : Condition) → IsAt cs i d → P i d → ((j : ℕ) (e : Condition) → j < i → IsAt cs j e → P j e) → (j : ℕ) (e : Condition) → j < i + 1 → IsAt cs j e → P j e
  good_next i d at here before j e less there = go (leb_tells (suc j) i)
    where
      go : ((leb (suc j) i ≡ true) × (suc j ≤ i)) ⊎ ((leb (suc j) i ≡ false) × (i < suc j)) → P j e
      go (inl (_, h)) = before j e (omega (arith, h)) there
      go (inr (_, h)) =
          let same : i ≡ j = omega (arith, h, less) in
          let moved : IsAt cs i e = subst (λ k. IsAt cs k e) (sym same) there in
          let one : d ≡ e = cc in
          subst (λ k. P k e) same (subst (λ u. P i u) one here)

  pub good_all : (i : ℕ) → length cs ≤ i → ((j : ℕ) (e : Condition) → j < i → IsAt cs j e → P j e) → (j : ℕ) (e : Condition) → IsAt cs j e → P j e
  good_all i end before j e at = before j e (let low = in_range cs j e at in omega (arith, low, end)) at

pub conditions_length : (items : List Cond) (rule : Rule) → items ≡ rule.conds.items → (i : ℕ) → length items ≤ i → length (map condition_view rule.conds.items) ≤ i
conditions_length items rule value i h = subst (λ us. length (map condition_view us) ≤ i) value (go items h)
  where
    go : (us : List Cond) → length us ≤ i → length (map condition_view us) ≤ i
    go us k = rw (length-map us condition_view) k

is_there : (cs : List Condition) (k : ℕ) → k < length cs → (d : Condition) × IsAt cs k d
is_there [] k low = absurd (omega (arith, low))
is_there (c ∷ cs) zero low = (c, refl)
is_there (c ∷ cs) (suc k) low = let r = is_there cs k (omega (arith, low)) in (r.0, r.1)

-- the walk that looks for any
any_cons : (test : ℕ → Bool) (z : ℕ) (zs : List ℕ) (b : Bool) → test z ≡ b → any_where test (z ∷ zs) ≡ true → (any_where test zs ≡ true → (x : ℕ) × IsAmong x zs × (test x ≡ true))
    → (x : ℕ) × IsAmong x (z ∷ zs) × (test x ≡ true)
any_cons test z zs true q e f = (z, inl refl, q)
any_cons test z zs false q e f = let r = f (subst (λ b. (b || any_where test zs) ≡ true) q e) in (r.0, inr r.1, r.2)

any_found : (test : ℕ → Bool) (xs : List ℕ) → any_where test xs ≡ true → (x : ℕ) × IsAmong x xs × (test x ≡ true)
any_found test [] e = absurd (false≢true e)
any_found test (z ∷ zs) e = any_cons test z zs (test z) refl e (λ h. any_found test zs h)

none_any : (test : ℕ → Bool) (xs : List ℕ) (x : ℕ) → IsAmong x xs → test x ≡ true → any_where test xs ≡ true
none_any test [] x a h = absurd a
none_any test (z ∷ zs) x (inl e) h = or_left _ _ (subst (λ u. test u ≡ true) e h)
none_any test (z ∷ zs) x (inr a) h = or_right _ _ (none_any test zs x a h)

-- a condition among those from a place on
sides_found : (x : ℕ) (cs : List Condition) → occurs_in x (sides cs) ≡ true → (j : ℕ) × (c : Condition) × IsAt cs j c × (occurs_in x (cons c.left (cons c.right nil)) ≡ true)
sides_found x [] e = absurd (false≢true e)
sides_found x (c ∷ cs) e =
    or_cases (occurs x c.left) (occurs x c.right || occurs_in x (sides cs)) e (λ h. (0, c, refl, or_left _ _ h))
    (λ h. or_cases (occurs x c.right) (occurs_in x (sides cs)) h (λ k. (0, c, refl, or_right (occurs x c.left) _ (or_left (occurs x c.right) false k)))
    (λ k. let r = sides_found x cs k in (suc r.0, r.1, r.2, r.3)))

found_from : (x m : ℕ) (cs : List Condition) → occurs_in x (sides (drop m cs)) ≡ true → (j : ℕ) × (c : Condition) × (m ≤ j) × IsAt cs j c × (occurs_in x (cons c.left (cons c.right nil)) ≡ true)
found_from x zero cs e = let r = sides_found x cs e in (r.0, r.1, omega arith, r.2, r.3)
found_from x (suc m) [] e = absurd (false≢true e)
found_from x (suc m) (c ∷ cs) e = let r = found_from x m cs e in (suc r.0, r.1, (let h = r.2 in omega (arith, h)), r.3, r.4)

or_nil : (a b : Bool) → (a || (b || false)) ≡ true → (a || b) ≡ true
or_nil true b e = refl
or_nil false true e = refl
or_nil false false e = e

sides_here : (x : ℕ) (cs : List Condition) (j : ℕ) (c : Condition) → IsAt cs j c → occurs_in x (cons c.left (cons c.right nil)) ≡ true → occurs_in x (sides cs) ≡ true
sides_here x [] j c at o = absurd (cc)
sides_here x (d ∷ cs) zero c at o =
    let same : d ≡ c = cc in
    subst (λ z. (occurs x z.left || (occurs x z.right || occurs_in x (sides cs))) ≡ true) (sym same)
    (or_cases (occurs x c.left) (occurs x c.right) (or_nil (occurs x c.left) (occurs x c.right) o) (λ h. or_left _ _ h) (λ h. or_right _ _ (or_left _ _ h)))
sides_here x (d ∷ cs) (suc j) c at o = or_right _ _ (or_right _ _ (sides_here x cs j c at o))

here_from : (x m : ℕ) (cs : List Condition) (j : ℕ) (c : Condition) → m ≤ j → IsAt cs j c → occurs_in x (cons c.left (cons c.right nil)) ≡ true → occurs_in x (sides (drop m cs)) ≡ true
here_from x zero cs j c le at o = sides_here x cs j c at o
here_from x (suc m) [] j c le at o = absurd (cc)
here_from x (suc m) (d ∷ cs) zero c le at o = absurd (omega (arith, le))
here_from x (suc m) (d ∷ cs) (suc j) c le at o = here_from x m cs j c (omega (arith, le)) at o

rights_grow : (x a b : ℕ) (cs : List Condition) → a ≤ b → occurs_in x (right_sides (take a cs)) ≡ true → occurs_in x (right_sides (take b cs)) ≡ true
rights_grow x zero b cs le o = absurd (false≢true o)
rights_grow x (suc a) zero cs le o = absurd (omega (arith, le))
rights_grow x (suc a) (suc b) [] le o = o
rights_grow x (suc a) (suc b) (c ∷ cs) le o =
    or_cases (occurs x c.right) (occurs_in x (right_sides (take a cs))) o (λ h. or_left _ _ h) (λ h. or_right _ _ (rights_grow x a b cs (omega (arith, le)) h))

known_grows : (x a b : ℕ) (r : rules.Rule) → a ≤ b → occurs_in x (known r a) ≡ true → occurs_in x (known r b) ≡ true
known_grows x a b r le o = or_cases (occurs x r.left) (occurs_in x (right_sides (take a r.conditions))) o (λ h. or_left _ _ h) (λ h. or_right _ _ (rights_grow x a b r.conditions le h))

module _ (r : rules.Rule) (m : ℕ) (prefix : IsKnownPrefix r m) (test : ℕ → Bool) (tests : (x : ℕ) → test x ≡ (occurs_in x (sides (drop m r.conditions)) && not (occurs_in x (known r m)))) where
  pub is_oriented : any_where test (variable_occurrences r.right) ≡ false → IsExtendedOrientedRule r
  is_oriented none = record { m = m; at_most = prefix.at_most; before = prefix.before; behind = go }
    where
      go : (j : ℕ) (c : Condition) → m ≤ j → IsAt r.conditions j c → (x : ℕ) → occurs x r.right ≡ true → occurs_in x (cons c.left (cons c.right nil)) ≡ true → occurs_in x (known r m) ≡ true
      go j c le at x o oc =
          true_from_ne_false (occurs_in x (known r m)) (λ unknown. true≢false (
          sym (none_any test (variable_occurrences r.right) x (occurring x r.right o) (tests x ∙ and_from _ _ (here_from x m r.conditions j c le at oc) (ap not unknown))) ∙ none
          ))

  pub not_oriented : any_where test (variable_occurrences r.right) ≡ true → IsExtendedOrientedRule r → ⊥
  not_oriented some o = go (leb_tells o.m m)
    where
      f : (x : ℕ) × IsAmong x (variable_occurrences r.right) × (test x ≡ true)
      f = any_found test (variable_occurrences r.right) some

      both : (occurs_in f.0 (sides (drop m r.conditions)) ≡ true) × (not (occurs_in f.0 (known r m)) ≡ true)
      both = and_parts _ _ (sym (tests f.0) ∙ f.2)

      within : o.m ≤ m → ⊥
      within le =
          let w = found_from f.0 m r.conditions both.0 in
          let low = w.2 in
          not_true (occurs_in f.0 (known r m)) both.1 (known_grows f.0 o.m m r le (o.behind w.0 w.1 (omega (arith, low, le)) w.3 f.0 (among_occurs f.0 r.right f.1) w.4))

      beyond : (d : Condition) → m < o.m → IsAt r.conditions m d → ⊥
      beyond d less at = prefix.next d at (o.before m d less at)

      at_m : m < length r.conditions → (d : Condition) × IsAt r.conditions m d
      at_m low = is_there r.conditions m low

      go : ((leb o.m m ≡ true) × (o.m ≤ m)) ⊎ ((leb o.m m ≡ false) × (m < o.m)) → ⊥
      go (inl (_, le)) = within le
      go (inr (_, less)) = let most = o.at_most in let d = at_m (omega (arith, less, most)) in beyond d.0 less d.1

-- the rules of a system, one after another
pub rule_here : (arities : List ℕ) (rs : List Rule) (i : ℕ) (r : Rule) → AreRules arities (map rule_view rs) → i < length rs → r ≡ get_or rs i r → IsRule arities (rule_view r)
rule_here arities [] i r h low is = absurd (omega (arith, low))
rule_here arities (s ∷ rs) zero r h low is = subst (λ z. IsRule arities (rule_view z)) (sym is) h.0
rule_here arities (s ∷ rs) (suc i) r h low is = rule_here arities rs i r h.1 (omega (arith, low)) is

-- where the walk along the conditions ends
pub stops_here : (rule : Rule) (items : List Cond) (i : ℕ) (c : Cond) (x : ℕ) → items ≡ rule.conds.items → i < length items → IsAt (map condition_view rule.conds.items) i (condition_view c)
    → ((j : ℕ) (d : Condition) → j < i → IsAt (map condition_view rule.conds.items) j d → IsWithin d.left (known (rule_view rule) j))
    → IsFirstVariable (λ y. occurs_in y (known (rule_view rule) i) ≡ false) (view c.left) x → IsKnownPrefix (rule_view rule) i
stops_here rule items i c x value low here before f =
    record {
      at_most = (let h = in_range (map condition_view rule.conds.items) i (condition_view c) here in omega (arith, h));
      before = before;
      next = λ d at within.
          let same : d ≡ condition_view c = cc in
          false≢true (sym f.here ∙ subst (λ (z : Condition). IsWithin z.left (known (rule_view rule) i)) same within x
          (first_occurs (λ y. occurs_in y (known (rule_view rule) i) ≡ false) (view c.left) x f));
    }

pub goes_through : (rule : Rule) (items : List Cond) (i n : ℕ) → items ≡ rule.conds.items → length items ≤ i → i ≤ length items
    → ((j : ℕ) (d : Condition) → j < i → IsAt (map condition_view rule.conds.items) j d → IsWithin d.left (known (rule_view rule) j)) → n ≡ length items → IsKnownPrefix (rule_view rule) n
goes_through rule items i n value high low before e =
    let long : length (map condition_view rule.conds.items) ≡ length items = length-map rule.conds.items condition_view ∙ ap length (sym value) in
    let same : i ≡ n = omega (arith, high, low, e) in
    record {
      at_most = omega (arith, long, e);
      before = subst (λ k. (j : ℕ) (d : Condition) → j < k → IsAt (map condition_view rule.conds.items) j d → IsWithin d.left (known (rule_view rule) j)) same before;
      next = λ d at within. let h = in_range (map condition_view rule.conds.items) n d at in omega (arith, h, long, e);
    }

-- the test of the walk over the right side
tested : (rule : Rule) (m : ℕ) (before behind : List Cond) → before ≡ take m rule.conds.items → behind ≡ drop m rule.conds.items → (x : ℕ)
    → (occurs_in x (sides (map condition_view behind)) && not (occurs x (view rule.left) || (false || occurs_in x (right_sides (map condition_view before)))))
    ≡ (occurs_in x (sides (drop m (map condition_view rule.conds.items))) && not (occurs_in x (known (rule_view rule) m)))
tested rule m before behind b h x =
    ap₂ (λ p q. p && not q) (ap (λ cs. occurs_in x (sides cs)) (ap (map condition_view) h ∙ sym (drop-map condition_view m rule.conds.items))) (known_before rule m before x b)

abbrev shared : Rule → List Cond → List Cond → ℕ → Bool
shared rule before behind x = occurs_in x (sides (map condition_view behind)) && not (occurs x (view rule.left) || (false || occurs_in x (right_sides (map condition_view before))))

pub oriented_where : (rule : Rule) (m : ℕ) (before behind : List Cond) → IsKnownPrefix (rule_view rule) m → before ≡ take m rule.conds.items → behind ≡ drop m rule.conds.items
    → any_where (shared rule before behind) (variable_occurrences (view rule.right)) ≡ false → IsExtendedOrientedRule (rule_view rule)
oriented_where rule m before behind prefix b h e = is_oriented (rule_view rule) m prefix (shared rule before behind) (tested rule m before behind b h) e

pub not_oriented_where : (rule : Rule) (m : ℕ) (before behind : List Cond) → IsKnownPrefix (rule_view rule) m → before ≡ take m rule.conds.items → behind ≡ drop m rule.conds.items
    → any_where (shared rule before behind) (variable_occurrences (view rule.right)) ≡ true → IsExtendedOrientedRule (rule_view rule) → ⊥
not_oriented_where rule m before behind prefix b h e = not_oriented (rule_view rule) m prefix (shared rule before behind) (tested rule m before behind b h) e

module _ (sys : rules.System) (rs : List Rule) (same : map rule_view rs ≡ sys.rules) where
  -- the rule at a place has the next number
  pub rule_number : (i : ℕ) (r : Rule) → i < length rs → r ≡ get_or rs i r → rule_at sys (i + 1) ≡ Some (rule_view r)
  rule_number i r low is =
      let there : slice_get rs i ≡ Some r = slice_get-get_or rs i r low ∙ ap Some (sym is) in
      let one : suc i ≡ i + 1 = omega arith in
      subst (λ n. rule_at sys n ≡ Some (rule_view r)) one (sym (ap (λ z. slice_get z i) same) ∙ slice_get-map rule_view rs i ∙ ap (option_map rule_view) there)

  module _ (P : rules.Rule → Type 0) where
    pub rules_next : (i : ℕ) (r : Rule) → i < length rs → r ≡ get_or rs i r → P (rule_view r) → ((k : ℕ) (q : rules.Rule) → k ≤ i → rule_at sys k ≡ Some q → P q)
        → (k : ℕ) (q : rules.Rule) → k ≤ i + 1 → rule_at sys k ≡ Some q → P q
    rules_next i r low is here before k q le e = go (leb_tells k i)
      where
        go : ((leb k i ≡ true) × (k ≤ i)) ⊎ ((leb k i ≡ false) × (i < k)) → P q
        go (inl (_, h)) = before k q h e
        go (inr (_, h)) =
            let at : k ≡ i + 1 = omega (arith, h, le) in
            let there : rule_at sys (i + 1) ≡ Some q = subst (λ n. rule_at sys n ≡ Some q) at e in
            let rule : rule_view r ≡ q = (let f = rule_number i r low is in cc) in
            subst P rule here

    pub rules_all : (i : ℕ) → length rs ≤ i → ((k : ℕ) (q : rules.Rule) → k ≤ i → rule_at sys k ≡ Some q → P q) → (k : ℕ) (q : rules.Rule) → rule_at sys k ≡ Some q → P q
    rules_all i end before zero q e = before zero q (omega arith) e
    rules_all i end before (suc k) q e = before (suc k) q (below k q e (leb_tells (suc k) i)) e
      where
        below : (k : ℕ) (q : rules.Rule) → rule_at sys (suc k) ≡ Some q → ((leb (suc k) i ≡ true) × (suc k ≤ i)) ⊎ ((leb (suc k) i ≡ false) × (i < suc k)) → suc k ≤ i
        below k q e (inl (_, h)) = h
        below k q e (inr (_, h)) =
            absurd (
            let none = slice_get-map rule_view rs k ∙ ap (option_map rule_view) (slice_get_past rs k (omega (arith, h, end))) in
            let there = ap (λ z. slice_get z k) same in
            cc
            )
