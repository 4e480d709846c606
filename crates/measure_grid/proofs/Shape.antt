-- Each interpretation of the grid has the shape, and its numbers are good.
use Rattle.std.proofs.Common.{ℕ, zero, suc, ◌≡◌, ◌<◌, ◌≤◌, inl, inr, List, [], ◌∷◌, ◌++◌, map, zip, replicate, length, slice_get, option_map, Some}
use Rattle.std.proofs.Common.{refl, sym, ap, ◌∙◌, subst, arith}
use Rattle.std.proofs.lemmas.List.{length-replicate}
use Rattle.std.proofs.lemmas.Option.{slice_get-get_or}
use Rattle.rewriting.specs.Prelude.{IsAmong, Signature, System, Head, file, auxiliary, file_heads, auxiliary_heads, heads, unraveled, IsActive}
use Rattle.rewriting.proofs.Lists.{among_of_map}
use Rattle.certificates.specs.Certificates.{LinearEntry}
use Rattle.interpretations.specs.Linear.{Interpretation, IsEntry, AreAllNumbersGood}
use Rattle.interpretations.proofs.Bound.{length-heads}
use Rattle.measure_grid.specs.Grid.{choices, active_numbers, passive_numbers, constant_numbers, ranges, entries_of, columns}
use Rattle.measure_grid.specs.Laws.{GridsAreInShape}
use Rattle.measure_grid.proofs.Choices.{AreFrom, choices_from, from_length, from_at}
use Rattle.measure_grid.proofs.Chosen.{AreChosen, chosen_length}

-- the head's arguments that are active
abbrev IsActiveOf : Head → ℕ → Type 0
IsActiveOf (file f) k = Unit {0}
IsActiveOf (auxiliary i j) k = k ≡ 1

-- a number that is tried at a place of a symbol with n arguments
record IsGoodAt (head : Head) (n k c : ℕ) : Type 0 where
  small : c ≤ 3
  active : (j : ℕ) → k ≡ suc j → IsActiveOf head k → 1 ≤ c
  constant : k ≡ 0 → 1 ≤ n → 1 ≤ c

active_range : (c : ℕ) → IsAmong c active_numbers → (1 ≤ c) × (c ≤ 3)
active_range c (inl e) = (omega (arith, e), omega (arith, e))
active_range c (inr (inl e)) = (omega (arith, e), omega (arith, e))
active_range c (inr (inr (inl e))) = (omega (arith, e), omega (arith, e))
active_range c (inr (inr (inr h))) = absurd h

passive_range : (c : ℕ) → IsAmong c passive_numbers → c ≤ 3
passive_range c (inl e) = omega (arith, e)
passive_range c (inr (inl e)) = omega (arith, e)
passive_range c (inr (inr h)) = absurd h

constant_range : (c : ℕ) → IsAmong c constant_numbers → c ≤ 3
constant_range c (inl e) = omega (arith, e)
constant_range c (inr (inl e)) = omega (arith, e)
constant_range c (inr (inr (inl e))) = omega (arith, e)
constant_range c (inr (inr (inr (inl e)))) = omega (arith, e)
constant_range c (inr (inr (inr (inr h)))) = absurd h

pub replicate_at : {X : Type 0} (n : ℕ) (x y : X) (k : ℕ) → slice_get (replicate n x) k ≡ Some y → x ≡ y
replicate_at zero x y k e = absurd (cc)
replicate_at (suc n) x y zero e = cc
replicate_at (suc n) x y (suc k) e = replicate_at n x y k e

active_good : (head : Head) (n k c : ℕ) (l : List ℕ) → active_numbers ≡ l → IsAmong c l → IsGoodAt head n k c
active_good head n k c l e h =
    let good = active_range c (subst (IsAmong c) (sym e) h) in
    record { small = good.1; active = λ j is a. good.0; constant = λ is some. good.0 }

ranges_good : (head : Head) (n k c : ℕ) (l : List ℕ) → slice_get (ranges head n) k ≡ Some l → IsAmong c l → IsGoodAt head n k c
ranges_good head zero zero c l e h =
    let same : constant_numbers ≡ l = cc in
    record { small = constant_range c (subst (IsAmong c) (sym same) h); active = λ j is a. absurd (omega (arith, is)); constant = λ is some. absurd (omega (arith, some)) }
ranges_good head zero (suc k) c l e h = absurd (cc)
ranges_good (file f) (suc n) zero c l e h = active_good (file f) (suc n) zero c l (cc) h
ranges_good (file f) (suc n) (suc zero) c l e h = active_good (file f) (suc n) 1 c l (cc) h
ranges_good (file f) (suc n) (suc (suc k)) c l e h = active_good (file f) (suc n) (suc (suc k)) c l (replicate_at n active_numbers l k e) h
ranges_good (auxiliary i j) (suc n) zero c l e h = active_good (auxiliary i j) (suc n) zero c l (cc) h
ranges_good (auxiliary i j) (suc n) (suc zero) c l e h = active_good (auxiliary i j) (suc n) 1 c l (cc) h
ranges_good (auxiliary i j) (suc n) (suc (suc k)) c l e h =
    record {
      small = passive_range c (subst (IsAmong c) (sym (replicate_at n passive_numbers l k e)) h);
      active = λ m is a. absurd (omega (arith, a));
      constant = λ is some. absurd (omega (arith, is));
    }

pub ranges_long : (head : Head) (n : ℕ) → length (ranges head n) ≡ suc n
ranges_long head zero = refl
ranges_long (file f) (suc n) = let e = length-replicate n active_numbers in omega (arith, e)
ranges_long (auxiliary i j) (suc n) = let e = length-replicate n passive_numbers in omega (arith, e)

-- an entry that is tried for a symbol with n arguments
record IsTriedFor (head : Head) (n : ℕ) (e : LinearEntry) : Type 0 where
  head_is : e.head ≡ head
  as_many : length e.coefficients ≡ suc n
  good : (k c : ℕ) → slice_get e.coefficients k ≡ Some c → IsGoodAt head n k c

tried_for : (head : Head) (n : ℕ) (e : LinearEntry) → IsAmong e (entries_of (head, n)) → IsTriedFor head n e
tried_for head n e h =
    let at = among_of_map {Y = LinearEntry} (λ (numbers : List ℕ). record { head = head; coefficients = numbers }) e (choices (ranges head n)) h in
    let from = choices_from (ranges head n) at.0 at.1 in
    subst (IsTriedFor head n) (sym at.2)
    (record {
      head_is = refl;
      as_many = from_length at.0 (ranges head n) from ∙ ranges_long head n;
      good = λ k c is. (let place = from_at at.0 (ranges head n) k c from is in ranges_good head n k c place.0 place.1 place.2);
    })

-- the entries that are tried for each head with its arity
record IsColumn (hs : List Head) (ns : Signature) (k : ℕ) (e : LinearEntry) : Type 0 where
  head : Head
  arity : ℕ
  is_head : slice_get hs k ≡ Some head
  is_arity : slice_get ns k ≡ Some arity
  tried : IsTriedFor head arity e

column_at : (hs : List Head) (ns : Signature) (es : Interpretation) (behind : List (List LinearEntry)) (k : ℕ) (e : LinearEntry) → AreChosen es (map entries_of (zip hs ns)) behind
    → slice_get es k ≡ Some e → IsColumn hs ns k e
column_at hs ns [] behind k e h is = absurd (cc)
column_at [] ns (x ∷ es) behind k e h is = absurd h
column_at (head ∷ hs) [] (x ∷ es) behind k e h is = absurd h
column_at (head ∷ hs) (n ∷ ns) (x ∷ es) behind zero e (h, rest) is =
    let same : x ≡ e = cc in
    record { head = head; arity = n; is_head = refl; is_arity = refl; tried = subst (IsTriedFor head n) same (tried_for head n x h) }
column_at (head ∷ hs) (n ∷ ns) (x ∷ es) behind (suc k) e (h, rest) is =
    let at = column_at hs ns es behind k e rest is in
    record { head = at.head; arity = at.arity; is_head = at.is_head; is_arity = at.is_arity; tried = at.tried }

columns_long : (hs : List Head) (ns : Signature) → length hs ≡ length ns → length (map entries_of (zip hs ns)) ≡ length hs
columns_long [] ns same = refl
columns_long (head ∷ hs) [] same = absurd (omega (arith, same))
columns_long (head ∷ hs) (n ∷ ns) same = ap suc (columns_long hs ns (omega (arith, same)))

pub as_many_columns : (sys : System) → length (columns sys) ≡ length (heads sys)
as_many_columns sys = columns_long (heads sys) (unraveled sys).arities (length-heads sys)

-- the first symbols are the system's
pub file_at : (f : ℕ) (ns : Signature) (rest : List Head) (k : ℕ) (head : Head) → k < length ns → slice_get (file_heads f ns ++ rest) k ≡ Some head → (g : ℕ) × (head ≡ file g)
file_at f [] rest k head l e = absurd (omega (arith, l))
file_at f (n ∷ ns) rest zero head l e = (f, cc)
file_at f (n ∷ ns) rest (suc k) head l e = file_at (suc f) ns rest k head (omega (arith, l)) e

first_active : (head : Head) (k : ℕ) → k ≡ 1 → IsActiveOf head k
first_active (file f) k e = tt
first_active (auxiliary i j) k e = e

active_of : (sys : System) (f k : ℕ) (head : Head) → slice_get (heads sys) f ≡ Some head → IsActive sys f k → IsActiveOf head k
active_of sys f k head is (inl l) =
    let at = file_at 0 sys.arities (auxiliary_heads 1 sys.rules) f head l is in subst (λ z. IsActiveOf z k) (sym at.1) tt
active_of sys f k head is (inr e) = first_active head k e

-- entries for the first symbols
module _ (sys : System) (es : Interpretation) (behind : List (List LinearEntry)) (chosen : AreChosen es (columns sys) behind) where
  column : (k : ℕ) (e : LinearEntry) → slice_get es k ≡ Some e → IsColumn (heads sys) (unraveled sys).arities k e
  column k e is = column_at (heads sys) (unraveled sys).arities es behind k e chosen is

  entry_by : (k : ℕ) (e : LinearEntry) → slice_get es k ≡ Some e → IsEntry sys es k
  entry_by k e is =
      let at = column k e is in
      record { entry = e; is_entry = is; head = at.is_head ∙ ap Some (sym at.tried.head_is); numbers = ap (option_map suc) at.is_arity ∙ ap Some (sym at.tried.as_many) }

  pub chosen_entries : (k : ℕ) → k < length es → IsEntry sys es k
  chosen_entries k l = entry_by k _ (slice_get-get_or es k (record { head = file 0; coefficients = [] }) l)

  pub chosen_numbers : AreAllNumbersGood sys es
  chosen_numbers f e is =
      let at = column f e is in
      record {
        small = λ k c here. (let small = (at.tried.good k c here).small in omega (arith, small));
        active = λ k c here a. (at.tried.good (suc k) c here).active k refl (active_of sys f (suc k) at.head at.is_head a);
        constant = λ c here some. (at.tried.good 0 c here).constant refl (let many = at.tried.as_many in omega (arith, many, some));
      }

whole_chosen : {X : Type 0} (xs : List X) (lists : List (List X)) → AreFrom xs lists → AreChosen xs lists []
whole_chosen [] [] h = refl
whole_chosen [] (l ∷ lists) h = absurd h
whole_chosen (x ∷ xs) [] h = absurd h
whole_chosen (x ∷ xs) (l ∷ lists) (h, hs) = (h, whole_chosen xs lists hs)

pub grids_in_shape : GridsAreInShape
grids_in_shape sys es listed =
    let chosen = whole_chosen es (columns sys) (choices_from (columns sys) es listed) in
    let many = chosen_length es (columns sys) [] chosen in
    let columns_many = as_many_columns sys in (
      record { as_many = omega (arith, many, columns_many); entries = chosen_entries sys es [] chosen },
      chosen_numbers sys es [] chosen,
    )
