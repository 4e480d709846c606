-- From the caps of two terms with holes in one row to caps with holes of their own.
use Rattle.std.proofs.Common.{ℕ, ◌≡◌, ◌+◌, ◌-◌, ◌*◌, ◌^◌, ◌<◌, ◌≤◌, ◌⊎◌, inl, inr, List, [], length, sym, ap, ◌∙◌, subst}
use Rattle.std.proofs.Common.{subst₂, arith, Result, Ok, Err}
use Rattle.rewriting.specs.Prelude.{Term, var, nil, cons, size, Fits, apply, even, odd, System, IsSystem, AreDistinct, IsFront}
use Rattle.unifier_run.specs.Run.{Binding, Outcome, unifier, clash, too_large, IsOutcome}
use Rattle.unifier_run.proofs.Renamed.{renamed_outcome, stays, runs_with_names}
use Rattle.caps.specs.Caps.{Cap, kept, any, holes, filled, past, constants, frozen_from, IsCapOf, IsCapLarge}
use Rattle.caps.specs.Evidence.{past_both, IsPairOutcome}
use Rattle.caps.proofs.Rigid.{rigid_apart, caps_apart}
use Rattle.term_core.specs.declared.terms.NoMemory.{NoMemory}
use Rattle.tcap_infeasible.specs.declared.comparing.ComparedCaps.{ComparedCaps}
use Rattle.tcap_infeasible.specs.declared.comparing.ComparedCaps.TheVariants.{Clash, Unify, TooLarge}
use Rattle.tcap_infeasible.specs.Keys.{IsKeyed}
use Rattle.tcap_infeasible.specs.declared.capping.Leaf.TheVariants.{Hole, Kept}
use Rattle.tcap_infeasible.specs.Frozen.{HasConstants}
use Rattle.tcap_infeasible.specs.Compared.{PairAnswers, KeepsInstancesApart, GivesApart, IsFrozenOutcome, FrozenPairAnswers}
use Rattle.renumbering.proofs.Parted.{parted, parted_from, parted_past, parted_one}
use Rattle.general_lemmas.proofs.Numbers.{le_or_lt}
use Rattle.rewriting.proofs.Laws.{well_formed}
use Rattle.tcap_infeasible.proofs.Tried.{split, split_below, split_from, split_one, filled_from}
use Rattle.tcap_infeasible.proofs.Rebased.{AreAlike, alike_renamed, EndLike, forth, back_like, raised, raised_one, raised_frozen}
use Rattle.tcap_infeasible.proofs.Bases.{symbols_below, cap_past, holes_alone}
use Rattle.renumbering.proofs.Filling.{filling}
use Rattle.tcap_infeasible.proofs.Keyed.{end_of, spaced, keyed_renamed, keyed_below, keyed_symbols, keyed_grows}
use Rattle.tcap_infeasible.proofs.Named.{named, held_from, symbols_one, name_past, cap_named, large_named}

-- the holes of the first, h in number, become even, and those of the second odd
abbrev pub woven : ℕ → ℕ → ℕ
woven h = parted (2 ^ 31) (λ k. 2 * (h + k)) (split h)

woven_first : (h j : ℕ) → j < h → woven h (2 ^ 31 + j) ≡ 2 * j
woven_first h j less = parted_past (2 ^ 31) (λ k. 2 * (h + k)) (split h) j ∙ split_below h j less

woven_second : (h j : ℕ) → woven h (2 ^ 31 + h + j) ≡ 2 * j + 1
woven_second h j =
    let there : 2 ^ 31 + h + j ≡ 2 ^ 31 + (h + j) = omega arith in
    ap (woven h) there ∙ parted_past (2 ^ 31) (λ k. 2 * (h + k)) (split h) (h + j) ∙ split_from h j

woven_one : (h x y : ℕ) → woven h x ≡ woven h y → x ≡ y
woven_one h = parted_one (2 ^ 31) (λ k. 2 * (h + k)) (split h) (λ x y a b e. omega (arith, e)) (split_one h) (λ x y a e. apart x y (le_or_lt h y) e)
  where
    apart : (x y : ℕ) → (h ≤ y) ⊎ (y < h) → 2 * (h + x) ≡ split h y → ⊥
    apart x y (inl l) e = omega (arith, e ∙ parted_from h (λ k. 2 * k) (λ m. 2 * m + 1) y l)
    apart x y (inr l) e = omega (arith, e ∙ split_below h y l, l)

-- the run for two caps with other constants
frozen_pair : (sys : System) (c d : Cap) (base : ℕ) (o : Outcome) → past_both sys c d ≤ base → EndLike (apply even (frozen_from base c)) (apply odd (frozen_from base d)) o
    → EndLike (apply even (frozen_from (past_both sys c d) c)) (apply odd (frozen_from (past_both sys c d) d)) o
frozen_pair sys c d base o far h =
    let least = past_both sys c d in
    back_like (λ x. x) (raised least (base - least)) (λ x y e. e) (raised_one least (base - least)) (apply even (frozen_from least c)) (apply odd (frozen_from least d))
    (apply even (frozen_from base c)) (apply odd (frozen_from base d))
    (raised_frozen (λ k. 2 * k) least base c (omega arith) far) (raised_frozen (λ k. 2 * k + 1) least base d (omega arith) far) o h

-- an outcome of the kind for two terms
abbrev HasPairLike : System → (ℕ → Cap) → Term → Term → Outcome → Type 0
HasPairLike sys leaf u v o = (p : Outcome) × AreAlike o p × IsPairOutcome sys leaf u v p

pair_clash : (sys : System) (leaf : ℕ → Cap) (u v : Term) → HasPairLike sys leaf u v clash → IsPairOutcome sys leaf u v clash
pair_clash sys leaf u v (p, e, h) = subst (IsPairOutcome sys leaf u v) e h

pair_unifier : (sys : System) (leaf : ℕ → Cap) (u v : Term) (b : List Binding) → HasPairLike sys leaf u v (unifier b) → (c : List Binding) × IsPairOutcome sys leaf u v (unifier c)
pair_unifier sys leaf u v b (p, (c, e), h) = (c, subst (IsPairOutcome sys leaf u v) e h)

pair_large : (sys : System) (leaf : ℕ → Cap) (u v : Term) → HasPairLike sys leaf u v too_large → IsPairOutcome sys leaf u v too_large
pair_large sys leaf u v (p, e, h) = subst (IsPairOutcome sys leaf u v) e h

module _ (sys : System) (foreign row : List ℕ) (sound : IsSystem sys) (foreign_distinct : AreDistinct foreign) (distinct : AreDistinct row) (u v x y : Term)
    (first_keys : IsKeyed (length sys.arities) foreign row u x) (second_keys : IsKeyed (length sys.arities) foreign row v y) where
  abbrev symbols_of : ℕ → ℕ
  symbols_of f = spaced (length sys.arities) foreign row f

  abbrev name_of : Cap → Cap
  name_of c = named (filling row) symbols_of c

  abbrev places_from : ℕ
  places_from = length sys.arities + length foreign

  abbrev far : ℕ
  far = end_of (length sys.arities) foreign

  cap_of : (t z : Term) (c : Cap) → IsKeyed (length sys.arities) foreign row t z → IsCapOf sys kept z c → IsCapOf sys kept t (name_of c)
  cap_of t z c keys is =
      subst (λ q. IsCapOf sys kept q (name_of c)) (sym (keyed_renamed (length sys.arities) foreign row t z keys))
      (cap_named sys foreign row sound foreign_distinct distinct z c (keyed_symbols (length sys.arities) foreign row t z keys) is)

  name_low : (t z : Term) (c : Cap) → IsKeyed (length sys.arities) foreign row t z → IsCapOf sys kept z c → past sys (name_of c) ≤ far
  name_low t z c keys is = name_past sys foreign row sound foreign_distinct distinct c (cap_past sys (Kept places_from) places_from z c (keyed_symbols (length sys.arities) foreign row t z keys) is)

  pair_outcome : (o : Outcome) → IsFrozenOutcome sys (Kept places_from) x y o → HasPairLike sys kept u v o
  pair_outcome o h =
      let rho = woven (holes h.first) in
      let first_low = name_low u x h.first first_keys h.is_first in
      let second_low = name_low v y h.second second_keys h.is_second in
      let there = forth rho symbols_of (woven_one (holes h.first)) (symbols_one sys foreign row sound foreign_distinct distinct)
      (filled (constants places_from) (2 ^ 31) h.first) (filled (constants places_from) (2 ^ 31 + holes h.first) h.second) (apply even (frozen_from far (name_of h.first)))
      (apply odd (frozen_from far (name_of h.second)))
      (held_from sys foreign row sound foreign_distinct distinct rho (λ k. 2 * k) (2 ^ 31) h.first (woven_first (holes h.first)))
      (held_from sys foreign row sound foreign_distinct distinct rho (λ k. 2 * k + 1) (2 ^ 31 + holes h.first) h.second (λ j less. woven_second (holes h.first) j))
      o h.outcome in
      let like = frozen_pair sys (name_of h.first) (name_of h.second) far o (omega (arith, first_low, second_low)) (renamed_outcome rho symbols_of o, alike_renamed rho symbols_of o, there) in (
        like.0,
        like.1,
        record {
          first = name_of h.first;
          second = name_of h.second;
          is_first = cap_of u x h.first first_keys h.is_first;
          is_second = cap_of v y h.second second_keys h.is_second;
          outcome = like.2;
        },
      )

  one_large : (t z : Term) → IsKeyed (length sys.arities) foreign row t z → IsCapLarge sys kept z → IsCapLarge sys kept t
  one_large t z keys large =
      subst (IsCapLarge sys kept) (sym (keyed_renamed (length sys.arities) foreign row t z keys))
      (large_named sys foreign row sound foreign_distinct distinct z (keyed_symbols (length sys.arities) foreign row t z keys) large)

  pub pair_answers : (r : Result ComparedCaps NoMemory) → FrozenPairAnswers sys (Kept places_from) x y r → PairAnswers sys kept u v r
  pair_answers (Ok Clash) h = pair_clash sys kept u v (pair_outcome clash h)
  pair_answers (Ok Unify) (b, h) = pair_unifier sys kept u v b (pair_outcome (unifier b) h)
  pair_answers (Ok TooLarge) (inl (inl h)) = inl (inl (one_large u x first_keys h))
  pair_answers (Ok TooLarge) (inl (inr h)) = inl (inr (one_large v y second_keys h))
  pair_answers (Ok TooLarge) (inr h) = inr (pair_large sys kept u v (pair_outcome too_large h))
  pair_answers (Err e) h = tt

-- caps of two terms with holes in one row and constants past the symbols of both, to caps with holes of their own
pub woven_outcome : (sys : System) (leaf : ℕ → Cap) (u v : Term) (c d : Cap) → IsCapOf sys leaf u c → IsCapOf sys leaf v d → (o : Outcome)
    → IsOutcome (cons (filled (constants (past_both sys c d)) (2 ^ 31) c) nil) (cons (filled (constants (past_both sys c d)) (2 ^ 31 + holes c) d) nil) o
    → IsPairOutcome sys leaf u v (renamed_outcome (woven (holes c)) stays o)
woven_outcome sys leaf u v c d is are o run =
    let base = past_both sys c d in
    record {
      first = c;
      second = d;
      is_first = is;
      is_second = are;
      outcome = subst₂ (λ p q. IsOutcome (cons p nil) (cons q nil) (renamed_outcome (woven (holes c)) stays o))
          (filled_from base (2 ^ 31) (woven (holes c)) (λ k. 2 * k) c (woven_first (holes c)))
          (filled_from base (2 ^ 31 + holes c) (woven (holes c)) (λ k. 2 * k + 1) d (λ j less. woven_second (holes c) j))
          (runs_with_names (woven (holes c)) (woven_one (holes c)) run);
    }

module _ (sys : System) (u v : Term) where
  opened_outcome : (o : Outcome) → (h : IsFrozenOutcome sys Hole u v o) → IsPairOutcome sys any u v (renamed_outcome (woven (holes h.first)) stays o)
  opened_outcome o h =
      let base = past_both sys h.first h.second in
      woven_outcome sys any u v h.first h.second h.is_first h.is_second o
      (subst₂ (λ p q. IsOutcome (cons p nil) (cons q nil) o) (holes_alone sys u h.first var (constants base) (2 ^ 31) h.is_first)
      (holes_alone sys v h.second var (constants base) (2 ^ 31 + holes h.first) h.is_second) h.outcome)

  pub opened_answers : (r : Result ComparedCaps NoMemory) → FrozenPairAnswers sys Hole u v r → PairAnswers sys any u v r
  opened_answers (Ok Clash) h = opened_outcome clash h
  opened_answers (Ok Unify) (b, h) = (_, opened_outcome (unifier b) h)
  opened_answers (Ok TooLarge) (inl h) = inl h
  opened_answers (Ok TooLarge) (inr h) = inr (opened_outcome too_large h)
  opened_answers (Err e) h = tt

  pub opened_apart : (r : Result ComparedCaps NoMemory) → PairAnswers sys any u v r → KeepsInstancesApart sys u v r
  opened_apart (Ok Clash) h = λ s r w p q. caps_apart sys u v s r w h p q
  opened_apart (Ok Unify) h = tt
  opened_apart (Ok TooLarge) h = tt
  opened_apart (Err e) h = tt

-- the places of a term leave room for constants behind those of its foreign symbols
pub places_base : (sys : System) (n base : ℕ) (places foreign row : List ℕ) (t u : Term) → n ≡ length sys.arities → base ≡ length sys.arities + length foreign → IsSystem sys
    → length places ≤ length foreign → length foreign ≤ 2 ^ 30 → length row ≤ 2 ^ 30 → IsKeyed n places row t u
    → HasConstants sys (Kept base) u
places_base sys n base places foreign row t u count is sound within few_foreign few keys =
    record {
      past_system = omega (arith, is);
      past_term = symbols_below (n + length places) base u (omega (arith, count, is, within)) (keyed_symbols n places row t u keys);
      room = λ x o. (let below = keyed_below n places row t u keys x o in let symbols = sound.few_symbols in omega (arith, is, below, symbols, few_foreign, few));
    }

-- terms that have got places in the same rows, the first of them before the second
pub places_answer : (sys : System) (n base : ℕ) (foreign more_foreign row more : List ℕ) (u v x y : Term) (r : Result ComparedCaps NoMemory) → n ≡ length sys.arities
    → base ≡ length sys.arities + length more_foreign → IsSystem sys → AreDistinct more_foreign → AreDistinct more
    → IsFront foreign more_foreign → IsFront row more → IsKeyed n foreign row u x → IsKeyed n more_foreign more v y → FrozenPairAnswers sys (Kept base) x y r → PairAnswers sys kept u v r
places_answer sys n base foreign more_foreign row more u v x y r count is sound foreign_distinct distinct symbols front first second h =
    pair_answers sys more_foreign more sound foreign_distinct distinct u v x y
    (subst (λ z. IsKeyed z more_foreign more u x) count (keyed_grows n foreign more_foreign row more u x symbols front first))
    (subst (λ z. IsKeyed z more_foreign more v y) count second) r
    (subst (λ z. FrozenPairAnswers sys (Kept z) x y r) is h)

pub answer_apart : (sys : System) (u v : Term) (r : Result ComparedCaps NoMemory) → IsSystem sys → PairAnswers sys kept u v r → GivesApart sys u v r
answer_apart sys u v (Ok Clash) sound h = rigid_apart sys u v (well_formed sys sound) h
answer_apart sys u v (Ok Unify) sound h = tt
answer_apart sys u v (Ok TooLarge) sound h = tt
answer_apart sys u v (Err e) sound h = tt

pub none_distinct : (row : List ℕ) → row ≡ [] → AreDistinct row
none_distinct row e = subst AreDistinct (sym e) tt

pub short_row : (start row : List ℕ) (t : Term) → start ≡ [] → length row ≤ length start + size t → Fits t → length row ≤ 10000
short_row start row t e grown fit = let none : length start ≡ 0 = ap length e in let few = fit.nodes in omega (arith, grown, none, few)

pub longer : (row more : List ℕ) (t : Term) → length row ≤ 10000 → length more ≤ length row + size t → Fits t → length more ≤ 20000
longer row more t short grown fit = let few = fit.nodes in omega (arith, short, grown, few)
