-- Evidence for a redex of a term, as one of two terms.
use Rattle.std.proofs.Common.{ℕ, ◌≡◌, ◌+◌, inl, inr, Bool, true, false, if◌then◌else◌, nat_eq, List, [], ◌∷◌, ◌++◌, Option, None, refl, sym, ap, subst, arith}
use Rattle.rewriting.specs.Prelude.{IsAmong, Term, Condition, System, rule_at}
use Rattle.certificates.specs.Prelude.{Redex, InfeasibilityEvidence, EvidenceReason}
use Rattle.valid_certificates.specs.Peaks.{RedexPlace, AreConditionsAt, IsRedexJudged, chosen}
use Rattle.first_found.specs.Items.{NoneGives, IsFirst, one}
use Rattle.first_found.specs.Rows.{AreFirsts, HasNone, SomeHasNone}
use Rattle.redex_conditions.specs.Redexes.{place}
use Rattle.search_spaces.specs.Refuting.{Refuting, refutings}
use Rattle.search_spaces.specs.PeakItems.{conditions_of, RefutesRedex, IsFirstRefuted}

module _ {A B : Type 0} (cost : A → ℕ) (Gives Other : A → B → Type 0) (to : (a : A) (b : B) → Gives a b → Other a b) (back : (a : A) (b : B) → Other a b → Gives a b) where
  pub none_as : (xs : List A) → NoneGives Gives xs → NoneGives Other xs
  none_as [] h = tt
  none_as (x ∷ xs) (h, hs) = ((λ b g. h b (back x b g)), none_as xs hs)

  pub first_as : (items : List A) (b : B) (n : ℕ) → IsFirst cost Gives items b n → IsFirst cost Other items b n
  first_as items b n f =
      record { before = f.before; item = f.item; behind = f.behind; split = f.split; none = none_as f.before f.none; gives = to f.item b f.gives; up_to = f.up_to }

-- a row that has none is one of some rows
pub some_none : {X B : Type 0} (First : X → B → ℕ → Type 0) (xs : List X) (x : X) → IsAmong x xs → HasNone First x → SomeHasNone First xs
some_none First [] x h none = absurd h
some_none First (y ∷ ys) x (inl e) none = record { before = []; row = y; behind = ys; split = refl; none = subst (HasNone First) e none }
some_none First (y ∷ ys) x (inr l) none =
    let s = some_none First ys x l none in
    record { before = y ∷ s.before; row = s.row; behind = s.behind; split = ap (λ zs. y ∷ zs) s.split; none = s.none }

-- one of two terms that are the same
pub chosen_same : (t : Term) (w : ℕ) → chosen t t w ≡ t
chosen_same t w = go (nat_eq w 1)
  where
    go : (b : Bool) → (if b then t else t) ≡ t
    go true = refl
    go false = refl

module _ (sys : System) where
  -- a redex has the same conditions and judgements, whichever number its term has
  conditions_as : (t : Term) (r : RedexPlace) (k : ℕ) (cs : List Condition) → AreConditionsAt sys t r cs → AreConditionsAt sys t (place k r.position r.rule) cs
  conditions_as t r k cs h = record { rule = h.rule; match = h.match; matches = h.matches; are = h.are }

  judged_as : (t : Term) (r : RedexPlace) (k : ℕ) (e : InfeasibilityEvidence) (o : Option EvidenceReason) → IsRedexJudged sys t r e o → IsRedexJudged sys t (place k r.position r.rule) e o
  judged_as t r k e o (cs, h, j) = (cs, conditions_as t r k cs h, j)

  refutes_as : (a b c d : Term) (r : RedexPlace) (k : ℕ) → chosen a b r.which ≡ chosen c d k → (item : Refuting) (e : InfeasibilityEvidence) → RefutesRedex sys a b r item e
      → RefutesRedex sys c d (place k r.position r.rule) item e
  refutes_as a b c d r k same item e (cs, h, t, j) = (
    cs,
    subst (λ z. AreConditionsAt sys z (place k r.position r.rule) cs) same (conditions_as (chosen a b r.which) r k cs h),
    t,
    subst (λ z. IsRedexJudged sys z (place k r.position r.rule) e None) same (judged_as (chosen a b r.which) r k e None j),
  )

  pub refuted_as : (a b c d : Term) (r : RedexPlace) (k : ℕ) → chosen a b r.which ≡ chosen c d k → (e : InfeasibilityEvidence) (n : ℕ)
      → IsFirst one (RefutesRedex sys a b r) (refutings (conditions_of (rule_at sys r.rule))) e n
      → IsFirst one (RefutesRedex sys c d (place k r.position r.rule)) (refutings (conditions_of (rule_at sys r.rule))) e n
  refuted_as a b c d r k same e n f =
      first_as one (RefutesRedex sys a b r) (RefutesRedex sys c d (place k r.position r.rule)) (λ item x h. refutes_as a b c d r k same item x h)
      (λ item x h. refutes_as c d a b (place k r.position r.rule) r.which (sym same) item x h) (refutings (conditions_of (rule_at sys r.rule))) e n f

  -- entries for the redexes of a term are entries for them as those of two terms
  pub firsts_as : (a b c d : Term) (rs : List RedexPlace) (es : List Redex) (n : ℕ) → ((r : RedexPlace) → IsAmong r rs → chosen a b r.which ≡ chosen c d r.which)
      → AreFirsts (IsFirstRefuted sys a b) rs es n → AreFirsts (IsFirstRefuted sys c d) rs es n
  firsts_as a b c d [] [] n same h = h
  firsts_as a b c d [] (e ∷ es) n same h = absurd h
  firsts_as a b c d (r ∷ rs) [] n same h = absurd h
  firsts_as a b c d (r ∷ rs) (x ∷ es) n same (m, k, (e, f, is), rest, up) =
      (m, k, (e, refuted_as a b c d r r.which (same r (inl refl)) e m f, is), firsts_as a b c d rs es k (λ q l. same q (inr l)) rest, up)

-- rows behind others
pub firsts_append : {X B : Type 0} (First : X → B → ℕ → Type 0) (xs ys : List X) (bs cs : List B) (n m : ℕ) → AreFirsts First xs bs n → AreFirsts First ys cs m
    → AreFirsts First (xs ++ ys) (bs ++ cs) (n + m)
firsts_append First [] ys [] cs n m h k = let e : m ≡ n + m = omega (arith, h) in subst (AreFirsts First ys cs) e k
firsts_append First [] ys (b ∷ bs) cs n m h k = absurd h
firsts_append First (x ∷ xs) ys [] cs n m h k = absurd h
firsts_append First (x ∷ xs) ys (b ∷ bs) cs n m (i, j, f, rest, e) k = (i, j + m, f, firsts_append First xs ys bs cs j m rest k, omega (arith, e))
