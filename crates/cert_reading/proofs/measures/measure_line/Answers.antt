use Rattle.cert_reading.proofs.Lemmas.{word_where, other_place, linear_line, order_line}
use Rattle.cert_reading.proofs.Prelude.{eqb-true, nat_eq, false, ◌≡◌, ℕ, zero, suc, List, [], ◌∷◌, codes, refl, NameTable, first_version, second_version, fixed, measure, entries_from, Reading}
use Rattle.cert_reading.proofs.Prelude.{Choice, Chosen, Reads, already}
use Rattle.cert_reading.proofs.measures.measure_line.Goals as goal

abbrev kinds : List Choice
kinds = linear_line second_version ∷ order_line ∷ []

-- not the second line
first_of_two : (names : NameTable) (end r : ℕ) (s t : Reading) → nat_eq r 1 ≡ false → Chosen names end (measure second_version) kinds r s t
    → Reads names end (measure second_version ∷ []) (λ u. fixed (codes "linear\n") ∷ []) (entries_from second_version 1 ∷ []) s t
first_of_two names end zero s t h x = x
first_of_two names end (suc zero) s t h x = absurd cc
first_of_two names end (suc (suc r)) s t h x = already x.0 x.1 x.2

pub returns-in-InFull-clause-linear : goal.returns-in-InFull-clause-linear
returns-in-InFull-clause-linear c = λ q names. rw c.in-InFull.is (word_where (λ s. other_place (measure first_version) _ tt first_version)
    (λ none. c.text.ensures.here none names (measure first_version) _ refl) (c.text.ensures.read names (measure first_version) _ refl))

pub returns-in-ByNumber-clause-linear : goal.returns-in-ByNumber-clause-linear
returns-in-ByNumber-clause-linear c = λ q names. rw c.in-ByNumber.is (word_where (λ s. other_place (measure second_version) _ tt second_version)
    (λ none. c.choose.ensures.here none names (measure second_version) kinds refl refl)
    (first_of_two names c.args.end _ _ _ q (c.choose.ensures.chosen names (measure second_version) kinds refl refl)))

pub returns-in-ByNumber-clause-order : goal.returns-in-ByNumber-clause-order
returns-in-ByNumber-clause-order c = λ q names. word_where (λ s. other_place (measure second_version) _ tt second_version)
    (λ none. c.choose.ensures.here none names (measure second_version) kinds refl refl) (rw (eqb-true c.choose.result 1 q) at (c.choose.ensures.chosen names (measure second_version) kinds refl refl))
