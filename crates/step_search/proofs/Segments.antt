-- Walks over parts of a list of tries, one after the other.
use Rattle.std.proofs.Common.{ℕ, ◌≡◌, ◌+◌, ◌≤◌, refl, sym, ap, ◌∙◌, subst, List, [], ◌∷◌, ◌++◌, Some, None, Result, Ok, Err, IsErr, arith}
use Rattle.std.proofs.lemmas.Bool.{false≢true}
use Rattle.rewriting.specs.Rules.{System}
use Rattle.cc_count.specs.Counts.{Counts, Spends}
use Rattle.cc_count.proofs.Spending.{spends_none, spends_both}
use Rattle.first_found.specs.Items.{NoneGives, cost_of, IsFirst, IsStopped, one}
use Rattle.first_found.proofs.Items.{cost_append, none_append, first_left, first_right, stopped_left, stopped_right}
use Rattle.cert_model.specs.CertificateView.{simp_view}
use Rattle.term_core.specs.declared.terms.NoMemory.{NoMemory}
use Rattle.simplified_spaces.specs.Tries.{Try, GivesStep}
use Rattle.simplify.specs.Changes.{after}
use Rattle.step_search.specs.Answers.{TryAnswers, WalkAnswers}
use Rattle.step_search.specs.declared.tries.Made.{Made}
use Rattle.cc_count.specs.declared.Sought.{Sought}
use Rattle.cc_count.specs.declared.Sought.TheVariants.{Found, Nothing, Spent}

-- these tries gave nothing, and were paid
pub record SoFar (sys : System) (done : List Try) (start now : Counts) : Type 0 where
  pub none : NoneGives (GivesStep sys) done
  pub paid : Spends start (cost_of one done) now

pub nothing_yet : (sys : System) (start : Counts) → SoFar sys [] start start
nothing_yet sys start = record { none = tt; paid = spends_none start }

-- a walk over one try
module _ (sys : System) (t : Try) (start end : Counts) where
  pub one_stops : start.left ≡ 0 → end ≡ start → WalkAnswers sys (t ∷ []) start end (Ok Spent)
  one_stops none same = (
    0,
    subst (Spends start 0) (sym same) (spends_none start),
    ap (λ z. z.left) same ∙ none,
    record { before = []; item = t; behind = []; split = refl; none = tt; short = omega arith },
  )

  module _ (paid : Spends start 1 end) where
    pub one_given : (m : Made) → TryAnswers sys t (Ok (Some m)) → WalkAnswers sys (t ∷ []) start end (Ok (Found m))
    one_given m h = (h.0, (1, paid, record { before = []; item = t; behind = []; split = refl; none = tt; gives = h.1; up_to = refl }))

    pub one_nothing : TryAnswers sys t (Ok None) → WalkAnswers sys (t ∷ []) start end (Ok Nothing)
    one_nothing h = (paid, (h, tt))

    pub one_fails : (e : NoMemory) → WalkAnswers sys (t ∷ []) start end (Err e)
    one_fails e = (1, paid, omega arith)

-- a walk over some tries behind those that gave nothing
module _ {sys : System} {done : List Try} {start here : Counts} (so_far : SoFar sys done start here) where
  module _ (end : Counts) (all mid rest : List Try) (split : all ≡ done ++ (mid ++ rest)) where
    both_paid : (n : ℕ) → Spends here n end → Spends start (cost_of one done + n) end
    both_paid n paid = spends_both start here end (cost_of one done) n so_far.paid paid

    pub part_ends : (r : Sought Made) → (r ≡ Nothing → ⊥) → WalkAnswers sys mid here end (Ok r) → WalkAnswers sys all start end (Ok r)
    part_ends (Found m) other (change, (n, paid, f)) = (
      change,
      (
        cost_of one done + n,
        both_paid n paid,
        subst (λ z. IsFirst one (GivesStep sys) z (simp_view m.step, after sys m.change) (cost_of one done + n)) (sym split)
            (first_right (GivesStep sys) one done (mid ++ rest) (simp_view m.step, after sys m.change) n so_far.none
            (first_left (GivesStep sys) one mid rest (simp_view m.step, after sys m.change) n f)),
      ),
    )
    part_ends Nothing other h = absurd (other refl)
    part_ends Spent other (n, paid, none, f) = (
      cost_of one done + n,
      both_paid n paid,
      none,
      subst (λ z. IsStopped one (GivesStep sys) z (cost_of one done + n)) (sym split)
          (stopped_right (GivesStep sys) one done (mid ++ rest) n so_far.none (stopped_left (GivesStep sys) one mid rest n f)),
    )

    pub part_fails : (r : Result (Sought Made) NoMemory) → IsErr r → (n : ℕ) × Spends here n end × (n ≤ cost_of one mid) → WalkAnswers sys all start end r
    part_fails (Ok x) is h = absurd (false≢true is)
    part_fails (Err e) is (n, paid, less) = (
      cost_of one done + n,
      both_paid n paid,
      let sum : cost_of one all ≡ cost_of one done + (cost_of one mid + cost_of one rest) =
          ap (cost_of one) split ∙ cost_append one done (mid ++ rest) ∙ ap (λ z. cost_of one done + z) (cost_append one mid rest) in omega (arith, sum, less),
    )

    pub part_done : (r : Sought Made) → r ≡ Nothing → WalkAnswers sys mid here end (Ok r) → SoFar sys (done ++ mid) start end
    part_done r is h = nothing_more (subst (λ z. WalkAnswers sys mid here end (Ok z)) is h)
      where
        nothing_more : WalkAnswers sys mid here end (Ok Nothing) → SoFar sys (done ++ mid) start end
        nothing_more (paid, none) =
            record {
              none = none_append (GivesStep sys) done mid so_far.none none;
              paid = subst (λ z. Spends start z end) (sym (cost_append one done mid)) (both_paid (cost_of one mid) paid);
            }

  -- all of them gave nothing
  pub all_done : (all : List Try) → done ≡ all → WalkAnswers sys all start here (Ok Nothing)
  all_done all e = let s = subst (λ z. SoFar sys z start here) e so_far in (s.paid, s.none)
