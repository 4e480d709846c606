-- Round by round.
use Rattle.std.proofs.Common.{ℕ, ◌≡◌, ◌+◌, ◌<◌, List, [], ◌∷◌, ◌++◌, map, sym, ap, ◌∙◌, subst, Ok, Err, Result, IsErrAnd, arith}
use Rattle.std.proofs.lemmas.List.{map-append}
use Rattle.rewriting.specs.Rules.{System}
use Rattle.cc_count.specs.Counts.{Counts, Spends}
use Rattle.cc_count.proofs.Spending.{spends_both, spends_same}
use Rattle.first_found.specs.Items.{cost_of, one}
use Rattle.cert_model.specs.CertificateView.{simp_view}
use Rattle.cert_model.specs.declared.model.Simp.{Simp}
use Rattle.term_core.specs.declared.terms.NoMemory.{NoMemory}
use Rattle.simplified_spaces.specs.Tries.{tries, all_tries}
use Rattle.simplified_spaces.specs.Walks.{LeadsOn}
use Rattle.simplified_spaces.proofs.Tries.{counted, steps_within}
use Rattle.simplified_spaces.proofs.Walks.{one_more, paid_within, standard_at_end, stopped_short, within_standard}
use Rattle.simplify.specs.Changes.{after}
use Rattle.step_search.specs.Answers.{WalkAnswers, Finds, RunsOut, FindAnswers, AreWithinTries}
use Rattle.step_search.specs.declared.rounds.SimpSearch.{SimpSearch}
use Rattle.step_search.specs.declared.tries.Made.{Made}
use Rattle.cc_count.specs.declared.Sought.TheVariants.{Found, Nothing, Spent}

-- these steps were made, and their tries paid
pub record GoesOn (sys : System) (steps : List Simp) (here : System) (start now : Counts) : Type 0 where
  pub tried : ℕ
  pub paid : ℕ
  pub leads : LeadsOn sys (map simp_view steps) here tried paid
  pub spent : Spends start paid now

module _ (sys here : System) (steps : List Simp) (start now end : Counts) (g : GoesOn sys steps here start now) where
  -- one step more
  pub goes_on : (new : List Simp) (m : Made) (next : System) → new ≡ steps ++ m.step ∷ [] → next ≡ after here m.change
      → WalkAnswers here (tries here) now end (Ok (Found m)) → GoesOn sys new next start end
  goes_on new m next e is (change, (n, paid, first)) =
      record {
        tried = g.tried + all_tries here;
        paid = g.paid + n;
        leads = subst (λ z. LeadsOn sys (map simp_view new) z (g.tried + all_tries here) (g.paid + n)) (sym is)
            (subst (λ z. LeadsOn sys z (after here m.change) (g.tried + all_tries here) (g.paid + n)) (sym (ap (map simp_view) e ∙ map-append simp_view steps (m.step ∷ [])))
            (one_more sys here (after here m.change) (map simp_view steps) (simp_view m.step) g.tried g.paid n g.leads first));
        spent = spends_both start now end g.paid n g.spent paid;
      }

  pub finds : WalkAnswers here (tries here) now end (Ok Nothing) → Finds sys (map simp_view steps) here start end
  finds (paid, none) =
      record {
        tried = g.tried;
        paid = g.paid;
        made = g.leads;
        within = paid_within sys here (map simp_view steps) g.tried g.paid g.leads;
        standard = standard_at_end sys here (map simp_view steps) g.tried g.paid g.leads none;
        spent = spends_same start end (g.paid + cost_of one (tries here)) (g.paid + all_tries here) (ap (λ z. g.paid + z) (counted here))
            (spends_both start now end g.paid (cost_of one (tries here)) g.spent paid);
      }

  pub runs_out : WalkAnswers here (tries here) now end (Ok Spent) → RunsOut sys start end
  runs_out (n, paid, none, stopped) =
      let both = spends_both start now end g.paid n g.spent paid in
      let whole : g.paid + n ≡ start.left = (let all = both.left in omega (arith, all, none)) in
      record {
        spent = spends_same start end (g.paid + n) start.left whole both;
        none_left = none;
        dearer = λ ss last w h. (let less = stopped_short sys here (map simp_view steps) g.tried g.paid n g.leads stopped ss last w h in omega (arith, less, whole));
      }

  pub fails : (e : NoMemory) → WalkAnswers here (tries here) now end (Err e) → (n : ℕ) × Spends start n end × AreWithinTries sys n
  fails e (n, paid, less) = (
    g.paid + n,
    spends_both start now end g.paid n g.spent paid,
    λ ss last w h. within_standard sys here (map simp_view steps) g.tried g.paid n g.leads (let all = counted here in omega (arith, less, all)) ss last w h,
  )

  -- a step was found, and then memory was refused
  pub fails_found : (m : Made) → WalkAnswers here (tries here) now end (Ok (Found m)) → (n : ℕ) × Spends start n end × AreWithinTries sys n
  fails_found m (change, (n, paid, first)) = (
    g.paid + n,
    spends_both start now end g.paid n g.spent paid,
    λ ss last w h. within_standard sys here (map simp_view steps) g.tried g.paid n g.leads (steps_within here (after here m.change) (simp_view m.step) n first) ss last w h,
  )

-- a walk that gives a step has spent a unit
pub walk_pays : (here : System) (now end : Counts) (m : Made) → WalkAnswers here (tries here) now end (Ok (Found m)) → end.left < now.left
walk_pays here now end m (change, (n, paid, first)) =
    let least : n ≡ cost_of one first.before + 1 = first.up_to in
    let all = paid.left in omega (arith, least, all)

-- where memory is refused, what is handed on tells nothing but that
pub stopped : (sys : System) (start end : Counts) (Is : NoMemory → Type 0) (r : Result SimpSearch NoMemory) → IsErrAnd r Is → (n : ℕ) × Spends start n end × AreWithinTries sys n → FindAnswers sys start end r
stopped sys start end Is (Ok v) is paid = absurd is
stopped sys start end Is (Err e) is paid = paid
