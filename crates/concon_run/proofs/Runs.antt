-- What is known of a run.
use Rattle.std.proofs.Common.{◌⊎◌, inl, inr}
use Rattle.valid_certificates.specs.Laws.{CertificatesHaveOneAnswer}
use Rattle.cops_read.specs.Answers.{OneSystem, OneRefusal, NeverSystemAndRefusal}
use Rattle.cert_sharing.specs.SharedLaws as texts
use Rattle.proof_spaces.specs.Proofs.{proof_space, pruned_proof_space}
use Rattle.proof_spaces.specs.Laws.{ProofSpacesAreSearchable, PrunedProofsAreProofs}
use Rattle.concon_run.specs.Run.{Run}
use Rattle.concon_run.specs.Check.{said_of_outcome, shown, CheckIsExact, CheckIsComplete}
use Rattle.concon_run.specs.Prove.{Spaces, found, said_of_search, ProveIsExact, ProveIsComplete}
use Rattle.concon_run.specs.Selftest.{said_of_test, TestIsExact}
use Rattle.concon_run.specs.Query.{answer_found, said_of_answer, said_of_question, QueryIsExact, QueryIsComplete}
use Rattle.query_space.specs.Space.{query_space}
use Rattle.query_space.specs.Laws.{QuerySpacesAreSearchable, QueryPricesAreThese}
use Rattle.query_text.specs.Laws as query_texts
use Rattle.first_found.specs.Spaces.{IsPrice}
use Rattle.concon_run.specs.Said.{IsUnlessHindered}
use Rattle.concon_run.specs.declared.status.Status.TheVariants as status
use Rattle.concon_run.specs.Commands.{check, prove, selftest, query, IsAnswered}
use Rattle.concon_run.specs.Rows.{IsRun}
use Rattle.concon_run.proofs.Answered.{told_or_wanting}
use Rattle.concon_run.proofs.OneSystem.{KnownSystems}
use Rattle.concon_run.proofs.OneOutcome.{KnownCertificates}
use Rattle.concon_run.proofs.Checks.{check_exactly}
use Rattle.concon_run.proofs.Searches.{ArePriced, whole_priced, pruned_priced, prove_exactly}
use Rattle.concon_run.proofs.Asking.{KnownQueries, query_exactly, answered_status}
use Rattle.concon_run.proofs.OneCommand.{asked_for, told_to_it, nothing_asked}
use Rattle.concon_run.proofs.Sound.{yes_is_sound, no_is_sound}
use Rattle.concon_run.proofs.Meant.{usage_means, usage_exactly, file_refused_means, cert_refused_means, query_refused_means, rejected_means, yes_means, no_means, proved}
use Rattle.concon_run.proofs.Meant.{undecided_means, read_fault_means, write_fault_means, no_memory_means, of_check, of_prove, of_query, query_proved}

pub known_systems : OneSystem → OneRefusal → NeverSystemAndRefusal → KnownSystems
known_systems one once never = record { one = one; once = once; never = never }

pub known_certificates : texts.OneRefusal → texts.NeverBoth → CertificatesHaveOneAnswer → KnownCertificates
known_certificates once never answers = record { once = once; never = never; answers = answers }

pub known_queries : query_texts.OneQuery → query_texts.OneRefusal → query_texts.NeverQueryAndRefusal → QuerySpacesAreSearchable → QueryPricesAreThese → KnownQueries
known_queries one once never searchable prices = record { one = one; once = once; never = never; searchable = searchable; prices = prices }

module _ (systems : KnownSystems) (certificates : KnownCertificates) (queries : KnownQueries) (run : Run) (h : IsAnswered run) where
  exactly : CheckIsExact run
  exactly file cert outcome calm = told_to_it run h (check file cert) calm.0 (said_of_outcome file cert outcome) (check_exactly systems certificates run file cert outcome calm)

  complete : CheckIsComplete run
  complete file cert verdict calm = told_or_wanting run (said_of_outcome file cert (shown verdict)) (exactly file cert (shown verdict) calm)

  module _ (spaces : Spaces) (priced : ArePriced spaces) where
    searched : ProveIsExact spaces run
    searched file budget outcome calm = told_to_it run h (prove file budget) calm.0 (said_of_search file outcome) (prove_exactly systems spaces priced run file budget outcome calm)

    enough : ProveIsComplete spaces run
    enough file budget names c calm = told_or_wanting run (said_of_search file (found names c)) (searched file budget (found names c) calm)

  self_tested : TestIsExact run
  self_tested n form = told_to_it run h (selftest n) form (said_of_test n) (λ passed good told. inl told)

  queried : QueryIsExact run
  queried file text budget outcome calm = told_to_it run h (query file text budget) calm.0 (said_of_question file text outcome) (query_exactly systems queries run file text budget outcome calm)

  query_complete : QueryIsComplete run
  query_complete file text budget x = by_price ((queries.prices x.system x.conditions x.price).1 x.is_price)
    where
      by_price : IsPrice (query_space x.system x.conditions) x.price → IsUnlessHindered status.Yes run.status ⊎ IsUnlessHindered status.No run.status
      by_price (inl (a, finds)) =
          answered_status x.names x.variables a run.status
          (told_or_wanting run (said_of_answer x.names x.variables a)
          (queried file text budget (answer_found x.names x.variables a)
          (x.form, (x.system, x.conditions, x.price, x.spells, finds, x.within), x.no_file_fault, x.no_query_fault)))
      by_price (inr (barren, costs)) = absurd ((queries.searchable x.system x.conditions).searched.barren barren x.answer x.held x.good)

  pub is_run : ProofSpacesAreSearchable → PrunedProofsAreProofs → IsRun run
  is_run whole pruned =
      record {
        answer = h;
        yes_is_sound = yes_is_sound run h;
        no_is_sound = no_is_sound run h;
        exactly = exactly;
        complete = complete;
        searched = searched pruned_proof_space (pruned_priced whole pruned);
        searched_whole = searched proof_space (whole_priced whole pruned);
        enough = enough pruned_proof_space (pruned_priced whole pruned);
        enough_whole = enough proof_space (whole_priced whole pruned);
        self_tested = self_tested;
        queried = queried;
        query_complete = query_complete;
        query_proved = query_proved run h;
        usage = usage_means run h;
        usage_exactly = usage_exactly run h;
        nothing_asked = nothing_asked run h;
        asked = asked_for run h;
        file_refused = file_refused_means run h;
        cert_refused = cert_refused_means run h;
        query_refused = query_refused_means run h;
        rejected = rejected_means run h;
        yes = yes_means run h;
        no = no_means run h;
        proved = proved run h;
        undecided = undecided_means run h;
        read_fault = read_fault_means run h;
        write_fault = write_fault_means run h;
        no_memory = no_memory_means run h;
        of_check = of_check run h;
        of_prove = of_prove run h;
        of_query = of_query run h;
      }
