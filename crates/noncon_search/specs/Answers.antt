-- What the parts of the search answer.
use Rattle.std.specs.Prelude.{Bool, true, false, List, map, Option, None, Some, Result, Ok, Err, Vec}
use Rattle.std.specs.Global.{Global}
use Rattle.rewriting.specs.Prelude.{Term, System}
use Rattle.unifier_run.specs.Run.{clash}
use Rattle.caps.specs.Evidence.{IsRigidOutcome}
use Rattle.certificates.specs.Certificates as math
use Rattle.certificates.specs.Certificates.{by_normal_forms, by_rigid_caps, peak_certificate}
use Rattle.cops_names.specs.NameTable.{NameTable}
use Rattle.valid_certificates.specs.Peaks.{AreShownApart}
use Rattle.reach_lists.specs.Solutions.{Reached}
use Rattle.term_core.specs.declared.terms.NoMemory.{NoMemory}
use Rattle.cert_model.specs.CertificateView.{certificate_view, redex_view, apart_view}
use Rattle.cert_model.specs.declared.model.Certificate.{Certificate}
use Rattle.cert_model.specs.declared.model.NonJoin.{NonJoin}
use Rattle.cert_model.specs.declared.model.Redex.{Redex}
use Rattle.validity.specs.declared.Search.{Search}
use Rattle.cc_count.specs.Counts.{Counts}
use Rattle.first_found.specs.Items.{GivesNothing}
use Rattle.search_answers.specs.Answers.{ending_of}
use Rattle.search_answers.specs.Walks.{Walks}
use Rattle.search_spaces.specs.Listings.{pairs_of}
use Rattle.search_spaces.specs.PeakItems.{PeakItem, peak_item_cost, try_ends, TriesApart, GivesPeak}
use Rattle.search_spaces.specs.Peak.{ArePeakItems}

-- the pairs of a listed term with others, and all pairs of an earlier and a later one
abbrev pub pairs_with : Term → Reached → List Reached → List PeakItem
pairs_with t x ys = map (λ y. try_ends t x y) ys

abbrev pub pair_items : Term → List Reached → List PeakItem
pair_items t xs = map (λ p. try_ends t p.0 p.1) (pairs_of xs)

-- the certificate of two listed terms of a start that are shown to be apart
abbrev pub peak_of : Term → Reached → Reached → math.Apartness → math.Certificate
peak_of t x y apart = peak_certificate (record { start = t; first = x.by; second = y.by; apart = apart })

-- the entries with the first valid evidence for each redex of two terms; or some redex has none, so that caps are tried
abbrev pub EntriesAnswers : System → Term → Term → Result (Option (Vec Redex Global)) NoMemory → Type 0
EntriesAnswers sys u v (Ok (Some es)) = TriesApart sys u v (by_normal_forms (map redex_view es.items))
EntriesAnswers sys u v (Ok None) = TriesApart sys u v by_rigid_caps
EntriesAnswers sys u v (Err e) = Unit {0}

-- whether the rigid caps of two terms clash
abbrev pub CapsAnswers : System → Term → Term → Result Bool NoMemory → Type 0
CapsAnswers sys u v (Ok true) = IsRigidOutcome sys u v clash
CapsAnswers sys u v (Ok false) = IsRigidOutcome sys u v clash → ⊥
CapsAnswers sys u v (Err e) = Unit {0}

-- how two terms are shown to be apart; or what is tried does not show it
abbrev pub ApartAnswers : System → Term → Term → Result (Option NonJoin) NoMemory → Type 0
ApartAnswers sys u v (Ok (Some a)) = TriesApart sys u v (apart_view a) × AreShownApart sys u v (apart_view a)
ApartAnswers sys u v (Ok None) = (a : math.Apartness) → TriesApart sys u v a → AreShownApart sys u v a → ⊥
ApartAnswers sys u v (Err e) = Unit {0}

-- what the item gives, or that it gives nothing
abbrev pub CandidateAnswers : NameTable → System → PeakItem → Result (Option Certificate) NoMemory → Type 0
CandidateAnswers names sys item (Ok (Some c)) = GivesPeak names sys item (certificate_view c)
CandidateAnswers names sys item (Ok None) = GivesNothing (GivesPeak names sys) item
CandidateAnswers names sys item (Err e) = Unit {0}

-- what the first item gives that gives anything, at the cost that was paid; that none does, at the cost of all; or that the budget ended
abbrev pub WalkAnswers : NameTable → System → List PeakItem → Counts → Counts → Result Search NoMemory → Type 0
WalkAnswers names sys = Walks ending_of peak_item_cost (GivesPeak names sys)

-- the same for all items of the space
abbrev pub StartsAnswer : NameTable → System → Counts → Counts → Result Search NoMemory → Type 0
StartsAnswer names sys before after result = (items : List PeakItem) × ArePeakItems sys items × WalkAnswers names sys items before after result
