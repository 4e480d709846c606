-- What is answered for the redexes of a term.
use Rattle.std.specs.Prelude.{ℕ, List, map, Option, None, Some, Result, Ok, Err, Vec}
use Rattle.std.specs.Global.{Global}
use Rattle.rewriting.specs.Prelude.{Term, System}
use Rattle.term_core.specs.declared.terms.NoMemory.{NoMemory}
use Rattle.cert_model.specs.CertificateView.{redex_view}
use Rattle.cert_model.specs.declared.model.Redex.{Redex}
use Rattle.valid_certificates.specs.Peaks.{RedexPlace}
use Rattle.redex_conditions.specs.Redexes.{AreRedexesOf}
use Rattle.first_found.specs.Rows.{AreFirsts, SomeHasNone}
use Rattle.search_spaces.specs.PeakItems.{IsFirstRefuted}

-- for each of the redexes the entry with the first valid evidence; or some redex has none
abbrev pub RefutedAnswers : System → ℕ → Term → Result (Option (Vec Redex Global)) NoMemory → Type 0
RefutedAnswers sys which t (Ok (Some es)) =
    (rs : List RedexPlace) × AreRedexesOf sys which t rs × ((n : ℕ) × AreFirsts (IsFirstRefuted sys t t) rs (map redex_view es.items) n)
RefutedAnswers sys which t (Ok None) = (rs : List RedexPlace) × AreRedexesOf sys which t rs × SomeHasNone (IsFirstRefuted sys t t) rs
RefutedAnswers sys which t (Err e) = Unit {0}
