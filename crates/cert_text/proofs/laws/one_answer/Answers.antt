use Rattle.cert_text.proofs.Prelude.{text_or_refused, never_both, places_within}
use Rattle.cert_sharing.proofs.Exact.{one_certificate_refusal}
use Rattle.cert_text.proofs.laws.one_answer.Goals as goal

pub returns-clause-some : goal.returns-clause-some
returns-clause-some c = text_or_refused

pub returns-clause-refusal : goal.returns-clause-refusal
returns-clause-refusal c = one_certificate_refusal

pub returns-clause-never_both : goal.returns-clause-never_both
returns-clause-never_both c = never_both

pub returns-clause-within : goal.returns-clause-within
returns-clause-within c = places_within
