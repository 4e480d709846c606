use Rattle.std.proofs.Common.{map, Ok, subst}
use Rattle.term_core.specs.View.{view}
use Rattle.cert_model.specs.CertificateView.{redex_view}
use Rattle.noncon_search.specs.Answers.{EntriesAnswers}
use Rattle.noncon_search.proofs.Apart.{shown_by_entries}
use Rattle.noncon_search.proofs.Listed.{differ}
use Rattle.noncon_search.proofs.candidates.apart.Goals as goal

pub returns-in-Some : goal.returns-in-Some
returns-in-Some c =
    let sys = c.args.sys.now in
    let u = view c.args.first.now.listed.now.term in
    let v = view c.args.second.now.listed.now.term in
    let tries = subst (λ z. EntriesAnswers sys u v (Ok z)) c.in-Some.is c.in_ok-entries.ensures in
    (tries, shown_by_entries sys u v (differ sys (view c.args.start.now) c.args.first.now c.args.second.now c.requires.ends) (map redex_view c.in-Some.entries.items) tries)
