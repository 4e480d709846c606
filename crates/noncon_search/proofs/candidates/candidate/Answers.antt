use Rattle.std.proofs.Common.{Ok, refl, subst}
use Rattle.term_core.specs.View.{view}
use Rattle.cert_model.specs.CertificateView.{certificate_view, apart_view}
use Rattle.noncon_search.specs.Answers.{ApartAnswers}
use Rattle.noncon_search.specs.Ends.{end_view}
use Rattle.noncon_search.proofs.Apart.{foreign_gives, gives, not_shown, without_text}
use Rattle.noncon_search.proofs.candidates.candidate.Goals as goal

pub returns-then-not-have_file_symbols : goal.returns-then-not-have_file_symbols
returns-then-not-have_file_symbols c =
    foreign_gives c.args.names.now c.args.sys.now (view c.args.start.now) (end_view c.args.first.now) (end_view c.args.second.now) c.requires.ends.derived.0 c.requires.ends.derived.1.0
    (λ h. (let e = c.if-not-have_file_symbols.ensures.1 h in cc))

pub returns-in_default : goal.returns-in_default
returns-in_default c =
    let sys = c.args.sys.now in
    let u = view c.args.first.now.listed.now.term in
    let v = view c.args.second.now.listed.now.term in
    not_shown c.args.names.now sys (view c.args.start.now) (end_view c.args.first.now) (end_view c.args.second.now) c.requires.ends.derived.0 c.requires.ends.derived.1.0
    (subst (λ z. ApartAnswers sys u v (Ok z)) c.in_default.is c.in_ok-apart.ensures)

pub returns-then-branch : goal.returns-then-branch
returns-then-branch c =
    let sys = c.args.sys.now in
    let u = view c.args.first.now.listed.now.term in
    let v = view c.args.second.now.listed.now.term in
    let shown = subst (λ z. ApartAnswers sys u v (Ok z)) c.in-Some.is c.in_ok-apart.ensures in
    gives c.args.names.now sys (view c.args.start.now) (end_view c.args.first.now) (end_view c.args.second.now) c.requires.ends.derived.0 c.requires.ends.derived.1.0
    (apart_view c.in-Some.apart) shown.0 (c.if-not-have_file_symbols.ensures.0 refl) shown.1 (certificate_view c.in_ok-cert.cert) c.in_ok-cert.ensures (c.in_ok-has_text.ensures.0 c.if-branch.true)

pub returns-else-branch : goal.returns-else-branch
returns-else-branch c =
    let sys = c.args.sys.now in
    let u = view c.args.first.now.listed.now.term in
    let v = view c.args.second.now.listed.now.term in
    without_text c.args.names.now sys (view c.args.start.now) (end_view c.args.first.now) (end_view c.args.second.now) c.requires.ends.derived.0 c.requires.ends.derived.1.0
    (apart_view c.in-Some.apart) (subst (λ z. ApartAnswers sys u v (Ok z)) c.in-Some.is c.in_ok-apart.ensures).0 (certificate_view c.in_ok-cert.cert) c.in_ok-cert.ensures
    (λ h. (let e = c.in_ok-has_text.ensures.1 h in cc))
