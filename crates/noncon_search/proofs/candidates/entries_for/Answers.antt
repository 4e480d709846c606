use Rattle.std.proofs.Common.{is_some, Ok, ap, subst}
use Rattle.rewriting.proofs.Laws.{well_formed}
use Rattle.term_core.specs.View.{view}
use Rattle.noncon_search.specs.Refuted.{RefutedAnswers}
use Rattle.noncon_search.proofs.Apart.{open_of, open_first, open_second, both_refuted}
use Rattle.noncon_search.proofs.candidates.entries_for.Goals as goal

pub returns-then-not-first : goal.returns-then-not-first
returns-then-not-first c =
    open_first c.args.sys.now (view c.args.first.now.listed.now.term) (view c.args.second.now.listed.now.term) (well_formed c.args.sys.now c.rules_are_sound.ensures)
    (c.requires.ends.each.0.is_open c.if-not-first.true)

pub returns-then-not-second : goal.returns-then-not-second
returns-then-not-second c =
    open_second c.args.sys.now (view c.args.first.now.listed.now.term) (view c.args.second.now.listed.now.term) (well_formed c.args.sys.now c.rules_are_sound.ensures)
    (c.requires.ends.each.1.0.is_open c.if-not-second.true)

pub returns-in_default : goal.returns-in_default
returns-in_default c =
    open_first c.args.sys.now (view c.args.first.now.listed.now.term) (view c.args.second.now.listed.now.term) (well_formed c.args.sys.now c.rules_are_sound.ensures)
    (open_of c.args.sys.now 1 (view c.args.first.now.listed.now.term) c.in_ok-entries.field-0 c.in_ok-entries.ensures (ap is_some c.in_default.is))

pub returns-in_default-2 : goal.returns-in_default-2
returns-in_default-2 c =
    open_second c.args.sys.now (view c.args.first.now.listed.now.term) (view c.args.second.now.listed.now.term) (well_formed c.args.sys.now c.rules_are_sound.ensures)
    (open_of c.args.sys.now 2 (view c.args.second.now.listed.now.term) c.in_ok-more.field-0 c.in_ok-more.ensures (ap is_some c.in_default-2.is))

pub returns : goal.returns
returns c =
    let sys = c.args.sys.now in
    let u = view c.args.first.now.listed.now.term in
    let v = view c.args.second.now.listed.now.term in
    both_refuted sys u v c.in-Some.entries.items c.in-Some-2.more.items (subst (λ z. RefutedAnswers sys 1 u (Ok z)) c.in-Some.is c.in_ok-entries.ensures)
    (subst (λ z. RefutedAnswers sys 2 v (Ok z)) c.in-Some-2.is c.in_ok-more.ensures) c.append.new.self.items c.in_ok-append.ensures.items
