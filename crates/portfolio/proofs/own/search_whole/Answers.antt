use Rattle.std.proofs.Common.{Ok, subst, subst₂}
use Rattle.cc_count.proofs.Spending.{kept_on}
use Rattle.first_found.specs.Spaces.{MayEndExactly}
use Rattle.search_spaces.specs.Ortho.{ortho_space}
use Rattle.search_spaces.specs.Peak.{peak_space}
use Rattle.validity.specs.declared.Search.TheVariants.{Nothing}
use Rattle.search_answers.specs.Answers.{Searches, ending_of}
use Rattle.portfolio.proofs.Ending.{ortho_first, ortho_none, both_stand, both_behind, all_stand, all_behind}
use Rattle.portfolio.proofs.own.search_whole.Goals as goal

pub returns-in_default : goal.returns-in_default
returns-in_default c =
    let names = c.args.names.now in
    let sys = c.args.sys.now in
    let before = c.args.budget.now in
    let here = c.search_ortho_over.new.budget in
    record {
      searched = all_stand names sys before here c.in_ok-end.end c.in_default.not-Nothing (both_stand names sys before here c.in_ok-end.end c.in_default.not-Nothing c.in_ok-end.ensures.searched);
      ortho_first = ortho_first names sys before here (Ok c.in_ok-end.end) c.in_ok-end.ensures.searched;
      kept = c.in_ok-end.ensures.kept;
    }

pub returns-in_err-end-in-Nothing-clause-kept : goal.returns-in_err-end-in-Nothing-clause-kept
returns-in_err-end-in-Nothing-clause-kept c = kept_on c.args.budget.now c.search_ortho_over.new.budget c.search_peak_over.new.budget c.in_ok-end.ensures.kept c.in_err-end-in-Nothing.ensures.kept

pub returns-in_default-2 : goal.returns-in_default-2
returns-in_default-2 c =
    let names = c.args.names.now in
    let sys = c.args.sys.now in
    let before = c.args.budget.now in
    let here = c.search_ortho_over.new.budget in
    let there = c.search_peak_over.new.budget in
    let end = c.in_ok-end-in-Nothing.end in
    let none = subst (λ s. Searches ending_of (MayEndExactly (ortho_space names sys)) before here (Ok s)) c.in-Nothing.is c.in_ok-end.ensures.searched in
    let peak = subst (λ s. Searches ending_of (MayEndExactly (peak_space names s)) here there (Ok end)) c.indexed.ensures c.in_ok-end-in-Nothing.ensures.searched in
    record {
      searched = all_stand names sys before there end c.in_default-2.not-Nothing (both_behind names sys before here there none (Ok end) peak);
      ortho_first = ortho_none names sys before here there none (Ok end);
      kept = kept_on before here there c.in_ok-end.ensures.kept c.in_ok-end-in-Nothing.ensures.kept;
    }

pub returns-in-Nothing-2 : goal.returns-in-Nothing-2
returns-in-Nothing-2 c =
    let names = c.args.names.now in
    let sys = c.args.sys.now in
    let before = c.args.budget.now in
    let here = c.search_ortho_over.new.budget in
    let there = c.search_peak_over.new.budget in
    let after = c.search_quasi_over.new.budget in
    let once = (c.spaces_are_searchable.ensures.whole names sys).costs_once in
    let none = subst (λ s. Searches ending_of (MayEndExactly (ortho_space names sys)) before here (Ok s)) c.in-Nothing.is c.in_ok-end.ensures.searched in
    let peak = subst₂ (λ s e. Searches ending_of (MayEndExactly (peak_space names s)) here there (Ok e)) c.indexed.ensures c.in-Nothing-2.is c.in_ok-end-in-Nothing.ensures.searched in
    record {
      searched = all_behind names sys before there after once (both_behind names sys before here there none (Ok Nothing) peak) c.search_quasi_over.result c.search_quasi_over.ensures.pruned;
      ortho_first = ortho_none names sys before here after none c.search_quasi_over.result;
      kept = kept_on before there after (kept_on before here there c.in_ok-end.ensures.kept c.in_ok-end-in-Nothing.ensures.kept) c.search_quasi_over.ensures.kept;
    }
