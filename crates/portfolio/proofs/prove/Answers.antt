use Rattle.std.proofs.Common.{◌∙◌, Ok, sym, subst}
use Rattle.cc_count.proofs.Spending.{kept_on}
use Rattle.validity.specs.declared.Search.TheVariants as search
use Rattle.search_spaces.specs.Ortho.{ortho_space}
use Rattle.portfolio.specs.declared.Outcome.TheVariants.{Found}
use Rattle.portfolio.proofs.Proving.{own_told, own_proves, own_runs_out, proves_behind, none_first_of_all, proved_valid, proved_written, nothing_valid}
use Rattle.portfolio.proofs.prove.Goals as goal

pub returns-in-Found : goal.returns-in-Found
returns-in-Found c =
    let names = c.args.names.now in
    let sys = c.args.sys.now in
    let before = c.args.budget.now in
    let here = c.search_whole.new.budget in
    let cert = c.in-Found.cert in
    let law = c.proof_spaces_are_searchable.ensures in
    let proved = own_proves names sys before here cert (own_told names sys before here c.in_ok-prepared.prepared (c.in_ok-prepared.ensures ∙ c.in_ok-indexed.ensures)
    c.in_ok-cert.field-0 (search.Found cert) c.in-Found.is c.in_ok-cert.ensures.searched) in
    record {
      searched = proved;
      valid = proved_valid names sys before here (law.whole names sys) (Ok (Found cert)) proved;
      written = proved_written names sys before here law.texts (Ok (Found cert)) proved;
      exhausted = tt;
      ortho_first = λ d n f. rw c.in-Found.is at (c.in_ok-cert.ensures.ortho_first d n (subst (λ s. (ortho_space names s).Finds d n) (sym (c.in_ok-prepared.ensures ∙ c.in_ok-indexed.ensures)) f));
      kept = c.in_ok-cert.ensures.kept;
    }

pub returns-in-Nothing : goal.returns-in-Nothing
returns-in-Nothing c =
    let names = c.args.names.now in
    let sys = c.args.sys.now in
    let before = c.args.budget.now in
    let here = c.search_whole.new.budget in
    let after = c.search_simplified.new.budget in
    let result = c.search_simplified.result in
    let law = c.proof_spaces_are_searchable.ensures in
    let none = own_told names sys before here c.in_ok-prepared.prepared (c.in_ok-prepared.ensures ∙ c.in_ok-indexed.ensures) c.in_ok-cert.field-0 search.Nothing
    c.in-Nothing.is c.in_ok-cert.ensures.searched in
    let proved = proves_behind names sys before here after none result c.search_simplified.ensures.searched in
    record {
      searched = proved;
      valid = proved_valid names sys before after (law.whole names sys) result proved;
      written = proved_written names sys before after law.texts result proved;
      exhausted = nothing_valid names sys before after (law.whole names sys) result proved;
      ortho_first = none_first_of_all names sys before here after none result;
      kept = kept_on before here after c.in_ok-cert.ensures.kept c.search_simplified.ensures.kept;
    }

pub returns-clause-searched : goal.returns-clause-searched
returns-clause-searched c =
    own_runs_out c.args.names.now c.args.sys.now c.args.budget.now c.search_whole.new.budget
    (own_told c.args.names.now c.args.sys.now c.args.budget.now c.search_whole.new.budget c.in_ok-prepared.prepared (c.in_ok-prepared.ensures ∙ c.in_ok-indexed.ensures)
    c.in_ok-cert.field-0 search.Spent c.in-Spent.is c.in_ok-cert.ensures.searched)
