use Rattle.std.proofs.Common.{max, sym, ap₂, ◌∙◌, rules, tests, map}
use Rattle.std.proofs.lemmas.List.{length-map}
use Rattle.std.proofs.lemmas.Iterator.{first_from_Range}
use Rattle.term_core.specs.HeadView.{head_view}
use Rattle.cert_model.specs.CertificateView.{linear_entry_view}
use Rattle.linear_interp.specs.Entries.{IsEntryAt}
use Rattle.linear_interp.proofs.Positions as positions
use Rattle.linear_interp.proofs.shape.first_misshapen.Goals as goal

pub returns : goal.returns
returns c =
    let heads = map head_view c.args.heads.now in
    let arities = c.args.arities.now in
    let entries = map linear_entry_view c.args.entries.now in
    let long = c.max.ensures ∙ sym (ap₂ max (length-map c.args.heads.now head_view) (length-map c.args.entries.now linear_entry_view)) in
    positions.first_misshapen heads arities entries c.max.result long c.find.result
    (first_from_Range _ _ _ _ (λ k. IsEntryAt heads arities entries k → ⊥) (IsEntryAt heads arities entries) c.find.ensures.ran
    (λ k q called. grind (rules, tests))
    (λ k q called. (search rules, grind (rules, tests))))
