use Rattle.std.proofs.Common.{List, ℕ, ap, sym, ◌∙◌}
use Rattle.number_sets.specs.Sets.{is_set}
use Rattle.number_sets.proofs.Bits.{in_members}
use Rattle.number_sets.proofs.words.NumberSet.has.Goals as goal

pub returns : goal.returns
returns c =
    let set = c.args.self.now in
    let is = c.bit.ensures ∙ ap (λ (l : List ℕ). is_set l c.args.number) c.deref.ensures.value in (λ t. (in_members set c.args.number).1 (sym is ∙ t), λ i. is ∙ (in_members set c.args.number).0 i)
