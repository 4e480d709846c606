use Rattle.std.proofs.Common.{◌↔◌, ◌≡◌, ◌<◌, ◌∙◌, ℕ, length, ap, sym, subst}
use Rattle.std.proofs.lemmas.List.{length-map}
use Rattle.number_sets.specs.Relation.{Relates}
use Rattle.automaton_runs.specs.Choices.{Tails}
use Rattle.automaton_runs.proofs.tails.Tails.zeros.Goals as goal

pub returns : goal.returns
returns c q k =
    subst (λ (n : ℕ). Relates c.self.inside.zeros q k ↔ ((k < n) × (q ≡ 0))) (sym (length-map c.self.inside.lists.items (λ v. v.items))
    ∙ ap (λ (t : Tails). length t.lists) c.self.view_is) (c.self.invariant.zeros q k)
