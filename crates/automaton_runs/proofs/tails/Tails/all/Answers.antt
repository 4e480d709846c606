use Rattle.std.proofs.Common.{◌↔◌, ◌<◌, ◌∙◌, ℕ, length, ap, sym, subst}
use Rattle.std.proofs.lemmas.List.{length-map}
use Rattle.rewriting.specs.Lists.{IsAmong}
use Rattle.number_sets.specs.Sets.{members}
use Rattle.automaton_runs.specs.Choices.{Tails}
use Rattle.automaton_runs.proofs.tails.Tails.all.Goals as goal

pub returns : goal.returns
returns c k =
    subst (λ (n : ℕ). IsAmong k (members c.self.inside.all) ↔ (k < n)) (sym (length-map c.self.inside.lists.items (λ v. v.items))
    ∙ ap (λ (t : Tails). length t.lists) c.self.view_is) (c.self.invariant.all k)
