use Rattle.std.proofs.Common.{◌↔◌, inr, ⊎_elim, ℕ, sym, subst}
use Rattle.rewriting.specs.Lists.{IsAmong}
use Rattle.automaton_runs.specs.Shared.{IsIn}
use Rattle.automaton_runs.specs.declared.sharing.Found.{Found}
use Rattle.automaton_runs.proofs.sharing.Shared.make.Goals as goal

pub returns-in_ok-insert_shared-clause-numbers : goal.returns-in_ok-insert_shared-clause-numbers
returns-in_ok-insert_shared-clause-numbers c =
    let put = c.in_ok-insert_shared.ensures in
    let there = c.made_ones-self.ensures in
    subst (λ (f : Found). (k : ℕ) → IsIn c.made_ones-self.result c.insert_shared.new.self k ↔ IsIn f c.args.self.now.made k) (sym c.in-Both.is)
    (λ k. (λ h. ⊎_elim (λ o. absurd (subst (IsAmong k) c.clear.ensures o)) (λ i. i) ((put k).0 ((there k).0 h)), λ i. (there k).1 ((put k).1 (inr i))))
