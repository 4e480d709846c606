use Rattle.std.proofs.Common.{◌≡◌, ◌↔◌, ◌⊎◌, ℕ, OnOk, sym, subst}
use Rattle.number_sets.specs.Relation.{Relates}
use Rattle.automaton_runs.specs.Shared.{IsIn}
use Rattle.automaton_runs.specs.declared.sharing.Found.{Found}
use Rattle.automaton_runs.proofs.sharing.Shared.put.Goals as goal

pub returns-in-Row : goal.returns-in-Row
returns-in-Row c =
    subst (λ (f : Found). OnOk c.insert_all.result
    ((p q : ℕ) → Relates c.insert_all.new.self p q ↔ (Relates c.args.relation.now p q ⊎ ((p ≡ c.args.left) × IsIn f c.args.self.now.made q))))
    (sym c.in-Row.is) c.insert_all.ensures

pub returns-in-Both : goal.returns-in-Both
returns-in-Both c =
    subst (λ (f : Found). OnOk c.insert_shared.result
    ((p q : ℕ) → Relates c.insert_shared.new.self p q ↔ (Relates c.args.relation.now p q ⊎ ((p ≡ c.args.left) × IsIn f c.args.self.now.made q))))
    (sym c.in-Both.is) c.insert_shared.ensures

pub returns-in-Made : goal.returns-in-Made
returns-in-Made c =
    subst (λ (f : Found). OnOk c.insert_all-in-Made.result
    ((p q : ℕ) → Relates c.insert_all-in-Made.new.self p q ↔ (Relates c.args.relation.now p q ⊎ ((p ≡ c.args.left) × IsIn f c.args.self.now.made q)))) (sym c.in-Made.is)
    c.insert_all-in-Made.ensures
