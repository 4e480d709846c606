use Rattle.std.proofs.Common.{◌≡◌, ◌↔◌, ◌-◌, ◌<◌, IsTrue, IsSome, Some, sym, subst}
use Rattle.rewriting.specs.Prelude.{IsLinear, rule_at}
use Rattle.rule_index.proofs.Linear.{told_of, place_told}
use Rattle.rule_index.proofs.indexed.IndexedSystem.is_left_linear.Goals as goal

pub index-requires : goal.index-requires
index-requires c =
    subst (λ n. c.args.number - 1 < n) (sym c.self.inside.linear.ok.0)
    (place_told c.self.inside.system.now c.self.inside.linear.items c.args.number c.self.invariant.linear (subst (λ s. IsSome (rule_at s c.args.number)) (sym c.self.view_is) c.requires))

pub returns : goal.returns
returns c =
    λ r e.
    subst (λ b. IsTrue b ↔ IsLinear r.left) (sym c.index.ensures)
    (told_of c.self.inside.system.now c.self.inside.linear.items c.args.number r c.index.result.now c.self.invariant.linear (subst (λ s. rule_at s c.args.number ≡ Some r) (sym c.self.view_is) e)).1
