use Rattle.std.proofs.Common.{◌≡◌, ◌++◌, ◌∷◌, [], if◌then◌else◌, nat_eq, set, arith, subst}
use Rattle.unravel.specs.Listed.{listed}
use Rattle.grid_search.proofs.Needed.{number_put}
use Rattle.grid_search.proofs.needs.add_number.Goals as goal

pub returns-clause-listed : goal.returns-clause-listed
returns-clause-listed c =
    λ k.
    subst (λ g. listed (set c.args.lists.now c.rule_needs.result c.push.new.self) k ≡
    (if nat_eq k g then (listed c.args.lists.now k ++ c.args.number ∷ []) else listed c.args.lists.now k)) c.rule_needs.ensures
    (number_put c.args.lists.now c.rule_needs.result k c.args.number c.index-lists-rule_needs.result c.push.new.self (let needs = c.rule_needs.ensures in let lt = c.requires in
    omega (arith, needs, lt)) c.in_ok-push.ensures.items)
