use Rattle.std.proofs.Common.{◌∷◌, ◌++◌, ◌∙◌, List, ℕ, ap, decimal}
use Rattle.std.specs.List.{flat_map}
use Rattle.std.proofs.lemmas.List.{take_all}
use Rattle.concon_run.proofs.PieceLists.{numbers-flat}
use Rattle.concon_run.proofs.pieces.put_each.Goals as goal

pub returns : goal.returns
returns c =
    c.numbers.invariant ∙ ap (λ ns. c.args.out.now.items ++ flat_map (λ n. c.args.byte ∷ decimal n) ns) (take_all _ _ c.numbers-test.false)
    ∙ ap (λ (x : List ℕ). c.args.out.now.items ++ x) (numbers-flat c.args.byte c.args.numbers.now)
