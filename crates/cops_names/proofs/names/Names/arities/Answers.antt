use Rattle.std.proofs.Common.{◌≡◌, List, ℕ, map, sym, ap, subst, ◌∙◌, IfOk}
use Rattle.cops_names.specs.NameTable.{NameTable}
use Rattle.cops_names.proofs.Numbers.{arities_are}
use Rattle.cops_names.proofs.names.Names.arities.Goals as goal

pub returns : goal.returns
returns c =
    let same = sym (arities_are c.self.inside.symbols.entries) ∙ ap (λ (n : NameTable). map (λ (s : List ℕ × ℕ). s.1) n.symbols) c.self.view_is in
    subst (λ (w : List ℕ). IfOk c.values_of.result (λ v. v.items ≡ w)) same c.values_of.ensures
