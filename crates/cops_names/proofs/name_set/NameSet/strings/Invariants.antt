use Rattle.std.proofs.Common.{◌≡◌, map, take}
use Rattle.cops_names.specs.NamesView.{texts_of}
use Rattle.cops_names.proofs.name_set.NameSet.strings.Given as goal

abbrev pub invariant-names : goal.invariant-names
invariant-names l = texts_of l.strings.items ≡ map (λ k. k.now) (take l.name-index l.name-items)
