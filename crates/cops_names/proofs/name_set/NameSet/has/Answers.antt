use Rattle.std.proofs.Common.{◌∙◌, ap, List, ℕ}
use Rattle.cops_names.specs.NameLists.{is_among}
use Rattle.cops_names.proofs.Sets.{any_is}
use Rattle.cops_names.proofs.name_set.NameSet.has.Goals as goal

pub returns : goal.returns
returns c = c.contains.ensures ∙ any_is c.args.name.now c.self.inside.names.keys ∙ ap (λ (w : List (List ℕ)). is_among w c.args.name.now) c.self.view_is
