use Rattle.std.proofs.Common.{◌∙◌, ap, sym, Some, List, ℕ}
use Rattle.cops_names.specs.NameLists.{with_name}
use Rattle.cops_names.proofs.Sets.{texts, texts_with, place_with, place_is}
use Rattle.cops_names.proofs.name_set.NameSet.add.Goals as goal

pub returns-clause-names : goal.returns-clause-names
returns-clause-names c =
    texts_with c.self.inside.names.keys c.insert_full.new.self.keys c.args.name c.in_ok-place.ensures.keys
    ∙ ap (λ (w : List (List ℕ)). with_name w c.args.name.now) c.self.view_is

pub returns-clause-place : goal.returns-clause-place
returns-clause-place c =
    place_with (texts c.self.inside.names.keys) (texts c.insert_full.new.self.keys) c.args.name.now
    (texts_with c.self.inside.names.keys c.insert_full.new.self.keys c.args.name c.in_ok-place.ensures.keys)
    ∙ ap Some (sym (place_is c.args.name.now c.self.inside.names.keys) ∙ sym c.in_ok-place.ensures.index)
