-- The item of the definitions that an `Item` stands for.
use Rattle.certificates.specs.Evidence.{trivial_pair, conflicting_pair}
use Rattle.search_spaces.specs.PairItems.{PairItem, try_evidence, try_refuting}
use Rattle.evidence_offers.specs.RefutingView.{refuting_view}
use Rattle.ortho_search.specs.declared.items.Item.{Item}
use Rattle.ortho_search.specs.declared.items.Item.TheVariants.{Trivial, Conflict, Infeasible}

abbrev pub item_view : Item → PairItem
item_view Trivial = try_evidence trivial_pair
item_view (Conflict a b) = try_evidence (conflicting_pair a b)
item_view (Infeasible r) = try_refuting (refuting_view r)
