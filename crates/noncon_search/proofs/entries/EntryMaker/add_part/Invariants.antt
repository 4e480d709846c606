use Rattle.std.proofs.Common.{map, drop}
use Rattle.term_core.specs.View.{view}
use Rattle.cert_model.specs.CertificateView.{redex_view}
use Rattle.rule_index.specs.Parts.{part}
use Rattle.noncon_search.proofs.Adding.{IsLeft}
use Rattle.noncon_search.proofs.entries.EntryMaker.add_part.Given as goal

abbrev pub invariant-rules : goal.invariant-rules
invariant-rules l =
    IsLeft l.self.sys.now l.self.own l.self.which (part l.path (view l.part)) (drop l.number-index l.numbers) (map redex_view l.fn.entries.items) (map redex_view l.entries.items)
