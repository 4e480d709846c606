use Rattle.std.proofs.Common.{map, ap, arith}
use Rattle.term_core.specs.View.{view}
use Rattle.cert_model.specs.CertificateView.{redex_view}
use Rattle.rule_index.specs.Parts.{Walk, part}
use Rattle.redex_conditions.proofs.Ends.{few_names, numbered_size}
use Rattle.rule_index.proofs.Levels.{told_part}
use Rattle.noncon_search.proofs.Whole.{begins, goes_on, breaks_off, comes_to_end}
use Rattle.noncon_search.proofs.redexes.refute_redexes.Goals as goal

pub overflow_cast-own : goal.overflow_cast-own
overflow_cast-own c = let few = few_names _ _ _ c.len-own.result c.new-numbering.ensures c.in_ok-numbered.ensures.row c.requires.fits.nodes c.len-own.ensures.len in omega (arith, few)

pub new-walk-requires : goal.new-walk-requires
new-walk-requires c = numbered_size _ _ _ c.in_ok-numbered.ensures.names c.requires.fits.nodes

pub parts-init : goal.parts-init
parts-init c =
    begins c.args.sys.now (view c.args.term.now) c.len-own.result c.args.which (view c.in_ok-numbered.numbered) c.numbered.new.self c.len-own.ensures.len
    c.in_ok-numbered.ensures.distinct c.in_ok-numbered.ensures.names
    c.in_ok-numbered.ensures.below c.new-walk.result.rest (ap (λ (z : Walk). z.rest) c.new-walk.ensures) (map redex_view c.new-entries.result.items) (ap (map redex_view) c.new-entries.ensures.items)

pub add_part-requires : goal.add_part-requires
add_part-requires c = record { own = few_names _ _ _ c.len-own.result c.new-numbering.ensures c.in_ok-numbered.ensures.row c.requires.fits.nodes c.len-own.ensures.len }

pub returns-then-not-branch : goal.returns-then-not-branch
returns-then-not-branch c =
    breaks_off c.args.sys.now (view c.args.term.now) c.len-own.result c.args.which c.parts.walk.rest (map redex_view c.parts.entries.items) c.parts.invariant c.next.new.self.rest
    (part c.position.result.now (view c.in-Some.part.now)) (told_part _ _ _ _ _ _ c.in_ok-part.ensures c.in-Some.is c.position.ensures)
    (map redex_view c.add_part.new.entries.items) c.rules_are_sound.ensures
    (rw c.if-not-branch.true at c.in_ok-add_part.ensures)

pub parts-preserved : goal.parts-preserved
parts-preserved c =
    goes_on c.args.sys.now (view c.args.term.now) c.len-own.result c.args.which c.parts.walk.rest (map redex_view c.parts.entries.items) c.parts.invariant c.next.new.self.rest
    (part c.position.result.now (view c.in-Some.part.now)) (told_part _ _ _ _ _ _ c.in_ok-part.ensures c.in-Some.is c.position.ensures) (map redex_view c.add_part.new.entries.items)
    (rw c.if-not-branch.false at c.in_ok-add_part.ensures)

pub returns : goal.returns
returns c =
    let end = rw c.in_default.is at c.in_ok-part.ensures in
    comes_to_end c.args.sys.now (view c.args.term.now) c.len-own.result c.args.which c.parts.walk.rest c.parts.entries c.parts.invariant c.rules_are_sound.ensures end.0
