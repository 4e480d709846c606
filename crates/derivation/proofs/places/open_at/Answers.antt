use Rattle.std.proofs.Common.{◌≡◌, Some, sym, subst, arith}
use Rattle.rewriting.specs.Prelude.{var, replace}
use Rattle.term_core.specs.View.{view}
use Rattle.term_core.proofs.Views.{view-Var}
use Rattle.term_core.proofs.Instances.{size_some, depth_some}
use Rattle.certificates.proofs.Growth.{subterm_fits, subterm_smaller, size_replace, replaced_fits}
use Rattle.derivation.proofs.places.open_at.Goals as goal

pub size-was-requires : goal.size-was-requires
size-was-requires c = let e = c.in_ok-subterm.ensures in subterm_fits (view c.args.t.term) c.args.p.now (view c.in_ok-subterm.field-0.now) (sym e) c.requires.fits

pub overflow_sub-nodes : goal.overflow_sub-nodes
overflow_sub-nodes c =
    let e = c.in_ok-subterm.ensures in
    let less = (subterm_smaller (view c.args.t.term) c.args.p.now (view c.in_ok-subterm.field-0.now) (sym e)).1 in
    omega (arith, less, c.size-was.ensures, c.requires.nodes)

pub returns-clause-some : goal.returns-clause-some
returns-clause-some c =
    let t = view c.args.t.term in
    let p = c.args.p.now in
    let part = view c.exchange-part.result in
    let rest = view c.exchange-part.new.t in
    let stands = c.exchange-part.ensures.was in
    let put = subst (λ u. replace t p u ≡ Some rest) (view-Var 0) c.exchange-part.ensures.put in
    let e = c.in_ok-subterm.ensures in
    let was = (subterm_smaller t p (view c.in_ok-subterm.field-0.now) (sym e)).1 in
    let same = size_replace t p (view c.in_ok-subterm.field-0.now) (var 0) rest (sym e) put in
    let smaller = subterm_smaller t p part stands in
    record {
      part = stands;
      rest = put;
      counted = record {
        nodes = omega (arith, same, was, c.size-was.ensures, c.requires.nodes);
        fits = replaced_fits t p part (var 0) rest stands put c.requires.fits (omega (arith, c.requires.fits.nodes, size_some part))
            (omega (arith, smaller.0, c.requires.fits.levels, depth_some part));
      };
    }
