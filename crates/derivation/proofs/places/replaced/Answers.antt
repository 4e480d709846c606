use Rattle.std.proofs.Common.{ℕ, ◌<◌, ◌≤◌, ◌⊎◌, inl, inr, arith}
use Rattle.term_core.specs.View.{view}
use Rattle.term_core.proofs.Numbers.{none_holds}
use Rattle.certificates.proofs.Growth.{subterm_smaller, replaced_few, replaced_shallow, replaced_fits, size_replace}
use Rattle.derivation.proofs.places.replaced.Goals as goal

too_much : (a b c d : ℕ) → (a < b) ⊎ (c < d) → b ≤ a → d ≤ c → ⊥
too_much a b c d (inl h) k l = omega (arith, h, k)
too_much a b c d (inr h) k l = omega (arith, h, l)

pub overflow_sub-room : goal.overflow_sub-room
overflow_sub-room c =
    let h = c.requires.there in
    let less = (subterm_smaller (view c.args.t.term) c.args.p.now h.0 h.1).1 in
    let was = h.2 in
    let all = c.requires.counted.nodes in
    omega (arith, less, was, all)

pub overflow_cast-levels : goal.overflow_cast-levels
overflow_cast-levels c =
    let h = c.requires.there in
    let deep = (subterm_smaller (view c.args.t.term) c.args.p.now h.0 h.1).0 in
    let levels = c.requires.counted.fits.levels in
    omega (arith, deep, levels)

pub overflow_sub-levels : goal.overflow_sub-levels
overflow_sub-levels c =
    let h = c.requires.there in
    let deep = (subterm_smaller (view c.args.t.term) c.args.p.now h.0 h.1).0 in
    let levels = c.requires.counted.fits.levels in
    omega (arith, deep, levels)

pub returns-in_err-left-clause-none : goal.returns-in_err-left-clause-none
returns-in_err-left-clause-none c =
    none_holds c.from_residual.result (λ v put fits.
    let h = c.requires.there in
    let less = (subterm_smaller (view c.args.t.term) c.args.p.now h.0 h.1).1 in
    let was = h.2 in
    let all = c.requires.counted.nodes in
    let nodes = c.requires.counted.fits.nodes in
    let few = replaced_few (view c.args.t.term) c.args.p.now h.0 (view c.args.part) v h.1 put fits in
    let shallow = replaced_shallow (view c.args.t.term) c.args.p.now (view c.args.part) v put fits in
    too_much _ _ _ _ c.in_err-left.ensures.none (omega (arith, few, was, all, less, nodes)) (omega (arith, shallow)))

pub returns-clause-some : goal.returns-clause-some
returns-clause-some c =
    let h = c.requires.there in
    let less = (subterm_smaller (view c.args.t.term) c.args.p.now h.0 h.1).1 in
    let deep = (subterm_smaller (view c.args.t.term) c.args.p.now h.0 h.1).0 in
    let was = h.2 in
    let all = c.requires.counted.nodes in
    let fits = c.requires.counted.fits in
    let nodes = fits.nodes in
    let levels = fits.levels in
    let room = c.in_ok-left.ensures.nodes in
    let shallow = c.in_ok-left.ensures.levels in
    let put = c.exchange-gone.ensures.put in
    let grown = size_replace (view c.args.t.term) c.args.p.now h.0 (view c.args.part) (view c.exchange-gone.new.t) h.1 put in (
      put,
      record {
        nodes = omega (arith, grown, was, all, less, nodes, room);
        fits = replaced_fits (view c.args.t.term) c.args.p.now h.0 (view c.args.part) (view c.exchange-gone.new.t) h.1 put fits (omega (arith, was, all, less, nodes, room))
            (omega (arith, deep, levels, shallow));
      },
    )
