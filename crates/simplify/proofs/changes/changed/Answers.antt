use Rattle.std.proofs.Common.{refl, sym, subst, ap, ◌∙◌}
use Rattle.rewriting.specs.Systems.{IsSystem}
use Rattle.simplifications.specs.Simplifying.{with_in_place}
use Rattle.simplify.specs.Changes.{new_rules, IsCounted}
use Rattle.simplify.proofs.Altered.{gone, put, within, counted_removed, counted_put}
use Rattle.simplify.proofs.changes.changed.Goals as goal

pub of_parts-requires-clause-sound : goal.of_parts-requires-clause-sound
of_parts-requires-clause-sound c =
    let p = c.into_parts-arities.ensures in
    let r = c.into_parts-arities.result in
    subst IsSystem
    (ap (λ z. with_in_place c.args.sys c.args.change.place (new_rules z)) c.in-None.is
    ∙ sym (gone c.args.sys r.0.items r.1.items r.2 c.args.change.place p.arities p.rules p.own c.remove-gone.new.self.items c.remove-gone.ensures.items)) c.requires.system

pub of_parts-requires-clause-counted : goal.of_parts-requires-clause-counted
of_parts-requires-clause-counted c = counted_removed c.into_parts-arities.result.1.items c.args.change.place c.remove-gone.new.self.items c.remove-gone.ensures.items
    c.into_parts-arities.ensures.counted

pub of_parts-requires-in-Some-clause-sound : goal.of_parts-requires-in-Some-clause-sound
of_parts-requires-in-Some-clause-sound c =
    let p = c.into_parts-arities.ensures in
    let r = c.into_parts-arities.result in
    subst IsSystem
    (ap (λ z. with_in_place c.args.sys c.args.change.place (new_rules z)) c.in-Some.is
    ∙ sym (put c.args.sys r.0.items r.1.items r.2 c.args.change.place p.arities p.rules p.own _ c.in-Some.new
    (within c.args.sys r.0.items r.1.items r.2 c.args.change.place p.arities p.rules p.own c.requires.inside) refl)) c.requires.system

pub of_parts-requires-in-Some-clause-counted : goal.of_parts-requires-in-Some-clause-counted
of_parts-requires-in-Some-clause-counted c =
    let p = c.into_parts-arities.ensures in
    let r = c.into_parts-arities.result in
    counted_put r.1.items c.args.change.place _ c.in-Some.new (within c.args.sys r.0.items r.1.items r.2 c.args.change.place p.arities p.rules p.own c.requires.inside) refl
    (subst IsCounted c.in-Some.is c.requires.counted) p.counted

pub returns-in-None : goal.returns-in-None
returns-in-None c =
    let p = c.into_parts-arities.ensures in
    let r = c.into_parts-arities.result in
    c.of_parts.ensures ∙ gone c.args.sys r.0.items r.1.items r.2 c.args.change.place p.arities p.rules p.own c.remove-gone.new.self.items c.remove-gone.ensures.items
    ∙ ap (λ z. with_in_place c.args.sys c.args.change.place (new_rules z)) (sym c.in-None.is)

pub returns-in-Some : goal.returns-in-Some
returns-in-Some c =
    let p = c.into_parts-arities.ensures in
    let r = c.into_parts-arities.result in
    c.of_parts-in-Some.ensures
    ∙ put c.args.sys r.0.items r.1.items r.2 c.args.change.place p.arities p.rules p.own _ c.in-Some.new
    (within c.args.sys r.0.items r.1.items r.2 c.args.change.place p.arities p.rules p.own c.requires.inside) refl
    ∙ ap (λ z. with_in_place c.args.sys c.args.change.place (new_rules z)) (sym c.in-Some.is)
