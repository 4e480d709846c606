use Rattle.cert_text.proofs.Prelude.{rules, ◌≡◌, ◌<◌, ◌+◌, sym, ◌∙◌, length, nil_from_length, not_nil, pair_entry_view, version_by, automata_by, ran}
use Rattle.cert_text.proofs.Advancing.{up_to_by, next_read, held_back, held_on, reads_on, never_whole, at_end, no_entry, not_whole, behind_refused, refused_there, not_told, not_told_at}
use Rattle.cert_text.proofs.pairs.Pairs.next.Goals as goal

pub invariant_of-self : goal.invariant_of-self
invariant_of-self c =
    let read = next_read c.self.inside.names.now (version_by c.uses_of-uses.result) (automata_by c.uses_of-uses.result) _ (c.self.inside.count + 1) c.self.inside.at
    c.next_pair-found.new.at c.next_pair-found.result c.next_pair-found.ensures.pair c.next_pair-found.ensures.last in (
      c.take.ensures.after,
      held_back _ _ c.self.inside.names.now c.self.inside.bytes.now c.self.inside.at.left.now c.self.inside.count c.self.inside.at.shares
          c.next_pair-found.new.at.shares c.go_back.new.self c.so_far-known.result read.0 c.so_far-known.ensures c.go_back.ensures c.self.invariant.1,
    )

pub returns-in-Some : goal.returns-in-Some
returns-in-Some c =
    let u = up_to_by (sym c.uses_of-uses.ensures.version) (sym c.uses_of-uses.ensures.automata) c.self.invariant.1 in
    let e = c.in-Some.refused in
    let read = next_read c.self.inside.names.now (version_by c.uses_of-uses.result) (automata_by c.uses_of-uses.result) _ (c.self.inside.count + 1) c.self.inside.at
    c.next_pair-found.new.at c.next_pair-found.result c.next_pair-found.ensures.pair c.next_pair-found.ensures.last in
    let stop = read.1 e c.self.invariant.0 (sym c.take.ensures.value ∙ c.in-Some.is) in
    record {
      entry = tt;
      none = tt;
      none_exactly = rw (← c.self.view_is) (not_told u e stop);
      ready = rw (← c.self.view_is) (not_told_at u e stop);
      refused = rw (← c.self.view_is) (refused_there u e stop);
      stays = search rules;
      text = search rules;
    }

pub invariant_of-self-in-Some-found : goal.invariant_of-self-in-Some-found
invariant_of-self-in-Some-found c =
    let u = up_to_by (sym c.uses_of-uses.ensures.version) (sym c.uses_of-uses.ensures.automata) c.self.invariant.1 in
    let none = sym c.take.ensures.value ∙ c.in_default.is in (
      c.take.ensures.after,
      up_to_by c.uses_of-uses.ensures.version c.uses_of-uses.ensures.automata
          (held_on u (pair_entry_view c.in-Some-found.entry) c.next_pair-found.new.at.left.now (c.in-Some-found.ensures.plain none) (ran c.self.invariant.0 none c.in-Some-found.ensures.pair)),
    )

pub returns-in-Some-found : goal.returns-in-Some-found
returns-in-Some-found c =
    let u = up_to_by (sym c.uses_of-uses.ensures.version) (sym c.uses_of-uses.ensures.automata) c.self.invariant.1 in
    let none = sym c.take.ensures.value ∙ c.in_default.is in
    let run = ran c.self.invariant.0 none c.in-Some-found.ensures.pair in
    let p = pair_entry_view c.in-Some-found.entry in
    record {
      entry = rw (← c.self.view_is) (reads_on u p c.next_pair-found.new.at.left.now (c.in-Some-found.ensures.plain none) run);
      none = tt;
      none_exactly = rw (← c.self.view_is) (never_whole u p c.next_pair-found.new.at.left.now run);
      ready = λ o es e place h k. tt;
      refused = tt;
      stays = tt;
      text = search rules;
    }

pub returns-then-more-eq0 : goal.returns-then-more-eq0
returns-then-more-eq0 c =
    let u = up_to_by (sym c.uses_of-uses.ensures.version) (sym c.uses_of-uses.ensures.automata) c.self.invariant.1 in
    let left = c.next_pair-found.new.at.left.now in
    let run = ran c.self.invariant.0 (sym c.take.ensures.value ∙ c.in_default.is) c.in-None.ensures.last in
    let zero : length c.next_pair-found.new.at.left.now ≡ 0 = search rules in
    record {
      entry = tt;
      none = rw (← c.self.view_is) (at_end u left _ run (nil_from_length left zero));
      none_exactly = λ o es h k. tt;
      ready = rw (← c.self.view_is) (no_entry u left _ run);
      refused = tt;
      stays = search rules;
      text = search rules;
    }

pub returns-else-more-eq0 : goal.returns-else-more-eq0
returns-else-more-eq0 c =
    let u = up_to_by (sym c.uses_of-uses.ensures.version) (sym c.uses_of-uses.ensures.automata) c.self.invariant.1 in
    let left = c.next_pair-found.new.at.left.now in
    let run = ran c.self.invariant.0 (sym c.take.ensures.value ∙ c.in_default.is) c.in-None.ensures.last in
    let long : 0 < length c.next_pair-found.new.at.left.now = search rules in
    let some = not_nil left long in
    record {
      entry = tt;
      none = tt;
      none_exactly = rw (← c.self.view_is) (λ o es h k. absurd (not_whole u left _ run some o es h k));
      ready = rw (← c.self.view_is) (λ o es e place h k. absurd (no_entry u left _ run o es e place h k));
      refused = rw (← c.self.view_is) (behind_refused u left _ run c.saturating_sub.result some c.saturating_sub.ensures);
      stays = search rules;
      text = search rules;
    }
