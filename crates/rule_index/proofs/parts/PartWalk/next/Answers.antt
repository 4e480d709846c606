use Rattle.std.proofs.Common.{[], ◌++◌, ap, sym, subst₂, ◌∙◌}
use Rattle.term_core.specs.View.{views}
use Rattle.rule_index.specs.Levels.{later_parts, levels_of, Leads}
use Rattle.rule_index.specs.WalkView.{ahead_parts}
use Rattle.rule_index.proofs.Levels.{entered_levels, entered_parts, leads_on, stands}
use Rattle.rule_index.proofs.parts.PartWalk.next.Goals.{in-Whole, in-Arguments+in_ok-enter-in-Arguments}
use Rattle.rule_index.proofs.parts.PartWalk.next.Goals as goal

pub next_argument-part-requires : goal.next_argument-part-requires
next_argument-part-requires c =
    entered_levels c.self.inside.path.items _ (levels_of c.self.inside.later.items) _ (views c.in-Arguments.args.now) c.self.invariant.levels
    (rw c.in-Arguments.is at c.self.invariant.small) c.in_ok-enter-in-Arguments.ensures.path c.in_ok-enter-in-Arguments.ensures.later

pub returns : goal.returns
returns c =
    let path = c.self.inside.path.items in
    let levels = levels_of c.self.inside.later.items in
    let rest = ap (λ w. w.rest) (sym c.self.view_is) in
    stands _ _ _ _ _
    (elim c.match-self.branch [
      | in-Whole w ↦
          subst₂ (λ o i. Leads c.args.self.now.rest o i.path.items (later_parts [] i.path.items (levels_of i.later.items))) (sym w.part-is) (sym w.self-inside-is)
          (rw w.in-Whole.is at c.self.invariant.small, rest ∙ ap (λ a. ahead_parts path a ++ later_parts [] path levels) w.in-Whole.is)
      | in-Arguments+in_ok-enter-in-Arguments w ↦
          subst₂ (λ o i. Leads c.args.self.now.rest o i.path.items (later_parts [] i.path.items (levels_of i.later.items))) (sym w.part-is) (sym w.self-inside-is)
          (leads_on _ _ _ _ _ (rest ∙ ap (λ a. ahead_parts path a ++ later_parts [] path levels) w.in-Arguments.is
          ∙ entered_parts path _ levels _ (views w.in-Arguments.args.now) c.self.invariant.levels w.in_ok-enter-in-Arguments.ensures.path w.in_ok-enter-in-Arguments.ensures.later)
          w.next_argument-part.ensures.next)
    ])
    c.arguments_of.ensures
