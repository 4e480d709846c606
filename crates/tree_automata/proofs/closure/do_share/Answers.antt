use Rattle.std.proofs.Common.{◌∙◌, ℕ, [], ◌∷◌, ⊎_elim, get_or, take, refl, sym, subst}
use Rattle.std.proofs.lemmas.Bool.{false≢true}
use Rattle.std.proofs.lemmas.List.{take_more, take_all}
use Rattle.rewriting.specs.Lists.{IsAmong}
use Rattle.rewriting.proofs.Lists.{among_at, among_either}
use Rattle.tree_automata.proofs.Lists.{among_of_any, any_of_among}
use Rattle.tree_automata.proofs.closure.do_share.Goals as goal

pub returns-then-contains : goal.returns-then-contains
returns-then-contains c =
    let x = get_or c.args.first.now c.loop-x.x-index 0 in (
      λ _. (x, among_at c.args.first.now c.loop-x.x-index 0 x c.loop-x-test.true refl, among_of_any x c.args.second.now (sym c.if-contains.ensures.value)),
      λ _. refl,
    )

pub loop-x-preserved : goal.loop-x-preserved
loop-x-preserved c = λ x i k.
    let first = c.args.first.now in
    let here = get_or c.args.first.now c.loop-x.x-index 0 in
    ⊎_elim (λ j. c.loop-x.invariant x j k)
    (λ j. ⊎_elim (λ e. false≢true (c.if-contains.ensures.value ∙ any_of_among here c.args.second.now (subst (λ (y : ℕ). IsAmong y c.args.second.now) e k))) (λ f. absurd f) j)
    (among_either x (take c.loop-x.x-index first) (here ∷ []) (subst (IsAmong x) (take_more first c.loop-x.x-index 0 c.loop-x-test.true) i))

pub returns : goal.returns
returns c = (
  λ h. absurd (false≢true h),
  λ (x, i, k). absurd (c.loop-x.invariant x (subst (IsAmong x) (sym (take_all c.loop-x.x-index c.args.first.now c.loop-x-test.false)) i) k),
)
