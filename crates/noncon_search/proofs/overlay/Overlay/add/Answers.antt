use Rattle.std.proofs.Common.{true, ◌∙◌, sym, subst}
use Rattle.noncon_search.specs.Laying.{IsLaid}
use Rattle.noncon_search.proofs.Laid.{laid_open}
use Rattle.noncon_search.proofs.overlay.Overlay.add.Goals as goal

pub returns : goal.returns
returns c =
    subst (λ o. IsLaid c.args.self.now (record { whole = c.lay.new.whole; is_open = c.args.self.now.is_open }) o true) (sym c.in-Some.is)
    (laid_open c.args.self.now (record { whole = c.lay.new.whole; is_open = c.args.self.now.is_open }) c.in-Some.cap c.if-not-self.false
    (sym c.made_caps_clash.ensures.walk ∙ c.if-made_caps_clash.false)
    c.in_ok-lay.ensures)
