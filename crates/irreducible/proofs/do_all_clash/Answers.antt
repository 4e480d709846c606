use Rattle.std.proofs.lemmas.Bool.{false≢true}
use Rattle.term_core.specs.View.{view}
use Rattle.irreducible.proofs.Clashes.{not_all_clash}
use Rattle.irreducible.proofs.do_all_clash.Goals as goal

pub returns-in-No : goal.returns-in-No
returns-in-No c = (
  λ e. absurd (false≢true e),
  λ all. absurd (not_all_clash c.args.sys.now (view c.args.t.now) c.in_ok-is_absolutely_irreducible_in.field-0 c.in-No.is
      c.in_ok-is_absolutely_irreducible_in.ensures all),
)
