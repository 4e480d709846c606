use Rattle.term_core.specs.View.{view}
use Rattle.noncon_search.proofs.Apart.{open_of}
use Rattle.noncon_search.proofs.ends.end_of.Goals as goal

pub returns-clause-end : goal.returns-clause-end
returns-clause-end c =
    record {
      fits = c.requires.fits;
      is_open = λ e. open_of c.args.sys.now 1 (view c.args.listed.now.term) c.in_ok-entries.entries c.in_ok-entries.ensures (let same = c.is_some.ensures in cc);
      capped = c.in_ok-cap.ensures;
    }
