use Rattle.lens_run.proofs.judged.valid_page.Goals as goal

pub returns : goal.returns
returns c = (c.deref.result.now, simp (c.in_ok-extend_from_slice.ensures.items, c.in_ok-page.ensures.items, c.line_of.ensures))
