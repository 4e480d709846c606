use Rattle.std.proofs.Common.{◌+◌, ◌*◌}
use Rattle.rewriting.specs.Terms.{size, size_all}
use Rattle.term_core.specs.View.{view, views}
use Rattle.lpo.proofs.listed.+note.Given as goal

abbrev pub decreases-note_term : goal.decreases-note_term
decreases-note_term l = 2 * size (view l.t.now)

abbrev pub decreases-note_terms : goal.decreases-note_terms
decreases-note_terms l = 2 * size_all (views l.ts.now) + 1
