use Rattle.std.proofs.Common.{length, refl, sym, subst}
use Rattle.std.proofs.lemmas.Bool.{false≢true}
use Rattle.general_lemmas.proofs.Places.{slice_get-map_read}
use Rattle.cert_model.specs.CertificateView.{linear_entry_view}
use Rattle.linear_interp.specs.Entries.{AreGoodBelow}
use Rattle.linear_interp.proofs.EntryChecks.{more_good, all_good}
use Rattle.linear_interp.proofs.shape.first_bad.Goals as goal

pub returns-then-not-are_numbers_good : goal.returns-then-not-are_numbers_good
returns-then-not-are_numbers_good c = (
  linear_entry_view c.index-entries-k.result,
  slice_get-map_read linear_entry_view c.args.entries.now c.loop-k.k c.index-entries-k.result c.loop-k-test.true c.index-entries-k.is,
  c.loop-k.invariant,
  λ h. false≢true (c.if-not-are_numbers_good.ensures.1 (subst (λ xs. AreGoodBelow c.args.symbols c.loop-k.k xs (length xs)) (sym c.deref.ensures.value) h)),
)

pub loop-k-preserved : goal.loop-k-preserved
loop-k-preserved c =
    more_good c.args.symbols c.args.entries.now c.loop-k.k c.index-entries-k.result c.loop-k.invariant c.loop-k-test.true c.index-entries-k.is
    (subst (λ xs. AreGoodBelow c.args.symbols c.loop-k.k xs (length xs)) c.deref.ensures.value (c.if-not-are_numbers_good.ensures.0 refl))

pub returns : goal.returns
returns c = all_good c.args.symbols c.args.entries.now c.loop-k.k c.loop-k.invariant c.loop-k-test.false
