-- A term that reaches two terms without a common reduct behind steps that simplify the system does so before them.
use Rattle.std.proofs.Common.{subst, ℕ}
use Rattle.rewriting.specs.Prelude.{Term, Signature, IsOver, HasSymbolsBelow, System}
use Rattle.join_systems.specs.FileRelation.{IsFileTerm}
use Rattle.join_systems.proofs.Files.{files_are_apart}
use Rattle.simplifications.specs.Laws.{AreSameByLevels}
use Rattle.simplifications.proofs.Levels.{keep_levels}
use Rattle.simplifications.proofs.Alike.{alike}
use Rattle.valid_certificates.specs.CarriedBack.{PeaksAreCarriedBack}

-- the file's terms stay
same_terms : (sys last : System) (t : Term) → AreSameByLevels sys last → IsFileTerm last t → IsFileTerm sys t
same_terms sys last t same h = (subst (λ (a : Signature). IsOver a t) same.arities h.0, subst (λ (n : ℕ). HasSymbolsBelow n t) same.own h.1)

pub peaks_back : PeaksAreCarriedBack
peaks_back sys last ss t u v well all h =
    let levels = keep_levels sys last ss well all in
    let same = alike sys last levels in
    let terms = h.terms in
    let at = same_terms sys last t levels terms.0 in
    let au = same_terms sys last u levels terms.1 in
    let av = same_terms sys last v levels terms.2 in
    let one = (same.reaches t u).1 h.one in
    let other = (same.reaches t v).1 h.other in
    let apart = (same.apart u v).1 h.apart in
    record {
      terms = (at, au, av);
      one = one;
      other = other;
      apart = apart;
      file_one = files_are_apart.reaches sys t u at au one;
      file_other = files_are_apart.reaches sys t v at av other;
      file_apart = files_are_apart.apart sys u v apart;
    }
