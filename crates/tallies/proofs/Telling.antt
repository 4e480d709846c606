-- What the tally of its entries tells of a certificate.
use Rattle.std.proofs.Common.{refl}
use Rattle.valid_certificates.specs.Certificates.{IsMeasureJudged}
use Rattle.tallies.specs.Laws.{OrthoTalliesTell, QuasiTalliesTell}
use Rattle.tallies.proofs.Taking.{ortho_failed, ortho_all, ortho_missing, quasi_failed, quasi_all, quasi_missing}

pub ortho_tells : OrthoTalliesTell
ortho_tells sys =
    record {
      fails = λ es r h. ortho_failed sys es r h;
      passes = λ es os are h. ortho_all sys es _ h os are refl;
      misses = λ es front rest o are h. ortho_missing sys es _ h _ are front rest o refl refl;
    }

pub quasi_tells : QuasiTalliesTell
quasi_tells sys m =
    record {
      fails = λ es r h. quasi_failed (IsMeasureJudged sys m) sys es r h;
      passes = λ es os are h. quasi_all (IsMeasureJudged sys m) sys es _ h os are refl;
      misses = λ es front rest o are h. quasi_missing (IsMeasureJudged sys m) sys es _ h _ are front rest o refl refl;
    }
