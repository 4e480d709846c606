-- The space of almost orthogonal systems, and behind it that of peaks.
use Rattle.rewriting.specs.Rules.{System}
use Rattle.certificates.specs.Certificates.{Certificate}
use Rattle.cops_names.specs.NameTable.{NameTable}
use Rattle.first_found.specs.Spaces.{Space, followed_by}
use Rattle.search_spaces.specs.Ortho.{ortho_space}
use Rattle.search_spaces.specs.Peak.{peak_space}

abbrev pub ortho_then_peak_space : NameTable → System → Space Certificate
ortho_then_peak_space names sys = followed_by (ortho_space names sys) (peak_space names sys)
