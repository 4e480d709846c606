-- The words with which certificates of each kind begin.
use Rattle.std.specs.Prelude.{suc, length, Bool, true, false, Option, List, [], ◌∷◌, ◌++◌, codes}
use Rattle.certificates.specs.Certificates.{MeasureCertificate, linear_measure, precedence_measure}
use Rattle.cert_grammar.specs.Prelude.{Version, first_version, Mark, fixed, word, fits_answer, answer_marks, Item}
use Rattle.cert_grammar.specs.Prelude.{shared_line, body, pairs_from, entries_from, heads_from, measure, start_line}
use Rattle.cert_reading.specs.declared.headings.Kind.{Kind}
use Rattle.cert_reading.specs.declared.headings.Kind.TheVariants.{Ortho, Quasi, Peak}

-- the first line, of the second version or of the first, and what is behind it
abbrev pub version_mark : Bool → Mark
version_mark true = fixed (codes "concon 2\n")
version_mark false = fixed (codes "concon 1\n")

abbrev pub behind_version : Bool → Option Bool → Item
behind_version true given = shared_line given
behind_version false given = body first_version given

abbrev pub first_marks : Option Bool → Bool → List Mark
first_marks given second = answer_marks given ++ (version_mark second ∷ [])

abbrev pub kind_mark : Option Bool → Kind → Mark
kind_mark given Ortho = word (codes "ortho") (fits_answer true given ∷ [])
kind_mark given Quasi = word (codes "quasi") (fits_answer true given ∷ [])
kind_mark given Peak = word (codes "peak") (fits_answer false given ∷ [])

abbrev pub item_by : Version → Kind → Item
item_by v Ortho = pairs_from v 1
item_by v Quasi = measure v
item_by v Peak = start_line v

-- what is left behind a measure: its next entry, or an overlap
abbrev pub behind_measure : Version → MeasureCertificate → Item
behind_measure v (linear_measure es) = entries_from v (suc (length es))
behind_measure v (precedence_measure order) = heads_from (suc (length order))
