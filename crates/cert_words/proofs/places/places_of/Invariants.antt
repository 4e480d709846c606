use Rattle.cert_words.proofs.Prelude.{numbers_from, ◌≡◌, ◌++◌, drop}
use Rattle.cert_words.proofs.BadParts.{PartsOn}
use Rattle.cert_words.proofs.places.places_of.Given as goal

abbrev pub invariant-bytes : goal.invariant-bytes
invariant-bytes l = record { parts : PartsOn l.fn.word l.place l.begins l.value; numbers : numbers_from 0 l.fn.word ≡ l.parts.items ++ numbers_from l.value (drop l.place l.fn.word) }
