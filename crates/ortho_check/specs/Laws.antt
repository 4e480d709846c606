-- What a valid certificate shows.
use Rattle.std.specs.Prelude.{List}
use Rattle.rewriting.specs.Prelude.{System, IsWellFormed, IsConfluent}
use Rattle.certificates.specs.Certificates.{PairEntry}
use Rattle.valid_certificates.specs.Confluence.{IsValidOrtho}

-- a system with a valid certificate of an almost orthogonal system is confluent
abbrev pub ValidSystemsAreConfluent : Type 0
ValidSystemsAreConfluent = (sys : System) (es : List PairEntry) → IsWellFormed sys → IsValidOrtho sys es → IsConfluent sys
