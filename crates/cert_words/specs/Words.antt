-- The words of the code as the definitions see them.
use Rattle.std.specs.Prelude.{◌≡◌, ◌≤◌, ℕ, true, List, [], ◌∷◌, length, take, drop, Option, Some, None}
use Rattle.cert_words.specs.declared.scans.Mode as mode
use Rattle.cert_words.specs.declared.scans.Mode.TheVariants as reading
use Rattle.cert_words.specs.declared.leads.Lead as lead
use Rattle.cert_words.specs.declared.leads.Lead.TheVariants as leading
use Rattle.cert_words.specs.declared.error.CertCount as counts
use Rattle.cert_words.specs.declared.error.CertCount.TheVariants as counting
use Rattle.cert_words.specs.declared.error.CertError as errors
use Rattle.cert_words.specs.declared.error.CertError.TheVariants as refusing
use Rattle.cert_grammar.specs.Prelude.{Counted, pairs, entries, numbers, steps, redexes, states, transitions, nodes, shared_automata, unfolded, CertificateCause, syntax, unknown_name}
use Rattle.cert_grammar.specs.Prelude.{wrong_arity, bad_number, bad_share, too_many, too_deep, Lead, text, check, keyword, numeral_lead, position_lead, variable_lead, name_lead, is_short}
use Rattle.cert_grammar.specs.Prelude.{is_there, taken, Mode, spelling, bar_begins, number_begins, number_zero, number_more, place_begins, place_root, place_number, place_zero, place_more}
use Rattle.cert_grammar.specs.Prelude.{name_begins, name_dash, name_equals, name_more, mode_of, ends_lead, ends_here, scan}

abbrev pub mode_view : mode.Mode → Mode
mode_view (reading.Spelling left) = spelling left.now
mode_view (reading.Byte b) = spelling (b ∷ [])
mode_view reading.BarBegins = bar_begins
mode_view reading.NumberBegins = number_begins
mode_view reading.NumberZero = number_zero
mode_view reading.NumberMore = number_more
mode_view reading.PlaceBegins = place_begins
mode_view reading.PlaceRoot = place_root
mode_view reading.PlaceNumber = place_number
mode_view reading.PlaceZero = place_zero
mode_view reading.PlaceMore = place_more
mode_view reading.NameBegins = name_begins
mode_view reading.NameDash = name_dash
mode_view reading.NameEquals = name_equals
mode_view reading.NameMore = name_more

-- the lead, with nothing that it must meet and nothing behind it
abbrev pub bare : lead.Lead → Lead
bare (leading.Text w) = text w.now []
bare (leading.Check b) = check (is_short 0) b []
bare (leading.Keyword w) = keyword w.now [] []
bare leading.Number = numeral_lead (λ n. []) (λ n. [])
bare leading.Position = position_lead []
bare leading.Variable = variable_lead [] []
bare leading.Name = name_lead [] (λ name. [])

-- the lead is there, and so many bytes are read with it
pub record IsReached (a : Lead) (bytes : List ℕ) (size : ℕ) : Type 0 where
  pub there : is_there a bytes ≡ true
  pub extent : size ≡ taken a bytes
  pub within : size ≤ length bytes

-- the lead is there, with these bytes and these behind them
pub record IsLeadRead (a : Lead) (bytes w behind : List ℕ) : Type 0 where
  pub there : is_there a bytes ≡ true
  pub word : w ≡ take (taken a bytes) bytes
  pub rest : behind ≡ drop (taken a bytes) bytes
  pub within : taken a bytes ≤ length bytes

-- all bytes of the word are read, and no byte of an identifier follows
abbrev pub IsScanned : Lead → Type 0
IsScanned a = (bytes : List ℕ) → (taken a bytes ≡ (scan (mode_of a) bytes).size) × (ends_lead a bytes ≡ ends_here bytes)

abbrev pub counted_view : counts.CertCount → Counted
counted_view counting.Pairs = pairs
counted_view counting.Entries = entries
counted_view counting.Numbers = numbers
counted_view counting.Steps = steps
counted_view counting.Redexes = redexes
counted_view counting.States = states
counted_view counting.Transitions = transitions
counted_view counting.Nodes = nodes
counted_view counting.Shared = shared_automata
counted_view counting.Unfolded = unfolded

-- the refusal that an error tells, and its place; wanting memory tells none
abbrev pub told : errors.CertError → Option (CertificateCause × ℕ)
told (refusing.CertSyntax at) = Some (syntax, at)
told (refusing.UnknownName at) = Some (unknown_name, at)
told (refusing.WrongArity at) = Some (wrong_arity, at)
told (refusing.BadNumber at) = Some (bad_number, at)
told (refusing.BadShare at) = Some (bad_share, at)
told (refusing.CertTooDeep at) = Some (too_deep, at)
told (refusing.TooMany what at) = Some (too_many (counted_view what), at)
told refusing.NoMemory = None

-- what is refused, if not for want of memory
abbrev pub IsTold : Option (CertificateCause × ℕ) → Option (CertificateCause × ℕ) → Type 0
IsTold wanted None = Unit {0}
IsTold wanted (Some r) = wanted ≡ Some r
