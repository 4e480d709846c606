-- Which of some leads is there, and what is read with it.
use Rattle.std.specs.Prelude.{◌≡◌, ◌≤◌, ◌-◌, ℕ, zero, suc, List, [], ◌∷◌, length, take, drop, Option, Some, None, IfSome, MatchOption, false}
use Rattle.cops_names.specs.NameTable.{NameTable}
use Rattle.cert_grammar.specs.Prelude.{fixed, Naming, Mark, Item, Lead, leads, text, check, at_once, keyword, numeral_lead, position_lead, variable_lead, name_lead, is_short, is_there}
use Rattle.cert_grammar.specs.Prelude.{taken, first_there, Demand, verdict, in_range}
use Rattle.cert_words.specs.declared.error.CertError.{CertError}
use Rattle.cert_words.specs.declared.choices.Found.{Found}
use Rattle.cert_words.specs.declared.reading.Reading.{Reading}
use Rattle.cert_words.specs.Words.{IsLeadRead, told}
use Rattle.cert_words.specs.Walks.{Reads, Run, IsStuckAt}

-- a text, and the items behind it
pub record Choice : Type 0 where
  pub bytes : List ℕ
  pub items : List Item

abbrev pub lead_of : Choice → Lead
lead_of c = text c.bytes c.items

abbrev pub bare_of : Choice → Lead
bare_of c = text c.bytes []

-- the one at this place is read; past the last one the text is refused
abbrev pub Chosen : NameTable → ℕ → Item → List Choice → ℕ → Reading → Reading → Type 0
Chosen names end i [] k s t = (e : CertError) × (t.refused ≡ Some e) × Reads names end (i ∷ []) (λ u. []) [] s t
Chosen names end i (c ∷ cs) zero s t = Reads names end (i ∷ []) (λ u. fixed c.bytes ∷ []) c.items s t
Chosen names end i (c ∷ cs) (suc k) s t = Chosen names end i cs k s t

-- so many leads at the front are not there
abbrev pub Missed : List ℕ → ℕ → List Lead → Type 0
Missed bytes zero ls = Unit {0}
Missed bytes (suc k) [] = Unit {0}
Missed bytes (suc k) (a ∷ ls) = (is_there a bytes ≡ false) × Missed bytes k ls

-- the first that is there stands at this place, with this word and these bytes behind it
abbrev pub IsFirst : List ℕ → List Lead → ℕ → List ℕ → List ℕ → Type 0
IsFirst bytes [] k w rest = ⊥
IsFirst bytes (a ∷ ls) zero w rest = IsLeadRead a bytes w rest
IsFirst bytes (a ∷ ls) (suc k) w rest = (is_there a bytes ≡ false) × IsFirst bytes ls k w rest

-- a lead with nothing that it must meet and nothing behind it
abbrev pub plain : Lead → Lead
plain (text w new) = text w []
plain (check d b new) = check (is_short 0) b []
plain (at_once d new) = at_once d []
plain (keyword w ds new) = keyword w [] []
plain (numeral_lead ds new) = numeral_lead (λ k. []) (λ k. [])
plain (position_lead new) = position_lead []
plain (variable_lead ds new) = variable_lead [] []
plain (name_lead ds new) = name_lead [] (λ k. [])

-- a lead that is there, with its word and the bytes behind it
pub record Front (bytes : List ℕ) (i : Item) (a : Lead) (w back : List ℕ) : Type 0 where
  pub first : first_there (leads i) bytes ≡ Some a
  pub word : w ≡ take (taken a bytes) bytes
  pub rest : back ≡ drop (taken a bytes) bytes
  pub within : taken a bytes ≤ length bytes

-- a word is read, or the text refused at its item
pub record WordReads (names : NameTable) (end : ℕ) (i : Item) (marks : Naming → List Mark) (to : List Item) (s t : Reading) : Type 0 where
  pub read : Reads names end (i ∷ []) marks to s t
  pub here : s.refused ≡ None → IfSome t.refused (λ e. IsStuckAt names end i s.left.now s.shares (told e))

-- nothing is read of such items: the text is refused
pub record IsMissed (end : ℕ) (Fits : Item → Type 0) (s t : Reading) : Type 0 where
  pub why : CertError
  pub refused : t.refused ≡ Some why
  pub left : t.left ≡ s.left
  pub at : (names : NameTable) (i : Item) → Fits i → (marks : Naming → List Mark) (to : List Item) → WordReads names end i marks to s t

-- the first of the leads is found
pub record Finds (end : ℕ) (ls : List Lead) (x : Found) (s t : Reading) : Type 0 where
  pub none : s.refused ≡ None
  pub same : t ≡ s
  pub place : x.here ≡ end - length s.left.now
  pub first : IsFirst s.left.now ls x.which x.word.now x.rest.now

-- what was found is read, or the text refused for it
pub record IsJudged (x : Found) (m : Option CertError) (s t : Reading) : Type 0 where
  pub passed : m ≡ None → t ≡ record { left = x.rest; refused = s.refused; shares = s.shares }
  pub refused : (e : CertError) → m ≡ Some e → t ≡ record { left = s.left; refused = Some e; shares = s.shares }

-- why this lead is refused at its item, if it is there
abbrev pub IsWhy : NameTable → ℕ → Item → Lead → (Naming → List Mark) → List Item → Reading → Option CertError → Type 0
IsWhy names end i a marks to s m = (w rest : List ℕ) → Front s.left.now i a w rest
    → MatchOption m (Run names end (i ∷ []) marks to s.left.now rest s.shares s.shares) (λ e. IsStuckAt names end i s.left.now s.shares (told e))

-- why what is asked is refused at this place, if it is
abbrev pub IsVerdict : NameTable → ℕ → List Demand → Option CertError → Type 0
IsVerdict names at ds m = MatchOption m (verdict names at ds ≡ None) (λ e. verdict names at ds ≡ told e)

-- a number in this range
abbrev pub IsNumeral : ℕ → ℕ → Item → Type 0
IsNumeral least bound i = (ds : ℕ → List Demand) × (new : ℕ → List Item) × (leads i ≡ numeral_lead (λ n. in_range 0 least bound n ∷ ds n) new ∷ [])
