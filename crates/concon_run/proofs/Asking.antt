-- A query: its words, that what was read and searched is what it answers, and what is said of that.
use Rattle.std.proofs.Common.{◌≡◌, ◌⊎◌, ℕ, ◌<◌, ◌≤◌, List, [], ◌∷◌, length, Option, Some, None, Result, Ok, Err, codes, inl, inr, refl, sym, ap, ap₂, ◌∙◌, subst, subst₂, arith}
use Rattle.std.specs.Prelude.{IfSome, IsErrOf, option_map}
use Rattle.rewriting.specs.Rules.{Condition, System}
use Rattle.cops_names.specs.NameTable.{NameTable}
use Rattle.cops_names.specs.NamesView.{texts_of}
use Rattle.cc_count.specs.Counts.{Counts}
use Rattle.cc_io.specs.Errors.{IsTooLong}
use Rattle.cc_io.specs.declared.shelf.ReadAllError.{ReadAllError}
use Rattle.cc_io.specs.declared.shelf.ReadAllError.TheVariants as reading
use Rattle.cops_read.specs.declared.errors.Count.{Count}
use Rattle.cops_read.specs.declared.errors.Count.TheVariants as count
use Rattle.first_found.specs.Spaces.{Ending, IsBarren, IsDearer}
use Rattle.first_found.specs.Spaces as ending
use Rattle.query.specs.Answers.{conditions_of, AskAnswers}
use Rattle.query_space.specs.Items.{QueryAnswer, never_met, met_by}
use Rattle.query_space.specs.Space.{query_space}
use Rattle.query_space.specs.Endings.{MayEndQuery}
use Rattle.query_space.specs.Laws.{QuerySpacesAreSearchable, QueryPricesAreThese}
use Rattle.query_search.specs.Answers.{reply_view, IsTrueEnding, IsEmptyEnding}
use Rattle.query_search.specs.declared.reply.Reply.{Reply}
use Rattle.query_terms.specs.Queries.{HasTooMany}
use Rattle.query_terms.specs.declared.reader.Query.{Query}
use Rattle.query_terms.specs.declared.reader.QueryError.{QueryError}
use Rattle.query_terms.specs.declared.reader.QueryError.TheVariants as error
use Rattle.query_text.specs.Laws as texts
use Rattle.query_text.specs.Query as text
use Rattle.run_parts.specs.Bytes.{most_query_bytes, Bytes, told_or_any, bytes_of, SpellsSystem}
use Rattle.refusal_texts.specs.Queries.{query_cause_words, query_error_cause, query_refusal_text}
use Rattle.run_parts.specs.Devices.{ShelfRun, HasFailed, BeginsAtMost}
use Rattle.run_parts.proofs.Numbers.{same_budget}
use Rattle.run_parts.proofs.LongTexts.{long_text}
use Rattle.concon_run.specs.QueryRefusals.{QueryRefusal, long_query, no_query_text, IsQueryRefused, query_refusal_of}
use Rattle.concon_run.specs.Run.{Run}
use Rattle.concon_run.specs.Said.{Said, IsSaidIfMemory, Tells, TellsIfMemory, IsUnlessHindered}
use Rattle.concon_run.specs.Query.{IsQuery, SpellsQuery, IsRefusedQuery, QueryOutcome, bad_file, bad_query, answer_found, over_budget, exhausted, Spells, HoldsNoAnswer}
use Rattle.concon_run.specs.Query.{QueryComesTo, QueryMustComeTo, said_of_answer, said_of_question, QueryReply, queried, file_unread, query_unread, said_of_query, IsQueryReply}
use Rattle.concon_run.specs.Query.{QueryCalmlyComesTo}
use Rattle.concon_run.specs.Querying.{EndsWith, BytesReply, QueryReplies, ending_outcome, query_reply}
use Rattle.concon_run.specs.Files.{SystemAnswers, no_system_said}
use Rattle.concon_run.specs.Refusals.{refused_said}
use Rattle.concon_run.specs.Replies.{said_if_any}
use Rattle.concon_run.specs.declared.files.NoSystem.{NoSystem}
use Rattle.concon_run.specs.declared.queries.NoReply.{NoReply}
use Rattle.concon_run.specs.declared.queries.NoReply.TheVariants as no_reply
use Rattle.concon_run.specs.declared.queries.Queried.{Queried}
use Rattle.concon_run.specs.declared.status.Status.{Status}
use Rattle.concon_run.specs.declared.status.Status.TheVariants as status
use Rattle.concon_run.proofs.Letters.{first_letter}
use Rattle.concon_run.proofs.OneSystem.{KnownSystems, Told, same_bytes, one_pair, spells_or_none, none_or_spells, one_refused}
use Rattle.concon_run.proofs.Unread.{given_none, no_system_is_said, refusal_is_said}

pub letter_of_query : (words : List (List ℕ)) (file query : List ℕ) (budget : ℕ) → IsQuery words file query budget → first_letter words ≡ 113
letter_of_query words file query budget (inl (e, b)) = ap first_letter e
letter_of_query words file query budget (inr (number, e, b)) = ap first_letter e

pub no_question : (words : List (List ℕ)) → ((file query : List ℕ) → words ≡ codes "query" ∷ file ∷ query ∷ [] → ⊥)
    → ((file query number : List ℕ) → words ≡ codes "query" ∷ file ∷ query ∷ codes "--budget" ∷ number ∷ [] → ⊥) → (file query : List ℕ) (budget : ℕ) → IsQuery words file query budget → ⊥
no_question words none never file query budget (inl (e, b)) = none file query e
no_question words none never file query budget (inr (number, e, b)) = never file query number e

-- two queries that the words ask for are one
pub query_once : (words : List (List ℕ)) (file query other others : List ℕ) (a b : ℕ) → IsQuery words file query a → IsQuery words other others b → (other ≡ file) × (others ≡ query) × (b ≡ a)
query_once words file query other others a b (inl (e, h)) (inl (f, k)) = (cc, cc, k ∙ sym h)
query_once words file query other others a b (inl (e, h)) (inr (number, f, k)) = absurd (cc)
query_once words file query other others a b (inr (number, e, h)) (inl (f, k)) = absurd (cc)
query_once words file query other others a b (inr (number, e, h)) (inr (numeral, f, k)) = (cc, cc, same_budget number numeral a b (cc) h k)

pub query_not_read : {A : Type 0} (told : Option (List ℕ)) (failed : Type 0) (sys : System) (names : NameTable) (budget : ℕ) (e : ReadAllError)
    → (IsErrOf {T = A} (Err e) reading.ReadFault → failed) → (IsTooLong e → IfSome told (λ bytes. most_query_bytes < length bytes))
    → QueryReplies (told_or_any told) failed sys names budget (Err (no_reply.QueryUnread e))
query_not_read told failed sys names budget reading.ReadFault fault long = fault refl
query_not_read told failed sys names budget (reading.TooLong n) fault long = long_text told most_query_bytes (long tt)
query_not_read told failed sys names budget reading.NoMemory fault long = tt

-- what was asked of the bytes is what the query comes to
module _ (law : QuerySpacesAreSearchable) (sys : System) (cs : List Condition) (units : ℕ) where
  ends_with : (left paid : ℕ) → left ≡ units → (e : Ending QueryAnswer) → MayEndQuery sys cs left paid e → IsTrueEnding sys cs e → IsEmptyEnding sys cs e → EndsWith sys cs units e
  ends_with left paid same (ending.found a) h says empty = (record { price = paid; first = h; good = ((law sys cs).searched.held a paid h).1 }, says)
  ends_with left paid same ending.nothing h says empty = empty
  ends_with left paid same ending.spent h says empty = subst (IsDearer (query_space sys cs)) same h.1

pub bytes_replied : QuerySpacesAreSearchable → (sys : System) (names : NameTable) (bytes : List ℕ) (units : ℕ) (before after : Counts) → before.left ≡ units → (r : Result (Query × Reply) QueryError)
    → AskAnswers sys names.symbols bytes before after r → BytesReply sys names bytes units r
bytes_replied law sys names bytes units before after same (Ok a) h =
    (h.query, ends_with law sys (conditions_of a.0) units before.left h.searched.0 same (reply_view a.1) h.searched.2 h.says h.empty)
bytes_replied law sys names bytes units before after same (Err e) h = h

-- the same of the text of a query
module _ (query : Bytes) (failed : Type 0) (sys : System) (names : NameTable) (budget : ℕ) (bytes : List ℕ) (f : query bytes) (short : length bytes ≤ most_query_bytes) where
  too_many : (what : Count) (limit at : ℕ) → HasTooMany sys names.symbols bytes what at → IfSome (query_refusal_of (error.TooMany what limit at)) (IsRefusedQuery query sys names)
  too_many count.Rules limit at h = absurd h
  too_many count.Arity limit at h = absurd h
  too_many count.Symbols limit at h = absurd h
  too_many _ limit at h = (bytes, f, (short, h))

  pub query_refused : (e : QueryError) → BytesReply sys names bytes budget (Err e) → QueryReplies query failed sys names budget (Err (no_reply.QueryRefused e))
  query_refused error.NoMemory h = tt
  query_refused (error.TooMany what limit at) h = too_many what limit at h.0
  query_refused _ h = (bytes, f, (short, h))

module _ (shelf : ShelfRun) (file query : List ℕ) (budget : ℕ) where
  -- the file gives no system
  pub file_gives_none : (e : NoSystem) → SystemAnswers (bytes_of shelf file) (HasFailed shelf file) (Err e) → BeginsAtMost file shelf
      → IfSome (query_reply (Err (no_reply.NoSystem e))) (IsQueryReply shelf file query budget)
  file_gives_none e h only =
      given_none (IsQueryReply shelf file query budget) shelf file file_unread (λ r. queried (bad_file r)) (λ failed. record { cause = failed; right = tt; left = only })
      (λ r refused. record { cause = refused; right = tt; left = only }) e h

  module _ (sys : System) (names : NameTable) (f : SpellsSystem (bytes_of shelf file) sys names) where
    refusal : (o : Option QueryRefusal) → IfSome o (IsRefusedQuery (bytes_of shelf query) sys names) → IfSome (option_map (λ r. queried (bad_query r)) o) (IsQueryReply shelf file query budget)
    refusal (Some r) h = record { cause = (sys, names, f, h); right = tt; left = tt }
    refusal None h = tt

    answered_so : (cs : List Condition) (vs : List (List ℕ)) → Spells (bytes_of shelf file) (bytes_of shelf query) sys names cs vs → (e : Ending QueryAnswer) → EndsWith sys cs budget e
        → IsQueryReply shelf file query budget (queried (ending_outcome names vs e))
    answered_so cs vs spells (ending.found a) h = record { cause = (sys, cs, spells, h.0); right = (sys, cs, spells, h.1); left = tt }
    answered_so cs vs spells ending.nothing h = record { cause = (sys, names, cs, vs, spells, h); right = tt; left = tt }
    answered_so cs vs spells ending.spent h = record { cause = (sys, names, cs, vs, spells, h); right = tt; left = tt }

  -- the file gives a system, and this is the answer to the query
  pub query_answered : (sys : System) (names : NameTable) → SpellsSystem (bytes_of shelf file) sys names → (failed : Type 0) → (failed → HasFailed shelf query) → (r : Result Queried NoReply)
      → QueryReplies (bytes_of shelf query) failed sys names budget r → IfSome (query_reply r) (IsQueryReply shelf file query budget)
  query_answered sys names f failed rose (Ok q) h =
      let g = subst (SpellsSystem (bytes_of shelf file) sys) (sym h.2) f in
      answered_so sys q.names g (conditions_of q.query) (texts_of q.query.names.items) (record { system = g; conditions = h.0 }) (reply_view q.reply) h.1
  query_answered sys names f failed rose (Err (no_reply.NoSystem e)) h = absurd h
  query_answered sys names f failed rose (Err (no_reply.QueryUnread reading.ReadFault)) h = record { cause = (rose h, (sys, names, f)); right = tt; left = tt }
  query_answered sys names f failed rose (Err (no_reply.QueryUnread (reading.TooLong n))) h = record { cause = (sys, names, f, h); right = tt; left = tt }
  query_answered sys names f failed rose (Err (no_reply.QueryUnread reading.NoMemory)) h = tt
  query_answered sys names f failed rose (Err (no_reply.QueryRefused e)) h = refusal sys names f (query_refusal_of e) h

-- what is said is what the answer says
module _ (file query : List ℕ) where
  abbrev Says : NoReply → Said → Type 0
  Says e said = IsSaidIfMemory (said_if_any (said_of_query file query) (query_reply (Err e))) said

  pub no_system_says : (e : NoSystem) (said : Said) → IsSaidIfMemory (no_system_said file e) said → Says (no_reply.NoSystem e) said
  no_system_says e said h = no_system_is_said (said_of_query file query) file file_unread (λ r. queried (bad_file r)) refl (λ r. refl) e said h

  pub refused_query_says : (e : QueryError) (words : Option (ℕ × List ℕ)) (said : Said) → words ≡ query_refusal_text e → IsSaidIfMemory (refused_said status.QueryRefused query words) said
      → Says (no_reply.QueryRefused e) said
  refused_query_says e words said same h =
      refusal_is_said (said_of_query file query) no_query_text query_cause_words (λ r. queried (bad_query r)) status.QueryRefused query (λ cause at. refl) (query_error_cause e) words said same h

-- what is known of the texts of queries, and of the space of answers
pub record KnownQueries : Type 0 where
  pub one : texts.OneQuery
  pub once : texts.OneRefusal
  pub never : texts.NeverQueryAndRefusal
  pub searchable : QuerySpacesAreSearchable
  pub prices : QueryPricesAreThese

module _ (systems : KnownSystems) (k : KnownQueries) (file query : Option (List ℕ)) (budget : ℕ) where
  -- the text of a query over one system is not refused
  text_or_refused : (sys : System) (names : NameTable) (bytes : List ℕ) (cs : List Condition) (vs : List (List ℕ)) (r : QueryRefusal) → length bytes ≤ most_query_bytes
      → text.IsQuery sys names.symbols bytes cs vs → IsQueryRefused sys names bytes r → ⊥
  text_or_refused sys names bytes cs vs long_query short f h = absurd (omega arith)
  text_or_refused sys names bytes cs vs (no_query_text cause at) short f h = k.never sys names.symbols bytes cs vs cause at f h.1

  refused_once : (sys : System) (names : NameTable) (bytes : List ℕ) (r s : QueryRefusal) → IsQueryRefused sys names bytes r → IsQueryRefused sys names bytes s → r ≡ s
  refused_once sys names bytes long_query long_query h g = refl
  refused_once sys names bytes long_query (no_query_text d to) h g = absurd (omega (arith, g.0))
  refused_once sys names bytes (no_query_text e at) long_query h g = absurd (omega (arith, h.0))
  refused_once sys names bytes (no_query_text e at) (no_query_text d to) h g = let same = k.once sys names.symbols bytes e d at to h.1 g.1 in ap₂ no_query_text same.0 same.1

  module _ (sys other : System) (names others : NameTable) (e : sys ≡ other) (f : names ≡ others) where
    one_text : (cs ds : List Condition) (vs ws : List (List ℕ)) → SpellsQuery (Told query) sys names cs vs → SpellsQuery (told_or_any query) other others ds ws → (cs ≡ ds) × (vs ≡ ws)
    one_text cs ds vs ws x y =
        k.one other others.symbols x.0 cs ds vs ws (subst₂ (λ s n. text.IsQuery s n.symbols x.0 cs vs) e f x.3)
        (subst (λ b. text.IsQuery other others.symbols b ds ws) (same_bytes query x.0 y.0 x.1 y.1) y.3)

    text_or_none : (cs : List Condition) (vs : List (List ℕ)) (r : QueryRefusal) → SpellsQuery (Told query) sys names cs vs → IsRefusedQuery (told_or_any query) other others r → ⊥
    text_or_none cs vs r x y =
        text_or_refused other others x.0 cs vs r x.2 (subst₂ (λ s n. text.IsQuery s n.symbols x.0 cs vs) e f x.3)
        (subst (λ b. IsQueryRefused other others b r) (same_bytes query x.0 y.0 x.1 y.1) y.2)

    none_or_text : (cs : List Condition) (vs : List (List ℕ)) (r : QueryRefusal) → IsRefusedQuery (Told query) sys names r → SpellsQuery (told_or_any query) other others cs vs → ⊥
    none_or_text cs vs r x y =
        text_or_refused other others y.0 cs vs r y.2 y.3
        (subst (λ b. IsQueryRefused other others b r) (sym (same_bytes query x.0 y.0 x.1 y.1)) (subst₂ (λ s n. IsQueryRefused s n x.0 r) e f x.2))

    one_refusal : (r s : QueryRefusal) → IsRefusedQuery (Told query) sys names r → IsRefusedQuery (told_or_any query) other others s → r ≡ s
    one_refusal r s x y =
        refused_once other others x.0 r s (subst₂ (λ t n. IsQueryRefused t n x.0 r) e f x.2) (subst (λ b. IsQueryRefused other others b s) (same_bytes query x.0 y.0 x.1 y.1) y.2)

  -- what is found is held and good
  found_or_none : (sys : System) (cs : List Condition) (a : QueryAnswer) (n : ℕ) → HoldsNoAnswer sys cs → (query_space sys cs).Finds a n → ⊥
  found_or_none sys cs a n none f = let h = (k.searchable sys cs).searched.held a n f in none a h.0 h.1

  within_or_dearer : (sys : System) (cs : List Condition) (a : QueryAnswer) (n : ℕ) → (query_space sys cs).Finds a n → n ≤ budget → IsDearer (query_space sys cs) budget → ⊥
  within_or_dearer sys cs a n f le dear = let more = dear n (inl (a, f)) in omega (arith, more)

  searched_or_dearer : (sys : System) (cs : List Condition) (n : ℕ) → HoldsNoAnswer sys cs → (query_space sys cs).Costs n → n ≤ budget → IsDearer (query_space sys cs) budget → ⊥
  searched_or_dearer sys cs n none costs le dear =
      let barren : IsBarren (query_space sys cs) = λ a m f. found_or_none sys cs a m none f in
      let more = dear n (inr (barren, costs)) in omega (arith, more)

  abbrev Here : System → NameTable → List Condition → List (List ℕ) → Type 0
  Here sys names cs vs = Spells (Told file) (Told query) sys names cs vs

  abbrev There : System → NameTable → List Condition → List (List ℕ) → Type 0
  There sys names cs vs = Spells (told_or_any file) (told_or_any query) sys names cs vs

  -- two systems with queries of the same texts are the same
  pub record AreSame (sys other : System) (names others : NameTable) (cs ds : List Condition) (vs ws : List (List ℕ)) : Type 0 where
    pub same_system : sys ≡ other
    pub same_names : names ≡ others
    pub same_conditions : cs ≡ ds
    pub same_variables : vs ≡ ws

  same : (sys other : System) (names others : NameTable) (cs ds : List Condition) (vs ws : List (List ℕ)) → Here sys names cs vs → There other others ds ws → AreSame sys other names others cs ds vs ws
  same sys other names others cs ds vs ws x y =
      let pair = one_pair systems file sys other names others x.system y.system in
      let texts = one_text sys other names others pair.0 pair.1 cs ds vs ws x.conditions y.conditions in
      record { same_system = pair.0; same_names = pair.1; same_conditions = texts.0; same_variables = texts.1 }

  same_answer : (names others : NameTable) (vs ws : List (List ℕ)) (a b : QueryAnswer) → names ≡ others → vs ≡ ws → a ≡ b → answer_found names vs a ≡ answer_found others ws b
  same_answer names others vs ws a b e f g = ap (λ n. answer_found n vs a) e ∙ ap₂ (answer_found others) f g

  one_outcome : (m o : QueryOutcome) → QueryMustComeTo (Told file) (Told query) budget m → QueryComesTo (told_or_any file) (told_or_any query) budget o → m ≡ o
  one_outcome (bad_file r) (bad_file s) x y = ap bad_file (one_refused systems file r s x y)
  one_outcome (bad_file r) (bad_query s) x y = absurd (none_or_spells systems file y.0 y.1 r x y.2)
  one_outcome (bad_file r) (answer_found others ws b) x y = absurd (none_or_spells systems file y.0 others r x y.2.system)
  one_outcome (bad_file r) over_budget x y = absurd (none_or_spells systems file y.0 y.1 r x y.4.system)
  one_outcome (bad_file r) exhausted x y = absurd (none_or_spells systems file y.0 y.1 r x y.4.system)
  one_outcome (bad_query r) (bad_file s) x y = absurd (spells_or_none systems file x.0 x.1 s x.2 y)
  one_outcome (bad_query r) (bad_query s) x y =
      let pair = one_pair systems file x.0 y.0 x.1 y.1 x.2 y.2 in ap bad_query (one_refusal x.0 y.0 x.1 y.1 pair.0 pair.1 r s x.3 y.3)
  one_outcome (bad_query r) (answer_found others ws b) x y =
      let pair = one_pair systems file x.0 y.0 x.1 others x.2 y.2.system in absurd (none_or_text x.0 y.0 x.1 others pair.0 pair.1 y.1 ws r x.3 y.2.conditions)
  one_outcome (bad_query r) over_budget x y =
      let pair = one_pair systems file x.0 y.0 x.1 y.1 x.2 y.4.system in absurd (none_or_text x.0 y.0 x.1 y.1 pair.0 pair.1 y.2 y.3 r x.3 y.4.conditions)
  one_outcome (bad_query r) exhausted x y =
      let pair = one_pair systems file x.0 y.0 x.1 y.1 x.2 y.4.system in absurd (none_or_text x.0 y.0 x.1 y.1 pair.0 pair.1 y.2 y.3 r x.3 y.4.conditions)
  one_outcome (answer_found names vs a) (bad_file s) x y = absurd (spells_or_none systems file x.0 names s x.3.system y)
  one_outcome (answer_found names vs a) (bad_query s) x y =
      let pair = one_pair systems file x.0 y.0 names y.1 x.3.system y.2 in absurd (text_or_none x.0 y.0 names y.1 pair.0 pair.1 x.1 vs s x.3.conditions y.3)
  one_outcome (answer_found names vs a) (answer_found others ws b) x y =
      let s = same x.0 y.0 names others x.1 y.1 vs ws x.3 y.2 in
      same_answer names others vs ws a b s.same_names s.same_variables
      (((k.searchable y.0 y.1).finds_once a b x.2 y.3.price (subst₂ (λ t c. (query_space t c).Finds a x.2) s.same_system s.same_conditions x.4) y.3.first).1)
  one_outcome (answer_found names vs a) over_budget x y =
      let s = same x.0 y.0 names y.1 x.1 y.2 vs y.3 x.3 y.4 in
      absurd (within_or_dearer y.0 y.2 a x.2 (subst₂ (λ t c. (query_space t c).Finds a x.2) s.same_system s.same_conditions x.4) x.5 y.5)
  one_outcome (answer_found names vs a) exhausted x y =
      let s = same x.0 y.0 names y.1 x.1 y.2 vs y.3 x.3 y.4 in
      absurd (found_or_none y.0 y.2 a x.2 y.5 (subst₂ (λ t c. (query_space t c).Finds a x.2) s.same_system s.same_conditions x.4))
  one_outcome exhausted (bad_file s) x y = absurd (spells_or_none systems file x.0 x.1 s x.5.system y)
  one_outcome exhausted (bad_query s) x y =
      let pair = one_pair systems file x.0 y.0 x.1 y.1 x.5.system y.2 in absurd (text_or_none x.0 y.0 x.1 y.1 pair.0 pair.1 x.2 x.3 s x.5.conditions y.3)
  one_outcome exhausted (answer_found others ws b) x y =
      let s = same x.0 y.0 x.1 others x.2 y.1 x.3 ws x.5 y.2 in
      absurd (found_or_none y.0 y.1 b y.3.price (subst₂ HoldsNoAnswer s.same_system s.same_conditions x.6) y.3.first)
  one_outcome exhausted over_budget x y =
      let s = same x.0 y.0 x.1 y.1 x.2 y.2 x.3 y.3 x.5 y.4 in
      absurd (searched_or_dearer y.0 y.2 x.4 (subst₂ HoldsNoAnswer s.same_system s.same_conditions x.6) (subst₂ (λ t c. (query_space t c).Costs x.4) s.same_system s.same_conditions x.7) x.8 y.5)
  one_outcome exhausted exhausted x y = refl
  one_outcome over_budget o x y = absurd x

-- where a query can come to one thing alone and nothing fails, that is the answer
pub query_exactly : KnownSystems → KnownQueries → (run : Run) (file query : List ℕ) (budget : ℕ) (outcome : QueryOutcome) → QueryCalmlyComesTo run file query budget outcome
    → (reply : QueryReply) → IsQueryReply run.shelf file query budget reply → Tells run (said_of_query file query reply) → TellsIfMemory run (said_of_question file query outcome)
query_exactly systems k run file query budget outcome calm (queried o) h told =
    inl (subst (λ p. Tells run (said_of_question file query p)) (sym (one_outcome systems k (run.shelf.contents file) (run.shelf.contents query) budget outcome o calm.1 h.cause)) told)
query_exactly systems k run file query budget outcome calm file_unread h told = absurd (calm.2 h.cause)
query_exactly systems k run file query budget outcome calm query_unread h told = absurd (calm.3 h.cause.0)

-- the status of an answer
pub answered_status : (names : NameTable) (vs : List (List ℕ)) (a : QueryAnswer) (s : Status) → IsUnlessHindered (said_of_answer names vs a).status s
    → IsUnlessHindered status.Yes s ⊎ IsUnlessHindered status.No s
answered_status names vs (never_met e) s h = inl h
answered_status names vs (met_by ts ds) s h = inr h
