-- Terms that two lists share, found by an index of one of them.
use Rattle.std.specs.Prelude.{ℕ, ◌≡◌, false, List, ◌∷◌, ◌++◌, map, Option, None, Some, Result, Ok, Err, Vec}
use Rattle.std.specs.Borrow.{Bor}
use Rattle.std.specs.Global.{Global}
use Rattle.rewriting.specs.Prelude.{Term, System}
use Rattle.unifier_run.specs.Overlaps.{Overlap}
use Rattle.term_core.specs.View.{view}
use Rattle.term_core.specs.declared.terms.NoMemory.{NoMemory}
use Rattle.cert_model.specs.declared.evidence.PairEvidence.{PairEvidence}
use Rattle.cc_count.specs.Counts.{Counts}
use Rattle.cc_count.specs.declared.Sought.{Sought}
use Rattle.reach_lists.specs.Solutions as math
use Rattle.reach_lists.specs.Laws.{EachOf}
use Rattle.reach_lists.specs.Lists.{is_listed}
use Rattle.search_spaces.specs.Listings.{listing}
use Rattle.pair_search.specs.Answers.{WalkAnswers}
use Rattle.quasi_space.specs.QuasiItems.{quasi_item_cost, GivesQuasi, joins}
use Rattle.reach.specs.Keys.{cells}
use Rattle.reach.specs.EntryView.{entry_view}
use Rattle.reach.specs.declared.listed.Entry.{Entry}

-- the entries are the listed terms in order, each under its key
pub record IsIndexOf (list : List math.Reached) (entries : List (Vec ℕ Global × Bor Entry)) : Type 0 where
  pub all : map (λ e. entry_view e.1.now) entries ≡ list
  pub keyed : EachOf (λ e. e.0.items ≡ cells (view e.1.now.term)) entries

-- the first listed term that is t
pub record IsFirstListed (list : List math.Reached) (t : Term) (y : math.Reached) : Type 0 where
  pub before : List math.Reached
  pub behind : List math.Reached
  pub split : list ≡ before ++ y ∷ behind
  pub is_term : y.term ≡ t
  pub none_before : is_listed t before ≡ false

abbrev pub FindAnswers : List math.Reached → Term → Option (Bor Entry) → Type 0
FindAnswers list t (Some y) = IsFirstListed list t (entry_view y.now)
FindAnswers list t None = is_listed t list ≡ false

-- no term of the first list is on the second
abbrev pub ShareNone : List math.Reached → List math.Reached → Type 0
ShareNone xs ys = EachOf (λ x. is_listed x.term ys ≡ false) xs

-- x is the first term of xs that is on ys, and y is the first of ys that is this term
pub record IsFirstShared (xs ys : List math.Reached) (x y : math.Reached) : Type 0 where
  pub earlier : List math.Reached
  pub later : List math.Reached
  pub left : xs ≡ earlier ++ x ∷ later
  pub none_earlier : ShareNone earlier ys
  pub right : IsFirstListed ys x.term y

-- the first shared term; or there is none
abbrev pub SharedAnswers : List math.Reached → List math.Reached → Result (Option (Bor Entry × Bor Entry)) NoMemory → Type 0
SharedAnswers xs ys (Ok (Some p)) = IsFirstShared xs ys (entry_view p.0.now) (entry_view p.1.now)
SharedAnswers xs ys (Ok None) = ShareNone xs ys
SharedAnswers xs ys (Err e) = Unit {0}

-- in the listings of the sides of an overlap: what the first of their joins gives, for nothing
abbrev pub JoinAnswers : List math.Reached → List math.Reached → Result (Sought PairEvidence) NoMemory → Type 0
JoinAnswers left right r =
    (sys : System) (o : Overlap) (a : Counts) → left ≡ listing sys o.pair.conditions o.pair.left → right ≡ listing sys o.pair.conditions o.pair.right
    → WalkAnswers quasi_item_cost (GivesQuasi sys o) (joins (listing sys o.pair.conditions o.pair.left) (listing sys o.pair.conditions o.pair.right)) a a r
