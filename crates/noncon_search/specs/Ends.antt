-- The listed terms of a start, as the ends of peaks.
use Rattle.std.specs.Prelude.{◌≡◌, ◌⊎◌, ◌^◌, true, false, List, [], ◌∷◌, map, IfSome}
use Rattle.rewriting.specs.Prelude.{Term, var, Fits, System}
use Rattle.unifier_run.specs.Run.{clash}
use Rattle.caps.specs.Caps.{kept, IsCapLarge}
use Rattle.caps.specs.Evidence.{IsRigidOutcome}
use Rattle.tcap_infeasible.specs.Made.{IsMadeCap}
use Rattle.certificates.specs.Judging.{Derives}
use Rattle.valid_certificates.specs.Peaks.{RedexPlace, MatchesAt}
use Rattle.first_found.specs.Rows.{HasNone}
use Rattle.reach_lists.specs.Solutions.{Reached}
use Rattle.reach_lists.specs.Laws.{EachOf, IsWithoutRepetition}
use Rattle.reach.specs.EntryView.{entry_view}
use Rattle.search_spaces.specs.PeakItems.{IsFirstRefuted}
use Rattle.term_core.specs.View.{view}
use Rattle.noncon_search.specs.declared.ends.End.{End}

abbrev pub end_view : End → Reached
end_view e = entry_view e.listed.now

abbrev pub ends_view : List End → List Reached
ends_view es = map end_view es

-- a rule matches somewhere in the term, and no evidence that is tried for that is valid
pub record IsOpen (sys : System) (t : Term) : Type 0 where
  pub place : RedexPlace
  pub matches : MatchesAt sys t place.position place.rule
  pub none : HasNone (IsFirstRefuted sys t t) place

-- what is compared for the rigid cap of a term: the cap with holes from 2^31 on, or a hole where there is none
abbrev pub StandsForCap : System → Term → Term → Type 0
StandsForCap sys t u = IsMadeCap sys (2 ^ 31) t u ⊎ (IsCapLarge sys kept t × (u ≡ var (2 ^ 31)))

-- the listed term fits; it is open where it does not count as refuted, and what was made stands for its rigid cap
pub record IsEnd (sys : System) (e : End) : Type 0 where
  pub fits : Fits (view e.listed.now.term)
  pub is_open : e.is_refuted ≡ false → IsOpen sys (view e.listed.now.term)
  pub capped : IfSome e.cap (λ u. StandsForCap sys (view e.listed.now.term) (view u))

-- the rigid caps of two ends do not clash
abbrev pub NeverClash : System → End → End → Type 0
NeverClash sys x y = IsRigidOutcome sys (view x.listed.now.term) (view y.listed.now.term) clash → ⊥

-- where it is said of an end, its rigid cap clashes with none of an earlier one
abbrev pub AreMet : System → List End → Type 0
AreMet sys [] = Unit {0}
AreMet sys (x ∷ es) = EachOf (λ y. y.is_met ≡ true → NeverClash sys x y) es × AreMet sys es

-- the ends are derived from the start, and no term is there twice
pub record AreEnds (sys : System) (start : Term) (es : List End) : Type 0 where
  pub each : EachOf (IsEnd sys) es
  pub met : AreMet sys es
  pub derived : EachOf (λ r. Derives sys [] start r.by r.term) (ends_view es)
  pub once : IsWithoutRepetition (ends_view es)
