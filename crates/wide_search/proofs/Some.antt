-- Some of the ends of a list are ends.
use Rattle.std.proofs.Common.{◌≡◌, List, [], ◌∷◌, ◌++◌}
use Rattle.std.specs.Prelude.{false}
use Rattle.std.proofs.lemmas.Bool.{or_parts, or_from}
use Rattle.rewriting.specs.Prelude.{Term, System, is_same}
use Rattle.certificates.specs.Judging.{Derives}
use Rattle.reach_lists.specs.Lists.{is_listed}
use Rattle.reach_lists.specs.Laws.{EachOf, IsWithoutRepetition}
use Rattle.reach_lists.specs.Solutions.{Reached}
use Rattle.noncon_search.specs.declared.ends.End.{End}
use Rattle.noncon_search.specs.Ends.{end_view, ends_view, IsEnd, AreMet, AreEnds}

each_without : {A : Type 0} (P : A → Type 0) (before : List A) (x : A) (rest : List A) → EachOf P (before ++ x ∷ rest) → EachOf P (before ++ rest)
each_without P [] x rest (h, hs) = hs
each_without P (y ∷ before) x rest (h, hs) = (h, each_without P before x rest hs)

derived_without : (P : Reached → Type 0) (before : List End) (x : End) (rest : List End) → EachOf P (ends_view (before ++ x ∷ rest)) → EachOf P (ends_view (before ++ rest))
derived_without P [] x rest (h, hs) = hs
derived_without P (y ∷ before) x rest (h, hs) = (h, derived_without P before x rest hs)

unlisted_without : (u : Term) (before : List End) (x : End) (rest : List End) → is_listed u (ends_view (before ++ x ∷ rest)) ≡ false → is_listed u (ends_view (before ++ rest)) ≡ false
unlisted_without u [] x rest h = (or_parts (is_same (end_view x).term u) (is_listed u (ends_view rest)) h).1
unlisted_without u (y ∷ before) x rest h =
    let no = or_parts (is_same (end_view y).term u) (is_listed u (ends_view (before ++ x ∷ rest))) h in
    or_from (is_same (end_view y).term u) (is_listed u (ends_view (before ++ rest))) no.0 (unlisted_without u before x rest no.1)

once_without : (before : List End) (x : End) (rest : List End) → IsWithoutRepetition (ends_view (before ++ x ∷ rest)) → IsWithoutRepetition (ends_view (before ++ rest))
once_without [] x rest (h, hs) = hs
once_without (y ∷ before) x rest (h, hs) = (unlisted_without (end_view y).term before x rest h, once_without before x rest hs)

module _ (sys : System) where
  met_without : (before : List End) (x : End) (rest : List End) → AreMet sys (before ++ x ∷ rest) → AreMet sys (before ++ rest)
  met_without [] x rest (h, hs) = hs
  met_without (y ∷ before) x rest (h, hs) = (each_without _ before x rest h, met_without before x rest hs)

  -- without one of them
  pub without : (t : Term) (before : List End) (x : End) (rest : List End) → AreEnds sys t (before ++ x ∷ rest) → AreEnds sys t (before ++ rest)
  without t before x rest h = record {
    each = each_without (IsEnd sys) before x rest h.each;
    met = met_without before x rest h.met;
    derived = derived_without (λ r. Derives sys [] t r.by r.term) before x rest h.derived;
    once = once_without before x rest h.once;
  }
