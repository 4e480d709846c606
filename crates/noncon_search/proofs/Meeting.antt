-- One end more: those of which it is said that their caps clash with none before, do not clash with one.
use Rattle.std.proofs.Common.{ℕ, ◌≡◌, ◌+◌, ◌<◌, true, List, [], ◌∷◌, ◌++◌, length, get_or, drop, append_assoc, sym, ap, ◌∙◌, subst}
use Rattle.std.proofs.lemmas.List.{map-append}
use Rattle.rewriting.specs.Rules.{System}
use Rattle.term_core.specs.View.{view}
use Rattle.reach_lists.specs.Laws.{EachOf}
use Rattle.reach_lists.specs.Solutions.{Reached}
use Rattle.reach_lists.proofs.Each.{each_append, each_to}
use Rattle.reach.specs.Parts.{DoAllFit}
use Rattle.reach.specs.EntryView.{entry_view, table_view}
use Rattle.reach.specs.declared.listed.Entry as program
use Rattle.general_lemmas.proofs.Places.{map-drop_read}
use Rattle.noncon_search.specs.declared.overlay.Overlay.{Overlay}
use Rattle.noncon_search.specs.declared.ends.End.{End}
use Rattle.noncon_search.specs.Ends.{end_view, ends_view, IsEnd, NeverClash, AreMet}
use Rattle.noncon_search.specs.Laying.{IsUnder, IsLaid}
use Rattle.noncon_search.proofs.Clashing.{never_met}

module _ (sys : System) (before after : Overlay) (e : End) (end : IsEnd sys e) (laid : IsLaid before after e.cap e.is_met) where
  meets_each : (es : List End) → EachOf (IsEnd sys) es → EachOf (λ x. IsUnder before x.cap) es → EachOf (λ x. e.is_met ≡ true → NeverClash sys x e) es
  meets_each [] h k = tt
  meets_each (x ∷ es) (h, hs) (k, ks) =
      (λ said. never_met sys (view x.listed.now.term) (view e.listed.now.term) x.cap e.cap h.capped end.capped (laid.met said x.cap k), meets_each es hs ks)

  met_with : (es : List End) → AreMet sys es → EachOf (λ x. e.is_met ≡ true → NeverClash sys x e) es → AreMet sys (es ++ e ∷ [])
  met_with [] h k = (tt, tt)
  met_with (x ∷ es) (h, hs) (k, ks) = (each_append (λ y. y.is_met ≡ true → NeverClash sys x y) es (e ∷ []) h (k, tt), met_with es hs ks)

  pub one_more_met : (es : List End) → EachOf (IsEnd sys) es → EachOf (λ x. IsUnder before x.cap) es → AreMet sys es → AreMet sys (es ++ e ∷ [])
  one_more_met es ends under met = met_with es met (meets_each es ends under)

  pub one_more_under : (es : List End) → EachOf (λ x. IsUnder before x.cap) es → EachOf (λ x. IsUnder after x.cap) (es ++ e ∷ [])
  one_more_under es under =
      each_append (λ x. IsUnder after x.cap) es (e ∷ []) (each_to (λ x. IsUnder before x.cap) (λ x. IsUnder after x.cap) (λ x h. laid.kept x.cap h) es under) (laid.added, tt)

  pub one_more_end : (es : List End) → EachOf (IsEnd sys) es → EachOf (IsEnd sys) (es ++ e ∷ [])
  one_more_end es ends = each_append (IsEnd sys) es (e ∷ []) ends (end, tt)

-- a list of terms that the ends stand for, one end more
module _ (list : List program.Entry) (i : ℕ) (r : program.Entry) (low : i < length list) (here : r ≡ get_or list i r) where
  pub one_more_listed : (es : List End) (e : End) → e.listed.now ≡ r → ends_view es ++ table_view (drop i list) ≡ table_view list
      → ends_view (es ++ e ∷ []) ++ table_view (drop (i + 1) list) ≡ table_view list
  one_more_listed es e is all =
      ap (λ (z : List Reached). z ++ table_view (drop (i + 1) list)) (map-append end_view es (e ∷ [])) ∙ append_assoc (ends_view es) (end_view e ∷ []) (table_view (drop (i + 1) list))
      ∙ ap (λ (z : List Reached). ends_view es ++ z) (ap (λ x. entry_view x ∷ table_view (drop (i + 1) list)) is ∙ sym (map-drop_read entry_view list i r low here)) ∙ all

  pub rest_fit : DoAllFit (table_view (drop i list)) → DoAllFit (table_view (drop (i + 1) list))
  rest_fit fit = (subst DoAllFit (map-drop_read entry_view list i r low here) fit).1
