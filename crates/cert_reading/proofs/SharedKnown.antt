-- What is known behind the shared automata: their texts, each of them once.
use Rattle.cert_reading.proofs.Prelude.{◌≡◌, ℕ, List, [], ◌∷◌, length, codes, None, sym, ap, ◌∙◌, subst, Automaton, NameTable, name_of, second_version, Mark, fixed, shared_automata}
use Rattle.cert_reading.proofs.Prelude.{marks_text, number_for, automata_marks, texts_of, AllNew, AreAutomata, Shared, behind_marks, PassShares, Item, still_marks, pass_split}
use Rattle.cert_reading.proofs.Prelude.{behind_both, marked_texts, meets_automata, Reading, walks_pass, shared_marks, ArePlainAutomata, AreShared, Place}
use Rattle.cert_reading.proofs.Prelude.{ReadsWhere}
use Rattle.cert_reading.proofs.Found.{walks_named, automata_within}
use Rattle.cert_reading.proofs.Stopping.{open_before_where, ran}
use Rattle.cert_reading.proofs.UseReads.{run_shorter}
use Rattle.cert_sharing.proofs.SpeltShares.{marked_are}
use Rattle.cert_sharing.proofs.UseMarks.{state}

abbrev count_line : List Automaton → List Mark
count_line all = fixed (codes "shared ") ∷ number_for shared_automata (length all) ∷ fixed (codes "\n") ∷ []

pub known_now : {P : Place} {names : NameTable} {end : ℕ} {from to : List Item} {s t : Reading} (all : List Automaton) → (t.refused ≡ None → ArePlainAutomata all)
    → AreShared second_version names [] end s → ReadsWhere P names end from (λ u. shared_marks u all) to s t → AreShared second_version names all end t
known_now {P} {names} {end} {from} {to} {s} {t} all plain h x = λ none.
    let was = open_before_where x none in
    let known = h was in
    let r = ran was none x in
    let z = s.shares in
    let w = r.walks known.0 [] in
    let ms = shared_marks (name_of names) all in
    let are : AreAutomata names all = automata_within all names (plain none) (record { named = walks_named names ms _ _ w; passed = (walks_pass names ms _ _ w).1.1.1; found = r.found }) in
    let texts : marked_texts (name_of names) all ≡ texts_of names all = marked_are all names are in
    let line = marks_text (count_line all) in
    let fresh : behind_marks (count_line all) (state z.texts [] z.used z.unfolds_to) ≡ state [] line z.used z.unfolds_to =
    still_marks (count_line all) z.texts [] z.used z.unfolds_to (tt, (tt, (tt, tt))) ∙ ap (λ (ts : List (List ℕ)). state ts line z.used z.unfolds_to) known.1.1 in
    let keeps = r.shares known.0 [] in
    let parts = pass_split (count_line all) (automata_marks (name_of names) all) (state z.texts [] z.used z.unfolds_to) keeps.0 in
    let after = meets_automata all (name_of names) [] line z.used z.unfolds_to in
    let new = after.1.into (subst (λ (y : Shared). PassShares y (automata_marks (name_of names) all)) fresh parts.1) in
    let there = behind_both (count_line all) (automata_marks (name_of names) all) (state z.texts [] z.used z.unfolds_to) ∙ ap (behind_marks (automata_marks (name_of names) all)) fresh
    ∙ after.1.after in (
      run_shorter names end from to (λ u. shared_marks u all) s.left.now t.left.now z t.shares known.0 r,
      (subst (AllNew []) texts new, sym (ap (λ (y : Shared). y.texts) keeps.1) ∙ ap (λ (y : Shared). y.texts) there ∙ texts),
    )
