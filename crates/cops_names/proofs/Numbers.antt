-- The number of a name, in the map and in the list.
use Rattle.std.proofs.Common.{◌≡◌, ℕ, zero, suc, ◌-◌, ◌<◌, ◌≤◌, arith, map, get_or, Bool, true, false, List, [], ◌∷◌, ◌++◌, length, Option, Some, None, refl, sym, ap, ◌∙◌, Global}
use Rattle.std.specs.Prelude.{String, string_bytes, position, is_some, IsTrue}
use Rattle.std.specs.List.{position_or_len}
use Rattle.std.specs.Str.{bytes_eq}
use Rattle.std.specs.Map.{keys_of}
use Rattle.std.proofs.lemmas.Option.{slice_get-map, slice_get_read}
use Rattle.std.specs.Prelude.{option_map, slice_get}
use Rattle.std.specs.Option.{option_and_then}
use Rattle.std.specs.declared.vec.Vec.{Vec}
use Rattle.cops_names.specs.NamesView.{symbols_of, texts_of}
use Rattle.cops_names.specs.NameTable.{NameTable, number_of, variables_at, variable_at}

abbrev is_name : List ℕ → String Global → Bool
is_name name k = bytes_eq name (string_bytes k)

places : (name : List ℕ) (es : List (String Global × ℕ)) → position_or_len (is_name name) (keys_of es) ≡ position_or_len (λ e. bytes_eq name e.0) (symbols_of es)
places name [] = refl
places name (e ∷ es) = rw (places name es) refl

lengths : (es : List (String Global × ℕ)) → length (keys_of es) ≡ length (symbols_of es)
lengths [] = refl
lengths (e ∷ es) = ap suc (lengths es)

pub numbers : (name : List ℕ) (es : List (String Global × ℕ)) → position (is_name name) (keys_of es) ≡ number_of (symbols_of es) name
numbers name es = rw (places name es, lengths es) refl

pub symbols_push : (es : List (String Global × ℕ)) (k : String Global) (n : ℕ) → symbols_of (es ++ (k, n) ∷ []) ≡ symbols_of es ++ (string_bytes k, n) ∷ []
symbols_push [] k n = refl
symbols_push (e ∷ es) k n = ap (λ (w : List (List ℕ × ℕ)). (string_bytes e.0, e.1) ∷ w) (symbols_push es k n)

pub none_is : {A : Type 0} (o : Option A) → is_some o ≡ false → o ≡ None
none_is None e = refl
none_is (Some x) e = absurd cc

pub none_or : (o n : Option ℕ) → o ≡ n → is_some o ≡ false → (IsTrue true → n ≡ None) × (n ≡ None → IsTrue true)
none_or o n e s = (λ _. sym e ∙ none_is o s, λ _. refl)

pub some_or : (o n : Option ℕ) → o ≡ n → is_some o ≡ true → (IsTrue false → n ≡ None) × (n ≡ None → IsTrue false)
some_or None n e s = absurd cc
some_or (Some x) n e s = (λ f. absurd cc, λ m. absurd (let all : Some x ≡ None = e ∙ m in cc))

-- a rule's list of names, from its place in the `Vec`
pub list_at : (names : NameTable) (rule at : ℕ) → 1 ≤ rule → at ≡ rule - 1 → variables_at names rule ≡ slice_get names.variables at
list_at names zero at h e = absurd (omega arith)
list_at names (suc n) at h e = let same : n ≡ at = omega arith in ap (slice_get names.variables) same

pub name_in : (names : NameTable) (rs : List (Vec (String Global) Global)) (rule at k : ℕ) (v : Vec (String Global) Global) → names.variables ≡ map (λ w. texts_of w.items) rs
    → 1 ≤ rule → at ≡ rule - 1 → at < length rs → v ≡ get_or rs at v → variable_at names rule k ≡ slice_get (texts_of v.items) k
name_in names rs rule at k v is low place within here =
    let there : slice_get rs at ≡ Some v = slice_get_read rs (length rs) at v refl within here in
    let list : variables_at names rule ≡ Some (texts_of v.items) =
    list_at names rule at low place
    ∙ ap (λ (xs : List (List (List ℕ))). slice_get xs at) is
    ∙ slice_get-map (λ (w : Vec (String Global) Global). texts_of w.items) rs at
    ∙ ap (option_map (λ (w : Vec (String Global) Global). texts_of w.items)) there in
    ap (option_and_then (λ (xs : List (List ℕ)). slice_get xs k)) list

-- the arities, in the map and in the list
pub arities_are : (es : List (String Global × ℕ)) → map (λ s. s.1) (symbols_of es) ≡ map (λ e. e.1) es
arities_are [] = refl
arities_are (e ∷ es) = ap (λ (w : List ℕ). e.1 ∷ w) (arities_are es)
