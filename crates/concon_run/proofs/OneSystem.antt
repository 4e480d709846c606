-- A text is that of one system, or is refused once, and never both.
use Rattle.std.proofs.Common.{◌≡◌, ◌≤◌, ℕ, List, length, Option, Some, None, refl, sym, ap₂, ◌∙◌, subst, arith}
use Rattle.rewriting.specs.Rules.{System}
use Rattle.cops_names.specs.NameTable.{NameTable}
use Rattle.cops_read.specs.File.{IsFile}
use Rattle.cops_read.specs.Answers.{OneSystem, OneRefusal, NeverSystemAndRefusal}
use Rattle.run_parts.specs.Bytes.{most_file_bytes, Bytes, told_or_any, SpellsSystem}
use Rattle.concon_run.specs.FileRefusals.{FileRefusal, long_file, no_system_text, IsFileRefused}
use Rattle.concon_run.specs.Systems.{IsRefusedFile}

pub same_bytes : (told : Option (List ℕ)) (a b : List ℕ) → told ≡ Some a → told_or_any told b → b ≡ a
same_bytes None a b e h = absurd cc
same_bytes (Some c) a b e h = (let f : c ≡ a = cc in h ∙ f)

abbrev pub Told : Option (List ℕ) → Bytes
Told told bytes = told ≡ Some bytes

-- what is known of the texts of systems
pub record KnownSystems : Type 0 where
  pub one : OneSystem
  pub once : OneRefusal
  pub never : NeverSystemAndRefusal

module _ (k : KnownSystems) (file : Option (List ℕ)) where
  file_bytes : (a b : List ℕ) (sys : System) (names : NameTable) → file ≡ Some a → told_or_any file b → IsFile b sys names → IsFile a sys names
  file_bytes a b sys names e h f = subst (λ x. IsFile x sys names) (same_bytes file a b e h) f

  pub one_pair : (sys other : System) (names others : NameTable) → SpellsSystem (Told file) sys names → SpellsSystem (told_or_any file) other others → (sys ≡ other) × (names ≡ others)
  one_pair sys other names others x y = k.one x.0 sys other names others x.3 (file_bytes x.0 y.0 other others x.1 y.1 y.3)

  -- a text that spells a system is not refused
  read_or_refused : (bytes : List ℕ) (sys : System) (names : NameTable) (r : FileRefusal) → length bytes ≤ most_file_bytes → IsFile bytes sys names → IsFileRefused bytes r → ⊥
  read_or_refused bytes sys names long_file short f h = absurd (omega arith)
  read_or_refused bytes sys names (no_system_text cause at) short f h = k.never bytes sys names cause at f h.1

  refused_once : (bytes : List ℕ) (r s : FileRefusal) → IsFileRefused bytes r → IsFileRefused bytes s → r ≡ s
  refused_once bytes long_file long_file h g = refl
  refused_once bytes long_file (no_system_text d to) h g = absurd (omega (arith, g.0))
  refused_once bytes (no_system_text e at) long_file h g = absurd (omega (arith, h.0))
  refused_once bytes (no_system_text e at) (no_system_text d to) h g = let same = k.once bytes e d at to h.1 g.1 in ap₂ no_system_text same.0 same.1

  pub spells_or_none : (sys : System) (names : NameTable) (r : FileRefusal) → SpellsSystem (Told file) sys names → IsRefusedFile (told_or_any file) r → ⊥
  spells_or_none sys names r x y = read_or_refused x.0 sys names r x.2 x.3 (subst (λ b. IsFileRefused b r) (same_bytes file x.0 y.0 x.1 y.1) y.2)

  pub none_or_spells : (sys : System) (names : NameTable) (r : FileRefusal) → IsRefusedFile (Told file) r → SpellsSystem (told_or_any file) sys names → ⊥
  none_or_spells sys names r x y =
      read_or_refused y.0 sys names r y.2 y.3 (subst (λ b. IsFileRefused b r) (sym (same_bytes file x.0 y.0 x.1 y.1)) x.2)

  pub one_refused : (r s : FileRefusal) → IsRefusedFile (Told file) r → IsRefusedFile (told_or_any file) s → r ≡ s
  one_refused r s x y = refused_once x.0 r s x.2 (subst (λ b. IsFileRefused b s) (same_bytes file x.0 y.0 x.1 y.1) y.2)
