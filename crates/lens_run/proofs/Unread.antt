-- What is said where a file is not read, or refused.
use Rattle.std.proofs.Common.{◌≡◌, ◌⊎◌, ℕ, ◌<◌, ◌≤◌, List, length, Option, Some, None, Err, refl, inl, inr, subst}
use Rattle.std.specs.Prelude.{IfSome, IsErrOf, option_map}
use Rattle.cc_io.specs.Faults.{Rose}
use Rattle.cops_names.specs.NameTable.{NameTable}
use Rattle.cc_io.specs.Errors.{IsTooLong}
use Rattle.cc_io.specs.declared.shelf.ReadAllError.{ReadAllError}
use Rattle.cc_io.specs.declared.shelf.ReadAllError.TheVariants.{ReadFault, TooLong, NoMemory}
use Rattle.run_parts.specs.Bytes.{told_or_any}
use Rattle.run_parts.proofs.Faults.{rose_since}
use Rattle.run_parts.proofs.LongTexts.{long_text}
use Rattle.lens_run.specs.Runs.{IsTooLongSaid, IsPlaced, IsSaidUnread, IsSaidRefused, IsHindered, NoCertSaid}
use Rattle.lens_run.specs.Said.{Said}
use Rattle.lens_run.specs.declared.status.Status.{Status}

-- it is a refusal of a text that is too long, or the shelf failed, or memory was refused
pub unread : {A : Type 0} (told : Option (List ℕ)) (limit : ℕ) (failed : Type 0) (s : Status) (name : List ℕ) (said : Said) (e : ReadAllError) → (IsErrOf {T = A} (Err e) ReadFault → failed)
    → (IsTooLong e → IfSome told (λ bytes. limit < length bytes)) → IsSaidUnread s name e said
    → ((bytes : List ℕ) × told_or_any told bytes × (limit < length bytes) × IsTooLongSaid s name said) ⊎ IsHindered failed name said
unread told limit failed s name said ReadFault fault long (inl e) = inr (inl (fault refl, e))
unread told limit failed s name said ReadFault fault long (inr e) = inr (inr e)
unread told limit failed s name said (TooLong n) fault long (inl e) = let l = long_text told limit (long tt) in inl (l.0, l.1, l.2, e)
unread told limit failed s name said (TooLong n) fault long (inr e) = inr (inr e)
unread told limit failed s name said NoMemory fault long e = inr (inr e)

-- it is a refusal for a cause at a place, or memory was refused
pub refused : {C : Type 0} (words : C → List ℕ) (Refused : C → ℕ → Type 0) (failed : Type 0) (s : Status) (name bytes : List ℕ) (said : Said) (o : Option (C × ℕ))
    → IfSome o (λ r. Refused r.0 r.1) → IsSaidRefused s name bytes (option_map (λ r. (r.1, words r.0)) o) said
    → ((cause : C) × (at : ℕ) × Refused cause at × IsPlaced s name bytes at (words cause) said) ⊎ IsHindered failed name said
refused words Refused failed s name bytes said (Some r) h (inl placed) = inl (r.0, r.1, h, placed)
refused words Refused failed s name bytes said (Some r) h (inr e) = inr (inr e)
refused words Refused failed s name bytes said None h e = inr (inr e)

-- what is said of a certificate that is read later holds of the shelf as it was before
pub cert_since : (before between : List ℕ → Option (List ℕ)) (names : NameTable) (cert : List ℕ) (said : Said) (first second third : ℕ) → between ≡ before → first ≤ second
    → NoCertSaid (told_or_any (between cert)) names (Rose second third) cert said → NoCertSaid (told_or_any (before cert)) names (Rose first third) cert said
cert_since before between names cert said first second third same le none = earlier (subst (λ told. NoCertSaid (told_or_any (told cert)) names (Rose second third) cert said) same none)
  where
    earlier : NoCertSaid (told_or_any (before cert)) names (Rose second third) cert said → NoCertSaid (told_or_any (before cert)) names (Rose first third) cert said
    earlier (inl refused) = inl refused
    earlier (inr (inl fault)) = inr (inl (rose_since first second third le fault.0, fault.1))
    earlier (inr (inr none)) = inr (inr none)
