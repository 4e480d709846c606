-- The laws of files.
use Rattle.cops_read.specs.File.{no_tokens, no_tree, no_meaning}
use Rattle.cops_read.specs.Answers.{SystemsAreSound, SystemsAreWithinLimits, SymbolsAreNamed, SystemsTellTheirFile, RefusalsAreWithin}
use Rattle.file_text.proofs.Within.{no_tokens_within, no_text_within}
use Rattle.cops_read.proofs.Meant.{meant_is_system, meant_from_file}
use Rattle.cops_read.proofs.Named.{meant_arities}
use Rattle.cops_read.proofs.Kept.{kept}
use Rattle.cops_read.proofs.Places.{means_nothing_within}

pub sound : SystemsAreSound
sound bytes sys names h = meant_is_system h.tree sys names h.meant

pub within_limits : SystemsAreWithinLimits
within_limits bytes sys names h = kept h.tree sys names h.meant

pub named : SymbolsAreNamed
named bytes sys names h = meant_arities h.tree sys names h.meant

pub told : SystemsTellTheirFile
told bytes sys names h = meant_from_file h.tree sys names h.meant

pub refusals_within : RefusalsAreWithin
refusals_within bytes (no_tokens cause) at h = no_tokens_within bytes cause at h
refusals_within bytes (no_tree cause) at h = no_text_within bytes cause at h
refusals_within bytes (no_meaning cause) at h = means_nothing_within bytes cause at h
