-- The words that are not taken yet.
use Rattle.std.specs.Prelude.{◌≤◌, List, drop, length}
use Rattle.ari_text.specs.declared.reader.Reader.TheInside.{Inside}
use Rattle.ari_text.specs.Signs.{Sign, signs_of}

abbrev pub reader_view : Inside → List Sign
reader_view r = drop r.at (signs_of r.words.items)

abbrev pub IsWithin : Inside → Type 0
IsWithin r = r.at ≤ length r.words.items
