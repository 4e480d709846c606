use Rattle.std.proofs.Common.{refl, subst}
use Rattle.file_text.specs.Syntax.{FileTree}
use Rattle.cops_syntax.specs.View.{names_view}
use Rattle.ari_text.specs.Signs.{signs_of}
use Rattle.ari_text.specs.Functions.{AreUndeclared}
use Rattle.ari_text.proofs.Written.{plain_system, is_written}
use Rattle.ari_text.proofs.ari_to_cops.Goals as goal

pub read_file-requires : goal.read_file-requires
read_file-requires c = (
  record { condition_type = c.condition_type.result; variables = names_view c.read_parts.new.scope.variables.items; rules = c.in_ok-rules.ensures.trees },
  record { condition_type = refl; variables = refl; rules = c.in_ok-rules.ensures.are },
)

pub returns : goal.returns
returns c =
    let tree : FileTree = record { condition_type = c.condition_type.result; variables = names_view c.read_parts.new.scope.variables.items; rules = c.in_ok-rules.ensures.trees } in
    is_written c.args.bytes.now c.in_ok-text.text.items (signs_of c.in_ok-read_words.field-0.items) c.in_ok-format.format c.read_parts.new.scope.functions.symbols tree
    c.in_ok-sys.sys c.in_ok-sys.names
    c.in_ok-read_words.ensures (c.read_format.new.reader, rw c.new-reader.ensures at c.in_ok-format.ensures, c.in_ok-rules.ensures.words) c.condition_type.ensures
    (plain_system c.in_ok-format.format tree c.in_ok-sys.sys c.in_ok-sys.names c.condition_type.ensures
    (c.in_ok-sys.ensures tree record { condition_type = refl; variables = refl; rules = c.in_ok-rules.ensures.are }))
    (subst (λ ns. AreUndeclared c.read_parts.new.scope.functions.symbols (names_view ns)) c.deref.ensures.value c.in_ok-check_variables.ensures) c.in_ok-check_symbols.ensures c.in_ok-text.ensures

pub write_text-requires : goal.write_text-requires
write_text-requires c =
    let tree : FileTree = record { condition_type = c.condition_type.result; variables = names_view c.read_parts.new.scope.variables.items; rules = c.in_ok-rules.ensures.trees } in (
      tree,
      plain_system c.in_ok-format.format tree c.in_ok-sys.sys c.in_ok-sys.names c.condition_type.ensures
          (c.in_ok-sys.ensures tree record { condition_type = refl; variables = refl; rules = c.in_ok-rules.ensures.are }),
    )
