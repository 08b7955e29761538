-- The texts of names.
use Rattle.std.specs.Prelude.{ℕ, List, string_bytes}
use Rattle.pc_tree.specs.declared.text.Text.{Text}
use Rattle.pc_tree.specs.declared.text.Text.TheVariants as rust_text

-- the bytes of a text, short or long
abbrev pub text_bytes : Text → List ℕ
text_bytes (rust_text.Short t) = t.bytes
text_bytes (rust_text.Long t) = string_bytes t
