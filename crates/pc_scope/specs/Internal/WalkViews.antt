-- The values that the walks over a module hold, as the definitions see them.
pub use Rattle.pc_tree.specs.Lists.{name_seen}
use Rattle.std.specs.Prelude.{ℕ, List, [], ◌∷◌, ◌++◌, ◌||◌, map, if◌then◌else◌, Option, Some, None, bytes_eq, String}
use Rattle.std.specs.Prelude.{string_bytes, Vec}
use Rattle.std.specs.Global.{Global}
use Rattle.indexmap.specs.IndexMap.{IndexMap, get_by}
use Rattle.indexmap.specs.IndexSet.{IndexSet}
use Rattle.std.specs.Borrow.{Bor}
use Rattle.pc_tree.specs.Text.{text_bytes}
use Rattle.pc_scope.specs.declared.local_names.Locals.{Locals}
use Rattle.pc_scope.specs.declared.local_names.Locals.TheVariants as held
use Rattle.pc_scope.specs.declared.resolution.NameMeaning.{NameMeaning}
use Rattle.pc_scope.specs.declared.resolution.Builtin.{Builtin}
use Rattle.pc_scope.specs.Reserved.{is_builtin_name}
use Rattle.pc_scope.specs.Resolution.{is_one_of}

-- an entry of the table of reserved names, as the program lends it
abbrev pub reserved_entry_seen : Bor (List ℕ) × Builtin → List ℕ × Builtin
reserved_entry_seen e = (e.0.now, e.1)

-- the locals with one more, unless its name is reserved or already a local
abbrev pub with_new_local : List (List ℕ) → List ℕ → List (List ℕ)
with_new_local names text = if is_builtin_name text || is_one_of text names then names else names ++ (text ∷ [])

-- the texts that a set holds
abbrev pub texts_in : {S : Type 0} → IndexSet (String Global) S → List (List ℕ)
texts_in s = map string_bytes s.keys

-- the locals that a list or a set holds
abbrev pub locals_in : Locals → List (List ℕ)
locals_in (held.Few texts) = map text_bytes texts.items
locals_in (held.Many texts) = texts_in texts

-- the value of a map at a text
abbrev pub at_text : {V S : Type 0} → IndexMap (String Global) V S → List ℕ → Option V
at_text m text = get_by (λ k. bytes_eq text (string_bytes k)) m

-- an entry of a map, by its text
abbrev pub text_entry : String Global × NameMeaning → List ℕ × NameMeaning
text_entry e = (string_bytes e.0, e.1)

-- the locals of the methods of a class
abbrev pub methods_texts : {A : Type 0} → Vec Locals A → List (List (List ℕ))
methods_texts ls = map locals_in ls.items

-- the locals that a lookup found, none if it found nothing
abbrev pub locals_seen : Option (Bor Locals) → List (List ℕ)
locals_seen None = []
locals_seen (Some l) = locals_in l.now
