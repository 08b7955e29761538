-- The note of a bound name after others, which stand behind more.
use Rattle.std.proofs.Common.{◌≡◌, ◌++◌, ◌∷◌, [], List, Option, refl, append_assoc, true, false}
use Rattle.std.specs.Prelude.{Bool as Test}
use Rattle.pc_source.specs.declared.place.Place.{Place}
use Rattle.pc_types.specs.Tree.{Tree}
use Rattle.pc_notes.specs.Notes.{Note, named}
use Rattle.pc_rules.specs.Computed.Findings.{name_after}

pub after_append : (keeps : Test) (before found : List Note) (p : Place) (d : Tree) (t : Option Tree)
    → name_after keeps (before ++ found) p d t ≡ before ++ name_after keeps found p d t
after_append false before found p d t = refl
after_append true before found p d t = append_assoc before found (named p d t ∷ [])
