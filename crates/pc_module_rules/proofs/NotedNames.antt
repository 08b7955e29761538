-- The note of a bound name changes no types, tells of no flow, and shows no type of a label.
use Rattle.std.proofs.Common.{◌≡◌, List, [], ◌∷◌, Option, Some, None, refl, true, false}
use Rattle.std.specs.Prelude.{Bool as Test, if◌then◌else◌}
use Rattle.pc_source.specs.declared.place.Place.{Place}
use Rattle.pc_scope.specs.declared.resolution.NameMeaning.{NameMeaning}
use Rattle.pc_scope.specs.declared.resolution.NameMeaning.TheVariants as meaning
use Rattle.pc_types.specs.Tree.{Tree}
use Rattle.pc_flow.specs.Environment.{Env, current}
use Rattle.pc_notes.specs.Notes.{Note, named}
use Rattle.pc_module_rules.specs.Computed.Statements.{DeclaredTypes, bound_type, BindingResult, local_note, name_note}
use Rattle.pc_module_rules.specs.Computed.Statements.{noted_binding}

module _ (P : List Note → Type 0) (none : P []) (one : (p : Place) (d : Tree) (t : Option Tree) → P (named p d t ∷ []))
  where
    local_holds : (declared now : Option Tree) (p : Place) → P (local_note declared now p)
    local_holds None now p = none
    local_holds (Some d) now p = one p d now

    -- a property that holds of no notes, and of each single note of a name, holds of the notes of a name
    pub note_holds : (valued : Test) (table : DeclaredTypes) (env : Env) (r : NameMeaning) (p : Place)
        → P (name_note valued table env r p)
    note_holds valued table env (meaning.Local x) p = local_holds (bound_type table x)
        (if valued then current env x else None) p
    note_holds valued table env (meaning.Const i) p = none
    note_holds valued table env (meaning.Func i) p = none
    note_holds valued table env (meaning.Class i) p = none
    note_holds valued table env (meaning.Builtin i) p = none
    note_holds valued table env meaning.None p = none

-- the types after a binding are the same with the note of its name
pub noted_table : (keeps valued : Test) (r : NameMeaning) (p : Place) (b : BindingResult)
    → (noted_binding keeps valued r p b).table ≡ b.table
noted_table false valued r p b = refl
noted_table true valued r p b = refl

pub noted_env : (keeps valued : Test) (r : NameMeaning) (p : Place) (b : BindingResult)
    → (noted_binding keeps valued r p b).env ≡ b.env
noted_env false valued r p b = refl
noted_env true valued r p b = refl
