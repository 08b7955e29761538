-- Lists of nodes by place, as the program holds them: private to this crate. Own rule of the profile.
use Rattle.std.specs.Prelude.{List, [], ◌∷◌, Option, if◌then◌else◌}
use Rattle.std.specs.Option.{option_map}
use Rattle.std.specs.BTreeMap.{get}
use Rattle.pc_source.specs.declared.place.Place.{Place}
use Rattle.pc_notes.specs.Notes.{is_same_place}
use Rattle.pc_notes.specs.Texts.{place_cmp}
use Rattle.pc_detail_nodes.specs.declared.by_place.ByPlace.{ByPlace}

-- the list at a place, if one is held
abbrev pub nodes_at : {T : Type 0} → ByPlace T → Place → Option (List T)
nodes_at b p = option_map (λ v. v.items) (get place_cmp b.lists p)

-- a node alone if it is at a place, else none
abbrev pub alone_at : {T : Type 0} → Place → Place → T → List T
alone_at p q x = if is_same_place p q then x ∷ [] else []
