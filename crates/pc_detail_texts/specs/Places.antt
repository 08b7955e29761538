-- The places that a detail names beside that of its finding. Own rule of the profile.
use Rattle.std.specs.Prelude.{List, [], ◌∷◌, Option, Some, None, option_to_list}
use Rattle.pc_source.specs.declared.place.Place.{Place}
use Rattle.pc_detail_texts.specs.Details.{Elsewhere, nowhere, in_class, in_function, not_imported, Early, early_function}
use Rattle.pc_detail_texts.specs.Details.{early_name, early_callee, AnnotationFault, no_type, Earlier, earlier_item}
use Rattle.pc_detail_texts.specs.Details.{earlier_parameter, earlier_self, earlier_argument, NoMain, no_such_name}
use Rattle.pc_detail_texts.specs.Details.{has_parameters, is_no_function, Detail, override, twice, unknown_name, early}
use Rattle.pc_detail_texts.specs.Details.{unassigned, member, base, field_order, annotation, late_annotation, main}
use Rattle.pc_detail_texts.specs.Details.{unreachable, default_order}

-- the place of an earlier binding, if it has one
abbrev pub place_of_earlier : Earlier → Option Place
place_of_earlier (earlier_item at) = Some at
place_of_earlier (earlier_parameter at) = Some at
place_of_earlier earlier_self = None
place_of_earlier (earlier_argument at) = Some at

-- the place where an unknown name is bound elsewhere
abbrev pub place_of_elsewhere : Elsewhere → Option Place
place_of_elsewhere nowhere = None
place_of_elsewhere (in_class class) = None
place_of_elsewhere (in_function f at) = Some at
place_of_elsewhere not_imported = None

-- the place of a name that is used too early, if the detail gives it
abbrev pub place_of_early : Early → Option Place
place_of_early (early_function name) = None
place_of_early (early_name name at) = Some at
place_of_early early_callee = None

-- the place of a name that is not a class, if the fault gives it
abbrev pub place_of_annotation : {T : Type 0} → AnnotationFault T → Option Place
place_of_annotation (no_type name at) = Some at
place_of_annotation _ = None

-- the place of a `main` that is not a function without parameters, if there is one
abbrev pub place_of_main : NoMain → Option Place
place_of_main no_such_name = None
place_of_main (has_parameters at) = Some at
place_of_main (is_no_function at) = Some at

-- the other places that a detail names, in order
abbrev pub other_places : {T : Type 0} → Detail T → List Place
other_places (override f at fault) = at ∷ []
other_places (twice name earlier) = option_to_list (place_of_earlier earlier)
other_places (unknown_name name elsewhere) = option_to_list (place_of_elsewhere elsewhere)
other_places (early e) = option_to_list (place_of_early e)
other_places (unassigned name bound) = bound
other_places (member name class at) = at ∷ []
other_places (base name later) = option_to_list later
other_places (field_order name class field at) = at ∷ []
other_places (annotation fault) = option_to_list (place_of_annotation fault)
other_places (late_annotation name at) = option_to_list at
other_places (main why) = option_to_list (place_of_main why)
other_places (unreachable leaving at) = at ∷ []
other_places (default_order name parameter at) = at ∷ []
other_places _ = []
