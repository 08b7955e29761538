-- The types that are noted of a module are told of it, and nothing else is.
use Rattle.std.proofs.Common.{◌≡◌, ℕ, ◌+◌, ◌<◌, List, [], ◌∷◌, ◌++◌, map, length, take, get_or, true, Contains}
use Rattle.std.proofs.Common.{refl, ap, sym, ◌∙◌, subst, flat_map, append_assoc}
use Rattle.std.proofs.lemmas.List.{map-append, take_more}
use Rattle.std.specs.Prelude.{◌↔◌}
use Rattle.pc_tree.specs.Tree.{Module}
use Rattle.pc_notes.specs.Notes.{Note, types_of, names_of_notes}
use Rattle.pc_module_rules.specs.Modules.{Labelling, IsLawful}
use Rattle.pc_module_rules.specs.Computed.Modules.{module_notes}
use Rattle.pc_module_rules.specs.Laws.Names.{as_noted, names_by_labels}
use Rattle.pc_module_rules.specs.NamesOfStatements.{NameAt}
use Rattle.pc_module_rules.specs.NamesOfModules.{names_declared, names_under}
use Rattle.pc_module_rules.proofs.LabelledModule.{every_module_has_a_labelling}
use Rattle.pc_module_rules.proofs.NamedModules.{names_noted}
use Rattle.pc_module_rules.proofs.TypedModules.{types_noted}
use Rattle.pc_front.specs.Bytes.{IsModuleOf}
use Rattle.pc_front.proofs.BytesLaws.{one_module}
use Rattle.pc_report.specs.declared.listing.TypeRow.{TypeRow}
use Rattle.pc_report.specs.TypeListing.{TypeFact, ListsTypes}
use Rattle.pc_top.specs.NamesRead.{noted_fact}
use Rattle.pc_top.specs.TypesOfBytes.{IsTypeFact, ListsTypesOf, expression_fact, name_fact, facts_under}

-- the next element mapped, as a list of others that are mapped to the same grows
pub next_mapped : {S T Y : Type 0} (of : S → Y) (to : T → Y) (items : List S) (taken : List T) (k : ℕ) (x : S) (y : T)
    → map to taken ≡ map of (take k items) → k < length items → x ≡ get_or items k x → to y ≡ of x
    → map to (taken ++ y ∷ []) ≡ map of (take (k + 1) items)
next_mapped of to items taken k x y e within read same =
    map-append to taken (y ∷ []) ∙ (λ i. e i ++ same i ∷ [])
    ∙ sym (ap (map of) (take_more items k x within ∙ ap (λ z. take k items ++ z ∷ []) (sym read))
    ∙ map-append of (take k items) (x ∷ []))

-- elements mapped twice
pub mapped_twice : {X Y Z : Type 0} (f : X → Y) (g : Y → Z) (xs : List X) → map g (map f xs) ≡ map (λ x. g (f x)) xs
mapped_twice f g [] = refl
mapped_twice f g (x ∷ xs) = ap (λ l. g (f x) ∷ l) (mapped_twice f g xs)

-- two lists with equal meanings, each mapped by the same function of the meanings
pub mapped_alike : {S T X Y : Type 0} (f : S → X) (g : T → X) (h : X → Y) (xs : List S) (ys : List T)
    → map f xs ≡ map g ys → map (λ x. h (f x)) xs ≡ map (λ y. h (g y)) ys
mapped_alike f g h xs ys e = sym (mapped_twice f h xs) ∙ ap (map h) e ∙ mapped_twice g h ys

-- the names noted of a module, and those whose types are by annotations alone, are the names bound under its labels
named_facts : (m : Module) (labels : Labelling m) → IsLawful m labels
    → map (name_fact m) (flat_map (names_declared m) m.items)
    ++ map (noted_fact m) (names_of_notes (module_notes true m [])) ≡ map (name_fact m) (names_under m labels)
named_facts m labels l =
    let declared : List NameAt = flat_map (names_declared m) m.items in
    let others : List NameAt = names_by_labels m labels in
    ap (λ (fs : List TypeFact). map (name_fact m) declared ++ fs)
    (ap (map (noted_fact m)) (names_noted m labels l) ∙ mapped_twice as_noted (noted_fact m) others)
    ∙ sym (map-append (name_fact m) declared others)

-- the facts of the notes of a walk over a module, and of the names whose types come from annotations alone
abbrev pub facts_noted : Module → List TypeFact
facts_noted m = (map (expression_fact m) (types_of (module_notes true m []))
    ++ map (name_fact m) (flat_map (names_declared m) m.items))
    ++ map (noted_fact m) (names_of_notes (module_notes true m []))

-- entries of what is noted, with the names whose types are by annotations alone, are these
pub all_noted : (m named : Module) (notes : List Note) (first second third : List TypeFact) → named ≡ m
    → notes ≡ module_notes true m [] → first ≡ map (expression_fact named) (types_of notes)
    → second ≡ first ++ map (name_fact m) (flat_map (names_declared m) m.items)
    → third ≡ second ++ map (noted_fact named) (names_of_notes notes) → third ≡ facts_noted m
all_noted m named notes first second third of_module of_notes types declared others =
    let declared_facts : List TypeFact = map (name_fact m) (flat_map (names_declared m) m.items) in
    others
    ∙ ap (λ (fs : List TypeFact). fs ++ map (noted_fact named) (names_of_notes notes))
    (declared ∙ ap (λ (fs : List TypeFact). fs ++ declared_facts) types)
    ∙ (λ i. (map (expression_fact (of_module i)) (types_of (of_notes i)) ++ declared_facts)
    ++ map (noted_fact (of_module i)) (names_of_notes (of_notes i)))

-- the facts noted by a walk over a module are those under its lawful labels
noted_facts : (m : Module) (labels : Labelling m) → IsLawful m labels → facts_noted m ≡ facts_under m labels
noted_facts m labels l =
    append_assoc (map (expression_fact m) (types_of (module_notes true m []))) _ _
    ∙ (λ i. map (expression_fact m) (types_noted m labels l i) ++ named_facts m labels l i)

-- facts that are those noted of a module are told of it, and no others
pub just_noted : (m : Module) (facts : List TypeFact) → facts ≡ facts_noted m
    → (f : TypeFact) → Contains facts f ↔ IsTypeFact m f
just_noted m facts is f = (
  λ h labels l. subst (λ (fs : List TypeFact). Contains fs f) (is ∙ noted_facts m labels l) h,
  λ h. let one = every_module_has_a_labelling m in
      subst (λ (fs : List TypeFact). Contains fs f) (sym (is ∙ noted_facts m one.labels one.lawful))
      (h one.labels one.lawful),
)

-- rows that tell exactly these facts are the listing of the bytes' types
pub lists_from : (bytes : List ℕ) (whole : Module) → IsModuleOf bytes whole → (facts : List TypeFact)
    (rows : List TypeRow) → ((f : TypeFact) → Contains facts f ↔ IsTypeFact whole f)
    → ListsTypes bytes (Contains facts) rows → ListsTypesOf bytes rows
lists_from bytes whole spelled facts rows exactly lists = record {
  whole = whole;
  spelled = spelled;
  only = λ other h. one_module bytes other whole h spelled;
  labelled = every_module_has_a_labelling whole;
  listed = record {
    sorted = lists.sorted;
    exact = λ f. (
      (λ h. (exactly f).0 ((lists.exact f).0 h)),
      (λ h. (lists.exact f).1 ((exactly f).1 h)),
    );
    placed = lists.placed;
  };
}
