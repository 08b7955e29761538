use Rattle.std.proofs.Common.{◌≡◌, ◌∙◌, ◌++◌, [], List, map, length, sym, ap, subst, refl, rules, arith, append_assoc}
use Rattle.std.proofs.Common.{append-nil}
use Rattle.pc_tree.specs.Tree.{class_of, member_of}
use Rattle.pc_tree.specs.declared.tree.Member.{Member as RustMember}
use Rattle.pc_tree.specs.declared.code.Code.TheVariants.{E06, E08}
use Rattle.pc_tree.specs.declared.code.Finding.{Finding}
use Rattle.pc_tree.specs.Code.{at_code}
use Rattle.pc_class.specs.declared.entries.ClassMember.{ClassMember as RustEntry}
use Rattle.pc_class.specs.declared.parts.ClassNode.{ClassNode}
use Rattle.pc_class.specs.declared.parts.ClassArena.{ClassArena}
use Rattle.pc_class.specs.Entries.{MemberEntry, inherited_in, inherited_by, entries_of_members, entry_seen}
use Rattle.pc_class.specs.Entries.{class_entries, clash_places, late_places, defaulted_in}
use Rattle.pc_class.specs.Outlines.{IsMapOf, field_name, method_name as class_method_name, own_field, own_method}
use Rattle.pc_class.specs.Outlines.{all_own, AreNew}
use Rattle.pc_class.specs.Tables.{inherited_entry, HasParameter, HasMethod, parameter_with, method_with}
use Rattle.pc_class.specs.Parts.{parameter_name, stored_method_name, inherited_node, classes_of_table}
use Rattle.pc_annotations.specs.ModuleOutlines.{module_in}
use Rattle.pc_class.specs.Annotated.{fields_annotated, methods_annotated}
use Rattle.pc_class.specs.Built.{Added, members_of_entries}
use Rattle.pc_class.proofs.Annotations.{members_are}
use Rattle.pc_class.proofs.ClassesBuilt.{base_next}
use Rattle.pc_class.proofs.ClassAdded.{table_new, classes_new, given_new, held, base_maps, base_class, entries_are}
use Rattle.pc_class.proofs.ClassAdded.{fields_new, methods_new, base_defaulted, held_on, node_same}
use Rattle.pc_class.proofs.adding.add_class.Goals as goal

pub entries-requires : goal.entries-requires
entries-requires g c =
    let m = module_in c.args.outline.now in
    let p = c.args.parts.now in
    let class = class_of c.args.definition.now in
    let ns = p.classes.items in
    let base = c.base-base.result in
    let number : c.len-number.result ≡ length ns = search rules in
    let based = base_next m (length ns) class c.requires.class _ c.requires.outline.parents c.len-number.result number
    base c.base-base.ensures.value in
    base_maps g.S.TypeStore.tree m p.named p.fields.items p.methods.items ns (classes_of_table p) c.requires.table class
    c.requires.class base based c.inherited-inherited.result (c.inherited-inherited.ensures
    ∙ ap (λ (xs : List ClassNode). inherited_node xs base) c.deref.ensures.value)

pub add_fields-requires-clause-map : goal.add_fields-requires-clause-map
add_fields-requires-clause-map g c =
    let m = module_in c.args.outline.now in
    let p = c.args.parts.now in
    let class = class_of c.args.definition.now in
    let ns = p.classes.items in
    let base = c.base-base.result in
    let number : c.len-number.result ≡ length ns = search rules in
    let based = base_next m (length ns) class c.requires.class _ c.requires.outline.parents c.len-number.result number
    base c.base-base.ensures.value in
    (base_maps g.S.TypeStore.tree m p.named p.fields.items p.methods.items ns (classes_of_table p) c.requires.table class
    c.requires.class base based c.inherited-inherited.result (c.inherited-inherited.ensures
    ∙ ap (λ (xs : List ClassNode). inherited_node xs base) c.deref.ensures.value)).fields

pub add_methods-requires-clause-map : goal.add_methods-requires-clause-map
add_methods-requires-clause-map g c =
    let m = module_in c.args.outline.now in
    let p = c.args.parts.now in
    let class = class_of c.args.definition.now in
    let ns = p.classes.items in
    let base = c.base-base.result in
    let number : c.len-number.result ≡ length ns = search rules in
    let based = base_next m (length ns) class c.requires.class _ c.requires.outline.parents c.len-number.result number
    base c.base-base.ensures.value in
    let h = (base_maps g.S.TypeStore.tree m p.named p.fields.items p.methods.items ns (classes_of_table p) c.requires.table
    class
    c.requires.class base based c.inherited-inherited.result (c.inherited-inherited.ensures
    ∙ ap (λ (xs : List ClassNode). inherited_node xs base) c.deref.ensures.value)).methods in
    let more = c.in_ok-fields.ensures.kept.more in
    omega arith

pub returns-clause-added : goal.returns-clause-added
returns-clause-added g c =
    let m = module_in c.args.outline.now in
    let tree = g.S.TypeStore.tree in
    let p = c.args.parts.now in
    let d = p.named in
    let class = class_of c.args.definition.now in
    let F = p.fields.items in
    let M = p.methods.items in
    let ns = p.classes.items in
    let es = classes_of_table p in
    let base = c.base-base.result in
    let number : c.len-number.result ≡ length ns = search rules in
    let based = base_next m (length ns) class c.requires.class _ c.requires.outline.parents c.len-number.result number
    base c.base-base.ensures.value in
    let o = c.inherited-inherited.result in
    let o_is : o ≡ inherited_node ns base = c.inherited-inherited.ensures
    ∙ ap (λ (xs : List ClassNode). inherited_node xs base) c.deref.ensures.value in
    let I = inherited_entry es base in
    let H = held tree m d F M ns es c.requires.table class c.requires.class base based in
    let BC = base_class tree m d F M ns es c.requires.table class c.requires.class base based in
    let xs = class_entries (inherited_by BC) class in
    let found_entries : map entry_seen c.in_ok-members.members.items ≡ xs =
    c.in_ok-members.ensures ∙ ap (λ (ys : List RustMember). entries_of_members (inherited_in d o.held) [] 0 (map member_of ys))
    c.deref-2.ensures.value
    ∙ ap (λ (n : ClassNode). entries_of_members (inherited_in d n.held) [] 0 class.members) o_is
    ∙ entries_are tree m d F M ns es c.requires.table class c.requires.class base based in
    let entries4 : map entry_seen c.deref-4.result.now ≡ xs = ap (λ (ys : List RustEntry). map entry_seen ys)
    c.deref-4.ensures.value ∙ found_entries in
    let entries5 : map entry_seen c.deref-5.result.now ≡ xs = ap (λ (ys : List RustEntry). map entry_seen ys)
    c.deref-5.ensures.value ∙ found_entries in
    let entries6 : map entry_seen c.deref-6.result.now ≡ xs = ap (λ (ys : List RustEntry). map entry_seen ys)
    c.deref-6.ensures.value ∙ found_entries in
    let has = g.S.TypeStore.has c.add_fields.new.reader.store.now in
    let has2 = g.S.TypeStore.has c.add_methods.new.reader.store.now in
    let f = subst (λ (ys : List MemberEntry). Added parameter_name (HasParameter has) (parameter_with tree)
    c.add_fields.new.named F c.add_fields.new.fields.items c.in_ok-fields.fields I.fields []
    (all_own (own_field m) ys)) entries5
    (c.in_ok-fields.ensures.added I.fields [] (subst (IsMapOf parameter_name d F o.held.fields)
    (sym (append-nil I.fields)) (subst (λ (n : ClassNode). IsMapOf parameter_name d F n.held.fields I.fields)
    (sym o_is) H.fields))
    (subst (AreNew field_name (own_field m) (map (parameter_with tree) I.fields)) (sym entries5)
    (fields_new tree m d F M ns es c.requires.table class c.requires.class base based))) in
    let k = subst (λ j. Added stored_method_name (HasMethod has2) (method_with tree) c.add_methods.new.named M
    c.add_methods.new.methods.items c.in_ok-methods.methods [] I.methods (all_own (own_method m j) xs)) number
    (subst (λ (ys : List MemberEntry). Added stored_method_name (HasMethod has2) (method_with tree)
    c.add_methods.new.named M c.add_methods.new.methods.items c.in_ok-methods.methods [] I.methods
    (all_own (own_method m c.len-number.result) ys)) entries6
    (c.in_ok-methods.ensures.added [] I.methods (held_on stored_method_name d c.add_fields.new.named M o.held.methods
    I.methods (subst (λ (n : ClassNode). IsMapOf stored_method_name d M n.held.methods I.methods) (sym o_is)
    H.methods) c.in_ok-fields.ensures.kept)
    (subst (AreNew class_method_name (own_method m c.len-number.result) []) (sym entries6)
    (methods_new tree m d F M ns es c.requires.table class c.requires.class base based c.len-number.result)))) in
    let b_is = c.in_ok-defaulted.ensures.defaulted ∙ ap (defaulted_in o.defaulted) entries4
    ∙ ap (λ (n : ClassNode). defaulted_in n.defaulted xs) o_is in
    let fs0 : c.len-fields_start.result ≡ length F = search rules in
    let fs = c.places_from.ensures.start ∙ fs0 in
    let fe = c.places_from.ensures.end ∙ ap length c.deref-7.ensures.value in
    let ms0 : c.len-methods_start.result ≡ length M = search rules in
    let ms = c.places_from-2.ensures.start ∙ ms0 in
    let me = c.places_from-2.ensures.end ∙ ap length c.deref-8.ensures.value in
    let n_is = node_same base c.in_ok-fields.fields c.in_ok-methods.methods c.in_ok-defaulted.defaulted _ _ _ _ _ _ _ _
    fs fe ms me in
    let q : ClassArena _ = record {
      named = c.add_methods.new.named;
      classes = c.push.new.self;
      fields =
          c.add_fields.new.fields;
      methods = c.add_methods.new.methods;
    } in
    record {
      table = table_new tree m p q c.requires.table class c.requires.class base based c.add_fields.new.named
          c.in_ok-fields.ensures.kept c.in_ok-methods.ensures.kept c.in_ok-fields.fields c.in_ok-methods.methods
          (g.S.TypeStore.has c.args.reader.now.store.now) has has2 xs refl c.in_ok-defaulted.defaulted b_is f k _ n_is
          c.in_ok-push.ensures.items;
      given = given_new tree m p q c.requires.table class c.requires.class base based c.add_fields.new.named
          c.in_ok-fields.ensures.kept c.in_ok-methods.ensures.kept c.in_ok-fields.fields c.in_ok-methods.methods
          (g.S.TypeStore.has c.args.reader.now.store.now) has has2 xs refl c.in_ok-defaulted.defaulted b_is f k _ n_is
          c.in_ok-push.ensures.items c.requires.given (λ t h. c.add_methods.ensures.store t
          (c.add_fields.ensures.store t h)) c.add_methods.ensures.store;
      classes = classes_new tree m p q c.requires.table class c.requires.class base based c.add_fields.new.named
          c.in_ok-fields.ensures.kept c.in_ok-methods.ensures.kept c.in_ok-fields.fields c.in_ok-methods.methods
          (g.S.TypeStore.has c.args.reader.now.store.now) has has2 xs refl c.in_ok-defaulted.defaulted b_is f k _ n_is
          c.in_ok-push.ensures.items;
    }

pub returns-clause-found : goal.returns-clause-found
returns-clause-found g c =
    let m = module_in c.args.outline.now in
    let tree = g.S.TypeStore.tree in
    let p = c.args.parts.now in
    let d = p.named in
    let class = class_of c.args.definition.now in
    let F = p.fields.items in
    let M = p.methods.items in
    let ns = p.classes.items in
    let es = classes_of_table p in
    let base = c.base-base.result in
    let number : c.len-number.result ≡ length ns = search rules in
    let based = base_next m (length ns) class c.requires.class _ c.requires.outline.parents c.len-number.result number
    base c.base-base.ensures.value in
    let o = c.inherited-inherited.result in
    let o_is : o ≡ inherited_node ns base = c.inherited-inherited.ensures
    ∙ ap (λ (xs : List ClassNode). inherited_node xs base) c.deref.ensures.value in
    let I = inherited_entry es base in
    let H = held tree m d F M ns es c.requires.table class c.requires.class base based in
    let BC = base_class tree m d F M ns es c.requires.table class c.requires.class base based in
    let xs = class_entries (inherited_by BC) class in
    let found_entries : map entry_seen c.in_ok-members.members.items ≡ xs =
    c.in_ok-members.ensures ∙ ap (λ (ys : List RustMember). entries_of_members (inherited_in d o.held) [] 0 (map member_of ys))
    c.deref-2.ensures.value
    ∙ ap (λ (n : ClassNode). entries_of_members (inherited_in d n.held) [] 0 class.members) o_is
    ∙ entries_are tree m d F M ns es c.requires.table class c.requires.class base based in
    let entries3 : map entry_seen c.deref-3.result.now ≡ xs = ap (λ (ys : List RustEntry). map entry_seen ys)
    c.deref-3.ensures.value ∙ found_entries in
    let entries4 : map entry_seen c.deref-4.result.now ≡ xs = ap (λ (ys : List RustEntry). map entry_seen ys)
    c.deref-4.ensures.value ∙ found_entries in
    c.in_ok-defaulted.ensures.found
    ∙ ap (λ (fs : List Finding). fs ++ at_code E08 (late_places o.defaulted (map entry_seen c.deref-4.result.now)))
    c.in_ok-find_clashes.ensures
    ∙ append_assoc c.args.found.now.items (at_code E06 (clash_places (map entry_seen c.deref-3.result.now)))
    (at_code E08 (late_places o.defaulted (map entry_seen c.deref-4.result.now)))
    ∙ ap (λ (ys : List MemberEntry). c.args.found.now.items ++ (at_code E06 (clash_places ys) ++ at_code E08
    (late_places o.defaulted (map entry_seen c.deref-4.result.now)))) entries3
    ∙ ap (λ (ys : List MemberEntry). c.args.found.now.items ++ (at_code E06 (clash_places xs) ++ at_code E08
    (late_places o.defaulted ys))) entries4
    ∙ ap (λ (n : ClassNode). c.args.found.now.items ++ (at_code E06 (clash_places xs) ++ at_code E08
    (late_places n.defaulted xs))) o_is
    ∙ ap (λ b. c.args.found.now.items ++ (at_code E06 (clash_places xs) ++ at_code E08 (late_places b xs)))
    (base_defaulted tree m d F M ns es c.requires.table class c.requires.class base based)

pub returns-clause-annotated : goal.returns-clause-annotated
returns-clause-annotated g c =
    let m = module_in c.args.outline.now in
    let tree = g.S.TypeStore.tree in
    let p = c.args.parts.now in
    let d = p.named in
    let class = class_of c.args.definition.now in
    let F = p.fields.items in
    let M = p.methods.items in
    let ns = p.classes.items in
    let es = classes_of_table p in
    let old = c.args.reader.now.found.now.items in
    let ms = class.members in
    let base = c.base-base.result in
    let number : c.len-number.result ≡ length ns = search rules in
    let based = base_next m (length ns) class c.requires.class _ c.requires.outline.parents c.len-number.result number
    base c.base-base.ensures.value in
    let o = c.inherited-inherited.result in
    let o_is : o ≡ inherited_node ns base = c.inherited-inherited.ensures
    ∙ ap (λ (xs : List ClassNode). inherited_node xs base) c.deref.ensures.value in
    let BC = base_class tree m d F M ns es c.requires.table class c.requires.class base based in
    let xs = class_entries (inherited_by BC) class in
    let found_entries : map entry_seen c.in_ok-members.members.items ≡ entries_of_members (inherited_in d o.held) [] 0 ms =
    c.in_ok-members.ensures ∙ ap (λ (ys : List RustMember). entries_of_members (inherited_in d o.held) [] 0 (map member_of ys))
    c.deref-2.ensures.value in
    let are = members_are c.in_ok-members.members.items (inherited_in d o.held) ms found_entries in
    let fields : members_of_entries c.deref-5.result.now ≡ ms = ap members_of_entries c.deref-5.ensures.value ∙ are in
    let methods : map entry_seen c.deref-6.result.now ≡ xs = ap (λ (ys : List RustEntry). map entry_seen ys)
    c.deref-6.ensures.value ∙ found_entries ∙ ap (λ (n : ClassNode). entries_of_members (inherited_in d n.held) [] 0 ms) o_is
    ∙ entries_are tree m d F M ns es c.requires.table class c.requires.class base based in
    c.in_ok-methods.ensures.found
    ∙ ap (λ (fs : List Finding). fs ++ methods_annotated m (map entry_seen c.deref-6.result.now))
    c.in_ok-fields.ensures.found
    ∙ (λ i. (old ++ fields_annotated m (fields i)) ++ methods_annotated m (methods i))
    ∙ append_assoc old (fields_annotated m ms) (methods_annotated m xs)
