-- Mentions, as the program represents them.
use Rattle.std.specs.Prelude.{List, [], ◌∷◌, Option, None, Some}
use Rattle.std.specs.Borrow.{Bor}
use Rattle.pc_tree.specs.Tree.{ClassDef, Anns, no_anns, more_anns, ann_of, class_of, func_of, name_of}
use Rattle.pc_tree.specs.declared.tree.Ann.{Ann as RustAnn}
use Rattle.pc_tree.specs.declared.tree.ClassDef.{ClassDef as RustClassDef}
use Rattle.pc_bindings.specs.declared.mention.Scope.{Scope as RustScope}
use Rattle.pc_bindings.specs.declared.mention.Scope.TheVariants as rust
use Rattle.pc_bindings.specs.declared.mention.Mention.{Mention as RustMention}
use Rattle.pc_bindings.specs.Mentions.{Scope, in_module, in_function, in_method, of_class, Mention}

-- the scope that is represented
abbrev pub scope_of : RustScope → Scope
scope_of rust.Module = in_module
scope_of (rust.Function f) = in_function (func_of f.now)
scope_of (rust.Method c f) = in_method (class_of c.now) (func_of f.now)
scope_of (rust.Class c) = of_class (class_of c.now)

-- the mention that is represented
abbrev pub mention_of : RustMention → Mention
mention_of it = record { scope = scope_of it.scope; name = name_of it.name.now }

-- the tree of a class that is borrowed, if there is one
abbrev pub borrowed_class : Option (Bor RustClassDef) → Option ClassDef
borrowed_class None = None
borrowed_class (Some c) = Some (class_of c.now)

-- the trees of a list of annotations
abbrev pub anns_of_list : List RustAnn → Anns
anns_of_list [] = no_anns
anns_of_list (a ∷ rest) = more_anns (ann_of a) (anns_of_list rest)
