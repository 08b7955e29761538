-- Each finding of a code that stops a run has a detail: E05, E28, E29, E30, E31.
use Rattle.std.proofs.Common.{◌≡◌, ℕ, suc, List, [], ◌∷◌, ◌++◌, Bool as Test, true, false, refl, sym, subst}
use Rattle.std.proofs.Common.{inl, inr, map, Contains}
use Rattle.std.proofs.lemmas.List.Elements.{Contains-append_left, Contains-append_right}
use Rattle.std.specs.List.{AllByRecursion}
use Rattle.std.specs.Prelude.{◌&&◌, ◌||◌, if◌then◌else◌, flat_map, find, is_some, is_none, Option, Some, None}
use Rattle.pc_source.specs.declared.place.Place.{Place}
use Rattle.pc_source.specs.ReservedNames.{is_reserved}
use Rattle.pc_tree.proofs.Among.{none_among, first_among, among_first, either}
use Rattle.pc_tree.specs.Stopping.{one_if, name_of_item, name_of_member, of_members, of_defs, loose_in_stmt}
use Rattle.pc_tree.specs.Stopping.{loose_in, loose_in_branches, loose_in_def, is_reserved_member, reserved_among}
use Rattle.pc_tree.specs.Stopping.{reserved_in_def, reserved_members, reserved_in_classes, reserved_bound, late_plain}
use Rattle.pc_tree.specs.Stopping.{late_plain_in, outside_loop, default_order}
use Rattle.pc_tree.specs.Tree.{Name, Stmt, Stmts, Branches, breaks, continues}
use Rattle.pc_tree.specs.Tree.{while_loop, for_loop, conditional, no_stmts, more_stmts, no_branches}
use Rattle.pc_tree.specs.Tree.{more_branches, Param, FuncDef, Member, field_member, method_member, Item}
use Rattle.pc_tree.specs.Tree.{constant_item, class_item, def_item, Module}
use Rattle.pc_scope.specs.declared.resolution.Owner.TheVariants as owners
use Rattle.pc_scope.specs.Bindings.{functions_in, classes_in, methods_in, Body, function_bodies, method_bodies}
use Rattle.pc_scope.specs.Bindings.{class_bodies, bodies}
use Rattle.pc_scope.specs.Reach.{completes}
use Rattle.pc_scope_findings.specs.Unreached.{first_token_place, first_places, unreached_in, unreached_places}
use Rattle.pc_scope_findings.specs.Unreached.{unreached_in_branches}
use Rattle.pc_types.specs.Tree.{Tree}
use Rattle.pc_notes.specs.Notes.{is_same_place}
use Rattle.pc_module_rules.proofs.Places.{own_place}
use Rattle.pc_detail_texts.specs.Details as detail
use Rattle.pc_detail_texts.specs.Details.{Detail}
use Rattle.pc_detail_rules.specs.Names.{first_of_all, first_from, name_at, names_of_members, names_of_body, reserved_detail}
use Rattle.pc_detail_rules.specs.Names.{place_of_param, order_of_param, default_order_after, default_order_in}
use Rattle.pc_detail_rules.specs.Names.{default_order_detail}
use Rattle.pc_detail_rules.specs.Nodes.{stmts_in, stmts_in_suite, stmts_in_branches}
use Rattle.pc_detail_rules.specs.Overrides.{detail_or}
use Rattle.pc_detail_rules.specs.Statements.{loose_detail, loose_at, outside_loop_detail, unreached_after, behind_stmt}
use Rattle.pc_detail_rules.specs.Statements.{unreached_in_suite, unreached_below, unreachable_detail}
use Rattle.pc_detail_rules.specs.Statements as statements
use Rattle.pc_detail_rules.proofs.Explained.Lists.{IsThere, none_there, there_mapped, there_first, there_second}
use Rattle.pc_detail_rules.proofs.Explained.Lists.{first_there, first_left, first_right, among_joined}
use Rattle.pc_detail_rules.proofs.Explained.Lists.{find_there, find_left, find_right, all_left, all_right, all_among}

-- ---- places that a rule gives

-- the place of a test that holds
pub one_place : (b : Test) (q p : Place) {X : Type 0} → Contains (one_if b q) p → (b ≡ true → q ≡ p → X) → X
one_place true q p h k = elim (among_first q [] p h) [
  | inl e ↦ k refl e
  | inr r ↦ absurd (none_among p r)
]
one_place false q p h k = absurd (none_among p h)

-- whether a place is that of a thing
pub at_place : (q p : Place) → q ≡ p → is_same_place p q ≡ true
at_place q p e = subst (λ (x : Place). is_same_place p x ≡ true) (sym e) (own_place p)

-- a detail at a place
pub there_at : (q p : Place) → q ≡ p → (o : Option (Detail Tree)) → IsThere o
    → IsThere (if is_same_place p q then o else None)
there_at q p e o h = subst (λ (b : Test). IsThere (if b then o else None)) (sym (at_place q p e)) h

-- what follows from each function and method of which a rule gives a place follows from the places of all
module _ {R : Type 0} (functions methods : FuncDef → List Place) (IsBody : Body → Type 0) (p : Place)
    (each_function : (i : ℕ) (d : FuncDef) → IsBody (record { owner = owners.Func i; function = d })
    → Contains (functions d) p → R)
    (each_method : (c i : ℕ) (d : FuncDef) → IsBody (record { owner = owners.Method c i; function = d })
    → Contains (methods d) p → R) where
  in_members : (c i : ℕ) (ms : List Member) → AllByRecursion IsBody (method_bodies c i (methods_in ms))
      → Contains (of_members methods ms) p → R
  in_members c i [] own h = absurd (none_among p h)
  in_members c i (field_member x ∷ ms) own h = in_members c i ms own h
  in_members c i (method_member x ∷ ms) own h = either (methods x) (of_members methods ms) p h
      (λ k. each_method c i x own.0 k) (λ k. in_members c (suc i) ms own.1 k)

  in_items : (i c : ℕ) (items : List Item) → AllByRecursion IsBody (function_bodies i (functions_in items))
      → AllByRecursion IsBody (class_bodies c (classes_in items)) → Contains (of_defs functions methods items) p → R
  in_items i c [] own others h = absurd (none_among p h)
  in_items i c (constant_item q x ∷ rest) own others h = in_items i c rest own others h
  in_items i c (class_item q x ∷ rest) own others h =
      let here = method_bodies c 0 (methods_in x.members) in
      let later = class_bodies (suc c) (classes_in rest) in
      either (of_members methods x.members) (of_defs functions methods rest) p h
      (λ k. in_members c 0 x.members (all_left IsBody here later others) k)
      (λ k. in_items i (suc c) rest own (all_right IsBody here later others) k)
  in_items i c (def_item q x ∷ rest) own others h = either (functions x) (of_defs functions methods rest) p h
      (λ k. each_function i x own.0 k) (λ k. in_items (suc i) c rest own.1 others k)

pub in_defs : {R : Type 0} (m : Module) (functions methods : FuncDef → List Place) (p : Place)
    → ((i : ℕ) (d : FuncDef) → Contains (bodies m) (record { owner = owners.Func i; function = d })
    → Contains (functions d) p → R)
    → ((c i : ℕ) (d : FuncDef) → Contains (bodies m) (record { owner = owners.Method c i; function = d })
    → Contains (methods d) p → R) → Contains (of_defs functions methods m.items) p → R
in_defs m functions methods p each_function each_method h =
    let own = function_bodies 0 (functions_in m.items) in
    let others = class_bodies 0 (classes_in m.items) in
    let all = all_among (bodies m) in
    in_items functions methods (Contains (bodies m)) p each_function each_method 0 0 m.items
    (all_left (Contains (bodies m)) own others all) (all_right (Contains (bodies m)) own others all) h

-- likewise of one rule for functions and methods
pub in_bodies : {R : Type 0} (m : Module) (rule : FuncDef → List Place) (p : Place)
    → ((b : Body) → Contains (bodies m) b → Contains (rule b.function) p → R)
    → Contains (of_defs rule rule m.items) p → R
in_bodies m rule p each h = in_defs m rule rule p (λ i d of k. each (record { owner = owners.Func i; function = d }) of k)
    (λ c i d of k. each (record { owner = owners.Method c i; function = d }) of k) h

-- ---- E05

module _ (p : Place) where
  -- the statement is loose here
  one_loose : (s : Stmt) → first_token_place s ≡ p → IsThere (loose_detail s) → IsThere (loose_at p s)
  one_loose s at h = there_at (first_token_place s) p at (loose_detail s) h

  -- of the statements in one
  first_one : (s : Stmt) → IsThere (loose_at p s) → IsThere (first_of_all (loose_at p) (s ∷ []))
  first_one s h = there_first (loose_at p s) None h

  alone : (q : Place) {X : Type 0} → Contains (q ∷ []) p → (q ≡ p → X) → X
  alone q h k = elim (among_first q [] p h) [ inl e ↦ k e | inr r ↦ absurd (none_among p r) ]

  mutual
    loose_stmt : (s : Stmt) → Contains (loose_in_stmt s) p → IsThere (first_of_all (loose_at p) (stmts_in s))
    loose_stmt (breaks q) h = alone q h (λ e. first_one (breaks q) (one_loose (breaks q) e refl))
    loose_stmt (continues q) h = alone q h (λ e. first_one (continues q) (one_loose (continues q) e refl))
    loose_stmt (conditional q bs o) h = there_second (loose_at p (conditional q bs o))
        (first_of_all (loose_at p) (stmts_in_branches bs ++ stmts_in_suite o))
        (either (loose_in_branches bs) (loose_in o) p h
        (λ k. first_left (loose_at p) (stmts_in_branches bs) (stmts_in_suite o) (loose_branches bs k))
        (λ k. first_right (loose_at p) (stmts_in_branches bs) (stmts_in_suite o) (loose_suite o k)))
    loose_stmt s h = absurd (none_among p h)

    loose_suite : (b : Stmts) → Contains (loose_in b) p → IsThere (first_of_all (loose_at p) (stmts_in_suite b))
    loose_suite no_stmts h = absurd (none_among p h)
    loose_suite (more_stmts s rest) h = either (loose_in_stmt s) (loose_in rest) p h
        (λ k. first_left (loose_at p) (stmts_in s) (stmts_in_suite rest) (loose_stmt s k))
        (λ k. first_right (loose_at p) (stmts_in s) (stmts_in_suite rest) (loose_suite rest k))

    loose_branches : (bs : Branches) → Contains (loose_in_branches bs) p
        → IsThere (first_of_all (loose_at p) (stmts_in_branches bs))
    loose_branches no_branches h = absurd (none_among p h)
    loose_branches (more_branches c b rest) h = either (loose_in b) (loose_in_branches rest) p h
        (λ k. first_left (loose_at p) (stmts_in_suite b) (stmts_in_branches rest) (loose_suite b k))
        (λ k. first_right (loose_at p) (stmts_in_suite b) (stmts_in_branches rest) (loose_branches rest k))

pub loose_told : (m : Module) (p : Place) → Contains (outside_loop m) p → IsThere (outside_loop_detail m p)
loose_told m p h = in_bodies m loose_in_def p
    (λ b of k. first_there (λ (x : Body). first_of_all (loose_at p) (stmts_in_suite x.function.body)) (bodies m) b of
    (loose_suite p b.function.body k)) h

-- ---- E31

module _ (p : Place) where
  some_or : (a b : Test) {X : Type 0} → (a || b) ≡ true → (a ≡ true → X) → (b ≡ true → X) → X
  some_or true b e h k = h refl
  some_or false b e h k = k e

  both_hold : (a b : Test) → (a && b) ≡ true → a ≡ true
  both_hold true b e = refl
  both_hold false b e = e

  -- the parameters before have a default, if one had
  late_from : (before ps : List Param) (d : Test) → (d ≡ true → IsThere (find (λ (y : Param). is_some y.default) before))
      → Contains (late_plain d ps) p → IsThere (first_from place_of_param order_of_param p before ps)
  late_from before [] d defaulted h = absurd (none_among p h)
  late_from before (x ∷ xs) d defaulted h =
      let here = if is_same_place p (place_of_param x) then order_of_param before x else None in
      let later = first_from place_of_param order_of_param p (before ++ x ∷ []) xs in
      either (one_if (d && is_none x.default) x.name.place) (late_plain (d || is_some x.default) xs) p h
      (λ k. there_first here later (one_place (d && is_none x.default) x.name.place p k
      (λ e at. there_at x.name.place p at (order_of_param before x)
      (there_mapped (default_order_after x.name) (find (λ (y : Param). is_some y.default) before)
      (defaulted (both_hold d (is_none x.default) e))))))
      (λ k. there_second here later (late_from (before ++ x ∷ []) xs (d || is_some x.default)
      (λ e. some_or d (is_some x.default) e
      (λ a. find_left (λ (y : Param). is_some y.default) before (x ∷ []) (defaulted a))
      (λ a. find_right (λ (y : Param). is_some y.default) before x a)) k))

pub late_told : (m : Module) (p : Place) → Contains (default_order m) p → IsThere (default_order_detail m p)
late_told m p h = in_bodies m late_plain_in p
    (λ b of k. first_there (default_order_in p) (bodies m) b of
    (late_from p [] b.function.params false (λ e. none_there e) k)) h

-- ---- E29

-- a name at a place among others
record NameThere (p : Place) (ns : List Name) : Type 0 where
  n : Name
  among : Contains ns n
  at : n.place ≡ p

named_left : (p : Place) (xs ys : List Name) → NameThere p xs → NameThere p (xs ++ ys)
named_left p xs ys h = record { n = h.n; among = Contains-append_left xs ys h.n h.among; at = h.at }

named_right : (p : Place) (xs ys : List Name) → NameThere p ys → NameThere p (xs ++ ys)
named_right p xs ys h = record { n = h.n; among = Contains-append_right xs ys h.n h.among; at = h.at }

reserved_name : (p : Place) (ns : List Name) → Contains (reserved_among ns) p → NameThere p ns
reserved_name p [] h = absurd (none_among p h)
reserved_name p (n ∷ ns) h = either (one_if (is_reserved n.text) n.place) (reserved_among ns) p h
    (λ k. one_place (is_reserved n.text) n.place p k (λ e at. record { n = n; among = first_among n ns; at = at }))
    (λ k. named_right p (n ∷ []) ns (reserved_name p ns k))

reserved_member : (p : Place) (ms : List Member) → Contains (reserved_members ms) p
    → NameThere p (map name_of_member ms)
reserved_member p [] h = absurd (none_among p h)
reserved_member p (x ∷ ms) h = either (one_if (is_reserved_member x) (name_of_member x).place) (reserved_members ms) p h
    (λ k. one_place (is_reserved_member x) (name_of_member x).place p k
    (λ e at. record { n = name_of_member x; among = first_among (name_of_member x) (map name_of_member ms); at = at }))
    (λ k. named_right p (name_of_member x ∷ []) (map name_of_member ms) (reserved_member p ms k))

reserved_class : (p : Place) (items : List Item) → Contains (reserved_in_classes items) p
    → NameThere p (flat_map names_of_members (classes_in items))
reserved_class p [] h = absurd (none_among p h)
reserved_class p (constant_item q x ∷ rest) h = reserved_class p rest h
reserved_class p (def_item q x ∷ rest) h = reserved_class p rest h
reserved_class p (class_item q x ∷ rest) h = either (reserved_members x.members) (reserved_in_classes rest) p h
    (λ k. named_left p (names_of_members x) (flat_map names_of_members (classes_in rest))
    (reserved_member p x.members k))
    (λ k. named_right p (names_of_members x) (flat_map names_of_members (classes_in rest)) (reserved_class p rest k))

reserved_body : (m : Module) (p : Place) → Contains (of_defs reserved_in_def reserved_in_def m.items) p
    → NameThere p (flat_map names_of_body (bodies m))
reserved_body m p h = in_bodies m reserved_in_def p (λ b of k.
    let n = reserved_name p (names_of_body b) k in
    record { n = n.n; among = among_joined names_of_body (bodies m) b n.n of n.among; at = n.at }) h

pub reserved_told : (m : Module) (p : Place) → Contains (reserved_bound m) p → IsThere (reserved_detail m p)
reserved_told m p h =
    let items = map name_of_item m.items in
    let members = flat_map names_of_members (classes_in m.items) in
    let others = flat_map names_of_body (bodies m) in
    let n : NameThere p (items ++ (members ++ others)) = either (reserved_among items)
    (reserved_in_classes m.items ++ of_defs reserved_in_def reserved_in_def m.items) p h
    (λ k. named_left p items (members ++ others) (reserved_name p items k))
    (λ k. named_right p items (members ++ others) (either (reserved_in_classes m.items)
    (of_defs reserved_in_def reserved_in_def m.items) p k
    (λ j. named_left p members others (reserved_class p m.items j))
    (λ j. named_right p members others (reserved_body m p j)))) in
    there_mapped (λ (x : Name). detail.reserved x.text) (name_at p (items ++ (members ++ others)))
    (find_there (λ (x : Name). is_same_place p x.place) (items ++ (members ++ others)) n.n n.among
    (at_place n.n.place p n.at))

-- ---- E30

module _ (p : Place) where
  -- the first statement after one that never completes
  first_behind : (s : Stmt) (rest : Stmts) → Contains (first_places rest) p → IsThere (unreached_in_suite p (Some s) rest)
  first_behind s no_stmts h = absurd (none_among p h)
  first_behind s (more_stmts x rest) h = elim (among_first (first_token_place x) [] p h) [
    | inl e ↦ there_first (behind_stmt p (Some s) x)
        (detail_or (unreached_below p x) (unreached_in_suite p (Some x) rest))
        (there_at (first_token_place x) p e (Some (unreached_after s)) refl)
    | inr r ↦ absurd (none_among p r)
  ]

  next_told : (s : Stmt) (rest : Stmts) (c : Test) → (Contains (unreached_places rest) p
      → IsThere (unreached_in_suite p (Some s) rest))
      → Contains (if c then unreached_places rest else first_places rest) p → IsThere (unreached_in_suite p (Some s) rest)
  next_told s rest true next h = next h
  next_told s rest false next h = first_behind s rest h

  mutual
    unreached_stmt : (s : Stmt) → Contains (unreached_in s) p → IsThere (unreached_below p s)
    unreached_stmt (while_loop q c b) h = unreached_suite None b h
    unreached_stmt (for_loop q n e b) h = unreached_suite None b h
    unreached_stmt (conditional q bs o) h = either (unreached_in_branches bs) (unreached_places o) p h
        (λ k. there_first (statements.unreached_in_branches p bs) (unreached_in_suite p None o) (unreached_branch bs k))
        (λ k. there_second (statements.unreached_in_branches p bs) (unreached_in_suite p None o)
        (unreached_suite None o k))
    unreached_stmt s h = absurd (none_among p h)

    unreached_suite : (before : Option Stmt) (b : Stmts) → Contains (unreached_places b) p
        → IsThere (unreached_in_suite p before b)
    unreached_suite before no_stmts h = absurd (none_among p h)
    unreached_suite before (more_stmts s rest) h =
        let below = unreached_below p s in
        let later = unreached_in_suite p (Some s) rest in
        there_second (behind_stmt p before s) (detail_or below later)
        (either (unreached_in s) (if completes s then unreached_places rest else first_places rest) p h
        (λ k. there_first below later (unreached_stmt s k))
        (λ k. there_second below later (next_told s rest (completes s) (λ j. unreached_suite (Some s) rest j) k)))

    unreached_branch : (bs : Branches) → Contains (unreached_in_branches bs) p
        → IsThere (statements.unreached_in_branches p bs)
    unreached_branch no_branches h = absurd (none_among p h)
    unreached_branch (more_branches c b rest) h =
        let here = unreached_in_suite p None b in
        let later = statements.unreached_in_branches p rest in
        either (unreached_places b) (unreached_in_branches rest) p h
        (λ k. there_first here later (unreached_suite None b k)) (λ k. there_second here later (unreached_branch rest k))

pub unreachable_told : (m : Module) (b : Body) → Contains (bodies m) b → (p : Place)
    → Contains (unreached_places b.function.body) p → IsThere (unreachable_detail m p)
unreachable_told m b of p h = first_there (λ (x : Body). unreached_in_suite p None x.function.body) (bodies m) b of
    (unreached_suite p None b.function.body h)
