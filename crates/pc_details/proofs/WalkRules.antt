-- A walk over names and statements gives the details of the rules, code by code.
use Rattle.std.proofs.Common.{◌≡◌, ◌∙◌, List, [], ◌∷◌, Bool, true, false, Option, Some, None, refl, sym, ap, ap₂, cond, map}
use Rattle.std.specs.List.{cons_option}
use Rattle.std.specs.Option.{option_map}
use Rattle.std.specs.Prelude.{codes, filter_map, find, flat_map, if◌then◌else◌}
use Rattle.pc_source.specs.declared.place.Place.{Place}
use Rattle.pc_tree.specs.declared.code.Code.{Code}
use Rattle.pc_tree.specs.declared.code.Code.TheVariants.{A1, A2, A3, A4, A5, A6, A7, A8, E01, E02, E03, E04, E05, E06}
use Rattle.pc_tree.specs.declared.code.Code.TheVariants.{E07, E08, E09, E10, E11, E12, E13, E14, E15, E16, E17, E18, E19, E20}
use Rattle.pc_tree.specs.declared.code.Code.TheVariants.{E21, E22, E23, E24, E25, E26, E27, E28, E29, E30, E31}
use Rattle.pc_tree.specs.declared.code.Finding.{Finding}
use Rattle.pc_tree.specs.Code.{finding}
use Rattle.pc_tree.specs.Tree.{ClassDef, Name, Module, Stmt, Stmts, Branches, while_loop, for_loop, conditional, no_stmts}
use Rattle.pc_tree.specs.Tree.{more_stmts, no_branches, more_branches, pass, breaks, continues, returns, asserts, annotated}
use Rattle.pc_tree.specs.Tree.{assigns, evaluates}
use Rattle.pc_scope.specs.Bindings.{Body, bodies, classes_in}
use Rattle.pc_types.specs.Tree.{Tree}
use Rattle.pc_notes.specs.Notes.{is_same_code, is_same_place}
use Rattle.pc_scope_findings.specs.Unreached.{first_token_place}
use Rattle.pc_detail_texts.specs.Details as detail
use Rattle.pc_detail_texts.specs.Details.{Detail}
use Rattle.pc_detail_rules.specs.Names.{base_detail, decorator_detail, default_order_detail, late_annotation_detail}
use Rattle.pc_detail_rules.specs.Names.{twice_member_detail}
use Rattle.pc_detail_rules.specs.Names.{Together, arguments_together, default_order_in, first_of_all, items_together, late_in}
use Rattle.pc_detail_rules.specs.Names.{first_named, name_at, parameters_together, place_of_name, reserved_detail}
use Rattle.pc_detail_rules.specs.Names.{twice_among}
use Rattle.pc_name_details.specs.Naming.{WalksAreExact, base_rule, below_rule, behind_rule, body_rule, branches_rule, names_of_classes}
use Rattle.pc_name_details.specs.Naming.{decorator_rule, given_rule, head_rule, members_rule, names_rule, statement_rule}
use Rattle.pc_name_details.specs.Naming.{statements_rule, suite_rule, walk_rule}
use Rattle.pc_detail_rules.specs.Nodes.{exprs_of_module, stmts_in, stmts_in_branches, stmts_in_suite}
use Rattle.pc_name_details.specs.Offered.{Rule, of_code, at_place}
use Rattle.pc_detail_rules.specs.Overrides.{detail_or}
use Rattle.pc_detail_rules.specs.Statements.{outside_loop_detail, unreachable_detail}
use Rattle.pc_detail_rules.specs.Statements.{behind_stmt, loose_at, loose_detail, unreached_after, unreached_below, unreached_in_branches, unreached_in_suite}
use Rattle.pc_name_details.proofs.NamingSteps.{all_append, both_ways}

none_after : (d : Option (Detail Tree)) → detail_or d None ≡ d
none_after None = refl
none_after (Some x) = refl

-- ---- lists

pub all_same : {A : Type 0} (r q : A → Option (Detail Tree)) (xs : List A) → ((x : A) → r x ≡ q x)
    → first_of_all r xs ≡ first_of_all q xs
all_same r q [] h = refl
all_same r q (x ∷ xs) h = ap₂ detail_or (h x) (all_same r q xs h)

pub all_nothing : {A : Type 0} (r : A → Option (Detail Tree)) (xs : List A) → ((x : A) → r x ≡ None)
    → first_of_all r xs ≡ None
all_nothing r [] h = refl
all_nothing r (x ∷ xs) h = ap₂ detail_or (h x) (all_nothing r xs h)

pub all_mapped : {A B : Type 0} (f : A → B) (r : B → Option (Detail Tree)) (xs : List A)
    → first_of_all r (map f xs) ≡ first_of_all (λ x. r (f x)) xs
all_mapped f r [] = refl
all_mapped f r (x ∷ xs) = ap (detail_or (r (f x))) (all_mapped f r xs)

-- ---- rules of another code

other_code : (c : Code) (r : Place → Option (Detail Tree)) (f : Finding) → is_same_code c f.code ≡ false
    → of_code c r f ≡ None
other_code c r f h = ap (λ (b : Bool). if b then r f.place else None) h

base_none : (names : List Name) (n : Option Name) (f : Finding) → is_same_code E07 f.code ≡ false
    → base_rule names n f ≡ None
base_none names None f h = refl
base_none names (Some n) f h = other_code E07 (at_place n.place
    (Some (detail.base n.text (option_map place_of_name (first_named n.text names))))) f h

heads_none : (names : List Name) (cs : List ClassDef) (f : Finding) → is_same_code E02 f.code ≡ false
    → is_same_code E07 f.code ≡ false → first_of_all (λ c. head_rule names c f) cs ≡ None
heads_none names cs f h g = all_nothing (λ c. head_rule names c f) cs
    (λ c. ap₂ detail_or (other_code E02 (at_place c.decorator
    (Some (detail.unknown_name (codes "dataclass") detail.not_imported))) f h) (base_none names c.base f g))

bodies_none : (bs : List Body) (f : Finding) → is_same_code E01 f.code ≡ false → is_same_code E31 f.code ≡ false
    → is_same_code E24 f.code ≡ false → first_of_all (λ b. body_rule b f) bs ≡ None
bodies_none bs f h g k = all_nothing (λ b. body_rule b f) bs
    (λ b. ap₂ detail_or (other_code E01 (λ p. twice_among p (parameters_together b)) f h)
    (ap₂ detail_or (other_code E31 (λ p. default_order_in p b) f g) (other_code E24 (λ p. late_in p b) f k)))

given_none : (ts : List Together) (f : Finding) → is_same_code E01 f.code ≡ false → given_rule ts f ≡ None
given_none ts f h = all_nothing (λ t. of_code E01 (λ p. twice_among p t) f) ts
    (λ t. other_code E01 (λ p. twice_among p t) f h)

-- ---- statements

module _ (f : Finding) (no_end : is_same_code E30 f.code ≡ false) (no_loop : is_same_code E05 f.code ≡ false) where
  behind_none : (before : Option Stmt) (s : Stmt) → behind_rule before s f ≡ None
  behind_none None s = refl
  behind_none (Some b) s = other_code E30 (at_place (first_token_place s) (Some (unreached_after b))) f no_end

  statement_none : (before : Option Stmt) (s : Stmt) → statement_rule before s f ≡ None
  statement_none before s = ap₂ detail_or (behind_none before s)
      (other_code E05 (at_place (first_token_place s) (loose_detail s)) f no_loop)

  mutual
    suite_none : (before : Option Stmt) (ss : Stmts) → suite_rule before ss f ≡ None
    suite_none before no_stmts = refl
    suite_none before (more_stmts s rest) =
        ap₂ detail_or (ap₂ detail_or (statement_none before s) (below_none s)) (suite_none (Some s) rest)

    below_none : (s : Stmt) → below_rule s f ≡ None
    below_none (pass p) = refl
    below_none (breaks p) = refl
    below_none (continues p) = refl
    below_none (returns p e) = refl
    below_none (asserts p e m) = refl
    below_none (annotated p n a e) = refl
    below_none (assigns p t e) = refl
    below_none (evaluates p e) = refl
    below_none (while_loop p e b) = suite_none None b
    below_none (for_loop p n e b) = suite_none None b
    below_none (conditional p bs o) = ap₂ detail_or (branches_none bs) (suite_none None o)

    branches_none : (bs : Branches) → branches_rule bs f ≡ None
    branches_none no_branches = refl
    branches_none (more_branches c b rest) = ap₂ detail_or (suite_none None b) (branches_none rest)

  pub statements_none : (bs : List Body) → statements_rule bs f ≡ None
  statements_none bs = all_nothing (λ b. suite_rule None b.function.body f) bs (λ b. suite_none None b.function.body)

module _ (p : Place) where
  -- ---- E30

  behind_is : (before : Option Stmt) (s : Stmt) → behind_rule before s (finding p E30) ≡ behind_stmt p before s
  behind_is None s = by (is_same_place p (first_token_place s))
    where
      by : (t : Bool) → ◌≡◌ {A = Option (Detail Tree)} None (if t then None else None)
      by true = refl
      by false = refl
  behind_is (Some b) s = refl

  mutual
    suite_end : (before : Option Stmt) (ss : Stmts)
        → suite_rule before ss (finding p E30) ≡ unreached_in_suite p before ss
    suite_end before no_stmts = refl
    suite_end before (more_stmts s rest) =
        ap₂ detail_or (ap₂ detail_or (none_after (behind_rule before s (finding p E30)) ∙ behind_is before s) (below_end s))
        (suite_end (Some s) rest)
        ∙ both_ways (behind_stmt p before s) (unreached_below p s) (unreached_in_suite p (Some s) rest)

    below_end : (s : Stmt) → below_rule s (finding p E30) ≡ unreached_below p s
    below_end (pass q) = refl
    below_end (breaks q) = refl
    below_end (continues q) = refl
    below_end (returns q e) = refl
    below_end (asserts q e m) = refl
    below_end (annotated q n a e) = refl
    below_end (assigns q t e) = refl
    below_end (evaluates q e) = refl
    below_end (while_loop q e b) = suite_end None b
    below_end (for_loop q n e b) = suite_end None b
    below_end (conditional q bs o) = ap₂ detail_or (branches_end bs) (suite_end None o)

    branches_end : (bs : Branches) → branches_rule bs (finding p E30) ≡ unreached_in_branches p bs
    branches_end no_branches = refl
    branches_end (more_branches c b rest) = ap₂ detail_or (suite_end None b) (branches_end rest)

  -- ---- E05

  behind_loop : (before : Option Stmt) (s : Stmt) → behind_rule before s (finding p E05) ≡ None
  behind_loop None s = refl
  behind_loop (Some b) s = refl

  mutual
    suite_loop : (before : Option Stmt) (ss : Stmts)
        → suite_rule before ss (finding p E05) ≡ first_of_all (loose_at p) (stmts_in_suite ss)
    suite_loop before no_stmts = refl
    suite_loop before (more_stmts s rest) =
        ap₂ detail_or (ap (λ (d : Option (Detail Tree)). detail_or (detail_or d (loose_at p s)) (below_rule s (finding p E05)))
        (behind_loop before s) ∙ stmt_loop s) (suite_loop (Some s) rest)
        ∙ sym (all_append (loose_at p) (stmts_in s) (stmts_in_suite rest))

    stmt_loop : (s : Stmt) → detail_or (loose_at p s) (below_rule s (finding p E05)) ≡ first_of_all (loose_at p) (stmts_in s)
    stmt_loop (pass q) = refl
    stmt_loop (breaks q) = refl
    stmt_loop (continues q) = refl
    stmt_loop (returns q e) = refl
    stmt_loop (asserts q e m) = refl
    stmt_loop (annotated q n a e) = refl
    stmt_loop (assigns q t e) = refl
    stmt_loop (evaluates q e) = refl
    stmt_loop (while_loop q e b) = ap (detail_or (loose_at p (while_loop q e b))) (suite_loop None b)
    stmt_loop (for_loop q n e b) = ap (detail_or (loose_at p (for_loop q n e b))) (suite_loop None b)
    stmt_loop (conditional q bs o) = ap (detail_or (loose_at p (conditional q bs o)))
        (ap₂ detail_or (branches_loop bs) (suite_loop None o)
        ∙ sym (all_append (loose_at p) (stmts_in_branches bs) (stmts_in_suite o)))

    branches_loop : (bs : Branches)
        → branches_rule bs (finding p E05) ≡ first_of_all (loose_at p) (stmts_in_branches bs)
    branches_loop no_branches = refl
    branches_loop (more_branches c b rest) = ap₂ detail_or (suite_loop None b) (branches_loop rest)
        ∙ sym (all_append (loose_at p) (stmts_in_suite b) (stmts_in_branches rest))

  -- ---- heads

  decorators : (x : Detail Tree) (cs : List ClassDef)
      → first_of_all (λ (c : ClassDef). if is_same_place p c.decorator then Some x else None) cs
      ≡ option_map (λ (c : ClassDef). x) (find (λ (c : ClassDef). is_same_place p c.decorator) cs)
  decorators x [] = refl
  decorators x (c ∷ cs) = by (decorators x cs) (is_same_place p c.decorator)
    where
      by : first_of_all (λ (d : ClassDef). if is_same_place p d.decorator then Some x else None) cs
          ≡ option_map (λ (d : ClassDef). x) (find (λ (d : ClassDef). is_same_place p d.decorator) cs) → (t : Bool) → detail_or (if t then Some x else None)
          (first_of_all (λ (d : ClassDef). if is_same_place p d.decorator then Some x else None) cs)
          ≡ option_map (λ (d : ClassDef). x) (cond t (Some c) (find (λ (d : ClassDef). is_same_place p d.decorator) cs))
      by e true = refl
      by e false = e

  -- the bases that classes name
  bases : (names : List Name) (cs : List (Option Name))
      → first_of_all (λ (n : Option Name). base_rule names n (finding p E07)) cs
      ≡ option_map (λ (n : Name). detail.base n.text (option_map place_of_name (first_named n.text names)))
      (name_at p (filter_map (λ (n : Option Name). n) cs))
  bases names [] = refl
  bases names (None ∷ cs) = bases names cs
  bases names (Some n ∷ cs) = by (bases names cs) (is_same_place p n.place)
    where
      by : first_of_all (λ (x : Option Name). base_rule names x (finding p E07)) cs
          ≡ option_map (λ (x : Name). detail.base x.text (option_map place_of_name (first_named x.text names)))
          (name_at p (filter_map (λ (x : Option Name). x) cs)) → (t : Bool) → detail_or
          (if t then Some (detail.base n.text (option_map place_of_name (first_named n.text names))) else None)
          (first_of_all (λ (x : Option Name). base_rule names x (finding p E07)) cs)
          ≡ option_map (λ (x : Name). detail.base x.text (option_map place_of_name (first_named x.text names)))
          (cond t (Some n) (name_at p (filter_map (λ (x : Option Name). x) cs)))
      by e true = refl
      by e false = e

  based : (cs : List ClassDef) → filter_map (λ (n : Option Name). n) (map (λ (c : ClassDef). c.base) cs)
      ≡ filter_map (λ (c : ClassDef). c.base) cs
  based [] = refl
  based (c ∷ cs) = by (based cs) c.base
    where
      by : filter_map (λ (n : Option Name). n) (map (λ (d : ClassDef). d.base) cs) ≡ filter_map (λ (d : ClassDef). d.base) cs
          → (o : Option Name) → filter_map (λ (n : Option Name). n) (o ∷ map (λ (d : ClassDef). d.base) cs)
          ≡ cons_option o (filter_map (λ (d : ClassDef). d.base) cs)
      by e None = e
      by e (Some n) = ap (λ (l : List Name). n ∷ l) e

  heads_decorated : (names : List Name) (cs : List ClassDef)
      → first_of_all (λ (c : ClassDef). head_rule names c (finding p E02)) cs
      ≡ option_map (λ (c : ClassDef). detail.unknown_name (codes "dataclass") detail.not_imported)
      (find (λ (c : ClassDef). is_same_place p c.decorator) cs)
  heads_decorated names cs = all_same (λ (c : ClassDef). head_rule names c (finding p E02))
      (λ (c : ClassDef). if is_same_place p c.decorator
      then Some (detail.unknown_name (codes "dataclass") detail.not_imported) else None) cs
      (λ c. ap (detail_or (decorator_rule c (finding p E02))) (base_none names c.base (finding p E02) refl)
      ∙ none_after (decorator_rule c (finding p E02)))
      ∙ decorators (detail.unknown_name (codes "dataclass") detail.not_imported) cs

  heads_based : (names : List Name) (cs : List ClassDef)
      → first_of_all (λ (c : ClassDef). head_rule names c (finding p E07)) cs
      ≡ option_map (λ (n : Name). detail.base n.text (option_map place_of_name (first_named n.text names)))
      (name_at p (filter_map (λ (c : ClassDef). c.base) cs))
  heads_based names cs =
      sym (all_mapped (λ (c : ClassDef). c.base) (λ (n : Option Name). base_rule names n (finding p E07)) cs)
      ∙ bases names (map (λ (c : ClassDef). c.base) cs)
      ∙ ap (λ (l : List Name). option_map
      (λ (n : Name). detail.base n.text (option_map place_of_name (first_named n.text names))) (name_at p l)) (based cs)

-- ---- all codes

module _ (m : Module) (p : Place) (given : List Together) where
  -- what is left where the names of heads, of functions and of calls have no such code
  rest_none : (c : Code) → is_same_code E02 c ≡ false → is_same_code E07 c ≡ false → is_same_code E01 c ≡ false
      → is_same_code E31 c ≡ false → is_same_code E24 c ≡ false → is_same_code E30 c ≡ false → is_same_code E05 c ≡ false
      → (a b d : Option (Detail Tree)) → detail_or (detail_or a (detail_or b (detail_or
      (first_of_all (λ x. head_rule (names_of_classes (classes_in m.items)) x (finding p c)) (classes_in m.items))
      (detail_or d (first_of_all (λ x. body_rule x (finding p c)) (bodies m))))))
      (detail_or (statements_rule (bodies m) (finding p c)) (given_rule given (finding p c)))
      ≡ detail_or a (detail_or b d)
  rest_none c h2 h7 h1 h31 h24 h30 h5 a b d =
      ap₂ detail_or (ap (detail_or a) (ap (detail_or b) (ap₂ detail_or
      (heads_none (names_of_classes (classes_in m.items)) (classes_in m.items) (finding p c) h2 h7)
      (ap (detail_or d) (bodies_none (bodies m) (finding p c) h1 h31 h24) ∙ none_after d))))
      (ap₂ detail_or (statements_none (finding p c) h30 h5 (bodies m)) (given_none given (finding p c) h1))
      ∙ none_after (detail_or a (detail_or b d))

-- the arguments by name of the calls of a module
abbrev given_in : Module → List Together
given_in m = flat_map arguments_together (exprs_of_module m)

pub walks_are_exact : WalksAreExact
walks_are_exact m p E01 =
    let bs = bodies m in
    let given = given_in m in
    let own = twice_among p (items_together m) in
    ap₂ detail_or (ap (detail_or own) (ap₂ detail_or (heads_none (names_of_classes (classes_in m.items)) (classes_in m.items)
    (finding p E01) refl refl) (all_same (λ b. body_rule b (finding p E01)) (λ b. twice_among p (parameters_together b)) bs
    (λ b. none_after (twice_among p (parameters_together b))))))
    (ap (λ (d : Option (Detail Tree)). detail_or d (first_of_all (twice_among p) given))
    (statements_none (finding p E01) refl refl bs))
    ∙ both_ways own (first_of_all (λ b. twice_among p (parameters_together b)) bs) (first_of_all (twice_among p) given)
    ∙ ap (detail_or own) (sym (all_append (twice_among p) (map parameters_together bs) given
    ∙ ap (λ (d : Option (Detail Tree)). detail_or d (first_of_all (twice_among p) given))
    (all_mapped parameters_together (twice_among p) bs)))
walks_are_exact m p E02 =
    ap₂ detail_or (ap₂ detail_or (heads_decorated p (names_of_classes (classes_in m.items)) (classes_in m.items))
    (bodies_none (bodies m) (finding p E02) refl refl refl))
    (ap₂ detail_or (statements_none (finding p E02) refl refl (bodies m)) (given_none (given_in m) (finding p E02) refl))
    ∙ none_after (detail_or (decorator_detail m p) None) ∙ none_after (decorator_detail m p)
walks_are_exact m p E05 =
    ap₂ detail_or (ap₂ detail_or (heads_none (names_of_classes (classes_in m.items)) (classes_in m.items) (finding p E05) refl refl)
    (bodies_none (bodies m) (finding p E05) refl refl refl))
    (ap₂ detail_or (all_same (λ b. suite_rule None b.function.body (finding p E05))
    (λ b. first_of_all (loose_at p) (stmts_in_suite b.function.body)) (bodies m)
    (λ b. suite_loop p None b.function.body)) (given_none (given_in m) (finding p E05) refl)) ∙ none_after (outside_loop_detail m p)
walks_are_exact m p E06 =
    rest_none m p (given_in m) E06 refl refl refl refl refl refl refl None None (members_rule m (finding p E06)) ∙ none_after (twice_member_detail m p)
walks_are_exact m p E07 =
    ap₂ detail_or (ap₂ detail_or (heads_based p (names_of_classes (classes_in m.items)) (classes_in m.items))
    (bodies_none (bodies m) (finding p E07) refl refl refl))
    (ap₂ detail_or (statements_none (finding p E07) refl refl (bodies m)) (given_none (given_in m) (finding p E07) refl))
    ∙ none_after (detail_or (base_detail m p) None) ∙ none_after (base_detail m p)
walks_are_exact m p E08 =
    rest_none m p (given_in m) E08 refl refl refl refl refl refl refl None None (members_rule m (finding p E08))
walks_are_exact m p E24 =
    ap₂ detail_or (ap₂ detail_or (heads_none (names_of_classes (classes_in m.items)) (classes_in m.items) (finding p E24) refl refl)
    (all_same (λ b. body_rule b (finding p E24)) (λ b. late_in p b) (bodies m) (λ b. refl)))
    (ap₂ detail_or (statements_none (finding p E24) refl refl (bodies m)) (given_none (given_in m) (finding p E24) refl))
    ∙ none_after (late_annotation_detail m p)
walks_are_exact m p E29 =
    rest_none m p (given_in m) E29 refl refl refl refl refl refl refl None (reserved_detail m p) None ∙ none_after (reserved_detail m p)
walks_are_exact m p E30 =
    ap₂ detail_or (ap₂ detail_or (heads_none (names_of_classes (classes_in m.items)) (classes_in m.items) (finding p E30) refl refl)
    (bodies_none (bodies m) (finding p E30) refl refl refl))
    (ap₂ detail_or (all_same (λ b. suite_rule None b.function.body (finding p E30))
    (λ b. unreached_in_suite p None b.function.body) (bodies m)
    (λ b. suite_end p None b.function.body)) (given_none (given_in m) (finding p E30) refl)) ∙ none_after (unreachable_detail m p)
walks_are_exact m p E31 =
    ap₂ detail_or (ap₂ detail_or (heads_none (names_of_classes (classes_in m.items)) (classes_in m.items) (finding p E31) refl refl)
    (all_same (λ b. body_rule b (finding p E31)) (λ b. default_order_in p b) (bodies m)
    (λ b. none_after (default_order_in p b))))
    (ap₂ detail_or (statements_none (finding p E31) refl refl (bodies m)) (given_none (given_in m) (finding p E31) refl))
    ∙ none_after (default_order_detail m p)
walks_are_exact m p A1 = rest_none m p (given_in m) A1 refl refl refl refl refl refl refl None None None
walks_are_exact m p A2 = rest_none m p (given_in m) A2 refl refl refl refl refl refl refl None None None
walks_are_exact m p A3 = rest_none m p (given_in m) A3 refl refl refl refl refl refl refl None None None
walks_are_exact m p A4 = rest_none m p (given_in m) A4 refl refl refl refl refl refl refl None None None
walks_are_exact m p A5 = rest_none m p (given_in m) A5 refl refl refl refl refl refl refl None None None
walks_are_exact m p A6 = rest_none m p (given_in m) A6 refl refl refl refl refl refl refl None None None
walks_are_exact m p A7 = rest_none m p (given_in m) A7 refl refl refl refl refl refl refl None None None
walks_are_exact m p A8 = rest_none m p (given_in m) A8 refl refl refl refl refl refl refl None None None
walks_are_exact m p E03 = rest_none m p (given_in m) E03 refl refl refl refl refl refl refl None None None
walks_are_exact m p E04 = rest_none m p (given_in m) E04 refl refl refl refl refl refl refl None None None
walks_are_exact m p E09 = rest_none m p (given_in m) E09 refl refl refl refl refl refl refl None None None
walks_are_exact m p E10 = rest_none m p (given_in m) E10 refl refl refl refl refl refl refl None None None
walks_are_exact m p E11 = rest_none m p (given_in m) E11 refl refl refl refl refl refl refl None None None
walks_are_exact m p E12 = rest_none m p (given_in m) E12 refl refl refl refl refl refl refl None None None
walks_are_exact m p E13 = rest_none m p (given_in m) E13 refl refl refl refl refl refl refl None None None
walks_are_exact m p E14 = rest_none m p (given_in m) E14 refl refl refl refl refl refl refl None None None
walks_are_exact m p E15 = rest_none m p (given_in m) E15 refl refl refl refl refl refl refl None None None
walks_are_exact m p E16 = rest_none m p (given_in m) E16 refl refl refl refl refl refl refl None None None
walks_are_exact m p E17 = rest_none m p (given_in m) E17 refl refl refl refl refl refl refl None None None
walks_are_exact m p E18 = rest_none m p (given_in m) E18 refl refl refl refl refl refl refl None None None
walks_are_exact m p E19 = rest_none m p (given_in m) E19 refl refl refl refl refl refl refl None None None
walks_are_exact m p E20 = rest_none m p (given_in m) E20 refl refl refl refl refl refl refl None None None
walks_are_exact m p E21 = rest_none m p (given_in m) E21 refl refl refl refl refl refl refl None None None
walks_are_exact m p E22 = rest_none m p (given_in m) E22 refl refl refl refl refl refl refl None None None
walks_are_exact m p E23 = rest_none m p (given_in m) E23 refl refl refl refl refl refl refl None None None
walks_are_exact m p E25 = rest_none m p (given_in m) E25 refl refl refl refl refl refl refl None None None
walks_are_exact m p E26 = rest_none m p (given_in m) E26 refl refl refl refl refl refl refl None None None
walks_are_exact m p E27 = rest_none m p (given_in m) E27 refl refl refl refl refl refl refl None None None
walks_are_exact m p E28 = rest_none m p (given_in m) E28 refl refl refl refl refl refl refl None None None
