-- Walks keep the number of locals, and statements leave each local that they do not touch unchanged: so whatever agreed
-- with the environment before them agrees with the one after them.
use Rattle.std.proofs.Common.{◌≡◌, ◌∙◌, ℕ, List, [], ◌∷◌, ◌++◌, Option, Some, None, length, append-nil, refl, sym}
use Rattle.std.proofs.Common.{subst}
use Rattle.std.specs.Prelude.{Bool as Test, true, false, nat_eq}
use Rattle.std.proofs.lemmas.Bool.{eq-eqb, or_left, or_right}
use Rattle.std.proofs.lemmas.List.{length-set}
use Rattle.std.proofs.lemmas.List.Elements.{filter_map-append}
use Rattle.std.specs.Option.{option_map}
use Rattle.pc_source.specs.declared.place.Place.{Place}
use Rattle.pc_tree.specs.Tree.{Name, Expr, Stmt, Stmts, Branches}
use Rattle.pc_tree.specs.Tree.{conditional, no_stmts, more_stmts, no_branches}
use Rattle.pc_tree.specs.Tree.{more_branches}
use Rattle.pc_tree.specs.Stopping.{bound_by, bound_by_stmt, bound_by_branches}
use Rattle.pc_scope.specs.declared.resolution.NameMeaning.{NameMeaning}
use Rattle.pc_scope.specs.declared.resolution.NameMeaning.TheVariants as meaning
use Rattle.pc_types.specs.Tree.{Tree}
use Rattle.pc_types.specs.Below.{Bases}
use Rattle.pc_class.specs.Facts.{TypedParameter}
use Rattle.pc_flow.specs.Environment.{Env, current}
use Rattle.pc_flow.specs.Narrowing.{as_local}
use Rattle.pc_flow.specs.WellFormed.{IsWellFormedIfAny, IsWellFormedEnv}
use Rattle.pc_flow.specs.Stored.{env_of}
use Rattle.pc_flow.proofs.Conditions.{current_well_formed}
use Rattle.pc_notes.specs.Notes.{Note}
use Rattle.pc_module_rules.specs.Computed.Statements.{BodyContext, DeclaredTypes, Walk, BranchesResult, bound_type}
use Rattle.pc_module_rules.specs.Computed.Statements.{narrowed_at, bind_item, with_note, step, walk_suite}
use Rattle.pc_module_rules.specs.Computed.Statements.{walk_branches}
use Rattle.pc_module_rules.specs.Computed.Statements.{enter_local, enter_name, enter_parameters}
use Rattle.pc_flow.specs.Agreement.{is_among, AgreeOutside}
use Rattle.pc_flow.specs.Narrowing.{tested_locals}
use Rattle.pc_walk.specs.Touched.{numbers_of, tested_in_stmt, tested_in, tested_in_branches, touched_by_stmt}
use Rattle.pc_walk.specs.Touched.{touched_by, touched_by_branches, touched_by_while, touched_by_for}
use Rattle.pc_walk.specs.Untouched.{AreAmong, WaysAgree}
use Rattle.pc_walk.specs.StatementsHeld.{HoldsTypesIfAny}
use Rattle.pc_walk.proofs.KeptLocals.{IsKept, IsKeptIfAny, apart_both}
use Rattle.pc_walk.proofs.Untouched.{narrowed_here, item_here, noted_here, step_here, suite_here, branches_here}
use Rattle.pc_walk.proofs.Untouched.{among_apart, none_apart, long_kept}
use Rattle.pc_check.specs.Internal.StatementWalk.{IsAsLongIfAny, HasAllLocals}

-- ---- numbers of locals

none_kept : (table : DeclaredTypes) (env : Option Env) → IsAsLongIfAny table env → IsKeptIfAny (λ x. ⊥) table env
none_kept table None l = tt
none_kept table (Some env) l = long_kept table env l

kept_long : (base table : DeclaredTypes) (env : Option Env) → length table ≡ length base → IsKeptIfAny (λ x. ⊥) base env
    → IsAsLongIfAny table env
kept_long base table None l h = tt
kept_long base table (Some env) l h = h.long ∙ sym l

pub suite_long : (context : BodyContext) (w : Walk) (b : Stmts) → HasAllLocals w → HasAllLocals (walk_suite context w b)
suite_long context w b l =
    let behind = suite_here context (λ x. ⊥) w.table (λ x k. absurd k) w b refl (none_kept w.table w.env l.env_long)
    (none_apart w.table (numbers_of context.context.resolve (bound_by b)))
    (none_apart w.table (tested_in context.context.resolve b)) in
    let out = walk_suite context w b in
    record {
      env_long = kept_long w.table out.table out.env behind.long behind.env_here;
      exit_env_long = kept_long w.table out.table out.exit_env behind.long
          (behind.exit_env_here (none_kept w.table w.exit_env l.exit_env_long));
    }

pub step_long : (context : BodyContext) (table : DeclaredTypes) (env exit_env : Option Env) (found : List Note) (s : Stmt)
    → HasAllLocals (record { table = table; env = env; exit_env = exit_env; found = found })
    → HasAllLocals (step context table env exit_env found s)
step_long context table env exit_env found s l = suite_long context
    (record { table = table; env = env; exit_env = exit_env; found = found }) (more_stmts s no_stmts) l

-- ---- lists of locals

pub among_left : (locals xs ys : List ℕ) → AreAmong locals (xs ++ ys) → AreAmong locals xs
among_left locals [] ys h = tt
among_left locals (x ∷ xs) ys h = (h.0, among_left locals xs ys h.1)

pub among_right : (locals xs ys : List ℕ) → AreAmong locals (xs ++ ys) → AreAmong locals ys
among_right locals [] ys h = h
among_right locals (x ∷ xs) ys h = among_right locals xs ys h.1

-- ---- ways that agree

-- a local is none of these
abbrev Outside : List ℕ → ℕ → Type 0
Outside locals x = is_among locals x ≡ false

-- ---- locals that branches touch

-- a list of locals is among others if each of its members is
among_each : (locals xs : List ℕ) → ((x : ℕ) → is_among xs x ≡ true → is_among locals x ≡ true) → AreAmong locals xs
among_each locals [] f = tt
among_each locals (x ∷ xs) f = (
  f x (or_left (nat_eq x x) (is_among xs x) (eq-eqb x x refl)),
  among_each locals xs (λ y e. f y (or_right (nat_eq y x) (is_among xs y) e)),
)

pub among_same : (locals xs : List ℕ) → ((x : ℕ) → is_among locals x ≡ is_among xs x) → AreAmong locals xs
among_same locals xs f = among_each locals xs (λ x e. f x ∙ e)

among_both : (locals xs ys : List ℕ) → AreAmong locals xs → AreAmong locals ys → AreAmong locals (xs ++ ys)
among_both locals [] ys h k = k
among_both locals (x ∷ xs) ys h k = (h.0, among_both locals xs ys h.1 k)

module _ (resolve : List ℕ → NameMeaning) (locals : List ℕ) where
  names_parts : (a b : List Name) → AreAmong locals (numbers_of resolve (a ++ b))
      → AreAmong locals (numbers_of resolve a) × AreAmong locals (numbers_of resolve b)
  names_parts a b h =
      let e = filter_map-append (λ (n : Name). as_local (resolve n.text)) a b in
      let k = subst (AreAmong locals) e h in (
        among_left locals (numbers_of resolve a) (numbers_of resolve b) k,
        among_right locals (numbers_of resolve a)
            (numbers_of resolve b) k,
      )

  -- the first of several, and the others
  pub first_touched : (c : Expr) (b : Stmts) (rest : Branches)
      → AreAmong locals (touched_by_branches resolve (more_branches c b rest))
      → AreAmong locals (touched_by_branches resolve (more_branches c b no_branches))
  first_touched c b rest h =
      let bound = numbers_of resolve (bound_by b ++ bound_by_branches rest) in
      let conditions = tested_locals resolve c in
      let within = tested_in resolve b in
      let names = names_parts (bound_by b) (bound_by_branches rest)
      (among_left locals bound (conditions ++ (within ++ tested_in_branches resolve rest)) h) in
      let tests = among_right locals bound (conditions ++ (within ++ tested_in_branches resolve rest)) h in
      let none : AreAmong locals (numbers_of resolve (bound_by b ++ [])) =
      subst (λ ns. AreAmong locals (numbers_of resolve ns)) (sym (append-nil (bound_by b))) names.0 in
      among_both locals (numbers_of resolve (bound_by b ++ [])) (conditions ++ (within ++ [])) none
      (among_both locals conditions (within ++ []) (among_left locals conditions
      (within ++ tested_in_branches resolve rest) tests)
      (among_both locals within [] (among_left locals within (tested_in_branches resolve rest)
      (among_right locals conditions (within ++ tested_in_branches resolve rest) tests)) tt))

  pub later_touched : (c : Expr) (b : Stmts) (rest : Branches)
      → AreAmong locals (touched_by_branches resolve (more_branches c b rest))
      → AreAmong locals (touched_by_branches resolve rest)
  later_touched c b rest h =
      let bound = numbers_of resolve (bound_by b ++ bound_by_branches rest) in
      let conditions = tested_locals resolve c in
      let within = tested_in resolve b in
      let names = names_parts (bound_by b) (bound_by_branches rest)
      (among_left locals bound (conditions ++ (within ++ tested_in_branches resolve rest)) h) in
      let tests = among_right locals bound (conditions ++ (within ++ tested_in_branches resolve rest)) h in
      among_both locals (numbers_of resolve (bound_by_branches rest)) (tested_in_branches resolve rest) names.1
      (among_right locals within (tested_in_branches resolve rest)
      (among_right locals conditions (within ++ tested_in_branches resolve rest) tests))

-- ---- breaks

-- an environment that there may be is of well-formed types
abbrev pub WellFormedIfAny : Bases → Option Env → Type 0
WellFormedIfAny bases None = Unit {0}
WellFormedIfAny bases (Some env) = IsWellFormedEnv bases env

pub well_formed_if_any : {Ty : Type 0} (has : Ty → Type 0) (tree : Ty → Tree) (bases : Bases)
    (types : Option (List (Option Ty))) → HoldsTypesIfAny has tree bases types
    → WellFormedIfAny bases (option_map (env_of tree) types)
well_formed_if_any has tree bases None h = tt
well_formed_if_any has tree bases (Some types) h = h.well_formed

module _ (context : BodyContext) (locals : List ℕ) where
  abbrev resolved : List ℕ → NameMeaning
  resolved = context.context.resolve

  -- a base that agrees with an environment outside some locals agrees with each one that is the same there
  agree_kept : (base : Option Env) (env : Env) (out : Option Env) → WaysAgree locals base (Some env)
      → IsKeptIfAny (Outside locals) env out → WaysAgree locals base out
  agree_kept None env out h g = tt
  agree_kept (Some b) env None h g = tt
  agree_kept (Some b) env (Some e) h g = λ x k. h x k ∙ sym (g.same x k)

  no_out : (base : Option Env) → WaysAgree locals base None
  no_out None = tt
  no_out (Some b) = tt

  -- two parts of what statements touch
  touched_parts : (a b : List Name) (s t : List ℕ) → AreAmong locals (numbers_of resolved (a ++ b) ++ (s ++ t))
      → AreAmong locals (numbers_of resolved a ++ s) × AreAmong locals (numbers_of resolved b ++ t)
  touched_parts a b s t h =
      let names = names_parts resolved locals a b (among_left locals (numbers_of resolved (a ++ b)) (s ++ t) h) in
      let tests = among_right locals (numbers_of resolved (a ++ b)) (s ++ t) h in (
        among_both locals (numbers_of resolved a) s names.0 (among_left locals s t tests),
        among_both locals (numbers_of resolved b) t names.1 (among_right locals s t tests),
      )

  pub branch_parts : (c : Expr) (b : Stmts)
      → AreAmong locals (touched_by_branches resolved (more_branches c b no_branches))
      → AreAmong locals (tested_locals resolved c) × AreAmong locals (touched_by resolved b)
  branch_parts c b h =
      let bound = numbers_of resolved (bound_by b ++ []) in
      let tests = among_right locals bound (tested_locals resolved c ++ (tested_in resolved b ++ [])) h in
      let names = names_parts resolved locals (bound_by b) [] (among_left locals bound
      (tested_locals resolved c ++ (tested_in resolved b ++ [])) h) in (
        among_left locals (tested_locals resolved c) (tested_in resolved b ++ []) tests,
        among_both locals (numbers_of resolved (bound_by b)) (tested_in resolved b) names.0
            (among_left locals (tested_in resolved b) [] (among_right locals (tested_locals resolved c)
            (tested_in resolved b ++ []) tests)),
      )

  pub while_parts : (c : Expr) (b : Stmts) → AreAmong locals (touched_by_while resolved c b)
      → AreAmong locals (tested_locals resolved c) × AreAmong locals (touched_by resolved b)
  while_parts c b h =
      let bound = numbers_of resolved (bound_by b) in
      let conditions = tested_locals resolved c in
      let within = tested_in resolved b in
      let tests = among_right locals bound (conditions ++ within) h in (
        among_left locals conditions within tests,
        among_both locals bound within (among_left locals bound (conditions ++ within) h)
            (among_right locals conditions within tests),
      )

  -- ---- statements

  pub first_among : (s : Stmt) (rest : Stmts) → AreAmong locals (touched_by resolved (more_stmts s rest))
      → AreAmong locals (touched_by_stmt resolved s)
  first_among s rest t = (touched_parts (bound_by_stmt s) (bound_by rest) (tested_in_stmt resolved s)
      (tested_in resolved rest) t).0

  pub later_among : (s : Stmt) (rest : Stmts) → AreAmong locals (touched_by resolved (more_stmts s rest))
      → AreAmong locals (touched_by resolved rest)
  later_among s rest t = (touched_parts (bound_by_stmt s) (bound_by rest) (tested_in_stmt resolved s)
      (tested_in resolved rest) t).1

  -- after a statement
  pub step_agrees : (table : DeclaredTypes) (env exit_env : Option Env) (found : List Note) (s : Stmt) (base : Option Env) →
      WellFormedIfAny context.context.bases env →
      HasAllLocals (record { table = table; env = env; exit_env = exit_env; found = found }) →
      AreAmong locals (touched_by_stmt resolved s) →
      WaysAgree locals base env →
      WaysAgree locals base (step context table env exit_env found s).env
  step_agrees table None exit_env found s base w l h a = no_out base
  step_agrees table (Some env) exit_env found s base w l h a =
      let kind = Outside locals in
      let apart = apart_both kind env (numbers_of resolved (bound_by_stmt s)) (tested_in_stmt resolved s)
      (among_apart locals env (touched_by_stmt resolved s) h) in
      let behind = step_here context kind env (λ x o. current_well_formed context.context.bases env x w) table
      (Some env) exit_env found s (sym l.env_long) (record { long = refl; same = λ x k. refl }) apart.0 apart.1 in
      agree_kept base env (step context table (Some env) exit_env found s).env a behind.env_here

  -- ---- branches

  -- where a condition is true, and where it is false
  pub narrowed_agrees : (table : DeclaredTypes) (last : Env) (holds : Test) (c : Expr) (base : Option Env) →
      IsWellFormedEnv context.context.bases last →
      length last ≡ length table →
      AreAmong locals (tested_locals resolved c) →
      WaysAgree locals base (Some last) →
      WaysAgree locals base (Some (narrowed_at context table holds c last))
  narrowed_agrees table last holds c base w l h a =
      let kept = narrowed_here context (Outside locals) last (λ x o. current_well_formed context.context.bases last x w)
      table holds c last (sym l) (among_apart locals last (tested_locals resolved c) h)
      (record { long = refl; same = λ x k. refl }) in
      agree_kept base last (Some (narrowed_at context table holds c last)) a kept

  -- after all branches
  pub branches_agree : (table : DeclaredTypes) (last : Env) (exit_env : Option Env) (found : List Note) (bs : Branches)
      (base : Option Env) →
      IsWellFormedEnv context.context.bases last →
      length last ≡ length table →
      AreAmong locals (touched_by_branches resolved bs) →
      WaysAgree locals base (Some last) →
      WaysAgree locals base (Some (walk_branches context (record {
        table = table;
        last = last;
        ways = None;
        exit_env = exit_env;
        found = found;
      }) bs).last)
  branches_agree table last exit_env found bs base w l h a =
      let kind = Outside locals in
      let apart = apart_both kind last (numbers_of resolved (bound_by_branches bs)) (tested_in_branches resolved bs)
      (among_apart locals last (touched_by_branches resolved bs) h) in
      let start : BranchesResult = record { table = table; last = last; ways = None; exit_env = exit_env; found = found } in
      let behind = branches_here context kind last (λ x o. current_well_formed context.context.bases last x w) start bs
      (sym l) (record { long = refl; same = λ x k. refl }) tt apart.0 apart.1 in
      agree_kept base last (Some (walk_branches context start bs).last) a behind.last_here

  -- if the locals that an `if` touches are among some, so are those of its branches and of its suite of `else`
  pub if_parts : (p : Place) (bs : Branches) (o : Stmts)
      → AreAmong locals (touched_by_stmt resolved (conditional p bs o))
      → AreAmong locals (touched_by_branches resolved bs) × AreAmong locals (touched_by resolved o)
  if_parts p bs o h = touched_parts (bound_by_branches bs) (bound_by o) (tested_in_branches resolved bs)
      (tested_in resolved o) h

  -- ---- loops

  -- the ways from the head of a `while`
  pub while_agrees : (table : DeclaredTypes) (head : Env) (c : Expr) (b : Stmts) →
      IsWellFormedEnv context.context.bases head →
      length head ≡ length table →
      AreAmong locals (touched_by_while resolved c b) →
      AgreeOutside locals (narrowed_at context table false c head) (narrowed_at context table true c head)
  while_agrees table head c b w l h =
      let fine : (x : ℕ) → Outside locals x → IsWellFormedIfAny context.context.bases (current head x) =
      λ x o. current_well_formed context.context.bases head x w in
      let apart = among_apart locals head (tested_locals resolved c) (while_parts c b h).0 in
      let same : IsKept (Outside locals) head head = record { long = refl; same = λ x k. refl } in
      let out = narrowed_here context (Outside locals) head fine table false c head (sym l) apart same in
      let start = narrowed_here context (Outside locals) head fine table true c head (sym l) apart same in
      λ x k. out.same x k ∙ sym (start.same x k)

  -- the head of a `for`, and what stands in it
  pub for_agrees : (table : DeclaredTypes) (head : Env) (n : Name) (b : Stmts) (p : Place) (t : Tree) (found : List Note) →
      IsWellFormedEnv context.context.bases head →
      length head ≡ length table →
      AreAmong locals (touched_by_for resolved n b) →
      AgreeOutside locals head (with_note context true (resolved n.text) n.place
      (bind_item context table head (resolved n.text) p t found)).env
  for_agrees table head n b p t found w l h =
      let kind = Outside locals in
      let fine : (x : ℕ) → Outside locals x → IsWellFormedIfAny context.context.bases (current head x) =
      λ x o. current_well_formed context.context.bases head x w in
      let bound = numbers_of resolved (n ∷ bound_by b) in
      let numbers = among_left locals bound (tested_in resolved b) h in
      let inside = noted_here context kind head fine context.keeps true (resolved n.text) n.place
      (bind_item context table head (resolved n.text) p t found)
      (item_here context kind head fine table head (resolved n.text) p t found
      (numbers_of resolved (bound_by b)) (sym l) (among_apart locals head bound numbers)
      (record { long = refl; same = λ x k. refl })) in
      λ x k. sym (inside.env_here.same x k)

-- ---- the entry of a function

entered_name_long : (table : DeclaredTypes) (env : Env) (r : NameMeaning) (t : Tree) → length env ≡ length table
    → length (enter_name table env r t).1 ≡ length (enter_name table env r t).0
entered_name_long table env (meaning.Local x) t l = go (bound_type table x)
  where
    go : (o : Option Tree) → length (enter_local o table env x t).1 ≡ length (enter_local o table env x t).0
    go (Some d) = l
    go None = length-set env x (Some t) ∙ l ∙ sym (length-set table x (Some t))
entered_name_long table env (meaning.Const i) t l = l
entered_name_long table env (meaning.Func i) t l = l
entered_name_long table env (meaning.Class i) t l = l
entered_name_long table env (meaning.Builtin b) t l = l
entered_name_long table env meaning.None t l = l

pub entered_long : (resolve : List ℕ → NameMeaning) (table : DeclaredTypes) (env : Env) (ps : List TypedParameter)
    → length env ≡ length table → length (enter_parameters resolve table env ps).1
    ≡ length (enter_parameters resolve table env ps).0
entered_long resolve table env [] l = l
entered_long resolve table env (p ∷ ps) l =
    let r = enter_name table env (resolve p.name) p.type in
    entered_long resolve r.0 r.1 ps (entered_name_long table env (resolve p.name) p.type l)
