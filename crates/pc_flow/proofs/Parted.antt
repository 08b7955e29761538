-- The loop over the members of a type that separates those that pass a test from those that fail it.
use Rattle.std.proofs.Common.{◌≡◌, ◌+◌, ◌<◌, ◌≤◌, ℕ, List, ◌++◌, Option, Some, None, refl, sym, ap, ◌∙◌, append_assoc}
use Rattle.std.proofs.Common.{length, get_or}
use Rattle.std.specs.Prelude.{All, map, option_to_list}
use Rattle.std.specs.Option.{option_map}
use Rattle.std.specs.List.{filter_map, cons_option}
use Rattle.std.proofs.Common.{drop}
use Rattle.std.proofs.lemmas.List.{append-nil, map_push}
use Rattle.std.proofs.lemmas.List.Elements.{All-push}
use Rattle.pc_types.specs.Tree.{Tree}
use Rattle.pc_types.specs.Below.{Bases}
use Rattle.pc_types.specs.Shape.{members as members_of, union}
use Rattle.pc_types.specs.Store.{KeepsTypes}
use Rattle.pc_flow.specs.Narrowing.{member_passing, member_failing, type_where_true, type_where_false}
use Rattle.pc_flow.specs.Stored.{HasOne, GivesOne}
use Rattle.pc_flow.specs.declared.testing.Left.{Left}
use Rattle.pc_flow.specs.declared.testing.Test.{Test}
use Rattle.pc_flow.specs.Tests.{tested_of, GivesLeft}
use Rattle.pc_flow.proofs.Given.{keeps_both, all_kept}
use Rattle.pc_flow.proofs.Rest.{mapped_rest, mapped_end}

module _ {Store Ty : Type 0} (has : Store → Ty → Type 0) (tree : Ty → Tree) where
  add_given : (store : Store) (types : List Ty) (o : Option Ty) → All (has store) types → HasOne (has store) o
      → All (has store) (types ++ option_to_list o)
  add_given store types None h k = rw (append-nil types) h
  add_given store types (Some ty) h k = All-push (has store) types ty h k

  add_trees : (types : List Ty) (o : Option Ty) (t : Option Tree) (rest : List Tree) → option_map tree o ≡ t
      → map tree (types ++ option_to_list o) ++ rest ≡ map tree types ++ cons_option t rest
  add_trees types None t rest e = rw (← e, append-nil types) refl
  add_trees types (Some ty) t rest e = rw (← e, map_push tree types ty, append_assoc) refl

  -- the types left by a rule of so many members are collected; those of the rest are to come
  pub record IsLeft (rule : Tree → Option Tree) (members : List Ty) (store : Store) (i : ℕ) (types : List Ty) : Type
      0 where
    pub given : All (has store) types
    pub rest : map tree types ++ filter_map rule (drop i (map tree members)) ≡ filter_map rule (map tree members)

  module _ (rule : Tree → Option Tree) (members : List Ty) where
    pub left_more : (old new : Store) (i : ℕ) (types : List Ty) (m : Ty) (o : Option Ty) → i < length members
        → m ≡ get_or members i m → KeepsTypes has old new → IsLeft rule members old i types
        → GivesOne has tree new o (rule (tree m)) → IsLeft rule members new (i + 1) (types ++ option_to_list o)
    left_more old new i types m o h e k l g = record {
      given = add_given new types o (all_kept has old new k types l.given) g.given;
      rest = add_trees types o (rule (tree m)) (filter_map rule (drop (i + 1) (map tree members))) g.is
          ∙ (rw (mapped_rest tree members i m h e) at l.rest);
    }

    pub left_all : (store : Store) (i : ℕ) (types : List Ty) → length members ≤ i → IsLeft rule members store i types
        → map tree types ≡ filter_map rule (map tree members)
    left_all store i types h l = sym (append-nil (map tree types)) ∙ ap (λ ts. map tree types ++ filter_map rule ts)
        (sym (mapped_end tree members i h)) ∙ l.rest

  -- the types left of so many members where a test is true, and where it is false, are collected
  pub record IsParted (bases : Bases) (test : Test) (members : List Ty) (first store : Store) (i : ℕ)
      (ps fs : List Ty) : Type 0 where
    pub kept : KeepsTypes has first store
    pub passing : IsLeft (member_passing bases (tested_of test)) members store i ps
    pub failing : IsLeft (member_failing bases (tested_of test)) members store i fs

  pub parted_more : (bases : Bases) (test : Test) (members : List Ty) (first old new : Store) (i : ℕ) (ps fs : List Ty)
      (m : Ty) (l : Left Ty) → i < length members → m ≡ get_or members i m → KeepsTypes has old new
      → IsParted bases test members first old i ps fs → GivesLeft has tree new l
      (member_passing bases (tested_of test) (tree m)) (member_failing bases (tested_of test) (tree m))
      → IsParted bases test members first new (i + 1) (ps ++ option_to_list l.passing) (fs ++ option_to_list l.failing)
  parted_more bases test members first old new i ps fs m l h e k p g = record {
    kept = keeps_both has first old new p.kept k;
    passing = left_more (member_passing bases (tested_of test)) members old new i ps m l.passing h e k p.passing
        g.passing;
    failing = left_more (member_failing bases (tested_of test)) members old new i fs m l.failing h e k p.failing
        g.failing;
  }

  -- all members are parted: the types are what passes the test, and what fails it
  pub parted_passing : (bases : Bases) (test : Test) (t : Tree) (members : List Ty) (first store : Store) (i : ℕ)
      (ps fs : List Ty) → length members ≤ i → map tree members ≡ members_of t → IsParted bases test members first store
      i ps fs → union (map tree ps) ≡ type_where_true bases (tested_of test) t
  parted_passing bases test t members first store i ps fs h e p =
      ap union (left_all (member_passing bases (tested_of test)) members store i ps h p.passing
      ∙ ap (filter_map (member_passing bases (tested_of test))) e)

  pub parted_failing : (bases : Bases) (test : Test) (t : Tree) (members : List Ty) (first store : Store) (i : ℕ)
      (ps fs : List Ty) → length members ≤ i → map tree members ≡ members_of t → IsParted bases test members first store
      i ps fs → union (map tree fs) ≡ type_where_false bases (tested_of test) t
  parted_failing bases test t members first store i ps fs h e p =
      ap union (left_all (member_failing bases (tested_of test)) members store i fs h p.failing
      ∙ ap (filter_map (member_failing bases (tested_of test))) e)
