-- A method call on a member, by the member's head.
use Rattle.std.proofs.Common.{◌≡◌, ℕ, List, Some, None, refl, ap}
use Rattle.pc_types.specs.Tree.{Tree, Any, Object, Never, Int, Bool, Str, NoneType, Class, ListOf, DictOf, TupleOf}
use Rattle.pc_types.specs.Tree.{Union}
use Rattle.pc_types.specs.Head.{head_of}
use Rattle.pc_class.specs.Facts.{field_by_name, method_by_name, class_facts_at}
use Rattle.pc_rules.specs.Context.{Context}
use Rattle.pc_rules.specs.Calls.{GivenArguments, class_offers, method_offers}
use Rattle.pc_calls.specs.JudgedCalls.{class_in_head, other_offers}

module _ (ctx : Context) (g : GivenArguments) (word : List ℕ) where
  pub class_meant : (t : Tree) (c : ℕ) → Some c ≡ class_in_head (head_of t)
      → class_offers g (method_by_name (class_facts_at ctx.classes c).methods word)
      (field_by_name (class_facts_at ctx.classes c).fields word) ≡ method_offers ctx g word t
  class_meant (Class d) c e = let h : c ≡ d = cc in
      ap (λ k. class_offers g (method_by_name (class_facts_at ctx.classes k).methods word)
      (field_by_name (class_facts_at ctx.classes k).fields word)) h
  class_meant Any c e = cc
  class_meant Object c e = cc
  class_meant Never c e = cc
  class_meant Int c e = cc
  class_meant Bool c e = cc
  class_meant Str c e = cc
  class_meant NoneType c e = cc
  class_meant (ListOf t) c e = cc
  class_meant (DictOf k v) c e = cc
  class_meant (TupleOf ts) c e = cc
  class_meant (Union a b) c e = cc

  pub other_meant : (t : Tree) → None ≡ class_in_head (head_of t) → other_offers ctx.bases g word t ≡ method_offers ctx
      g word t
  other_meant (Class d) e = cc
  other_meant Any e = refl
  other_meant (ListOf t) e = refl
  other_meant (DictOf k v) e = refl
  other_meant _ e = refl
