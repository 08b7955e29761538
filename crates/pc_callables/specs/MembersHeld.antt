-- The members of classes under the names that they bind. Own rule of the profile.
use Rattle.std.specs.Prelude.{◌≡◌, ℕ, List, [], ◌∷◌, Bool as Test, true, Some}
use Rattle.std.specs.Option.{option_map}
use Rattle.pc_tree.specs.Tree.{Member, field_member, method_member, Module}
use Rattle.pc_tree.specs.Stopping.{name_of_member}
use Rattle.pc_class.specs.Entries.{parameter_made}
use Rattle.pc_class.specs.Facts.{ClassFacts, field_by_name, method_by_name, class_facts_at, classes_of}
use Rattle.pc_rules.specs.Calls.{method_signature}
use Rattle.pc_rules.specs.Signatures.{signature_of}
use Rattle.pc_rules.specs.Computed.Signatures.{with_name, binds_as_field, binds_as_method}

module _ (m : Module) (c : ℕ) (base : ClassFacts) where
  -- if a member binds its name, after names that are bound already, the class of this number has the member's field or
  -- method under that name
  abbrev pub IsHeld : (bound : List ℕ → Test) → Member → Type 0
  IsHeld bound (field_member d) = binds_as_field base bound d.name.text ≡ true
      → field_by_name (class_facts_at (classes_of m) c).fields d.name.text ≡ Some (parameter_made m d)
  IsHeld bound (method_member d) = binds_as_method base bound d.name.text ≡ true
      → option_map method_signature (method_by_name (class_facts_at (classes_of m) c).methods d.name.text)
      ≡ Some (signature_of m d)

  -- the same holds for each of these members, one after another
  abbrev pub AreHeld : (bound : List ℕ → Test) → List Member → Type 0
  AreHeld bound [] = Unit {0}
  AreHeld bound (x ∷ xs) = IsHeld bound x × AreHeld (with_name bound (name_of_member x).text) xs
