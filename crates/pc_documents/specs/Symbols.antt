-- The symbols of a text: the classes, functions and constants of its module, each class with its members. Language
-- Server Protocol 3.17, "Document Symbols Request"; own rule of the server.
use Rattle.std.specs.Prelude.{◌≡◌, ◌⊎◌, ℕ, Bool, true, false, List, [], map, codes, Option, None, Some}
use Rattle.serde_json.specs.Data.{Data, number, string, array, object, unsigned, no_members, member}
use Rattle.serde_json.specs.View.{items_of}
use Rattle.pc_source.specs.declared.fault.Refusal.{Refusal}
use Rattle.pc_tree.specs.Tree.{Name, Member, field_member, method_member, Item, constant_item, class_item, def_item}
use Rattle.pc_tree.specs.Tree.{Module, member_of, item_of}
use Rattle.pc_tree.specs.declared.tree.Item.{Item as RustItem}
use Rattle.pc_tree.specs.declared.tree.Member.{Member as RustMember}
use Rattle.pc_tree.specs.Stopping.{name_of_item, name_of_member}
use Rattle.pc_front.specs.Bytes.{IsModuleOf, IsRefusalOf}
use Rattle.pc_position.specs.declared.positions.Encoding.{Encoding}
use Rattle.pc_documents.specs.Diagnostics.{range_data}

-- a symbol: its kind, its name, its parts, its range and that of its name
abbrev pub named_data : ℕ → List ℕ → List Data → Data → Data → Data
named_data kind name parts range chosen =
    object (member (codes "children") (array (items_of parts))
    (member (codes "kind") (number (unsigned kind))
    (member (codes "name") (string name)
    (member (codes "range") range
    (member (codes "selectionRange") chosen no_members)))))

-- a symbol with this name and these parts, from its first byte to the end of its name
abbrev pub symbol_data : Encoding → List ℕ → ℕ → Name → ℕ → List Data → Data
symbol_data encoding text kind name start parts = named_data kind name.text parts
    (range_data encoding text start name.place.end) (range_data encoding text name.place.start name.place.end)

-- the kind of a member, by the protocol's number: a field or a method
abbrev pub kind_of_member : Member → ℕ
kind_of_member (field_member f) = 8
kind_of_member (method_member f) = 6

-- the kind of an item, by the protocol's number: a constant, a class or a function
abbrev pub kind_of_item : Item → ℕ
kind_of_item (constant_item first c) = 14
kind_of_item (class_item first c) = 5
kind_of_item (def_item first f) = 12

-- the first byte of an item
abbrev pub start_of_item : Item → ℕ
start_of_item (constant_item first c) = first.start
start_of_item (class_item first c) = first.start
start_of_item (def_item first f) = first.start

-- the members of an item: those of a class, and none of another item
abbrev pub members_of_item : Item → List Member
members_of_item (constant_item first c) = []
members_of_item (class_item first c) = c.members
members_of_item (def_item first f) = []

-- the symbol of a member, which begins with its name
abbrev pub member_data : Encoding → List ℕ → Member → Data
member_data encoding text it = symbol_data encoding text (kind_of_member it) (name_of_member it)
    (name_of_member it).place.start []

-- the symbol of an item, with those of its members
abbrev pub item_symbol : Encoding → List ℕ → Item → Data
item_symbol encoding text it = symbol_data encoding text (kind_of_item it) (name_of_item it) (start_of_item it)
    (map (member_data encoding text) (members_of_item it))

-- the symbol of a member, as the program represents it
abbrev pub shown_member : Encoding → List ℕ → RustMember → Data
shown_member encoding text it = member_data encoding text (member_of it)

-- the symbol of an item, as the program represents it
abbrev pub shown_item : Encoding → List ℕ → RustItem → Data
shown_item encoding text it = item_symbol encoding text (item_of it)

-- the symbols of a module, in text order
abbrev pub symbols_of : Encoding → List ℕ → Module → List Data
symbols_of encoding text tree = map (item_symbol encoding text) tree.items

-- the symbols of a text that spells this module
pub record AreOfModule (encoding : Encoding) (text : List ℕ) (symbols : List Data) : Type 0 where
  pub tree : Module
  pub spelled : IsModuleOf text tree
  pub are : symbols ≡ symbols_of encoding text tree

-- a text that is refused has no symbols, and no definitions
pub record AreOfRefusal (text : List ℕ) (symbols : List Data) : Type 0 where
  pub refusal : Refusal
  pub refused : IsRefusalOf text refusal
  pub none : symbols ≡ []

-- the symbols of a text: those of its module, and none if it is refused or not known
abbrev pub AreSymbols : Encoding → Option (List ℕ) → List Data → Type 0
AreSymbols encoding None symbols = symbols ≡ []
AreSymbols encoding (Some text) symbols = AreOfModule encoding text symbols ⊎ AreOfRefusal text symbols

-- the symbols of a document: those of its text, and none if it is not Python
abbrev pub AreSymbolsAs : Encoding → Bool → Option (List ℕ) → List Data → Type 0
AreSymbolsAs encoding false text symbols = symbols ≡ []
AreSymbolsAs encoding true text symbols = AreSymbols encoding text symbols
