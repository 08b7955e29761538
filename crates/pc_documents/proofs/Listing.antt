-- A text has one list of symbols, and no symbol nests deep.
use Rattle.std.specs.Prelude.{ℕ, Bool, true, false}
use Rattle.std.proofs.Common.{◌≡◌, ◌≤◌, suc, List, [], ◌∷◌, map, Option, None, Some, refl, sym, ap, ◌∙◌, inl, inr}
use Rattle.std.proofs.Common.{subst, arith, ◌+◌, ◌<◌, ◌++◌, length, take, get_or}
use Rattle.std.proofs.lemmas.List.{map-append, take_more}
use Rattle.std.proofs.Math.Nat.{max-le}
use Rattle.serde_json.specs.Data.{Data, depth, items_depth}
use Rattle.serde_json.specs.View.{items_of}
use Rattle.pc_source.specs.declared.place.Place.{Place}
use Rattle.pc_tree.specs.declared.tree.Item.{Item as RustItem}
use Rattle.pc_tree.specs.declared.tree.ItemKind.{ItemKind}
use Rattle.pc_tree.specs.declared.tree.ItemKind.TheVariants as rust_item
use Rattle.pc_tree.specs.declared.tree.Member.{Member as RustMember}
use Rattle.pc_tree.specs.Tree.{Name, Member, Item, member_of, item_of, item_of_kind}
use Rattle.pc_tree.specs.Stopping.{name_of_item, name_of_member}
use Rattle.pc_position.specs.declared.positions.Encoding.{Encoding}
use Rattle.pc_front.proofs.BytesLaws.{one_module, no_refusal}
use Rattle.pc_documents.specs.Symbols.{symbol_data, kind_of_member, kind_of_item, start_of_item, members_of_item}
use Rattle.pc_documents.specs.Symbols.{member_data, item_symbol, symbols_of, AreSymbols, AreSymbolsAs}
use Rattle.pc_documents.specs.Symbols.{shown_member, shown_item, named_data}
use Rattle.pc_documents.specs.Diagnostics.{range_data}
use Rattle.pc_position.specs.declared.positions.Position.{Position}
use Rattle.pc_position.specs.Positions.{IsPositionOf}
use Rattle.pc_tree.specs.declared.tree.ClassDef.{ClassDef}
use Rattle.std.specs.Prelude.{Result, IfOk}
use Rattle.std.proofs.lemmas.Result.{IfOk-weaker}

z : (n : ℕ) → 0 ≤ n
z n = omega arith

up : (a b : ℕ) → a ≤ b → suc a ≤ suc b
up a b h = omega arith

-- the first byte of an item is that of its first token
kind_start : (first : Place) (kind : ItemKind) → start_of_item (item_of_kind first kind) ≡ first.start
kind_start first (rust_item.Constant c) = refl
kind_start first (rust_item.Class c) = refl
kind_start first (rust_item.Def f) = refl

pub start_is : (it : RustItem) → start_of_item (item_of it) ≡ it.first.start
start_is it = kind_start it.first it.kind

-- symbols one by one are those of the trees
pub members_listed : (encoding : Encoding) (text : List ℕ) (members : List RustMember)
    → map (shown_member encoding text) members ≡ map (member_data encoding text) (map member_of members)
members_listed encoding text [] = refl
members_listed encoding text (it ∷ rest) =
    ap (λ ds. member_data encoding text (member_of it) ∷ ds) (members_listed encoding text rest)

pub items_listed : (encoding : Encoding) (text : List ℕ) (items : List RustItem)
    → map (shown_item encoding text) items ≡ map (item_symbol encoding text) (map item_of items)
items_listed encoding text [] = refl
items_listed encoding text (it ∷ rest) =
    ap (λ ds. item_symbol encoding text (item_of it) ∷ ds) (items_listed encoding text rest)

-- the values of one more thing behind those of the first ones
pub one_more : {V X : Type 0} (shown : V → Data) (f : X → Data) (xs : List X) (i : ℕ) (x : X) (before : List V)
    (v : V) → i < length xs → x ≡ get_or xs i x → map shown before ≡ map f (take i xs) → shown v ≡ f x
    → map shown (before ++ v ∷ []) ≡ map f (take (i + 1) xs)
one_more shown f xs i x before v within is same one = map-append shown before (v ∷ [])
    ∙ (ap (λ l. l ++ shown v ∷ []) same
    ∙ (ap (λ d. map f (take i xs) ++ d ∷ []) one
    ∙ (sym (map-append f (take i xs) (x ∷ []))
    ∙ ap (map f) (sym (take_more xs i x within ∙ ap (λ y. take i xs ++ y ∷ []) (sym is))))))

-- the same where the thing is the one at this index
pub one_at : {V X : Type 0} (shown : V → Data) (f : X → Data) (xs : List X) (i : ℕ) (none : X) (before : List V)
    (v : V) → i < length xs → map shown before ≡ map f (take i xs) → shown v ≡ f (get_or xs i none)
    → map shown (before ++ v ∷ []) ≡ map f (take (i + 1) xs)
one_at shown f xs i none before v within same one = map-append shown before (v ∷ [])
    ∙ (ap (λ l. l ++ shown v ∷ []) same
    ∙ (ap (λ d. map f (take i xs) ++ d ∷ []) one
    ∙ (sym (map-append f (take i xs) (get_or xs i none ∷ [])) ∙ ap (map f) (sym (take_more xs i none within)))))

-- the members of a class, by the kind of its item
pub class_members : (it : RustItem) (c : ClassDef) → it.kind ≡ rust_item.Class c
    → members_of_item (item_of it) ≡ map member_of c.members.items
class_members it c h = ap (λ k. members_of_item (item_of_kind it.first k)) h

-- a value with the ranges between three positions is the symbol of a name
pub symbol_is : {V E : Type 0} (shown : V → Data) (kind : ℕ) (name : Name) (text : List ℕ) (parts : List Data)
    (first from to : Position) (range chosen : Data) → text ≡ name.text
    → ((e : Encoding) (t : List ℕ) (a b : ℕ) → IsPositionOf e t a first → IsPositionOf e t b to
    → range ≡ range_data e t a b)
    → ((e : Encoding) (t : List ℕ) (a b : ℕ) → IsPositionOf e t a from → IsPositionOf e t b to
    → chosen ≡ range_data e t a b)
    → (result : Result V E) → IfOk result (λ v. shown v ≡ named_data kind text parts range chosen)
    → IfOk result (λ v. (e : Encoding) (t : List ℕ) (start : ℕ) → IsPositionOf e t start first
    → IsPositionOf e t name.place.start from → IsPositionOf e t name.place.end to
    → shown v ≡ symbol_data e t kind name start parts)
symbol_is shown kind name text parts first from to range chosen same of_range of_chosen result =
    IfOk-weaker result _ _ (λ v h. λ e t start x y z. h
    ∙ (ap (λ n. named_data kind n parts range chosen) same
    ∙ (ap (λ r. named_data kind name.text parts r chosen) (of_range e t start name.place.end x z)
    ∙ ap (λ r. named_data kind name.text parts (range_data e t start name.place.end) r)
    (of_chosen e t name.place.start name.place.end y z))))

-- ---- one list

one_list : (encoding : Encoding) (text : Option (List ℕ)) (a b : List Data) → AreSymbols encoding text a
    → AreSymbols encoding text b → a ≡ b
one_list encoding None a b x y = x ∙ sym y
one_list encoding (Some text) a b (inl x) (inl y) =
    x.are ∙ (ap (symbols_of encoding text) (one_module text x.tree y.tree x.spelled y.spelled) ∙ sym y.are)
one_list encoding (Some text) a b (inl x) (inr y) = absurd (no_refusal text x.tree y.refusal x.spelled y.refused)
one_list encoding (Some text) a b (inr x) (inl y) = absurd (no_refusal text y.tree x.refusal y.spelled x.refused)
one_list encoding (Some text) a b (inr x) (inr y) = x.none ∙ sym y.none

pub same_symbols : (encoding : Encoding) (python : Bool) (text : Option (List ℕ)) (a b : List Data)
    → AreSymbolsAs encoding python text a → AreSymbolsAs encoding python text b → a ≡ b
same_symbols encoding false text a b x y = x ∙ sym y
same_symbols encoding true text a b x y = one_list encoding text a b x y

-- ---- depths

-- a symbol whose parts are no deeper than 3
symbol_low : (encoding : Encoding) (text : List ℕ) (kind : ℕ) (name : Name) (start : ℕ) (parts : List Data)
    → items_depth (items_of parts) ≤ 3 → depth (symbol_data encoding text kind name start parts) ≤ 5
symbol_low encoding text kind name start parts h =
    let two : 2 ≤ 4 = omega arith in
    up _ 4 (max-le (up _ 3 h) (max-le (z 4) (max-le (z 4) (max-le two (max-le two (z 4))))))

members_low : (encoding : Encoding) (text : List ℕ) (members : List Member)
    → items_depth (items_of (map (member_data encoding text) members)) ≤ 3
members_low encoding text [] = z 3
members_low encoding text (it ∷ rest) =
    let three : 3 ≤ 3 = omega arith in max-le three (members_low encoding text rest)

items_low : (encoding : Encoding) (text : List ℕ) (items : List Item)
    → items_depth (items_of (map (item_symbol encoding text) items)) ≤ 5
items_low encoding text [] = z 5
items_low encoding text (it ∷ rest) =
    max-le (symbol_low encoding text (kind_of_item it) (name_of_item it) (start_of_item it)
    (map (member_data encoding text) (members_of_item it)) (members_low encoding text (members_of_item it)))
    (items_low encoding text rest)

-- no symbol in the list is deeper than 5
abbrev Low : List Data → Type 0
Low symbols = items_depth (items_of symbols) ≤ 5

list_low : (encoding : Encoding) (text : Option (List ℕ)) (symbols : List Data) → AreSymbols encoding text symbols
    → items_depth (items_of symbols) ≤ 5
list_low encoding None symbols x = subst Low (sym x) (z 5)
list_low encoding (Some text) symbols (inl x) = subst Low (sym x.are) (items_low encoding text x.tree.items)
list_low encoding (Some text) symbols (inr x) = subst Low (sym x.none) (z 5)

pub symbols_as_low : (encoding : Encoding) (python : Bool) (text : Option (List ℕ)) (symbols : List Data)
    → AreSymbolsAs encoding python text symbols → items_depth (items_of symbols) ≤ 5
symbols_as_low encoding false text symbols x = subst Low (sym x) (z 5)
symbols_as_low encoding true text symbols x = list_low encoding text symbols x
