-- The types of fields and methods of a table are of the store that gave the table's types.
use Rattle.std.proofs.Common.{◌≡◌, ◌<◌, ◌∙◌, ℕ, zero, suc, List, [], ◌∷◌, Some, map, length, get_or, refl, sym, ap}
use Rattle.std.proofs.Common.{arith}
use Rattle.std.specs.Prelude.{Bool as Test, true, false, if◌then◌else◌, slice_get, slice_index_or}
use Rattle.std.specs.Option.{option_map}
use Rattle.std.proofs.lemmas.Option.{slice_get_read}
use Rattle.std.proofs.lemmas.List.Elements.{All-contains, All-nil}
use Rattle.pc_tree.specs.declared.code.Code.TheVariants.{E14}
use Rattle.pc_types.specs.Tree.{Tree}
use Rattle.pc_class.specs.declared.table.Parameter.{Parameter as RustParameter}
use Rattle.pc_class.specs.declared.table.Method.{Method as RustMethod}
use Rattle.pc_class.specs.Facts.{TypedParameter}
use Rattle.pc_class.specs.Tables.{ClassEntry, empty_entry, HasParameter, HasMethod, HasEntry, HasEntries, IsField}
use Rattle.pc_class.specs.Tables.{IsMethod}
use Rattle.pc_rules.specs.Context.{Signature}
use Rattle.pc_rules.specs.Calls.{GivenArguments, CallOffer, is_suited, signature_offer, fails_at_call}

module _ {Ty : Type 0} (has : Ty → Type 0) (cs : List (ClassEntry Ty)) (h : HasEntries has cs) where
  pub field_held : (p : RustParameter Ty) → IsField cs p → HasParameter has p
  field_held p f = All-contains (HasParameter has) f.class.fields p
      (All-contains (HasEntry has) cs f.class h f.listed).fields f.among

  pub method_held : (x : RustMethod Ty) → IsMethod cs x → HasMethod has x
  method_held x m = All-contains (HasMethod has) m.class.methods x
      (All-contains (HasEntry has) cs m.class h m.listed).methods m.among

-- of a class of a table, or of the one without fields where there is no class
pub entry_held : {Ty : Type 0} (has : Ty → Type 0) (cs : List (ClassEntry Ty)) → HasEntries has cs → (class : ℕ)
    → HasEntry has (slice_index_or cs class empty_entry)
entry_held has [] h class = record { fields = All-nil (HasParameter has); methods = All-nil (HasMethod has) }
entry_held has (e ∷ es) h zero = h zero empty_entry (omega arith)
entry_held has (e ∷ es) h (suc c) = entry_held has es (λ k d less. h (suc k) d (omega (arith, less))) c

-- a call of copies of parameters is one of the parameters
pub called_meant : (g : GivenArguments) (ps qs : List TypedParameter) (r t : Tree) → ps ≡ qs → r ≡ t
    → signature_offer g (let s : Signature = record { parameters = ps; returns = r; takes_names = true } in s)
    ≡ signature_offer g (let s : Signature = record { parameters = qs; returns = t; takes_names = true } in s)
called_meant g ps qs r t e f =
    ap (λ ms. signature_offer g (let s : Signature = record { parameters = ms; returns = r; takes_names = true } in s))
    e
    ∙ ap (λ u. signature_offer g (let s : Signature = record { parameters = qs; returns = u; takes_names = true } in s))
    f

-- a call that suits calls what is called, and one that does not fails
pub called_suited : (g : GivenArguments) (s : Signature) → is_suited g s ≡ true
    → (let o : CallOffer = record { at_callee = []; at_call = []; gives = s.returns; calls = s ∷ [] } in o)
    ≡ signature_offer g s
called_suited g s e =
    sym (ap (λ (b : Test). if b then (let o : CallOffer = record {
      at_callee = [];
      at_call = [];
      gives = s.returns;
      calls = s ∷ [];
    } in o) else fails_at_call E14) e)

pub called_unsuited : (g : GivenArguments) (s : Signature) → is_suited g s ≡ false
    → fails_at_call E14 ≡ signature_offer g s
called_unsuited g s e =
    sym (ap (λ (b : Test). if b then (let o : CallOffer = record {
      at_callee = [];
      at_call = [];
      gives = s.returns;
      calls = s ∷ [];
    } in o) else fails_at_call E14) e)

pub mapped_get : {X Y : Type 0} (f : X → Y) (xs : List X) (i : ℕ) (x : X) → i < length xs → x ≡ get_or xs i x
    → slice_get (map f xs) i ≡ Some (f x)
mapped_get {X} {Y} f xs i x less is = get xs i ∙ ap (option_map f) (slice_get_read xs (length xs) i x refl less is)
  where
    get : (ys : List X) (j : ℕ) → slice_get (map f ys) j ≡ option_map f (slice_get ys j)
    get [] j = refl
    get (y ∷ ys) zero = refl
    get (y ∷ ys) (suc j) = get ys j
