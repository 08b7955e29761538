-- The types of parameters and signatures are kept. The types of a class table's members are of the store.
use Rattle.std.proofs.Common.{◌≡◌, List, ◌++◌, ◌∷◌, [], All, subst, sym}
use Rattle.std.proofs.lemmas.List.Elements.{All-weaker, All-push, All-contains}
use Rattle.pc_types.specs.Tree.{Tree}
use Rattle.pc_types.specs.Store.{KeepsTypes}
use Rattle.pc_class.specs.Tables.{ClassEntry, HasParameter, HasMethod, HasEntry, HasEntries, IsField, IsMethod}
use Rattle.pc_class.specs.declared.table.Method.{Method as RustMethod}
use Rattle.pc_class.specs.declared.table.Parameter.{Parameter as RustParameter}
use Rattle.pc_rules.specs.declared.expr_context.Signature.{Signature as RustSignature}
use Rattle.pc_rules.specs.Computed.Standing.{HasSignature}
use Rattle.pc_rules.specs.declared.expr_context.ModuleContext.{ModuleContext}
use Rattle.pc_rules.proofs.Kept.{entries_kept}
use Rattle.pc_callables.specs.SignaturesRead.{HasSignatures, AreGlobals}

module _ {Store Ty : Type 0} (has : Store → Ty → Type 0) (a b : Store) (k : KeepsTypes has a b) where
  pub params_kept : (ps : List (RustParameter Ty)) → All (HasParameter (has a)) ps → All (HasParameter (has b)) ps
  params_kept ps h = All-weaker (HasParameter (has a)) (HasParameter (has b)) (λ p g. k p.ty g) ps h

  pub signature_kept : (s : RustSignature Ty) → HasSignature (has a) s → HasSignature (has b) s
  signature_kept s h = record { params = params_kept s.params h.params; ret = k s.ret h.ret }

  pub signatures_kept : (ss : List (RustSignature Ty)) → HasSignatures (has a) ss → HasSignatures (has b) ss
  signatures_kept ss h = All-weaker (HasSignature (has a)) (HasSignature (has b)) signature_kept ss h

-- the types of a field, and of a method, of a table are of the store that gave the table's types
module _ {Ty : Type 0} (has : Ty → Type 0) (cs : List (ClassEntry Ty)) (h : HasEntries has cs) where
  pub field_held : (p : RustParameter Ty) → IsField cs p → HasParameter has p
  field_held p f = All-contains (HasParameter has) f.class.fields p
      (All-contains (HasEntry has) cs f.class h f.listed).fields f.among

  pub method_held : (x : RustMethod Ty) → IsMethod cs x → HasMethod has x
  method_held x m = All-contains (HasMethod has) m.class.methods x
      (All-contains (HasEntry has) cs m.class h m.listed).methods m.among

-- one more, pushed after those that are held
pub held_push : {X : Type 0} (P : X → Type 0) (old new : List X) (x : X) → All P old → P x → new ≡ old ++ x ∷ []
    → All P new
held_push P old new x h p e = subst (All P) (sym e) (All-push P old x h p)

-- classes and functions of a module stay what members and initializers may name
pub globals_kept : {Store Ty : Type 0} (has : Store → Ty → Type 0) (tree : Ty → Tree) (a b : Store)
    (g : ModuleContext Ty) → KeepsTypes has a b → AreGlobals has tree a g → AreGlobals has tree b g
globals_kept has tree a b g k h = record {
  outline = h.outline;
  classes = h.classes;
  entries = entries_kept (has a) (has b) k _ h.entries;
  functions = record { given = signatures_kept has a b k _ h.functions.given; are = h.functions.are };
}
