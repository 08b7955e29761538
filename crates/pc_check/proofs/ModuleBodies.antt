-- The context of the bodies of a module: types stay of the store, signatures are those of the module's functions, and a
-- context is that of a body.
use Rattle.std.proofs.Common.{◌≡◌, ℕ, List, map, length, refl, sym, ap, subst, ◌∙◌, All, arith}
use Rattle.std.specs.Prelude.{Bool as Test, true, Option, Some, None, slice_get, unwrap_or}
use Rattle.std.specs.Option.{option_map}
use Rattle.std.proofs.lemmas.List.Elements.{All-get_or, All-weaker}
use Rattle.std.proofs.lemmas.Option.{slice_get-map, slice_get_within, unwrap_or-slice_get}
use Rattle.pc_tree.specs.Tree.{FuncDef, ClassDef, Module}
use Rattle.pc_scope.specs.Bindings.{classes_in, functions_in, methods_in}
use Rattle.pc_scope.specs.Resolution.{function_of, locals, method_at, resolve_among, locals_of_function}
use Rattle.pc_scope.specs.ModuleScopes.{ModuleScopes, AreScopes}
use Rattle.pc_scope.specs.Tables.{meaning_by_tables}
use Rattle.pc_scope.specs.declared.resolution.Owner.{Owner}
use Rattle.pc_scope.specs.declared.resolution.Owner.TheVariants as owners
use Rattle.pc_scope.specs.declared.resolution.NameMeaning.{NameMeaning}
use Rattle.pc_scope.proofs.Meanings.{means}
use Rattle.pc_types.specs.Store.{KeepsTypes}
use Rattle.pc_types.specs.Tree.{Tree}
use Rattle.pc_types.specs.Below.{Bases}
use Rattle.pc_class.specs.Bases.{bases_of}
use Rattle.pc_class.specs.Facts.{ClassFacts, classes_of, return_type}
use Rattle.pc_rules.specs.Context.{Signature}
use Rattle.pc_rules.specs.Signatures.{signature_of, signatures_of}
use Rattle.pc_rules.specs.Computed.Signatures.{class_methods, method_signatures}
use Rattle.pc_rules.proofs.Kept.{entries_kept}
use Rattle.pc_callables.proofs.HeldSignatures.{signatures_kept}
use Rattle.pc_signatures.specs.SignaturesHeld.{HeldSignatures, HasSigned, signature_numbered, all_signatures_with}
use Rattle.pc_rules.specs.Computed.Standing.{HasSignature, signature_with}
use Rattle.pc_rules.specs.declared.expr_context.Signature.{Signature as RustSignature}
use Rattle.pc_check.specs.declared.bodies.ModuleBodies.{ModuleBodies}
use Rattle.pc_check.specs.Internal.ModuleWalk.{signature_for, IsModuleBodies}
use Rattle.pc_module_rules.specs.Computed.Statements.{BodyContext, body_context_of}

-- ---- signatures and bodies in a later store

module _ {Store Ty : Type 0} (has : Store → Ty → Type 0) (tree : Ty → Tree) (a b : Store) (k : KeepsTypes has a b) where
  signed_kept : (s : HeldSignatures Ty) → HasSigned (has a) s → HasSigned (has b) s
  signed_kept s h = record {
    constants = All-weaker (has a) (has b) k s.constants h.constants;
    functions = signatures_kept has a b k s.functions h.functions;
    methods = All-weaker (λ ms. All (HasSignature (has a)) ms) (λ ms. All (HasSignature (has b)) ms)
        (signatures_kept has a b k) s.methods h.methods;
  }

  -- the context of bodies stays that of their module
  pub bodies_kept : (s : ModuleBodies Ty) → IsModuleBodies (has a) tree s → IsModuleBodies (has b) tree s
  bodies_kept s h = record {
    outline = h.outline;
    classes = h.classes;
    entries = entries_kept (has a) (has b) k s.globals.now.classes.now h.entries;
    held = signed_kept s.signatures.now h.held;
    same_constants = h.same_constants;
    same_functions = h.same_functions;
    constants = h.constants;
    functions = h.functions;
    methods = h.methods;
    known = h.known;
  }

-- ---- signatures

some_one : {X : Type 0} {x y : X} → Some x ≡ Some y → x ≡ y
some_one e = grind arith

mapped_number : {X Y : Type 0} (f : X → Y) (o : Option (List X)) (i : ℕ)
    → option_map f (signature_numbered o i) ≡ signature_numbered (option_map (map f) o) i
mapped_number f None i = refl
mapped_number f (Some xs) i = sym (slice_get-map f xs i)

-- a fact of each element is a fact of the one with a given number
at_number : {X : Type 0} (P : X → Type 0) (xs : List X) (i : ℕ) (x : X) → All P xs → slice_get xs i ≡ Some x → P x
at_number P xs i x h e = subst P (sym (unwrap_or-slice_get xs i x) ∙ ap (λ o. unwrap_or o x) e)
    (All-get_or P xs i x (slice_get_within xs i x e) h)

-- the types of the signature of an owner are of the store
pub signature_held : {Ty : Type 0} (has : Ty → Type 0) (s : HeldSignatures Ty) → HasSigned has s → (owner : Owner)
    (x : RustSignature Ty) → signature_for s owner ≡ Some x → HasSignature has x
signature_held has s h owners.Module x e = absurd (grind (arith, e))
signature_held has s h (owners.Func i) x e = at_number (HasSignature has) s.functions i x h.functions e
signature_held has s h (owners.Method c i) x e = go (slice_get s.methods c) refl e
  where
    go : (o : Option (List (RustSignature _))) → slice_get s.methods c ≡ o → signature_numbered o i ≡ Some x
        → HasSignature has x
    go None f k = absurd (grind (arith, k))
    go (Some ms) f k = at_number (HasSignature has) ms i x
        (at_number (λ ys. All (HasSignature has) ys) s.methods c ms h.methods f) k

module _ (m : Module) where
  method_signature : (o : Option ClassDef) (i : ℕ) → signature_numbered
      (option_map (class_methods m) o) i ≡ option_map (signature_of m) (method_at o i)
  method_signature None i = refl
  method_signature (Some c) i = slice_get-map (signature_of m) (methods_in c.members) i

  module _ {Ty : Type 0} (tree : Ty → Tree) (s : HeldSignatures Ty)
      (functions : map (signature_with tree) s.functions ≡ signatures_of m)
      (methods : all_signatures_with tree s.methods ≡ method_signatures m) where
    signatures_mean : (owner : Owner) → option_map (signature_with tree) (signature_for s owner) ≡ option_map
        (signature_of m) (function_of m owner)
    unfolding signatures_of method_signatures
    signatures_mean owners.Module = refl
    signatures_mean (owners.Func i) =
        sym (slice_get-map (signature_with tree) s.functions i) ∙ ap (λ (l : List Signature). slice_get l i) functions
        ∙ slice_get-map (signature_of m) (functions_in m.items) i
    signatures_mean (owners.Method c i) =
        mapped_number (signature_with tree) (slice_get s.methods c) i
        ∙ ap (λ o. signature_numbered o i) (sym (slice_get-map (map (signature_with tree)) s.methods c)
        ∙ ap (λ (l : List (List Signature)). slice_get l c) methods ∙ slice_get-map (class_methods m)
        (classes_in m.items) c)
        ∙ method_signature (slice_get (classes_in m.items) c) i

    -- the signature of the function that an owner is
    pub signature_is : (owner : Owner) (f : FuncDef) (x : RustSignature Ty) → function_of m owner ≡ Some f
        → signature_for s owner ≡ Some x → signature_with tree x ≡ signature_of m f
    signature_is owner f x of is = some_one (ap (option_map (signature_with tree)) (sym is) ∙ signatures_mean owner
        ∙ ap (option_map (signature_of m)) of)

    pub signature_there : (owner : Owner) (f : FuncDef) → function_of m owner ≡ Some f → signature_for s owner ≡ None
        → ⊥
    signature_there owner f of none =
        let e : None ≡ Some (signature_of m f) = ap (option_map (signature_with tree)) (sym none)
        ∙ signatures_mean owner ∙ ap (option_map (signature_of m)) of in
        absurd (grind (arith, e))

  -- ---- contexts of bodies

  -- the context of a body, part by part
  pub context_is : (keeps : Test) (owner : Owner) (f : FuncDef) (bases : Bases) (classes : List ClassFacts)
      (functions : List Signature) (constants : List Tree) (known : ℕ) (resolve : List ℕ → NameMeaning) (returns : Tree)
      → bases ≡ bases_of m → classes ≡ classes_of m → functions ≡ signatures_of m
      → known ≡ length (classes_in m.items) → resolve ≡ resolve_among m (locals owner f) → returns ≡ return_type m f
      → (let k : BodyContext = record {
        whole = m;
        context = record {
          bases = bases;
          classes = classes;
          functions = functions;
          constants = constants;
          known = known;
          in_body =
              true;
          resolve = resolve;
        };
        returned = returns;
        keeps = keeps;
      } in k) ≡ body_context_of keeps m constants owner f
  context_is keeps owner f bases classes functions constants known resolve returns b c s k r t =
      λ i. record {
        whole = m;
        context = record {
          bases = b i;
          classes = c i;
          functions = s i;
          constants =
              constants;
          known = k i;
          in_body = true;
          resolve = r i;
        };
        returned = t i;
        keeps = keeps;
      }

  -- names mean to a function what its module's scopes say
  pub names_mean : (s : ModuleScopes) → AreScopes m s → (owner : Owner) (f : FuncDef) → function_of m owner ≡ Some f
      → meaning_by_tables s.tables owner ≡ resolve_among m (locals owner f)
  names_mean s are owner f of = λ j text. (means m s.tables are.tables owner text
      ∙ ap (λ (o : Option FuncDef). resolve_among m (locals_of_function owner o) text) of) j
