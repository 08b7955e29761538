-- Walks over parameters, members and functions, one after another: the part read so far, and the rest.
use Rattle.std.proofs.Common.{◌≡◌, ◌<◌, ◌≤◌, ◌+◌, ℕ, List, [], ◌∷◌, ◌++◌, map, drop, length, get_or, refl, sym, ap, ◌∙◌}
use Rattle.std.proofs.Common.{subst}
use Rattle.std.proofs.Common.{append_assoc, append-nil}
use Rattle.std.specs.Prelude.{Option, Some, None, filter_map, slice_get}
use Rattle.std.specs.Option.{option_map}
use Rattle.std.proofs.lemmas.Option.{same_Some, slice_get-map, slice_get_read}
use Rattle.std.specs.List.{cons_option}
use Rattle.std.proofs.lemmas.List.{map_push, map-append, drop_all, length-map}
use Rattle.pc_tree.proofs.Stops.{cons_at}
use Rattle.pc_tree.specs.declared.tree.Param.{Param as RustParam}
use Rattle.pc_tree.specs.declared.tree.Item.{Item as RustItem}
use Rattle.pc_tree.specs.declared.tree.Member.{Member as RustMember}
use Rattle.pc_tree.specs.Stopping.{name_of_member}
use Rattle.pc_tree.specs.Tree.{Module, param_of, member_of, item_of}
use Rattle.pc_scope.specs.Bindings.{as_function, as_method, functions_in, methods_in}
use Rattle.pc_types.specs.Tree.{Tree}
use Rattle.pc_class.specs.Facts.{ClassFacts, TypedParameter, typed_parameter, parameters_of}
use Rattle.pc_class.specs.Tables.{parameter_with, parameters_with}
use Rattle.pc_class.specs.declared.table.Parameter.{Parameter as RustParameter}
use Rattle.pc_rules.specs.Signatures.{signature_of}
use Rattle.pc_rules.specs.Computed.Signatures.{param_default, params_defaults}
use Rattle.pc_rules.specs.Computed.Signatures.{with_name, param_findings, params_findings}
use Rattle.pc_rules.specs.Computed.Signatures.{function_findings, functions_findings, member_findings, members_findings}
use Rattle.pc_callables.specs.MembersHeld.{IsHeld, AreHeld}

-- one step of a walk that goes on with the rest
pub stepped : {X : Type 0} (old mid these rest more total : List X) → old ++ rest ≡ total → rest ≡ these ++ more
    → mid ≡ old ++ these → mid ++ more ≡ total
stepped old mid these rest more total inv parted is = ap (λ l. l ++ more) is ∙ append_assoc old these more
    ∙ ap (λ l. old ++ l) (sym parted) ∙ inv

-- a walk that is at its end
pub walked : {X : Type 0} (all rest total : List X) → all ++ rest ≡ total → rest ≡ [] → all ≡ total
walked all rest total inv e = sym (append-nil all) ∙ ap (λ l. all ++ l) (sym e) ∙ inv

-- the element of a mapped list at an index
mapped_at : {X Y : Type 0} (f : X → Y) (xs : List X) (i : ℕ) (x : X) → i < length xs → x ≡ get_or xs i x
    → slice_get (map f xs) i ≡ Some (f x)
mapped_at f xs i x less is = slice_get-map f xs i ∙ ap (option_map f) (slice_get_read xs (length xs) i x refl less is)

-- one more that is pushed
pub pushed_one : {X Y : Type 0} (f : X → Y) (old new : List X) (x : X) (y : Y) → new ≡ old ++ x ∷ [] → f x ≡ y
    → map f new ≡ map f old ++ y ∷ []
pushed_one f old new x y e is = ap (map f) e ∙ map_push f old x ∙ ap (λ z. map f old ++ z ∷ []) is

-- the elements of a list for which a function gives something, the first one apart
pub first_apart : {X Y : Type 0} (f : X → Option Y) (x : X) (rest : List X)
    → filter_map f (x ∷ rest) ≡ filter_map f (x ∷ []) ++ filter_map f rest
first_apart f x rest = go (f x)
  where
    go : (o : Option _) → cons_option o (filter_map f rest) ≡ cons_option o [] ++ filter_map f rest
    go None = refl
    go (Some y) = refl

pub mapped_apart : {X Y Z : Type 0} (g : Y → Z) (f : X → Option Y) (x : X) (rest : List X)
    → map g (filter_map f (x ∷ rest)) ≡ map g (filter_map f (x ∷ [])) ++ map g (filter_map f rest)
mapped_apart g f x rest = ap (map g) (first_apart f x rest) ∙ map-append g (filter_map f (x ∷ [])) (filter_map f rest)

module _ (m : Module) where
  -- parameters from one on
  pub params_apart : (ps : List RustParam) (i : ℕ) (p : RustParam) → i < length ps → p ≡ get_or ps i p
      → parameters_of m (map param_of (drop i ps)) ≡ (typed_parameter m (param_of p) ∷ []) ++ parameters_of m
      (map param_of (drop (i + 1) ps))
  params_apart ps i p less is = ap (λ (l : List RustParam). parameters_of m (map param_of l)) (cons_at ps i p less is)

  pub params_found : (bound next : List ℕ → _) (ps : List RustParam) (i : ℕ) (p : RustParam) → i < length ps
      → p ≡ get_or ps i p → next ≡ with_name bound (param_of p).name.text
      → params_findings m bound (map param_of (drop i ps)) ≡ param_findings m bound (param_of p) ++ params_findings m
      next (map param_of (drop (i + 1) ps))
  params_found bound next ps i p less is e =
      ap (λ (l : List RustParam). params_findings m bound (map param_of l)) (cons_at ps i p less is)
      ∙ ap (λ b. param_findings m bound (param_of p) ++ params_findings m b (map param_of (drop (i + 1) ps))) (sym e)

  pub defaults_found : (bound next : List ℕ → _) (ps : List RustParam) (i : ℕ) (p : RustParam) → i < length ps
      → p ≡ get_or ps i p → next ≡ with_name bound (param_of p).name.text
      → params_defaults m bound (map param_of (drop i ps)) ≡ param_default m bound (param_of p) ++ params_defaults m
      next (map param_of (drop (i + 1) ps))
  defaults_found bound next ps i p less is e =
      ap (λ (l : List RustParam). params_defaults m bound (map param_of l)) (cons_at ps i p less is)
      ∙ ap (λ b. param_default m bound (param_of p) ++ params_defaults m b (map param_of (drop (i + 1) ps))) (sym e)

  -- a parameter among those that have the types of these
  pub typed_at : {Ty : Type 0} (tree : Ty → Tree) (ts : List (RustParameter Ty)) (ps : List RustParam) (i : ℕ)
      (t : RustParameter Ty) (p : RustParam) → parameters_with tree ts ≡ parameters_of m (map param_of ps)
      → i < length ts → t ≡ get_or ts i t → i < length ps → p ≡ get_or ps i p
      → parameter_with tree t ≡ typed_parameter m (param_of p)
  typed_at tree ts ps i t p same t_less t_is p_less p_is =
      same_Some (parameter_with tree t) (typed_parameter m (param_of p))
      (sym (mapped_at (parameter_with tree) ts i t t_less t_is)
      ∙ ap (λ (l : List TypedParameter). slice_get l i) same ∙ slice_get-map (typed_parameter m) (map param_of ps) i
      ∙ ap (option_map (typed_parameter m)) (mapped_at param_of ps i p p_less p_is))

  pub typed_many : {Ty : Type 0} (tree : Ty → Tree) (ts : List (RustParameter Ty)) (ps : List RustParam)
      → parameters_with tree ts ≡ parameters_of m (map param_of ps) → length ts ≡ length ps
  typed_many tree ts ps same = sym (length-map ts (parameter_with tree)) ∙ ap length same
      ∙ length-map (map param_of ps) (typed_parameter m) ∙ length-map ps param_of

  -- items from one on
  pub functions_apart : (items : List RustItem) (i : ℕ) (x : RustItem) → i < length items → x ≡ get_or items i x
      → map (signature_of m) (functions_in (map item_of (drop i items))) ≡ map (signature_of m)
      (functions_in (item_of x ∷ [])) ++ map (signature_of m) (functions_in (map item_of (drop (i + 1) items)))
  functions_apart items i x less is =
      ap (λ (l : List RustItem). map (signature_of m) (functions_in (map item_of l))) (cons_at items i x less is)
      ∙ mapped_apart (signature_of m) as_function (item_of x) (map item_of (drop (i + 1) items))

  pub functions_found : (items : List RustItem) (i : ℕ) (x : RustItem) → i < length items → x ≡ get_or items i x
      → functions_findings m (map item_of (drop i items)) ≡ function_findings m (item_of x) ++ functions_findings m
      (map item_of (drop (i + 1) items))
  functions_found items i x less is = ap (λ (l : List RustItem). functions_findings m (map item_of l))
      (cons_at items i x less is)

  -- members from one on
  pub methods_apart : (ms : List RustMember) (i : ℕ) (x : RustMember) → i < length ms → x ≡ get_or ms i x
      → map (signature_of m) (methods_in (map member_of (drop i ms))) ≡ map (signature_of m)
      (methods_in (member_of x ∷ [])) ++ map (signature_of m) (methods_in (map member_of (drop (i + 1) ms)))
  methods_apart ms i x less is =
      ap (λ (l : List RustMember). map (signature_of m) (methods_in (map member_of l))) (cons_at ms i x less is)
      ∙ mapped_apart (signature_of m) as_method (member_of x) (map member_of (drop (i + 1) ms))

  pub members_found : (base : ClassFacts) (bound next : List ℕ → _) (ms : List RustMember) (i : ℕ) (x : RustMember)
      → i < length ms → x ≡ get_or ms i x → next ≡ with_name bound (name_of_member (member_of x)).text
      → members_findings m base bound (map member_of (drop i ms)) ≡ member_findings m base bound (member_of x)
      ++ members_findings m base next (map member_of (drop (i + 1) ms))
  members_found base bound next ms i x less is e =
      ap (λ (l : List RustMember). members_findings m base bound (map member_of l)) (cons_at ms i x less is)
      ∙ ap (λ b. member_findings m base bound (member_of x) ++ members_findings m base b
      (map member_of (drop (i + 1) ms))) (sym e)

  -- a member that the class holds as it says, and those after it
  pub held_apart : (c : ℕ) (base : ClassFacts) (bound next : List ℕ → _) (ms : List RustMember) (i : ℕ) (x : RustMember)
      → i < length ms → x ≡ get_or ms i x → next ≡ with_name bound (name_of_member (member_of x)).text
      → AreHeld m c base bound (map member_of (drop i ms))
      → IsHeld m c base bound (member_of x) × AreHeld m c base next (map member_of (drop (i + 1) ms))
  held_apart c base bound next ms i x less is e h =
      let h' = subst (λ (l : List RustMember). AreHeld m c base bound (map member_of l)) (cons_at ms i x less is) h in
      (h'.0, subst (λ b. AreHeld m c base b (map member_of (drop (i + 1) ms))) (sym e) h'.1)

  pub no_methods : (ms : List RustMember) (i : ℕ) → length ms ≤ i
      → map (signature_of m) (methods_in (map member_of (drop i ms))) ≡ []
  no_methods ms i h = ap (λ (l : List RustMember). map (signature_of m) (methods_in (map member_of l)))
      (drop_all i ms h)
