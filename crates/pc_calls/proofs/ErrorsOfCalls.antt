-- The test for an error at a callee or at a call, and the codes found there, member by member.
use Rattle.std.proofs.Common.{◌≡◌, ◌<◌, ◌≤◌, ◌+◌, ℕ, List, [], ◌∷◌, ◌++◌, map, drop, length, get_or, Bool as Test, true}
use Rattle.std.proofs.Common.{false, refl, sym, ap, ◌∙◌}
use Rattle.std.specs.Prelude.{◌||◌, if◌then◌else◌, flat_map, option_to_list}
use Rattle.std.proofs.lemmas.List.{drop_all}
use Rattle.pc_tree.specs.declared.code.Code.{Code}
use Rattle.pc_tree.specs.Code.{is_error}
use Rattle.pc_tree.proofs.Stops.{cons_at}
use Rattle.pc_types.specs.Tree.{Tree}
use Rattle.pc_calls.specs.declared.call_offers.CallOffer.{CallOffer as RustCallOffer}
use Rattle.pc_tree.specs.Stopping.{has_none}
use Rattle.pc_rules.specs.Computed.Findings.{has_code, once_onto, once}
use Rattle.pc_rules.proofs.Once.{onto_append}
use Rattle.pc_rules.specs.Operations.{has_error}
use Rattle.pc_rules.specs.Calls.{CallOffer, all_codes}
use Rattle.pc_calls.specs.JudgedCalls.{offer_called, found_at_callee, found_at_call}

any_append : (xs ys : List Code) → has_error (xs ++ ys) ≡ (has_error xs || has_error ys)
any_append [] ys = refl
any_append (x ∷ xs) ys = go (is_error x) (any_append xs ys)
  where
    go : (b : Test) → has_error (xs ++ ys) ≡ (has_error xs || has_error ys) → (b || has_error (xs ++ ys))
        ≡ ((b || has_error xs) || has_error ys)
    go true e = refl
    go false e = e

module _ {Ty : Type 0} where
  -- an error is found at a callee or at a call
  abbrev pub any_error : List (RustCallOffer Ty) → Test
  any_error [] = false
  any_error (o ∷ os) = (has_error (option_to_list o.at_callee) || has_error (option_to_list o.at_call)) || any_error os

  pub errors_meant : (tree : Ty → Tree) (os : List (RustCallOffer Ty))
      → has_error (all_codes (map (offer_called tree) os)) ≡ any_error os
  errors_meant tree [] = refl
  errors_meant tree (o ∷ os) =
      any_append (option_to_list o.at_callee ++ option_to_list o.at_call) (all_codes (map (offer_called tree) os))
      ∙ ap (λ b. b || has_error (all_codes (map (offer_called tree) os)))
      (any_append (option_to_list o.at_callee) (option_to_list o.at_call))
      ∙ ap (λ b. (has_error (option_to_list o.at_callee) || has_error (option_to_list o.at_call)) || b)
      (errors_meant tree os)

  pub error_more : (os : List (RustCallOffer Ty)) (i : ℕ) (o : RustCallOffer Ty) → i < length os → o ≡ get_or os i o
      → any_error (drop i os) ≡ ((has_error (option_to_list o.at_callee) || has_error (option_to_list o.at_call))
      || any_error (drop (i + 1) os))
  error_more os i o less is = ap any_error (cons_at os i o less is)

  pub error_none : (os : List (RustCallOffer Ty)) (i : ℕ) → length os ≤ i → any_error (drop i os) ≡ false
  error_none os i h = ap any_error (drop_all i os h)

  pub callee_meant : (tree : Ty → Tree) (os : List (RustCallOffer Ty)) → flat_map (λ (o : CallOffer). o.at_callee)
      (map (offer_called tree) os) ≡ found_at_callee os
  callee_meant tree [] = refl
  callee_meant tree (o ∷ os) = ap (λ (cs : List Code). option_to_list o.at_callee ++ cs) (callee_meant tree os)

  pub call_meant : (tree : Ty → Tree) (os : List (RustCallOffer Ty))
      → flat_map (λ (o : CallOffer). o.at_call) (map (offer_called tree) os) ≡ found_at_call os
  call_meant tree [] = refl
  call_meant tree (o ∷ os) = ap (λ (cs : List Code). option_to_list o.at_call ++ cs) (call_meant tree os)

  -- one more member's codes, each code once
  pub callee_more : (before total : List Code) (os : List (RustCallOffer Ty)) (i : ℕ) (o : RustCallOffer Ty)
      → i < length os → o ≡ get_or os i o → once_onto before (found_at_callee (drop i os)) ≡ total
      → once_onto (once_onto before (option_to_list o.at_callee)) (found_at_callee (drop (i + 1) os)) ≡ total
  callee_more before total os i o less is inv = sym (onto_append before (option_to_list o.at_callee)
      (found_at_callee (drop (i + 1) os))) ∙ ap (λ (l : List (RustCallOffer Ty)). once_onto before (found_at_callee l))
      (sym (cons_at os i o less is)) ∙ inv

  pub callee_all : (before total : List Code) (os : List (RustCallOffer Ty)) (i : ℕ) → length os ≤ i
      → once_onto before (found_at_callee (drop i os)) ≡ total → before ≡ total
  callee_all before total os i h inv = ap (λ (l : List (RustCallOffer Ty)). once_onto before (found_at_callee l))
      (sym (drop_all i os h)) ∙ inv

  pub call_more : (before total : List Code) (os : List (RustCallOffer Ty)) (i : ℕ) (o : RustCallOffer Ty)
      → i < length os → o ≡ get_or os i o → once_onto before (found_at_call (drop i os)) ≡ total
      → once_onto (once_onto before (option_to_list o.at_call)) (found_at_call (drop (i + 1) os)) ≡ total
  call_more before total os i o less is inv = sym (onto_append before (option_to_list o.at_call)
      (found_at_call (drop (i + 1) os))) ∙ ap (λ (l : List (RustCallOffer Ty)). once_onto before (found_at_call l))
      (sym (cons_at os i o less is)) ∙ inv

  pub call_all : (before total : List Code) (os : List (RustCallOffer Ty)) (i : ℕ) → length os ≤ i
      → once_onto before (found_at_call (drop i os)) ≡ total → before ≡ total
  call_all before total os i h inv = ap (λ (l : List (RustCallOffer Ty)). once_onto before (found_at_call l))
      (sym (drop_all i os h)) ∙ inv

either : {A : Type 0} (P : A → Type 0) (b : Test) (x y : A) → P x → P y → P (if b then x else y)
either P true x y h k = h
either P false x y h k = k

onto_some : (c : Code) (bs xs : List Code) → has_none (once_onto (c ∷ bs) xs) ≡ false
onto_some c bs [] = refl
onto_some c bs (x ∷ xs) = either (λ (l : List Code). has_none (once_onto l xs) ≡ false) (has_code (c ∷ bs) x) (c ∷ bs)
    ((c ∷ bs) ++ x ∷ []) (onto_some c bs xs) (onto_some c (bs ++ x ∷ []) xs)

-- there is no code where each code once is none
pub none_once : (cs : List Code) → has_none (once cs) ≡ has_none cs
none_once [] = refl
none_once (c ∷ cs) = onto_some c [] cs

module _ {Ty : Type 0} where
  -- an error at one member is an error among them
  pub error_found : (tree : Ty → Tree) (os : List (RustCallOffer Ty)) (i : ℕ) (o : RustCallOffer Ty) → i < length os
      → o ≡ get_or os i o → any_error (drop i os) ≡ any_error os
      → (has_error (option_to_list o.at_callee) || has_error (option_to_list o.at_call)) ≡ true
      → true ≡ has_error (all_codes (map (offer_called tree) os))
  error_found tree os i o less is inv e = sym (error_more os i o less is ∙ rw e refl) ∙ inv ∙ sym (errors_meant tree os)

  pub error_not : (os : List (RustCallOffer Ty)) (i : ℕ) (o : RustCallOffer Ty) → i < length os → o ≡ get_or os i o
      → any_error (drop i os) ≡ any_error os
      → (has_error (option_to_list o.at_callee) || has_error (option_to_list o.at_call)) ≡ false
      → any_error (drop (i + 1) os) ≡ any_error os
  error_not os i o less is inv e = sym (error_more os i o less is ∙ rw e refl) ∙ inv

  pub error_end : (tree : Ty → Tree) (os : List (RustCallOffer Ty)) (i : ℕ) → length os ≤ i
      → any_error (drop i os) ≡ any_error os → false ≡ has_error (all_codes (map (offer_called tree) os))
  error_end tree os i h inv = sym (error_none os i h) ∙ inv ∙ sym (errors_meant tree os)

pub or_first : (a b : Test) → a ≡ true → (a || b) ≡ true
or_first true b e = refl
or_first false b e = cc

pub or_second : (a b : Test) → b ≡ true → (a || b) ≡ true
or_second true b e = refl
or_second false b e = e
