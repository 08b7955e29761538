-- The texts of annotations, part by part.
use Rattle.std.proofs.Common.{◌≡◌, ◌∙◌, ◌+◌, ◌<◌, ◌≤◌, ◌++◌, ◌∷◌, [], ℕ, List, ap, append_assoc, append-nil, get_or, length}
use Rattle.std.proofs.Common.{Bool, false, refl, subst, sym, take}
use Rattle.std.proofs.lemmas.List.{take_all, take_more}
use Rattle.std.specs.Prelude.{if◌then◌else◌}
use Rattle.pc_tree.specs.Stopping.{has_none}
use Rattle.pc_tree.specs.declared.tree.Ann.{Ann as RustAnn}
use Rattle.pc_tree.specs.Tree.{ann_of}
use Rattle.pc_annotations.specs.Listed.{anns_of_list}
use Rattle.pc_detail_texts.specs.Shortened.{KeepsText}
use Rattle.pc_detail_texts.specs.declared.short_text.ShortText.{ShortText}
use Rattle.pc_detail_rules.specs.Written.{ann_text, anns_text, further_anns_text}
use Rattle.pc_detail_facts.proofs.TypeTexts.{grown_3}

module _ (separator : List ℕ) where
  -- further annotations, each after a separator
  abbrev further : List RustAnn → List ℕ
  further xs = further_anns_text separator (anns_of_list xs)

  -- one further annotation
  further_more : (xs : List RustAnn) (a : RustAnn)
      → further (xs ++ a ∷ []) ≡ further xs ++ (separator ++ ann_text (ann_of a))
  further_more [] a = ap (λ l. separator ++ l) (append-nil (ann_text (ann_of a)))
  further_more (x ∷ xs) a =
      ap (λ l. separator ++ (ann_text (ann_of x) ++ l)) (further_more xs a)
      ∙ ap (λ l. separator ++ l) (sym (append_assoc (ann_text (ann_of x)) (further xs) (separator ++ ann_text (ann_of a))))
      ∙ sym (append_assoc separator (ann_text (ann_of x) ++ further xs) (separator ++ ann_text (ann_of a)))

  -- annotations with the separator between them
  abbrev joined : List RustAnn → List ℕ
  joined xs = anns_text separator (anns_of_list xs)

  -- one annotation more
  joined_more : (xs : List RustAnn) (a : RustAnn) → joined (xs ++ a ∷ [])
      ≡ joined xs ++ ((if has_none xs then [] else separator) ++ ann_text (ann_of a))
  joined_more [] a = append-nil (ann_text (ann_of a))
  joined_more (x ∷ xs) a = ap (λ (l : List ℕ). ann_text (ann_of x) ++ l) (further_more xs a)
      ∙ sym (append_assoc (ann_text (ann_of x)) (further xs) (separator ++ ann_text (ann_of a)))

  next_taken : (xs : List RustAnn) (i : ℕ) (a : RustAnn) → i < length xs → a ≡ get_or xs i a
      → take (i + 1) xs ≡ take i xs ++ a ∷ []
  next_taken xs i a h e = take_more xs i a h ∙ ap (λ (y : RustAnn). take i xs ++ y ∷ []) (sym e)

  -- a text that has grown by one annotation more
  pub anns_grown : (short : ShortText) (whole : List ℕ) (xs : List RustAnn) (i : ℕ) (a : RustAnn) (is_first : Bool)
      → i < length xs → a ≡ get_or xs i a → is_first ≡ has_none (take i xs)
      → KeepsText short (((whole ++ joined (take i xs)) ++ (if is_first then [] else separator)) ++ ann_text (ann_of a))
      → KeepsText short (whole ++ joined (take (i + 1) xs))
  anns_grown short whole xs i a is_first less e first h = subst (λ (l : List ℕ). KeepsText short (whole ++ l))
      (ap (λ (b : Bool). joined (take i xs) ++ ((if b then [] else separator) ++ ann_text (ann_of a))) first
      ∙ sym (joined_more (take i xs) a) ∙ sym (ap joined (next_taken xs i a less e)))
      (grown_3 short whole (joined (take i xs)) (if is_first then [] else separator) (ann_text (ann_of a)) h)

  some_taken : (xs : List RustAnn) (a : RustAnn) → false ≡ has_none (xs ++ a ∷ [])
  some_taken [] a = refl
  some_taken (x ∷ xs) a = refl

  -- after the first there is something before
  pub not_first : (xs : List RustAnn) (i : ℕ) (a : RustAnn) → i < length xs → a ≡ get_or xs i a
      → false ≡ has_none (take (i + 1) xs)
  not_first xs i a h e = some_taken (take i xs) a ∙ sym (ap has_none (next_taken xs i a h e))

  -- a text that has grown by all annotations
  pub anns_ended : (short : ShortText) (whole : List ℕ) (xs : List RustAnn) (i : ℕ) → length xs ≤ i
      → KeepsText short (whole ++ joined (take i xs)) → KeepsText short (whole ++ joined xs)
  anns_ended short whole xs i past h =
      subst (λ (l : List RustAnn). KeepsText short (whole ++ joined l)) (take_all i xs past) h
