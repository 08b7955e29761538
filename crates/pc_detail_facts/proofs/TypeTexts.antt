-- The texts of types, part by part.
use Rattle.std.proofs.Common.{◌≡◌, ◌∙◌, ◌+◌, ◌<◌, ◌≤◌, ◌++◌, ◌∷◌, [], ℕ, zero, suc, List, ap, append_assoc, append-nil, get_or, subst, sym, take}
use Rattle.std.proofs.Common.{arith, codes, length}
use Rattle.std.proofs.lemmas.List.{take_all, take_more}
use Rattle.pc_tree.specs.Tree.{Module}
use Rattle.pc_types.specs.Shape.{nodes, nodes_of}
use Rattle.pc_types.specs.Boxed.{tree_of, trees_in}
use Rattle.pc_types.specs.declared.boxed.BoxType.{BoxType}
use Rattle.pc_annotations.specs.Text.{type_text, further_parts_text}
use Rattle.pc_detail_texts.specs.Shortened.{KeepsText}
use Rattle.pc_detail_texts.specs.declared.short_text.ShortText.{ShortText}

-- a text that has grown by several parts
pub grown_2 : (short : ShortText) (whole a b : List ℕ) → KeepsText short ((whole ++ a) ++ b) → KeepsText short (whole ++ (a ++ b))
grown_2 short whole a b h = subst (KeepsText short) (append_assoc whole a b) h

pub grown_3 : (short : ShortText) (whole a b c : List ℕ) → KeepsText short (((whole ++ a) ++ b) ++ c)
    → KeepsText short (whole ++ (a ++ (b ++ c)))
grown_3 short whole a b c h = grown_2 short whole a (b ++ c) (grown_2 short (whole ++ a) b c h)

pub grown_5 : (short : ShortText) (whole a b c d e : List ℕ) → KeepsText short (((((whole ++ a) ++ b) ++ c) ++ d) ++ e)
    → KeepsText short (whole ++ (a ++ (b ++ (c ++ (d ++ e)))))
grown_5 short whole a b c d e h =
    grown_2 short whole a (b ++ (c ++ (d ++ e))) (grown_2 short (whole ++ a) b (c ++ (d ++ e))
    (grown_3 short ((whole ++ a) ++ b) c d e h))

module _ (m : Module) where
  -- one further part
  further_more : (ts : List BoxType) (t : BoxType) → further_parts_text m (trees_in (ts ++ t ∷ []))
      ≡ further_parts_text m (trees_in ts) ++ (codes ", " ++ type_text m (tree_of t))
  further_more [] t = append-nil (codes ", " ++ type_text m (tree_of t))
  further_more (u ∷ ts) t =
      ap (λ l. codes ", " ++ (type_text m (tree_of u) ++ l)) (further_more ts t)
      ∙ ap (λ l. codes ", " ++ l) (sym (append_assoc (type_text m (tree_of u)) (further_parts_text m (trees_in ts))
      (codes ", " ++ type_text m (tree_of t))))

  pub further_next : (ts : List BoxType) (i : ℕ) (t : BoxType) → i < length ts → t ≡ get_or ts i t
      → further_parts_text m (trees_in (take i ts)) ++ (codes ", " ++ type_text m (tree_of t))
      ≡ further_parts_text m (trees_in (take (i + 1) ts))
  further_next ts i t h e = sym (ap (λ l. further_parts_text m (trees_in l))
      (take_more ts i t h ∙ ap (λ y. take i ts ++ y ∷ []) (sym e)) ∙ further_more (take i ts) t)

  -- a text that has grown by one further part
  pub further_grown : (short : ShortText) (whole : List ℕ) (ts : List BoxType) (i : ℕ) (t : BoxType) → i < length ts
      → t ≡ get_or ts i t
      → KeepsText short (((whole ++ further_parts_text m (trees_in (take i ts))) ++ codes ", ") ++ type_text m (tree_of t))
      → KeepsText short (whole ++ further_parts_text m (trees_in (take (i + 1) ts)))
  further_grown short whole ts i t less e h =
      subst (λ l. KeepsText short (whole ++ l)) (further_next ts i t less e)
      (grown_3 short whole (further_parts_text m (trees_in (take i ts))) (codes ", ") (type_text m (tree_of t)) h)

  -- a text that has grown by all further parts
  pub further_ended : (short : ShortText) (whole : List ℕ) (ts : List BoxType) (i : ℕ) → length ts ≤ i
      → KeepsText short (whole ++ further_parts_text m (trees_in (take i ts)))
      → KeepsText short (whole ++ further_parts_text m (trees_in ts))
  further_ended short whole ts i past h =
      subst (λ l. KeepsText short (whole ++ further_parts_text m (trees_in l))) (take_all i ts past) h

-- a part has no more nodes than all parts together
pub part_within : (ts : List BoxType) (i : ℕ) (t : BoxType) → i < length ts → t ≡ get_or ts i t
    → nodes (tree_of t) ≤ nodes_of (trees_in ts)
part_within [] i t h e = absurd (omega arith)
part_within (u ∷ ts) zero t h e = let same : nodes (tree_of t) ≡ nodes (tree_of u) = ap (λ x. nodes (tree_of x)) e in
    omega (arith, same)
part_within (u ∷ ts) (suc i) t h e = omega (arith, part_within ts i t (omega (arith, h)) e)
