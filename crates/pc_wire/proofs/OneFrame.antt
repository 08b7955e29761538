-- Bytes have one framed message at their front, and are one list of framed messages.
use Rattle.std.proofs.Common.{◌≡◌, ℕ, ◌<◌, List, [], ◌∷◌, ◌++◌, length, take, sym, ap, ap₂, subst, ◌∙◌, inl, inr, false}
use Rattle.std.proofs.Common.{refl, append_assoc, length-append, ◌+◌, arith}
use Rattle.std.specs.Prelude.{Ok, Result}
use Rattle.std.specs.Result.{result_unwrap_or}
use Rattle.std.proofs.Math.Seq.{take-append_seam}
use Rattle.std.proofs.lemmas.Bool.{cases_order, true≢false}
use Rattle.std.proofs.lemmas.List.{take-append-le, append_cancel_left, nil_from_length}
use Rattle.pc_wire.specs.declared.fault.HeaderFault.{HeaderFault}
use Rattle.pc_wire.specs.Fields.{length_in}
use Rattle.pc_wire.specs.Frames.{IsHeader, IsFrame, AreFrames, ends_header}

-- a header is no proper front of another
no_front : (first other rest more : List ℕ) → first ++ rest ≡ other ++ more → IsHeader first → IsHeader other
    → length first < length other → ⊥
no_front first other rest more e f o lt =
    let front : take (length first) other ≡ first =
    sym (take-append-le (length first) other more (omega arith))
    ∙ (ap (λ (bs : List ℕ). take (length first) bs) (sym e) ∙ take-append_seam first rest) in
    let none : ends_header first ≡ false = subst (λ (bs : List ℕ). ends_header bs ≡ false) front
    (o.first (length first) lt) in
    true≢false (sym f.ended ∙ none)

-- fronts of the same bytes of the same length are the same
same_front : (first other rest more : List ℕ) → first ++ rest ≡ other ++ more → length first ≡ length other
    → first ≡ other
same_front first other rest more e same =
    sym (take-append_seam first rest) ∙ (ap₂ (λ (n : ℕ) (bs : List ℕ). take n bs) same e ∙ take-append_seam other more)

same_header : (first other rest more : List ℕ) → first ++ rest ≡ other ++ more → IsHeader first → IsHeader other
    → first ≡ other
same_header first other rest more e f o =
    elim (cases_order (length first) (length other)) [
      | inl same ↦ same_front first other rest more e same
      | inr unlike ↦ elim unlike [
        | inl lt ↦ absurd (no_front first other rest more e f o lt)
        | inr lt ↦ absurd (no_front other first more rest (sym e) o f lt)
      ]
    ]

-- the messages of two framed messages with one header have one length
same_length : (header message next : List ℕ) → length_in header ≡ Ok (length message)
    → length_in header ≡ Ok (length next)
    → length message ≡ length next
same_length header message next a b = ap (λ (r : Result ℕ HeaderFault). result_unwrap_or r 0) (sym a ∙ b)

pub one_frame_of : (first other rest more message next : List ℕ) → first ++ rest ≡ other ++ more → IsFrame first message
    → IsFrame other next → (first ≡ other) × (message ≡ next)
one_frame_of first other rest more message next e f o =
    let spelled : f.header ++ (message ++ rest) ≡ o.header ++ (next ++ more) =
    sym (append_assoc f.header message rest) ∙ (ap (λ (bs : List ℕ). bs ++ rest) (sym f.spelled)
    ∙ (e ∙ (ap (λ (bs : List ℕ). bs ++ more) o.spelled ∙ append_assoc o.header next more))) in
    let header : f.header ≡ o.header = same_header f.header o.header (message ++ rest) (next ++ more) spelled
    f.is_header o.is_header in
    let bodies : message ++ rest ≡ next ++ more =
    append_cancel_left o.header (message ++ rest) (next ++ more)
    (subst (λ (bs : List ℕ). bs ++ (message ++ rest) ≡ o.header ++ (next ++ more)) header spelled) in
    let named : length_in o.header ≡ Ok (length message) = subst (λ (bs : List ℕ). length_in bs ≡ Ok (length message))
    header f.named in
    let same : message ≡ next = same_front message next rest more bodies
    (same_length o.header message next named o.named) in
    (f.spelled ∙ (ap₂ (λ (bs : List ℕ) (cs : List ℕ). bs ++ cs) header same ∙ sym o.spelled), same)

-- a framed message is not empty
some_bytes : (bytes message rest : List ℕ) → IsFrame bytes message → [] ≡ bytes ++ rest → ⊥
some_bytes bytes message rest f e =
    let size : 0 ≡ length bytes + length rest = ap length e ∙ length-append bytes rest in
    let none : length bytes ≡ 0 = omega arith in
    let of_header : length f.header + length message ≡ 0 = sym (length-append f.header message)
    ∙ (ap length (sym f.spelled) ∙ none) in
    let no_header : length f.header ≡ 0 = omega arith in
    let ended : ends_header f.header ≡ false = ap ends_header (nil_from_length f.header no_header) in
    true≢false (sym f.is_header.ended ∙ ended)

pub one_list_of : (bytes : List ℕ) (messages others : List (List ℕ)) → AreFrames bytes messages → AreFrames bytes others
    → messages ≡ others
one_list_of bytes [] [] a b = refl
one_list_of bytes [] (next ∷ others) a b = absurd (some_bytes b.0 next b.1 b.3 (sym a ∙ b.2))
one_list_of bytes (message ∷ messages) [] a b = absurd (some_bytes a.0 message a.1 a.3 (sym b ∙ a.2))
one_list_of bytes (message ∷ messages) (next ∷ others) a b =
    let e : a.0 ++ a.1 ≡ b.0 ++ b.1 = sym a.2 ∙ b.2 in
    let same = one_frame_of a.0 b.0 a.1 b.1 message next e a.3 b.3 in
    let rest : a.1 ≡ b.1 = append_cancel_left b.0 a.1 b.1 (subst (λ (bs : List ℕ). bs ++ a.1 ≡ b.0 ++ b.1) same.0 e) in
    let later : AreFrames b.1 messages = subst (λ (bs : List ℕ). AreFrames bs messages) rest a.4 in
    ap₂ (λ (m : List ℕ) (ms : List (List ℕ)). m ∷ ms) same.1 (one_list_of b.1 messages others later b.4)
